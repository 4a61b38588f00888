use Rattle.rht_script.proofs.AddedPieces.{Adds-then, Adds-same, Adds-longer, Adds-passed_on}
use Rattle.std.proofs.Common.{ap, codes, decimal}
use Rattle.rht_script.specs.PortWords.{port_text}
use Rattle.rht_script.proofs.writer.pieces.Writer.add_pair.Goals as goal

pub returns-in_err-add-clause-text : goal.returns-in_err-add-clause-text
returns-in_err-add-clause-text g c =
    let pair = c.args.pair in
    Adds-passed_on (Adds-longer (decimal pair.1) (Adds-longer (codes "=") (Adds-longer (port_text pair.0)
    c.in_err-add.ensures.text)))
    c.from_residual.ensures.0

pub returns-in_err-add_port-clause-text : goal.returns-in_err-add_port-clause-text
returns-in_err-add_port-clause-text g c =
    let port = Adds-then c.in_ok-add.ensures.text c.in_err-add_port.ensures.text in
    Adds-passed_on (Adds-longer (decimal c.args.pair.1) (Adds-longer (codes "=") port)) c.from_residual-in_err-add_port.ensures.0

pub returns-in_err-add-2-clause-text : goal.returns-in_err-add-2-clause-text
returns-in_err-add-2-clause-text g c =
    let port = Adds-then c.in_ok-add.ensures.text c.in_ok-add_port.ensures.text in
    Adds-passed_on (Adds-longer (decimal c.args.pair.1) (Adds-then port c.in_err-add-2.ensures.text))
    c.from_residual-in_err-add-2.ensures.0

pub returns-clause-text : goal.returns-clause-text
returns-clause-text g c =
    let port = Adds-then c.in_ok-add.ensures.text c.in_ok-add_port.ensures.text in
    let owner = Adds-same c.add_number.ensures.text (ap decimal c.into.ensures) in
    Adds-then (Adds-then port c.in_ok-add-2.ensures.text) owner
