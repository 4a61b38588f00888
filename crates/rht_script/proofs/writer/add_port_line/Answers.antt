use Rattle.std.proofs.Common.{codes}
use Rattle.rht_script.specs.Text.{owners_text}
use Rattle.rht_script.specs.PortWords.{port_text}
use Rattle.rht_script.proofs.AddedPieces.{Adds-then, Adds-longer, Adds-passed_on}
use Rattle.rht_script.proofs.writer.add_port_line.Goals as goal

pub returns-in_err-add-clause-text : goal.returns-in_err-add-clause-text
returns-in_err-add-clause-text g c =
    Adds-passed_on (Adds-longer (codes "\n") (Adds-longer (owners_text c.args.owners.now) (Adds-longer (codes ":")
    (Adds-longer (port_text c.args.port) c.in_err-add.ensures.text))))
    c.from_residual.ensures.0

pub returns-in_err-add_port-clause-text : goal.returns-in_err-add_port-clause-text
returns-in_err-add_port-clause-text g c =
    let port = Adds-then c.in_ok-add.ensures.text c.in_err-add_port.ensures.text in
    Adds-passed_on (Adds-longer (codes "\n") (Adds-longer (owners_text c.args.owners.now) (Adds-longer (codes ":") port)))
    c.from_residual-in_err-add_port.ensures.0

pub returns-in_err-add-2-clause-text : goal.returns-in_err-add-2-clause-text
returns-in_err-add-2-clause-text g c =
    let port = Adds-then c.in_ok-add.ensures.text c.in_ok-add_port.ensures.text in
    Adds-passed_on (Adds-longer (codes "\n") (Adds-longer (owners_text c.args.owners.now) (Adds-then port c.in_err-add-2.ensures.text)))
    c.from_residual-in_err-add-2.ensures.0

pub returns-in_err-add_owners-clause-text : goal.returns-in_err-add_owners-clause-text
returns-in_err-add_owners-clause-text g c =
    let port = Adds-then c.in_ok-add.ensures.text c.in_ok-add_port.ensures.text in
    Adds-passed_on (Adds-longer (codes "\n") (Adds-then (Adds-then port c.in_ok-add-2.ensures.text)
    c.in_err-add_owners.ensures.text))
    c.from_residual-in_err-add_owners.ensures.0

pub returns-clause-text : goal.returns-clause-text
returns-clause-text g c =
    let port = Adds-then c.in_ok-add.ensures.text c.in_ok-add_port.ensures.text in
    Adds-then (Adds-then (Adds-then port c.in_ok-add-2.ensures.text) c.in_ok-add_owners.ensures.text)
    c.end_line.ensures.text
