use Rattle.std.proofs.Common.{ap, codes, decimal, ◌∙◌}
use Rattle.rht_script.proofs.AddedPieces.{Adds-then, Adds-same, Adds-longer, Adds-passed_on}
use Rattle.rht_script.proofs.PortTexts.{port_text-plain, port_text-net}
use Rattle.rht_script.proofs.writer.pieces.Writer.add_port.Goals as goal

pub returns-then-port-eq0-clause-text : goal.returns-then-port-eq0-clause-text
returns-then-port-eq0-clause-text g c =
    let port = c.port.inside in
    let text = port_text-plain c.args.port port.net port.number c.port.view_is c.port.invariant.1 c.if-port-eq0.true in
    Adds-same c.add_number.ensures.text (ap decimal c.into.ensures ∙ text)

pub returns-in_err-add_number-clause-text : goal.returns-in_err-add_number-clause-text
returns-in_err-add_number-clause-text g c =
    let port = c.port.inside in
    let text = port_text-net c.args.port port.net port.number c.port.view_is c.port.invariant.1 c.if-port-eq0.false in
    let net = Adds-same c.in_err-add_number.ensures.text (ap decimal c.into-2.ensures) in
    Adds-passed_on (Adds-same (Adds-longer (decimal port.number) (Adds-longer (codes ".") net)) text)
    c.from_residual.ensures.0

pub returns-in_err-add-clause-text : goal.returns-in_err-add-clause-text
returns-in_err-add-clause-text g c =
    let port = c.port.inside in
    let text = port_text-net c.args.port port.net port.number c.port.view_is c.port.invariant.1 c.if-port-eq0.false in
    let net = Adds-same c.in_ok-add_number.ensures.text (ap decimal c.into-2.ensures) in
    Adds-passed_on (Adds-same (Adds-longer (decimal port.number) (Adds-then net c.in_err-add.ensures.text)) text)
    c.from_residual-in_err-add.ensures.0

pub returns-clause-text : goal.returns-clause-text
returns-clause-text g c =
    let port = c.port.inside in
    let text = port_text-net c.args.port port.net port.number c.port.view_is c.port.invariant.1 c.if-port-eq0.false in
    let net = Adds-same c.in_ok-add_number.ensures.text (ap decimal c.into-2.ensures) in
    let number = Adds-same c.add_number-3.ensures.text (ap decimal c.into-3.ensures) in
    Adds-same (Adds-then (Adds-then net c.in_ok-add.ensures.text) number) text
