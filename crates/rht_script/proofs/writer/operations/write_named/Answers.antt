use Rattle.std.proofs.Common.{rules, ap}
use Rattle.rht_script.specs.Text.{named}
use Rattle.rht_script.proofs.AddedPieces.{Adds-then, Adds-same, Adds-longer, Puts-of_put, Puts-of_failed_adds, Puts-between}
use Rattle.rht_script.proofs.writer.operations.write_named.Goals as goal

pub returns-in_err-add_named : goal.returns-in_err-add_named
returns-in_err-add_named g c =
    let number = Adds-same c.in_err-add_named.ensures.text (ap (named c.args.name.now) c.into.ensures) in
    Puts-between c.new-text.ensures.unchanged (search rules)
    (Puts-of_failed_adds (Adds-longer _ number) c.new-text.ensures.none c.from_residual.ensures.0)

pub returns-in_err-end_line : goal.returns-in_err-end_line
returns-in_err-end_line g c =
    let number = Adds-same c.in_ok-add_named.ensures.text (ap (named c.args.name.now) c.into.ensures) in
    Puts-between c.new-text.ensures.unchanged (search rules)
    (Puts-of_failed_adds (Adds-then number c.in_err-end_line.ensures.text) c.new-text.ensures.none
    c.from_residual-in_err-end_line.ensures.0)

pub returns : goal.returns
returns g c =
    let number = Adds-same c.in_ok-add_named.ensures.text (ap (named c.args.name.now) c.into.ensures) in
    Puts-between c.new-text.ensures.unchanged (search rules)
    (Puts-of_put (Adds-then number c.in_ok-end_line.ensures.text) c.put.ensures.text c.new-text.ensures.none
    c.put.ensures.none)
