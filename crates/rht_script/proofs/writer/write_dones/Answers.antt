use Rattle.std.proofs.Common.{rules}
use Rattle.rht_script.specs.Text.{closed_text}
use Rattle.rht_script.proofs.AddedPieces.{Adds-then, Adds-longer, Puts-of_put, Puts-of_failed_adds, Puts-between}
use Rattle.rht_script.proofs.writer.write_dones.Goals as goal

pub returns-in_err-add_dones : goal.returns-in_err-add_dones
returns-in_err-add_dones g c =
    let text = Adds-longer (closed_text c.args.closed.now) c.in_err-add_dones.ensures.text in
    Puts-between c.new-text.ensures.unchanged (search rules)
    (Puts-of_failed_adds text c.new-text.ensures.none c.from_residual.ensures.0)

pub returns-in_err-add_closed : goal.returns-in_err-add_closed
returns-in_err-add_closed g c =
    let text = Adds-then c.in_ok-add_dones.ensures.text c.in_err-add_closed.ensures.text in
    Puts-between c.new-text.ensures.unchanged (search rules)
    (Puts-of_failed_adds text c.new-text.ensures.none c.from_residual-in_err-add_closed.ensures.0)

pub returns : goal.returns
returns g c =
    let text = Adds-then c.in_ok-add_dones.ensures.text c.in_ok-add_closed.ensures.text in
    Puts-between c.new-text.ensures.unchanged (search rules)
    (Puts-of_put text c.put.ensures.text c.new-text.ensures.none c.put.ensures.none)
