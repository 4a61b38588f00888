use Rattle.std.proofs.Common.{rules}
use Rattle.rht_script.proofs.AddedPieces.{Puts-of_put, Puts-of_failed_adds, Puts-between}
use Rattle.rht_script.proofs.writer.write_done.Goals as goal

pub returns-in_err-add_done : goal.returns-in_err-add_done
returns-in_err-add_done g c =
    Puts-between c.new-text.ensures.unchanged (search rules)
    (Puts-of_failed_adds c.in_err-add_done.ensures.text c.new-text.ensures.none c.from_residual.ensures.0)

pub returns : goal.returns
returns g c =
    Puts-between c.new-text.ensures.unchanged (search rules)
    (Puts-of_put c.in_ok-add_done.ensures.text c.put.ensures.text c.new-text.ensures.none c.put.ensures.none)
