use Rattle.std.proofs.Common.{◌++◌, ap, rules}
use Rattle.std.specs.List.{flat_map, enumerate_from}
use Rattle.rht_script.specs.Text.{closed_text}
use Rattle.rht_script.proofs.AddedPieces.{Adds-then, Adds-same, Adds-longer, Puts-of_put, Puts-of_failed_adds, Puts-between}
use Rattle.rht_resume.specs.Text.{worker_text}
use Rattle.rht_resume.proofs.writer.write_resumed.Goals as goal

pub returns-in_err-add_workers : goal.returns-in_err-add_workers
returns-in_err-add_workers g c =
    let closed = closed_text c.args.outcome.now.closed in
    let text = Adds-same (Adds-longer closed c.in_err-add_workers.ensures.text)
    (ap (λ own. flat_map worker_text (enumerate_from 1 own) ++ closed) c.deref.ensures.value) in
    Puts-between c.new-text.ensures.unchanged (search rules)
    (Puts-of_failed_adds text c.new-text.ensures.none c.from_residual.ensures.0)

pub returns-in_err-add_closed : goal.returns-in_err-add_closed
returns-in_err-add_closed g c =
    let closed = closed_text c.args.outcome.now.closed in
    let text = Adds-same (Adds-then c.in_ok-add_workers.ensures.text c.in_err-add_closed.ensures.text)
    (ap (λ own. flat_map worker_text (enumerate_from 1 own) ++ closed) c.deref.ensures.value) in
    Puts-between c.new-text.ensures.unchanged (search rules)
    (Puts-of_failed_adds text c.new-text.ensures.none c.from_residual-in_err-add_closed.ensures.0)

pub returns : goal.returns
returns g c =
    let closed = closed_text c.args.outcome.now.closed in
    let text = Adds-same (Adds-then c.in_ok-add_workers.ensures.text c.in_ok-add_closed.ensures.text)
    (ap (λ own. flat_map worker_text (enumerate_from 1 own) ++ closed) c.deref.ensures.value) in
    Puts-between c.new-text.ensures.unchanged (search rules)
    (Puts-of_put text c.put.ensures.text c.new-text.ensures.none c.put.ensures.none)
