use Rattle.std.proofs.Common.{◌<◌, ◌∙◌, ◌≤◌, length, arith}
use Rattle.std.specs.List.{enumerate_from}
use Rattle.rht_script.proofs.AddedPieces.{Adds-same}
use Rattle.rht_script.proofs.AddedLists.{Adds-item, Adds-item_failed}
use Rattle.rht_resume.specs.Text.{worker_text}
use Rattle.rht_resume.proofs.AnswerLines.{worker_at, all_workers}
use Rattle.rht_resume.proofs.writer.add_workers.Goals as goal

pub returns-in_err-add_answers-clause-text : goal.returns-in_err-add_answers-clause-text
returns-in_err-add_answers-clause-text g c =
    let workers = c.args.workers.now in
    let within : c.loop-i.i < length workers = omega arith in
    let here = worker_at workers c.loop-i.i c.index-workers-i.result within c.index-workers-i.is in
    Adds-item_failed worker_text (enumerate_from 1 workers) c.loop-i.i _ here
    c.loop-i.invariant.text c.in_err-add_answers.ensures.text c.from_residual.ensures.0

pub loop-i-preserved : goal.loop-i-preserved
loop-i-preserved g c =
    let workers = c.args.workers.now in
    let within : c.loop-i.i < length workers = omega arith in
    let here = worker_at workers c.loop-i.i c.index-workers-i.result within c.index-workers-i.is in
    record {
      text = Adds-item worker_text (enumerate_from 1 workers) c.loop-i.i _ here
          c.loop-i.invariant.text c.in_ok-add_answers.ensures.text;
      same_sink = c.in_ok-add_answers.ensures.same_sink ∙ c.loop-i.invariant.same_sink;
    }

pub returns-clause-text : goal.returns-clause-text
returns-clause-text g c =
    let all : length c.args.workers.now ≤ c.loop-i.i = omega arith in
    Adds-same c.loop-i.invariant.text (all_workers c.args.workers.now c.loop-i.i all)
