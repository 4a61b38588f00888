use Rattle.std.proofs.Common.{◌<◌, ◌∙◌, length, arith}
use Rattle.rht_script.proofs.AddedPieces.{Adds-same}
use Rattle.rht_script.proofs.AddedLists.{Adds-item, Adds-item_failed}
use Rattle.rht_resume.specs.Text.{answer_line}
use Rattle.rht_resume.proofs.AnswerLines.{answer_at}
use Rattle.rht_resume.proofs.writer.add_answers.Goals as goal

pub returns-in_err-add_answer-clause-text : goal.returns-in_err-add_answer-clause-text
returns-in_err-add_answer-clause-text g c =
    let answers = c.args.answers.now in
    let within : c.loop-i.i < length answers = omega arith in
    let line = answer_at c.args.worker answers c.loop-i.i c.reply.result c.owners.result.now c.pairs.result.now within c.reply.ensures
    c.owners.ensures c.pairs.ensures in
    Adds-item_failed (answer_line c.args.worker) answers c.loop-i.i line.answer line.here
    c.loop-i.invariant.text (Adds-same c.in_err-add_answer.ensures.text line.same) c.from_residual.ensures.0

pub loop-i-preserved : goal.loop-i-preserved
loop-i-preserved g c =
    let answers = c.args.answers.now in
    let within : c.loop-i.i < length answers = omega arith in
    let line = answer_at c.args.worker answers c.loop-i.i c.reply.result c.owners.result.now c.pairs.result.now within c.reply.ensures
    c.owners.ensures c.pairs.ensures in
    record {
      text = Adds-item (answer_line c.args.worker) answers c.loop-i.i line.answer line.here
          c.loop-i.invariant.text (Adds-same c.in_ok-add_answer.ensures.text line.same);
      same_sink = c.in_ok-add_answer.ensures.same_sink ∙ c.loop-i.invariant.same_sink;
    }
