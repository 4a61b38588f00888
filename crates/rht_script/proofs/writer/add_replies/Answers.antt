use Rattle.std.proofs.Common.{◌<◌, ◌∙◌, length, arith}
use Rattle.rht_script.specs.Text.{ending_line}
use Rattle.rht_script.proofs.AddedPieces.{Adds-same}
use Rattle.rht_script.proofs.AddedLists.{Adds-item, Adds-item_failed}
use Rattle.rht_script.proofs.WorkerLines.{line_at}
use Rattle.rht_script.proofs.writer.add_replies.Goals as goal

pub returns-in_err-add_reply-clause-text : goal.returns-in_err-add_reply-clause-text
returns-in_err-add_reply-clause-text g c =
    let replies = c.args.replies.now in
    let within : c.loop-i.i < length replies = omega arith in
    let line = line_at c.args.worker replies c.loop-i.i c.reply.result c.owners.result.now
    c.pairs.result.now within
    c.reply.ensures c.owners.ensures c.pairs.ensures in
    Adds-item_failed (ending_line c.args.worker) replies c.loop-i.i line.ending line.here
    c.loop-i.invariant.text (Adds-same c.in_err-add_reply.ensures.text line.same) c.from_residual.ensures.0

pub loop-i-preserved : goal.loop-i-preserved
loop-i-preserved g c =
    let replies = c.args.replies.now in
    let within : c.loop-i.i < length replies = omega arith in
    let line = line_at c.args.worker replies c.loop-i.i c.reply.result c.owners.result.now
    c.pairs.result.now within
    c.reply.ensures c.owners.ensures c.pairs.ensures in
    record {
      text = Adds-item (ending_line c.args.worker) replies c.loop-i.i line.ending line.here
          c.loop-i.invariant.text (Adds-same c.in_ok-add_reply.ensures.text line.same);
      same_sink = c.in_ok-add_reply.ensures.same_sink ∙ c.loop-i.invariant.same_sink;
    }
