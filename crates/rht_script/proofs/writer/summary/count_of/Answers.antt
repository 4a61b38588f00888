use Rattle.std.proofs.Common.{◌≡◌, ℕ, ◌<◌, cond, length, true, false, sym, ap, ◌∙◌, arith}
use Rattle.rht_script.specs.SummaryText.{is_of}
use Rattle.rht_script.proofs.Summaries.{count_of-more}
use Rattle.rht_script.proofs.writer.summary.count_of.Goals.{then-has, else-has}
use Rattle.rht_script.proofs.writer.summary.count_of.Goals as goal

pub loop-i-preserved : goal.loop-i-preserved
loop-i-preserved c =
    let within : c.loop-i.i < length c.args.replies.now = omega arith in
    let more = count_of-more c.args.sort c.args.replies.now c.loop-i.i c.reply.result within c.reply.ensures in
    elim c.if-has.branch [
      | then-has w ↦
          let is : is_of c.args.sort c.reply.result ≡ true = sym c.has.ensures ∙ w.if-has.true in
          let one = ap {B = ℕ} (λ b. cond b 1 0) is in
          record {
            count = omega (arith, more, one, w.count-is, c.loop-i.invariant.count);
            few = omega (arith, w.count-is, c.loop-i.invariant.few);
          }
      | else-has w ↦
          let is : is_of c.args.sort c.reply.result ≡ false = sym c.has.ensures ∙ w.if-has.false in
          let none = ap {B = ℕ} (λ b. cond b 1 0) is in
          record {
            count = omega (arith, more, none, w.count-is, c.loop-i.invariant.count);
            few = omega (arith, w.count-is, c.loop-i.invariant.few);
          }
    ]
