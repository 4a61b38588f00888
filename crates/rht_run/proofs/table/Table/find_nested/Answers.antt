use Rattle.std.proofs.Common.{◌∙◌, sym, ap, subst, arith, None}
use Rattle.rht_model.specs.declared.history.Call.{Call}
use Rattle.rht_model.specs.declared.history.Reply.{Reply}
use Rattle.rht_core.specs.Replies.{IsReplyTo}
use Rattle.rht_run.specs.Rides.{HasEnded, looked_up}
use Rattle.rht_run.proofs.CallSteps.{drive_answered, looked_up-owner_in}
use Rattle.rht_run.proofs.Rides.{riding_few}
use Rattle.rht_run.proofs.table.Table.find_nested.Goals as goal

pub new-find-requires : goal.new-find-requires
new-find-requires g c =
    omega (arith, c.requires.riding.in_range.same_caller, riding_few g.M.Mix.mix_of c.args.self.now g.K.Ride.riding _ c.args.seat.now c.requires.riding)

-- the machine has ended with a reply of a look-up
pub returns : goal.returns
returns g c =
    let ended = c.find_on.ensures in
    let is = drive_answered g.M.Mix.mix_of c.args.self.now g.K.Ride.riding c.find_on.result None c.find_on.new.seat ended in
    subst (λ (reply : Reply). HasEnded g.M.Mix.mix_of c.args.self.now g.K.Ride.riding reply c.find_on.new.seat)
    (sym (looked_up-owner_in c.find_on.result (subst (λ (call : Call). IsReplyTo call c.find_on.result) c.requires.call is.reply))
    ∙ sym (ap looked_up c.owner_in.ensures)) ended
