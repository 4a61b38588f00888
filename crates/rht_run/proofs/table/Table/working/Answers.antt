use Rattle.std.proofs.Common.{◌∙◌, sym, ap, subst, arith}
use Rattle.rht_words.specs.declared.env.Env.{Env}
use Rattle.rht_move.specs.Work.{WorkModel, IsWorkAtIn}
use Rattle.rht_run.proofs.Rides.{riding_few}
use Rattle.rht_run.proofs.table.Table.working.Goals as goal

pub new-requires : goal.new-requires
new-requires g c =
    omega (arith, c.requires.in_range.same_caller, riding_few g.M.Mix.mix_of c.args.self.now g.K.Ride.riding _ c.args.seat.now c.requires)

pub with-work-requires : goal.with-work-requires
with-work-requires g c =
    let is = c.requires.in_range in
    subst (λ (env : Env). IsWorkAtIn env c.args.at) (sym is.same_env ∙ sym (ap (λ (m : WorkModel). m.env) c.new.ensures)) is.at_in
