use Rattle.std.proofs.Common.{◌∙◌, sym, ap, subst, arith}
use Rattle.rht_words.specs.declared.env.Env.{Env}
use Rattle.rht_release.specs.Release.{ReleaseModel, IsReleaseAtIn}
use Rattle.rht_run.proofs.Rides.{riding_few}
use Rattle.rht_run.proofs.table.Table.releasing_at.Goals as goal

pub new-requires : goal.new-requires
new-requires g c =
    omega (arith, c.requires.riding.in_range.same_caller, riding_few g.M.Mix.mix_of c.args.self.now g.K.Ride.riding _ c.args.seat.now c.requires.riding)

pub with-release-requires : goal.with-release-requires
with-release-requires g c =
    let is = c.requires.riding.in_range in
    subst (λ (env : Env). IsReleaseAtIn env c.args.at) (sym is.same_env ∙ sym (ap (λ (m : ReleaseModel). m.env) c.new.ensures)) is.at_in
