use Rattle.std.proofs.Common.{◌∙◌, sym, ap, subst, arith}
use Rattle.rht_words.specs.declared.env.Env.{Env}
use Rattle.rht_bind.specs.Bind.{BindModel, IsBindAtIn}
use Rattle.rht_run.proofs.Rides.{riding_few}
use Rattle.rht_run.proofs.table.Table.binding_at.Goals as goal

pub new-requires : goal.new-requires
new-requires g c =
    omega (arith, c.requires.riding.in_range.same_caller, riding_few g.M.Mix.mix_of c.args.self.now g.K.Ride.riding _ c.args.seat.now c.requires.riding)

pub with-bind-requires : goal.with-bind-requires
with-bind-requires g c =
    let is = c.requires.riding.in_range in
    subst (λ (env : Env). IsBindAtIn env c.args.at) (sym is.same_env ∙ sym (ap (λ (m : BindModel). m.env) c.new.ensures)) is.at_in
