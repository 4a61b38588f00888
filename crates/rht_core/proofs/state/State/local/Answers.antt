use Rattle.std.proofs.Common.{◌<◌, ◌≤◌, ap, ◌∙◌, arith, subst, sym}
use Rattle.rht_callers.specs.Locals.{is_idle}
use Rattle.rht_core.specs.Runs.{Core, local_of}
use Rattle.rht_core.proofs.Events.ReachedStates.{place-reached, read-reached, idle-reached}
use Rattle.rht_core.proofs.state.State.local.Goals as goal

pub index-requires : goal.index-requires
index-requires g c =
    let low = subst (λ (core : Core g.row.M.Denot). c.args.caller < core.env.geometry.callers)
    (sym c.self.view_is) c.requires in
    omega (
      arith,
      place-reached g.row.M.Denot g.M.Mix.mix_of _ c.args.caller c.self.invariant low,
      c.self.inside.locals.ok,
    )

pub returns-clause-local : goal.returns-clause-local
returns-clause-local g c =
    let low = subst (λ (core : Core g.row.M.Denot). c.args.caller < core.env.geometry.callers)
    (sym c.self.view_is) c.requires in
    read-reached g.row.M.Denot g.M.Mix.mix_of _ c.args.caller c.index.result.now c.self.invariant low
    c.index.ensures
    ∙ ap (λ (core : Core g.row.M.Denot). local_of core c.args.caller) c.self.view_is

pub returns-clause-idle : goal.returns-clause-idle
returns-clause-idle g c past =
    let fewer = subst (λ (core : Core g.row.M.Denot). core.enrolled ≤ c.args.caller) (sym c.self.view_is)
    past in
    let idle = idle-reached g.row.M.Denot g.M.Mix.mix_of _ c.args.caller c.self.invariant fewer in
    let same = returns-clause-local g c in
    ap is_idle (same ∙ ap (λ (core : Core g.row.M.Denot). local_of core c.args.caller)
    (sym c.self.view_is)) ∙ idle
