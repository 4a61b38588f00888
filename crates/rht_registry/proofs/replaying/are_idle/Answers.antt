use Rattle.std.proofs.Common.{ℕ, ◌+◌, ◌-◌, sym, ◌∙◌, ap}
use Rattle.std.specs.Prelude.{Bool, ◌&&◌}
use Rattle.std.specs.List.{list_all, range_with_len}
use Rattle.rht_core.specs.Locals.{is_idle}
use Rattle.rht_core.specs.Runs.{local_of}
use Rattle.rht_callers.specs.declared.local.Local.{Local}
use Rattle.rht_registry.proofs.PlayedParts.{range-next}
use Rattle.rht_registry.proofs.replaying.are_idle.Goals as goal

pub loop-caller-preserved : goal.loop-caller-preserved
loop-caller-preserved g c =
    let caller = c.loop-caller.caller in
    let test : ℕ → Bool = λ k. is_idle (local_of c.args.state.now k) in
    let rest = range_with_len (caller + 1) (c.args.callers - (caller + 1)) in
    let idle = ap (λ (l : Local g.row.M.Denot). is_idle l) (sym c.local.ensures.local) ∙ sym c.is_idle.ensures ∙ c.if-not-is_idle.false in
    c.loop-caller.invariant ∙ ap (list_all test) (range-next caller c.args.callers c.loop-caller-test.true)
    ∙ ap (λ t. t && list_all test rest) idle
