use Rattle.std.proofs.Common.{◌≡◌, ◌-◌}
use Rattle.std.specs.List.{list_all, range_with_len}
use Rattle.rht_core.specs.Locals.{is_idle}
use Rattle.rht_core.specs.Runs.{local_of}
use Rattle.rht_registry.specs.Replays.{callers_of}
use Rattle.rht_registry.proofs.replaying.are_idle.Given as goal

-- so far all are
abbrev pub invariant-loop-caller : goal.invariant-loop-caller
invariant-loop-caller g l =
    list_all (λ c. is_idle (local_of l.state c)) (callers_of l.state)
    ≡ list_all (λ c. is_idle (local_of l.state c)) (range_with_len l.caller (l.callers - l.caller))
