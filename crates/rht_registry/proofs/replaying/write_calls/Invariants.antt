use Rattle.std.proofs.Common.{◌-◌}
use Rattle.std.specs.List.{flat_map, range_with_len}
use Rattle.rht_registry.specs.Replays.{callers_of, open_text}
use Rattle.rht_registry.proofs.PlayedParts.{StillToPlay}
use Rattle.rht_registry.proofs.replaying.write_calls.Given as goal

-- the lines so far were put
abbrev pub invariant-loop-caller : goal.invariant-loop-caller
invariant-loop-caller g l =
    StillToPlay g.O.Sink.held g.O.Sink.faults {A = Unit {0}} l.initial.out l.out
    (tt, flat_map (open_text l.state) (callers_of l.state))
    (tt, flat_map (open_text l.state) (range_with_len l.caller (l.callers - l.caller)))
