use Rattle.std.proofs.Common.{◌≡◌, ◌++◌, ◌%◌, ◌==◌}
use Rattle.std.specs.List.{flat_map, range_with_len}
use Rattle.rht_script.specs.Generated.{round_commands, round_port}
use Rattle.rht_script.proofs.generator.add_worker.Given as goal

-- the commands of the rounds so far were added
abbrev pub invariant-loop-round : goal.invariant-loop-round
invariant-loop-round l =
    l.commands.items ≡ l.initial.commands.items ++ flat_map
    (λ round. round_commands l.worker (round_port l.offset l.worker round) (round % 2 == 0))
    (range_with_len 0 l.round)
