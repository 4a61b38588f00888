use Rattle.std.proofs.Common.{◌≡◌, ◌%◌}
use Rattle.std.specs.List.{flat_map, range_with_len}
use Rattle.rht_script.specs.Generated.{worker_commands}
use Rattle.rht_script.proofs.generator.generated.Given as goal

-- the commands of the workers so far were added
abbrev pub invariant-loop-i : goal.invariant-loop-i
invariant-loop-i l =
    l.commands.items ≡ flat_map (worker_commands (l.number % 1000)) (range_with_len 1 l.i)
