use Rattle.std.proofs.Common.{◌≡◌, drop}
use Rattle.rht_core.specs.Serving.{calls_of}
use Rattle.rht_registry.proofs.replaying.player.place_of_next.Given as goal

-- the commands so far are none of the worker's
abbrev pub invariant-loop-place : goal.invariant-loop-place
invariant-loop-place l = calls_of l.worker (drop l.from l.commands) ≡ calls_of l.worker (drop l.place l.commands)
