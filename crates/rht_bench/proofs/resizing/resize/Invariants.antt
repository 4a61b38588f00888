use Rattle.std.proofs.Common.{◌*◌, ◌≤◌}
use Rattle.rht_bench.specs.Ready.{IsReady}
use Rattle.rht_bench.proofs.resizing.resize.Given as goal

-- so many ports are bound at most, and in a turn 128 works at most are counted
abbrev pub invariant-loop-turn : goal.invariant-loop-turn
invariant-loop-turn g l = IsReady g.M.Mix.mix_of l.table l.pass × (l.bound ≤ l.ports.count) × (l.moved ≤ 128 * l.turn)
