use Rattle.std.proofs.Common.{◌*◌, ◌≤◌}
use Rattle.rht_bench.specs.Ready.{IsReady}
use Rattle.rht_bench.proofs.loops.rounds.Given as goal

-- no more than two calls for each port and one more were right in each round so far
abbrev pub invariant-loop-round : goal.invariant-loop-round
invariant-loop-round g l = IsReady g.M.Mix.mix_of l.table l.pass × (l.right ≤ 131073 * l._round)
