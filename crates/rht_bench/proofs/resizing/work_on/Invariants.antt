use Rattle.std.proofs.Common.{◌≤◌}
use Rattle.rht_bench.specs.Ready.{IsReady}
use Rattle.rht_bench.proofs.resizing.work_on.Given as goal

-- no more works were counted than were made
abbrev pub invariant-loop-work : goal.invariant-loop-work
invariant-loop-work g l = IsReady g.M.Mix.mix_of l.table l.pass × (l.moved ≤ l._work)
