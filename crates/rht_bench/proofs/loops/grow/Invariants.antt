use Rattle.rht_bench.specs.Ready.{IsReady}
use Rattle.rht_bench.proofs.loops.grow.Given as goal

-- the pass is in no call
abbrev pub invariant-loop : goal.invariant-loop
invariant-loop g l = (goal.iterator-loop g).can_next l.iterator' × (goal.iterator-loop g).is_finite l.iterator' × IsReady g.M.Mix.mix_of l.table l.pass
