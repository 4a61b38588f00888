use Rattle.std.proofs.Common.{ℕ}
use Rattle.rht_run.specs.Passes.{IsCalling}
use Rattle.rht_run_tests.proofs.threads.stepped.Given as goal

-- the pass is in the call, and has made some operations of it
abbrev pub invariant-loop : goal.invariant-loop
invariant-loop g l =
    (goal.iterator-loop g).can_next l.iterator' × (goal.iterator-loop g).is_finite l.iterator'
    × ((steps : ℕ) × IsCalling g.M.Mix.mix_of l.table l.fn.call steps l.fn.pass l.pass)
