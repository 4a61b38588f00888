use Rattle.std.proofs.Common.{ℕ}
use Rattle.rht_run.specs.Passes.{IsCalling}
use Rattle.rht_run.proofs.table.Table.call.Given as goal

-- the pass is in the call, and has made some steps of it
abbrev pub invariant-loop : goal.invariant-loop
invariant-loop g l =
    (goal.iterator-loop g).can_next l.iterator' × (goal.iterator-loop g).is_finite l.iterator'
    × ((steps : ℕ) × IsCalling g.M.Mix.mix_of l.self l.fn.call steps l.fn.pass l.pass)
