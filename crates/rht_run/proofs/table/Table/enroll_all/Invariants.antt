use Rattle.rht_run.specs.Passes.{IsOpening}
use Rattle.rht_run.proofs.table.Table.enroll_all.Given as goal

-- as many numbers as rounds have been drawn
abbrev pub invariant-loop-drawn : goal.invariant-loop-drawn
invariant-loop-drawn g l = IsOpening g.M.Mix.mix_of l.self l._drawn l._drawn l.seat
