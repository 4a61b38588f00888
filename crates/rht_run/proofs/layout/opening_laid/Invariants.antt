use Rattle.rht_run.proofs.LaidWords.{IsLaidUpTo}
use Rattle.rht_run.proofs.layout.opening_laid.Given as goal

-- the words before this place lie where they belong
abbrev pub invariant-loop-place : goal.invariant-loop-place
invariant-loop-place l = IsLaidUpTo l.env l.place l.laid.items
