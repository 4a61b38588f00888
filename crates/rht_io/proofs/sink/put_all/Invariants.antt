use Rattle.std.proofs.Common.{◌≡◌, ◌++◌, List, ℕ, length, Ok}
use Rattle.rht_io.specs.declared.source.Failed.{Failed}
use Rattle.rht_io.specs.Told.{Puts}
use Rattle.rht_io.proofs.sink.put_all.Given as goal

-- what was put so far, with the rest, is the piece
abbrev pub invariant-loop-rest : goal.invariant-loop-rest
invariant-loop-rest g l =
    (put : List ℕ) × (put ++ l.rest ≡ l.piece) × Puts {E = Failed} g.O.Sink.held g.O.Sink.faults
    l.initial.out l.out (Ok tt) put

abbrev pub decreases-loop-rest : goal.decreases-loop-rest
decreases-loop-rest g l = length l.rest
