use Rattle.std.proofs.Common.{◌≡◌, ◌++◌, ℕ, min, List, Result, Ok, Err, IfOk, length, take, drop, ap, ◌∙◌, arith}
use Rattle.rht_io.specs.Memory.{filled}
use Rattle.rht_io.proofs.MemoryLemmas.{filled-front}
use Rattle.rht_io.proofs.memory.MemSourceSource.take.Goals as goal

-- the rest of the room is as before
put_in_room : {E : Type 0} (r : Result ℕ E) (left left' room front : List ℕ) (most : ℕ) → left ≡ left'
    → IfOk r (λ n. n ≡ min (length left) (length (take most room)))
    → IfOk r (λ n. front ≡ filled left (take most room) n)
    → IfOk r (λ n. front ++ drop most room ≡ filled left' room n)
put_in_room (Ok n) left left' room front most same count put =
    ap (λ l. l ++ drop most room) put ∙ filled-front left room n most (omega arith)
    ∙ ap (λ l. filled l room n) same
put_in_room (Err e) left left' room front most same count put = tt

pub returns-clause-room : goal.returns-clause-room
returns-clause-room c =
    put_in_room c.take.result _ _ c.args.room.now _ c.min-most.result (ap (λ s. s.left) c.self.view_is)
    c.take.ensures.count c.take.ensures.room
