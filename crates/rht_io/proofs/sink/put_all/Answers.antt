use Rattle.std.proofs.Common.{◌≡◌, ◌++◌, ℕ, ◌-◌, ◌≤◌, List, Option, Result, Ok, Err, IsErr, length, take, drop, ap, ◌∙◌, subst, append_assoc, take-append-drop, arith}
use Rattle.std.proofs.lemmas.Grind.{common_steps}
use Rattle.std.specs.Io.KnownBytes.{Appends, Keeps}
use Rattle.rht_io.specs.Told.{Rose, Puts}
use Rattle.rht_io.proofs.ToldLemmas.{Puts-after, Puts-of_failed, Puts-of_put}
use Rattle.rht_io.proofs.sink.put_all.Goals as goal

-- what the code has as the rest is the rest without its front
rest_of : (n : ℕ) (rest : List ℕ) → take (length rest - n) (drop n rest) ≡ drop n rest
rest_of n rest = grind (arith, common_steps)

module _ {S E : Type 0} (held : S → Option (List ℕ)) (faults : S → ℕ) where
  -- a put of the rest failed
  stopped : (old mid new : S) (r : Result (Unit {0}) E) (put rest piece : List ℕ)
      → IsErr r → put ++ rest ≡ piece → Puts {E = E} held faults old mid (Ok tt) put
      → Keeps (held mid) (held new) → Rose (faults mid) (faults new) → faults mid ≤ faults new
      → Puts held faults old new r piece
  stopped old mid new (Ok done) put rest piece failed whole so_far same rose kept = absurd (cc)
  stopped old mid new (Err e) put rest piece failed whole so_far same rose kept =
      subst (Puts held faults old new (Err e)) whole
      (Puts-after held faults old mid new (Err e) put rest so_far
      (Puts-of_failed held faults mid new e rest same rose kept))

  -- a put took the front of the rest
  went_on : (old mid new : S) (n : ℕ) (put rest piece : List ℕ)
      → put ++ rest ≡ piece → Puts {E = E} held faults old mid (Ok tt) put
      → Appends (held mid) (held new) (take n rest) → faults mid ≤ faults new
      → (more : List ℕ) × (more ++ take (length rest - n) (drop n rest) ≡ piece)
      × Puts {E = E} held faults old new (Ok tt) more
  went_on old mid new n put rest piece whole so_far grown kept =
      let front = take n rest in
      let parts : (put ++ front) ++ take (length rest - n) (drop n rest) ≡ piece =
      append_assoc put front _ ∙ ap (λ l. put ++ (front ++ l)) (rest_of n rest)
      ∙ ap (λ l. put ++ l) (take-append-drop n rest) ∙ whole in (
        put ++ front,
        parts,
        Puts-after held faults old mid new (Ok tt) put front so_far
            (Puts-of_put held faults mid new front grown kept),
      )

pub returns-in_err-n : goal.returns-in_err-n
returns-in_err-n g c =
    let so_far = c.loop-rest.invariant in
    stopped g.O.Sink.held g.O.Sink.faults _ _ _ _ so_far.0 _ _ c.from_residual.ensures.0 so_far.1 so_far.2
    c.in_err-n.ensures.bytes c.in_err-n.ensures.failed c.in_err-n.ensures.kept

pub loop-rest-preserved : goal.loop-rest-preserved
loop-rest-preserved g c =
    let so_far = c.loop-rest.invariant in
    went_on g.O.Sink.held g.O.Sink.faults _ _ _ _ so_far.0 _ _ so_far.1 so_far.2
    c.in_ok-n.ensures.bytes c.in_ok-n.ensures.kept
