-- Texts that are put one after another, each after those before it were put whole: what was put is theirs together, and where one
-- fails a prefix of all was put.
use Rattle.std.proofs.Common.{◌≡◌, ℕ, List, ◌++◌, Option, Result, Ok, Err, IsErr, refl, subst}
use Rattle.rht_io.specs.Told.{Puts}
use Rattle.rht_io.proofs.ToldLemmas.{Puts-after, Puts-longer, Puts-passed_on}

module _ {S E : Type 0} (held : S → Option (List ℕ)) (faults : S → ℕ) where
  -- some texts were put, and the next of them failed, which is passed on
  pub Puts-stopped : (a b c : S) (e : E) (r : Result (Unit {0}) E) (before text behind all : List ℕ)
      → Puts {E = E} held faults a b (Ok tt) before → Puts held faults b c (Err e) text → IsErr r
      → (before ++ text) ++ behind ≡ all → Puts held faults a c r all
  Puts-stopped a b c e r before text behind all put failed passed_on parts =
      subst (Puts held faults a c r) parts
      (Puts-passed_on held faults a c (Err e) r ((before ++ text) ++ behind) refl passed_on
      (Puts-longer held faults a c e (before ++ text) behind (Puts-after held faults a b c (Err e) before text put failed)))
