-- What a new attempt forgets: right behind a load of the current table no other table is come to, whatever was come to before. So a bind
-- that tries again can't go on in a table of the attempt before.
use Rattle.std.proofs.Common.{◌≡◌, ◌≢◌, ◌<◌, ◌⊎◌, ℕ, List, [], ◌∷◌, ◌++◌, length, length-append, refl, sym, ap, ◌∙◌, subst, inl, inr, arith}
use Rattle.std.specs.List.{AllByRecursion}
use Rattle.rht_words.specs.declared.geometry.Geometry.{Geometry}
use Rattle.rht_words.specs.declared.op.Op.TheVariants.{Load, Add}
use Rattle.rht_words.specs.Links.{table_of}
use Rattle.rht_words.specs.Operations.{op_place}
use Rattle.rht_words.specs.Places.{CurrentTable, Section, Slot, FutureWord, place_of}
use Rattle.rht_words.proofs.EachElement.{AllByRecursion-cut}
use Rattle.rht_core.specs.Traces.{Did}
use Rattle.rht_core.specs.Seen.{CameTo, StaysInSection, as_current, as_future}
use Rattle.rht_core.proofs.Reasons.TablesWalked.{came-current, came-future}

-- the last item of a list is the one at which it is cut, or one of those behind
last_in : {X : Type 0} (P : X → Type 0) (xs : List X) (x : X) (ys : List X) (y : X) (zs : List X)
    → xs ++ x ∷ [] ≡ ys ++ y ∷ zs → AllByRecursion P zs → (x ≡ y) ⊎ P x
last_in P [] x [] y zs is all = inl (cc)
last_in P (a ∷ xs) x [] y zs is all =
    let rest : zs ≡ xs ++ x ∷ [] = (let e = sym is in cc) in
    inr (AllByRecursion-cut P xs (x ∷ []) (subst (AllByRecursion P) rest all)).1.0
last_in P [] x (b ∷ ys) y zs is all =
    let lengths = ap length is in
    let sum = length-append ys (y ∷ zs) in
    absurd (omega (arith, lengths, sum))
last_in P (a ∷ xs) x (b ∷ ys) y zs is all = last_in P xs x ys y zs (cc) all

module _ (g : Geometry) where
  -- no load of a future is one of the current table
  no_first : (slot : ℕ) → place_of g (Slot slot FutureWord) ≢ place_of g CurrentTable
  no_first slot same = omega (arith, same)

  pub only_current : (table : ℕ) (before : List Did) (did : Did) → did.op ≡ Load (place_of g CurrentTable)
      → CameTo g table (before ++ did ∷ []) → table_of did.old ≡ table
  only_current table before did is (as_current _ front at behind _ loads split last) =
      elim (last_in (StaysInSection g) before did front at behind split last) [
        | inl same ↦ ap (λ (d : Did). table_of d.old) same ∙ loads.1
        | inr other ↦ absurd (other.0 is)
      ]
  only_current table before did is (as_future from _ front at behind _ came loads named split last) =
      elim (last_in (StaysInSection g) before did front at behind split last) [
        | inl same ↦
            let both = sym is ∙ ap (λ (d : Did). d.op) same ∙ loads.loads in
            absurd (no_first from (sym (ap op_place both)))
        | inr other ↦ absurd (other.0 is)
      ]

  -- who has just opened or closed a section has come to no table in it
  pub none_outside : (c : ℕ) → c < 16 → (table : ℕ) (before : List Did) (did : Did) → did.op ≡ Add (place_of g (Section c)) 1
      → CameTo g table (before ++ did ∷ []) → ⊥
  none_outside c few table before did is (as_current _ front at behind _ loads split last) =
      elim (last_in (StaysInSection g) before did front at behind split last) [
        | inl same ↦ let both = sym is ∙ ap (λ (d : Did). d.op) same ∙ loads.0.loads in cc
        | inr other ↦ other.1 c few is
      ]
  none_outside c few table before did is (as_future from _ front at behind _ came loads named split last) =
      elim (last_in (StaysInSection g) before did front at behind split last) [
        | inl same ↦ let both = sym is ∙ ap (λ (d : Did). d.op) same ∙ loads.loads in cc
        | inr other ↦ other.1 c few is
      ]

-- ---- a bind that tries again and walks a table of the try before

module _ (g : Geometry) where
  abbrev loaded : ℕ → ℕ → Did
  loaded place word = record { index = 0; op = Load place; old = word }

  -- it loads table 0 as the current one, table 1 as the future of that, and then table 2 as the current one
  abbrev pub first_try : List Did
  first_try = loaded (place_of g CurrentTable) 0 ∷ loaded (place_of g (Slot 0 FutureWord)) 2 ∷ []

  abbrev pub second_try : List Did
  second_try = first_try ++ loaded (place_of g CurrentTable) 2 ∷ []

  -- it had come to table 1
  pub came_once : CameTo g 1 first_try
  came_once =
      came-future g 0 1 (loaded (place_of g CurrentTable) 0 ∷ []) (loaded (place_of g (Slot 0 FutureWord)) 2) (omega arith) refl
      refl (came-current g [] (loaded (place_of g CurrentTable) 0) refl)

  -- and has to come to it anew
  pub not_again : CameTo g 1 second_try → ⊥
  not_again came =
      let is = only_current g 1 first_try (loaded (place_of g CurrentTable) 2) refl came in absurd (cc)
