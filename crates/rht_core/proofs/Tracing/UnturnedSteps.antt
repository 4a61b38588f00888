-- The section word of a caller stays from an operation of its call on, up to another event, where none of the call's operations turns it from
-- there on. It is kept by each event that leaves the word, and by each further operation.
use Rattle.std.proofs.Common.{◌≡◌, ℕ, ◌+◌, List, [], ◌∷◌, ◌++◌, sym, ◌∙◌, ap, subst}
use Rattle.std.specs.List.{AllByRecursion}
use Rattle.rht_words.specs.declared.geometry.Geometry.{Geometry}
use Rattle.rht_words.proofs.EachElement.{AllByRecursion-cut}
use Rattle.rht_core.specs.Seen.{TurnsSection}
use Rattle.rht_core.specs.Traces.{Did}
use Rattle.rht_core.proofs.Events.UnturnedSections.{section_at, IsUnturned, unturned-now, unturned-next}

-- ---- an operation more

-- the last one is the one from which on the others are, or that one is among those before it
data SplitLast (did at : Did) (steps front behind : List Did) : Type 0 where
  at_last : at ≡ did → behind ≡ [] → SplitLast did at steps front behind
  before_last : (between : List Did) → steps ≡ front ++ at ∷ between → behind ≡ between ++ did ∷ [] → SplitLast did at steps front behind

split_last : (did at : Did) (steps front behind : List Did) → steps ++ did ∷ [] ≡ front ++ at ∷ behind
    → SplitLast did at steps front behind
split_last did at [] [] behind is = at_last (cc) (cc)
split_last did at [] (first ∷ []) behind is = absurd (cc)
split_last did at [] (first ∷ next ∷ front) behind is = absurd (cc)
split_last did at (step ∷ steps) [] behind is =
    let same : step ≡ at = cc in
    let rest : steps ++ did ∷ [] ≡ behind = cc in
    before_last steps (ap (λ s. s ∷ steps) same) (sym rest)
split_last did at (step ∷ steps) (first ∷ front) behind is =
    let same : step ≡ first = cc in
    let rest : steps ++ did ∷ [] ≡ front ++ at ∷ behind = cc in
    longer same (split_last did at steps front behind rest)
  where
    longer : step ≡ first → SplitLast did at steps front behind → SplitLast did at (step ∷ steps) (first ∷ front) behind
    longer same (at_last e none) = at_last e none
    longer same (before_last between e rest) =
        before_last between (ap (λ l. step ∷ l) e ∙ ap (λ s. s ∷ front ++ at ∷ between) same) rest

-- ---- the operations of a call

module _ (g : Geometry) (words_at : ℕ → List ℕ) (c : ℕ) where
  -- the operation leaves the caller's section open or closed
  abbrev pub LeavesSection : Did → Type 0
  LeavesSection did = TurnsSection g c did → ⊥

  -- from each of these operations on from which on none turns the section word, that stays up to this event
  abbrev pub UnturnedTo : List Did → ℕ → Type 0
  UnturnedTo steps upto =
      (front : List Did) (at : Did) (behind : List Did) → steps ≡ front ++ at ∷ behind → AllByRecursion LeavesSection (at ∷ behind)
      → IsUnturned g words_at c at.index upto

  pub unturned-none : (upto : ℕ) → UnturnedTo [] upto
  unturned-none upto [] at behind is quiet = absurd (cc)
  unturned-none upto (first ∷ front) at behind is quiet = absurd (cc)

  -- an event more that leaves the section word
  pub unturned-stays : (steps : List Did) (upto : ℕ) → section_at g words_at c (upto + 1) ≡ section_at g words_at c upto → UnturnedTo steps upto
      → UnturnedTo steps (upto + 1)
  unturned-stays steps upto same calm front at behind is quiet =
      unturned-next g words_at c at.index upto (calm front at behind is quiet) same

  -- and an operation more
  pub unturned-push : (steps : List Did) (did : Did)
      → (LeavesSection did → section_at g words_at c (did.index + 1) ≡ section_at g words_at c did.index)
      → UnturnedTo steps did.index → UnturnedTo (steps ++ did ∷ []) (did.index + 1)
  unturned-push steps did own calm front at behind is quiet = go (split_last did at steps front behind is)
    where
      go : SplitLast did at steps front behind → IsUnturned g words_at c at.index (did.index + 1)
      go (at_last same none) =
          unturned-next g words_at c at.index did.index
          (subst (λ (d : Did). IsUnturned g words_at c d.index did.index) (sym same) (unturned-now g words_at c did.index))
          (own (subst LeavesSection same quiet.0))
      go (before_last between split rest) =
          let parts = AllByRecursion-cut LeavesSection between (did ∷ []) (subst (AllByRecursion LeavesSection) rest quiet.1) in
          unturned-next g words_at c at.index did.index (calm front at between split (quiet.0, parts.0)) (own parts.1.0)
