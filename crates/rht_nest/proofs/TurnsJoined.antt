-- Runs that are seen taken in their turn are so whatever operations come before and behind, and so they are without those
-- that don't look at the page map.
use Rattle.std.proofs.Common.{◌≡◌, ℕ, Bool, true, false, ◌+◌, ◌<◌, List, [], ◌∷◌, ◌++◌, inl, inr, refl, sym, ap, ◌∙◌, subst}
use Rattle.std.specs.Prelude.{◌⊎◌}
use Rattle.std.specs.List.{AllByRecursion}
use Rattle.rht_words.specs.declared.geometry.Geometry.{Geometry}
use Rattle.rht_words.specs.Machines.{Performed}
use Rattle.rht_arena.specs.Laws.{IsLook}
use Rattle.rht_arena.specs.RunLaws.{SeesRunTaken, AreRunsSeenInTurn}
use Rattle.rht_nest.specs.MakeLaws.{AreRunsThenPagesSeen, AreNoPagesSeen}

-- the operation looks at no page's bit
abbrev pub IsBlind : Performed → Type 0
IsBlind step = IsLook step.op → ⊥

abbrev pub AreBlind : List Performed → Type 0
AreBlind steps = AllByRecursion IsBlind steps

module _ (g : Geometry) (pages : ℕ) where
  -- an operation that doesn't look sees no run taken
  pub no_look : (first : ℕ) (step : Performed) (Behind : ℕ → Type 0) → IsBlind step
      → Behind first ⊎ (SeesRunTaken g pages first step × Behind (first + pages)) → Behind first
  no_look first step Behind blind (inl turn) = turn
  no_look first step Behind blind (inr (sees, turn)) = absurd (blind sees.sees.looks)

  -- whatever comes behind
  pub turn-then : (first : ℕ) (steps behind : List Performed) → AreRunsSeenInTurn g pages first steps
      → AreRunsSeenInTurn g pages first (steps ++ behind)
  turn-then first [] [] turn = turn
  turn-then first [] (step ∷ behind) turn = inl (turn-then first [] behind turn)
  turn-then first (step ∷ steps) behind (inl turn) = inl (turn-then first steps behind turn)
  turn-then first (step ∷ steps) behind (inr (sees, turn)) =
      inr (sees, turn-then (first + pages) steps behind turn)

  -- whatever came before
  pub turn-later : (first : ℕ) (before steps : List Performed) → AreRunsSeenInTurn g pages first steps
      → AreRunsSeenInTurn g pages first (before ++ steps)
  turn-later first [] steps turn = turn
  turn-later first (step ∷ before) steps turn = inl (turn-later first before steps turn)

  -- without operations before that don't look
  pub turn-past_blind : (first : ℕ) (before steps : List Performed) → AreBlind before
      → AreRunsSeenInTurn g pages first (before ++ steps) → AreRunsSeenInTurn g pages first steps
  turn-past_blind first [] steps blind turn = turn
  turn-past_blind first (step ∷ before) steps blind turn =
      turn-past_blind first before steps blind.1
      (no_look first step (λ f. AreRunsSeenInTurn g pages f (before ++ steps)) blind.0 turn)

  -- and without those behind
  turn-of_blind : (first : ℕ) (behind : List Performed) → AreBlind behind → AreRunsSeenInTurn g pages first behind
      → g.pages < first + pages
  turn-of_blind first [] blind turn = turn
  turn-of_blind first (step ∷ behind) blind turn =
      turn-of_blind first behind blind.1
      (no_look first step (λ f. AreRunsSeenInTurn g pages f behind) blind.0 turn)

  pub turn-before_blind : (first : ℕ) (steps behind : List Performed) → AreBlind behind
      → AreRunsSeenInTurn g pages first (steps ++ behind) → AreRunsSeenInTurn g pages first steps
  turn-before_blind first [] behind blind turn = turn-of_blind first behind blind turn
  turn-before_blind first (step ∷ steps) behind blind (inl turn) =
      inl (turn-before_blind first steps behind blind turn)
  turn-before_blind first (step ∷ steps) behind blind (inr (sees, turn)) =
      inr (sees, turn-before_blind (first + pages) steps behind blind turn)

-- ---- two parts of one list

-- of two ways to part a list, the first part of one is within that of the other
pub record IsShorter {X : Type 0} (xs ys first second : List X) : Type 0 where
  pub between : List X
  pub front : xs ≡ first ++ between
  pub back : second ≡ between ++ ys

pub parts-either : {X : Type 0} (xs ys first second : List X) → xs ++ ys ≡ first ++ second
    → IsShorter xs ys first second ⊎ IsShorter first second xs ys
parts-either [] ys first second are = inr (record { between = first; front = refl; back = are })
parts-either (x ∷ xs) ys [] second are = inl (record { between = x ∷ xs; front = refl; back = sym are })
parts-either (x ∷ xs) ys (y ∷ first) second are =
    let same : x ≡ y = cc in
    let rest : xs ++ ys ≡ first ++ second = cc in
    elim (parts-either xs ys first second rest) [
      | inl shorter ↦ inl (record {
        between = shorter.between;
        front = ap (λ z. z ∷ xs) same ∙ ap (λ zs. y ∷ zs) shorter.front;
        back = shorter.back;
      })
      | inr longer ↦ inr (record {
        between = longer.between;
        front = ap (λ z. z ∷ first) (sym same) ∙ ap (λ zs. x ∷ zs) longer.front;
        back = longer.back;
      })
    ]

-- ---- runs, and then pages

-- once all runs were seen in turn nothing is looked at
abbrev pub IsQuiet : Geometry → ℕ → List Performed → Type 0
IsQuiet g pages steps =
    (before behind : List Performed) → steps ≡ before ++ behind → AreRunsSeenInTurn g pages 0 before → AreBlind behind

-- where each run was seen in turn and then each page, and the first operations are quiet, each page was seen by the others
pub pages_behind : (g : Geometry) (pages : ℕ) (first second : List Performed) → IsQuiet g pages first
    → AreRunsThenPagesSeen g pages (first ++ second) → AreRunsSeenInTurn g 1 0 second
pages_behind g pages first second quiet seen =
    elim (parts-either first second seen.before seen.behind seen.are) [
      | inl shorter ↦
          let blind = quiet seen.before shorter.between shorter.front seen.runs in
          turn-past_blind g 1 0 shorter.between second blind
          (subst (λ s. AreRunsSeenInTurn g 1 0 s) shorter.back seen.tops)
      | inr longer ↦
          subst (λ s. AreRunsSeenInTurn g 1 0 s) (sym longer.back) (turn-later g 1 0 longer.between seen.behind seen.tops)
    ]

module _ (g : Geometry) (pages : ℕ) (step : Performed) (steps : List Performed) (blind : IsBlind step) where
  -- an operation before that looks at no page changes nothing
  pub no_pages-then : (nests : Bool) → AreNoPagesSeen g pages nests steps → AreNoPagesSeen g pages nests (step ∷ steps)
  no_pages-then false turn = inl turn
  no_pages-then true seen = record {
    before = step ∷ seen.before;
    behind = seen.behind;
    are = ap (λ s. step ∷ s) seen.are;
    runs = inl seen.runs;
    tops = seen.tops;
  }

  within_rest : (before behind : List Performed) → step ∷ steps ≡ before ++ behind
      → AreRunsSeenInTurn g pages 0 before → AreRunsSeenInTurn g 1 0 behind
      → AreRunsThenPagesSeen g pages steps
  within_rest [] behind are runs tops = record {
    before = [];
    behind = steps;
    are = refl;
    runs = runs;
    tops =
        no_look g 1 0 step (λ f. AreRunsSeenInTurn g 1 f steps) blind
        (subst (λ s. AreRunsSeenInTurn g 1 0 s) (sym are) tops);
  }
  within_rest (first ∷ before) behind are runs tops =
      let same : first ≡ step = cc in
      record {
        before = before;
        behind = behind;
        are = cc;
        runs =
            no_look g pages 0 step (λ f. AreRunsSeenInTurn g pages f before) blind
            (subst (λ s. AreRunsSeenInTurn g pages 0 (s ∷ before)) same runs);
        tops = tops;
      }

  pub no_pages-of : (nests : Bool) → AreNoPagesSeen g pages nests (step ∷ steps) → AreNoPagesSeen g pages nests steps
  no_pages-of false turn = no_look g pages 0 step (λ f. AreRunsSeenInTurn g pages f steps) blind turn
  no_pages-of true seen = within_rest seen.before seen.behind seen.are seen.runs seen.tops
