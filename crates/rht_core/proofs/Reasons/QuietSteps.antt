-- Operations among which no section was opened or closed. From each of them on the caller's section word stays.
use Rattle.std.proofs.Common.{◌≡◌, ℕ, zero, suc, ◌<◌, List, [], ◌∷◌, ◌++◌, length, get_or, ◌∙◌, sym, ap, subst, append_assoc, arith}
use Rattle.std.specs.List.{AllByRecursion, Any}
use Rattle.rht_words.specs.declared.geometry.Geometry.{Geometry}
use Rattle.rht_words.proofs.EachElement.{AllByRecursion-cut, AllByRecursion-weaker}
use Rattle.rht_core.specs.Seen.{TurnsNoSection, AnyInSection}
use Rattle.rht_core.specs.Traces.{Did}
use Rattle.rht_core.proofs.Events.UnturnedSections.{IsUnturned}
use Rattle.rht_core.proofs.Tracing.UnturnedSteps.{LeavesSection, UnturnedTo}

-- ---- one of these

-- what is so of one of a list is so of it with those before and behind it
split_at : {X : Type 0} (xs : List X) (k : ℕ) (x : X) → k < length xs → get_or xs k x ≡ x
    → (front : List X) × (later : List X) × (xs ≡ front ++ x ∷ later)
split_at [] k x within is = absurd (omega (arith, within))
split_at (y ∷ xs) zero x within is = ([], xs, ap (λ z. z ∷ xs) is)
split_at (y ∷ xs) (suc k) x within is =
    let rest = split_at xs k x (omega (arith, within)) is in (y ∷ rest.0, rest.1, ap (λ l. y ∷ l) rest.2)

pub any_split : {X : Type 0} (P Q : X → Type 0) (xs : List X)
    → ((front : List X) (x : X) (later : List X) → xs ≡ front ++ x ∷ later → P x → Q x) → Any P xs → Any Q xs
any_split P Q xs further (k, x, within, is, p) =
    let parts = split_at xs k x within is in (k, x, within, is, further parts.0 x parts.1 parts.2 p)

-- ---- quiet operations

module _ (g : Geometry) where
  -- what is so of one before which no section was opened or closed is so of it with others behind
  pub AnyInSection-append : (Is : Did → Type 0) (steps more : List Did) → AnyInSection g Is steps → AnyInSection g Is (steps ++ more)
  AnyInSection-append Is steps more any = record {
    before = any.before;
    at = any.at;
    behind = any.behind ++ more;
    split = ap (λ l. l ++ more) any.split ∙ append_assoc any.before (any.at ∷ any.behind) more;
    inside = any.inside;
    is = any.is;
  }

  -- these operations are the last ones, and no section was opened or closed among them
  pub record LieBehind (steps behind : List Did) : Type 0 where
    pub before : List Did
    pub split : steps ≡ before ++ behind
    pub quiet : AllByRecursion (TurnsNoSection g) behind

  module _ (words_at : ℕ → List ℕ) (c : ℕ) where
    -- from each of these operations on the caller's section word stays up to this event
    abbrev pub UnturnedBehind : List Did → ℕ → Type 0
    UnturnedBehind behind upto =
        (front : List Did) (at : Did) (later : List Did) → behind ≡ front ++ at ∷ later → IsUnturned g words_at c at.index upto

    pub unturned-behind : c < 16 → (steps behind : List Did) (upto : ℕ) → LieBehind steps behind → UnturnedTo g words_at c steps upto
        → UnturnedBehind behind upto
    unturned-behind few steps behind upto lie calm front at later is =
        let rest = (AllByRecursion-cut (TurnsNoSection g) front (at ∷ later) (subst (AllByRecursion (TurnsNoSection g)) is lie.quiet)).1 in
        calm (lie.before ++ front) at later
        (lie.split ∙ ap (λ l. lie.before ++ l) is ∙ sym (append_assoc lie.before front (at ∷ later)))
        (AllByRecursion-weaker (TurnsNoSection g) (LeavesSection g words_at c) (λ did none. none c few) (at ∷ later) rest)
