-- The rule of the queue through which commands are dealt, of numbers alone. The queue has the numbers of the commands that nobody has taken
-- yet. Each pass of it has taken some, and knows which.
use Rattle.std.specs.Prelude.{◌≡◌, ℕ, ◌+◌, ◌-◌, ◌<◌, ◌≤◌, List, [], ◌∷◌, ◌++◌, sum_by}
use Rattle.std.specs.List.{AllByRecursion, range_with_len}
use mathlib.Core.Option.{some}
use lib.ListN.{get_elem?}
use Rattle.rht_deal.specs.declared.numbers.Hand.{Hand}

-- ---- what a pass knows

-- so many parts of the right to know the whole, how many numbers were pushed, and the numbers that it has taken, in their order
abbrev pub hand : ℕ → ℕ → List ℕ → Hand
hand parts pushed taken = record { parts = parts; pushed = pushed; taken = taken }

-- all parts: one for each worker that a table can have, and one for who pushes the numbers
abbrev pub all_parts : ℕ
all_parts = 17

-- the numbers of the commands, where they are so many
abbrev pub numbers_to : ℕ → List ℕ
numbers_to count = range_with_len 1 count

-- what the numbers weigh together, where each weighs so much
abbrev pub weight : (ℕ → ℕ) → List ℕ → ℕ
weight h numbers = sum_by h numbers

-- these are together just those, each as often: however numbers are weighed, they weigh the same
abbrev pub AreJust : List ℕ → List ℕ → Type 0
AreJust these those = (h : ℕ → ℕ) → weight h these ≡ weight h those

-- ---- the rule

-- The numbers there and the numbers that the passes have taken are together those from 1 to the number pushed, each once.
abbrev pub AreTogether : ℕ → List ℕ → List Hand → Type 0
AreTogether pushed items views =
    (h : ℕ → ℕ) → weight h (numbers_to pushed) ≡ sum_by (λ (v : Hand). weight h v.taken) views + weight h items

-- each number is below all behind it
abbrev pub AreRising : List ℕ → Type 0
AreRising [] = Unit {0}
AreRising (number ∷ numbers) = AllByRecursion (λ behind. number < behind) numbers × AreRising numbers

-- each of these numbers is above all of those
abbrev pub AreAbove : List ℕ → List ℕ → Type 0
AreAbove these those = AllByRecursion (λ this. AllByRecursion (λ that. that < this) those) these

-- a pass with a part of the right knows how many were pushed, and one without has taken nothing
pub record IsHand (pushed : ℕ) (v : Hand) : Type 0 where
  pub knows : 0 < v.parts → v.pushed ≡ pushed
  pub idle : v.parts ≡ 0 → v.taken ≡ []

-- The rule has two parts: the numbers there and taken are together all, each once; and those there rise, and are above all taken. Beside
-- that it says what passes know.
pub record AreDealt (items : List ℕ) (views : List Hand) : Type 0 where
  pub pushed : ℕ
  pub together : AreTogether pushed items views
  pub rising : AreRising items
  pub above : (pass : ℕ) (v : Hand) → get_elem? views pass ≡ some v → AreAbove items v.taken
  pub parts : sum_by (λ (v : Hand). v.parts) views ≡ all_parts
  pub hands : (pass : ℕ) (v : Hand) → get_elem? views pass ≡ some v → IsHand pushed v

-- ---- what steps do

-- this number was pushed by a pass
abbrev pub Pushed : Hand → ℕ → Hand → Type 0
Pushed before number after = after ≡ hand before.parts number before.taken

-- The pass took this number, which is one of those pushed, and above all that it had taken before.
pub record Took (before : Hand) (number : ℕ) (after : Hand) : Type 0 where
  pub after_is : after ≡ hand before.parts before.pushed (before.taken ++ number ∷ [])
  pub first : 1 ≤ number
  pub last : number ≤ before.pushed
  pub rises : AllByRecursion (λ that. that < number) before.taken

-- a pass that has all parts knows all: what it has taken, and what is there
abbrev pub KnowsAll : Hand → List ℕ → Type 0
KnowsAll v items =
    v.parts ≡ all_parts → (h : ℕ → ℕ) → weight h (numbers_to v.pushed) ≡ weight h v.taken + weight h items

-- so where nothing is left it has taken all, each once
abbrev pub HasAll : Hand → Type 0
HasAll v = v.parts ≡ all_parts → AreJust (numbers_to v.pushed) v.taken

-- a pass gives one part to a new one, which has taken nothing
abbrev pub sharing : Hand → Hand
sharing v = hand (v.parts - 1) v.pushed v.taken

abbrev pub shared : Hand → Hand
shared v = hand 1 v.pushed []

-- a pass gets the parts of another, and what that has taken
abbrev pub joined : Hand → Hand → Hand
joined v other = hand (v.parts + other.parts) v.pushed (v.taken ++ other.taken)
