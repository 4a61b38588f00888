-- What holds of each operation of a machine holds of all. And a machine ends soon where each state has a number of operations that are left
-- at most, and each operation leads to a state with fewer or is the last one.
use Rattle.std.proofs.Common.{◌≡◌, ℕ, ◌<◌, ◌≤◌, List, [], ◌∷◌, length, arith}
use Rattle.rht_words.specs.declared.op.Op.{Op}
use Rattle.rht_words.specs.declared.machine.Next.{Next}
use Rattle.rht_words.specs.declared.machine.Next.TheVariants.{Go, Done}
use Rattle.rht_words.specs.Machines.{Performed, Ran, ran, went_on}
use Rattle.std.specs.List.{AllByRecursion}

-- what holds of an operation, and of those behind it
pub all_steps : (Each : Performed → Type 0) {R : Type 0} (step : Performed) (next : Next R) (rest : Ran R) → Each step
    → AllByRecursion Each rest.steps → AllByRecursion Each (went_on step next rest).steps
all_steps Each step Go rest here behind = (here, behind)
all_steps Each step (Done answer) rest here behind = (here, tt)

module _ {M R : Type 0} (plan : M → Op) (after : M → ℕ → M × Next R) (left : M → ℕ) where
  -- what comes after a state has fewer left than that, or there is no more
  abbrev pub Drops : ℕ → M × Next R → Type 0
  Drops most (m, Go) = left m < most
  Drops most (m, Done answer) = 0 < most

  module _ (drops : (m : M) (word : ℕ) → Drops (left m) (after m word)) where
    some_in : (most : ℕ) (next : M × Next R) → Drops most next → 0 < most
    some_in most (m, Go) low = omega (arith, low)
    some_in most (m, Done answer) low = low

    few_behind : (most : ℕ) (step : Performed) (olds : List ℕ) (next : M × Next R) → Drops most next
        → length (ran plan after next.0 olds).steps ≤ left next.0
        → length (went_on step next.1 (ran plan after next.0 olds)).steps ≤ most
    few_behind most step olds (m, Go) low few = omega (arith, low, few)
    few_behind most step olds (m, Done answer) low few = omega (arith, low)

    -- By induction over the words that the operations find.
    pub few_steps : (m : M) (olds : List ℕ) → length (ran plan after m olds).steps ≤ left m
    few_steps m [] = omega arith
    few_steps m (old ∷ olds) =
        few_behind (left m) (record { op = plan m; old = old }) olds (after m old) (drops m old)
        (few_steps (after m old).0 olds)

    ends_behind : (most : ℕ) (step : Performed) (olds : List ℕ) (next : M × Next R) → Drops most next
        → most ≤ length (0 ∷ olds)
        → (left next.0 ≤ length olds → (ran plan after next.0 olds).next ≡ Go → ⊥)
        → (went_on step next.1 (ran plan after next.0 olds)).next ≡ Go → ⊥
    ends_behind most step olds (m, Go) low enough later goes = later (omega (arith, low, enough)) goes
    ends_behind most step olds (m, Done answer) low enough later goes = absurd (cc)

    -- and so it has ended where it was told as many words
    pub ends_soon : (m : M) (olds : List ℕ) → left m ≤ length olds → (ran plan after m olds).next ≡ Go → ⊥
    ends_soon m [] enough goes =
        let some = some_in (left m) (after m 0) (drops m 0) in absurd (omega (arith, some, enough))
    ends_soon m (old ∷ olds) enough goes =
        ends_behind (left m) (record { op = plan m; old = old }) olds (after m old) (drops m old)
        (omega (arith, enough)) (λ more later. ends_soon (after m old).0 olds more later) goes
