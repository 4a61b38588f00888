-- What workers have done, as lists from which the next command is taken out.
use Rattle.std.specs.Prelude.{◌≡◌, ℕ, ◌+◌, ◌<◌, Option, None, Some, List, [], ◌∷◌, length, map, sum_by, slice_index_or, slice_set}
use Rattle.std.specs.List.{AllByRecursion}
use Rattle.std.specs.declared.alloc.Global.{Global}
use Rattle.std.specs.declared.collections.VecDeque.{VecDeque}
use Rattle.std.specs.declared.vec.Vec.{Vec}
use Rattle.rht_script.specs.declared.done.Done.{Done}
use Rattle.rht_deal.specs.DoneCommands.{numbers_of}
use Rattle.rht_deal.specs.Numbers.{numbers_to, weight, AreRising}

-- what each has left, in its order
abbrev pub kept_items : Vec (VecDeque Done Global) Global → List (List Done)
kept_items kept = map (λ (own : VecDeque Done Global). own.items) kept.items

-- the first one left has this number
abbrev pub BeginsWith : List Done → ℕ → Type 0
BeginsWith [] number = ⊥
BeginsWith (done ∷ own) number = done.number ≡ number

-- somebody's first one has this number, and was taken out
pub record TakesFrom (before after : List (List Done)) (number : ℕ) (done : Done) : Type 0 where
  pub place : ℕ
  pub within : place < length before
  pub rest : List Done
  pub first : slice_index_or before place [] ≡ done ∷ rest
  pub after_is : after ≡ slice_set before place rest
  pub is : done.number ≡ number

abbrev pub TakesOut : List (List Done) → List (List Done) → ℕ → Option Done → Type 0
TakesOut before after number None =
    (after ≡ before) × ((i : ℕ) → i < length before → ¬ BeginsWith (slice_index_or before i []) number)
TakesOut before after number (Some done) = TakesFrom before after number done

-- ---- what all have done

-- what each of the workers has done, who are counted on from this number: its own commands, in rising order
abbrev pub AreOwn : ℕ → List (List Done) → Type 0
AreOwn worker [] = Unit {0}
AreOwn worker (own ∷ others) =
    AllByRecursion (λ (done : Done). done.worker ≡ worker) own × AreRising (numbers_of own) × AreOwn (worker + 1) others

-- together these are all numbers, each once
abbrev pub AreEachOnce : ℕ → List (List Done) → Type 0
AreEachOnce count kept = (h : ℕ → ℕ) → weight h (numbers_to count) ≡ sum_by (λ own. weight h (numbers_of own)) kept
