-- What comes of a machine that is told one old value after another, and of one that has the words to itself.
use Rattle.std.specs.Prelude.{◌≡◌, ℕ, List, [], ◌∷◌}
use Rattle.rht_words.specs.declared.op.Op.{Op}
use Rattle.rht_words.specs.declared.machine.Next.{Next}
use Rattle.rht_words.specs.declared.machine.Next.TheVariants.{Go, Done}
use Rattle.rht_words.specs.Operations.{old_of, applied}

-- what holds of a machine's state where it goes on, or of its answer where it has ended
abbrev pub GoesOrEnds : {S R : Type 0} → (S → Type 0) → (R → Type 0) → S × Next R → Type 0
GoesOrEnds Goes Ends (state, Go) = Goes state
GoesOrEnds Goes Ends (state, Done answer) = Ends answer

-- an operation that was performed, and the word that it found
pub record Performed : Type 0 where
  pub op : Op
  pub old : ℕ

-- the operations that a machine performed, first to last, and what it said after the last one
pub record Ran (R : Type 0) : Type 0 where
  pub steps : List Performed
  pub next : Next R

-- a first operation, and what came of the machine after it; an answer is the end
abbrev pub went_on : {R : Type 0} → Performed → Next R → Ran R → Ran R
went_on step Go rest = record { steps = step ∷ rest.steps; next = rest.next }
went_on step (Done answer) rest = record { steps = step ∷ []; next = Done answer }

-- each operation finds the word as the operations before it left it
abbrev pub FindsWords : List ℕ → List Performed → Type 0
FindsWords words [] = Unit {0}
FindsWords words (step ∷ steps) = (step.old ≡ old_of words step.op) × FindsWords (applied words step.op) steps

-- the words after these operations
abbrev pub words_after : List ℕ → List Performed → List ℕ
words_after words [] = words
words_after words (step ∷ steps) = words_after (applied words step.op) steps

-- a machine, by what it performs and what it makes of an old value
module _ {M R : Type 0} (plan : M → Op) (after : M → ℕ → M × Next R) where
  -- what comes of it where its operations find these values
  abbrev pub ran : M → List ℕ → Ran R
  ran m [] = record { steps = []; next = Go }
  ran m (old ∷ olds) = went_on (record { op = plan m; old = old }) (after m old).1 (ran (after m old).0 olds)

  -- where nobody else changes these words, it ends with this answer and leaves the words so
  pub record EndsAlone (m : M) (words : List ℕ) (answer : R) (left : List ℕ) : Type 0 where
    pub olds : List ℕ
    pub finds : FindsWords words (ran m olds).steps
    pub ends : (ran m olds).next ≡ Done answer
    pub leaves : words_after words (ran m olds).steps ≡ left
