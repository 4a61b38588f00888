-- What a tidying does, whatever words it finds.
use Rattle.std.specs.Prelude.{◌≡◌, ◌≢◌, ℕ, ◌+◌, ◌*◌, ◌%◌, ◌<◌, ◌≤◌, ◌⊎◌, List, [], ◌∷◌, ◌++◌, length, map, slice_index}
use Rattle.std.specs.List.{AllByRecursion, Any, range_with_len}
use Rattle.rht_words.specs.declared.op.Op.{Op}
use Rattle.rht_words.specs.declared.machine.Next.{Next}
use Rattle.rht_words.specs.declared.machine.Next.TheVariants.{Go, Done}
use Rattle.rht_words.specs.declared.geometry.Geometry.{Geometry}
use Rattle.rht_words.specs.Machines.{Performed, Ran, ran}
use Rattle.rht_words.specs.Planned.{IsPlannedIn}
use Rattle.rht_model.specs.declared.history.Reply.{Reply}
use Rattle.rht_model.specs.declared.history.Reply.TheVariants.{Clear, Pending}
use Rattle.rht_grace.specs.Batch.{BatchModel, IsBatch}
use Rattle.rht_grace.specs.Tidy.{TidyModel, load_of, give_of, tidy_new, tidy_plan, tidy_after}

-- what a tidying answers, and the batch behind its last operation
pub record Tidied : Type 0 where
  pub reply : Reply
  pub batch : BatchModel

abbrev pub with_batch : TidyModel × Next Reply → TidyModel × Next Tidied
with_batch (m, Go) = (m, Go)
with_batch (m, Done reply) = (m, Done (record { reply = reply; batch = m.batch }))

-- the tidying of a batch, whose operations find these words
abbrev pub tidying_ran : BatchModel → List ℕ → Ran Tidied
tidying_ran batch olds =
    ran tidy_plan (λ m word. with_batch (tidy_after m word)) (tidy_new batch.geometry batch) olds

-- ---- what it gives back, and why it waits

-- What it is to give back, and what it leaves fresh: where none waits it takes the fresh ones. It goes by nothing else, so that what stands
-- for the nodes, one each, moves with them.
abbrev pub due_of : {A : Type 0} → List A → List A → List A
due_of fresh [] = fresh
due_of fresh (node ∷ nodes) = node ∷ nodes

abbrev pub left_of : {A : Type 0} → List A → List A → List A
left_of fresh [] = []
left_of fresh (node ∷ nodes) = fresh

-- the operations, and the words that they found
abbrev pub ops_of : List Performed → List Op
ops_of steps = map (λ step. step.op) steps

abbrev pub olds_of : List Performed → List ℕ
olds_of steps = map (λ step. step.old) steps

-- For which words the nodes wait. Where some waited before the call it is those that were kept then, and nothing is
-- loaded for it. Else it is those that its first operations found, which load each caller's section word in order.
abbrev pub AreKept : Geometry → List ℕ → List ℕ → List ℕ → List Performed → Type 0
AreKept g kept_before [] kept steps =
    (ops_of steps ≡ map load_of (range_with_len 0 g.callers)) × (kept ≡ olds_of steps)
AreKept g kept_before (node ∷ nodes) kept steps = (steps ≡ []) × (kept ≡ kept_before)

-- the operation loads the section word of a caller that is there
pub record LoadsSection (g : Geometry) (op : Op) : Type 0 where
  pub caller : ℕ
  pub there : caller < g.callers
  pub loads : op ≡ load_of caller

abbrev pub AreLoads : Geometry → List Performed → Type 0
AreLoads g steps = AllByRecursion (λ step. LoadsSection g step.op) steps

-- the caller was in no section when its word was kept, or one of these loads found another word: it has left that section
abbrev pub IsOver : List ℕ → List Performed → ℕ → Type 0
IsOver kept steps caller =
    (slice_index kept caller % 2 ≡ 0)
    ⊎ Any (λ step. (step.op ≡ load_of caller) × (step.old ≢ slice_index kept caller)) steps

-- Cleared: each caller was found to have left its section, by loads alone, and then the nodes were given back, each once,
-- in order, and nothing else was done. So many they were, and none waits.
pub record Clears (g : Geometry) (nodes kept : List ℕ) (count : ℕ) (after : BatchModel) (steps : List Performed) :
    Type 0 where
  pub asking : List Performed
  pub giving : List Performed
  pub split : steps ≡ asking ++ giving
  pub asks : AreLoads g asking
  pub over : (caller : ℕ) → caller < g.callers → IsOver kept asking caller
  pub gives : ops_of giving ≡ map (give_of g) nodes
  pub counted : count ≡ length nodes
  pub none_waits : after.waiting ≡ []

-- Pending: there were loads alone, the last of which found of this caller the very word that is kept, and it is odd. All
-- nodes wait, for the same words but those of callers that were found to have left their section.
pub record Waits (g : Geometry) (nodes kept : List ℕ) (caller word : ℕ) (after : BatchModel) (steps : List Performed) :
    Type 0 where
  pub asking : List Performed
  pub last : Performed
  pub split : steps ≡ asking ++ last ∷ []
  pub asks : AreLoads g asking
  pub there : caller < g.callers
  pub loads : last.op ≡ load_of caller
  pub found : last.old ≡ word
  pub odd : word % 2 ≡ 1
  pub was_kept : slice_index kept caller ≡ word
  pub is_kept : slice_index after.kept caller ≡ word
  pub others : (other : ℕ) → other < g.callers
      → (slice_index after.kept other ≡ slice_index kept other)
      ⊎ ((slice_index after.kept other ≡ 0) × IsOver kept asking other)
  pub wait : after.waiting ≡ nodes

-- it answers nothing else
abbrev pub AnswersRightly : Geometry → List ℕ → List ℕ → Reply → BatchModel → List Performed → Type 0
AnswersRightly g nodes kept (Clear count) after steps = Clears g nodes kept count after steps
AnswersRightly g nodes kept (Pending caller word) after steps = Waits g nodes kept caller word after steps
AnswersRightly g nodes kept _ after steps = ⊥

pub record EndsRightly (before : BatchModel) (end : Tidied) (steps : List Performed) : Type 0 where
  pub kept : List ℕ
  pub keeping : List Performed
  pub behind : List Performed
  pub split : steps ≡ keeping ++ behind
  pub keeps : AreKept before.geometry before.kept before.waiting kept keeping
  pub answers :
      AnswersRightly before.geometry (due_of before.fresh before.waiting) kept end.reply end.batch behind
  pub left : end.batch.fresh ≡ left_of before.fresh before.waiting
  pub sound : IsBatch end.batch
  pub same : end.batch.geometry ≡ before.geometry

-- whatever words its operations find, a tidying that has ended has done what it answers
abbrev pub TidiesRightly : Type 0
TidiesRightly =
    (batch : BatchModel) (olds : List ℕ) (end : Tidied) → IsBatch batch
    → (tidying_ran batch olds).next ≡ Done end
    → EndsRightly batch end (tidying_ran batch olds).steps

-- ---- how long it takes, and where it works

-- as many operations as it makes at most: two loads for each caller, and one operation for each node
abbrev pub tidy_bound : Geometry → ℕ
tidy_bound g = 2 * g.callers + g.nodes + 1

-- it makes no more, and so it has ended where it was told so many words
pub record EndsWithinBound (batch : BatchModel) (olds : List ℕ) : Type 0 where
  pub few : length (tidying_ran batch olds).steps ≤ tidy_bound batch.geometry
  pub ends : tidy_bound batch.geometry ≤ length olds → (tidying_ran batch olds).next ≢ Go

abbrev pub TidiesSoon : Type 0
TidiesSoon = (batch : BatchModel) (olds : List ℕ) → IsBatch batch → EndsWithinBound batch olds

-- the operation gives back a node of the table
pub record GivesBack (g : Geometry) (op : Op) : Type 0 where
  pub node : ℕ
  pub there : node < g.nodes
  pub gives : op ≡ give_of g node

-- each operation loads a section word or gives a node back, and is on one of the table's words
pub record IsTidyStep (g : Geometry) (step : Performed) : Type 0 where
  pub either : LoadsSection g step.op ⊎ GivesBack g step.op
  pub planned : IsPlannedIn g step.op

abbrev pub TidiesWithin : Type 0
TidiesWithin =
    (batch : BatchModel) (olds : List ℕ) → IsBatch batch
    → AllByRecursion (IsTidyStep batch.geometry) (tidying_ran batch olds).steps
