-- What a keeping of section words does, whatever words it finds.
use Rattle.std.specs.Prelude.{◌≡◌, ℕ, ◌+◌, ◌*◌, ◌<◌, ◌⊎◌, List, [], ◌∷◌, length}
use Rattle.std.specs.List.{AllByRecursion}
use Rattle.rht_words.specs.declared.op.Op.{Op}
use Rattle.rht_words.specs.declared.machine.Next.TheVariants.{Done}
use Rattle.rht_words.specs.declared.geometry.Geometry.{Geometry}
use Rattle.rht_words.specs.Machines.{Performed, Ran, ran}
use Rattle.rht_words.specs.Planned.{IsPlannedIn, IsWord}
use Rattle.rht_reclaim.specs.KeepSections.{keep_sections_new, keep_sections_plan, keep_sections_after, section_load, word_store}
use Rattle.rht_reclaim.specs.GiveTableLaws.{did, EndsWithin}

-- the keeping of section words in this slot, whose operations find these words
abbrev pub keeping_ran : Geometry → ℕ → List ℕ → Ran (Unit {0})
keeping_ran g slot olds = ran keep_sections_plan keep_sections_after (keep_sections_new g slot) olds

-- what was found of a caller: its section word, and what stood before in the slot's word for it
pub record Found : Type 0 where
  pub word : ℕ
  pub before : ℕ

-- from this caller on each one's section word was loaded, and then that very word was stored in the slot
abbrev pub kept_steps : Geometry → ℕ → ℕ → List Found → List Performed
kept_steps g slot caller [] = []
kept_steps g slot caller (found ∷ founds) =
    did (section_load g caller) found.word
    ∷ did (word_store g slot caller found.word) found.before
    ∷ kept_steps g slot (caller + 1) founds

-- so it was done with each caller, and nothing else was done
pub record SectionsKept (g : Geometry) (slot : ℕ) (steps : List Performed) : Type 0 where
  pub founds : List Found
  pub each : length founds ≡ g.callers
  pub are : steps ≡ kept_steps g slot 0 founds

-- whatever words its operations find, a keeping that has ended has done this
abbrev pub KeepsSections : Type 0
KeepsSections =
    (g : Geometry) (slot : ℕ) (olds : List ℕ)
    → (keeping_ran g slot olds).next ≡ Done tt
    → SectionsKept g slot (keeping_ran g slot olds).steps

-- two operations for each caller, and it has ended
abbrev pub KeepsSoon : Type 0
KeepsSoon =
    (g : Geometry) (slot : ℕ) (olds : List ℕ) → EndsWithin (2 * g.callers) olds (keeping_ran g slot olds)

-- the operation loads the section word of a caller that there is, or stores a word in the slot's word for one
pub record IsOfCaller (g : Geometry) (slot : ℕ) (op : Op) : Type 0 where
  pub caller : ℕ
  pub word : ℕ
  pub there : caller < g.callers
  pub either : (op ≡ section_load g caller) ⊎ (op ≡ word_store g slot caller word)

pub record IsKeepStep (g : Geometry) (slot : ℕ) (step : Performed) : Type 0 where
  pub of_caller : IsOfCaller g slot step.op
  pub planned : IsPlannedIn g step.op

-- each operation is one of these, also before the end
abbrev pub KeepsWithin : Type 0
KeepsWithin =
    (g : Geometry) (slot : ℕ) (olds : List ℕ) → slot < 8 → AllByRecursion IsWord olds
    → AllByRecursion (IsKeepStep g slot) (keeping_ran g slot olds).steps
