-- Keeping the section words of all callers in a slot whose table was retired: what each state performs, and what comes after it.
use Rattle.std.specs.Prelude.{◌≡◌, ℕ, ◌+◌, ◌<◌, nat_lt, if◌then◌else◌}
use Rattle.rht_words.specs.declared.op.Op.{Op}
use Rattle.rht_words.specs.declared.op.Op.TheVariants.{Load, Store}
use Rattle.rht_words.specs.declared.machine.Next.{Next}
use Rattle.rht_words.specs.declared.machine.Next.TheVariants.{Go, Done}
use Rattle.rht_words.specs.declared.geometry.Geometry.{Geometry}
use Rattle.rht_words.specs.Places.{Section, Slot, LoadedSection, place_of}
use Rattle.rht_words.specs.Planned.{IsWord}
use Rattle.rht_reclaim.specs.declared.keep_sections.KeepSectionsAt.{KeepSectionsAt}
use Rattle.rht_reclaim.specs.declared.keep_sections.KeepSectionsAt.TheVariants as at

-- what contracts see of the machine
pub record KeepSectionsModel : Type 0 where
  pub geometry : Geometry
  pub slot : ℕ
  pub at : KeepSectionsAt

-- it begins with the first caller
abbrev pub keep_sections_new : Geometry → ℕ → KeepSectionsModel
keep_sections_new g slot = record { geometry = g; slot = slot; at = at.Section 0 }

-- the load of a caller's section word, and the store of such a word in the slot
abbrev pub section_load : Geometry → ℕ → Op
section_load g caller = Load (place_of g (Section caller))

abbrev pub word_store : Geometry → ℕ → ℕ → ℕ → Op
word_store g slot caller word = Store (place_of g (Slot slot (LoadedSection caller))) word

-- the state's one operation
abbrev pub keep_sections_plan_at : Geometry → ℕ → KeepSectionsAt → Op
keep_sections_plan_at g slot (at.Section caller) = section_load g caller
keep_sections_plan_at g slot (at.Word caller word) = word_store g slot caller word

abbrev pub keep_sections_plan : KeepSectionsModel → Op
keep_sections_plan m = keep_sections_plan_at m.geometry m.slot m.at

-- behind a caller comes the next one, and behind the last one the machine ends in the state in which it is
abbrev pub next_section : Geometry → KeepSectionsAt → ℕ → KeepSectionsAt × Next (Unit {0})
next_section g state caller = if nat_lt caller g.callers then (at.Section caller, Go) else (state, Done tt)

-- what comes after a state that found this word
abbrev pub keep_sections_after_at : Geometry → KeepSectionsAt → ℕ → KeepSectionsAt × Next (Unit {0})
keep_sections_after_at g (at.Section caller) old = (at.Word caller old, Go)
keep_sections_after_at g (at.Word caller word) old = next_section g (at.Word caller word) (caller + 1)

abbrev pub keep_sections_after : KeepSectionsModel → ℕ → KeepSectionsModel × Next (Unit {0})
keep_sections_after m old = (
  record m { at = (keep_sections_after_at m.geometry m.at old).0 },
  (keep_sections_after_at m.geometry m.at old).1,
)

-- ---- what keeps it in range

-- a caller that there is, and a word
pub record IsKeptIn (g : Geometry) (caller word : ℕ) : Type 0 where
  pub caller_in : caller < g.callers
  pub word_in : IsWord word

abbrev pub IsKeepSectionsAtIn : Geometry → KeepSectionsAt → Type 0
IsKeepSectionsAtIn g (at.Section caller) = caller < g.callers
IsKeepSectionsAtIn g (at.Word caller word) = IsKeptIn g caller word

-- the machine works in this table of words, at one of its slots
pub record IsKeepSectionsIn (g : Geometry) (m : KeepSectionsModel) : Type 0 where
  pub geometry_same : m.geometry ≡ g
  pub slot_in : m.slot < 8
  pub at_in : IsKeepSectionsAtIn g m.at
