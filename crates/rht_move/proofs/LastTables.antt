-- Whatever words it is told, the search for the last table stays among the slots that there are. It works on words of slots.
use Rattle.std.proofs.Common.{ℕ, ◌<◌, sym, subst}
use Rattle.std.specs.Prelude.{Option, Some, None}
use Rattle.rht_words.specs.declared.geometry.Geometry.{Geometry}
use Rattle.rht_words.specs.declared.machine.Next.{Next}
use Rattle.rht_words.specs.Links.{slot_of}
use Rattle.rht_words.specs.Places.{Slot, ShapeWord, FutureWord}
use Rattle.rht_words.specs.Planned.{IsWord, IsPlannedIn}
use Rattle.rht_words.proofs.LinksRead.{slot_of-in, IsSlotOrNone}
use Rattle.rht_words.proofs.PlannedWords.{planned_load}
use Rattle.rht_move.specs.LastTable.{LastTableModel, last_table_plan, last_table_plan_at, last_table_after, last_table_after_at, next_or_shape, IsLastTableAtIn, IsLastTableIn, IsLastEndIn}
use Rattle.rht_move.specs.declared.last_table.Last.{Last}
use Rattle.rht_move.specs.declared.last_table.LastTableAt.{LastTableAt}
use Rattle.rht_move.specs.declared.last_table.LastTableAt.TheVariants as at

-- the search stays in its table of words, and what it has found is a slot with its shape
pub record LastTableStays (g : Geometry) (next : LastTableModel × Next Last) : Type 0 where
  pub seek_in : IsLastTableIn g next.0
  pub end_in : IsLastEndIn next.1

next-in : (table : ℕ) (future : Option ℕ) → table < 8 → IsSlotOrNone future
    → IsLastTableAtIn (next_or_shape table future)
next-in table None table_in future_in = table_in
next-in table (Some next) table_in future_in = future_in

module _ (g : Geometry) where
  last_table_stays_at : (m : LastTableModel) (at : LastTableAt) (word : ℕ) → IsLastTableIn g m
      → IsLastTableAtIn at → IsWord word → LastTableStays g (last_table_after_at m at word)
  last_table_stays_at m (at.Future table) word within here told = record {
    seek_in = record {
      geometry_same = within.geometry_same;
      at_in = next-in table (slot_of word) here (slot_of-in word);
    };
    end_in = tt;
  }
  last_table_stays_at m (at.Shape table) word within here told =
      record { seek_in = within; end_in = record { table_in = here; shape_in = told } }

  pub last_table_stays : (m : LastTableModel) (word : ℕ) → IsLastTableIn g m → IsWord word
      → LastTableStays g (last_table_after m word)
  last_table_stays m word within told = last_table_stays_at m m.at word within within.at_in told

  planned_last_table_at : (at : LastTableAt) → IsLastTableAtIn at → IsPlannedIn g (last_table_plan_at g at)
  planned_last_table_at (at.Future table) here = planned_load g (Slot table FutureWord) (here, tt) tt
  planned_last_table_at (at.Shape table) here = planned_load g (Slot table ShapeWord) (here, tt) tt

  -- what it performs is on a word of a slot
  pub planned_last_table : (m : LastTableModel) → IsLastTableIn g m → IsPlannedIn g (last_table_plan m)
  planned_last_table m within =
      subst (λ (h : Geometry). IsPlannedIn g (last_table_plan_at h m.at)) (sym within.geometry_same)
      (planned_last_table_at m.at within.at_in)
