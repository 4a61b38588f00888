-- Giving a retired table back: what each state performs, and what comes after it. A flat table's pages are given in a run. Of a
-- nested one each page is given once nothing leads to it, so its entry is cleared first. The pages to which its own entries lead
-- are given before that.
use Rattle.std.specs.Prelude.{◌≡◌, ℕ, ◌+◌, ◌*◌, ◌<◌, nat_lt, Option, None, Some, if◌then◌else◌}
use Rattle.rht_words.specs.declared.op.Op.{Op}
use Rattle.rht_words.specs.declared.op.Op.TheVariants.{Load, Store}
use Rattle.rht_words.specs.declared.machine.Next.{Next}
use Rattle.rht_words.specs.declared.machine.Next.TheVariants.{Go, Done}
use Rattle.rht_words.specs.declared.geometry.Geometry.{Geometry}
use Rattle.rht_words.specs.Links.{page_of}
use Rattle.rht_words.specs.Places.{PageWord, Slot, ShapeWord, StateWord, place_of}
use Rattle.rht_arena.specs.GiveRun.{GiveRunModel, give_run_new, give_run_plan, give_run_after, IsGiveRunIn}
use Rattle.rht_nest.specs.Tables.{is_nested, run_first, run_pages}
use Rattle.rht_nest.specs.Place.{top_page, top_entries, is_deep}
use Rattle.rht_reclaim.specs.declared.give_table.GiveTableAt.{GiveTableAt}
use Rattle.rht_reclaim.specs.declared.give_table.GiveTableAt.TheVariants as at

-- what contracts see of the machine
pub record GiveTableModel : Type 0 where
  pub geometry : Geometry
  pub slot : ℕ
  pub at : GiveTableAt

-- it begins with the load of the shape
abbrev pub give_table_new : Geometry → ℕ → GiveTableModel
give_table_new g slot = record { geometry = g; slot = slot; at = at.Shape }

-- the place of an entry of a page
abbrev pub entry_at : Geometry → ℕ → ℕ → ℕ
entry_at g page index = place_of g (PageWord (64 * page + index))

-- the giving back of one page
abbrev pub give_page : Geometry → ℕ → Op
give_page g page = give_run_plan (give_run_new g page 1)

-- the state's one operation
abbrev pub give_table_plan_at : Geometry → ℕ → GiveTableAt → Op
give_table_plan_at g slot at.Shape = Load (place_of g (Slot slot ShapeWord))
give_table_plan_at g slot (at.Run give) = give_run_plan give
give_table_plan_at g slot (at.TopEntry shape top) = Load (entry_at g (top_page g shape) top)
give_table_plan_at g slot (at.LeafEntry shape top page leaf) = Load (entry_at g page leaf)
give_table_plan_at g slot (at.ClearLeaf shape top page leaf below) = Store (entry_at g page leaf) 0
give_table_plan_at g slot (at.GiveLeaf shape top page leaf below) = give_page g below
give_table_plan_at g slot (at.ClearTop shape top page) = Store (entry_at g (top_page g shape) top) 0
give_table_plan_at g slot (at.GivePage shape top page) = give_page g page
give_table_plan_at g slot (at.GiveTop shape) = give_page g (top_page g shape)
give_table_plan_at g slot at.FreeSlot = Store (place_of g (Slot slot StateWord)) 0

abbrev pub give_table_plan : GiveTableModel → Op
give_table_plan m = give_table_plan_at m.geometry m.slot m.at

-- a nested table is taken down from the first entry of its top page on, and a flat one's pages are given
abbrev pub shape_seen : Geometry → ℕ → GiveTableAt
shape_seen g shape =
    if is_nested shape then at.TopEntry shape 0 else at.Run (give_run_new g (run_first g shape) (run_pages g shape))

-- once all of a flat table's pages are given the slot is
abbrev pub run_returned : GiveRunModel → Next (Unit {0}) → GiveTableAt
run_returned give Go = at.Run give
run_returned give (Done answer) = at.FreeSlot

-- behind an entry of the top page comes the next one, and behind the last one the top page is given
abbrev pub next_top : ℕ → ℕ → GiveTableAt
next_top shape top = if nat_lt (top + 1) (top_entries shape) then at.TopEntry shape (top + 1) else at.GiveTop shape

-- behind an entry of a page of entries comes the next one, and behind the last one the page's own entry is cleared
abbrev pub next_leaf : ℕ → ℕ → ℕ → ℕ → GiveTableAt
next_leaf shape top page leaf =
    if nat_lt (leaf + 1) 64 then at.LeafEntry shape top page (leaf + 1) else at.ClearTop shape top page

-- an entry of the top page that leads to a page: with two levels its entries come first, and else the entry is cleared
abbrev pub top_seen : ℕ → ℕ → Option ℕ → GiveTableAt
top_seen shape top None = next_top shape top
top_seen shape top (Some page) = if is_deep shape then at.LeafEntry shape top page 0 else at.ClearTop shape top page

-- an entry of a page of entries that leads to a page of buckets is cleared
abbrev pub leaf_seen : ℕ → ℕ → ℕ → ℕ → Option ℕ → GiveTableAt
leaf_seen shape top page leaf None = next_leaf shape top page leaf
leaf_seen shape top page leaf (Some below) = at.ClearLeaf shape top page leaf below

-- what comes after a state that found this word
abbrev pub give_table_after_at : Geometry → GiveTableAt → ℕ → GiveTableAt × Next (Unit {0})
give_table_after_at g at.Shape word = (shape_seen g word, Go)
give_table_after_at g (at.Run give) word = (run_returned (give_run_after give word).0 (give_run_after give word).1, Go)
give_table_after_at g (at.TopEntry shape top) word = (top_seen shape top (page_of g.pages word), Go)
give_table_after_at g (at.LeafEntry shape top page leaf) word =
    (leaf_seen shape top page leaf (page_of g.pages word), Go)
give_table_after_at g (at.ClearLeaf shape top page leaf below) word = (at.GiveLeaf shape top page leaf below, Go)
give_table_after_at g (at.GiveLeaf shape top page leaf below) word = (next_leaf shape top page leaf, Go)
give_table_after_at g (at.ClearTop shape top page) word = (at.GivePage shape top page, Go)
give_table_after_at g (at.GivePage shape top page) word = (next_top shape top, Go)
give_table_after_at g (at.GiveTop shape) word = (at.FreeSlot, Go)
give_table_after_at g at.FreeSlot word = (at.FreeSlot, Done tt)

abbrev pub give_table_after : GiveTableModel → ℕ → GiveTableModel × Next (Unit {0})
give_table_after m word = (
  record m { at = (give_table_after_at m.geometry m.at word).0 },
  (give_table_after_at m.geometry m.at word).1,
)

-- ---- what keeps it in range

-- an entry of the top page, and the page to which it leads
pub record IsTopIn (g : Geometry) (top page : ℕ) : Type 0 where
  pub top_in : top < 64
  pub page_in : page < g.pages

-- and an entry of that page
pub record IsLeafIn (g : Geometry) (top page leaf : ℕ) : Type 0 where
  pub above : IsTopIn g top page
  pub leaf_in : leaf < 64

-- and the page to which that leads
pub record IsBelowIn (g : Geometry) (top page leaf below : ℕ) : Type 0 where
  pub entry : IsLeafIn g top page leaf
  pub below_in : below < g.pages

-- the state names entries and pages that there are
abbrev pub IsGiveTableAtIn : Geometry → GiveTableAt → Type 0
IsGiveTableAtIn g at.Shape = Unit {0}
IsGiveTableAtIn g (at.Run give) = IsGiveRunIn g give
IsGiveTableAtIn g (at.TopEntry shape top) = top < 64
IsGiveTableAtIn g (at.LeafEntry shape top page leaf) = IsLeafIn g top page leaf
IsGiveTableAtIn g (at.ClearLeaf shape top page leaf below) = IsBelowIn g top page leaf below
IsGiveTableAtIn g (at.GiveLeaf shape top page leaf below) = IsBelowIn g top page leaf below
IsGiveTableAtIn g (at.ClearTop shape top page) = IsTopIn g top page
IsGiveTableAtIn g (at.GivePage shape top page) = IsTopIn g top page
IsGiveTableAtIn g (at.GiveTop shape) = Unit {0}
IsGiveTableAtIn g at.FreeSlot = Unit {0}

-- the machine works in this table of words, at one of its slots
pub record IsGiveTableIn (g : Geometry) (m : GiveTableModel) : Type 0 where
  pub geometry_same : m.geometry ≡ g
  pub slot_in : m.slot < 8
  pub at_in : IsGiveTableAtIn g m.at
