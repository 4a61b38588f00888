-- What the giving back of retired tables holds in each state. A table leaves its slot with the first operation that gives pages of its run,
-- or its top page. From there on the slot is held until it is freed, and the pages that are still to be given. Of a nested table a page
-- is held from the clearing of its entry to its giving back.
use Rattle.std.specs.Prelude.{ℕ, ◌/◌, ◌==◌, Bool, Option, None, Some, List, [], ◌∷◌, if◌then◌else◌}
use Rattle.rht_arena.specs.GiveRun.{GiveRunModel, pages_of_give_run}
use Rattle.rht_reclaim.specs.declared.give_table.GiveTableAt.{GiveTableAt}
use Rattle.rht_reclaim.specs.declared.give_table.GiveTableAt.TheVariants as gives
use Rattle.rht_reclaim.specs.declared.return_tables.ReturnTablesAt.{ReturnTablesAt}
use Rattle.rht_reclaim.specs.declared.return_tables.ReturnTablesAt.TheVariants as at

-- no page of the run was given so far
abbrev pub is_first_word : GiveRunModel → Bool
is_first_word give = give.index == give.first / 64

abbrev pub slot_of_give_table : ℕ → GiveTableAt → Option ℕ
slot_of_give_table slot gives.Shape = None
slot_of_give_table slot (gives.Run give) = if is_first_word give then None else Some slot
slot_of_give_table slot (gives.TopEntry shape top) = None
slot_of_give_table slot (gives.LeafEntry shape top page leaf) = None
slot_of_give_table slot (gives.ClearLeaf shape top page leaf below) = None
slot_of_give_table slot (gives.GiveLeaf shape top page leaf below) = None
slot_of_give_table slot (gives.ClearTop shape top page) = None
slot_of_give_table slot (gives.GivePage shape top page) = None
slot_of_give_table slot (gives.GiveTop shape) = None
slot_of_give_table slot gives.FreeSlot = Some slot

abbrev pub pages_of_give_table : GiveTableAt → List ℕ
pages_of_give_table gives.Shape = []
pages_of_give_table (gives.Run give) = if is_first_word give then [] else pages_of_give_run give
pages_of_give_table (gives.TopEntry shape top) = []
pages_of_give_table (gives.LeafEntry shape top page leaf) = []
pages_of_give_table (gives.ClearLeaf shape top page leaf below) = []
pages_of_give_table (gives.GiveLeaf shape top page leaf below) = below ∷ []
pages_of_give_table (gives.ClearTop shape top page) = []
pages_of_give_table (gives.GivePage shape top page) = page ∷ []
pages_of_give_table (gives.GiveTop shape) = []
pages_of_give_table gives.FreeSlot = []

abbrev pub slot_of_returning : ReturnTablesAt → Option ℕ
slot_of_returning (at.State slot) = None
slot_of_returning (at.KeptWord slot caller) = None
slot_of_returning (at.SectionWord slot caller kept) = None
slot_of_returning (at.Giving give) = slot_of_give_table give.slot give.at

abbrev pub pages_of_returning : ReturnTablesAt → List ℕ
pages_of_returning (at.State slot) = []
pages_of_returning (at.KeptWord slot caller) = []
pages_of_returning (at.SectionWord slot caller kept) = []
pages_of_returning (at.Giving give) = pages_of_give_table give.at
