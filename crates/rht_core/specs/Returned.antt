-- What a call gives back of tables that were retired, by its own operations: their slots, the entries of nested ones, and their
-- pages.
use Rattle.std.specs.Prelude.{◌≡◌, ℕ, ◌*◌, ◌/◌, ◌%◌, ◌<◌, ◌⊎◌, Some, List, ◌∷◌, ◌++◌}
use Rattle.std.specs.List.{Any}
use Rattle.rht_words.specs.declared.op.Op.TheVariants.{Load, Store}
use Rattle.rht_words.specs.declared.geometry.Geometry.{Geometry}
use Rattle.rht_words.specs.Links.{page_of}
use Rattle.rht_words.specs.Places.{Slot, ShapeWord, StateWord, PageMap, PageWord, place_of, word_at}
use Rattle.rht_core.specs.Reach.{SetsBit}
use Rattle.rht_core.specs.TablePages.{IsPageOfTable, IsEntryOfTable}
use Rattle.rht_core.specs.Traces.{Did}

-- the operation frees this slot, whose table was retired until then
pub record ReturnsSlot (g : Geometry) (slot : ℕ) (did : Did) : Type 0 where
  pub slot_in : slot < 8
  pub stores : did.op ≡ Store (place_of g (Slot slot StateWord)) 0
  pub found : did.old ≡ 2

-- where these are the words before the event with each number
module _ (g : Geometry) (words_at : ℕ → List ℕ) where
  -- Between these operations and those the call takes down the table in this slot: one of the first loaded its shape, while it
  -- was retired, and one of the others frees the slot.
  pub record IsTakenDown (slot : ℕ) (before behind : List Did) : Type 0 where
    pub sooner : List Did
    pub at : Did
    pub since : List Did
    pub split : before ≡ sooner ++ at ∷ since
    pub loads : at.op ≡ Load (place_of g (Slot slot ShapeWord))
    pub retired : word_at g (words_at at.index) (Slot slot StateWord) ≡ 2
    pub frees : Any (ReturnsSlot g slot) behind

  -- The operation stores 0 in this entry of such a table, which led to a page of the table. Of which entries and pages the table
  -- had, the words say as they were at the load of its shape.
  pub record ClearsEntry (slot index : ℕ) (before : List Did) (did : Did) (behind : List Did) : Type 0 where
    pub index_in : index < 64 * g.pages
    pub down : IsTakenDown slot before behind
    pub entry : IsEntryOfTable g (words_at down.at.index) down.at.old index
    pub stores : did.op ≡ Store (place_of g (PageWord index)) 0
    pub page : ℕ
    pub leads : page_of g.pages did.old ≡ Some page
    pub of : IsPageOfTable g (words_at down.at.index) down.at.old page

  -- the operation sets the bit of this page of such a table, which was clear
  pub record ReturnsPage (slot page : ℕ) (before : List Did) (did : Did) (behind : List Did) : Type 0 where
    pub page_in : page < g.pages
    pub down : IsTakenDown slot before behind
    pub of : IsPageOfTable g (words_at down.at.index) down.at.old page
    pub sets : SetsBit (place_of g (PageMap (page / 64))) (page % 64) did

  -- With the operation the call gives back a retired table's slot, entry or page, and this is the slot's state, the entry, or the
  -- page's bit.
  abbrev pub IsReturn : ℕ → ℕ → List Did → Did → List Did → Type 0
  IsReturn place bit before did behind =
      ((slot : ℕ) × ReturnsSlot g slot did × (place ≡ place_of g (Slot slot StateWord)))
      ⊎ ((slot : ℕ) × (index : ℕ) × ClearsEntry slot index before did behind × (place ≡ place_of g (PageWord index)))
      ⊎ ((slot : ℕ) × (page : ℕ) × ReturnsPage slot page before did behind
      × (place ≡ place_of g (PageMap (page / 64))) × (bit ≡ page % 64))
