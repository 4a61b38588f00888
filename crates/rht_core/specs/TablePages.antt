-- The pages of a table, as the words have them: the run of a flat one, and in a nested one the top page and each page to which an
-- entry leads. And its entries.
use Rattle.std.specs.Prelude.{◌≡◌, ℕ, ◌+◌, ◌*◌, ◌/◌, ◌%◌, ◌<◌, ◌⊎◌, true, false, Some, List}
use Rattle.rht_words.specs.declared.geometry.Geometry.{Geometry}
use Rattle.rht_words.specs.Links.{page_of}
use Rattle.rht_words.specs.Members.{In}
use Rattle.rht_nest.specs.Place.{top_page, top_entries, is_deep}
use Rattle.rht_nest.specs.Tables.{is_nested, pages_of_table}
use Rattle.rht_stands.specs.StandsFor.{page_word}

module _ (g : Geometry) (words : List ℕ) where
  -- one of the first entries of a page, of which there are so many, leads to another page
  pub record LeadsOn (from count page : ℕ) : Type 0 where
    pub index : ℕ
    pub below : index < count
    pub leads : page_of g.pages (page_word g words (64 * from + index)) ≡ Some page

  -- with two levels of entries one of the top page leads to a page one of whose entries leads to this page
  pub record LeadsOver (shape page : ℕ) : Type 0 where
    pub deep : is_deep shape ≡ true
    pub middle : ℕ
    pub first : LeadsOn (top_page g shape) (top_entries shape) middle
    pub second : LeadsOn middle 64 page

  abbrev pub IsNestedPage : ℕ → ℕ → Type 0
  IsNestedPage shape page =
      (page ≡ top_page g shape) ⊎ LeadsOn (top_page g shape) (top_entries shape) page ⊎ LeadsOver shape page

  -- the page is one of the table whose shape is packed into this word
  abbrev pub IsPageOfTable : ℕ → ℕ → Type 0
  IsPageOfTable shape page =
      ((is_nested shape ≡ false) × In page (pages_of_table g shape)) ⊎ ((is_nested shape ≡ true) × IsNestedPage shape page)

  -- at this index, among the words of all pages, stands an entry of the top page that is in use
  pub record IsTopEntry (shape index : ℕ) : Type 0 where
    pub page : index / 64 ≡ top_page g shape
    pub used : index % 64 < top_entries shape

  -- or, with two levels of entries, an entry of a page to which such a one leads
  pub record IsLowerEntry (shape index : ℕ) : Type 0 where
    pub deep : is_deep shape ≡ true
    pub above : LeadsOn (top_page g shape) (top_entries shape) (index / 64)

  -- one of the two, of a nested table of this shape
  pub record IsEntryOfTable (shape index : ℕ) : Type 0 where
    pub nested : is_nested shape ≡ true
    pub entry : IsTopEntry shape index ⊎ IsLowerEntry shape index
