-- Where the way to a bucket over the entries of a nested table leads, by the words: the bucket is missing exactly where the words lead to
-- none, and from each entry on they lead where they did from the first one.
use Rattle.std.proofs.Common.{◌≡◌, ◌≢◌, ℕ, ◌/◌, ◌<◌, cond, Bool, true, false, Option, Some, None, refl, sym, ◌∙◌, ap, subst, inl, inr, arith}
use Rattle.std.specs.Option.{option_map}
use Rattle.std.proofs.lemmas.Bool.{le-ltb, both_ways}
use Rattle.rht_words.specs.declared.env.Env.{Env}
use Rattle.rht_words.specs.declared.geometry.Geometry.{Geometry}
use Rattle.rht_words.specs.declared.machine.Start.TheVariants as starts
use Rattle.rht_words.specs.Links.{page_of}
use Rattle.rht_words.specs.Places.{PageWord, IsBucketPlace, place_of}
use Rattle.rht_words.specs.Shapes.{unpacked, size_of}
use Rattle.rht_words.proofs.Memory.{Memory}
use Rattle.rht_nest.specs.Tables.{is_nested}
use Rattle.rht_nest.specs.Place.{PlaceModel, is_deep, flat_place, nested_place, picked, entered, behind_entry, place_at_once, place_or_last, read_last, read_place, place_in}
use Rattle.rht_ghost.proofs.Theory.Ghosts.{Ghost, none-some, some-same}
use Rattle.rht_ghost.proofs.Theory.Wholes.{place_at, word_index, index-place_at, home, hash_in, IsNested, Whole, IsThere, at-there, current-there}
use Rattle.rht_ghost.proofs.Theory.PlacesRead.{leads_to_middle, middle_behind, entries_in_words, placed_in_words}
use Rattle.rht_ghost.proofs.Theory.Passed.{hash-below, place-word}
use Rattle.rht_ghost.proofs.Theory.Knowns.{KnownRehash}
use Rattle.rht_ghost.proofs.Theory.Knowledge.{IsWayIn, IsWayTo, IsPassing, IsAtHome, IsNearing}

-- by the words of the pages no page is missing on the way from this entry on
abbrev pub words_of_pages : Memory → ℕ → ℕ
words_of_pages M j = M (PageWord j)

abbrev pub IsPlaced : Memory → PlaceModel → Type 0
IsPlaced M place = read_place (words_of_pages M) place ≢ None

-- ---- behind an entry

-- where another entry is behind it, it is the first of two, and the other the last
pub record IsFirstOfTwo (m next : PlaceModel) : Type 0 where
  pub deep : m.deep ≡ true
  pub last : next.deep ≡ false

pub first_of_two : (m next : PlaceModel) (page : ℕ) → entered m page ≡ starts.Running next → IsFirstOfTwo m next
first_of_two m next page = go m.deep refl
  where
    go : (deep : Bool) → m.deep ≡ deep → cond deep
        (starts.Running (record { geometry = m.geometry; entry = picked m page; rest = m.rest / 64; deep = false }))
        (starts.Done (place_of m.geometry (PageWord (picked m page)))) ≡ starts.Running next → IsFirstOfTwo m next
    go false is e = absurd (cc)
    go true is e =
        let same : record { geometry = m.geometry; entry = picked m page; rest = m.rest / 64; deep = false } ≡ next = cc in
        record { deep = is; last = sym (ap (λ (n : PlaceModel). n.deep) same) }

-- the last one is read at once
read_at_last : (read : ℕ → ℕ) (m : PlaceModel) → m.deep ≡ false → read_place read m ≡ read_last read m
read_at_last read m last = go (page_of m.geometry.pages (read m.entry))
  where
    go : (entry : Option ℕ) → behind_entry (place_or_last read) m entry ≡ behind_entry place_at_once m entry
    go None = refl
    go (Some page) = ap (λ t. place_or_last read (cond t
        (starts.Running (record { geometry = m.geometry; entry = picked m page; rest = m.rest / 64; deep = false }))
        (starts.Done (place_of m.geometry (PageWord (picked m page)))))) last
        ∙ ap (λ t. place_at_once (cond t
        (starts.Running (record { geometry = m.geometry; entry = picked m page; rest = m.rest / 64; deep = false }))
        (starts.Done (place_of m.geometry (PageWord (picked m page)))))) (sym last)

-- so it is read from the entry on to which the first one leads
read_behind : (read : ℕ → ℕ) (m next : PlaceModel) (page : ℕ) → page_of m.geometry.pages (read m.entry) ≡ Some page
    → entered m page ≡ starts.Running next → read_place read next ≡ read_place read m
read_behind read m next page is e =
    read_at_last read next (first_of_two m next page e).last
    ∙ ap (place_or_last read) (sym e)
    ∙ ap (behind_entry (place_or_last read) m) (sym is)

-- and what it reads is behind the entry at which it stands
pub read_by_entry : (read : ℕ → ℕ) (m : PlaceModel) (g : Geometry) (entry : Option ℕ) → m.geometry ≡ g
    → page_of g.pages (read m.entry) ≡ entry → read_place read m ≡ behind_entry (place_or_last read) m entry
read_by_entry read m g entry same is =
    ap (λ (g : Geometry). behind_entry (place_or_last read) m (page_of g.pages (read m.entry))) same
    ∙ ap (behind_entry (place_or_last read) m) is

module _ (env : Env) (mix : ℕ → ℕ → ℕ → ℕ) where
  -- ---- the table is nested, or it isn't

  pub nested_placed : (M : Memory) (G : Ghost) → Whole env mix M G → (τ : ℕ) → IsThere G τ
      → is_nested (G.table τ).shape ≡ true → IsNested env mix (G.table τ) G.page τ
  nested_placed M G whole τ is_there is = elim (whole.tables.each τ is_there).placed [
    | inl flat ↦ absurd (both_ways (is_nested (G.table τ).shape)
        (le-ltb 0 (unpacked (G.table τ).shape).nest (omega (arith, flat.flat))) is)
    | inr nested ↦ nested
  ]

  -- the word of the bucket with this number has this place
  pub record IsPlaceOf (G : Ghost) (τ number place : ℕ) : Type 0 where
    pub bucket : IsBucketPlace env.geometry place
    pub here : (G.table τ).place number ≡ Some (word_index env mix place)

  module _ (M : Memory) (G : Ghost) (whole : Whole env mix M G) (τ number : ℕ) (is_there : IsThere G τ)
      (below : number < size_of (unpacked (G.table τ).shape)) where
    abbrev shape_of_table : ℕ
    shape_of_table = (G.table τ).shape

    abbrev read : ℕ → ℕ
    read = words_of_pages M

    -- the entry with which the way begins where the table is nested, and the place where it is flat
    abbrev at_first : PlaceModel
    at_first = nested_place env.geometry shape_of_table number

    abbrev in_row : ℕ
    in_row = flat_place env.geometry shape_of_table number

    -- the place of the bucket's word as the ghost has it
    abbrev there : Option ℕ
    there = option_map (place_at env mix) ((G.table τ).place number)

    -- as the words have it it is the same
    in_words : place_in read env.geometry shape_of_table number ≡ there
    in_words = placed_in_words env mix M G whole τ number is_there below

    pub flat_read : is_nested shape_of_table ≡ false → there ≡ Some in_row
    flat_read flat =
        sym in_words
        ∙ ap (λ t. cond t (read_place read at_first) (Some in_row)) flat

    first_read : is_nested shape_of_table ≡ true → read_place read at_first ≡ there
    first_read nested = ap (λ t. cond t (read_place read at_first) (Some in_row)) (sym nested) ∙ in_words

    module _ (place : PlaceModel) (to : IsWayIn env mix G number τ place) where
      is : IsNested env mix (G.table τ) G.page τ
      is = nested_placed M G whole τ is_there to.nested

      -- the words lead to the bucket, where it is there
      pub way_read : read_place read place ≡ there
      way_read = elim to.way [
        | inl first ↦ ap (read_place read) first ∙ first_read to.nested
        | inr second ↦
            let led = middle_behind env mix (G.table τ) G.page τ (whole.tables.each τ is_there).placed read
            (entries_in_words env mix M G whole τ is_there) is number second.page second.of second.part_is in
            read_behind read at_first place second.page led second.place_is
            ∙ first_read to.nested
      ]

      -- and where the entry leads to a page of entries, the way goes on there
      pub way_next : (next : PlaceModel) (page : ℕ) → page_of env.geometry.pages (read place.entry) ≡ Some page
          → entered place page ≡ starts.Running next → IsWayIn env mix G number τ next
      way_next next page leads e = record {
        nested = to.nested;
        way = elim to.way [
          | inl first ↦
              let two = first_of_two place next page e in
              let deep : is_deep shape_of_table ≡ true = ap (λ (m : PlaceModel). m.deep) (sym first) ∙ two.deep in
              let led = ap (λ (m : PlaceModel). page_of env.geometry.pages (read m.entry)) (sym first) ∙ leads in
              let middle = leads_to_middle env mix (G.table τ) G.page τ (whole.tables.each τ is_there).placed read
              (entries_in_words env mix M G whole τ is_there) is number page led deep in
              inr (record {
                page = page;
                of = middle.0;
                part_is = middle.1;
                place_is = ap (λ m. entered m page) (sym first) ∙ e;
              })
          | inr second ↦
              let before = first_of_two at_first place second.page second.place_is in
              let two = first_of_two place next page e in
              absurd (both_ways place.deep before.last two.deep)
        ];
      }

    -- where the way has come to a place, the bucket's word is there
    pub place_of_bucket : (place : ℕ) → there ≡ Some place → IsPlaceOf G τ number place
    place_of_bucket place = go ((G.table τ).place number) refl
      where
        go : (word : Option ℕ) → (G.table τ).place number ≡ word → option_map (place_at env mix) word ≡ Some place
            → IsPlaceOf G τ number place
        go None here is = absurd (cc)
        go (Some j) here is =
            let same : place_at env mix j ≡ place = some-same (place_at env mix j) place is in
            let within = (place-word env mix M G whole τ number j is_there below here).within in
            record {
              bucket = subst (IsBucketPlace env.geometry) same (omega arith, omega (arith, within));
              here = here ∙ ap Some (sym (index-place_at env mix j)) ∙ ap (λ p. Some (word_index env mix p)) same;
            }

  -- ---- on the way to the bucket of the current table that is to be emptied next

  module _ (M : Memory) (G : Ghost) (whole : Whole env mix M G) (root : KnownRehash) (number : ℕ) (place : PlaceModel)
      (near : IsNearing env mix G root number place) where
    -- the words lead to the bucket, where it is there
    pub near_read : read_place (words_of_pages M) place
        ≡ option_map (place_at env mix) ((G.table G.current).place number)
    near_read = way_read M G whole G.current number (current-there env mix whole.tables) near.below place near.to

    -- and where the entry leads to a page of entries, the way goes on there
    pub near_next : (next : PlaceModel) (page : ℕ) → page_of env.geometry.pages (M (PageWord place.entry)) ≡ Some page
        → entered place page ≡ starts.Running next → IsNearing env mix G root number next
    near_next next page leads e = record {
      empties = near.empties;
      below = near.below;
      to = way_next M G whole G.current number (current-there env mix whole.tables) near.below place near.to next page leads e;
    }

  -- ---- on the way to the bucket of a port

  module _ (M : Memory) (G : Ghost) (whole : Whole env mix M G) (port τ : ℕ) (is_there : IsThere G τ) where
    abbrev number : ℕ
    number = hash_in env mix G port τ

    below : number < size_of (unpacked (G.table τ).shape)
    below = hash-below env mix M G whole port τ

    -- in a flat table its place is known at once
    pub home_flat : is_nested (G.table τ).shape ≡ false
        → option_map (place_at env mix) (home env mix G port τ) ≡ Some (flat_place env.geometry (G.table τ).shape number)
    home_flat = flat_read M G whole τ number is_there below

    -- where the words lead to a place, it is that of the bucket's word
    pub home_place : (place : ℕ) → option_map (place_at env mix) (home env mix G port τ) ≡ Some place
        → IsPlaceOf G τ number place
    home_place = place_of_bucket M G whole τ number is_there below

    module _ (place : PlaceModel) (to : IsWayTo env mix G port τ place) where
      -- the words lead to the port's bucket
      pub on_way_read : read_place (words_of_pages M) place ≡ option_map (place_at env mix) (home env mix G port τ)
      on_way_read = way_read M G whole τ number is_there below place to

      -- and where the entry leads to a page of entries, the way to it goes on there
      pub on_way_next : (next : PlaceModel) (page : ℕ) → page_of env.geometry.pages (M (PageWord place.entry)) ≡ Some page
          → entered place page ≡ starts.Running next → IsWayTo env mix G port τ next
      on_way_next = way_next M G whole τ number is_there below place to

  -- ---- where the way ends

  -- where the bucket's word has a place, the way has come there
  pub at_home : {c : ℕ} (M : Memory) (G : Ghost) → Whole env mix M G → (port slot shape place : ℕ)
      → (passing : IsPassing env mix c G port slot) → (G.table passing.at.table).shape ≡ shape
      → option_map (place_at env mix) (home env mix G port passing.at.table) ≡ Some place
      → IsAtHome env mix c G port slot (Some shape) place
  at_home M G whole port slot shape place passing shape_is is =
      let at = home_place M G whole port passing.at.table (at-there passing.at) place is in
      record { passing = passing; shape_is = shape_is; bucket = at.bucket; here = at.here }

  -- and where the words lead to none it is missing
  pub missing_home : (word : Option ℕ) → option_map (place_at env mix) word ≡ None → word ≡ None
  missing_home None is = refl
  missing_home (Some j) is = absurd (cc)

  -- ---- a bucket that is there stays so

  pub placed-stays : (M M' : Memory) (G G' : Ghost) → Whole env mix M G → Whole env mix M' G'
      → (port τ : ℕ) (place : PlaceModel) → IsThere G τ → IsThere G' τ
      → IsWayTo env mix G port τ place → IsWayTo env mix G' port τ place
      → ((j : ℕ) → home env mix G port τ ≡ Some j → home env mix G' port τ ≡ Some j)
      → IsPlaced M place → IsPlaced M' place
  placed-stays M M' G G' whole whole' port τ place there there' to to' homes placed =
      go (home env mix G port τ) refl
    where
      read : read_place (words_of_pages M) place ≡ option_map (place_at env mix) (home env mix G port τ)
      read = on_way_read M G whole port τ there place to

      go : (word : Option ℕ) → home env mix G port τ ≡ word → IsPlaced M' place
      go None here = absurd (placed (read ∙ ap (option_map (place_at env mix)) here))
      go (Some j) here = λ none.
          none-some none (on_way_read M' G' whole' port τ there' place to'
          ∙ ap (option_map (place_at env mix)) (homes j here))
