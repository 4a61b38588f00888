-- Where the words of entries lead where the ghost says, the way to some bucket ends at an entry in use whose word is 0; and each entry at
-- which a way ends is one of the table's.
use Rattle.std.proofs.Common.{◌≡◌, ℕ, ◌+◌, ◌*◌, ◌/◌, ◌%◌, ◌<◌, cond, Bool, true, false, Option, Some, None, refl, sym, ◌∙◌, ap, subst, inl, inr, arith}
use Rattle.std.proofs.lemmas.Nat.{mod_below}
use Rattle.std.proofs.lemmas.Bool.{both_ways}
use Rattle.rht_words.specs.declared.env.Env.{Env}
use Rattle.rht_words.specs.declared.geometry.Geometry.{Geometry}
use Rattle.rht_words.specs.declared.machine.Start.TheVariants as starts
use Rattle.rht_words.specs.Links.{page_of}
use Rattle.rht_words.specs.Shapes.{unpacked, size_of}
use Rattle.rht_nest.specs.Place.{is_deep, nested_place, missing_behind, missing_none, missing_or_last, missing_at}
use Rattle.rht_ghost.proofs.Theory.Ghosts.{Part, Row, Leaf, Middle, Top, has_entries, Table, PageOwner, PageOf, entry_word, none-some, some-same}
use Rattle.rht_ghost.proofs.Theory.LowBits.{low_alone, low_of, high_of, below_of}
use Rattle.rht_ghost.proofs.Theory.Ways.{first_page, entries_in, IsMiddleAt, StandsAs, IsInUse}
use Rattle.rht_ghost.proofs.Theory.Wholes.{place_at, IsNested}
use Rattle.rht_ghost.proofs.Theory.Entries.{depth_of, few_entries, some_entries, top_leads}
use Rattle.rht_ghost.proofs.Theory.PlacesRead.{entry_read, at_top, at_middle, begins_at_top}

module _ (env : Env) (mix : ℕ → ℕ → ℕ → ℕ) (table : Table) (page : ℕ → PageOwner) (τ : ℕ)
    (nested : IsNested env mix table page τ) (read : ℕ → ℕ)
    (reads : (j : ℕ) → page (j / 64) ≡ PageOf τ → has_entries (table.part (j / 64)) ≡ true
    → read j ≡ entry_word (table.entry j)) where
  abbrev g : Geometry
  g = env.geometry

  abbrev shape : ℕ
  shape = table.shape

  abbrev N : ℕ
  N = entries_in shape

  abbrev top : ℕ
  top = first_page shape

  abbrev first : ℕ → ℕ
  first b = 64 * top + b % N

  -- the way to a bucket ends at this entry
  pub record IsMissedAt (j : ℕ) : Type 0 where
    pub bucket : ℕ
    pub within : bucket < size_of (unpacked shape)
    pub ends : missing_at read (nested_place g shape bucket) ≡ Some j

  -- what there is behind the entry of the top page with which the way begins
  top_is : (b : ℕ) → page_of g.pages (read (first b)) ≡ table.entry (first b)
  top_is b =
      let low = mod_below b N (some_entries shape) in
      let few = few_entries shape nested.shaped in
      entry_read env mix table page τ (inr nested) read reads nested Top top (b % N) (omega (arith, low, few))
      nested.top_of nested.top_part refl

  -- behind it, in a table with two levels of entries and in one with one
  abbrev behind_first : Bool → ℕ → ℕ → Option ℕ
  behind_first deep b q = missing_or_last read (cond deep
      (starts.Running (at_middle env mix table page τ (inr nested) read reads nested b q))
      (starts.Done (place_at env mix (64 * q + b / N % 64))))

  abbrev ends_behind : ℕ → Option ℕ → Option ℕ
  ends_behind b = missing_behind (missing_or_last read) (at_top env mix table page τ (inr nested) read reads nested b)

  ends_by : (b : ℕ) → missing_at read (nested_place g shape b) ≡ ends_behind b (table.entry (first b))
  ends_by b =
      ap (missing_at read) (begins_at_top env mix table page τ (inr nested) read reads nested b)
      ∙ ap (ends_behind b) (top_is b)

  -- ---- an entry in use whose word is 0

  in_top_page : (j : ℕ) → read j ≡ 0 → j / 64 ≡ top → j % 64 < N → IsMissedAt j
  in_top_page j unset at used =
      let b = j % 64 in
      let alone : b % N ≡ b = low_alone N (some_entries shape) b used in
      let here : first b ≡ j = omega (arith, at, alone) in
      let many : b < size_of (unpacked shape) = elim (depth_of shape nested.shaped) [
        | inl shallow ↦ omega (arith, used, shallow.size)
        | inr deep ↦ omega (arith, used, deep.size)
      ] in
      record {
        bucket = b;
        within = many;
        ends = ap (missing_at read) (begins_at_top env mix table page τ (inr nested) read reads nested b)
            ∙ ap (λ w. ends_behind b (page_of g.pages w)) (ap read here ∙ unset)
            ∙ ap Some here;
      }

  in_middle_page : (j low : ℕ) → read j ≡ 0 → IsMiddleAt table low (j / 64) → IsMissedAt j
  in_middle_page j low unset at =
      let q = j / 64 in
      let b = low + N * (j % 64) in
      let some = some_entries shape in
      let low_is : b % N ≡ low = low_of N some low (j % 64) at.below in
      let high_is : b / N ≡ j % 64 = high_of N some low (j % 64) at.below in
      let here : 64 * q + b / N % 64 ≡ j = omega (arith, high_is) in
      let below = below_of N some low (j % 64) 64 at.below (omega arith) in
      let many : b < size_of (unpacked shape) = elim (depth_of shape nested.shaped) [
        | inl shallow ↦ absurd (both_ways (is_deep shape) shallow.depth at.deep)
        | inr deep ↦ omega (arith, below, deep.size)
      ] in
      record {
        bucket = b;
        within = many;
        ends = ends_by b
            ∙ ap (ends_behind b) (ap (λ k. table.entry (64 * top + k)) low_is ∙ at.entered)
            ∙ ap (λ t. behind_first t b q) at.deep
            ∙ ap (λ w. missing_behind missing_none (at_middle env mix table page τ (inr nested) read reads nested b q)
            (page_of g.pages w)) (ap read here ∙ unset)
            ∙ ap Some here;
      }

  pub missed_at : (j : ℕ) → read j ≡ 0 → page (j / 64) ≡ PageOf τ → IsInUse shape (table.part (j / 64)) (j % 64) → IsMissedAt j
  missed_at j unset of used = go (table.part (j / 64)) (nested.stands (j / 64) of) used
    where
      go : (part : Part) → StandsAs table (j / 64) part → IsInUse shape part (j % 64) → IsMissedAt j
      go Row at is = absurd is
      go (Leaf low) at is = absurd is
      go (Middle low) at is = in_middle_page j low unset at
      go Top at is = in_top_page j unset at is

  -- ---- an entry at which a way ends

  pub record IsEntryOf (j : ℕ) : Type 0 where
    pub of : page (j / 64) ≡ PageOf τ
    pub has : has_entries (table.part (j / 64)) ≡ true

  entry_of_page : (q index j : ℕ) → index < 64 → 64 * q + index ≡ j → page q ≡ PageOf τ → has_entries (table.part q) ≡ true
      → IsEntryOf j
  entry_of_page q index j low is of has =
      let same : q ≡ j / 64 = omega (arith, low, is) in
      record {
        of = subst (λ p. page p ≡ PageOf τ) same of;
        has = subst (λ p. has_entries (table.part p) ≡ true) same has;
      }

  -- behind one of the top page
  behind_entry_of : (deep : Bool) (b q j : ℕ) → is_deep shape ≡ deep → table.entry (first b) ≡ Some q
      → behind_first deep b q ≡ Some j → IsEntryOf j
  behind_entry_of false b q j depth e is = absurd (none-some refl is)
  behind_entry_of true b q j depth e is = go (page_of g.pages (read (64 * q + b / N % 64))) is
    where
      lead_part : table.part q ≡ Middle (b % N)
      lead_part =
          (top_leads env mix table page τ nested (b % N) q (mod_below b N (some_entries shape)) e).part_is
          ∙ ap (λ t. cond t (Middle (b % N)) (Leaf (b % N))) depth

      go : (behind : Option ℕ)
          → missing_behind missing_none (at_middle env mix table page τ (inr nested) read reads nested b q) behind ≡ Some j
          → IsEntryOf j
      go None at =
          entry_of_page q (b / N % 64) j (omega arith) (some-same (64 * q + b / N % 64) j at)
          (top_leads env mix table page τ nested (b % N) q (mod_below b N (some_entries shape)) e).of
          (ap has_entries lead_part)
      go (Some p) at = absurd (none-some refl at)

  pub ends_at_entry : (b j : ℕ) → missing_at read (nested_place g shape b) ≡ Some j → IsEntryOf j
  ends_at_entry b j is = go (table.entry (first b)) refl (sym (ends_by b) ∙ is)
    where
      go : (entry : Option ℕ) → table.entry (first b) ≡ entry → ends_behind b entry ≡ Some j → IsEntryOf j
      go None e at =
          let low = mod_below b N (some_entries shape) in
          let few = few_entries shape nested.shaped in
          entry_of_page top (b % N) j (omega (arith, low, few)) (some-same (first b) j at) nested.top_of
          (ap has_entries nested.top_part)
      go (Some q) e at = behind_entry_of (is_deep shape) b q j refl e at
