-- Each page is given as often as it is found. Of a flat table that is each page of its run once. Of a nested one it is each page as
-- often as an entry leads to it, and the top page once more.
--
-- An entry that leads to a page adds one to both numbers, of that page, and one that leads to none adds to neither. So both are the
-- same over all entries of a page, by induction over these, and then over those of the top page.
use Rattle.std.proofs.Common.{◌≡◌, ◌≢◌, ℕ, zero, suc, ◌+◌, ◌/◌, ◌%◌, ◌<◌, ◌≤◌, List, [], ◌∷◌, ◌++◌, map, Bool, true, false, ◌==◌, inl, inr, refl, sym, ap, ◌∙◌, subst, arith}
use Rattle.std.specs.Prelude.{Some, None, nat_le, nat_lt, ◌&&◌}
use Rattle.std.specs.List.{range_with_len}
use Rattle.std.specs.Int.{bit_at}
use Rattle.std.proofs.lemmas.Bool.{cases_eq, cases_lt, eq-eqb, ne_eqb}
use Rattle.std.proofs.lemmas.Bool.Decides.{nat_tests}
use Rattle.rht_words.specs.declared.op.Op.{Op}
use Rattle.rht_words.specs.declared.op.Op.TheVariants.{Load, Store}
use Rattle.rht_words.specs.declared.geometry.Geometry.{Geometry}
use Rattle.rht_words.specs.Links.{page_of}
use Rattle.rht_words.specs.Machines.{Performed}
use Rattle.rht_words.specs.Places.{PageMap, Slot, ShapeWord, StateWord, place_of, pages_at}
use Rattle.rht_words.proofs.PlacesApart.{parts_in_order}
use Rattle.rht_arena.specs.PageRuns.{run_bits, is_in_run}
use Rattle.rht_arena.specs.RunLaws.{page_place, page_bit}
use Rattle.rht_arena.proofs.RunBits.{bit_at-run, bit_at-run_from, bit_at-run_until}
use Rattle.rht_nest.specs.Place.{top_page, top_entries, is_deep}
use Rattle.rht_nest.specs.Tables.{is_nested, run_first, run_pages}
use Rattle.rht_reclaim.specs.GiveTable.{give_page, entry_at}
use Rattle.rht_reclaim.specs.GiveTableLaws.{did, IsNothing, EntryPassed, EntryWithdrawn, EntryDone, AreEntriesDone, AreLeavesDone, give_word, run_words, IsRunGiven, ArePagesGiven, sets_bit, finds_entry, once_if, times_given, times_found, IsGivenRightly, GivesEachOnce}
use Rattle.rht_nest.proofs.MakesStay.{run_of-in}
use Rattle.rht_reclaim.proofs.GivesReturn.{returns_table}

both_true : (a b : Bool) → a ≡ true → b ≡ true → (a && b) ≡ true
both_true a b first second = rw first second

first_false : (a b : Bool) → a ≡ false → (a && b) ≡ false
first_false a b is = rw is refl

second_false : (a b : Bool) → b ≡ false → (a && b) ≡ false
second_false true b is = is
second_false false b is = refl

module _ (g : Geometry) (page : ℕ) where
  given-append : (before behind : List Performed)
      → times_given g page (before ++ behind) ≡ times_given g page before + times_given g page behind
  given-append [] behind = omega arith
  given-append (step ∷ before) behind = let rest = given-append before behind in omega (arith, rest)

  found-append : (before behind : List Performed)
      → times_found g page (before ++ behind) ≡ times_found g page before + times_found g page behind
  found-append [] behind = omega arith
  found-append (step ∷ before) behind = let rest = found-append before behind in omega (arith, rest)

  -- ---- the bits that an operation on the map sets

  module _ (first pages index : ℕ) where
    abbrev bits : ℕ
    bits = run_bits first pages index

    abbrev sets : Bool
    sets = sets_bit g page (give_word g first pages index)

    sets_here : page / 64 ≡ index → first ≤ page → page < first + pages → sets ≡ true
    sets_here is from until =
        let set : bit_at bits (page % 64) ≡ 1 =
        bit_at-run first pages index (page % 64) (omega arith) (omega (arith, is, from)) (omega (arith, is, until)) in
        both_true (place_of g (PageMap index) == page_place g page) (bit_at bits (page_bit page) == 1)
        (eq-eqb (place_of g (PageMap index)) (page_place g page) (ap (λ w. place_of g (PageMap w)) (sym is)))
        (eq-eqb (bit_at bits (page % 64)) 1 set)

    sets_elsewhere : page / 64 ≢ index → sets ≡ false
    sets_elsewhere other =
        first_false (place_of g (PageMap index) == page_place g page) (bit_at bits (page_bit page) == 1)
        (ne_eqb (place_of g (PageMap index)) (page_place g page) (λ same. other (omega (arith, same))))

    sets_none : (first ≤ page → page < first + pages → ⊥) → sets ≡ false
    sets_none other = elim (cases_eq (page / 64) index) [
      | inr apart ↦ sets_elsewhere apart
      | inl is ↦
          second_false (place_of g (PageMap index) == page_place g page) (bit_at bits (page_bit page) == 1)
          (ne_eqb (bit_at bits (page % 64)) 1 (λ set.
          let from = bit_at-run_from first pages index (page % 64) (omega arith) set in
          let until = bit_at-run_until first pages index (page % 64) (omega arith) set in
          other (omega (arith, from, is)) (omega (arith, until, is))))
    ]

  -- the giving of one page is that of a run of one
  given_page : (led : ℕ) → once_if (sets_bit g page (give_page g led)) ≡ once_if (page == led)
  given_page led = elim (cases_eq page led) [
    | inl is ↦
        ap once_if (sets_here led 1 (led / 64) (omega (arith, is)) (omega (arith, is)) (omega (arith, is)))
        ∙ ap once_if (sym (eq-eqb page led is))
    | inr other ↦
        ap once_if (sets_none led 1 (led / 64) (λ from until. other (omega (arith, from, until))))
        ∙ ap once_if (sym (ne_eqb page led other))
  ]

  -- ---- a flat table

  module _ (first pages : ℕ) where
    abbrev times_in : List Op → ℕ
    times_in [] = 0
    times_in (op ∷ ops) = once_if (sets_bit g page op) + times_in ops

    given-ops : (steps : List Performed) → times_given g page steps ≡ times_in (map (λ step. step.op) steps)
    given-ops [] = refl
    given-ops (step ∷ steps) = let rest = given-ops steps in omega (arith, rest)

    abbrev word : ℕ → Op
    word index = give_word g first pages index

    none_set : (count index : ℕ) → ((i : ℕ) → index ≤ i → sets_bit g page (word i) ≡ false)
        → times_in (map word (range_with_len index count)) ≡ 0
    none_set zero index none = refl
    none_set (suc count) index none =
        let here : once_if (sets_bit g page (word index)) ≡ 0 = ap once_if (none index (omega arith)) in
        let rest = none_set count (index + 1) (λ i from. none i (omega (arith, from))) in
        omega (arith, here, rest)

    one_set : (count index : ℕ) → first ≤ page → page < first + pages → index ≤ page / 64 → page / 64 < index + count
        → times_in (map word (range_with_len index count)) ≡ 1
    one_set zero index from until low high = absurd (omega (arith, low, high))
    one_set (suc count) index from until low high = elim (cases_eq (page / 64) index) [
      | inl is ↦
          let here : once_if (sets_bit g page (word index)) ≡ 1 =
          ap once_if (sets_here first pages index is from until) in
          let rest =
          none_set count (index + 1) (λ i later. sets_elsewhere first pages i (λ same. omega (arith, is, same, later))) in
          omega (arith, here, rest)
      | inr other ↦
          let here : once_if (sets_bit g page (word index)) ≡ 0 =
          ap once_if (sets_elsewhere first pages index other) in
          let rest = one_set count (index + 1) from until (omega (arith, low, other)) (omega (arith, high)) in
          omega (arith, here, rest)
    ]

    run_set : 0 < pages → times_in (map word (range_with_len (first / 64) (run_words first pages)))
        ≡ once_if (is_in_run first pages page)
    run_set some = elim (cases_lt page first) [
      | inl before ↦
          none_set (run_words first pages) (first / 64)
          (λ i later. sets_none first pages i (λ from until. omega (arith, before, from)))
          ∙ ap once_if (sym (first_false (nat_le first page) (nat_lt page (first + pages)) (grind (arith, nat_tests, before))))
      | inr from ↦ elim (cases_lt page (first + pages)) [
        | inl until ↦
            one_set (run_words first pages) (first / 64) from until (omega (arith, from)) (omega (arith, from, until))
            ∙ ap once_if (sym (both_true (nat_le first page) (nat_lt page (first + pages)) (grind (arith, nat_tests, from)) (grind (arith, nat_tests, until))))
        | inr past ↦
            none_set (run_words first pages) (first / 64)
            (λ i later. sets_none first pages i (λ low until. omega (arith, past, until)))
            ∙ ap once_if (sym (second_false (nat_le first page) (nat_lt page (first + pages)) (grind (arith, nat_tests, past))))
      ]
    ]

    run_given : 0 < pages → (steps : List Performed) → IsRunGiven g first pages steps
        → times_given g page steps ≡ once_if (is_in_run first pages page)
    run_given some steps given = given-ops steps ∙ ap times_in given ∙ run_set some

  -- ---- entries

  -- the page is given as often as it is found
  abbrev IsBalanced : List Performed → Type 0
  IsBalanced steps = times_given g page steps ≡ times_found g page steps

  balanced-append : (before behind : List Performed) → IsBalanced before → IsBalanced behind
      → IsBalanced (before ++ behind)
  balanced-append before behind first second =
      let given = given-append before behind in
      let found = found-append before behind in
      omega (arith, first, second, given, found)

  -- an entry of a page is a word of the pages
  is_of_pages : (other index : ℕ) → nat_le (pages_at g) (entry_at g other index) ≡ true
  is_of_pages other index = grind (arith, nat_tests)

  found_not : (other index word : ℕ) → word ≢ page + 1
      → once_if (finds_entry g page (Load (entry_at g other index)) word) ≡ 0
  found_not other index word apart =
      ap once_if
      (second_false (nat_le (pages_at g) (entry_at g other index)) (word == page + 1) (ne_eqb word (page + 1) apart))

  found_here : (other index word : ℕ) → word ≡ page + 1
      → once_if (finds_entry g page (Load (entry_at g other index)) word) ≡ 1
  found_here other index word is =
      ap once_if
      (both_true (nat_le (pages_at g) (entry_at g other index)) (word == page + 1) (is_of_pages other index)
      (eq-eqb word (page + 1) is))

  module _ (page_in : page < g.pages) where
    leads_nowhere : (word : ℕ) → page_of g.pages word ≡ None → word ≢ page + 1
    leads_nowhere word none is = absurd (grind (arith, nat_tests, none, is, page_in))

    leads_there : (word led : ℕ) → page_of g.pages word ≡ Some led → word ≡ led + 1
    leads_there word led leads = grind (arith, nat_tests, leads)

    found_led : (other index word led : ℕ) → page_of g.pages word ≡ Some led
        → once_if (finds_entry g page (Load (entry_at g other index)) word) ≡ once_if (page == led)
    found_led other index word led leads =
        let is = leads_there word led leads in
        elim (cases_eq page led) [
          | inl same ↦
              found_here other index word (omega (arith, is, same)) ∙ ap once_if (sym (eq-eqb page led same))
          | inr apart ↦
              found_not other index word (λ e. apart (omega (arith, is, e)))
              ∙ ap once_if (sym (ne_eqb page led apart))
        ]

    passed-balanced : (other index : ℕ) (steps : List Performed) → EntryPassed g other index steps → IsBalanced steps
    passed-balanced other index steps passed =
        let none = found_not other index passed.found (leads_nowhere passed.found passed.none) in
        subst IsBalanced (sym passed.are) (omega (arith, none))

    module _ (Below : ℕ → List Performed → Type 0)
        (below_balanced : (led : ℕ) (steps : List Performed) → Below led steps → IsBalanced steps) where
      withdrawn-balanced : (other index : ℕ) (steps : List Performed) → EntryWithdrawn g Below other index steps
          → IsBalanced steps
      withdrawn-balanced other index steps w =
          let clears = did (Store (entry_at g other index) 0) w.cleared in
          let gives = did (give_page g w.led) w.given in
          let found = found_led other index w.found w.led w.leads in
          let given = given_page w.led in
          let below = below_balanced w.led w.below w.is_below in
          let given_all = given-append w.below (clears ∷ gives ∷ []) in
          let found_all = found-append w.below (clears ∷ gives ∷ []) in
          subst IsBalanced (sym w.are) (omega (arith, found, given, below, given_all, found_all))

      entry-balanced : (other index : ℕ) (steps : List Performed) → EntryDone g Below other index steps
          → IsBalanced steps
      entry-balanced other index steps (inl passed) = passed-balanced other index steps passed
      entry-balanced other index steps (inr withdrawn) = withdrawn-balanced other index steps withdrawn

      -- By induction over the entries.
      entries-balanced : (count other index : ℕ) (steps : List Performed)
          → AreEntriesDone g Below other index count steps → IsBalanced steps
      entries-balanced zero other index steps nothing = subst IsBalanced (sym nothing) refl
      entries-balanced (suc count) other index steps done =
          subst IsBalanced (sym done.are)
          (balanced-append done.first done.rest (entry-balanced other index done.first done.is_first)
          (entries-balanced count other (index + 1) done.rest done.is_rest))

    nothing-balanced : (led : ℕ) (steps : List Performed) → IsNothing steps → IsBalanced steps
    nothing-balanced led steps nothing = subst IsBalanced (sym nothing) refl

    leaves-balanced : (deep : Bool) (led : ℕ) (steps : List Performed) → AreLeavesDone g deep led steps
        → IsBalanced steps
    leaves-balanced true led steps done =
        entries-balanced (λ below nothing. IsNothing nothing) nothing-balanced 64 led 0 steps done
    leaves-balanced false led steps nothing = nothing-balanced led steps nothing

    -- ---- all of a table

    -- what is so of the pages' operations is so with the first and the last one
    module _ (slot : ℕ) (slot_in : slot < 8) (shape state : ℕ) (pages : List Performed) where
      abbrev all : List Performed
      all =
          did (Load (place_of g (Slot slot ShapeWord))) shape
          ∷ (pages ++ did (Store (place_of g (Slot slot StateWord)) 0) state ∷ [])

      shape_not : once_if (finds_entry g page (Load (place_of g (Slot slot ShapeWord))) shape) ≡ 0
      shape_not =
          let parts = parts_in_order g in
          ap once_if
          (first_false (nat_le (pages_at g) (place_of g (Slot slot ShapeWord))) (shape == page + 1)
          (grind (arith, nat_tests, parts, slot_in)))

      given_same : times_given g page all ≡ times_given g page pages
      given_same =
          let joined = given-append pages (did (Store (place_of g (Slot slot StateWord)) 0) state ∷ []) in
          omega (arith, joined)

      found_same : times_found g page all ≡ times_found g page pages
      found_same =
          let joined = found-append pages (did (Store (place_of g (Slot slot StateWord)) 0) state ∷ []) in
          let not = shape_not in
          omega (arith, joined, not)

      rightly : (nests : Bool) → ArePagesGiven g shape nests pages → IsGivenRightly g shape nests page all
      rightly false given =
          let run = run_of-in g shape in
          given_same ∙ run_given (run_first g shape) (run_pages g shape) run.some pages given
      rightly true given =
          let top = top_page g shape in
          let last = given.is_rest in
          let entries =
          entries-balanced (AreLeavesDone g (is_deep shape)) (leaves-balanced (is_deep shape)) (top_entries shape) top 0
          given.first given.is_first in
          let one = given_page top in
          let given_rest : times_given g page given.rest ≡ once_if (page == top) =
          ap (λ s. times_given g page s) last.are ∙ omega (arith, one) in
          let found_rest : times_found g page given.rest ≡ 0 = ap (λ s. times_found g page s) last.are in
          let given_all = ap (λ s. times_given g page s) given.are ∙ given-append given.first given.rest in
          let found_all = ap (λ s. times_found g page s) given.are ∙ found-append given.first given.rest in
          let same = given_same in
          let same_found = found_same in
          omega (arith, entries, given_rest, found_rest, given_all, found_all, same, same_found)

pub gives_each_once : GivesEachOnce
gives_each_once g slot olds page slot_in page_in done =
    let t = returns_table g slot olds done in
    record {
      shape = t.shape;
      rest = t.pages ++ did (Store (place_of g (Slot slot StateWord)) 0) t.state ∷ [];
      loads = t.are;
      rightly =
          subst (IsGivenRightly g t.shape (is_nested t.shape) page) (sym t.are)
          (rightly g page page_in slot slot_in t.shape t.state t.pages (is_nested t.shape) t.given);
    }
