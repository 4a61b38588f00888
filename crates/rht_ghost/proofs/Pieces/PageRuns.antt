-- The taking and the giving back of a run of pages, for a caller that holds such a machine, with a slot or without one: the pages that it has are
-- those whose bits the machine has cleared and not set again.
use Rattle.std.proofs.Common.{◌≡◌, ◌≢◌, ◌↔◌, ℕ, ◌+◌, ◌*◌, ◌/◌, ◌%◌, ◌^◌, ◌<◌, ◌≤◌, List, [], length, Option, true, false, bit_and, nat_lt, refl, sym, subst, inl, inr, arith}
use Rattle.std.specs.Prelude.{◌&&◌, nat_le}
use Rattle.std.specs.Int.{bit_at, bit_not, w64}
use Rattle.std.specs.List.{range_with_len}
use Rattle.std.proofs.lemmas.Bool.{cases_lt, cond_both, ltb-true, ltb-false, lt-ltb, leb-true, le-leb, and_parts, and_from, both_ways}
use Rattle.std.proofs.lemmas.Nat.Bits.{bit_at_and, bit_at_or, bit_at_not, bit_at-lt}
use Rattle.rht_words.specs.declared.env.Env.{Env}
use Rattle.rht_words.specs.declared.op.Op.{Op}
use Rattle.rht_words.specs.declared.op.Op.TheVariants.{Load}
use Rattle.rht_words.specs.declared.machine.Next.{Next}
use Rattle.rht_words.specs.declared.machine.Next.TheVariants.{Go, Done}
use Rattle.rht_words.specs.Members.{In}
use Rattle.rht_words.specs.Operations.{old_of}
use Rattle.rht_words.specs.Places.{PageMap, map_words, place_of, words_in}
use Rattle.rht_words.proofs.Memory.{Memory}
use Rattle.rht_arena.specs.PageRuns.{run_bits, IsRunIn, IsRunWord}
use Rattle.rht_arena.specs.TakeRun.{TakeRunModel, take_run_plan, take_run_after, looked, has_run, pages_of_take_run, IsRunAt, IsTakeRunAtIn, IsTakeRunIn}
use Rattle.rht_arena.specs.declared.take_run.TakeRunAt.{TakeRunAt}
use Rattle.rht_arena.specs.declared.take_run.TakeRunAt.TheVariants as takes
use Rattle.rht_arena.specs.GiveRun.{GiveRunModel, give_run_plan, give_run_after, has_yet, pages_of_give_run, IsGiveRunIn}
use Rattle.rht_arena.proofs.RunBits.{run_bits-fits, bit_at-run, bit_at-run_from, bit_at-run_until}
use Rattle.rht_ghost.proofs.Theory.Ghosts.{Ghost, has_bit}
use Rattle.rht_ghost.proofs.Theory.Wholes.{Whole}
use Rattle.rht_ghost.proofs.Theory.Knowns.{Known, KnownSlot}
use Rattle.rht_ghost.proofs.Theory.Steps.{Holding, SetsBits, mem, SilentStep, loads}
use Rattle.rht_ghost.proofs.Moves.Pages.{has_bit-is, is_has_bit}
use Rattle.rht_words.proofs.FilteredLists.{false_from, filter-In, In-filter, below-In, In-below}
use Rattle.rht_ghost.proofs.Pieces.RunPages.{pages_behind, given_below-pages, cleared-more, given-had, given-less, found_within, given_within}
use Rattle.rht_ghost.proofs.Pieces.Holdings.{taken_for, slot_for, holding, knowing, take_pages_step, give_pages_step}

-- ---- what an operation does to bits

-- an And with all ones but these bits clears those of them that it found set
clears_found : (word run bit : ℕ) → run < 2 ^ 64 → bit < 64 → bit_at (bit_and word run) bit ≡ 1
    → bit_at (bit_and word (bit_not w64 run)) bit ≡ 0
clears_found word run bit fits low is =
    omega (
      arith,
      is,
      bit_at_and word run bit,
      bit_at_and word (bit_not w64 run) bit,
      bit_at_not w64 run bit fits low,
      bit_at-lt word bit,
      bit_at-lt run bit,
    )

-- and leaves the others
clears_others : (word run bit : ℕ) → run < 2 ^ 64 → bit < 64 → bit_at (bit_and word run) bit ≢ 1
    → bit_at (bit_and word (bit_not w64 run)) bit ≡ bit_at word bit
clears_others word run bit fits low is =
    omega (
      arith,
      is,
      bit_at_and word run bit,
      bit_at_and word (bit_not w64 run) bit,
      bit_at_not w64 run bit fits low,
      bit_at-lt word bit,
      bit_at-lt run bit,
    )

module _ (env : Env) (mix : ℕ → ℕ → ℕ → ℕ) (c : ℕ) (h : Holding) (known : Known)
    (words : List ℕ) (G : Ghost) (all : length words ≡ words_in env.geometry)
    (whole : Whole env mix (mem env mix words) G) where
  abbrev M : Memory
  M = mem env mix words

  -- ---- the taking of a run of pages

  -- what the call holds with this slot and these pages, and what the caller knows of them
  abbrev pub holds_pages : Option KnownSlot → List ℕ → Holding
  holds_pages slot pages = holding env mix c h known (slot_for slot) pages

  abbrev pub knows_pages : Option KnownSlot → List ℕ → Memory → Ghost → Type 0
  knows_pages slot pages = knowing env mix c h known (slot_for slot) pages (taken_for slot pages)

  -- what an operation of the taking leads to
  abbrev pub RunMoved : Option KnownSlot → List ℕ → Op → TakeRunModel × Next (Option ℕ) → Type 0
  RunMoved slot pages op r = SilentStep env mix c words G op (holds_pages slot pages)
      (holds_pages slot (pages_behind r)) (knows_pages slot (pages_behind r))

  -- a load of a word of the map, behind which the call has as many pages
  loads_run : (slot : Option KnownSlot) (pages after : List ℕ) (place : ℕ) → after ≡ pages → knows_pages slot pages M G
      → SilentStep env mix c words G (Load place) (holds_pages slot pages) (holds_pages slot after) (knows_pages slot after)
  loads_run slot pages after place same knows =
      subst (λ ps. SilentStep env mix c words G (Load place) (holds_pages slot pages) (holds_pages slot ps)
      (knows_pages slot ps)) (sym same)
      (loads env mix c words G (Load place) (holds_pages slot pages) (holds_pages slot pages) (knows_pages slot pages)
      whole refl refl knows)

  -- of a taking in this table, state by state
  module _ (slot : Option KnownSlot) (pages : ℕ) where
    abbrev taking : TakeRunAt → TakeRunModel
    taking at = record { geometry = env.geometry; pages = pages; at = at }

    abbrev TakeStep : TakeRunAt → Type 0
    TakeStep at = RunMoved slot (pages_of_take_run (taking at)) (take_run_plan (taking at))
        (take_run_after (taking at) (old_of words (take_run_plan (taking at))))

    looked-pages : (first index word : ℕ) → IsRunAt env.geometry pages first index
        → pages_behind (looked (taking (takes.MapWord first index)) first index word)
        ≡ pages_of_take_run (taking (takes.MapWord first index))
    looked-pages first index word at =
        let m = taking (takes.MapWord first index) in
        cond_both (has_run first pages index word) _ _
        (λ r. pages_behind r ≡ pages_of_take_run m) (λ t. refl) (λ f. given_below-pages m first index at)

    run_step_at : (at : TakeRunAt) → IsTakeRunAtIn env.geometry pages at
        → knows_pages slot (pages_of_take_run (taking at)) M G → TakeStep at
    run_step_at (takes.MapWord first index) range knows =
        let m = taking (takes.MapWord first index) in
        let op = take_run_plan m in
        loads_run slot (pages_of_take_run m) (pages_behind (take_run_after m (old_of words op)))
        (place_of env.geometry (PageMap index)) (looked-pages first index (old_of words op) range) knows
    run_step_at (takes.Claim first index) range knows =
        let m = taking (takes.Claim first index) in
        let op = take_run_plan m in
        let word = old_of words op in
        let run = run_bits first pages index in
        let fits : run < 2 ^ 64 = run_bits-fits first pages index in
        let within = range.run.within in
        let until = range.word.until in
        take_pages_step env mix c h known words G all whole slot index (bit_and word run) op (pages_of_take_run m)
        (pages_behind (take_run_after m word)) (omega (arith, within, until)) (found_within m first index range word)
        (record {
          on = refl;
          found = λ bit low is. omega (arith, is, bit_at_and word run bit, bit_at-lt word bit);
          cleared = λ bit low is. clears_found word run bit fits low is;
          others = λ bit low is. clears_others word run bit fits low is;
        })
        (cleared-more m first index range word) knows
    run_step_at (takes.GiveBack first index bits) range knows =
        let m = taking (takes.GiveBack first index bits) in
        let op = take_run_plan m in
        let word = old_of words op in
        let at = range.run in
        let within = at.run.within in
        let until = at.word.until in
        give_pages_step env mix c h known words G all whole slot index bits op (pages_of_take_run m)
        (pages_behind (take_run_after m word)) (omega (arith, within, until))
        (given_within m first index at bits range.of_run)
        (record {
          on = refl;
          set = λ bit low is. omega (arith, is, bit_at_or word bits bit, bit_at-lt word bit);
          others = λ bit low is. omega (arith, is, bit_at_or word bits bit, bit_at-lt word bit, bit_at-lt bits bit);
        })
        (given-had m first index at bits range.of_run) (given-less m first index at bits range.of_run) knows

  -- the taking of a run, whose pages the call has so far
  pub run_step : (slot : Option KnownSlot) (take : TakeRunModel) → IsTakeRunIn env.geometry take
      → knows_pages slot (pages_of_take_run take) M G
      → RunMoved slot (pages_of_take_run take) (take_run_plan take)
      (take_run_after take (old_of words (take_run_plan take)))
  run_step slot take is =
      subst (λ g. let here : TakeRunModel = record { geometry = g; pages = take.pages; at = take.at } in
      knows_pages slot (pages_of_take_run here) M G → RunMoved slot (pages_of_take_run here) (take_run_plan here)
      (take_run_after here (old_of words (take_run_plan here)))) (sym is.geometry_same)
      (run_step_at slot take.pages take.at is.at_in)

  -- ---- the giving back of a run

  -- what the call has behind an operation of it
  abbrev pub given_behind : GiveRunModel × Next (Unit {0}) → List ℕ
  given_behind (m, Go) = pages_of_give_run m
  given_behind (m, Done done) = []

  abbrev pub GiveMoved : Option KnownSlot → List ℕ → Op → GiveRunModel × Next (Unit {0}) → Type 0
  GiveMoved slot pages op r = SilentStep env mix c words G op (holds_pages slot pages)
      (holds_pages slot (given_behind r)) (knows_pages slot (given_behind r))

  -- a page that is still to be given back, and the other way round
  pub yet-is : (m : GiveRunModel) (p : ℕ) → In p (pages_of_give_run m)
      → (p < m.geometry.pages) × (64 * m.index ≤ p) × (m.first ≤ p) × (p < m.first + m.pages)
  yet-is m p i =
      let member = filter-In (has_yet m) p (range_with_len 0 m.geometry.pages) i in
      let both = and_parts (nat_le (64 * m.index) p) (nat_le m.first p && nat_lt p (m.first + m.pages)) member.1 in
      let range = and_parts (nat_le m.first p) (nat_lt p (m.first + m.pages)) both.1 in (
        In-below m.geometry.pages p member.0,
        leb-true (64 * m.index) p both.0,
        leb-true m.first p range.0,
        ltb-true p (m.first + m.pages) range.1,
      )

  pub is-yet : (m : GiveRunModel) (p : ℕ) → p < m.geometry.pages → 64 * m.index ≤ p → m.first ≤ p
      → p < m.first + m.pages → In p (pages_of_give_run m)
  is-yet m p l word from until =
      In-filter (has_yet m) p (range_with_len 0 m.geometry.pages)
      (below-In m.geometry.pages p l)
      (and_from (nat_le (64 * m.index) p) (nat_le m.first p && nat_lt p (m.first + m.pages))
      (le-leb (64 * m.index) p word)
      (and_from (nat_le m.first p) (nat_lt p (m.first + m.pages)) (le-leb m.first p from)
      (lt-ltb p (m.first + m.pages) until)))

  -- what an operation of a giving back in this table does to bits and pages
  module _ (first pages index : ℕ) (run_in : IsRunIn env.geometry first pages) (in_word : IsRunWord first pages index) where
    abbrev pub giving : GiveRunModel
    giving = record { geometry = env.geometry; first = first; pages = pages; index = index }

    abbrev pub run_of_word : ℕ
    run_of_word = run_bits first pages index

    abbrev word_of_map : ℕ
    word_of_map = old_of words (give_run_plan giving)

    -- a page of the run in this word, and the other way round
    pub bit_in : (p : ℕ) → has_bit index run_of_word p ≡ true → (p / 64 ≡ index) × (first ≤ p) × (p < first + pages)
    bit_in p there =
        let bit = has_bit-is index run_of_word p there in
        let low = bit_at-run_from first pages index (p % 64) (omega arith) bit.1 in
        let high = bit_at-run_until first pages index (p % 64) (omega arith) bit.1 in
        (bit.0, omega (arith, low, bit.0), omega (arith, high, bit.0))

    is_bit : (p : ℕ) → p / 64 ≡ index → first ≤ p → p < first + pages → has_bit index run_of_word p ≡ true
    is_bit p here low high =
        is_has_bit index run_of_word p here (bit_at-run first pages index (p % 64) (omega arith)
        (omega (arith, low, here)) (omega (arith, high, here)))

    pub word_within : index < map_words env.geometry.pages
    word_within = let within = run_in.within in let until = in_word.until in omega (arith, within, until)

    pub run_among : (p : ℕ) → has_bit index run_of_word p ≡ true → p < env.geometry.pages
    run_among p there = let is = bit_in p there in let within = run_in.within in omega (arith, is.2, within)

    pub sets_run : SetsBits env.geometry index run_of_word (give_run_plan giving) word_of_map
    sets_run = record {
      on = refl;
      set = λ bit low is. omega (arith, is, bit_at_or word_of_map run_of_word bit, bit_at-lt word_of_map bit);
      others = λ bit low is. omega (
        arith,
        is,
        bit_at_or word_of_map run_of_word bit,
        bit_at-lt word_of_map bit,
        bit_at-lt run_of_word bit,
      );
    }

    pub run_had : (p : ℕ) → has_bit index run_of_word p ≡ true → In p (pages_of_give_run giving)
    run_had p there =
        let is = bit_in p there in
        is-yet giving p (run_among p there) (omega (arith, is.0)) is.1 is.2

    pub run_less : (p : ℕ) → In p (given_behind (give_run_after giving word_of_map))
        ↔ (In p (pages_of_give_run giving) × (has_bit index run_of_word p ≡ false))
    run_less p =
        cond_both {A = GiveRunModel × Next (Unit {0})} (nat_lt (64 * (index + 1)) (first + pages)) _ _
        (λ r. In p (given_behind r) ↔ (In p (pages_of_give_run giving) × (has_bit index run_of_word p ≡ false)))
        (λ t.
        let next : GiveRunModel = record giving { index = index + 1 } in (
          λ i.
              let is = yet-is next p i in (
                is-yet giving p is.0 (omega (arith, is.1)) is.2 is.3,
                false_from (has_bit index run_of_word p) (λ there. let bit = bit_in p there in omega (arith, bit.0, is.1)),
              ),
          λ both.
              let is = yet-is giving p both.0 in
              is-yet next p is.0 (elim (cases_lt p (64 * (index + 1))) [
                | inl here ↦ absurd (both_ways (has_bit index run_of_word p) both.1
                    (is_bit p (omega (arith, here, is.1)) is.2 is.3))
                | inr later ↦ later
              ]) is.2 is.3,
        ))
        (λ f.
        let last : first + pages ≤ 64 * (index + 1) = ltb-false (64 * (index + 1)) (first + pages) f in (
          λ i. absurd i,
          λ both.
              let is = yet-is giving p both.0 in
              absurd (both_ways (has_bit index run_of_word p) both.1 (is_bit p (omega (arith, is.1, is.3, last)) is.2 is.3)),
        ))

  -- of a giving back in this table
  give_run_at : (slot : Option KnownSlot) (first pages index : ℕ) → IsRunIn env.geometry first pages
      → IsRunWord first pages index
      → let give : GiveRunModel = record { geometry = env.geometry; first = first; pages = pages; index = index } in
      knows_pages slot (pages_of_give_run give) M G
      → GiveMoved slot (pages_of_give_run give) (give_run_plan give)
      (give_run_after give (old_of words (give_run_plan give)))
  give_run_at slot first pages index run_in in_word knows =
      let give = giving first pages index run_in in_word in
      let op = give_run_plan give in
      give_pages_step env mix c h known words G all whole slot index (run_bits first pages index) op (pages_of_give_run give)
      (given_behind (give_run_after give (old_of words op))) (word_within first pages index run_in in_word)
      (run_among first pages index run_in in_word) (sets_run first pages index run_in in_word)
      (run_had first pages index run_in in_word) (run_less first pages index run_in in_word) knows

  -- the giving back of a run, of whose pages the call has these still
  pub give_run_step : (slot : Option KnownSlot) (give : GiveRunModel) → IsGiveRunIn env.geometry give
      → knows_pages slot (pages_of_give_run give) M G
      → GiveMoved slot (pages_of_give_run give) (give_run_plan give)
      (give_run_after give (old_of words (give_run_plan give)))
  give_run_step slot give is =
      subst (λ g. let here : GiveRunModel = record { geometry = g; first = give.first; pages = give.pages; index = give.index } in
      knows_pages slot (pages_of_give_run here) M G → GiveMoved slot (pages_of_give_run here) (give_run_plan here)
      (give_run_after here (old_of words (give_run_plan here)))) (sym is.geometry_same)
      (give_run_at slot give.first give.pages give.index is.run is.word)
