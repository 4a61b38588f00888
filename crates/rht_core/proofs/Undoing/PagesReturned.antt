-- What each operation by which a table is given back turns: nothing, or bits of an entry or of a page of the table, or of its slot's state, which
-- it gives back so. Which entries and pages the table has is known by the words at the load of its shape.
use Rattle.std.proofs.Common.{◌≡◌, ◌≢◌, ◌⊎◌, ℕ, ◌+◌, ◌*◌, ◌/◌, ◌%◌, ◌<◌, ◌≤◌, Bool, true, false, List, [], length, Some, refl, sym, ap, ◌∙◌, subst, inl, inr, arith}
use Rattle.std.specs.Prelude.{if◌then◌else◌}
use Rattle.std.specs.List.{Any}
use Rattle.std.specs.Int.{bit_at}
use Rattle.std.proofs.lemmas.Bool.{cases_eq}
use Rattle.std.proofs.lemmas.Nat.Bits.{bit_at_or, bit_at-lt}
use Rattle.rht_words.specs.declared.env.Env.{Env}
use Rattle.rht_words.specs.declared.geometry.Geometry.{Geometry}
use Rattle.rht_words.specs.declared.op.Op.TheVariants.{Load, Store, Or}
use Rattle.rht_words.specs.Links.{page_of}
use Rattle.rht_words.specs.Operations.{op_place, old_of, word_after}
use Rattle.rht_words.specs.Places.{Slot, StateWord, PageMap, PageWord, place_of, words_in}
use Rattle.rht_words.proofs.Members.{In-range_with_len}
use Rattle.rht_words.proofs.Memory.{Memory}
use Rattle.rht_arena.specs.PageRuns.{run_bits}
use Rattle.rht_arena.specs.GiveRun.{GiveRunModel, give_run_plan, pages_of_give_run, IsGiveRunIn}
use Rattle.rht_arena.proofs.RunBits.{bit_at-run_from, bit_at-run_until}
use Rattle.rht_nest.specs.Tables.{is_nested, run_first, run_pages}
use Rattle.rht_nest.specs.Place.{top_page, top_entries}
use Rattle.rht_reclaim.specs.GiveTable.{give_page, give_table_plan_at, IsGiveTableAtIn}
use Rattle.rht_reclaim.specs.declared.give_table.GiveTableAt.{GiveTableAt}
use Rattle.rht_reclaim.specs.declared.give_table.GiveTableAt.TheVariants as gives
use Rattle.rht_reclaim.specs.ReturnHeld.{is_first_word}
use Rattle.rht_move.proofs.WorkKnowledge.{known_giving, made_giving}
use Rattle.rht_core.specs.Traces.{Did}
use Rattle.rht_core.specs.Refused.{turned}
use Rattle.rht_core.specs.Returned.{ReturnsSlot, IsTakenDown, IsReturn}
use Rattle.rht_core.specs.TablePages.{LeadsOn, IsPageOfTable, IsEntryOfTable}
use Rattle.rht_ghost.proofs.Theory.Ghosts.{PageFree, PageHeld, PageOf, Ghost, state_word}
use Rattle.rht_ghost.proofs.Theory.Ways.{first_page}
use Rattle.rht_ghost.proofs.Theory.Wholes.{Whole}
use Rattle.rht_ghost.proofs.Theory.Knowns.{known_nothing, MakesNothing, HasBack, GivesBack, InRun, Works}
use Rattle.rht_ghost.proofs.Theory.Knowledge.{WorkMeans, MakingMeans}
use Rattle.rht_ghost.proofs.Theory.Steps.{mem, Holding}
use Rattle.rht_ghost.proofs.Pieces.PageRuns.{is-yet}
use Rattle.rht_ghost.proofs.Pieces.ReturnLoads.{down-nested, top_led, leaf_led}
use Rattle.rht_ghost.proofs.Pieces.ReturnStores.{run_pages_are}
use Rattle.rht_core.proofs.Undoing.TurnedBits.{turned-far, turned-none, turned-same}
use Rattle.rht_core.proofs.Undoing.GoingBack.{clear_where}
use Rattle.rht_core.proofs.Undoing.TablesThen.{IsBelowTop, IsInMiddle, IsBelowMiddle, HasLoaded}

-- ---- a table by the words then

module _ (g : Geometry) (W : List ℕ) (shape : ℕ) where
  in_top : (of top page : ℕ) → IsBelowTop g W shape of top page → LeadsOn g W (top_page g shape) (top_entries shape) page
  in_top of top page below = record { index = top; below = below.at.used; leads = below.leads }

  -- pages of a nested one
  top_is : (nested : is_nested shape ≡ true) → IsPageOfTable g W shape (top_page g shape)
  top_is nested = inr (nested, inl refl)

  middle_is : (of top page : ℕ) → IsBelowTop g W shape of top page → IsPageOfTable g W shape page
  middle_is of top page below = inr (below.at.nested, inr (inl (in_top of top page below)))

  leaf_is : (of top page leaf below : ℕ) → IsBelowMiddle g W shape of top page leaf below → IsPageOfTable g W shape below
  leaf_is of top page leaf below is = inr (
    is.at.at.at.nested,
    inr (inr (record {
      deep = is.at.deep;
      middle = page;
      first = in_top of top page is.at.at;
      second = record { index = leaf; below = is.at.among; leads = is.leads };
    })),
  )

  -- and its entries
  top_entry_is : (of top page : ℕ) → top < 64 → IsBelowTop g W shape of top page → IsEntryOfTable g W shape (64 * top_page g shape + top)
  top_entry_is of top page low below =
      let used = below.at.used in
      record { nested = below.at.nested; entry = inl (record { page = omega (arith, low); used = omega (arith, low, used) }) }

  leaf_entry_is : (of top page leaf : ℕ) → IsInMiddle g W shape of top page leaf → IsEntryOfTable g W shape (64 * page + leaf)
  leaf_entry_is of top page leaf is =
      let low = is.among in
      let quotient : (64 * page + leaf) / 64 ≡ page = omega (arith, low) in
      record {
        nested = is.at.at.nested;
        entry = inr (record {
          deep = is.deep;
          above = subst (LeadsOn g W (top_page g shape) (top_entries shape)) (sym quotient) (in_top of top page is.at);
        });
      }

-- ---- an operation

module _ (env : Env) (mix : ℕ → ℕ → ℕ → ℕ) (c : ℕ) (h : Holding) (words : List ℕ) (G : Ghost) (all : length words ≡ words_in env.geometry)
    (whole : Whole env mix (mem env mix words) G) (words_at : ℕ → List ℕ) (slot : ℕ) (steps : List Did) (did : Did)
    (found : did.old ≡ old_of words did.op) where
  abbrev g : Geometry
  g = env.geometry

  abbrev M : Memory
  M = mem env mix words

  -- it leaves the bit, or gives back what the bit says, once the slot is freed behind it
  abbrev pub ReturnsOrLeaves : ℕ → ℕ → Type 0
  ReturnsOrLeaves place bit =
      (turned place bit did ≡ 0)
      ⊎ ((behind : List Did) → Any (ReturnsSlot g slot) behind → IsReturn g words_at place bit steps did behind)

  -- a load leaves it
  load_leaves : (from : ℕ) → did.op ≡ Load from → (place bit : ℕ) → bit < 64 → turned place bit did ≡ 0
  load_leaves from is place bit low = turned-none place bit did low (λ b l. ap (λ o. bit_at (word_after did.old o) b) is)

  module _ (state : GiveTableAt) (has : HasLoaded g words_at slot state steps) where
    abbrev W : List ℕ
    W = words_at has.load.index

    abbrev shape : ℕ
    shape = has.load.old

    abbrev down : (behind : List Did) → Any (ReturnsSlot g slot) behind → IsTakenDown g words_at slot steps behind
    down behind frees = record {
      sooner = has.sooner;
      at = has.load;
      since = has.since;
      split = has.split;
      loads = has.loads;
      retired = has.retired;
      frees = frees;
    }

    -- a store clears an entry
    clears : (index page : ℕ) → index < 64 * g.pages → IsEntryOfTable g W shape index → did.op ≡ Store (place_of g (PageWord index)) 0
        → page_of g.pages did.old ≡ Some page → IsPageOfTable g W shape page → (place bit : ℕ) → ReturnsOrLeaves place bit
    clears index page low entry stores leads of place bit = elim (cases_eq place (place_of g (PageWord index))) [
      | inr far ↦ inl (turned-far place bit did (λ at. far (sym at ∙ ap op_place stores)))
      | inl there ↦ inr (λ behind frees. inr (inl (
        slot,
        index,
        record {
          index_in = low;
          down = down behind frees;
          entry = entry;
          stores = stores;
          page = page;
          leads = leads;
          of = of;
        },
        there,
      )))
    ]

    -- a page that isn't free
    record IsGiven (page : ℕ) : Type 0 where
      within : page < g.pages
      taken : G.page page ≢ PageFree
      of : IsPageOfTable g W shape page

    -- its bit is clear
    bit_clear : (page : ℕ) → IsGiven page → bit_at (M (PageMap (page / 64))) (page % 64) ≡ 0
    bit_clear page given =
        clear_where (M (PageMap (page / 64))) (page % 64) (λ set. given.taken ((whole.pages.bits page given.within).0 set))

    -- bits of a word of the map are set
    sets : (index mask : ℕ) → did.op ≡ Or (place_of g (PageMap index)) mask
        → ((bit : ℕ) → bit < 64 → bit_at mask bit ≡ 1 → IsGiven (64 * index + bit)) → (place bit : ℕ) → bit < 64 → ReturnsOrLeaves place bit
    sets index mask is given place bit low = elim (cases_eq place (place_of g (PageMap index))) [
      | inr far ↦ inl (turned-far place bit did (λ at. far (sym at ∙ ap op_place is)))
      | inl there ↦ elim (cases_eq (bit_at mask bit) 1) [
        | inr unset ↦ inl (turned-same place bit did (λ at. ap (λ o. bit_at (word_after did.old o) bit) is ∙ leaves unset))
        | inl set ↦ inr (λ behind frees. inr (inr (
          slot,
          64 * index + bit,
          record {
            page_in = (given bit low set).within;
            down = down behind frees;
            of = (given bit low set).of;
            sets = record {
              on = ap op_place is ∙ ap (λ i. place_of g (PageMap i)) (sym quotient);
              clear = ap (λ w. bit_at w ((64 * index + bit) % 64)) old_is ∙ bit_clear (64 * index + bit) (given bit low set);
              set = ap (λ o. bit_at (word_after did.old o) ((64 * index + bit) % 64)) is
                  ∙ ap (bit_at (word_after did.old (Or (place_of g (PageMap index)) mask))) remainder ∙ now_set set;
            };
          },
          there ∙ ap (λ i. place_of g (PageMap i)) (sym quotient),
          sym remainder,
        )))
      ]
    ]
      where
        quotient : (64 * index + bit) / 64 ≡ index
        quotient = omega (arith, low)

        remainder : (64 * index + bit) % 64 ≡ bit
        remainder = omega (arith, low)

        leaves : bit_at mask bit ≢ 1 → bit_at (word_after did.old (Or (place_of g (PageMap index)) mask)) bit ≡ bit_at did.old bit
        leaves unset = omega (arith, unset, bit_at_or did.old mask bit, bit_at-lt mask bit, bit_at-lt did.old bit)

        now_set : bit_at mask bit ≡ 1 → bit_at (word_after did.old (Or (place_of g (PageMap index)) mask)) bit ≡ 1
        now_set set = omega (arith, set, bit_at_or did.old mask bit, bit_at-lt did.old bit)

        old_is : did.old ≡ M (PageMap ((64 * index + bit) / 64))
        old_is = found ∙ ap (old_of words) is ∙ ap (λ i. M (PageMap i)) (sym quotient)

    -- those of a run
    sets_run : (give : GiveRunModel) → IsGiveRunIn g give → did.op ≡ give_run_plan give
        → ((page : ℕ) → 64 * give.index ≤ page → give.first ≤ page → page < give.first + give.pages → IsGiven page)
        → (place bit : ℕ) → bit < 64 → ReturnsOrLeaves place bit
    sets_run give within is given =
        sets give.index (run_bits give.first give.pages give.index)
        (is ∙ ap (λ k. Or (place_of k (PageMap give.index)) (run_bits give.first give.pages give.index)) within.geometry_same)
        (λ bit low set. given (64 * give.index + bit) (omega arith) (bit_at-run_from give.first give.pages give.index bit low set)
        (bit_at-run_until give.first give.pages give.index bit low set))

    -- that of one page
    sets_one : (page : ℕ) → did.op ≡ give_page g page → IsGiven page → (place bit : ℕ) → bit < 64 → ReturnsOrLeaves place bit
    sets_one page is given =
        sets (page / 64) (run_bits page 1 (page / 64)) is
        (λ bit low set.
        let from = bit_at-run_from page 1 (page / 64) bit low set in
        let until = bit_at-run_until page 1 (page / 64) bit low set in
        subst IsGiven (omega (arith, from, until)) given)

  -- ---- by the state

  held_taken : (page d : ℕ) → G.page page ≡ PageHeld d → G.page page ≢ PageFree
  held_taken page d held free = let both = sym held ∙ free in cc

  owned_taken : (page τ : ℕ) → G.page page ≡ PageOf τ → G.page page ≢ PageFree
  owned_taken page τ owned free = let both = sym owned ∙ free in cc

  -- a run, with its first word, and behind that
  run_given : (give : GiveRunModel) (has : HasLoaded g words_at slot (gives.Run give) steps) → IsGiveRunIn g give
      → (first : Bool) → is_first_word give ≡ first
      → WorkMeans env mix c M G (if first then GivesBack slot (InRun give.first give.pages) else Works)
      → MakingMeans env mix c M G (if first then MakesNothing else HasBack slot (pages_of_give_run give))
      → (page : ℕ) → 64 * give.index ≤ page → give.first ≤ page → page < give.first + give.pages → IsGiven (gives.Run give) has page
  run_given give has within first is knows makes page word from until = record {
    within = let fits = within.run.within in omega (arith, until, fits);
    taken = by_word first knows makes;
    of = inl (
      has.so.flat,
      In-range_with_len (run_first g has.load.old) (run_pages g has.load.old) page (omega (arith, from, has.so.first))
          (omega (arith, until, has.so.first, has.so.pages)),
    );
  }
    where
      by_word : (first : Bool) → WorkMeans env mix c M G (if first then GivesBack slot (InRun give.first give.pages) else Works)
          → MakingMeans env mix c M G (if first then MakesNothing else HasBack slot (pages_of_give_run give)) → G.page page ≢ PageFree
      by_word true knows makes =
          owned_taken page knows.more.going.table
          ((run_pages_are env mix c h words G all whole slot give.first give.pages knows.more page).1 (from, until))
      by_word false knows makes =
          held_taken page c (makes.mine page (is-yet env mix c h known_nothing words G all whole give page
          (let fits = within.run.within in omega (arith, until, fits, ap (λ (k : Geometry). k.pages) within.geometry_same)) word from until))

  pub returns_or_leaves : (state : GiveTableAt) → state ≢ gives.FreeSlot → IsGiveTableAtIn g state → HasLoaded g words_at slot state steps
      → WorkMeans env mix c M G (known_giving slot state) → MakingMeans env mix c M G (made_giving slot state)
      → did.op ≡ give_table_plan_at g slot state → (place bit : ℕ) → bit < 64 → ReturnsOrLeaves place bit
  returns_or_leaves gives.Shape other within has knows makes is place bit low = inl (load_leaves _ is place bit low)
  returns_or_leaves (gives.Run give) other within has knows makes is place bit low =
      sets_run (gives.Run give) has give within is (run_given give has within (is_first_word give) refl knows makes) place bit low
  returns_or_leaves (gives.TopEntry of top) other within has knows makes is place bit low = inl (load_leaves _ is place bit low)
  returns_or_leaves (gives.LeafEntry of top page leaf) other within has knows makes is place bit low = inl (load_leaves _ is place bit low)
  returns_or_leaves (gives.ClearLeaf of top page leaf below) other within has knows makes is place bit low =
      let shape = has.load.old in
      let W = words_at has.load.index in
      let at = knows.more.at in
      let few = within.entry.above.page_in in
      let leaf_in = within.entry.leaf_in in
      clears (gives.ClearLeaf of top page leaf below) has (64 * page + leaf) below (omega (arith, few, leaf_in))
      (leaf_entry_is g W shape of top page leaf has.so.at) is
      (ap (page_of g.pages) (found ∙ ap (old_of words) is)
      ∙ leaf_led env mix c M G whole slot of top at.down page leaf within.entry.above.top_in at.deep at.leads leaf_in
      ∙ knows.more.leads_on)
      (leaf_is g W shape of top page leaf below has.so) place bit
  returns_or_leaves (gives.GiveLeaf of top page leaf below) other within has knows makes is place bit low =
      sets_one (gives.GiveLeaf of top page leaf below) has below is
      (record {
        within = within.below_in;
        taken = held_taken below c (makes below (inl refl));
        of = leaf_is g (words_at has.load.index) has.load.old of top page leaf below has.so;
      }) place bit low
  returns_or_leaves (gives.ClearTop of top page) other within has knows makes is place bit low =
      let shape = has.load.old in
      let W = words_at has.load.index in
      let at = knows.more.down in
      let same = has.so.at.same in
      let nested = down-nested env mix c M G whole slot of top at in
      let few = nested.top_within in
      let here : top_page g of ≡ first_page (G.table at.going.table).shape = ap (top_page g) (sym at.shape_is) ∙ omega (arith, few) in
      let top_in = within.top_in in
      clears (gives.ClearTop of top page) has (64 * top_page g of + top) page (omega (arith, few, here, top_in))
      (subst (λ s. IsEntryOfTable g W shape (64 * top_page g s + top)) (sym same) (top_entry_is g W shape of top page top_in has.so)) is
      (ap (page_of g.pages) (found ∙ ap (old_of words) is)
      ∙ top_led env mix c M G whole slot of top at top top_in ∙ knows.more.leads)
      (middle_is g W shape of top page has.so) place bit
  returns_or_leaves (gives.GivePage of top page) other within has knows makes is place bit low =
      sets_one (gives.GivePage of top page) has page is
      (record {
        within = within.page_in;
        taken = held_taken page c (makes page (inl refl));
        of = middle_is g (words_at has.load.index) has.load.old of top page has.so;
      }) place bit low
  returns_or_leaves (gives.GiveTop of) other within has knows makes is place bit low =
      let W = words_at has.load.index in
      let shape = has.load.old in
      let at = knows.more in
      let nested = down-nested env mix c M G whole slot of 64 at in
      let few = nested.top_within in
      let here : top_page g of ≡ first_page (G.table at.going.table).shape = ap (top_page g) (sym at.shape_is) ∙ omega (arith, few) in
      sets_one (gives.GiveTop of) has (top_page g of) is
      (record {
        within = omega (arith, few, here);
        taken = owned_taken (top_page g of) at.going.table (ap G.page here ∙ nested.top_of);
        of = subst (λ s. IsPageOfTable g W shape (top_page g s)) (sym has.so.same) (top_is g W shape has.so.nested);
      }) place bit low
  returns_or_leaves gives.FreeSlot other within has knows makes is place bit low = absurd (other refl)

  -- the freeing of the slot
  pub frees_slot : MakingMeans env mix c M G (made_giving slot gives.FreeSlot) → did.op ≡ give_table_plan_at g slot gives.FreeSlot
      → ReturnsSlot g slot did
  frees_slot back is = record {
    slot_in = back.within;
    stores = is;
    found = found ∙ ap (old_of words) is ∙ whole.slots.states slot back.within ∙ ap state_word back.back;
  }

  pub slot_or_leaves : ReturnsSlot g slot did → (place bit : ℕ) → (turned place bit did ≡ 0) ⊎ IsReturn g words_at place bit steps did []
  slot_or_leaves returns place bit = elim (cases_eq place (place_of g (Slot slot StateWord))) [
    | inr far ↦ inl (turned-far place bit did (λ at. far (sym at ∙ ap op_place returns.stores)))
    | inl there ↦ inr (inl (slot, returns, there))
  ]
