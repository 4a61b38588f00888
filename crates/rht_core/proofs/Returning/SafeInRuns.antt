-- In every run nobody in a section could reach what an operation gives back: it is a caller's own until then, or was a table's to which no
-- open section comes, or is a node that no section has met. And what could be reached is some table's or was a port's.
use Rattle.std.proofs.Common.{◌≡◌, ◌≢◌, ◌⊎◌, ℕ, suc, ◌/◌, ◌%◌, ◌<◌, ◌≤◌, List, length, Option, Some, None, true, false, take, drop, slice_index, refl, sym, ◌∙◌, ap, subst, inl, inr, arith}
use Rattle.std.specs.Int.{bit_at}
use Rattle.std.specs.Option.{is_some}
use Rattle.std.proofs.lemmas.Bool.{both_ways, cases_lt}
use Rattle.std.proofs.lemmas.List.{take-append-drop}
use Rattle.rht_words.specs.declared.op.Op.{Op}
use Rattle.rht_words.specs.declared.env.Env.{Env}
use Rattle.rht_words.specs.Operations.{op_place, old_of, word_after, applied}
use Rattle.rht_words.specs.Places.{Address, Slot, StateWord, NodeMap, PageMap, IsAddress, place_of, words_in}
use Rattle.rht_words.proofs.EachElement.{AllByRecursion-cut}
use Rattle.rht_words.proofs.Memory.{is_write}
use Rattle.rht_core.specs.declared.event.Event.{Event}
use Rattle.rht_core.specs.Reach.{Thing, TableIn, PageAt, NodeAt, CouldReach, IsFreeThing, GivesBack, NobodyReaches, Safe, NeverFree}
use Rattle.rht_core.specs.Runs.{Core, run_of, planned_in, IsAdmitted, IsAdmittedEvent}
use Rattle.rht_core.specs.Standings.{standing}
use Rattle.rht_core.specs.Traces.{Did}
use Rattle.rht_core.proofs.Events.Invariants.{StepOf, step_of}
use Rattle.rht_ghost.proofs.Theory.Frames.{Made, GoesBack}
use Rattle.rht_ghost.proofs.Theory.Ghosts.{Ghost, Owner, Free, NodeHeld, First, Leaving, Behind, Taken, PageOwner, PageFree, PageHeld, PageOf, SlotOwner, SlotFree, SlotHeld, Live, Retiring, Retired, Back, slot_holder, IsUsed, is_used, has_table, state_word, index_at, table_of_page}
use Rattle.rht_ghost.proofs.Theory.Passed.{less-grown}
use Rattle.rht_ghost.proofs.Theory.Reliance.{TablesStay}
use Rattle.rht_ghost.proofs.Theory.Steps.{mem, ghost_after}
use Rattle.rht_ghost.proofs.Theory.Wholes.{Whole, slot-there}
use Rattle.rht_core.proofs.Returning.GoneBack.{gives_back}
use Rattle.rht_core.proofs.Returning.MetBySome.{IsApart}
use Rattle.rht_core.proofs.Returning.MetInRuns.{Met, has_met}
use Rattle.rht_words.specs.Standing.{Standing}
use Rattle.rht_ghost.proofs.Theory.Entries.{page_within}
use Rattle.rht_core.proofs.Returning.Readers.{Reader, IsOpen, ReaderRight}
use Rattle.rht_core.proofs.Returning.Reached.{safe-taken, IsTakenBy, StandsRight, reaches-listed, reaches-page, reaches-table, reaches-slot, meets-there}

-- a slot whose state is 0 is nobody's
free_state : (o : SlotOwner) → state_word o ≡ 0 → o ≡ SlotFree
free_state SlotFree is = refl
free_state (SlotHeld d) is = absurd (omega (arith, is))
free_state (Live τ) is = absurd (omega (arith, is))
free_state (Retiring τ) is = absurd (omega (arith, is))
free_state (Retired τ) is = absurd (omega (arith, is))
free_state (Back d) is = absurd (omega (arith, is))

-- each open section was opened behind the table
abbrev pub AllComeBehind : Ghost → ℕ → Type 0
AllComeBehind G τ = (d first : ℕ) → G.from d ≡ Some first → τ < first

-- a page was a table's
pub record WasPageOf (G : Ghost) (page : ℕ) : Type 0 where
  pub table : ℕ
  pub of : G.page page ≡ PageOf table
  pub behind : AllComeBehind G table

-- a node that a caller's calls had taken out goes back, or what was a table's to which no open section comes
abbrev pub IsBack : Env → (ℕ → ℕ → ℕ → ℕ) → ℕ → Ghost → Ghost → Thing → Type 0
IsBack env mix c G G' (NodeAt node) = GoesBack env mix c G G' node
IsBack env mix c G G' (PageAt page) = WasPageOf G page
IsBack env mix c G G' (TableIn slot) = (has_table (G.slot slot) ≡ true) × AllComeBehind G (index_at G slot)

module _ (env : Env) (mix : ℕ → ℕ → ℕ → ℕ) (c : ℕ) (words : List ℕ) (G G' : Ghost) (op : Op)
    (whole : Whole env mix (mem env mix words) G) (made : Made env mix c (mem env mix words) G (mem env mix (applied words op)) G') where
  stay : TablesStay env mix G G'
  stay = (made.others (suc c) (λ e. absurd (omega arith))).tables

  -- a table that doesn't stay is one to which no open section comes
  come_behind : (τ : ℕ) → τ < stay.low → AllComeBehind G τ
  come_behind τ low d first is = let least = stay.sections d first is in omega (arith, low, least)

  -- ---- a caller has what becomes free

  -- a node that is or was a port's stays so, but for one that is given back for the call that took it out
  freed_node : (n : ℕ) → G.node n ≢ Free → G'.node n ≡ Free → ((d : ℕ) × (G.node n ≡ NodeHeld d)) ⊎ GoesBack env mix c G G' n
  freed_node n taken frees = go (G.node n) refl
    where
      back : IsUsed (G.node n) → GoesBack env mix c G G' n
      back used = elim (made.stale.owners.used n used) [
        | inl stays ↦ absurd (let both : true ≡ false = sym stays ∙ ap is_used frees in cc)
        | inr is ↦ is
      ]

      go : (o : Owner) → G.node n ≡ o → ((d : ℕ) × (G.node n ≡ NodeHeld d)) ⊎ GoesBack env mix c G G' n
      go Free is = absurd (taken is)
      go (NodeHeld d) is = inl (d, is)
      go (First j) is = inr (back (ap is_used is))
      go (Leaving j) is = inr (back (ap is_used is))
      go (Behind k) is = inr (back (ap is_used is))
      go (Taken d) is = inr (back (ap is_used is))

  -- a slot that has a table keeps it, and so does a page that is a table's, where an open section comes to the table
  freed_slot : (s : ℕ) → G.slot s ≢ SlotFree → G'.slot s ≡ SlotFree
      → ((d : ℕ) × (slot_holder (G.slot s) ≡ Some d)) ⊎ IsBack env mix c G G' (TableIn s)
  freed_slot s taken frees = go (G.slot s) refl
    where
      back : has_table (G.slot s) ≡ true → ((d : ℕ) × (slot_holder (G.slot s) ≡ Some d)) ⊎ IsBack env mix c G G' (TableIn s)
      back has = elim (cases_lt (index_at G s) stay.low) [
        | inl low ↦ inr (has, come_behind (index_at G s) low)
        | inr from ↦
            let of = whole.tables.slots s has in
            let there = stay.grow.there (index_at G s) from (less-grown env mix of.attached stay.grow.attached)
            (λ l. slot-there env mix whole.tables s has) in
            let same : (G'.table (index_at G s)).slot ≡ s = (stay.grow.tables (index_at G s) of.attached).slot ∙ of.slot in
            absurd (let both : true ≡ false = sym there.has_slot ∙ ap (λ t. has_table (G'.slot t)) same ∙ ap has_table frees in cc)
      ]

      go : (o : SlotOwner) → G.slot s ≡ o → ((d : ℕ) × (slot_holder (G.slot s) ≡ Some d)) ⊎ IsBack env mix c G G' (TableIn s)
      go SlotFree is = absurd (taken is)
      go (SlotHeld d) is = inl (d, ap slot_holder is)
      go (Live τ) is = back (ap has_table is)
      go (Retiring τ) is = back (ap has_table is)
      go (Retired τ) is = back (ap has_table is)
      go (Back d) is = inl (d, ap slot_holder is)

  freed_page : (p : ℕ) → G.page p ≢ PageFree → G'.page p ≡ PageFree
      → ((d : ℕ) × (G.page p ≡ PageHeld d)) ⊎ IsBack env mix c G G' (PageAt p)
  freed_page p taken frees = go (G.page p) refl
    where
      go : (o : PageOwner) → G.page p ≡ o → ((d : ℕ) × (G.page p ≡ PageHeld d)) ⊎ IsBack env mix c G G' (PageAt p)
      go PageFree is = absurd (taken is)
      go (PageHeld d) is = inl (d, is)
      go (PageOf τ) is = elim (cases_lt τ stay.low) [
        | inl low ↦ inr (record { table = τ; of = is; behind = come_behind τ low })
        | inr from ↦ absurd (let both : PageOf τ ≡ PageFree = sym (stay.grow.pages p τ from is) ∙ frees in cc)
      ]

  -- ---- what an operation gives back a caller has

  module _ (all : length words ≡ words_in env.geometry) (did : Did) (same : did.op ≡ op) (found : old_of words op ≡ did.old) where
    -- the word that the operation finds, and the one that it leaves
    word_found : (a : Address) → op_place did.op ≡ place_of env.geometry a → mem env mix words a ≡ did.old
    word_found a on = sym (ap (slice_index words) (ap op_place (sym same) ∙ on)) ∙ found

    word_left : (a : Address) → IsAddress env.geometry a → op_place did.op ≡ place_of env.geometry a
        → mem env mix (applied words op) a ≡ word_after did.old did.op
    word_left a there on =
        (is_write env.geometry words a op all there (ap op_place (sym same) ∙ on)).same
        ∙ ap (λ w. word_after w op) (word_found a on) ∙ ap (word_after did.old) (sym same)

    pub given_taken : (thing : Thing) → GivesBack env.geometry did thing → ((d : ℕ) × IsTakenBy G d thing) ⊎ IsBack env mix c G G' thing
    given_taken (NodeAt node) (l, gives) =
        let a = NodeMap (node / 64) in
        let was : bit_at (mem env mix words a) (node % 64) ≡ 0 = ap (λ w. bit_at w (node % 64)) (word_found a gives.on) ∙ gives.clear in
        let is : bit_at (mem env mix (applied words op) a) (node % 64) ≡ 1 =
        ap (λ w. bit_at w (node % 64)) (word_left a (omega (arith, l)) gives.on) ∙ gives.set in
        freed_node node (λ free. let one = (whole.arena.bits node l).1 free in absurd (omega (arith, was, one)))
        ((made.whole.arena.bits node l).0 is)
    given_taken (PageAt page) (l, gives) =
        let a = PageMap (page / 64) in
        let was : bit_at (mem env mix words a) (page % 64) ≡ 0 = ap (λ w. bit_at w (page % 64)) (word_found a gives.on) ∙ gives.clear in
        let is : bit_at (mem env mix (applied words op) a) (page % 64) ≡ 1 =
        ap (λ w. bit_at w (page % 64)) (word_left a (omega (arith, l)) gives.on) ∙ gives.set in
        freed_page page (λ free. let one = (whole.pages.bits page l).1 free in absurd (omega (arith, was, one)))
        ((made.whole.pages.bits page l).0 is)
    given_taken (TableIn slot) (l, gives) =
        let a = Slot slot StateWord in
        freed_slot slot (λ free. gives.taken (sym (word_found a gives.on) ∙ whole.slots.states slot l ∙ ap state_word free))
        (free_state (G'.slot slot) (sym (made.whole.slots.states slot l) ∙ word_left a (l, tt) gives.on ∙ gives.frees))

-- ---- what could be reached isn't free

module _ (env : Env) (mix : ℕ → ℕ → ℕ → ℕ) (words : List ℕ) (G : Ghost) (whole : Whole env mix (mem env mix words) G) (c : ℕ) (r : Reader)
    (right : ReaderRight env mix (mem env mix words) G c r) (reads : IsOpen r) (at : Standing) (stands : StandsRight G r at) where
  not_free : (thing : Thing) → IsFreeThing env.geometry words thing → CouldReach env.geometry words at thing → ⊥
  not_free (NodeAt node) free reached =
      let met = reaches-listed env mix words G whole c r right reads at stands node reached in
      let none : G.node node ≡ Free = (whole.arena.bits node (right.among node met)).0 free in
      let both : true ≡ false = sym (right.used node met) ∙ ap is_used none in cc
  not_free (PageAt page) free reached =
      let is = reaches-page env mix words G whole c r right reads at stands page reached in
      let within = page_within env mix (G.table is.0) G.page is.0 (whole.tables.each is.0 (whole.pages.there page is.0 is.1)).placed page is.1 in
      let none : G.page page ≡ PageFree = (whole.pages.bits page within).0 free in
      let both : PageOf is.0 ≡ PageFree = sym is.1 ∙ none in cc
  not_free (TableIn slot) free reached =
      let meets = reaches-table env mix words G whole c r right reads at stands slot reached in
      let has = reaches-slot env mix words G whole c r right reads at stands slot reached in
      let there = meets-there env mix words G whole c r right reads at stands slot meets meets.at.table (omega arith) meets.at.attached in
      let low = (whole.tables.each meets.at.table there).slot_in in
      let none = free_state (G.slot slot) (sym (whole.slots.states slot (subst (λ s. s < 8) meets.at.slot_is low)) ∙ free) in
      let both : true ≡ false = sym has ∙ ap has_table none in cc

-- ---- runs

module _ (env : Env) (mix : ℕ → ℕ → ℕ → ℕ) (L : Type 0) where
  -- nobody in a section could reach what a caller has taken for itself
  pub nobody : (events : List Event) (core : Core L) (met : Met env mix L events core) (d : ℕ) (thing : Thing)
      → IsTakenBy met.placed.ghost d thing → NobodyReaches env.geometry core thing
  nobody events core met d thing taken c low reads reached =
      let meets = met.each c low in
      let open_now = meets.right.odd.0 reads in
      safe-taken env mix core.words met.placed.ghost met.placed.inv.whole c (met.readers c) meets.right open_now (standing core c)
      (meets.stands open_now) d thing taken reached

  -- nor a node that no section has met
  pub nobody_back : (events : List Event) (core : Core L) (met : Met env mix L events core) (node : ℕ)
      → IsApart env.geometry.callers met.readers node → NobodyReaches env.geometry core (NodeAt node)
  nobody_back events core met node apart c low reads reached =
      let meets = met.each c low in
      let open_now = meets.right.odd.0 reads in
      both_ways ((met.readers c).lists node) (apart c low)
      (reaches-listed env mix core.words met.placed.ghost met.placed.inv.whole c (met.readers c) meets.right open_now (standing core c)
      (meets.stands open_now) node reached)

  -- nor what is a table's behind which each open section was opened
  nobody_behind : (events : List Event) (core : Core L) (met : Met env mix L events core) (τ : ℕ) (thing : Thing)
      → AllComeBehind met.placed.ghost τ
      → ((c : ℕ) (low : c < env.geometry.callers) → IsOpen (met.readers c) → CouldReach env.geometry core.words (standing core c) thing
      → (first : ℕ) → (met.readers c).from ≡ Some first → first ≤ τ)
      → NobodyReaches env.geometry core thing
  nobody_behind events core met τ thing behind since c low reads reached = go (met.readers c).from refl
    where
      open_now : IsOpen (met.readers c)
      open_now = (met.each c low).right.odd.0 reads

      go : (from : Option ℕ) → (met.readers c).from ≡ from → ⊥
      go None e = let both : true ≡ false = sym open_now ∙ ap is_some e in cc
      go (Some first) e =
          let least = since c low open_now reached first e in
          let later = behind c first (sym (met.each c low).from_is ∙ e) in
          omega (arith, least, later)

  -- so no open section could reach such a table's page
  pub page_apart : (events : List Event) (core : Core L) (met : Met env mix L events core) (τ page : ℕ)
      → met.placed.ghost.page page ≡ PageOf τ → AllComeBehind met.placed.ghost τ → NobodyReaches env.geometry core (PageAt page)
  page_apart events core met τ page of behind =
      nobody_behind events core met τ (PageAt page) behind
      (λ d low open_now reached.
      let meets = met.each d low in
      let is = reaches-page env mix core.words met.placed.ghost met.placed.inv.whole d (met.readers d) meets.right open_now
      (standing core d) (meets.stands open_now) page reached in
      let same : is.0 ≡ τ = ap table_of_page (sym is.1) ∙ ap table_of_page of in
      λ first e. subst (λ σ. first ≤ σ) same (is.2 first e))

  -- nor its slot
  pub slot_apart : (events : List Event) (core : Core L) (met : Met env mix L events core) (slot : ℕ)
      → AllComeBehind met.placed.ghost (index_at met.placed.ghost slot) → NobodyReaches env.geometry core (TableIn slot)
  slot_apart events core met slot behind =
      let G = met.placed.ghost in
      nobody_behind events core met (index_at G slot) (TableIn slot) behind
      (λ d low open_now reached.
      let meets = met.each d low in
      let is = reaches-table env mix core.words G met.placed.inv.whole d (met.readers d) meets.right open_now
      (standing core d) (meets.stands open_now) slot reached in
      let there = meets-there env mix core.words G met.placed.inv.whole d (met.readers d) meets.right open_now
      (standing core d) (meets.stands open_now) slot is is.at.table (omega arith) is.at.attached in
      let same : is.at.table ≡ index_at G slot = sym there.index ∙ ap (index_at G) is.at.slot_is in
      λ first e. subst (λ τ. first ≤ τ) same (is.since first e))

  -- so it is of one that goes back
  comes_back : (events : List Event) (core : Core L) (met : Met env mix L events core) (c : ℕ) (op : Op)
      → (of : StepOf env mix L core met.placed.ghost c op) → planned_in core c ≡ Some op → (thing : Thing)
      → IsBack env mix c met.placed.ghost (ghost_after env mix c of.step.move met.placed.ghost) thing
      → NobodyReaches env.geometry core thing
  comes_back events core met c op of planned (NodeAt node) back =
      let G = met.placed.ghost in
      nobody_back events core met node (met.apart c op of node planned
      (gives_back env mix c (mem env mix core.words) G met.placed.inv.whole node back.was of.step.move of.step.ready back.now))
  comes_back events core met c op of planned (PageAt page) back =
      page_apart events core met back.table page back.of back.behind
  comes_back events core met c op of planned (TableIn slot) back = slot_apart events core met slot back.1

pub safe : (L : Type 0) (mix : ℕ → ℕ → ℕ → ℕ) → Safe L mix
safe L mix env events admitted c did thing recorded gives =
    let before = take did.index events in
    let first = (AllByRecursion-cut IsAdmittedEvent before (drop did.index events)
    (subst IsAdmitted (sym (take-append-drop did.index events)) admitted)).0 in
    let core : Core L = (run_of mix env before).core in
    let met = has_met env mix L before first in
    let G = met.placed.ghost in
    let of = step_of env mix L core G c did.op met.placed.all met.placed.inv recorded.plan in
    let taken = given_taken env mix c core.words G (ghost_after env mix c of.step.move G) did.op met.placed.inv.whole of.step.made
    of.all did refl recorded.found thing gives in
    elim taken [
      | inl own ↦ nobody env mix L before core met own.0 thing own.1
      | inr back ↦ comes_back env mix L before core met c did.op of recorded.plan thing back
    ]

pub never_free : (L : Type 0) (mix : ℕ → ℕ → ℕ → ℕ) → NeverFree L mix
never_free L mix env events thing admitted free c low reads reached =
    let core : Core L = (run_of mix env events).core in
    let met = has_met env mix L events admitted in
    let meets = met.each c low in
    let open_now = meets.right.odd.0 reads in
    not_free env mix core.words met.placed.ghost met.placed.inv.whole c (met.readers c) meets.right open_now (standing core c)
    (meets.stands open_now) thing free reached
