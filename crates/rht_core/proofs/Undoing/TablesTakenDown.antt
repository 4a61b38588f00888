-- Between the load of its shape and its giving back the entries of a retired table to which nobody comes stay what they were, but for those
-- that are cleared: where one leads to a page, it led to that page when the shape was loaded.
--
-- An event of another caller leaves such a table alone, and so does an operation of its worker, but for the one that takes it out of its slot.
use Rattle.std.proofs.Common.{◌≡◌, ℕ, ◌+◌, ◌*◌, ◌/◌, ◌%◌, ◌<◌, cond, true, List, Option, Some, None, refl, sym, ap, ◌∙◌, subst, inl, inr, arith}
use Rattle.std.proofs.lemmas.Bool.{cases_eq}
use Rattle.rht_words.specs.declared.env.Env.{Env}
use Rattle.rht_ghost.proofs.Pieces.HeldSections.{of_its_own}
use Rattle.rht_words.specs.declared.geometry.Geometry.{Geometry}
use Rattle.rht_words.specs.declared.op.Op.{Op}
use Rattle.rht_words.specs.Links.{page_of}
use Rattle.rht_words.specs.Operations.{old_of}
use Rattle.rht_nest.specs.Place.{top_page}
use Rattle.rht_stands.specs.StandsFor.{page_word}
use Rattle.rht_core.specs.declared.event.Event.{Event}
use Rattle.rht_core.specs.declared.event.Event.TheVariants.{Enroll, Begin, Step}
use Rattle.rht_core.specs.Jobs.{Job, job_of, job_after, held_of, held_next}
use Rattle.rht_core.specs.Runs.{Core, local_of, planned_in}
use Rattle.rht_ghost.proofs.Theory.Ghosts.{PageOf, Retired, has_entries, IsOver, Ghost, Leaf, Middle, none-some}
use Rattle.rht_ghost.proofs.Theory.Ways.{first_page}
use Rattle.rht_ghost.proofs.Theory.Wholes.{Whole}
use Rattle.rht_ghost.proofs.Theory.GivingStays.{retired-there}
use Rattle.rht_ghost.proofs.Theory.PlacesRead.{entry_read, entries_in_words}
use Rattle.rht_ghost.proofs.Theory.Knowledge.{IsTakenDown, IsAtLeaf}
use Rattle.rht_ghost.proofs.Theory.Steps.{mem, ghost_after, Does, ReadyFor, Holding, TakesBack}
use Rattle.rht_ghost.proofs.Pieces.ReturnLoads.{down-nested, top_led, leaf_led, top_behind, top_part}
use Rattle.rht_core.proofs.Events.RangesInRuns.{AllIn}
use Rattle.rht_core.proofs.Events.Invariants.{Inv, StepOf, kept}
use Rattle.rht_core.proofs.Undoing.TablesLeftAlone.{IsLeftAlone, left_alone}
use Rattle.rht_core.proofs.Undoing.TablesThen.{led, DidSo}

module _ (env : Env) (mix : ℕ → ℕ → ℕ → ℕ) where
  abbrev g : Geometry
  g = env.geometry

  -- A retired table to which nobody comes has this slot, and each of its entries that leads to a page did so by these words.
  pub record IsAsThen (W : List ℕ) (shape : ℕ) (G : Ghost) (slot : ℕ) : Type 0 where
    pub table : ℕ
    pub retired : G.slot slot ≡ Retired table
    pub over : IsOver G table
    pub entries : (j q : ℕ) → G.page (j / 64) ≡ PageOf table → has_entries ((G.table table).part (j / 64)) ≡ true
        → (G.table table).entry j ≡ Some q → led g W shape j ≡ Some q

  -- so it is by the words of the moment
  pub as_now : (words : List ℕ) (shape : ℕ) (G : Ghost) → Whole env mix (mem env mix words) G → (slot τ : ℕ) → G.slot slot ≡ Retired τ
      → IsOver G τ → IsAsThen words shape G slot
  as_now words shape G whole slot τ retired over = record {
    table = τ;
    retired = retired;
    over = over;
    entries = λ j q of has leads.
        let there = retired-there env mix (mem env mix words) G whole slot τ retired in
        let table = G.table τ in
        let word = entries_in_words env mix (mem env mix words) G whole τ there in
        elim (whole.tables.each τ there).placed [
          | inl flat ↦ absurd (let row = flat.rows (j / 64) of in let none = sym (ap has_entries row) ∙ has in cc)
          | inr nested ↦
              let at : j ≡ 64 * (j / 64) + j % 64 = omega arith in
              ap (λ i. page_of g.pages (page_word g words i)) at
              ∙ entry_read env mix table G.page τ (inr nested) (λ i. page_word g words i) word nested (table.part (j / 64)) (j / 64)
              (j % 64) (omega arith) of refl has
              ∙ ap table.entry (sym at) ∙ leads
        ];
  }

  -- and so it stays where the table is left alone
  pub as_left : (W : List ℕ) (shape : ℕ) (G G' : Ghost) (slot : ℕ) (then : IsAsThen W shape G slot)
      → IsLeftAlone env mix slot then.table G G' → IsAsThen W shape G' slot
  as_left W shape G G' slot then left = record {
    table = then.table;
    retired = left.retired;
    over = left.over;
    entries = λ j q of has leads.
        then.entries j q (left.pages (j / 64) of) (sym (ap has_entries (left.parts (j / 64))) ∙ has) (left.entries j q leads);
  }

  -- ---- the entry that is loaded

  one_table : (G : Ghost) (slot τ σ : ℕ) → G.slot slot ≡ Retired τ → G.slot slot ≡ Retired σ → τ ≡ σ
  one_table G slot τ σ one other = let both : Retired τ ≡ Retired σ = sym one ∙ other in cc

  module _ (words : List ℕ) (G : Ghost) (whole : Whole env mix (mem env mix words) G) (W : List ℕ) (loaded : ℕ) (slot : ℕ)
      (then : IsAsThen W loaded G slot) where
    -- an entry of a page of the table, of which the word is known
    entry_did_so : (τ : ℕ) → G.slot slot ≡ Retired τ → (page index : ℕ) → index < 64 → G.page page ≡ PageOf τ
        → has_entries ((G.table τ).part page) ≡ true
        → page_of g.pages (page_word g words (64 * page + index)) ≡ (G.table τ).entry (64 * page + index)
        → DidSo g W loaded (64 * page + index) (page_word g words (64 * page + index))
    entry_did_so τ retired page index low of has is q leads =
        let same = one_table G slot τ then.table retired then.retired in
        let quotient : (64 * page + index) / 64 ≡ page = omega (arith, low) in
        then.entries (64 * page + index) q (ap G.page quotient ∙ of ∙ ap PageOf same)
        (ap (λ p. has_entries ((G.table then.table).part p)) quotient ∙ ap (λ t. has_entries ((G.table t).part page)) (sym same) ∙ has)
        (ap (λ t. (G.table t).entry (64 * page + index)) (sym same) ∙ sym is ∙ leads)

    pub top_did_so : (shape top : ℕ) → top < 64 → IsTakenDown env mix G slot shape top
        → DidSo g W loaded (64 * top_page g shape + top) (page_word g words (64 * top_page g shape + top))
    top_did_so shape top low is =
        let M = mem env mix words in
        let nested = down-nested env mix 0 M G whole slot shape top is in
        let within = nested.top_within in
        let here : top_page g shape ≡ first_page (G.table is.going.table).shape =
        ap (top_page g) (sym is.shape_is) ∙ omega (arith, within) in
        let table = G.table is.going.table in
        entry_did_so is.going.table is.going.retired (top_page g shape) top low (ap G.page here ∙ nested.top_of)
        (ap (λ p. has_entries (table.part p)) here ∙ ap has_entries nested.top_part)
        (top_led env mix 0 M G whole slot shape top is top low
        ∙ ap (λ s. table.entry (64 * first_page s + top)) (sym is.shape_is) ∙ ap (λ p. table.entry (64 * p + top)) (sym here))

    pub leaf_did_so : (shape top page leaf : ℕ) → top < 64 → leaf < 64 → IsAtLeaf env mix G slot shape top page leaf
        → DidSo g W loaded (64 * page + leaf) (page_word g words (64 * page + leaf))
    leaf_did_so shape top page leaf low few is =
        let M = mem env mix words in
        let down = is.down in
        let behind = top_behind env mix 0 M G whole slot shape top down top page low is.leads in
        let part = top_part env mix 0 M G whole slot shape top down top page low is.leads in
        entry_did_so down.going.table down.going.retired page leaf few behind.of
        (ap has_entries part ∙ ap (λ t. has_entries (cond t (Middle top) (Leaf top))) is.deep)
        (leaf_led env mix 0 M G whole slot shape top down page leaf low is.deep is.leads few)

  -- ---- an event

  -- the caller's operation leaves it without a slot
  abbrev pub TakesNone : (L : Type 0) → Core L → ℕ → Event → Type 0
  TakesNone L core c event =
      (op : Op) (job : Job) → event ≡ Step c → planned_in core c ≡ Some op → job_of (local_of core c).doing ≡ Some job
      → (held_next (job_after mix env job (old_of core.words op))).slot ≡ None

  module _ (L : Type 0) (core : Core L) (G : Ghost) (all : AllIn L mix env core) (inv : Inv env mix L core G) (c : ℕ) (W : List ℕ)
      (loaded slot : ℕ) (then : IsAsThen W loaded G slot) (works : G.worker ≡ Some c) where
    -- who does so has the slot from then on, and does the work
    spared : (d : ℕ) (op : Op) (of : StepOf env mix L core G d op) → planned_in core d ≡ Some op → TakesNone L core c (Step d)
        → (index bits : ℕ) → of.step.move ≡ TakesBack slot index bits → ⊥
    spared d op of plans none index bits is = elim (cases_eq d c) [
      | inl same ↦
          let over = (local_of core d).held in
          let next = of_its_own over (held_next (job_after mix env of.job (old_of core.words op))) in
          let does = subst (λ move. Does env mix move op (old_of core.words op) (of_its_own over (held_of of.job)) next) is of.step.does in
          let has : next.slot ≡ Some slot = ap (λ (x : Holding). x.slot) does.holds in
          let not_so = none op of.job (ap Step same) (subst (λ k. planned_in core k ≡ Some op) same plans)
          (subst (λ k. job_of (local_of core k).doing ≡ Some of.job) same of.is) in
          none-some not_so has
      | inr other ↦
          let ready = subst (ReadyFor env mix d (mem env mix core.words) G) is of.step.ready in
          other (let both = sym ready.going.works ∙ works in cc)
    ]

    step_then : (d : ℕ) (op : Op) → planned_in core d ≡ Some op → TakesNone L core c (Step d) → (of : StepOf env mix L core G d op)
        → IsAsThen W loaded (ghost_after env mix d of.step.move G) slot
    step_then d op plans none of =
        as_left W loaded G (ghost_after env mix d of.step.move G) slot then
        (left_alone env mix slot then.table d (mem env mix core.words) G inv.whole then.retired then.over of.step.move of.step.ready
        (spared d op of plans none))

    -- so each event leaves the table
    pub event_then : (event : Event) → TakesNone L core c event → IsAsThen W loaded (kept env mix L core G event all inv).ghost slot
    event_then Enroll none = subst (λ x. IsAsThen W loaded x slot) (sym (kept env mix L core G Enroll all inv).ghost_kept) then
    event_then (Begin d call start) none =
        subst (λ x. IsAsThen W loaded x slot) (sym (kept env mix L core G (Begin d call start) all inv).ghost_kept) then
    event_then (Step d) none = go (planned_in core d) refl
      where
        go : (plan : Option Op) → planned_in core d ≡ plan → IsAsThen W loaded (kept env mix L core G (Step d) all inv).ghost slot
        go None is =
            subst (λ x. IsAsThen W loaded x slot) (sym ((kept env mix L core G (Step d) all inv).ghost_kept.none is)) then
        go (Some op) is =
            let moved = (kept env mix L core G (Step d) all inv).ghost_kept.some op is in
            subst (λ x. IsAsThen W loaded x slot) (sym moved.1) (step_then d op is none moved.0)
