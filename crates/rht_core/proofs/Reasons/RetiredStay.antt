-- While a caller does the work nobody else changes the state word of a slot whose table is retired, or a word that is kept in a slot.
use Rattle.std.proofs.Common.{◌≡◌, ℕ, ◌<◌, true, List, Option, Some, None, refl, sym, ap, ◌∙◌, subst, inl, inr, arith}
use Rattle.std.proofs.lemmas.Bool.{cases_lt}
use Rattle.rht_words.specs.declared.op.Op.{Op}
use Rattle.rht_words.specs.declared.env.Env.{Env}
use Rattle.rht_words.specs.Operations.{applied}
use Rattle.rht_words.specs.Places.{Slot, StateWord, LoadedSection, word_at}
use Rattle.rht_words.proofs.Memory.{Memory}
use Rattle.rht_core.specs.declared.event.Event.{Event}
use Rattle.rht_core.specs.declared.event.Event.TheVariants.{Enroll, Begin, Step}
use Rattle.rht_core.specs.Runs.{Core, planned_in, enrolling, with_step, core_step}
use Rattle.rht_core.proofs.Events.Invariants.{Inv, enrolled, step_of}
use Rattle.rht_core.proofs.Events.RangesInRuns.{AllIn}
use Rattle.rht_core.proofs.Returning.SectionWords.{IsOthers}
use Rattle.rht_ghost.proofs.Theory.Ghosts.{SlotOwner, SlotFree, SlotHeld, Live, Retiring, Retired, Back, Ghost, has_table, table_of_slot, slot_holder, state_word, index_at}
use Rattle.rht_ghost.proofs.Theory.Wholes.{Whole}
use Rattle.rht_ghost.proofs.Theory.Reliance.{Rely}
use Rattle.rht_ghost.proofs.Theory.Steps.{mem, ghost_after}

module _ (env : Env) (mix : ℕ → ℕ → ℕ → ℕ) where
  -- a table that isn't live was left behind
  left_behind : (M : Memory) (G : Ghost) → Whole env mix M G → (s : ℕ) (o : SlotOwner) → G.slot s ≡ o → has_table o ≡ true
      → (G.slot s ≡ Live (table_of_slot o) → ⊥) → index_at G s < G.current
  left_behind M G whole s o is has other =
      let of = whole.tables.slots s (ap has_table is ∙ has) in
      let τ = index_at G s in
      elim (cases_lt τ G.current) [
        | inl l ↦ l
        | inr from ↦
            let live : G.slot s ≡ Live τ = ap G.slot (sym of.slot) ∙ whole.tables.force τ from of.attached in
            absurd (other (live ∙ ap Live (ap table_of_slot is)))
      ]

  module _ (c : ℕ) (M M' : Memory) (G G' : Ghost) (whole : Whole env mix M G) (whole' : Whole env mix M' G')
      (rely : Rely env mix c M G M' G') (works : G.worker ≡ Some c) where
    -- the slot's owner stays
    owner_stays : (s : ℕ) (o : SlotOwner) → G.slot s ≡ o → state_word o ≡ 2 → G'.slot s ≡ G.slot s
    owner_stays s SlotFree is two = absurd (omega (arith, two))
    owner_stays s (SlotHeld d) is two = absurd (omega (arith, two))
    owner_stays s (Live τ) is two = absurd (omega (arith, two))
    owner_stays s (Retiring τ) is two =
        (rely.work works).left s (ap has_table is) (left_behind M G whole s (Retiring τ) is refl (λ live. let both = sym is ∙ live in cc))
    owner_stays s (Retired τ) is two =
        (rely.work works).left s (ap has_table is) (left_behind M G whole s (Retired τ) is refl (λ live. let both = sym is ∙ live in cc))
    owner_stays s (Back d) is two = rely.holdings.slots s (ap slot_holder is ∙ sym (whole.slots.back s d is) ∙ works)

    pub state_stays : (s : ℕ) → s < 8 → M (Slot s StateWord) ≡ 2 → M' (Slot s StateWord) ≡ 2
    state_stays s low two =
        let is = sym (whole.slots.states s low) ∙ two in
        whole'.slots.states s low ∙ ap state_word (owner_stays s (G.slot s) refl is) ∙ is

    pub kept_stays : (s d : ℕ) → s < 8 → d < 16 → M' (Slot s (LoadedSection d)) ≡ M (Slot s (LoadedSection d))
    kept_stays s d low few = (rely.work works).kept s d low few

  -- what of a slot stays from these words to those
  pub record SlotStays (s : ℕ) (words words' : List ℕ) : Type 0 where
    pub state : word_at env.geometry words (Slot s StateWord) ≡ 2 → word_at env.geometry words' (Slot s StateWord) ≡ 2
    pub kept : (d : ℕ) → d < 16
        → word_at env.geometry words' (Slot s (LoadedSection d)) ≡ word_at env.geometry words (Slot s (LoadedSection d))

  slot_same : (s : ℕ) (words words' : List ℕ) → words' ≡ words → SlotStays s words words'
  slot_same s words words' same = subst (SlotStays s words) (sym same) (record { state = λ two. two; kept = λ d few. refl })

  module _ (L : Type 0) where
    -- an event that is none of the worker's operations
    pub others_leave : (core : Core L) (G : Ghost) (event : Event) → AllIn L mix env core → Inv env mix L core G → (c : ℕ)
        → IsOthers env mix L core event c → G.worker ≡ Some c → (s : ℕ) → s < 8 → SlotStays s core.words (core_step mix core event).0.words
    others_leave core G Enroll all inv c others works s low =
        let kept = enrolled env mix L core G all inv in
        let M = mem env mix core.words in
        let M' = mem env mix (applied core.words (enrolling core.env)) in
        record {
          state = state_stays c M M' G G inv.whole kept.0 (kept.1 c) works s low;
          kept = λ d few. kept_stays c M M' G G inv.whole kept.0 (kept.1 c) works s d low few;
        }
    others_leave core G (Begin d call start) all inv c others works s low = slot_same s core.words core.words refl
    others_leave core G (Step d) all inv c (inr none) works s low =
        slot_same s core.words (core_step mix core (Step d)).0.words (ap (λ o. (with_step mix core d o).0.words) none)
    others_leave core G (Step d) all inv c (inl ne) works s low = go (planned_in core d) refl
      where
        go : (plan : Option Op) → planned_in core d ≡ plan → SlotStays s core.words (core_step mix core (Step d)).0.words
        go None is = slot_same s core.words (core_step mix core (Step d)).0.words (ap (λ o. (with_step mix core d o).0.words) is)
        go (Some op) is =
            let of = step_of env mix L core G d op all inv is in
            let made = of.step.made in
            let M = mem env mix core.words in
            let rely = made.others c (λ same. ne same) in
            subst (SlotStays s core.words) (sym (ap (λ o. (with_step mix core d o).0.words) is))
            (record {
              state = state_stays c M (mem env mix (applied core.words op)) G (ghost_after env mix d of.step.move G) inv.whole made.whole rely works s low;
              kept = λ k few.
                  kept_stays c M (mem env mix (applied core.words op)) G (ghost_after env mix d of.step.move G) inv.whole made.whole rely works s k low few;
            })
