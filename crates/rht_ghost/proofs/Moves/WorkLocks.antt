-- The moves of the work lock: a caller begins to do the work, and ends it.
use Rattle.std.proofs.Common.{◌≡◌, ◌≢◌, ℕ, Option, Some, None, refl, sym, ◌∙◌, ap, inl, arith}
use Rattle.rht_words.specs.declared.env.Env.{Env}
use Rattle.rht_words.specs.Places.{CurrentTable, WorkLock, Slot, StateWord}
use Rattle.rht_words.proofs.Memory.{Memory, IsWrite}
use Rattle.rht_ghost.proofs.Theory.Ghosts.{Ghost, Back, slot_holder, lock_bit, none-some}
use Rattle.rht_ghost.proofs.Theory.Wholes.{AreRetired, MovesNone, Whole}
use Rattle.rht_ghost.proofs.Theory.Frames.{Made}
use Rattle.rht_ghost.proofs.Theory.Departures.{with_worker}
use Rattle.rht_ghost.proofs.Moves.Standing.{IsStandingWord, slots_stand, restated_sections, IsRestated, restate}

module _ (env : Env) (mix : ℕ → ℕ → ℕ → ℕ) where
  lock_word : (G : Ghost) → IsStandingWord G WorkLock
  lock_word G = record {
    no_page = λ i e. cc;
    no_node = λ n w e. cc;
    no_map = λ i e. cc;
    no_page_map = λ i e. cc;
    no_count = λ e. cc;
    no_shape = λ s e. cc;
    no_seed = λ s e. cc;
    no_serial = λ s e. cc;
    no_future = λ s e. cc;
    no_held = λ s c w held e. cc;
  }

  -- where no entry is on its way, the work may go from caller to caller
  reworked : (d v : ℕ) (worker : Option ℕ) (M M' : Memory) (G : Ghost) → Whole env mix M G
      → ((j entry : ℕ) → (G.bucket j).out ≢ Some entry) → ((c : ℕ) → c ≢ d → G.worker ≢ Some c)
      → ((c : ℕ) → c ≢ d → worker ≢ Some c) → (worker ≡ None → AreRetired G None)
      → ((s c : ℕ) → G.slot s ≡ Back c → worker ≡ Some c) → v ≡ lock_bit worker
      → IsWrite env.geometry M M' WorkLock v
      → IsRestated env mix d M M' G G.current G.slot worker WorkLock v
  reworked d v worker M M' G whole none before after retired back is write = record {
    write = write;
    word = lock_word G;
    current_in = whole.tables.current_in;
    later = omega arith;
    current_is = write.others CurrentTable tt (λ e. cc) ∙ whole.tables.current_is;
    slots = slots_stand env mix M G G.current whole (omega arith);
    states = λ s l. write.others (Slot s StateWord) (l, tt) (λ e. cc) ∙ whole.slots.states s l;
    worker_is = write.same ∙ is;
    retired = retired;
    back = back;
    sections = restated_sections env mix d M M' G G.current G.slot worker WorkLock v whole write
        (record { own = λ c e. cc; kept = λ s c e. cc }) (λ s τ is. is);
    no_other = before;
    none_gets_it = after;
    seats = λ n j first. (whole.owned.first_at n j first).at_home.current;
    armed = λ j c armed. (whole.moving.armed j c armed).current;
    moving = inl none;
  }

  unworked : (worker : Option ℕ) (word : ℕ) → word ≡ lock_bit worker → word ≡ 0 → worker ≡ None
  unworked None word is zero = refl
  unworked (Some c) word is zero = absurd (omega (arith, is, zero))

  -- the exchange that takes the work lock: the word was 0
  pub take_work : (d : ℕ) (M M' : Memory) (G : Ghost) → Whole env mix M G → M WorkLock ≡ 0
      → IsWrite env.geometry M M' WorkLock 1
      → Made env mix d M G M' (with_worker G (Some d)) × (G.worker ≡ None)
  take_work d M M' G whole found write =
      let free = unworked G.worker (M WorkLock) whole.slots.worker_is found in (
        restate env mix d M M' G G.current G.slot (Some d) WorkLock 1 whole
            (reworked d 1 (Some d) M M' G whole
            (λ j entry out. none-some free (whole.moving.out j entry out).works)
            (λ c ne works. none-some free works) (λ c ne e. ne (cc)) (λ none. absurd (cc))
            (λ s c is. absurd (none-some free (whole.slots.back s c is))) refl write),
        free,
      )

  -- the store of 0 by the caller that does the work, has no entry on its way, has left no table behind that isn't retired, and
  -- gives none back
  pub give_work : (d : ℕ) (M M' : Memory) (G : Ghost) → Whole env mix M G → G.worker ≡ Some d
      → MovesNone env mix G d → AreRetired G None → ((s : ℕ) → slot_holder (G.slot s) ≢ Some d)
      → IsWrite env.geometry M M' WorkLock 0
      → Made env mix d M G M' (with_worker G None)
  give_work d M M' G whole works none retired holds_none write =
      restate env mix d M M' G G.current G.slot None WorkLock 0 whole
      (reworked d 0 None M M' G whole
      (λ j entry out.
      let is = whole.moving.out j entry out in
      let same : ◌≡◌ {A = Option ℕ} (Some is.worker) (Some d) = sym is.works ∙ works in
      none j entry out (is.holder ∙ same))
      (λ c ne other. let e : ◌≡◌ {A = Option ℕ} (Some d) (Some c) = sym works ∙ other in ne (cc))
      (λ c ne e. cc) (λ idle. retired)
      (λ s c is.
      let same : ◌≡◌ {A = Option ℕ} (Some d) (Some c) = sym works ∙ whole.slots.back s c is in
      absurd (holds_none s (ap slot_holder is ∙ sym same))) refl write)
