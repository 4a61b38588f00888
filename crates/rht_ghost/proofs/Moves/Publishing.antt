-- The moves by which a table is left behind: the next one becomes the current table, and that the one before is being retired is
-- said in its slot.
use Rattle.std.proofs.Common.{◌≡◌, ◌≢◌, ℕ, ◌+◌, ◌/◌, ◌<◌, ◌≤◌, Option, Some, refl, sym, ◌∙◌, ap, subst, inl, inr, arith}
use Rattle.std.proofs.lemmas.Bool.{cases_eq}
use Rattle.rht_words.specs.declared.env.Env.{Env}
use Rattle.rht_words.specs.Shapes.{unpacked, size_of}
use Rattle.rht_words.specs.Places.{CurrentTable, WorkLock, Slot, StateWord}
use Rattle.rht_words.specs.Members.{In}
use Rattle.rht_words.proofs.Memory.{Memory, IsWrite}
use Rattle.rht_ghost.proofs.Theory.Ghosts.{put-all, Ghost, First, SlotHeld, SlotOwner, Retiring, Retired, Back, PageOwner, PageFree, PageHeld, PageOf, state_word, has_table, index_at, table_of_page, table_at, unretired, none-some}
use Rattle.rht_ghost.proofs.Theory.Wholes.{key_of, home, hash_in, IsNoBucket, Whole}
use Rattle.rht_ghost.proofs.Theory.Passed.{hash-below, held-bucket}
use Rattle.rht_ghost.proofs.Theory.Knowledge.{IsEmptied}
use Rattle.rht_ghost.proofs.Theory.Frames.{Made}
use Rattle.rht_ghost.proofs.Theory.Departures.{published, retiring, CanPublish, CanRetire}
use Rattle.rht_ghost.proofs.Moves.Standing.{IsStandingWord, slots_stand, restanding, restated_sections, restate}
use Rattle.rht_ghost.proofs.Theory.Entries.{bucket_of_word}
use Rattle.rht_ghost.proofs.Theory.Ways.{number_in}

module _ (env : Env) (mix : ℕ → ℕ → ℕ → ℕ) where
  -- the word is that of one of its table's buckets
  pub record IsPlaced (G : Ghost) (j τ : ℕ) : Type 0 where
    pub number : ℕ
    pub below : number < size_of (unpacked (G.table τ).shape)
    pub here : (G.table τ).place number ≡ Some j

  -- so it is where it isn't no bucket's
  pub placed_in : (M : Memory) (G : Ghost) → Whole env mix M G → (j : ℕ)
      → (IsNoBucket env mix G (G.page (j / 64)) j → ⊥) → IsPlaced G j (table_at G j)
  placed_in M G whole j bucket = go (G.page (j / 64)) refl bucket
    where
      go : (owner : PageOwner) → G.page (j / 64) ≡ owner → (IsNoBucket env mix G owner j → ⊥)
          → IsPlaced G j (table_of_page owner)
      go PageFree is bucket = absurd (bucket tt)
      go (PageHeld c) is bucket = absurd (bucket tt)
      go (PageOf τ) is bucket =
          let of = bucket_of_word env mix (G.table τ) G.page τ (whole.tables.each τ (whole.pages.there (j / 64) τ is)).placed j is bucket in
          record { number = number_in (G.table τ) j; below = of.below; here = of.here }

  -- ---- the next table becomes the current one

  current_word : (G : Ghost) → IsStandingWord G CurrentTable
  current_word G = record {
    no_page = λ i e. cc;
    no_node = λ n w e. cc;
    no_map = λ i e. cc;
    no_page_map = λ i e. cc;
    no_count = λ e. cc;
    no_shape = λ s e. cc;
    no_seed = λ s e. cc;
    no_serial = λ s e. cc;
    no_future = λ s e. cc;
    no_held = λ s c w held e. cc;
  }

  module _ (d : ℕ) (M : Memory) (G : Ghost) (whole : Whole env mix M G) (can : CanPublish env mix d G) where
    -- each bucket of the current table is emptied
    emptied : (j : ℕ) → IsPlaced G j G.current → IsEmptied env mix (G.bucket j)
    emptied j placed = can.emptied.each placed.number j placed.below placed.here

    home_emptied : (port j : ℕ) → home env mix G port G.current ≡ Some j → IsEmptied env mix (G.bucket j)
    home_emptied port j here = emptied j (record {
      number = hash_in env mix G port G.current;
      below = hash-below env mix M G whole port G.current;
      here = here;
    })

    -- so no entry is on its way
    none_leaves : (j entry : ℕ) → (G.bucket j).out ≢ Some entry
    none_leaves j entry out =
        none-some (home_emptied (key_of M entry) j (whole.moving.out j entry out).here).out out

    -- and whatever is in a bucket, or is armed there, is behind it
    later_seat : (n j : ℕ) → G.node n ≡ First j → G.current + 1 ≤ table_at G j
    later_seat n j first =
        let at = whole.owned.first_at n j first in
        elim (cases_eq G.current (table_at G j)) [
          | inl e ↦
              let here : home env mix G (key_of M n) G.current ≡ Some j = ap (home env mix G (key_of M n)) e
              ∙ at.at_home.here in
              absurd (subst (In n) (home_emptied (key_of M n) j here).nodes at.there)
          | inr ne ↦ omega (arith, at.at_home.current, ne)
        ]

    later_armed : (j c : ℕ) → (G.bucket j).armed ≡ Some c → G.current + 1 ≤ table_at G j
    later_armed j c armed =
        let right = whole.moving.armed j c armed in
        elim (cases_eq G.current (table_at G j)) [
          | inl e ↦
              let placed = placed_in M G whole j (held-bucket env mix M G whole j c right.holder) in
              absurd (none-some (emptied j (subst (IsPlaced G j) (sym e) placed)).armed armed)
          | inr ne ↦ omega (arith, right.current, ne)
        ]

    -- the store of the next table's slot
    pub publish : (M' : Memory) → IsWrite env.geometry M M' CurrentTable (G.table (G.current + 1)).slot
        → Made env mix d M G M' (published G)
    publish M' write =
        let v = (G.table (G.current + 1)).slot in
        restate env mix d M M' G (G.current + 1) G.slot G.worker CurrentTable v whole (record {
          write = write;
          word = current_word G;
          current_in = can.emptied.followed.more;
          later = omega arith;
          current_is = write.same;
          slots = slots_stand env mix M G (G.current + 1) whole (omega arith);
          states = λ s l. write.others (Slot s StateWord) (l, tt) (λ e. cc) ∙ whole.slots.states s l;
          worker_is = write.others WorkLock tt (λ e. cc) ∙ whole.slots.worker_is;
          retired = λ idle. absurd (none-some idle can.works);
          back = whole.slots.back;
          sections = restated_sections env mix d M M' G (G.current + 1) G.slot G.worker CurrentTable v whole write
              (record { own = λ c e. cc; kept = λ s c e. cc }) (λ s τ is. is);
          no_other = others_idle;
          none_gets_it = others_idle;
          seats = later_seat;
          armed = later_armed;
          moving = inl none_leaves;
        })
      where
        others_idle : (c : ℕ) → c ≢ d → G.worker ≢ Some c
        others_idle c ne other =
            let e : ◌≡◌ {A = Option ℕ} (Some d) (Some c) = sym can.works ∙ other in ne (cc)

  -- ---- a table that was left behind is being retired

  module _ (d s : ℕ) (M : Memory) (G : Ghost) (whole : Whole env mix M G) (can : CanRetire env mix d s G) where
    not_mine : (c : ℕ) → G.slot s ≡ SlotHeld c → ⊥
    not_mine c held = let e = sym can.table ∙ ap has_table held in cc

    state_word_apart : IsStandingWord G (Slot s StateWord)
    state_word_apart = record {
      no_page = λ i e. cc;
      no_node = λ n w e. cc;
      no_map = λ i e. cc;
      no_page_map = λ i e. cc;
      no_count = λ e. cc;
      no_shape = λ i e. cc;
      no_seed = λ i e. cc;
      no_serial = λ i e. cc;
      no_future = λ i e. cc;
      no_held = λ i c w held e. let same : i ≡ s = cc in not_mine c (ap G.slot (sym same) ∙ held);
    }

    abbrev owner : SlotOwner
    owner = Retiring (index_at G s)

    -- the store of 2 in the state word of its slot
    pub retire : (M' : Memory) → IsWrite env.geometry M M' (Slot s StateWord) 2
        → Made env mix d M G M' (retiring G s)
    retire M' write =
        restate env mix d M M' G G.current (retiring G s).slot G.worker (Slot s StateWord) 2 whole (record {
          write = write;
          word = state_word_apart;
          current_in = whole.tables.current_in;
          later = omega arith;
          current_is = write.others CurrentTable tt (λ e. cc) ∙ whole.tables.current_is;
          slots = restanding env mix M G whole s owner can.table (omega (arith, can.left_behind)) refl refl
              (λ τ is. ap unretired can.live ∙ is);
          states = put-all (λ i o. i < 8 → M' (Slot i StateWord) ≡ state_word o) G.slot s owner
              (λ l. write.same)
              (λ i ne l. write.others (Slot i StateWord) (l, tt) (λ e. ne (cc)) ∙ whole.slots.states i l);
          worker_is = write.others WorkLock tt (λ e. cc) ∙ whole.slots.worker_is;
          retired = λ idle. absurd (none-some idle can.works);
          back = λ i c. put-all (λ k o. o ≡ Back c → G.worker ≡ Some c) G.slot s owner (λ is. absurd (cc))
              (λ k ne is. whole.slots.back k c is) i;
          sections = restated_sections env mix d M M' G G.current (retiring G s).slot G.worker (Slot s StateWord) 2 whole write
              (record { own = λ c e. cc; kept = λ i c e. cc })
              (λ i τ. put-all (λ k o. o ≡ Retired τ → G.slot k ≡ Retired τ) G.slot s owner (λ is. absurd (cc))
              (λ k ne is. is) i);
          no_other = others_idle;
          none_gets_it = others_idle;
          seats = λ n j first. (whole.owned.first_at n j first).at_home.current;
          armed = λ j c armed. (whole.moving.armed j c armed).current;
          moving = inr (refl, refl);
        })
      where
        others_idle : (c : ℕ) → c ≢ d → G.worker ≢ Some c
        others_idle c ne other =
            let e : ◌≡◌ {A = Option ℕ} (Some d) (Some c) = sym can.works ∙ other in ne (cc)
