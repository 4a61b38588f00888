-- The stores of section words in the slot of a table that is being retired. Behind the last of them the table is retired: the
-- word of each section that comes to it is kept.
--
-- A section that comes to the table was open already when the table was left behind, and no later one does. So of a word that was
-- loaded of a caller it may be said, until it is stored and for good: the caller's section doesn't come to the table, or this is
-- its word.
use Rattle.std.proofs.Common.{◌≡◌, ◌≢◌, ℕ, ◌+◌, ◌<◌, Option, Some, None, refl, sym, ◌∙◌, ap, subst, inl, inr, arith}
use Rattle.std.proofs.lemmas.Bool.{cases_eq}
use Rattle.rht_words.specs.declared.env.Env.{Env}
use Rattle.rht_words.specs.Places.{CurrentTable, WorkLock, Section, Slot, StateWord, LoadedSection}
use Rattle.rht_words.proofs.Memory.{Memory, IsWrite}
use Rattle.rht_ghost.proofs.Theory.Ghosts.{put-all, SlotOwner, SlotHeld, Retiring, Retired, Back, IsSince, Ghost, state_word, has_table, unretired, table_of_slot, index_at, none-some, some-same}
use Rattle.rht_ghost.proofs.Theory.Wholes.{AreRetired, IsTurned, SectionsRight, Whole}
use Rattle.rht_ghost.proofs.Theory.SectionFrames.{open-among, open-within, retiring-before}
use Rattle.rht_ghost.proofs.Theory.Knowns.{Works, HasKept}
use Rattle.rht_ghost.proofs.Theory.Knowledge.{DoesWork, IsLoaded}
use Rattle.rht_ghost.proofs.Theory.Frames.{Made}
use Rattle.rht_ghost.proofs.Theory.Departures.{with_standing, retired, CanKeep, CanSettle}
use Rattle.rht_ghost.proofs.Moves.Standing.{IsStandingWord, IsRestated, slots_stand, restanding, restate}
use Rattle.rht_ghost.proofs.Moves.Working.{Worked}

module _ (env : Env) (mix : ℕ → ℕ → ℕ → ℕ) where
  -- ---- such a store

  module _ (d s e word table : ℕ) (M M' : Memory) (G : Ghost) (whole : Whole env mix M G) (works : G.worker ≡ Some d)
      (is : G.slot s ≡ Retiring table) (write : IsWrite env.geometry M M' (Slot s (LoadedSection e)) word) where
    -- it is to a word of which nothing is said but of sections, in a slot that no caller has
    loaded_word : IsStandingWord G (Slot s (LoadedSection e))
    loaded_word = record {
      no_page = λ i x. cc;
      no_node = λ n w x. cc;
      no_map = λ i x. cc;
      no_page_map = λ i x. cc;
      no_count = λ x. cc;
      no_shape = λ i x. cc;
      no_seed = λ i x. cc;
      no_serial = λ i x. cc;
      no_future = λ i x. cc;
      no_held = λ i c w held x.
          let same : i ≡ s = cc in
          let z : Retiring table ≡ SlotHeld c = sym is ∙ ap G.slot (sym same) ∙ held in cc;
    }

    others_idle : (c : ℕ) → c ≢ d → G.worker ≢ Some c
    others_idle c ne other = let same : ◌≡◌ {A = Option ℕ} (Some d) (Some c) = sym works ∙ other in ne (cc)

    -- what sections say is right where the words are that are kept in slots
    sections_right : (slot : ℕ → SlotOwner)
        → ((i τ c : ℕ) → i < 8 → slot i ≡ Retired τ → IsSince (G.from c) τ → M' (Slot i (LoadedSection c)) ≡ M (Section c))
        → SectionsRight env mix M' (with_standing G G.current slot G.worker)
    sections_right slot kept = record {
      words = λ c l. subst (IsTurned env mix (G.from c)) (sym (write.others (Section c) l (λ x. cc))) (whole.sections.words c l);
      callers = whole.sections.callers;
      kept = λ i τ c l there since. kept i τ c l there since
          ∙ sym (write.others (Section c) (open-within env mix M G whole.sections c τ since) (λ x. cc));
      locked = whole.sections.locked;
    }

    -- the words in the slots of retired tables are others than this one
    kept_before : (i τ c : ℕ) → i < 8 → G.slot i ≡ Retired τ → IsSince (G.from c) τ
        → M' (Slot i (LoadedSection c)) ≡ M (Section c)
    kept_before i τ c l there since =
        write.others (Slot i (LoadedSection c)) (l, open-within env mix M G whole.sections c τ since)
        (λ x. let same : i ≡ s = cc in let z : Retiring table ≡ Retired τ = sym is ∙ ap G.slot (sym same) ∙ there in cc)
        ∙ whole.sections.kept i τ c l there since

    -- the table stays being retired
    kept_so : IsRestated env mix d M M' G G.current G.slot G.worker (Slot s (LoadedSection e)) word
    kept_so = record {
      write = write;
      word = loaded_word;
      current_in = whole.tables.current_in;
      later = omega arith;
      current_is = write.others CurrentTable tt (λ x. cc) ∙ whole.tables.current_is;
      slots = slots_stand env mix M G G.current whole (omega arith);
      states = λ i l. write.others (Slot i StateWord) (l, tt) (λ x. cc) ∙ whole.slots.states i l;
      worker_is = write.others WorkLock tt (λ x. cc) ∙ whole.slots.worker_is;
      retired = λ idle. absurd (none-some idle works);
      back = whole.slots.back;
      sections = sections_right G.slot kept_before;
      no_other = others_idle;
      none_gets_it = others_idle;
      seats = λ n j first. (whole.owned.first_at n j first).at_home.current;
      armed = λ j c armed. (whole.moving.armed j c armed).current;
      moving = inr (refl, refl);
    }

    -- or is retired, where the word of each section is kept that comes to it
    settled_so : ((c : ℕ) → c ≢ e → IsSince (G.from c) table → M (Slot s (LoadedSection c)) ≡ M (Section c))
        → (IsSince (G.from e) table → word ≡ M (Section e))
        → IsRestated env mix d M M' G G.current (retired G s).slot G.worker (Slot s (LoadedSection e)) word
    settled_so others last = record {
      write = write;
      word = loaded_word;
      current_in = whole.tables.current_in;
      later = omega arith;
      current_is = write.others CurrentTable tt (λ x. cc) ∙ whole.tables.current_is;
      slots = restanding env mix M G whole s owner (ap has_table is)
          (let before = retiring-before env mix M G whole.tables s table is in omega (arith, index, before)) refl refl
          (λ τ x. absurd (cc));
      states = put-all (λ i o. i < 8 → M' (Slot i StateWord) ≡ state_word o) G.slot s owner
          (λ l. write.others (Slot s StateWord) (l, tt) (λ x. cc) ∙ whole.slots.states s l ∙ ap state_word is)
          (λ i ne l. write.others (Slot i StateWord) (l, tt) (λ x. cc) ∙ whole.slots.states i l);
      worker_is = write.others WorkLock tt (λ x. cc) ∙ whole.slots.worker_is;
      retired = λ idle. absurd (none-some idle works);
      back = λ i c. put-all (λ k o. o ≡ Back c → G.worker ≡ Some c) G.slot s owner (λ x. absurd (cc))
          (λ k ne x. whole.slots.back k c x) i;
      sections = sections_right (retired G s).slot kept_now;
      no_other = others_idle;
      none_gets_it = others_idle;
      seats = λ n j first. (whole.owned.first_at n j first).at_home.current;
      armed = λ j c armed. (whole.moving.armed j c armed).current;
      moving = inr (refl, refl);
    }
      where
        owner : SlotOwner
        owner = Retired (index_at G s)

        index : index_at G s ≡ table
        index = ap table_of_slot is

        kept_here : (c : ℕ) → s < 8 → IsSince (G.from c) table → M' (Slot s (LoadedSection c)) ≡ M (Section c)
        kept_here c l since = elim (cases_eq c e) [
          | inl same ↦
              ap (λ k. M' (Slot s (LoadedSection k))) same ∙ write.same
              ∙ last (subst (λ k. IsSince (G.from k) table) same since) ∙ ap (λ k. M (Section k)) (sym same)
          | inr ne ↦
              write.others (Slot s (LoadedSection c)) (l, open-within env mix M G whole.sections c table since) (λ x. ne (cc))
              ∙ others c ne since
        ]

        kept_now : (i τ c : ℕ) → i < 8 → (retired G s).slot i ≡ Retired τ → IsSince (G.from c) τ
            → M' (Slot i (LoadedSection c)) ≡ M (Section c)
        kept_now i τ c = put-all (λ k o. k < 8 → o ≡ Retired τ → IsSince (G.from c) τ
            → M' (Slot k (LoadedSection c)) ≡ M (Section c)) G.slot s owner
            (λ l there since.
            let same : index_at G s ≡ τ = cc in
            kept_here c l (subst (IsSince (G.from c)) (sym same ∙ index) since))
            (λ k ne l there since. kept_before k τ c l there since) i

  -- a section word is stored, and others are still to come
  pub keep_word : (d s e word : ℕ) (M M' : Memory) (G : Ghost) → Whole env mix M G → CanKeep env mix d s G
      → IsWrite env.geometry M M' (Slot s (LoadedSection e)) word → Made env mix d M G M' G
  keep_word d s e word M M' G whole can write =
      restate env mix d M M' G G.current G.slot G.worker (Slot s (LoadedSection e)) word whole
      (kept_so d s e word can.table M M' G whole can.works can.retiring write)

  -- the last one is stored
  pub settle : (d s e word : ℕ) (M M' : Memory) (G : Ghost) → Whole env mix M G → CanSettle env mix d s e word M G
      → IsWrite env.geometry M M' (Slot s (LoadedSection e)) word → Made env mix d M G M' (retired G s)
  settle d s e word M M' G whole can write =
      restate env mix d M M' G G.current (retired G s).slot G.worker (Slot s (LoadedSection e)) word whole
      (settled_so d s e word can.table M M' G whole can.works can.retiring write can.kept can.last)

  -- ---- by what the caller that does the work knows before and after it

  module _ (c slot count word : ℕ) (M : Memory) (G : Ghost) (whole : Whole env mix M G) (works : DoesWork c G (Some slot)) where
    pub can_keep : IsLoaded env mix M G slot count word → CanKeep env mix c slot G
    can_keep is = record { works = works.0; table = is.keeping.table; retiring = is.keeping.retiring }

    -- the word of the last caller is stored last
    pub can_settle : IsLoaded env mix M G slot count word → count + 1 ≡ env.geometry.callers
        → CanSettle env mix c slot count word M G
    can_settle is last = record {
      works = works.0;
      table = is.keeping.table;
      retiring = is.keeping.retiring;
      kept = λ k ne since.
          let below = open-among env mix M G whole.sections k is.keeping.table since in
          is.keeping.kept k (omega (arith, below, last, ne)) since;
      last = is.loaded;
    }

    -- so each caller's word below the next one is kept
    pub keep_work : (M' : Memory) → IsLoaded env mix M G slot count word
        → IsWrite env.geometry M M' (Slot slot (LoadedSection count)) word → Worked env mix c M G M' G (HasKept slot (count + 1))
    keep_work M' is write = record {
      made = keep_word c slot count word M M' G whole (can_keep is) write;
      means = record {
        works = works;
        more = record {
          within = is.keeping.within;
          table = is.keeping.table;
          retiring = is.keeping.retiring;
          before = is.keeping.before;
          kept = kept;
        };
      };
    }
      where
        table : ℕ
        table = is.keeping.table

        kept : (d : ℕ) → d < count + 1 → IsSince (G.from d) table → M' (Slot slot (LoadedSection d)) ≡ M' (Section d)
        kept d l since =
            let within = open-within env mix M G whole.sections d table since in
            let own = write.others (Section d) within (λ x. cc) in
            elim (cases_eq d count) [
              | inl same ↦
                  ap (λ k. M' (Slot slot (LoadedSection k))) same ∙ write.same
                  ∙ is.loaded (subst (λ k. IsSince (G.from k) table) same since) ∙ ap (λ k. M (Section k)) (sym same)
                  ∙ sym own
              | inr ne ↦
                  write.others (Slot slot (LoadedSection d)) (is.keeping.within, within) (λ x. ne (cc))
                  ∙ is.keeping.kept d (omega (arith, l, ne)) since ∙ sym own
            ]

    -- and behind the last one no table before the current one is left that isn't retired
    pub settle_work : (M' : Memory) → IsLoaded env mix M G slot count word → count + 1 ≡ env.geometry.callers
        → IsWrite env.geometry M M' (Slot slot (LoadedSection count)) word → Worked env mix c M G M' (retired G slot) Works
    settle_work M' is last write = record {
      made = settle c slot count word M M' G whole (can_settle is last) write;
      means = record { works = (works.0, all_retired); more = tt };
    }
      where
        all_retired : AreRetired (retired G slot) None
        all_retired s τ =
            put-all (λ k o. unretired o ≡ Some τ → τ < G.current → None ≡ Some k) G.slot slot (Retired (index_at G slot))
            (λ x l. absurd (cc)) (λ k ne x l. absurd (ne (sym (some-same slot k (works.1 k τ x l))))) s
