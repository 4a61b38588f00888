-- The moves that change neither nodes nor what is bound: the lock of a bucket is taken and dropped, and the count of ports is
-- raised and lowered.
use Rattle.std.proofs.Common.{◌≡◌, ◌≢◌, ◌⊎◌, ℕ, ◌+◌, ◌-◌, ◌*◌, ◌/◌, ◌%◌, ◌^◌, ◌<◌, Option, Some, None, true, false, refl, sym, ◌∙◌, ap, subst, inl, inr, arith}
use Rattle.std.proofs.lemmas.Bool.{both_ways}
use Rattle.rht_words.specs.declared.env.Env.{Env}
use Rattle.rht_words.specs.Places.{Address, PortCount, Section, Slot, NodeMap, Node, NodeWord, ChainLink, KeyWord, OwnerWord, PageWord}
use Rattle.rht_words.proofs.Memory.{Memory, IsWrite}
use Rattle.rht_words.proofs.Members.{count_below-more, count_below-most}
use Rattle.rht_ghost.proofs.Theory.Ghosts.{put, put-same, put-other, put-all, Ghost, IsSince, lock_bit, is_first, seat, table_at, held_by, with_holder, armed_by, with_armed, with_raised, is_entry, none-some}
use Rattle.rht_ghost.proofs.Theory.Entries.{bucket-no_entry}
use Rattle.rht_ghost.proofs.Theory.Wholes.{LockedRight, BucketRight, ArmedRight, IsNoBucket, MovesNone, Whole, firsts, raisers}
use Rattle.rht_ghost.proofs.Theory.Passed.{held-bucket, PassesStay, WasOut}
use Rattle.rht_ghost.proofs.Theory.Readiness.{IsArming}
use Rattle.rht_ghost.proofs.Theory.Knowledge.{IsEmptied}
use Rattle.rht_ghost.proofs.Theory.Reliance.{Rely}
use Rattle.rht_ghost.proofs.Theory.SectionFrames.{sections_stay, SectionsRight-frame}
use Rattle.rht_ghost.proofs.Theory.Frames.{Others, Made, IsNoTableWord, unwritten_words, used_stay, chains_stay, slots_stay, holdings_stay, entries_stay, untouched, work_stays, tables_stay, same_tables, Rely-same, stale_write, stale_none, same_owners}
use Rattle.rht_ghost.proofs.Theory.WholeFrames.{TablesRight-same, no_bucket, MovingStays, entry_words, MovingRight-frame, Owned-frame, SameChains, same_chains, chains_passes, Whole-frame, locks_stay, arena_stays}

module _ (env : Env) (mix : ℕ → ℕ → ℕ → ℕ) where
  -- ---- the lock of a bucket

  -- No caller that has an entry on its way has this bucket.
  abbrev pub IsUnworked : Ghost → ℕ → Type 0
  IsUnworked G j = (c k entry : ℕ) → (G.bucket j).holder ≡ Some c → (G.bucket k).out ≡ Some entry
      → (G.bucket k).holder ≢ Some c

  pub held_chains : (G : Ghost) (j : ℕ) (holder : Option ℕ) → IsUnworked G j
      → SameChains env mix G (with_holder G j holder)
  held_chains G j holder unworked =
      let held = held_by (G.bucket j) holder in
      record {
        tables = same_tables env mix G (put G.bucket j held) G.node G.bound G.raised;
        nodes = put-all (λ i b. b.nodes ≡ (G.bucket i).nodes) G.bucket j held refl (λ i ne. refl);
        plain = put-all (λ i b. b.plain ≡ (G.bucket i).plain) G.bucket j held refl (λ i ne. refl);
        out = put-all (λ i b. b.out ≡ (G.bucket i).out) G.bucket j held refl (λ i ne. refl);
        armed = λ i c. put-all (λ k b. b.armed ≡ Some c
            → ((G.bucket k).armed ≡ Some c) × (b.holder ≡ (G.bucket k).holder)) G.bucket j held
            (λ is. absurd (cc)) (λ k ne is. (is, refl)) i;
        kept = λ i c k entry holds is out. put-other G.bucket j held i
            (λ e. unworked c k entry (ap (λ m. (G.bucket m).holder) (sym e) ∙ holds) is out);
        used = λ n used. refl;
        used_before = λ n used. refl;
        bound = λ port. refl;
      }

  -- a store of the bucket's word that changes its lock alone; the section of who has it then comes to the bucket's table
  relocked : (j v : ℕ) (holder : Option ℕ) (M M' : Memory) (G : Ghost) → Whole env mix M G
      → j < 64 * env.geometry.pages → IsUnworked G j → (IsNoBucket env mix G (G.page (j / 64)) j → ⊥)
      → ((c : ℕ) → holder ≡ Some c → IsSince (G.from c) (table_at G j))
      → v ≡ (G.bucket j).plain + lock_bit holder → IsWrite env.geometry M M' (PageWord j) v
      → Whole env mix M' (with_holder G j holder)
  relocked j v holder M M' G whole l unworked bucket since is write =
      let plain = bucket-no_entry env mix G j bucket in
      let old = (whole.buckets j l plain).locked in
      let held = held_by (G.bucket j) holder in
      Whole-frame env mix M M' G (with_holder G j holder) (PageWord j) v whole write
      (record { current = λ e. cc; work = λ e. cc; sections = λ k e. cc; slots = λ s u e. cc; pages = λ i e. cc })
      (λ i entry e. let same : i ≡ j = cc in both_ways (is_entry G j) plain (ap (is_entry G) (sym same) ∙ entry))
      (held_chains G j holder unworked)
      (used_stay env mix M M' G (PageWord j) v whole write (λ n w e. cc))
      (λ i blank. put-other G.bucket j held i
      (λ e. bucket (subst (λ k. IsNoBucket env mix G (G.page (k / 64)) k) e blank)))
      (put-all (λ i b. i < 64 * env.geometry.pages → is_entry G i ≡ false → LockedRight env mix M' i b) G.bucket j held
      (λ k none. record { word_is = write.same ∙ is; even = old.even })
      (λ i ne k none. let right = (whole.buckets i k none).locked in record {
        word_is = write.others (PageWord i) k (λ e. ne (cc)) ∙ right.word_is;
        even = right.even;
      }))
      (arena_stays env mix M M' G (PageWord j) v whole write (with_holder G j holder) refl (λ i e. cc))
      (write.others PortCount tt (λ e. cc) ∙ whole.counted) refl
      (put-all (λ i b. (c : ℕ) → b.holder ≡ Some c → IsSince (G.from c) (table_at G i)) G.bucket j held since
      (λ i ne. whole.sections.locked i))

  -- so it is of a bucket that a caller has which has no entry on its way
  pub unworked_by : (G : Ghost) (d j : ℕ) → MovesNone env mix G d → (G.bucket j).holder ≡ Some d → IsUnworked G j
  unworked_by G d j none holds c k entry is out by =
      let same : ◌≡◌ {A = Option ℕ} (Some d) (Some c) = sym holds ∙ is in none k entry out (by ∙ sym same)

  -- what others can count on where the holder of one bucket changes, which none of them is before or after
  relocked_others : (d j v : ℕ) (holder : Option ℕ) (M M' : Memory) (G : Ghost) → Whole env mix M G
      → IsUnworked G j
      → ((c : ℕ) → c ≢ d → (G.bucket j).holder ≢ Some c) → ((c : ℕ) → c ≢ d → holder ≢ Some c)
      → IsWrite env.geometry M M' (PageWord j) v → Others env mix d M G M' (with_holder G j holder)
  relocked_others d j v holder M M' G whole unworked before after write c ne =
      let held = held_by (G.bucket j) holder in
      let G' = with_holder G j holder in
      let same = held_chains G j holder unworked in
      let stay = used_stay env mix M M' G (PageWord j) v whole write (λ n w e. cc) in
      record {
        tables = tables_stay env mix M G G' whole same.tables (chains_passes env mix M G G' whole same);
        locks = λ i h. put-other G.bucket j held i (λ e. before c ne (rw (sym e) h));
        lists = λ i n h k. refl;
        chains = chains_stay env mix c M M' G (PageWord j) v whole write (λ n used e. cc);
        keys = λ n l used. write.others (Node n KeyWord) l (λ e. cc);
        owners = λ n l used. write.others (Node n OwnerWord) l (λ e. cc);
        nodes = λ n has. has.mine;
        words = λ n has w. write.others (Node n w) has.among (λ e. cc);
        raised = refl;
        taken = λ n. refl;
        unbound = λ port τ i is. is.unbound;
        holdings = holdings_stay env mix c M M' G G' same.tables
            (λ s w l is. write.others (Slot s w) (l, is) (λ e. cc));
        work = work_stays env mix c M M' G G' same.tables (entries_stay env mix M M' G G' whole stay
            (λ n used. refl)
            (put-all (λ i b. IsEmptied env mix (G.bucket i) → IsEmptied env mix b) G.bucket j held
            (λ is. record { nodes = is.nodes; out = is.out; armed = refl }) (λ i apart is. is)))
            (λ s w l is. write.others (Slot s w) (l, is) (λ e. cc))
            (sections_stay env mix M M' G G' whole refl (λ k l. write.others (Section k) l (λ e. cc)));
        no_work = λ is. is;
        no_node = λ n h. h;
        no_lock = λ i. put-all (λ i b. b.holder ≡ Some c → (G.bucket i).holder ≡ Some c) G.bucket j held
            (λ h. absurd (after c ne h)) (λ i ni h. h) i;
      }

  -- an even word is one that nobody has locked
  nobody_holds : (holder : Option ℕ) (plain word : ℕ) → word ≡ plain + lock_bit holder → word % 2 ≡ 0
      → plain % 2 ≡ 0 → (holder ≡ None) × (plain ≡ word)
  nobody_holds None plain word is even plain_even = (refl, omega arith)
  nobody_holds (Some c) plain word is even plain_even = absurd (omega arith)

  -- the exchange that takes the lock of a bucket, to whose table the caller's section comes: the word was even
  pub take_lock : (d j v : ℕ) (M M' : Memory) (G : Ghost) → Whole env mix M G
      → j < 64 * env.geometry.pages → (IsNoBucket env mix G (G.page (j / 64)) j → ⊥)
      → IsSince (G.from d) (table_at G j) → M (PageWord j) ≡ v → v % 2 ≡ 0
      → IsWrite env.geometry M M' (PageWord j) (v + 1)
      → Made env mix d M G M' (with_holder G j (Some d)) × ((G.bucket j).plain ≡ v) × ((G.bucket j).holder ≡ None)
  take_lock d j v M M' G whole l bucket since found even write =
      let right = (whole.buckets j l (bucket-no_entry env mix G j bucket)).locked in
      let free = nobody_holds (G.bucket j).holder (G.bucket j).plain v (sym found
      ∙ right.word_is) even right.even in
      let unworked : IsUnworked G j = λ c k entry holds is by. none-some free.0 holds in (
        record {
          whole = relocked j (v + 1) (Some d) M M' G whole l unworked bucket
              (λ c is. let same : d ≡ c = cc in subst (λ k. IsSince (G.from k) (table_at G j)) same since)
              (ap (λ p. p + 1) (sym free.1)) write;
          others = relocked_others d j (v + 1) (Some d) M M' G whole unworked
              (λ c ne h. none-some free.0 h) (λ c ne h. ne (cc)) write;
          stale = stale_write env mix M M' G (with_holder G j (Some d)) (PageWord j) (v + 1) write
              (same_owners env mix G (with_holder G j (Some d)) refl) (λ n u f e. cc) (λ n u f e. cc);
        },
        free.1,
        free.0,
      )

  -- nobody has an entry on its way in a bucket that nobody has
  pub unworked_free : (G : Ghost) (j : ℕ) → (G.bucket j).holder ≡ None → IsUnworked G j
  unworked_free G j free c k entry holds is by = none-some free holds

  -- nor is one on its way out of it
  pub free-still : (M : Memory) (G : Ghost) (j : ℕ) → Whole env mix M G → (G.bucket j).holder ≡ None
      → (G.bucket j).out ≡ None
  free-still M G j whole free = go (G.bucket j).out refl
    where
      go : (out : Option ℕ) → (G.bucket j).out ≡ out → out ≡ None
      go None is = refl
      go (Some entry) is = absurd (none-some free (whole.moving.out j entry is).holder)

  -- the holder's store of the word without the lock, where no entry of its own is on its way
  pub drop_lock : (d j v : ℕ) (M M' : Memory) (G : Ghost) → Whole env mix M G
      → j < 64 * env.geometry.pages → MovesNone env mix G d → (G.bucket j).holder ≡ Some d
      → (G.bucket j).plain ≡ v
      → IsWrite env.geometry M M' (PageWord j) v → Made env mix d M G M' (with_holder G j None)
  drop_lock d j v M M' G whole l none holds plain write =
      let unworked : IsUnworked G j = unworked_by G d j none holds in
      record {
        whole = relocked j v None M M' G whole l unworked (held-bucket env mix M G whole j d holds) (λ c is. absurd (cc))
            (omega (arith, plain)) write;
        others = relocked_others d j v None M M' G whole unworked
            (λ c ne h. let e : ◌≡◌ {A = Option ℕ} (Some d) (Some c) = sym holds ∙ h in ne (cc))
            (λ c ne h. cc) write;
        stale = stale_write env mix M M' G (with_holder G j None) (PageWord j) v write
            (same_owners env mix G (with_holder G j None) refl) (λ n u f e. cc) (λ n u f e. cc);
      }

  -- ---- a bind finds that no table is behind that of its bucket

  armed_moving : (d j : ℕ) (M : Memory) (G : Ghost) → Whole env mix M G → MovesNone env mix G d
      → IsArming env mix d j G → MovingStays env mix M G (with_armed G j d)
  armed_moving d j M G whole none is =
      let armed = armed_by (G.bucket j) d in
      record {
        armed = λ i c. put-all (λ k b. b.armed ≡ Some c
            → (((G.bucket k).armed ≡ Some c) × (b.holder ≡ (G.bucket k).holder))
            ⊎ ArmedRight env mix (with_armed G j d) k c) G.bucket j armed
            (λ e. let same : d ≡ c = cc in inr (record {
              holder = ap (λ b. b.holder) (put-same G.bucket j armed) ∙ is.holder ∙ ap Some same;
              current = is.current;
              attached = omega (arith, is.last);
            }))
            (λ k ne e. inl (e, refl)) i;
        out = λ i entry. put-all (λ k b. b.out ≡ Some entry → (G.bucket k).out ≡ Some entry) G.bucket j armed
            (λ e. e) (λ k ne e. e) i;
        kept = λ i c k entry holds out by. put-other G.bucket j armed i
            (λ e. unworked_by G d j none is.holder c k entry
            (ap (λ m. (G.bucket m).holder) (sym e) ∙ holds) out by);
        entries = λ k entry out. refl;
        leaves = λ n k leaving. leaving;
        heads = λ n k leaving. refl;
      }

  pub armed_passes : (d j : ℕ) (G : Ghost) → IsArming env mix d j G → PassesStay env mix G (with_armed G j d)
  armed_passes d j G is =
      let armed = armed_by (G.bucket j) d in
      record {
        armed = λ i c. put-all (λ k b. b.armed ≡ Some c
            → ((G.bucket k).armed ≡ Some c) ⊎ (table_at G k + 1 ≡ G.attached)) G.bucket j armed
            (λ e. inr is.last) (λ k ne e. inl e) i;
        heads = λ port n i behind b. put-all (λ k bucket. bucket.out ≡ Some n
            → WasOut env mix G port n k ⊎ (seat G port ≡ Some k)) G.bucket j armed
            (λ out. inl (record { behind = behind; bound_to = b; out = out }))
            (λ k ne out. inl (record { behind = behind; bound_to = b; out = out })) i;
        seats = λ port i seated. inl (record { bucket = i; seat_is = seated; earlier = omega arith });
      }

  -- the load of the future of the last table, by a caller that has locked one of its buckets
  pub arm : (d j : ℕ) (M : Memory) (G : Ghost) → Whole env mix M G → MovesNone env mix G d
      → IsArming env mix d j G
      → Made env mix d M G M (with_armed G j d)
  arm d j M G whole none is =
      let armed = armed_by (G.bucket j) d in
      let G' = with_armed G j d in
      let same = same_tables env mix G G'.bucket G.node G.bound G.raised in
      let moving = armed_moving d j M G whole none is in
      let unwritten = unwritten_words env mix M G in
      record {
        whole = record {
          tables = TablesRight-same env mix M G G' same whole.tables;
          slots = record {
            states = whole.slots.states;
            worker_is = whole.slots.worker_is;
            retired = whole.slots.retired;
            back = whole.slots.back;
          };
          sections = SectionsRight-frame env mix M M G G' whole.sections refl (λ k l. refl) (λ s k l m. refl) (λ s τ is. is)
              (put-all (λ i b. (c : ℕ) → b.holder ≡ Some c → IsSince (G.from c) (table_at G i)) G.bucket j armed
              (whole.sections.locked j) (λ i ne. whole.sections.locked i));
          pages = record {
            bits = whole.pages.bits;
            page_of = whole.pages.page_of;
            there = λ p τ of. let t = whole.pages.there p τ of in record { has_slot = t.has_slot; index = t.index };
            blank = λ i blank. put-other G.bucket j armed i
                (λ e. held-bucket env mix M G whole j d is.holder
                (subst (λ k. IsNoBucket env mix G (G.page (k / 64)) k) e (no_bucket env mix G G' refl (G.page (i / 64)) i blank)))
                ∙ whole.pages.blank i (no_bucket env mix G G' refl (G.page (i / 64)) i blank);
          };
          buckets = put-all (λ i b. i < 64 * env.geometry.pages → is_entry G i ≡ false → BucketRight env mix M i b) G.bucket j
              armed
              (λ l none. let right = whole.buckets j l none in record {
                locked = record { word_is = right.locked.word_is; even = right.locked.even };
                chained = record { segment = right.chained.segment; distinct = right.chained.distinct };
              })
              (λ i ne. whole.buckets i);
          entries = whole.entries;
          moving = MovingRight-frame env mix M M G G' whole same moving (entry_words env mix M M G whole unwritten);
          owned = Owned-frame env mix M M G G' whole (record {
            tables = same;
            moving = moving;
            nodes = put-all (λ i b. b.nodes ≡ (G.bucket i).nodes) G.bucket j armed refl (λ i ne. refl);
            used = λ n used. refl;
            used_before = λ n used. refl;
            bound = λ port. refl;
          }) unwritten;
          arena = record { built = whole.arena.built; bits = whole.arena.bits };
          counted = whole.counted;
        };
        stale = stale_none env mix M G G' (same_owners env mix G G' refl);
        others = λ c ne. record {
          tables = tables_stay env mix M G G' whole same (armed_passes d j G is);
          locks = λ i h. put-other G.bucket j armed i
              (λ e. let z : ◌≡◌ {A = Option ℕ} (Some d) (Some c) = sym is.holder
              ∙ ap (λ k. (G.bucket k).holder) (sym e) ∙ h in ne (cc));
          lists = λ i n h k. refl;
          chains = λ i n m h k b. refl;
          keys = λ n l used. refl;
          owners = λ n l used. refl;
          nodes = λ n has. has.mine;
          words = λ n has w. refl;
          raised = refl;
          taken = λ n. refl;
          unbound = λ port τ i for. for.unbound;
          holdings = holdings_stay env mix c M M G G' same (λ s w l within. refl);
          work = λ works. record {
            worker = works;
            current = refl;
            left = λ s has l. refl;
            kept = λ s k l m. refl;
            sections = sections_stay env mix M M G G' whole refl (λ k l. refl);
            over = λ τ l over. untouched env mix τ G G' same;
            emptied = λ more i. put-all (λ k b. table_at G k ≡ G.current → IsEmptied env mix (G.bucket k)
                → IsEmptied env mix b) G.bucket j armed
                (λ table empty. absurd (omega (arith, is.last, table, more))) (λ k apart table empty. empty) i;
            entries = λ i entry out. refl;
            chains = λ n i leaving. refl;
          };
          no_work = λ works. works;
          no_node = λ n h. h;
          no_lock = λ i. put-all (λ k b. b.holder ≡ Some c → (G.bucket k).holder ≡ Some c) G.bucket j armed
              (λ h. h) (λ k apart h. h) i;
        };
      }

  -- ---- the count of ports

  pub count_up : (d : ℕ) (M M' : Memory) (G : Ghost) → Whole env mix M G → d < env.geometry.callers
      → G.raised d ≡ false
      → IsWrite env.geometry M M' PortCount ((M PortCount + 1) % 2 ^ 64)
      → Made env mix d M G M' (with_raised G d true)
  count_up d M M' G whole l low write =
      let v = (M PortCount + 1) % 2 ^ 64 in
      let within = env.geometry.within in
      let few = count_below-most (λ n. is_first (G.node n)) env.geometry.nodes in
      let fewer = count_below-most G.raised env.geometry.callers in
      let more : raisers env mix (with_raised G d true) ≡ raisers env mix G + 1
      = count_below-more G.raised (put G.raised d true) d env.geometry.callers l low
      (put-same G.raised d true) (λ n ne. put-other G.raised d true n ne) in
      let next : v ≡ firsts env mix G + (raisers env mix G + 1)
      = omega (arith, whole.counted, few, fewer, within.nodes_within.1, within.callers_within.1) in
      let stay = used_stay env mix M M' G PortCount v whole write (λ n w e. cc) in
      record {
        whole = Whole-frame env mix M M' G (with_raised G d true) PortCount v whole write
            (record { current = λ e. cc; work = λ e. cc; sections = λ k e. cc; slots = λ s u e. cc; pages = λ i e. cc })
            (λ j entry e. cc)
            (same_chains env mix G (put G.raised d true)) stay (λ j blank. refl)
            (locks_stay env mix M M' G PortCount v whole write (λ j e. cc))
            (arena_stays env mix M M' G PortCount v whole write (with_raised G d true) refl (λ i e. cc))
            (write.same ∙ next ∙ ap (λ x. firsts env mix G + x) (sym more)) refl whole.sections.locked;
        stale = stale_write env mix M M' G (with_raised G d true) PortCount v write
            (same_owners env mix G (with_raised G d true) refl) (λ n u f e. cc) (λ n u f e. cc);
        others = λ c ne. Rely-same env mix c M M' G (with_raised G d true) whole
            (same_tables env mix G G.bucket G.node G.bound (put G.raised d true)) refl refl refl
            (put-other G.raised d true c ne) stay (chains_stay env mix c M M' G PortCount v whole write
            (λ n used e. cc))
            (λ s w l is. write.others (Slot s w) (l, is) (λ e. cc))
            (sections_stay env mix M M' G (with_raised G d true) whole refl (λ k m. write.others (Section k) m (λ e. cc)))
            (λ n w has. write.others (Node n w) has.among (λ e. cc));
      }

  -- the store of a call that lowers the count which it still had to lower
  pub count_down : (d : ℕ) (M M' : Memory) (G : Ghost) → Whole env mix M G → d < env.geometry.callers
      → G.raised d ≡ true
      → IsWrite env.geometry M M' PortCount ((M PortCount + (2 ^ 64 - 1)) % 2 ^ 64)
      → Made env mix d M G M' (with_raised G d false)
  count_down d M M' G whole l high write =
      let v = (M PortCount + (2 ^ 64 - 1)) % 2 ^ 64 in
      let within = env.geometry.within in
      let few = count_below-most (λ n. is_first (G.node n)) env.geometry.nodes in
      let fewer = count_below-most G.raised env.geometry.callers in
      let less : raisers env mix G ≡ raisers env mix (with_raised G d false) + 1
      = count_below-more (put G.raised d false) G.raised d env.geometry.callers l
      (put-same G.raised d false) high
      (λ n ne. sym (put-other G.raised d false n ne)) in
      let next : v ≡ firsts env mix G + raisers env mix (with_raised G d false)
      = omega (arith, whole.counted, less, few, fewer, within.nodes_within.1, within.callers_within.1) in
      let stay = used_stay env mix M M' G PortCount v whole write (λ n w e. cc) in
      record {
        whole = Whole-frame env mix M M' G (with_raised G d false) PortCount v whole write
            (record { current = λ e. cc; work = λ e. cc; sections = λ k e. cc; slots = λ s u e. cc; pages = λ i e. cc })
            (λ j entry e. cc)
            (same_chains env mix G (put G.raised d false)) stay (λ j blank. refl)
            (locks_stay env mix M M' G PortCount v whole write (λ j e. cc))
            (arena_stays env mix M M' G PortCount v whole write (with_raised G d false) refl (λ i e. cc))
            (write.same ∙ next) refl whole.sections.locked;
        stale = stale_write env mix M M' G (with_raised G d false) PortCount v write
            (same_owners env mix G (with_raised G d false) refl) (λ n u f e. cc) (λ n u f e. cc);
        others = λ c ne. Rely-same env mix c M M' G (with_raised G d false) whole
            (same_tables env mix G G.bucket G.node G.bound (put G.raised d false)) refl refl refl
            (put-other G.raised d false c ne) stay (chains_stay env mix c M M' G PortCount v whole write
            (λ n used e. cc))
            (λ s w l is. write.others (Slot s w) (l, is) (λ e. cc))
            (sections_stay env mix M M' G (with_raised G d false) whole refl (λ k m. write.others (Section k) m (λ e. cc)))
            (λ n w has. write.others (Node n w) has.among (λ e. cc));
      }

  -- ---- words of which the whole says nothing

  pub aside : (a : Address) (v : ℕ) (M M' : Memory) (G : Ghost) → Whole env mix M G
      → IsWrite env.geometry M M' a v
      → IsNoTableWord env mix a → ((j : ℕ) → PageWord j ≢ a) → ((n : ℕ) (w : NodeWord) → Node n w ≢ a)
      → ((i : ℕ) → NodeMap i ≢ a) → PortCount ≢ a
      → Whole env mix M' G × ((c : ℕ) → Rely env mix c M G M' G)
  aside a v M M' G whole write table page node map count =
      let stay = used_stay env mix M M' G a v whole write node in (
        Whole-frame env mix M M' G G a v whole write table (λ j entry. page j)
            (same_chains env mix G G.raised) stay (λ j blank. refl) (locks_stay env mix M M' G a v whole write page)
            (arena_stays env mix M M' G a v whole write G refl map) (write.others PortCount tt count
            ∙ whole.counted) refl whole.sections.locked,
        λ c. Rely-same env mix c M M' G G whole (same_tables env mix G G.bucket G.node G.bound G.raised)
            refl refl refl refl stay (chains_stay env mix c M M' G a v whole write
            (λ n used. node n ChainLink)) (slots_stay env mix M M' a v write table)
            (sections_stay env mix M M' G G whole refl (λ k l. write.others (Section k) l (table.sections k)))
            (λ n w has. write.others (Node n w) has.among (node n w)),
      )
