-- The exchange that enters a page: an entry of a nested table, which was 0, leads from then on to a page that the caller has. The page is
-- the table's, and its words, which are 0, are those of buckets that had none, or entries that lead to no page.
use Rattle.std.proofs.Common.{◌≡◌, ◌≢◌, ◌↔◌, ℕ, ◌+◌, ◌*◌, ◌/◌, ◌%◌, ◌<◌, cond, nat_lt, Option, Some, None, true, false, refl, sym, ◌∙◌, ap, subst, inl, inr, arith}
use Rattle.std.specs.Int.{bit_at}
use Rattle.std.proofs.lemmas.Bool.{cases_eq, both_ways}
use Rattle.rht_words.specs.declared.env.Env.{Env}
use Rattle.rht_words.specs.Links.{entry_of, future_of}
use Rattle.rht_words.specs.Places.{CurrentTable, WorkLock, Slot, SlotWord, ShapeWord, SeedWord, FutureWord, SerialWord, StateWord, PageMap, PageWord, IsSlotWord}
use Rattle.rht_words.proofs.Memory.{Memory, IsWrite}
use Rattle.rht_ghost.proofs.Theory.Ghosts.{Table, blank_bucket, put, put-same, put-other, put-all, PageOwner, PageFree, PageHeld, PageOf, IsSince, Ghost, has_entries, lock_bit, has_table, index_at, is_entry, is_entry_of, entry_word, table_at, table_of_page}
use Rattle.rht_ghost.proofs.Theory.Ways.{followed, IsSpareIn, StandsAs, entered_table}
use Rattle.rht_ghost.proofs.Theory.Wholes.{retired_stay, IsNoBucket, IsNested, IsBehind, EntriesRight, TablesRight, SlotsRight, PagesRight, PlacedRight, future_in, Whole, IsThere, there-attached}
use Rattle.rht_ghost.proofs.Theory.Entries.{IsEntryIn, entry_in, entry_nested}
use Rattle.rht_ghost.proofs.Theory.EnteredPages.{entry-here, entry-inside, entry-other, entry-stays, part-here, part-other, followed-stays, followed-new, stands-stay, stands-here}
use Rattle.rht_ghost.proofs.Theory.Passed.{TableStays, same-TableStays}
use Rattle.rht_ghost.proofs.Theory.Readiness.{entered, IsEntering}
use Rattle.rht_ghost.proofs.Theory.Frames.{Others, Made, stale_write, same_owners}
use Rattle.rht_ghost.proofs.Theory.TableFrames.{TablesKept, none_fresh, there_kept, IsNoBucketWord, no_table-no_bucket, Whole-retabled, Rely-retabled, TableRight-kept, placed_kept}

-- an entry whose word is 0 leads to no page
no_page : (entry : Option ℕ) → entry_word entry ≡ 0 → entry ≡ None
no_page None is = refl
no_page (Some page) is = absurd (omega arith)

module _ (env : Env) (mix : ℕ → ℕ → ℕ → ℕ) where
  module _ (d j p : ℕ) (M M' : Memory) (G : Ghost) (whole : Whole env mix M G) (ready : IsEntering env mix d j p G)
      (found : M (PageWord j) ≡ 0) (write : IsWrite env.geometry M M' (PageWord j) (entry_of p)) where
    abbrev τ : ℕ
    τ = table_at G j

    abbrev old : Table
    old = G.table τ

    abbrev new : Table
    new = entered_table old j p

    abbrev G' : Ghost
    G' = entered G j p

    abbrev tables : ℕ → Table
    tables = put G.table τ new

    abbrev page : ℕ → PageOwner
    page = put G.page p (PageOf τ)

    at : IsEntryIn env mix G j
    at = entry_in env mix G j ready.entry

    attached : τ < G.attached
    attached = whole.pages.page_of (j / 64) τ at.of

    nested : IsNested env mix old G.page τ
    nested = entry_nested env mix M G whole j at

    none : old.entry j ≡ None
    none = no_page (old.entry j) (sym (whole.entries j ready.within ready.entry) ∙ found)

    -- the page is no table's
    unowned : (σ : ℕ) → G.page p ≢ PageOf σ
    unowned σ of = let z : PageHeld d ≡ PageOf σ = sym ready.mine ∙ of in cc

    page_other : (q σ : ℕ) → G.page q ≡ PageOf σ → q ≢ p
    page_other q σ of e = unowned σ (ap G.page (sym e) ∙ of)

    apart : j / 64 ≢ p
    apart = page_other (j / 64) τ at.of

    page_stays : (q σ : ℕ) → G.page q ≡ PageOf σ → page q ≡ PageOf σ
    page_stays q σ of = put-other G.page p (PageOf τ) q (page_other q σ of) ∙ of

    page_before : (q σ : ℕ) → q ≢ p → page q ≡ PageOf σ → G.page q ≡ PageOf σ
    page_before q σ ne of = sym (put-other G.page p (PageOf τ) q ne) ∙ of

    same_new : tables τ ≡ new
    same_new = put-same G.table τ new

    other_table : (σ : ℕ) → σ ≢ τ → tables σ ≡ G.table σ
    other_table σ ne = put-other G.table τ new σ ne

    -- each word of the page is that of a blank bucket
    blank_in : (i : ℕ) → i / 64 ≡ p → G.bucket i ≡ blank_bucket
    blank_in i e = whole.pages.blank i (no_table-no_bucket env mix G (G.page (i / 64)) i
        (λ σ of. unowned σ (ap G.page (sym e) ∙ of)))

    -- ---- the table

    new_stays : TableStays G.page τ old new
    new_stays = record {
      slot = refl;
      shape = refl;
      seed = refl;
      serial = refl;
      places = λ b i is. followed-stays env mix old G.page τ nested j p none at.of (unowned τ) b i
          (sym (nested.places b) ∙ is);
      parts = λ q of. part-other old j p none apart q (page_other q τ of);
      entries = λ i q of is. entry-stays old j p none apart i q (page_other (i / 64) τ of) is;
    }

    pub entered_kept : TablesKept env mix G tables G.attached G.slot page
    entered_kept = record {
      tables = λ σ l. elim (cases_eq σ τ) [
        | inl e ↦ subst (λ i. TableStays G.page i (G.table i) (tables i)) (sym e)
            (subst (TableStays G.page τ old) (sym same_new) new_stays)
        | inr ne ↦ same-TableStays G.page σ (G.table σ) (tables σ) (other_table σ ne)
      ];
      placed = λ σ b i l is. elim (cases_eq σ τ) [
        | inl e ↦
            let now : followed new b ≡ Some i =
            sym (ap (λ (t : Table). t.place b) (ap tables e ∙ same_new)) ∙ is in
            elim (followed-new env mix old G.page τ nested j p none at.of (unowned τ) b i now) [
              | inl was ↦ inl (ap (λ s. (G.table s).place b) e ∙ nested.places b ∙ was)
              | inr here ↦ inr (blank_in i here)
            ]
        | inr ne ↦ inl (ap (λ (t : Table). t.place b) (sym (other_table σ ne)) ∙ is)
      ];
      more = omega arith;
      slots = λ s has. refl;
      back = λ s has l. refl;
      pages = page_stays;
      fresh = none_fresh env mix G _;
      over = λ σ l over.
          let other : σ ≢ τ = λ e. over d (subst (IsSince (G.from d)) (sym e) ready.since) in
          record {
            table = other_table σ other;
            pages = λ q. (page_owned q σ other, page_stays q σ);
          };
    }
      where
        -- no other table gets the page
        page_owned : (q σ : ℕ) → σ ≢ τ → page q ≡ PageOf σ → G.page q ≡ PageOf σ
        page_owned q σ ne = put-all (λ k o. o ≡ PageOf σ → G.page k ≡ PageOf σ) G.page p (PageOf τ)
            (λ of. absurd (ne (let same : τ ≡ σ = cc in sym same))) (λ k other of. of) q

    -- what is behind an entry is so still
    behind_stays : (i q : ℕ) → G.page (i / 64) ≡ PageOf τ → IsBehind env mix old G.page τ (old.part (i / 64)) (i % 64) q
        → IsBehind env mix new page τ (new.part (i / 64)) (i % 64) q
    behind_stays i q of behind = subst (λ part. IsBehind env mix new page τ part (i % 64) q)
        (sym (part-other old j p none apart (i / 64) (page_other (i / 64) τ of)))
        (record {
          within = behind.within;
          of = page_stays q τ behind.of;
          part_is = part-other old j p none apart q (page_other q τ behind.of) ∙ behind.part_is;
        })

    behind_here : IsBehind env mix new page τ (new.part (j / 64)) (j % 64) p
    behind_here = subst (λ part. IsBehind env mix new page τ part (j % 64) p)
        (sym (part-other old j p none apart (j / 64) apart))
        (record {
          within = ready.among;
          of = put-same G.page p (PageOf τ);
          part_is = part-here old j p none apart;
        })

    leads_now : (i q : ℕ) → page (i / 64) ≡ PageOf τ → has_entries (new.part (i / 64)) ≡ true → new.entry i ≡ Some q
        → IsBehind env mix new page τ (new.part (i / 64)) (i % 64) q
    leads_now i q of has entry = elim (cases_eq i j) [
      | inl e ↦
          let same : p ≡ q = cc_same (sym (entry-here old j p none apart) ∙ ap new.entry (sym e) ∙ entry) in
          subst (λ k. IsBehind env mix new page τ (new.part (k / 64)) (k % 64) q) (sym e)
          (subst (IsBehind env mix new page τ (new.part (j / 64)) (j % 64)) same behind_here)
      | inr ne ↦ elim (cases_eq (i / 64) p) [
        | inl inside ↦
            let z : ◌≡◌ {A = Option ℕ} None (Some q) = sym (entry-inside old j p none apart i inside) ∙ entry in
            absurd (cc)
        | inr outside ↦
            let was = page_before (i / 64) τ outside of in
            let part = part-other old j p none apart (i / 64) outside in
            behind_stays i q was (nested.leads i q was (ap has_entries (sym part) ∙ has)
            (sym (entry-other old j p none apart i ne outside) ∙ entry))
      ]
    ]
      where
        cc_same : Some p ≡ Some q → p ≡ q
        cc_same e = cc

    new_placed : IsNested env mix new page τ
    new_placed = record {
      shaped = nested.shaped;
      top_within = nested.top_within;
      top_of = page_stays _ τ nested.top_of;
      top_part = part-other old j p none apart _ (page_other _ τ nested.top_of) ∙ nested.top_part;
      stands = λ q of. elim (cases_eq q p) [
        | inl e ↦ subst (λ k. StandsAs new k (new.part k)) (sym e)
            (stands-here env mix old G.page τ nested j p none at.of (unowned τ) ready.used)
        | inr ne ↦ subst (StandsAs new q) (sym (part-other old j p none apart q ne))
            (stands-stay env mix old G.page τ nested j p none at.of (unowned τ) q (old.part q)
            (nested.stands q (page_before q τ ne of)))
      ];
      leads = leads_now;
      places = λ b. refl;
    }

    -- ---- tables, slots and pages

    pub words_apart : IsNoBucketWord G (PageWord j)
    words_apart = record {
      nodes = λ n w e. cc;
      buckets = λ i plain e. let same : i ≡ j = cc in both_ways (is_entry G i) plain (ap (is_entry G) same ∙ ready.entry);
      map = λ i e. cc;
      count = λ e. cc;
      sections = record { own = λ c e. cc; kept = λ s c e. cc };
    }

    slot_word : (s : ℕ) (w : SlotWord) → s < 8 → IsSlotWord w → M' (Slot s w) ≡ M (Slot s w)
    slot_word s w l is = write.others (Slot s w) (l, is) (λ e. cc)

    -- a table has the slot that it had
    slot_same : (σ : ℕ) → (tables σ).slot ≡ (G.table σ).slot
    slot_same = put-all (λ σ (t : Table). t.slot ≡ (G.table σ).slot) G.table τ new refl (λ σ ne. refl)

    placed_now : (σ : ℕ) → IsThere G σ → PlacedRight env mix (tables σ) page σ
    placed_now σ there = elim (cases_eq σ τ) [
      | inl e ↦ subst (λ i. PlacedRight env mix (tables i) page i) (sym e)
          (subst (λ t. PlacedRight env mix t page τ) (sym same_new) (inr new_placed))
      | inr ne ↦ placed_kept env mix M M' G tables G.attached G.slot page whole entered_kept (PageWord j) (entry_of p)
          write words_apart σ there (other_table σ ne)
          (λ q of. page_before q σ (λ e. ne (own_page σ (sym (ap page e) ∙ of))) of)
    ]
      where
        own_page : (σ : ℕ) → page p ≡ PageOf σ → σ ≡ τ
        own_page σ of = let z : PageOf τ ≡ PageOf σ = sym (put-same G.page p (PageOf τ)) ∙ of in cc

    future_same : (σ : ℕ) → future_in env mix G' σ ≡ future_in env mix G σ
    future_same σ = ap (λ s. cond (nat_lt (σ + 1) G.attached) (future_of s) 0) (slot_same (σ + 1))

    tables_right : TablesRight env mix M' G'
    tables_right = record {
      current_in = whole.tables.current_in;
      current_is = write.others CurrentTable tt (λ e. cc) ∙ whole.tables.current_is ∙ sym (slot_same G.current);
      force = λ σ from l. ap G.slot (slot_same σ) ∙ whole.tables.force σ from l;
      each = λ σ now.
          let s = (G.table σ).slot in
          let there : IsThere G σ = record {
            has_slot = ap (λ t. has_table (G.slot t)) (sym (slot_same σ)) ∙ now.has_slot;
            index = ap (index_at G) (sym (slot_same σ)) ∙ now.index;
          } in
          let l = there-attached env mix whole.tables σ there in
          let here = whole.tables.each σ there in
          TableRight-kept env mix M M' G tables G.attached G.slot page whole entered_kept (PageWord j) (entry_of p)
          write words_apart σ l there (slot_word s ShapeWord here.slot_in tt) (slot_word s SeedWord here.slot_in tt)
          (slot_word s SerialWord here.slot_in tt)
          (slot_word s FutureWord here.slot_in tt ∙ here.future_is ∙ sym (future_same σ)) (placed_now σ there);
      slots = λ s has.
          let is = whole.tables.slots s has in
          record { attached = is.attached; slot = slot_same (index_at G s) ∙ is.slot };
    }

    slots_right : SlotsRight env mix M' G'
    slots_right = record {
      states = λ s l. slot_word s StateWord l tt ∙ whole.slots.states s l;
      worker_is = write.others WorkLock tt (λ e. cc) ∙ whole.slots.worker_is;
      retired = λ idle. retired_stay G G' None refl (λ s σ is l. is) (whole.slots.retired idle);
      back = whole.slots.back;
    }

    -- a word that is no bucket's was none before, or is in the page
    blank_before : (i : ℕ) → i / 64 ≢ p → (owner : PageOwner) → G.page (i / 64) ≡ owner
        → IsNoBucket env mix G' owner i → IsNoBucket env mix G owner i
    blank_before i outside PageFree of is = tt
    blank_before i outside (PageHeld c) of is = tt
    blank_before i outside (PageOf σ) of is =
        put-all (λ k (t : Table). IsSpareIn t.shape (t.part (i / 64)) i
        → IsSpareIn (G.table k).shape ((G.table k).part (i / 64)) i) G.table τ new
        (subst (λ part. IsSpareIn old.shape part i) (part-other old j p none apart (i / 64) outside))
        (λ k ne spare. spare) σ is

    pages_right : PagesRight env mix M' G'
    pages_right = record {
      bits = put-all (λ q o. q < env.geometry.pages
          → (bit_at (M' (PageMap (q / 64))) (q % 64) ≡ 1) ↔ (o ≡ PageFree)) G.page p (PageOf τ)
          (λ l. let was = whole.pages.bits p l in (
            (λ set. let z : PageHeld d ≡ PageFree = sym ready.mine ∙ was.0 (sym (bit_same p l) ∙ set) in absurd (cc)),
            (λ e. absurd (cc)),
          ))
          (λ q ne l. rw (write.others (PageMap (q / 64)) (omega arith) (λ e. cc)) (whole.pages.bits q l));
      page_of = λ q σ. put-all (λ k o. o ≡ PageOf σ → σ < G.attached) G.page p (PageOf τ)
          (λ of. let same : τ ≡ σ = cc in subst (λ k. k < G.attached) same attached)
          (λ k ne of. whole.pages.page_of k σ of) q;
      there = λ q σ. put-all (λ k o. o ≡ PageOf σ → IsThere G' σ) G.page p (PageOf τ)
          (λ of.
          let same : τ ≡ σ = cc in
          subst (λ k. IsThere G' k) same (there_kept env mix G tables G.attached G.slot page entered_kept τ attached
          (whole.pages.there (j / 64) τ at.of)))
          (λ k ne of. there_kept env mix G tables G.attached G.slot page entered_kept σ (whole.pages.page_of k σ of)
          (whole.pages.there k σ of)) q;
      blank = λ i is. elim (cases_eq (i / 64) p) [
        | inl inside ↦ blank_in i inside
        | inr outside ↦
            let same : page (i / 64) ≡ G.page (i / 64) = put-other G.page p (PageOf τ) (i / 64) outside in
            whole.pages.blank i (blank_before i outside (G.page (i / 64)) refl
            (subst (λ o. IsNoBucket env mix G' o i) same is))
      ];
    }
      where
        bit_same : (q : ℕ) → q < env.geometry.pages
            → bit_at (M' (PageMap (q / 64))) (q % 64) ≡ bit_at (M (PageMap (q / 64))) (q % 64)
        bit_same q l = ap (λ w. bit_at w (q % 64)) (write.others (PageMap (q / 64)) (omega arith) (λ e. cc))

    -- ---- entries

    -- those of the page lead to none, as their words say
    inside_right : (i : ℕ) → i < 64 * env.geometry.pages → i / 64 ≡ p → i ≢ j → M' (PageWord i) ≡ 0
    inside_right i l inside ne =
        let plain : is_entry G i ≡ false =
        ap (λ q. is_entry_of G.table (G.page q) q) inside ∙ ap (λ o. is_entry_of G.table o p) ready.mine in
        let right = (whole.buckets i l plain).locked in
        let blank = blank_in i inside in
        write.others (PageWord i) l (λ e. ne (cc)) ∙ right.word_is ∙ ap (λ b. b.plain + lock_bit b.holder) blank

    entry_right : (i σ : ℕ) → i < 64 * env.geometry.pages → page (i / 64) ≡ PageOf σ
        → has_entries ((tables σ).part (i / 64)) ≡ true → M' (PageWord i) ≡ entry_word ((tables σ).entry i)
    entry_right i σ l of has = elim (cases_eq i j) [
      | inl e ↦
          let own : τ ≡ σ = own_table (sym (page_stays (j / 64) τ at.of) ∙ ap (λ k. page (k / 64)) (sym e) ∙ of) in
          ap (λ k. M' (PageWord k)) e ∙ write.same ∙ ap entry_word (sym (entry-here old j p none apart))
          ∙ ap (λ (t : Table). entry_word (t.entry j)) (sym same_new)
          ∙ ap (λ s. entry_word ((tables s).entry j)) own ∙ ap (λ k. entry_word ((tables σ).entry k)) (sym e)
      | inr ne ↦ elim (cases_eq (i / 64) p) [
        | inl inside ↦
            let own : τ ≡ σ = own_table (sym (put-same G.page p (PageOf τ)) ∙ ap page (sym inside) ∙ of) in
            inside_right i l inside ne ∙ ap entry_word (sym (entry-inside old j p none apart i inside))
            ∙ ap (λ (t : Table). entry_word (t.entry i)) (sym same_new) ∙ ap (λ s. entry_word ((tables s).entry i)) own
        | inr outside ↦ outside_right i σ l ne outside (page_before (i / 64) σ outside of) has
      ]
    ]
      where
        own_table : {s t : ℕ} → PageOf s ≡ PageOf t → s ≡ t
        own_table e = cc

        outside_right : (i σ : ℕ) → i < 64 * env.geometry.pages → i ≢ j → i / 64 ≢ p → G.page (i / 64) ≡ PageOf σ
            → has_entries ((tables σ).part (i / 64)) ≡ true → M' (PageWord i) ≡ entry_word ((tables σ).entry i)
        outside_right i σ l ne outside of has =
            let part : (tables σ).part (i / 64) ≡ (G.table σ).part (i / 64) =
            put-all (λ s (t : Table). t.part (i / 64) ≡ (G.table s).part (i / 64)) G.table τ new
            (part-other old j p none apart (i / 64) outside) (λ s other. refl) σ in
            let entry : (tables σ).entry i ≡ (G.table σ).entry i =
            put-all (λ s (t : Table). t.entry i ≡ (G.table s).entry i) G.table τ new
            (entry-other old j p none apart i ne outside) (λ s other. refl) σ in
            let table : table_at G i ≡ σ = ap table_of_page of in
            let was : is_entry G i ≡ true =
            ap (λ o. is_entry_of G.table o (i / 64)) of ∙ ap has_entries (sym part) ∙ has in
            write.others (PageWord i) l (λ e. ne (cc)) ∙ whole.entries i l was
            ∙ ap (λ s. entry_word ((G.table s).entry i)) table ∙ ap entry_word (sym entry)

    entries_right : EntriesRight env mix M' G'
    entries_right i l is =
        let in_page = entry_in env mix G' i is in
        entry_right i (table_at G' i) l in_page.of in_page.has

    -- ---- the move

    entered_whole : Whole env mix M' G'
    entered_whole = Whole-retabled env mix M M' G tables G.attached G.slot page whole entered_kept (PageWord j)
        (entry_of p) write words_apart tables_right slots_right pages_right entries_right

    entered_others : Others env mix d M G M' G'
    entered_others c ne = Rely-retabled env mix M M' G tables G.attached G.slot page whole entered_kept (PageWord j)
        (entry_of p) write words_apart c (record {
          slots = λ s is. refl;
          slot_words = λ s w has is. slot_word s w has.within is;
          no_slot = λ s is. is;
          pages = put-all (λ q o. G.page q ≡ PageHeld c → o ≡ PageHeld c) G.page p (PageOf τ)
              (λ is. absurd (ne (let z : PageHeld d ≡ PageHeld c = sym ready.mine ∙ is in cc))) (λ q other is. is);
          no_page = put-all (λ q o. o ≡ PageHeld c → G.page q ≡ PageHeld c) G.page p (PageOf τ) (λ is. absurd (cc))
              (λ q other is. is);
        })

    -- behind it the entry leads to the page
    pub leads_to : (G'.table (table_at G' j)).entry j ≡ Some p
    leads_to =
        let same : table_at G' j ≡ τ = ap table_of_page (page_stays (j / 64) τ at.of) in
        ap (λ s. (tables s).entry j) same ∙ ap (λ (t : Table). t.entry j) same_new ∙ entry-here old j p none apart

    pub enter : Made env mix d M G M' G'
    enter = record {
      whole = entered_whole;
      others = entered_others;
      stale = stale_write env mix M M' G G' (PageWord j) (entry_of p) write (same_owners env mix G G' refl)
          (λ n u f e. cc) (λ n u f e. cc);
    }
