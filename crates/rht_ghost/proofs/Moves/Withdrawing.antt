-- The store that clears an entry of a retired table to which no open section comes. The page behind it is the caller's from
-- then on. Its words are zero: the buckets of such a table are blank, and its own entries, if it has any, lead to no page.
use Rattle.std.proofs.Common.{◌≡◌, ◌≢◌, ◌↔◌, ℕ, ◌*◌, ◌/◌, ◌%◌, ◌<◌, List, Option, None, true, false, refl, sym, ◌∙◌, ap, subst, inl, inr, arith}
use Rattle.std.specs.Int.{bit_at}
use Rattle.std.proofs.lemmas.Bool.{cases_eq, both_ways}
use Rattle.rht_words.specs.declared.env.Env.{Env}
use Rattle.rht_words.specs.Held as held
use Rattle.rht_words.specs.Members.{In}
use Rattle.rht_words.specs.Places.{PageMap, PageWord}
use Rattle.rht_words.proofs.Memory.{Memory, IsWrite}
use Rattle.rht_ghost.proofs.Theory.Ghosts.{put, put-same, put-other, put-all, has_entries, Table, PageOwner, PageFree, PageHeld, PageOf, Ghost, is_entry, is_entry_of, entry_word, table_of_page, table_at}
use Rattle.rht_ghost.proofs.Theory.Wholes.{IsNested, PlacedRight, Whole}
use Rattle.rht_ghost.proofs.Theory.Entries.{IsEntryIn, entry_in, entry_nested}
use Rattle.rht_ghost.proofs.Theory.Departures.{withdrawn_table, withdrawn, IsGoing, CanWithdraw}
use Rattle.rht_ghost.proofs.Theory.Knowns.{Known, KnownMaking, KnownWork}
use Rattle.rht_ghost.proofs.Theory.Knowledge.{DoesWork, MakingMeans, WorkMeans, Knowing}
use Rattle.rht_ghost.proofs.Theory.Frames.{Made}
use Rattle.rht_ghost.proofs.Theory.WithdrawnPages.{withdrawn-nested}
use Rattle.rht_ghost.proofs.Theory.TablesGone.{IsOfPages, TableGoes, gone, gone_works, Knowing-gone}

module _ (env : Env) (mix : ℕ → ℕ → ℕ → ℕ) where
  module _ (d j p : ℕ) (M M' : Memory) (G : Ghost) (whole : Whole env mix M G) (can : CanWithdraw env mix d j p G)
      (write : IsWrite env.geometry M M' (PageWord j) 0) where
    abbrev τ : ℕ
    τ = table_at G j

    abbrev old : Table
    old = G.table τ

    abbrev new : Table
    new = withdrawn_table old j

    abbrev tables : ℕ → Table
    tables = put G.table τ new

    abbrev page : ℕ → PageOwner
    page = put G.page p (PageHeld d)

    at : IsEntryIn env mix G j
    at = entry_in env mix G j can.entry

    nested : IsNested env mix old G.page τ
    nested = entry_nested env mix M G whole j at

    -- the page is the table's
    page_of : G.page p ≡ PageOf τ
    page_of = (nested.leads j p at.of at.has can.leads).of

    same_new : tables τ ≡ new
    same_new = put-same G.table τ new

    -- a page that a table has then is another one, and had that table
    page_was : (q σ : ℕ) → page q ≡ PageOf σ → (q ≢ p) × (G.page q ≡ PageOf σ)
    page_was q σ = put-all (λ k o. o ≡ PageOf σ → (k ≢ p) × (G.page k ≡ PageOf σ)) G.page p (PageHeld d)
        (λ of. absurd (let z : PageHeld d ≡ PageOf σ = of in cc)) (λ k ne of. (ne, of)) q

    page_other : (q σ : ℕ) → σ ≢ τ → G.page q ≡ PageOf σ → page q ≡ PageOf σ
    page_other q σ ne of =
        put-other G.page p (PageHeld d) q
        (λ e. let z : PageOf σ ≡ PageOf τ = sym of ∙ ap G.page e ∙ page_of in ne (cc)) ∙ of

    goes : TableGoes env mix d can.slot τ G tables G.slot page
    goes = record {
      tables = λ σ ne. put-other G.table τ new σ ne;
      same = record {
        slot = ap (λ (t : Table). t.slot) same_new;
        shape = ap (λ (t : Table). t.shape) same_new;
        seed = ap (λ (t : Table). t.seed) same_new;
        serial = ap (λ (t : Table). t.serial) same_new;
      };
      slots = λ t ne. refl;
      here = inl can.going.retired;
      pages = page_other;
      back = λ q σ of. (page_was q σ of).1;
      own = λ q of. can.going.retired;
      placed = λ retired. subst (λ t. PlacedRight env mix t page τ) (sym same_new)
          (inr (withdrawn-nested env mix old G.page τ nested j p at.of at.has can.leads can.bare (PageHeld d) (λ e. cc)));
    }

    of_pages : IsOfPages G τ (PageWord j)
    of_pages = record {
      apart = record {
        nodes = λ n w e. cc;
        buckets = λ i plain e. let same : i ≡ j = cc in both_ways (is_entry G i) plain (ap (is_entry G) same ∙ can.entry);
        map = λ i e. cc;
        count = λ e. cc;
        sections = record { own = λ c e. cc; kept = λ s c e. cc };
      };
      current = λ e. cc;
      work = λ e. cc;
      slots = λ s w e. cc;
      entries = λ i e. let same : i ≡ j = cc in ap (λ k. G.page (k / 64)) same ∙ at.of;
    }

    bits : (q : ℕ) → q < env.geometry.pages → (bit_at (M' (PageMap (q / 64))) (q % 64) ≡ 1) ↔ (page q ≡ PageFree)
    bits = put-all (λ q o. q < env.geometry.pages → (bit_at (M' (PageMap (q / 64))) (q % 64) ≡ 1) ↔ (o ≡ PageFree))
        G.page p (PageHeld d)
        (λ l. let was = whole.pages.bits p l in (
          (λ set. let z : PageOf τ ≡ PageFree = sym page_of ∙ was.0 (sym (same p l) ∙ set) in absurd (cc)),
          (λ e. absurd (let z : PageHeld d ≡ PageFree = e in cc)),
        ))
        (λ q ne l. rw (write.others (PageMap (q / 64)) (omega arith) (λ e. cc)) (whole.pages.bits q l))
      where
        same : (q : ℕ) → q < env.geometry.pages
            → bit_at (M' (PageMap (q / 64))) (q % 64) ≡ bit_at (M (PageMap (q / 64))) (q % 64)
        same q l = ap (λ w. bit_at w (q % 64)) (write.others (PageMap (q / 64)) (omega arith) (λ e. cc))

    -- the word of another entry is what it was
    word_same : (i : ℕ) → i < 64 * env.geometry.pages → G.page (i / 64) ≡ PageOf τ → is_entry G i ≡ true → i ≢ j
        → M' (PageWord i) ≡ entry_word (old.entry i)
    word_same i l of is ne =
        write.others (PageWord i) l (λ e. ne (cc)) ∙ whole.entries i l is
        ∙ ap (λ σ. entry_word ((G.table σ).entry i)) (ap table_of_page of)

    -- so the words of entries of the page are 0
    cleared : (i : ℕ) → i < 64 * env.geometry.pages → G.page (i / 64) ≡ PageOf τ → is_entry G i ≡ true
        → is_entry (withdrawn G d j p) i ≡ false → M' (PageWord i) ≡ 0
    cleared i l of is plain = elim (cases_eq i j) [
      | inl e ↦ ap (λ k. M' (PageWord k)) e ∙ write.same
      | inr ne ↦ elim (cases_eq (i / 64) p) [
        | inl inside ↦
            word_same i l of is ne ∙ ap entry_word (can.bare (ap (λ k. has_entries (old.part k)) (sym inside) ∙ has) i inside)
        | inr outside ↦ absurd (both_ways (is_entry (withdrawn G d j p) i) plain (still outside))
      ]
    ]
      where
        has : has_entries (old.part (i / 64)) ≡ true
        has = sym (ap (λ o. is_entry_of G.table o (i / 64)) of) ∙ is

        still : i / 64 ≢ p → is_entry (withdrawn G d j p) i ≡ true
        still outside =
            ap (λ o. is_entry_of tables o (i / 64)) (put-other G.page p (PageHeld d) (i / 64) outside ∙ of)
            ∙ ap (λ (t : Table). has_entries (t.part (i / 64))) same_new ∙ has

    own_entries : (i : ℕ) → i < 64 * env.geometry.pages → page (i / 64) ≡ PageOf τ
        → has_entries ((tables τ).part (i / 64)) ≡ true → M' (PageWord i) ≡ entry_word ((tables τ).entry i)
    own_entries i l of has = elim (cases_eq i j) [
      | inl e ↦
          ap (λ k. M' (PageWord k)) e ∙ write.same ∙ ap entry_word (sym (put-same old.entry j None))
          ∙ ap (λ k. entry_word (new.entry k)) (sym e) ∙ ap (λ (t : Table). entry_word (t.entry i)) (sym same_new)
      | inr ne ↦
          let was = (page_was (i / 64) τ of).1 in
          let is : is_entry G i ≡ true =
          ap (λ o. is_entry_of G.table o (i / 64)) was
          ∙ sym (ap (λ (t : Table). has_entries (t.part (i / 64))) same_new) ∙ has in
          word_same i l was is ne ∙ ap entry_word (sym (put-other old.entry j None i ne))
          ∙ ap (λ (t : Table). entry_word (t.entry i)) (sym same_new)
    ]

    -- the entry is cleared
    pub withdraw : Made env mix d M G M' (withdrawn G d j p)
    withdraw = gone env mix d can.slot τ M M' G whole can.going tables G.slot page goes (PageWord j) 0 write of_pages
        bits cleared own_entries
        (λ c q ne held. put-other G.page p (PageHeld d) q
        (λ e. let z : PageHeld c ≡ PageOf τ = sym held ∙ ap G.page e ∙ page_of in cc) ∙ held)
        (λ c q ne. put-all (λ k o. o ≡ PageHeld c → G.page k ≡ PageHeld c) G.page p (PageHeld d)
        (λ held. absurd (ne (let z : PageHeld d ≡ PageHeld c = held in cc))) (λ k other held. held) q)

    -- ---- what the caller knows behind it

    -- the entry leads to no page, and each table is what it was but for that
    pub withdrawn-entry : ((withdrawn G d j p).table τ).entry j ≡ None
    withdrawn-entry = ap (λ (t : Table). t.entry j) same_new ∙ put-same old.entry j None

    pub withdrawn-other : (σ i : ℕ) → i ≢ j → ((withdrawn G d j p).table σ).entry i ≡ (G.table σ).entry i
    withdrawn-other σ i ne =
        put-all (λ k (t : Table). t.entry i ≡ (G.table k).entry i) G.table τ new (put-other old.entry j None i ne)
        (λ k other. refl) σ

    pub withdrawn-none : (σ i : ℕ) → (G.table σ).entry i ≡ None → ((withdrawn G d j p).table σ).entry i ≡ None
    withdrawn-none σ i none =
        put-all (λ k (t : Table). (G.table k).entry i ≡ None → t.entry i ≡ None) G.table τ new
        (λ was. put-all (λ k o. old.entry k ≡ None → o ≡ None) old.entry j None (λ was. refl) (λ k ne was. was) i was)
        (λ k other was. was) σ none

    pub withdrawn-part : (σ q : ℕ) → ((withdrawn G d j p).table σ).part q ≡ (G.table σ).part q
    withdrawn-part σ q = put-all (λ k (t : Table). t.part q ≡ (G.table k).part q) G.table τ new refl (λ k other. refl) σ

    pub withdrawn-shape : (σ : ℕ) → ((withdrawn G d j p).table σ).shape ≡ (G.table σ).shape
    withdrawn-shape = put-all (λ k (t : Table). t.shape ≡ (G.table k).shape) G.table τ new refl (λ k other. refl)

    -- the page was the table's, and is the caller's; each other one is whose it was
    pub withdrawn-from : G.page p ≡ PageOf τ
    withdrawn-from = page_of

    pub withdrawn-page : (withdrawn G d j p).page p ≡ PageHeld d
    withdrawn-page = put-same G.page p (PageHeld d)

    pub withdrawn-pages : (q : ℕ) → q ≢ p → (withdrawn G d j p).page q ≡ G.page q
    withdrawn-pages q ne = put-other G.page p (PageHeld d) q ne

    -- the table is retired still, and no open section comes to it
    pub withdrawn-going : IsGoing env mix d can.slot τ (withdrawn G d j p)
    withdrawn-going = record { works = can.going.works; retired = can.going.retired; over = can.going.over }

    pub withdrawn-works : (o : Option ℕ) → DoesWork d G o → DoesWork d (withdrawn G d j p) o
    withdrawn-works = gone_works env mix d can.slot τ M M' G whole can.going tables G.slot page goes (PageWord j) 0 write of_pages

    -- so the caller knows all else that it knew, and has this page more
    pub withdrawn-knowing : {A : Type 0} → (h : held.Held A) (known : Known) (pages : List ℕ) (making : KnownMaking)
        (work : KnownWork) → Knowing env mix d h known M G → ((q : ℕ) → In q h.pages → In q pages) → In p pages
        → MakingMeans env mix d M' (withdrawn G d j p) making → WorkMeans env mix d M' (withdrawn G d j p) work
        → Knowing env mix d (record h { pages = pages }) (record known { making = making; work = work }) M' (withdrawn G d j p)
    withdrawn-knowing h known pages making work knows more there making_is work_is =
        Knowing-gone env mix d can.slot τ M M' G whole can.going tables G.slot page goes (PageWord j) 0 write of_pages
        h known h.slot pages making work knows knows.only.slots
        (put-all (λ q o. o ≡ PageHeld d → In q pages) G.page p (PageHeld d) (λ e. there)
        (λ q ne held. more q (knows.only.pages_in q held))) making_is work_is
