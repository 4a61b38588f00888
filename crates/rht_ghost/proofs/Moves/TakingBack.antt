-- The operation on a word of the map of pages by which a retired table to which no open section comes leaves its slot: it
-- sets bits of some of the table's pages, which nobody has from then on. The caller has the slot, and the table's other
-- pages. The words of all these pages are zero: the buckets of such a table are blank, and none of its entries leads to a
-- page any more.
use Rattle.std.proofs.Common.{◌≡◌, ◌≢◌, ◌↔◌, ℕ, ◌*◌, ◌/◌, ◌%◌, ◌<◌, List, Option, Some, None, true, false, refl, sym, ◌∙◌, ap, inl, inr, arith}
use Rattle.std.specs.Int.{bit_at}
use Rattle.std.proofs.lemmas.Bool.{cases_eq, both_ways, eq-eqb, eqb-true}
use Rattle.rht_words.specs.declared.env.Env.{Env}
use Rattle.rht_words.specs.Held as held
use Rattle.rht_words.specs.Members.{In}
use Rattle.rht_words.specs.Places.{PageMap, PageWord}
use Rattle.rht_words.proofs.Memory.{Memory, IsWrite}
use Rattle.rht_ghost.proofs.Theory.Ghosts.{put, put-all, slot_holder, none-some, put-same, put-other, put_in, put_in-all, has_entries, PageOwner, PageFree, PageHeld, PageOf, SlotOwner, Retired, Back, Ghost, has_bit, is_entry, is_entry_of, entry_word, table_of_page, table_of_slot, index_at}
use Rattle.rht_ghost.proofs.Theory.Wholes.{Whole}
use Rattle.rht_ghost.proofs.Theory.Knowns.{Known, KnownMaking, KnownWork}
use Rattle.rht_ghost.proofs.Theory.Knowledge.{DoesWork, MakingMeans, WorkMeans, Knowing}
use Rattle.rht_ghost.proofs.Theory.Departures.{is_page_of, taken_back, CanTakeBack}
use Rattle.rht_ghost.proofs.Theory.Frames.{Made}
use Rattle.rht_ghost.proofs.Theory.TablesOver.{going-within}
use Rattle.rht_ghost.proofs.Theory.TablesGone.{IsOfPages, TableGoes, gone, gone_works, Knowing-gone}
use Rattle.rht_ghost.proofs.Moves.Pages.{map_word-apart, has_bit-is, has_bit-not}

-- a page is the table's exactly where this says so
pub page-is : (τ : ℕ) (owner : PageOwner) → is_page_of τ owner ≡ true → owner ≡ PageOf τ
page-is τ (PageOf σ) is = ap PageOf (eqb-true σ τ is)
page-is τ _ is = absurd (cc)

pub is-page : (τ : ℕ) (owner : PageOwner) → owner ≡ PageOf τ → is_page_of τ owner ≡ true
is-page τ owner is = ap (is_page_of τ) is ∙ eq-eqb τ τ refl

module _ (env : Env) (mix : ℕ → ℕ → ℕ → ℕ) where
  module _ (d s index bits v : ℕ) (M M' : Memory) (G : Ghost) (whole : Whole env mix M G)
      (can : CanTakeBack env mix d s index bits G) (write : IsWrite env.geometry M M' (PageMap index) v)
      (set : (bit : ℕ) → bit < 64 → bit_at bits bit ≡ 1 → bit_at v bit ≡ 1)
      (others : (bit : ℕ) → bit < 64 → bit_at bits bit ≢ 1 → bit_at v bit ≡ bit_at (M (PageMap index)) bit) where
    abbrev τ : ℕ
    τ = can.table

    abbrev G' : Ghost
    G' = taken_back G d s index bits

    abbrev slot : ℕ → SlotOwner
    slot = put G.slot s (Back d)

    at : index_at G s ≡ τ
    at = ap table_of_slot can.going.retired

    -- ---- the owner of each page then

    -- what is true of a page without the table, one that is freed, one that the caller gets, and any other, is true of each
    page_all : (P : ℕ → PageOwner → Type 0) → ((p : ℕ) → has_bit index bits p ≡ true → G.page p ≡ PageOf τ → P p PageFree)
        → ((p : ℕ) → has_bit index bits p ≡ false → G.page p ≡ PageOf τ → P p (PageHeld d))
        → ((p : ℕ) → has_bit index bits p ≡ false → G.page p ≢ PageOf τ → P p (G.page p)) → (p : ℕ) → P p (G'.page p)
    page_all P freed held other =
        put_in-all P (has_bit index bits) PageFree (put_in (λ p. is_page_of (index_at G s) (G.page p)) (PageHeld d) G.page)
        (λ p has. freed p has (can.own.owned p has))
        (λ p hasnt. put_in-all (λ q o. has_bit index bits q ≡ false → P q o) (λ q. is_page_of (index_at G s) (G.page q))
        (PageHeld d) G.page
        (λ q is no_bit. held q no_bit (page-is (index_at G s) (G.page q) is ∙ ap PageOf at))
        (λ q isnt no_bit. other q no_bit (λ of. both_ways (is_page_of (index_at G s) (G.page q)) isnt
        (is-page (index_at G s) (G.page q) (of ∙ ap PageOf (sym at))))) p hasnt)

    -- a page that a table has then is one that it had, and isn't this one's
    page_was : (p σ : ℕ) → G'.page p ≡ PageOf σ → (σ ≢ τ) × (G.page p ≡ PageOf σ)
    page_was p σ = page_all (λ q o. o ≡ PageOf σ → (σ ≢ τ) × (G.page q ≡ PageOf σ))
        (λ q has of e. absurd (let z : PageFree ≡ PageOf σ = e in cc))
        (λ q hasnt of e. absurd (let z : PageHeld d ≡ PageOf σ = e in cc))
        (λ q hasnt other of. ((λ e. other (of ∙ ap PageOf e)), of)) p

    page_other : (p σ : ℕ) → σ ≢ τ → G.page p ≡ PageOf σ → G'.page p ≡ PageOf σ
    page_other p σ ne = page_all (λ q o. G.page q ≡ PageOf σ → o ≡ PageOf σ)
        (λ q has of is. absurd (ne (let z : PageOf σ ≡ PageOf τ = sym is ∙ of in cc)))
        (λ q hasnt of is. absurd (ne (let z : PageOf σ ≡ PageOf τ = sym is ∙ of in cc)))
        (λ q hasnt other is. is) p

    here : slot s ≡ Back d
    here = put-same G.slot s (Back d)

    not_retired : slot s ≡ Retired τ → ⊥
    not_retired is = let z : Back d ≡ Retired τ = sym here ∙ is in cc

    goes : TableGoes env mix d s τ G G.table slot G'.page
    goes = record {
      tables = λ σ ne. refl;
      same = record { slot = refl; shape = refl; seed = refl; serial = refl };
      slots = λ t ne. put-other G.slot s (Back d) t ne;
      here = inr here;
      pages = page_other;
      back = λ p σ of. (page_was p σ of).1;
      own = λ p of. absurd ((page_was p τ of).0 refl);
      placed = λ retired. absurd (not_retired retired);
    }

    of_pages : IsOfPages G τ (PageMap index)
    of_pages = record {
      apart = map_word-apart G index;
      current = λ e. cc;
      work = λ e. cc;
      slots = λ t w e. cc;
      entries = λ j e. absurd (cc);
    }

    -- ---- the map of pages

    word_same : (p : ℕ) → has_bit index bits p ≡ false → p < env.geometry.pages
        → bit_at (M' (PageMap (p / 64))) (p % 64) ≡ bit_at (M (PageMap (p / 64))) (p % 64)
    word_same p hasnt l = elim (cases_eq (p / 64) index) [
      | inl e ↦
          ap (λ i. bit_at (M' (PageMap i)) (p % 64)) e ∙ ap (λ w. bit_at w (p % 64)) write.same
          ∙ others (p % 64) (omega arith) (has_bit-not index bits p hasnt e)
          ∙ ap (λ i. bit_at (M (PageMap i)) (p % 64)) (sym e)
      | inr other ↦ ap (λ w. bit_at w (p % 64)) (write.others (PageMap (p / 64)) (omega arith) (λ e. other (cc)))
    ]

    map_right : (p : ℕ) → p < env.geometry.pages
        → (bit_at (M' (PageMap (p / 64))) (p % 64) ≡ 1) ↔ (G'.page p ≡ PageFree)
    map_right = page_all (λ p o. p < env.geometry.pages → (bit_at (M' (PageMap (p / 64))) (p % 64) ≡ 1) ↔ (o ≡ PageFree))
        (λ p has of l.
        let is = has_bit-is index bits p has in (
          (λ e. refl),
          (λ e. ap (λ i. bit_at (M' (PageMap i)) (p % 64)) is.0 ∙ ap (λ w. bit_at w (p % 64)) write.same
              ∙ set (p % 64) (omega arith) is.1),
        ))
        (λ p hasnt of l. (
          (λ is. absurd (let z : PageOf τ ≡ PageFree = sym of ∙ (whole.pages.bits p l).0 (sym (word_same p hasnt l) ∙ is) in cc)),
          (λ e. absurd (let z : PageHeld d ≡ PageFree = e in cc)),
        ))
        (λ p hasnt other l. rw (word_same p hasnt l) (whole.pages.bits p l))

    -- ---- the words of entries

    cleared : (j : ℕ) → j < 64 * env.geometry.pages → G.page (j / 64) ≡ PageOf τ → is_entry G j ≡ true
        → is_entry G' j ≡ false → M' (PageWord j) ≡ 0
    cleared j l of is plain =
        let has : has_entries ((G.table τ).part (j / 64)) ≡ true = sym (ap (λ o. is_entry_of G.table o (j / 64)) of) ∙ is in
        write.others (PageWord j) l (λ e. cc) ∙ whole.entries j l is
        ∙ ap (λ σ. entry_word ((G.table σ).entry j)) (ap table_of_page of) ∙ ap entry_word (can.bare j of has)

    -- ---- the move

    -- the bits are set
    pub take_back : Made env mix d M G M' (taken_back G d s index bits)
    take_back = gone env mix d s τ M M' G whole can.going G.table slot G'.page goes (PageMap index) v write of_pages
        map_right cleared (λ j l of has. absurd ((page_was (j / 64) τ of).0 refl))
        (λ c p ne. page_all (λ q o. G.page q ≡ PageHeld c → o ≡ PageHeld c)
        (λ q has of held. absurd (let z : PageHeld c ≡ PageOf τ = sym held ∙ of in cc))
        (λ q hasnt of held. absurd (let z : PageHeld c ≡ PageOf τ = sym held ∙ of in cc))
        (λ q hasnt other held. held) p)
        (λ c p ne. page_all (λ q o. o ≡ PageHeld c → G.page q ≡ PageHeld c)
        (λ q has of e. absurd (let z : PageFree ≡ PageHeld c = e in cc))
        (λ q hasnt of e. absurd (ne (let z : PageHeld d ≡ PageHeld c = e in cc)))
        (λ q hasnt other held. held) p)

    -- ---- what the caller knows behind it

    -- it has the slot
    pub taken_back-slot : (taken_back G d s index bits).slot s ≡ Back d
    taken_back-slot = here

    -- and each page that the table had, but for those of the bits
    pub taken_back-mine : (p : ℕ) → has_bit index bits p ≡ false → G.page p ≡ PageOf τ
        → (taken_back G d s index bits).page p ≡ PageHeld d
    taken_back-mine p hasnt of = page_all (λ q o. has_bit index bits q ≡ false → G.page q ≡ PageOf τ → o ≡ PageHeld d)
        (λ q has of no_bit owned. absurd (both_ways (has_bit index bits q) no_bit has)) (λ q no_bit of again owned. refl)
        (λ q no_bit other again owned. absurd (other owned)) p hasnt of

    -- each table that another slot has, and each page of another table, is what it was
    pub taken_back-slots : (t : ℕ) → t ≢ s → (taken_back G d s index bits).slot t ≡ G.slot t
    taken_back-slots t ne = put-other G.slot s (Back d) t ne

    pub taken_back-pages : (p : ℕ) → G.page p ≢ PageOf τ → (taken_back G d s index bits).page p ≡ G.page p
    taken_back-pages p other = page_all (λ q o. G.page q ≢ PageOf τ → o ≡ G.page q)
        (λ q has of unowned. absurd (unowned of)) (λ q hasnt of unowned. absurd (unowned of)) (λ q hasnt ne unowned. refl) p other

    pub taken_back-within : s < 8
    taken_back-within = going-within env mix d s τ M G whole can.going

    pub taken_back-works : (o : Option ℕ) → DoesWork d G o → DoesWork d (taken_back G d s index bits) o
    taken_back-works =
        gone_works env mix d s τ M M' G whole can.going G.table slot G'.page goes (PageMap index) v write of_pages

    -- so the caller knows all else that it knew, and has the slot and these pages more
    pub taken_back-knowing : {A : Type 0} → (h : held.Held A) (known : Known) (pages : List ℕ) (making : KnownMaking)
        (work : KnownWork) → Knowing env mix d h known M G → h.slot ≡ None → ((p : ℕ) → In p h.pages → In p pages)
        → ((p : ℕ) → has_bit index bits p ≡ false → G.page p ≡ PageOf τ → In p pages)
        → MakingMeans env mix d M' (taken_back G d s index bits) making
        → WorkMeans env mix d M' (taken_back G d s index bits) work
        → Knowing env mix d (record h { slot = Some s; pages = pages }) (record known { making = making; work = work }) M'
        (taken_back G d s index bits)
    taken_back-knowing h known pages making work knows none more own making_is work_is =
        Knowing-gone env mix d s τ M M' G whole can.going G.table slot G'.page goes (PageMap index) v write of_pages
        h known (Some s) pages making work knows
        (put-all (λ t o. slot_holder o ≡ Some d → ◌≡◌ {A = Option ℕ} (Some s) (Some t)) G.slot s (Back d) (λ e. refl)
        (λ t ne mine. absurd (none-some none (knows.only.slots t mine))))
        (page_all (λ q o. o ≡ PageHeld d → In q pages) (λ q has of e. absurd (let z : PageFree ≡ PageHeld d = e in cc))
        (λ q hasnt of e. own q hasnt of) (λ q hasnt other held. more q (knows.only.pages_in q held))) making_is work_is
