-- The moves of pages: an operation on a word of the map of pages that clears bits of free pages takes these, and one that sets bits of
-- pages which the caller has gives them back. Others see nothing of them but that a page is or isn't free. The words of such
-- pages are nobody's, before and after.
use Rattle.std.proofs.Common.{◌≡◌, ◌≢◌, ◌↔◌, ℕ, ◌/◌, ◌%◌, ◌<◌, true, false, refl, sym, ◌∙◌, ap, subst, inl, inr, arith}
use Rattle.std.specs.Prelude.{◌==◌}
use Rattle.std.specs.Int.{bit_at}
use Rattle.std.proofs.lemmas.Bool.{cases_eq, eqb-true, eq-eqb, and_parts, and_from, both_ways}
use Rattle.rht_words.specs.declared.env.Env.{Env}
use Rattle.rht_words.specs.Places.{WorkLock, Slot, StateWord, PageMap}
use Rattle.rht_words.proofs.Memory.{Memory, IsWrite}
use Rattle.rht_ghost.proofs.Theory.Ghosts.{blank_bucket, put_in, put_in-all, PageOwner, PageFree, PageHeld, PageOf, Ghost, has_bit, with_pages}
use Rattle.rht_ghost.proofs.Theory.Wholes.{IsNoBucket, SlotsRight, PagesRight, Whole}
use Rattle.rht_ghost.proofs.Theory.Readiness.{ArePagesOf}
use Rattle.rht_ghost.proofs.Theory.Frames.{Others, Made, stale_write, same_owners}
use Rattle.rht_ghost.proofs.Theory.WholeFrames.{no_bucket}
use Rattle.rht_ghost.proofs.Theory.TableFrames.{TablesKept, same_kept, none_fresh, IsNoBucketWord, no_table-no_bucket, Whole-retabled, Rely-retabled, EntriesRight-kept}
use Rattle.rht_ghost.proofs.Theory.TablesUnchanged.{TablesRight-kept}

-- no word of the map of pages is a bucket's or a node's
pub map_word-apart : (G : Ghost) (index : ℕ) → IsNoBucketWord G (PageMap index)
map_word-apart G index = record {
  nodes = λ n u e. cc;
  buckets = λ j none e. cc;
  map = λ i e. cc;
  count = λ e. cc;
  sections = record { own = λ c e. cc; kept = λ s c e. cc };
}

-- a page that has one of the bits has it in this word
pub has_bit-is : (index bits p : ℕ) → has_bit index bits p ≡ true → (p / 64 ≡ index) × (bit_at bits (p % 64) ≡ 1)
has_bit-is index bits p is =
    let both = and_parts (p / 64 == index) (bit_at bits (p % 64) == 1) is in
    (eqb-true (p / 64) index both.0, eqb-true (bit_at bits (p % 64)) 1 both.1)

-- and the other way round
pub is_has_bit : (index bits p : ℕ) → p / 64 ≡ index → bit_at bits (p % 64) ≡ 1 → has_bit index bits p ≡ true
is_has_bit index bits p word bit =
    and_from (p / 64 == index) (bit_at bits (p % 64) == 1) (eq-eqb (p / 64) index word)
    (eq-eqb (bit_at bits (p % 64)) 1 bit)

-- and one that has none is in another word, or its bit there is none of them
pub has_bit-not : (index bits p : ℕ) → has_bit index bits p ≡ false → p / 64 ≡ index → bit_at bits (p % 64) ≢ 1
has_bit-not index bits p is word bit = both_ways (has_bit index bits p) is (is_has_bit index bits p word bit)

module _ (env : Env) (mix : ℕ → ℕ → ℕ → ℕ) where
  -- a page with this owner is no table's
  abbrev NoTable : PageOwner → Type 0
  NoTable owner = (τ : ℕ) → owner ≢ PageOf τ

  -- ---- the owner of pages that no table has, before and after

  -- tables keep theirs
  pub pages_kept : (index bits : ℕ) (before after : PageOwner) (G : Ghost) → ArePagesOf env mix G index bits before
      → NoTable before → NoTable after → G.current < G.attached
      → TablesKept env mix G G.table G.attached G.slot (put_in (has_bit index bits) after G.page)
  pages_kept index bits before after G was none none_after within =
      same_kept env mix G G.table G.attached G.slot (put_in (has_bit index bits) after G.page) within (λ τ l. refl) (omega arith)
      (λ s has. refl) (λ s has l. refl)
      (λ p τ. put_in-all (λ q o. G.page q ≡ PageOf τ → o ≡ PageOf τ) (has_bit index bits) after G.page
      (λ q there is. absurd (none τ (sym (was.owned q there) ∙ is))) (λ q there is. is) p)
      (λ p τ l. put_in-all (λ q o. o ≡ PageOf τ → G.page q ≡ PageOf τ) (has_bit index bits) after G.page
      (λ q there is. absurd (none_after τ is)) (λ q there is. is) p)
      (none_fresh env mix G _)

  module _ (index bits v : ℕ) (before after : PageOwner) (M M' : Memory) (G : Ghost) (whole : Whole env mix M G)
      (was : ArePagesOf env mix G index bits before) (none_before : NoTable before) (none_after : NoTable after)
      (write : IsWrite env.geometry M M' (PageMap index) v)
      (here : (bit : ℕ) → bit < 64 → bit_at bits bit ≡ 1 → (bit_at v bit ≡ 1) ↔ (after ≡ PageFree))
      (others : (bit : ℕ) → bit < 64 → bit_at bits bit ≢ 1 → bit_at v bit ≡ bit_at (M (PageMap index)) bit) where
    abbrev page : ℕ → PageOwner
    page = put_in (has_bit index bits) after G.page

    abbrev G' : Ghost
    G' = with_pages G index bits after

    kept : TablesKept env mix G G.table G.attached G.slot page
    kept = pages_kept index bits before after G was none_before none_after whole.tables.current_in

    bits_right : (p : ℕ) → p < env.geometry.pages
        → (bit_at (M' (PageMap (p / 64))) (p % 64) ≡ 1) ↔ (page p ≡ PageFree)
    bits_right = put_in-all (λ p o. p < env.geometry.pages
        → (bit_at (M' (PageMap (p / 64))) (p % 64) ≡ 1) ↔ (o ≡ PageFree)) (has_bit index bits) after G.page
        (λ p there l.
        let is = has_bit-is index bits p there in
        rw (is.0, write.same) (here (p % 64) (omega arith) is.1))
        (λ p there l. rw (word_same p there l) (whole.pages.bits p l))
      where
        word_same : (p : ℕ) → has_bit index bits p ≡ false → p < env.geometry.pages
            → bit_at (M' (PageMap (p / 64))) (p % 64) ≡ bit_at (M (PageMap (p / 64))) (p % 64)
        word_same p there l = elim (cases_eq (p / 64) index) [
          | inl e ↦
              ap (λ i. bit_at (M' (PageMap i)) (p % 64)) e ∙ ap (λ w. bit_at w (p % 64)) write.same
              ∙ others (p % 64) (omega arith) (has_bit-not index bits p there e)
              ∙ ap (λ i. bit_at (M (PageMap i)) (p % 64)) (sym e)
          | inr other ↦ ap (λ w. bit_at w (p % 64)) (write.others (PageMap (p / 64)) (omega arith)
              (λ e. other (cc)))
        ]

    blank_right : (j : ℕ) → IsNoBucket env mix G' (page (j / 64)) j → G.bucket j ≡ blank_bucket
    blank_right j = put_in-all (λ p o. p ≡ j / 64 → IsNoBucket env mix G' o j → G.bucket j ≡ blank_bucket)
        (has_bit index bits) after G.page
        (λ p there same is. whole.pages.blank j (no_table-no_bucket env mix G (G.page (j / 64)) j
        (λ τ of. none_before τ (sym (was.owned p there) ∙ ap G.page same ∙ of))))
        (λ p there same is. whole.pages.blank j (subst (λ q. IsNoBucket env mix G (G.page q) j) same
        (no_bucket env mix G G' refl (G.page p) j is))) (j / 64) refl

    -- no table gets a page
    page_before : (p τ : ℕ) → page p ≡ PageOf τ → G.page p ≡ PageOf τ
    page_before p τ = put_in-all (λ q o. o ≡ PageOf τ → G.page q ≡ PageOf τ) (has_bit index bits) after G.page
        (λ q there is. absurd (none_after τ is)) (λ q there is. is) p

    pages_right : PagesRight env mix M' G'
    pages_right = record {
      bits = bits_right;
      page_of = λ p τ is. whole.pages.page_of p τ (page_before p τ is);
      there = λ p τ is.
          let t = whole.pages.there p τ (page_before p τ is) in record { has_slot = t.has_slot; index = t.index };
      blank = blank_right;
    }

    slots_right : SlotsRight env mix M' G'
    slots_right = record {
      states = λ s l. write.others (Slot s StateWord) (l, tt) (λ e. cc) ∙ whole.slots.states s l;
      worker_is = write.others WorkLock tt (λ e. cc) ∙ whole.slots.worker_is;
      retired = whole.slots.retired;
      back = whole.slots.back;
    }

    repaged : Whole env mix M' G'
    repaged = Whole-retabled env mix M M' G G.table G.attached G.slot page whole kept (PageMap index) v write
        (map_word-apart G index)
        (TablesRight-kept env mix M M' G G.slot page whole kept (PageMap index) v write (map_word-apart G index)
        (record { current = λ e. cc; slots = λ s w has e. cc }) (λ s has. refl) page_before)
        slots_right pages_right
        (EntriesRight-kept env mix M M' G G.table G.attached G.slot page whole kept (PageMap index) v write
        (map_word-apart G index) (λ τ l. refl) (λ p τ of has. page_before p τ of) (λ j e. cc))

    repaged_others : (d : ℕ) → ((c : ℕ) → c ≢ d → before ≢ PageHeld c) → ((c : ℕ) → c ≢ d → after ≢ PageHeld c)
        → Others env mix d M G M' G'
    repaged_others d not_before not_after c ne =
        Rely-retabled env mix M M' G G.table G.attached G.slot page whole kept (PageMap index) v write
        (map_word-apart G index) c (record {
          slots = λ s is. refl;
          slot_words = λ s w has is. write.others (Slot s w) (has.within, is) (λ e. cc);
          no_slot = λ s is. is;
          pages = λ p. put_in-all (λ q o. G.page q ≡ PageHeld c → o ≡ PageHeld c) (has_bit index bits) after G.page
              (λ q there is. absurd (not_before c ne (sym (was.owned q there) ∙ is))) (λ q there is. is) p;
          no_page = λ p. put_in-all (λ q o. o ≡ PageHeld c → G.page q ≡ PageHeld c) (has_bit index bits) after G.page
              (λ q there is. absurd (not_after c ne is)) (λ q there is. is) p;
        })

  -- bits that are set are those of free pages
  pub set_free : (index bits : ℕ) (M : Memory) (G : Ghost) → Whole env mix M G
      → ((p : ℕ) → has_bit index bits p ≡ true → p < env.geometry.pages)
      → ((bit : ℕ) → bit < 64 → bit_at bits bit ≡ 1 → bit_at (M (PageMap index)) bit ≡ 1)
      → ArePagesOf env mix G index bits PageFree
  set_free index bits M G whole among found = record {
    among = among;
    owned = λ p there.
        let is = has_bit-is index bits p there in
        (whole.pages.bits p (among p there)).0
        (ap (λ i. bit_at (M (PageMap i)) (p % 64)) is.0 ∙ found (p % 64) (omega arith) is.1);
  }

  -- the operation that clears these bits, all of which were set
  pub take_pages : (d index bits v : ℕ) (M M' : Memory) (G : Ghost) → Whole env mix M G
      → ((p : ℕ) → has_bit index bits p ≡ true → p < env.geometry.pages)
      → ((bit : ℕ) → bit < 64 → bit_at bits bit ≡ 1 → bit_at (M (PageMap index)) bit ≡ 1)
      → IsWrite env.geometry M M' (PageMap index) v
      → ((bit : ℕ) → bit < 64 → bit_at bits bit ≡ 1 → bit_at v bit ≡ 0)
      → ((bit : ℕ) → bit < 64 → bit_at bits bit ≢ 1 → bit_at v bit ≡ bit_at (M (PageMap index)) bit)
      → Made env mix d M G M' (with_pages G index bits (PageHeld d)) × ArePagesOf env mix G index bits PageFree
  take_pages d index bits v M M' G whole among found write cleared others =
      let free = set_free index bits M G whole among found in
      let here : (bit : ℕ) → bit < 64 → bit_at bits bit ≡ 1 → (bit_at v bit ≡ 1) ↔ (PageHeld d ≡ PageFree) =
      λ bit l is. ((λ set. absurd (let clear = cleared bit l is in omega (arith, clear, set))), (λ e. absurd (cc))) in (
        record {
          whole = repaged index bits v PageFree (PageHeld d) M M' G whole free (λ τ e. cc) (λ τ e. cc) write here
              others;
          others = repaged_others index bits v PageFree (PageHeld d) M M' G whole free (λ τ e. cc) (λ τ e. cc) write
              here others d (λ c ne e. cc) (λ c ne e. ne (cc));
          stale = stale_write env mix M M' G (with_pages G index bits (PageHeld d)) (PageMap index) v write
              (same_owners env mix G (with_pages G index bits (PageHeld d)) refl) (λ n u f e. cc)
              (λ n u f e. cc);
        },
        free,
      )

  -- the operation that sets these bits, which are those of pages that the caller has
  pub give_pages : (d index bits v : ℕ) (M M' : Memory) (G : Ghost) → Whole env mix M G
      → ArePagesOf env mix G index bits (PageHeld d)
      → IsWrite env.geometry M M' (PageMap index) v
      → ((bit : ℕ) → bit < 64 → bit_at bits bit ≡ 1 → bit_at v bit ≡ 1)
      → ((bit : ℕ) → bit < 64 → bit_at bits bit ≢ 1 → bit_at v bit ≡ bit_at (M (PageMap index)) bit)
      → Made env mix d M G M' (with_pages G index bits PageFree)
  give_pages d index bits v M M' G whole has write set others =
      let here : (bit : ℕ) → bit < 64 → bit_at bits bit ≡ 1 → (bit_at v bit ≡ 1) ↔ (PageFree ≡ PageFree) =
      λ bit l is. ((λ e. refl), (λ e. set bit l is)) in
      record {
        whole = repaged index bits v (PageHeld d) PageFree M M' G whole has (λ τ e. cc) (λ τ e. cc) write here others;
        others = repaged_others index bits v (PageHeld d) PageFree M M' G whole has (λ τ e. cc) (λ τ e. cc) write here
            others d (λ c ne e. ne (cc)) (λ c ne e. cc);
        stale = stale_write env mix M M' G (with_pages G index bits PageFree) (PageMap index) v write
            (same_owners env mix G (with_pages G index bits PageFree) refl) (λ n u f e. cc) (λ n u f e. cc);
      }
