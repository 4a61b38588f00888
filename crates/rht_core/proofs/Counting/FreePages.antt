-- In every run each word of a free page is 0, and no future that a caller could load leads to a free slot.
use Rattle.std.proofs.Common.{◌≡◌, ℕ, ◌+◌, ◌*◌, ◌/◌, ◌%◌, ◌<◌, false, List, sym, ◌∙◌, ap, subst, arith}
use Rattle.std.specs.Int.{bit_at}
use Rattle.rht_words.specs.declared.env.Env.{Env}
use Rattle.rht_words.specs.Places.{PageMap, PageWord, word_at}
use Rattle.rht_core.specs.Free.{AreFreePagesBlank, AreFreeSlotsUnled}
use Rattle.rht_core.specs.Reach.{TableIn, by_future}
use Rattle.rht_core.specs.Runs.{run_of}
use Rattle.rht_ghost.proofs.Theory.Ghosts.{Bucket, Ghost, PageFree, PageOwner, is_entry, is_entry_of, lock_bit}
use Rattle.rht_ghost.proofs.Theory.Steps.{mem}
use Rattle.rht_ghost.proofs.Theory.Wholes.{IsNoBucket, Whole}
use Rattle.rht_core.proofs.Events.InvariantRuns.{has_inv}
use Rattle.rht_core.proofs.Returning.SafeInRuns.{never_free}

module _ (env : Env) (mix : ℕ → ℕ → ℕ → ℕ) (words : List ℕ) (G : Ghost) (whole : Whole env mix (mem env mix words) G) where
  -- a word of a page that nobody has is a blank bucket's
  pub free_blank : (page index : ℕ) → page < env.geometry.pages → index < 64
      → bit_at (word_at env.geometry words (PageMap (page / 64))) (page % 64) ≡ 1
      → word_at env.geometry words (PageWord (64 * page + index)) ≡ 0
  free_blank page index l low free =
      let j = 64 * page + index in
      let same : j / 64 ≡ page = omega (arith, low) in
      let of : G.page (j / 64) ≡ PageFree = ap G.page same ∙ (whole.pages.bits page l).0 free in
      let none : is_entry G j ≡ false = ap (λ (o : PageOwner). is_entry_of G.table o (j / 64)) of in
      let blank = whole.pages.blank j (subst (λ (o : PageOwner). IsNoBucket env mix G o j) (sym of) tt) in
      (whole.buckets j (omega (arith, l, low)) none).locked.word_is ∙ ap (λ (b : Bucket). b.plain + lock_bit b.holder) blank

pub free_pages_blank : (L : Type 0) (mix : ℕ → ℕ → ℕ → ℕ) → AreFreePagesBlank L mix
free_pages_blank L mix env events page index admitted l low free =
    let has = has_inv env mix L events admitted in
    free_blank env mix (run_of {M = L} mix env events).core.words has.ghost has.inv.whole page index l low free

-- the future leads to a table that the caller could reach
pub free_slots_unled : (L : Type 0) (mix : ℕ → ℕ → ℕ → ℕ) → AreFreeSlotsUnled L mix
free_slots_unled L mix env events c front slot admitted low reads reached leads free =
    never_free L mix env events (TableIn slot) admitted free c low reads (by_future front slot reached leads)
