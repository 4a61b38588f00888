-- The chain of a bucket that is come to by its number in a table, and where its word leads, locked or not.
use Rattle.std.proofs.Common.{◌≡◌, ℕ, ◌+◌, ◌%◌, ◌<◌, ◌≤◌, List, [], ◌∷◌, Option, Some, None, refl, sym, ◌∙◌, ap, subst, inl, inr, arith}
use Rattle.std.specs.Prelude.{◌==◌, if◌then◌else◌}
use Rattle.rht_words.specs.declared.env.Env.{Env}
use Rattle.rht_words.specs.Chains.{IsSegment}
use Rattle.rht_words.specs.Links.{link_of, marker_of, head_of, unlocked}
use Rattle.rht_words.specs.Operations.{old_of}
use Rattle.rht_words.specs.Places.{IsBucketPlace}
use Rattle.rht_words.specs.declared.op.Op.TheVariants.{Load}
use Rattle.rht_words.specs.Shapes.{unpacked, size_of}
use Rattle.rht_ghost.proofs.Theory.Entries.{bucket-no_entry}
use Rattle.rht_ghost.proofs.Theory.Ghosts.{Ghost, lock_bit, table_at}
use Rattle.rht_ghost.proofs.Theory.Passed.{place-word, place-table, place-bucket}
use Rattle.rht_ghost.proofs.Theory.SeatedLinks.{link_of-one}
use Rattle.rht_ghost.proofs.Theory.Steps.{mem}
use Rattle.rht_ghost.proofs.Theory.Wholes.{chain_of, place_at, word_index, place_at-index, stop, BucketRight, Whole, IsThere}
use Rattle.rht_core.proofs.Finding.Falling.{HasPlace, AreFalling}
use Rattle.rht_core.proofs.Finding.Places.{Places, PlacesRight}

-- the word of a bucket says where its chain begins, locked or not
head_same : (place plain bit : ℕ) → plain % 2 ≡ 0 → bit ≤ 1 → head_of place (plain + bit) ≡ head_of place plain
head_same place plain bit even low =
    let same : unlocked (plain + bit) ≡ unlocked plain = omega (arith, even, low) in
    ap (λ w. if w == 0 then marker_of place else w) same

bit_low : (holder : Option ℕ) → lock_bit holder ≤ 1
bit_low None = omega arith
bit_low (Some c) = omega arith

module _ (env : Env) (mix : ℕ → ℕ → ℕ → ℕ) (words : List ℕ) (G : Ghost) (whole : Whole env mix (mem env mix words) G) (τ b j : ℕ)
    (is_there : IsThere G τ) (below : b < size_of (unpacked (G.table τ).shape)) (is : (G.table τ).place b ≡ Some j) where
  pub bucket_right : BucketRight env mix (mem env mix words) j (G.bucket j)
  bucket_right =
      whole.buckets j (place-word env mix (mem env mix words) G whole τ b j is_there below is).within
      (bucket-no_entry env mix G j (place-bucket env mix (mem env mix words) G whole τ b j is_there below is))

  -- where a load of its word says that its chain begins
  pub loaded_head : (place : ℕ) → IsBucketPlace env.geometry place → j ≡ word_index env mix place
      → head_of place (old_of words (Load place)) ≡ head_of (place_at env mix j) (G.bucket j).plain
  loaded_head place there same =
      let locked = bucket_right.locked in
      let place_is : place_at env mix j ≡ place = ap (place_at env mix) same ∙ place_at-index env mix place there in
      subst (λ p. head_of p (old_of words (Load p)) ≡ head_of (place_at env mix j) (G.bucket j).plain) place_is
      (ap (head_of (place_at env mix j)) locked.word_is
      ∙ head_same (place_at env mix j) (G.bucket j).plain (lock_bit (G.bucket j).holder) locked.even
      (bit_low (G.bucket j).holder))

  module _ (P : Places) (now : ℕ) (right : PlacesRight env mix G P (mem env mix words) now) (last : τ + 1 ≡ G.attached) where
    -- where no table is behind it leads to no node, or to one that has a place in the bucket
    pub head_placed : (x : ℕ) → head_of (place_at env mix j) (G.bucket j).plain ≡ link_of x → HasPlace (P.place j) x
    head_placed x leads = go (G.bucket j).nodes refl bucket_right.chained.segment
      where
        table : table_at G j ≡ τ
        table = place-table env mix (mem env mix words) G whole τ b j is_there below is

        at_end : (out : Option ℕ) → (G.bucket j).out ≡ out → stop env mix (place_at env mix j) out ≡ link_of x → HasPlace (P.place j) x
        at_end None none link = absurd (omega (arith, link))
        at_end (Some entry) some link =
            let out = whole.moving.out j entry some in
            elim out.owner [
              | inl leaving ↦
                  let at = right.last j entry leaving in
                  record { at = at.at; is = ap (P.place j) (link_of-one x entry (sym link)) ∙ at.is }
              | inr further ↦
                  let at = (whole.owned.first_at entry further.bucket further.first).at_home in
                  let later = further.later in
                  let of = out.table in
                  absurd (omega (arith, last, table, later, of, at.attached))
            ]

        go : (nodes : List ℕ) → (G.bucket j).nodes ≡ nodes
            → IsSegment (chain_of (mem env mix words)) (head_of (place_at env mix j) (G.bucket j).plain) nodes
            (stop env mix (place_at env mix j) (G.bucket j).out) → HasPlace (P.place j) x
        go [] none segment = at_end (G.bucket j).out refl (sym segment ∙ leads)
        go (first ∷ nodes) full segment =
            let top = (subst (AreFalling (P.place j)) full (right.falls j)).0 in
            record { at = top.at; is = ap (P.place j) (link_of-one x first (sym leads ∙ segment.0)) ∙ top.is }
