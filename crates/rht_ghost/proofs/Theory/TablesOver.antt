-- What is so of a retired table to which no open section comes: nobody has locked one of its buckets, none of them has a
-- node, and so each word of its pages is that of a blank bucket, or is an entry.
use Rattle.std.proofs.Common.{◌≡◌, ℕ, ◌+◌, ◌/◌, ◌%◌, ◌<◌, List, [], ◌∷◌, Bool, Option, Some, None, true, false, refl, sym, ◌∙◌, ap, subst, inl, arith}
use Rattle.std.proofs.lemmas.Bool.Decides.{nat_tests}
use Rattle.rht_words.specs.declared.env.Env.{Env}
use Rattle.rht_words.specs.Chains.{IsSegment}
use Rattle.rht_words.specs.Links.{head_of, marker_of}
use Rattle.rht_words.specs.Members.{In}
use Rattle.rht_words.specs.Places.{PageWord}
use Rattle.rht_words.proofs.Memory.{Memory}
use Rattle.rht_ghost.proofs.Theory.Ghosts.{Bucket, blank_bucket, PageOf, IsSince, Ghost, has_table, table_of_page, table_of_slot, table_at, index_at, is_entry, lock_bit}
use Rattle.rht_ghost.proofs.Theory.Wholes.{chain_of, place_at, stop, BucketRight, Whole, IsThere, slot-there}
use Rattle.rht_ghost.proofs.Theory.Entries.{entry-no_bucket, page_within}
use Rattle.rht_ghost.proofs.Theory.Departures.{IsGoing}
use Rattle.rht_ghost.proofs.Theory.SectionFrames.{retired-before}

-- a bucket of which all is so is blank
is_blank : (b : Bucket) → b.nodes ≡ [] → b.plain ≡ 0 → b.holder ≡ None → b.out ≡ None → b.armed ≡ None → b ≡ blank_bucket
is_blank b nodes plain holder out armed =
    ap (λ x. record { nodes = x; plain = b.plain; holder = b.holder; out = b.out; armed = b.armed }) nodes
    ∙ ap (λ x. record { nodes = []; plain = x; holder = b.holder; out = b.out; armed = b.armed }) plain
    ∙ ap (λ x. record { nodes = []; plain = 0; holder = x; out = b.out; armed = b.armed }) holder
    ∙ ap (λ x. record { nodes = []; plain = 0; holder = None; out = x; armed = b.armed }) out
    ∙ ap (λ x. record { nodes = []; plain = 0; holder = None; out = None; armed = x }) armed

-- an even word behind which the chain ends at once in its own marker is 0
marks_none : (place plain : ℕ) → plain % 2 ≡ 0 → head_of place plain ≡ marker_of place → plain ≡ 0
marks_none place plain even is = grind (arith, nat_tests, even, is)

-- and behind the word 0 it does
marked : (place : ℕ) → head_of place 0 ≡ marker_of place
marked place = grind (arith, nat_tests)

segment_none : (chain : ℕ → ℕ) (link end : ℕ) (nodes : List ℕ) → nodes ≡ [] → IsSegment chain link nodes end → link ≡ end
segment_none chain link end nodes same segment = subst (λ xs. IsSegment chain link xs end) same segment

module _ (env : Env) (mix : ℕ → ℕ → ℕ → ℕ) where
  -- a blank bucket is right where its word is 0
  pub blank_right : (M : Memory) (j : ℕ) → M (PageWord j) ≡ 0 → BucketRight env mix M j blank_bucket
  blank_right M j zero = record {
    locked = record { word_is = zero; even = refl };
    chained = record { segment = marked (place_at env mix j); distinct = tt };
  }

  module _ (d s τ : ℕ) (M : Memory) (G : Ghost) (whole : Whole env mix M G) (going : IsGoing env mix d s τ G) where
    pub going-before : τ < G.current
    going-before = retired-before env mix M G whole.tables s τ going.retired

    index : index_at G s ≡ τ
    index = ap table_of_slot going.retired

    pub going-slot : (G.table τ).slot ≡ s
    going-slot =
        ap (λ σ. (G.table σ).slot) (sym index) ∙ (whole.tables.slots s (ap has_table going.retired)).slot

    pub going-there : IsThere G τ
    going-there = subst (IsThere G) index (slot-there env mix whole.tables s (ap has_table going.retired))

    pub going-within : s < 8
    going-within = let l = (whole.tables.each τ going-there).slot_in in omega (arith, l, going-slot)

    pub going-attached : τ < G.attached
    going-attached = omega (arith, going-before, whole.tables.current_in)

    -- its pages are some of the pages
    pub going-page : (p : ℕ) → G.page p ≡ PageOf τ → p < env.geometry.pages
    going-page = page_within env mix (G.table τ) G.page τ (whole.tables.each τ going-there).placed

    module _ (j : ℕ) (of : G.page (j / 64) ≡ PageOf τ) where
      table : table_at G j ≡ τ
      table = ap table_of_page of

      no_nodes : (nodes : List ℕ) → (G.bucket j).nodes ≡ nodes → nodes ≡ []
      no_nodes [] is = refl
      no_nodes (n ∷ nodes) is =
          let first = whole.owned.member j n (subst (In n) (sym is) (inl refl)) in
          let home = (whole.owned.first_at n j first).at_home in
          absurd (omega (arith, home.current, table, going-before))

      none_out : (out : Option ℕ) → (G.bucket j).out ≡ out → out ≡ None
      none_out None is = refl
      none_out (Some entry) is =
          let out = whole.moving.out j entry is in absurd (omega (arith, out.table, table, going-before))

      none_armed : (armed : Option ℕ) → (G.bucket j).armed ≡ armed → armed ≡ None
      none_armed None is = refl
      none_armed (Some c) is =
          let armed = whole.moving.armed j c is in absurd (omega (arith, armed.current, table, going-before))

      -- Here it matters that the section of whoever has locked the bucket comes to the table.
      none_holds : (holder : Option ℕ) → (G.bucket j).holder ≡ holder → holder ≡ None
      none_holds None is = refl
      none_holds (Some c) is =
          absurd (going.over c (subst (IsSince (G.from c)) table (whole.sections.locked j c is)))

      bucket-blank : is_entry G j ≡ false → G.bucket j ≡ blank_bucket
      bucket-blank plain =
          let nodes = no_nodes (G.bucket j).nodes refl in
          let out = none_out (G.bucket j).out refl in
          let within = going-page (j / 64) of in
          let right = whole.buckets j (omega (arith, within)) plain in
          let place = place_at env mix j in
          let ends : head_of place (G.bucket j).plain ≡ marker_of place =
          subst (λ o. head_of place (G.bucket j).plain ≡ stop env mix place o) out
          (segment_none (chain_of M) (head_of place (G.bucket j).plain) (stop env mix place (G.bucket j).out)
          (G.bucket j).nodes nodes right.chained.segment) in
          is_blank (G.bucket j) nodes (marks_none place (G.bucket j).plain right.locked.even ends)
          (none_holds (G.bucket j).holder refl) out (none_armed (G.bucket j).armed refl)

      -- each word of a page of it is a blank bucket's
      pub over-blank : G.bucket j ≡ blank_bucket
      over-blank = go (is_entry G j) refl
        where
          go : (t : Bool) → is_entry G j ≡ t → G.bucket j ≡ blank_bucket
          go true is = whole.pages.blank j (entry-no_bucket env mix G j is)
          go false is = bucket-blank is

      -- so it is 0, where it is no entry
      pub over-zero : is_entry G j ≡ false → M (PageWord j) ≡ 0
      over-zero plain =
          let within = going-page (j / 64) of in
          (whole.buckets j (omega (arith, within)) plain).locked.word_is
          ∙ ap (λ (b : Bucket). b.plain + lock_bit b.holder) over-blank
