-- Tables that were left behind: which sections may come to one, and that none does once it is over. A bucket
-- of such a table is blank once nobody has locked it, so that its page can be given back.
use Rattle.std.proofs.Common.{◌≡◌, ℕ, ◌%◌, ◌<◌, List, [], ◌∷◌, Option, Some, None, Bool, true, false, refl, sym, ◌∙◌, ap, subst, inl, arith}
use Rattle.std.specs.Prelude.{nat_le}
use Rattle.std.specs.Option.{is_some}
use Rattle.std.proofs.lemmas.Bool.Decides.{nat_tests}
use Rattle.rht_words.specs.declared.env.Env.{Env}
use Rattle.rht_words.specs.Chains.{IsSegment}
use Rattle.rht_words.specs.Links.{head_of, marker_of}
use Rattle.rht_words.specs.Members.{In}
use Rattle.rht_words.specs.Places.{Section}
use Rattle.rht_words.specs.Shapes.{unpacked, size_of}
use Rattle.rht_words.proofs.Memory.{Memory}
use Rattle.rht_ghost.proofs.Theory.Ghosts.{Bucket, blank_bucket, Ghost, table_at}
use Rattle.rht_ghost.proofs.Theory.Wholes.{chain_of, place_at, stop, Whole, IsThere}
use Rattle.rht_ghost.proofs.Theory.Passed.{place-table, place-word, place-bucket}
use Rattle.rht_ghost.proofs.Theory.Entries.{bucket-no_entry}
use Rattle.rht_core.proofs.Returning.Readers.{Reader, is_open, ReaderRight}
use Rattle.rht_core.proofs.Returning.GracePeriods as grace

-- ---- sections

-- a section that was opened while this table was the current one may come to it and to those behind it
abbrev pub comes_to : Option ℕ → ℕ → Bool
comes_to None τ = false
comes_to (Some from) τ = nat_le from τ

-- what a section may meet of tables
abbrev pub tables_of : Reader → grace.Section ℕ
tables_of r = record { reads = is_open r; meets = comes_to r.from }

-- only who is in a section comes to one
comes-reads : (r : Reader) (τ : ℕ) → (tables_of r).meets τ ≡ true → is_open r ≡ true
comes-reads r τ is = go r.from is
  where
    go : (from : Option ℕ) → comes_to from τ ≡ true → is_some from ≡ true
    go None is = absurd (cc)
    go (Some low) is = refl

module _ (env : Env) (mix : ℕ → ℕ → ℕ → ℕ) where
  -- where an even word is kept of a caller for this table, no open section of it may come to the table
  pub table-over : (c τ : ℕ) (M : Memory) (G : Ghost) (r : Reader) (kept : ℕ) → ReaderRight env mix M G c r
      → kept % 2 ≡ 0 → grace.Kept ℕ (λ σ. σ ≡ τ) (M (Section c)) (tables_of r) kept
      → comes_to r.from τ ≡ false
  table-over c τ M G r kept right even keeps =
      grace.over-even ℕ (λ σ. σ ≡ τ) (M (Section c)) (tables_of r) kept
      (record { odd = right.odd.1; reading = comes-reads r }) even keeps τ refl

  -- ---- buckets

  -- a bucket is blank by its fields
  same_bucket : (b : Bucket) → b.nodes ≡ [] → b.plain ≡ 0 → b.holder ≡ None → b.out ≡ None → b.armed ≡ None
      → b ≡ blank_bucket
  same_bucket b nodes plain holder out armed =
      ap (λ x. record { nodes = x; plain = b.plain; holder = b.holder; out = b.out; armed = b.armed }) nodes
      ∙ ap (λ x. record { nodes = []; plain = x; holder = b.holder; out = b.out; armed = b.armed }) plain
      ∙ ap (λ x. record { nodes = []; plain = 0; holder = x; out = b.out; armed = b.armed }) holder
      ∙ ap (λ x. record { nodes = []; plain = 0; holder = None; out = x; armed = b.armed }) out
      ∙ ap (λ x. record { nodes = []; plain = 0; holder = None; out = None; armed = x }) armed

  -- an even word of a bucket without nodes is 0
  marks_none : (place plain : ℕ) → plain % 2 ≡ 0 → head_of place plain ≡ marker_of place → plain ≡ 0
  marks_none place plain even is = grind (arith, nat_tests, even, is)

  module _ (M : Memory) (G : Ghost) (whole : Whole env mix M G) (τ b j : ℕ) (behind : τ < G.current) (is_there : IsThere G τ)
      (below : b < size_of (unpacked (G.table τ).shape)) (here : (G.table τ).place b ≡ Some j) where
    -- its table is the bucket's
    table : table_at G j ≡ τ
    table = place-table env mix M G whole τ b j is_there below here

    -- it has no node, no entry is on its way out of it, and nobody is armed there
    none : (nodes : List ℕ) → (G.bucket j).nodes ≡ nodes → nodes ≡ []
    none [] is = refl
    none (n ∷ nodes) is =
        let first = whole.owned.member j n (subst (In n) (sym is) (inl refl)) in
        let home = (whole.owned.first_at n j first).at_home in
        absurd (omega (arith, home.current, table, behind))

    still : (out : Option ℕ) → (G.bucket j).out ≡ out → out ≡ None
    still None is = refl
    still (Some entry) is = let out = whole.moving.out j entry is in
        absurd (omega (arith, out.table, table, behind))

    unarmed : (armed : Option ℕ) → (G.bucket j).armed ≡ armed → armed ≡ None
    unarmed None is = refl
    unarmed (Some c) is = let armed = whole.moving.armed j c is in
        absurd (omega (arith, armed.current, table, behind))

    -- a bucket of a table that was left behind is blank once nobody has locked it
    pub behind-blank : (G.bucket j).holder ≡ None → G.bucket j ≡ blank_bucket
    behind-blank holder =
        let nodes : (G.bucket j).nodes ≡ [] = none (G.bucket j).nodes refl in
        let out : (G.bucket j).out ≡ None = still (G.bucket j).out refl in
        let within = (place-word env mix M G whole τ b j is_there below here).within in
        let plain = bucket-no_entry env mix G j (place-bucket env mix M G whole τ b j is_there below here) in
        let right = whole.buckets j within plain in
        let ends : head_of (place_at env mix j) (G.bucket j).plain ≡ marker_of (place_at env mix j) =
        subst (λ o. head_of (place_at env mix j) (G.bucket j).plain ≡ stop env mix (place_at env mix j) o) out
        (subst (λ row. IsSegment (chain_of M) (head_of (place_at env mix j) (G.bucket j).plain) row
        (stop env mix (place_at env mix j) (G.bucket j).out)) nodes right.chained.segment) in
        same_bucket (G.bucket j) nodes
        (marks_none (place_at env mix j) (G.bucket j).plain right.locked.even ends) holder out
        (unarmed (G.bucket j).armed refl)
