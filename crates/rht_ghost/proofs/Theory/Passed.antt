-- What a caller knows of a port that goes from table to table, from the current one on: that none of the tables behind it
-- binds the port, and none will.
--
-- It holds at the current table. Under the lock of the port's bucket in a table, where no node of the bucket has the port's key,
-- it holds of the next table where there is one; and where there is none, the port is bound nowhere.
use Rattle.std.proofs.Common.{◌≡◌, ◌≢◌, ◌⊎◌, ℕ, ◌+◌, ◌*◌, ◌/◌, ◌%◌, ◌^◌, ◌<◌, ◌≤◌, List, [], ◌∷◌, Option, Some, None, false, refl, sym, ◌∙◌, ap, inl, inr, subst, arith}
use Rattle.std.proofs.lemmas.Bool.{cases_eq, cases_lt}
use Rattle.std.proofs.Math.Nat.{mod-lt}
use Rattle.rht_words.specs.declared.env.Env.{Env}
use Rattle.rht_words.specs.Shapes.{unpacked, size_of}
use Rattle.rht_words.proofs.Memory.{Memory}
use Rattle.rht_words.proofs.ShapeSizes.{IsSizeUpTo-size_of}
use Rattle.rht_words.specs.Members.{In}
use Rattle.rht_words.specs.Ports.{net_of, number_of}
use Rattle.rht_policy.specs.Mix.{bucket_of}
use Rattle.rht_ghost.proofs.Theory.Ghosts.{Table, Bucket, blank_bucket, is_entry, Ghost, First, PageOwner, PageFree, PageHeld, PageOf, unretired, seat_in, seat, seated, table_of_page, table_at, none-some, some-same}
use Rattle.rht_ghost.proofs.Theory.Wholes.{key_of, home, hash_in, IsNoBucket, MovesNone, seated_at, Whole, IsThere, AreThereFrom, IsAt, force-there}
use Rattle.rht_ghost.proofs.Theory.Entries.{IsWordOf, word_of, bucket-no_entry}

-- none of these nodes has the key
abbrev pub NoKey : Memory → ℕ → List ℕ → Type 0
NoKey M key [] = Unit {0}
NoKey M key (node ∷ nodes) = (key_of M node ≢ key) × NoKey M key nodes

-- where their keys stay it is so still
pub NoKey-same : (M M' : Memory) (key : ℕ) (nodes : List ℕ)
    → ((node : ℕ) → In node nodes → key_of M' node ≡ key_of M node)
    → NoKey M key nodes → NoKey M' key nodes
NoKey-same M M' key [] same none = tt
NoKey-same M M' key (node ∷ nodes) same none = (
  (λ is. none.0 (sym (same node (inl refl)) ∙ is)),
  NoKey-same M M' key nodes
      (λ other i. same other (inr i)) none.1,
)

pub NoKey-in : (M : Memory) (key m : ℕ) (nodes : List ℕ) → NoKey M key nodes → In m nodes
    → key_of M m ≡ key → ⊥
NoKey-in M key m [] none i same = i
NoKey-in M key m (node ∷ nodes) none (inl e) same = none.0 (ap (key_of M) (sym e) ∙ same)
NoKey-in M key m (node ∷ nodes) none (inr i) same = NoKey-in M key m nodes none.1 i same

-- What a table keeps that has been attached: its slot, what its words say, the words of its buckets, and of its pages what each has and
-- where its entries lead.
pub record TableStays (page : ℕ → PageOwner) (τ : ℕ) (table table' : Table) : Type 0 where
  pub slot : table'.slot ≡ table.slot
  pub shape : table'.shape ≡ table.shape
  pub seed : table'.seed ≡ table.seed
  pub serial : table'.serial ≡ table.serial
  pub places : (b j : ℕ) → table.place b ≡ Some j → table'.place b ≡ Some j
  pub parts : (p : ℕ) → page p ≡ PageOf τ → table'.part p ≡ table.part p
  pub entries : (j p : ℕ) → page (j / 64) ≡ PageOf τ → table.entry j ≡ Some p → table'.entry j ≡ Some p

-- the same table is so
pub same-TableStays : (page : ℕ → PageOwner) (τ : ℕ) (table table' : Table) → table' ≡ table
    → TableStays page τ table table'
same-TableStays page τ table table' same = record {
  slot = ap (λ t. t.slot) same;
  shape = ap (λ t. t.shape) same;
  seed = ap (λ t. t.seed) same;
  serial = ap (λ t. t.serial) same;
  places = λ b j is. ap (λ t. t.place b) same ∙ is;
  parts = λ p of. ap (λ t. t.part p) same;
  entries = λ j p of is. ap (λ t. t.entry j) same ∙ is;
}

-- which table it is
pub record IsSameTable (table table' : Table) : Type 0 where
  pub slot : table'.slot ≡ table.slot
  pub shape : table'.shape ≡ table.shape
  pub seed : table'.seed ≡ table.seed
  pub serial : table'.serial ≡ table.serial

module _ (env : Env) (mix : ℕ → ℕ → ℕ → ℕ) where
  -- Behind this table no bind of the port is armed, no entry of it is on its way out, and it isn't bound there.
  pub record Passed (G : Ghost) (port τ : ℕ) : Type 0 where
    pub attached : τ < G.attached
    pub quiet : (σ j : ℕ) → G.current ≤ σ → σ < τ → home env mix G port σ ≡ Some j → (G.bucket j).armed ≡ None
    pub gone : (σ j n : ℕ) (behind : List ℕ) → G.current ≤ σ → σ < τ → home env mix G port σ ≡ Some j
        → G.bound port ≡ n ∷ behind → (G.bucket j).out ≢ Some n
    pub later : (j : ℕ) → seat G port ≡ Some j → τ ≤ table_at G j

  module _ (M : Memory) (G : Ghost) (whole : Whole env mix M G) where
    -- the port's number is one of the table's buckets
    pub hash-below : (port τ : ℕ) → hash_in env mix G port τ < size_of (unpacked (G.table τ).shape)
    hash-below port τ =
        mod-lt (mix (number_of port) (net_of port) ((G.table τ).seed % 2 ^ 32)) {m = size_of (unpacked (G.table τ).shape)}
        (let size_is = IsSizeUpTo-size_of (unpacked (G.table τ).shape) in omega (arith, size_is.least))

    -- the word of a bucket of a table is in one of the table's pages, and is no entry
    pub place-word : (τ b j : ℕ) → IsThere G τ → b < size_of (unpacked (G.table τ).shape)
        → (G.table τ).place b ≡ Some j → IsWordOf env mix (G.table τ) G.page τ b j
    place-word τ b j is_there below is = word_of env mix (G.table τ) G.page τ (whole.tables.each τ is_there).placed b j below is

    pub place-table : (τ b j : ℕ) → IsThere G τ → b < size_of (unpacked (G.table τ).shape)
        → (G.table τ).place b ≡ Some j → table_at G j ≡ τ
    place-table τ b j is_there below is = ap table_of_page (place-word τ b j is_there below is).of

    pub place-bucket : (τ b j : ℕ) → IsThere G τ → b < size_of (unpacked (G.table τ).shape)
        → (G.table τ).place b ≡ Some j → IsNoBucket env mix G (G.page (j / 64)) j → ⊥
    place-bucket τ b j is_there below is bucketless =
        let word = place-word τ b j is_there below is in
        word.bucket (subst (λ o. IsNoBucket env mix G o j) word.of bucketless)

    pub home-word : (port τ j : ℕ) → IsThere G τ → home env mix G port τ ≡ Some j
        → IsWordOf env mix (G.table τ) G.page τ (hash_in env mix G port τ) j
    home-word port τ j is_there is = place-word τ (hash_in env mix G port τ) j is_there (hash-below port τ) is

    pub home-table : (port τ j : ℕ) → IsThere G τ → home env mix G port τ ≡ Some j → table_at G j ≡ τ
    home-table port τ j is_there is = place-table τ (hash_in env mix G port τ) j is_there (hash-below port τ) is

    pub home-within : (port τ j : ℕ) → IsThere G τ → home env mix G port τ ≡ Some j
        → j < 64 * env.geometry.pages
    home-within port τ j is_there is = (home-word port τ j is_there is).within

    -- the word of a port's bucket is a bucket's
    pub home-bucket : (port τ j : ℕ) → IsThere G τ → home env mix G port τ ≡ Some j
        → IsNoBucket env mix G (G.page (j / 64)) j → ⊥
    home-bucket port τ j is_there is = place-bucket τ (hash_in env mix G port τ) j is_there (hash-below port τ) is

    pub home-no_entry : (port τ j : ℕ) → IsThere G τ → home env mix G port τ ≡ Some j → is_entry G j ≡ false
    home-no_entry port τ j is_there is = bucket-no_entry env mix G j (home-bucket port τ j is_there is)

    -- nor is that of a bucket that somebody has locked
    pub held-bucket : (j c : ℕ) → (G.bucket j).holder ≡ Some c → IsNoBucket env mix G (G.page (j / 64)) j → ⊥
    held-bucket j c holds bucketless = none-some (ap (λ b. b.holder) (whole.pages.blank j bucketless)) holds

    pub held-no_entry : (j c : ℕ) → (G.bucket j).holder ≡ Some c → is_entry G j ≡ false
    held-no_entry j c holds = bucket-no_entry env mix G j (held-bucket j c holds)

    -- nor is that of one that has a node
    pub member-bucket : (j n : ℕ) → In n (G.bucket j).nodes → IsNoBucket env mix G (G.page (j / 64)) j → ⊥
    member-bucket j n there bucketless = subst (λ (b : Bucket). In n b.nodes) (whole.pages.blank j bucketless) there

    pub member-no_entry : (j n : ℕ) → In n (G.bucket j).nodes → is_entry G j ≡ false
    member-no_entry j n there = bucket-no_entry env mix G j (member-bucket j n there)

    -- The first node of a port is in the bucket that is the port's seat, or on its way out of it, and has its key.
    pub record SeatIs (port j : ℕ) : Type 0 where
      pub node : ℕ
      pub there : In node (G.bucket j).nodes ⊎ ((G.bucket j).out ≡ Some node)
      pub key_is : key_of M node ≡ port
      pub here : home env mix G port (table_at G j) ≡ Some j
      pub current : G.current ≤ table_at G j
      pub attached : table_at G j < G.attached

    pub seat_is : (port j : ℕ) → seat G port ≡ Some j → SeatIs port j
    seat_is port j = go (G.bound port) refl
      where
        go : (nodes : List ℕ) → G.bound port ≡ nodes → seat_in G.node nodes ≡ Some j → SeatIs port j
        go [] b s = absurd (cc)
        go (n ∷ behind) b s =
            let to = whole.owned.bound_to port n behind b in
            let at = seated_at env mix M G whole n j s in
            record {
              node = n;
              there = elim (seated (G.node n) j s) [
                | inl first ↦ inl (whole.owned.first_at n j first).there
                | inr leaving ↦ inr (whole.owned.leaving_at n j leaving).out
              ];
              key_is = to.key_is;
              here = rw (sym to.key_is) at.at_home.here;
              current = at.at_home.current;
              attached = at.at_home.attached;
            }

    -- a caller begins at the current table
    pub passed_first : (port : ℕ) → Passed G port G.current
    passed_first port = record {
      attached = whole.tables.current_in;
      quiet = λ σ j l h is. absurd (omega arith);
      gone = λ σ j n behind l h is b. absurd (omega arith);
      later = λ j s. (seat_is port j s).current;
    }

    -- where the port isn't bound in a table to which a caller has come, and no table is behind it, the port is bound nowhere
    unbound_behind : (port τ : ℕ) → Passed G port τ → ((i : ℕ) → seat G port ≡ Some i → table_at G i ≢ τ)
        → τ + 1 ≡ G.attached → G.bound port ≡ []
    unbound_behind port τ passed not_here last = go (G.bound port) refl
      where
        go : (nodes : List ℕ) → G.bound port ≡ nodes → G.bound port ≡ []
        go [] b = b
        go (n ∷ behind) b =
            let to = whole.owned.bound_to port n behind b in
            let seated_in : seat G port ≡ Some to.bucket = ap (seat_in G.node) b ∙ to.first in
            let is = seat_is port to.bucket seated_in in
            let behind_it = passed.later to.bucket seated_in in
            absurd (not_here to.bucket seated_in (omega (arith, behind_it, is.attached, last)))

    -- A caller has come to a table in which the port's bucket is missing.
    module _ (port τ : ℕ) (passed : Passed G port τ) (missing : home env mix G port τ ≡ None) where
      -- so the port isn't bound there
      not_missed : (i : ℕ) → seat G port ≡ Some i → table_at G i ≢ τ
      not_missed i s same = none-some missing (ap (home env mix G port) (sym same) ∙ (seat_is port i s).here)

      -- where no table is behind this one, the port is bound nowhere
      pub unbound_missing : τ + 1 ≡ G.attached → G.bound port ≡ []
      unbound_missing = unbound_behind port τ passed not_missed

      -- and where one is, the caller goes on to it
      pub go_beyond : τ + 1 < G.attached → Passed G port (τ + 1)
      go_beyond more =
          record {
            attached = more;
            quiet = λ σ i l h is. elim (cases_eq σ τ) [
              | inl e ↦ absurd (nowhere σ i e is)
              | inr ne ↦ passed.quiet σ i l (omega arith) is
            ];
            gone = λ σ i n behind l h is b out. elim (cases_eq σ τ) [
              | inl e ↦ nowhere σ i e is
              | inr ne ↦ passed.gone σ i n behind l (omega arith) is b out
            ];
            later = λ i s. let at_least = passed.later i s in let other = not_missed i s in omega
                (arith, at_least, other);
          }
        where
          nowhere : (σ i : ℕ) → σ ≡ τ → home env mix G port σ ≡ Some i → ⊥
          nowhere σ i e is = none-some missing (ap (home env mix G port) (sym e) ∙ is)

    -- A caller has locked the port's bucket in a table to which it has come, none of whose nodes has the port's key. No entry is on its
    -- way out of the bucket.
    module _ (port τ j : ℕ) (passed : Passed G port τ) (at : home env mix G port τ ≡ Some j)
        (none : NoKey M port (G.bucket j).nodes) (still : (G.bucket j).out ≡ None) where
      -- the port isn't bound in this table
      not_here : (i : ℕ) → seat G port ≡ Some i → table_at G i ≢ τ
      not_here i s same =
          let is = seat_is port i s in
          let here : i ≡ j = some-same i j (sym is.here ∙ ap (home env mix G port) same ∙ at) in
          elim is.there [
            | inl there ↦ NoKey-in M port is.node (G.bucket j).nodes none
                (subst (λ k. In is.node (G.bucket k).nodes) here there) is.key_is
            | inr out ↦ none-some still (ap (λ k. (G.bucket k).out) (sym here) ∙ out)
          ]

      -- where no table is behind this one, the port is bound nowhere
      pub unbound_at_last : τ + 1 ≡ G.attached → G.bound port ≡ []
      unbound_at_last = unbound_behind port τ passed not_here

      -- and where one is, the caller goes on to it, if it isn't armed
      pub go_on : (G.bucket j).armed ≡ None → τ + 1 < G.attached → Passed G port (τ + 1)
      go_on unarmed more =
          record {
            attached = more;
            quiet = λ σ i l h is. elim (cases_eq σ τ) [
              | inl e ↦ ap (λ k. (G.bucket k).armed) (same_place σ i e is) ∙ unarmed
              | inr ne ↦ passed.quiet σ i l (omega arith) is
            ];
            gone = λ σ i n behind l h is b out. elim (cases_eq σ τ) [
              | inl e ↦ none-some (ap (λ k. (G.bucket k).out) (same_place σ i e is) ∙ still) out
              | inr ne ↦ passed.gone σ i n behind l (omega arith) is b out
            ];
            later = λ i s. let at_least = passed.later i s in let other = not_here i s in omega
                (arith, at_least, other);
          }
        where
          same_place : (σ i : ℕ) → σ ≡ τ → home env mix G port σ ≡ Some i → i ≡ j
          same_place σ i e is = some-same i j (sym is ∙ ap (home env mix G port) e ∙ at)

    -- The first node of a port isn't on its way out of any bucket, where a caller that has locked the port's bucket in a table to which it
    -- has come found it there.
    pub stays_in : (d port τ j n : ℕ) (behind : List ℕ) → Passed G port τ → IsThere G τ → home env mix G port τ ≡ Some j
        → (G.bucket j).holder ≡ Some d → MovesNone env mix G d → G.bound port ≡ n ∷ behind
        → G.node n ≡ First j → (i : ℕ) → (G.bucket i).out ≢ Some n
    stays_in d port τ j n behind passed is_there at holds none b first i is =
        let out = whole.moving.out i n is in
        let to = whole.owned.bound_to port n behind b in
        let there = (whole.owned.first_at n j first).at_home in
        let table : table_at G j ≡ τ = home-table port τ j is_there at in
        let here : home env mix G port G.current ≡ Some i = rw (sym to.key_is) out.here in
        elim (cases_eq G.current τ) [
          | inl e ↦
              let same : i ≡ j = some-same i j (sym here ∙ ap (home env mix G port) e ∙ at) in
              none i n is (ap (λ k. (G.bucket k).holder) same ∙ holds)
          | inr ne ↦ passed.gone G.current i n behind (omega arith)
              (omega (arith, there.current, table, ne)) here b is
        ]

  -- ---- what was passed is so still

  -- Tables come, the current one is left behind, and what has been said of each table stays; one that isn't retired wasn't so.
  -- From this one on those that are there stay, and one that comes is there; so do pages and buckets, but that buckets get words
  -- whose pages were missing: each of these is blank then.
  pub record GrowsFrom (low : ℕ) (G G' : Ghost) : Type 0 where
    pub tables : (τ : ℕ) → τ < G.attached → IsSameTable (G.table τ) (G'.table τ)
    pub places : (τ b j : ℕ) → τ < G.attached → low ≤ τ → (G.table τ).place b ≡ Some j
        → (G'.table τ).place b ≡ Some j
    pub placed : (τ b j : ℕ) → τ < G.attached → low ≤ τ → (G'.table τ).place b ≡ Some j
        → ((G.table τ).place b ≡ Some j) ⊎ (G'.bucket j ≡ blank_bucket)
    pub parts : (p τ : ℕ) → τ < G.attached → low ≤ τ → G.page p ≡ PageOf τ → (G'.table τ).part p ≡ (G.table τ).part p
    pub attached : G.attached ≤ G'.attached
    pub current : G.current ≤ G'.current
    pub live : (s τ : ℕ) → unretired (G'.slot s) ≡ Some τ → τ < G.attached → unretired (G.slot s) ≡ Some τ
    pub there : (τ : ℕ) → low ≤ τ → τ < G'.attached → (τ < G.attached → IsThere G τ) → IsThere G' τ
    pub pages : (p τ : ℕ) → low ≤ τ → G.page p ≡ PageOf τ → G'.page p ≡ PageOf τ

  -- a bind of the port is armed in this bucket
  pub record IsArmedFor (G : Ghost) (port j : ℕ) : Type 0 where
    pub caller : ℕ
    pub armed : (G.bucket j).armed ≡ Some caller
    pub here : home env mix G port (table_at G j) ≡ Some j
    pub current : G.current ≤ table_at G j

  -- the port's first node was in this bucket, or in one of an earlier table
  pub record WasSeated (G : Ghost) (port j : ℕ) : Type 0 where
    pub bucket : ℕ
    pub seat_is : seat G port ≡ Some bucket
    pub earlier : table_at G bucket ≤ table_at G j

  -- the node was on its way out of this bucket, as its port's first one
  pub record WasOut (G : Ghost) (port n j : ℕ) : Type 0 where
    pub behind : List ℕ
    pub bound_to : G.bound port ≡ n ∷ behind
    pub out : (G.bucket j).out ≡ Some n

  -- What a step may do to who is armed, to what is on its way, and to where ports are bound, so that whoever has passed a table has still:
  -- a bind gets armed in the last table alone, an entry goes out of the bucket that was its seat, and a port is bound in a bucket in
  -- which a bind was armed for it, or no earlier than it was bound before.
  pub record PassesStay (G G' : Ghost) : Type 0 where
    pub armed : (j c : ℕ) → (G'.bucket j).armed ≡ Some c
        → ((G.bucket j).armed ≡ Some c) ⊎ (table_at G j + 1 ≡ G.attached)
    pub heads : (port n j : ℕ) (behind : List ℕ) → G'.bound port ≡ n ∷ behind → (G'.bucket j).out ≡ Some n
        → WasOut G port n j ⊎ (seat G port ≡ Some j)
    pub seats : (port j : ℕ) → seat G' port ≡ Some j → WasSeated G port j ⊎ IsArmedFor G port j

  pub less-grown : {a b d : ℕ} → a < b → b ≤ d → a < d
  less-grown l m = omega (arith, l, m)

  -- tables of which all behind them are there are so still
  pub there_from-from : (low : ℕ) (G G' : Ghost) → GrowsFrom low G G' → (τ : ℕ) → low ≤ τ → AreThereFrom G τ → AreThereFrom G' τ
  there_from-from low G G' grow τ from there σ later l = grow.there σ (omega (arith, from, later)) l (there σ later)

  -- so the table that a slot has is known still
  abbrev pub at-from : (low : ℕ) (G G' : Ghost) → GrowsFrom low G G' → (slot : ℕ) (at : IsAt G slot) → low ≤ at.table → IsAt G' slot
  at-from low G G' grow slot at from = record {
    table = at.table;
    attached = less-grown at.attached grow.attached;
    slot_is = (grow.tables at.table at.attached).slot ∙ at.slot_is;
    on = there_from-from low G G' grow at.table from at.on;
  }

  -- a bucket's table stays
  pub table_at-from : (low : ℕ) (G G' : Ghost) → GrowsFrom low G G' → (j : ℕ) → low ≤ table_at G j
      → table_at G j ≤ table_at G' j
  table_at-from low G G' grow j = go (G.page (j / 64)) refl
    where
      go : (owner : PageOwner) → G.page (j / 64) ≡ owner → low ≤ table_of_page owner
          → table_of_page owner ≤ table_at G' j
      go PageFree is from = omega arith
      go (PageHeld c) is from = omega arith
      go (PageOf τ) is from =
          let same : table_at G' j ≡ τ = ap table_of_page (grow.pages (j / 64) τ from is) in
          omega (arith, same)

  -- a port has the number that it had, and the homes, and perhaps one more in a bucket that is blank
  pub hash-from : (low : ℕ) (G G' : Ghost) → GrowsFrom low G G' → (port τ : ℕ) → τ < G.attached
      → hash_in env mix G' port τ ≡ hash_in env mix G port τ
  hash-from low G G' grow port τ l =
      let same = grow.tables τ l in
      ap (λ shape. bucket_of mix port shape (G'.table τ).seed) same.shape
      ∙ ap (λ seed. bucket_of mix port (G.table τ).shape seed) same.seed

  pub home-from : (low : ℕ) (G G' : Ghost) → GrowsFrom low G G' → (port τ j : ℕ) → τ < G.attached → low ≤ τ
      → home env mix G port τ ≡ Some j → home env mix G' port τ ≡ Some j
  home-from low G G' grow port τ j l from is =
      ap (G'.table τ).place (hash-from low G G' grow port τ l)
      ∙ grow.places τ (hash_in env mix G port τ) j l from is

  home-comes-from : (low : ℕ) (G G' : Ghost) → GrowsFrom low G G' → (port τ j : ℕ) → τ < G.attached → low ≤ τ
      → home env mix G' port τ ≡ Some j → (home env mix G port τ ≡ Some j) ⊎ (G'.bucket j ≡ blank_bucket)
  home-comes-from low G G' grow port τ j l from is =
      grow.placed τ (hash_in env mix G port τ) j l from
      (sym (ap (G'.table τ).place (hash-from low G G' grow port τ l)) ∙ is)

  -- who has passed a table that isn't before that one has still
  module _ (low : ℕ) (M : Memory) (G G' : Ghost) (whole : Whole env mix M G) (grow : GrowsFrom low G G')
      (stay : PassesStay G G') (from_current : low ≤ G.current) where
    pub Passed-from : (port τ : ℕ) → low ≤ τ → Passed G port τ → Passed G' port τ
    Passed-from port τ from passed =
        let before : (σ j : ℕ) → G'.current ≤ σ → σ < τ → home env mix G' port σ ≡ Some j
        → (home env mix G port σ ≡ Some j) ⊎ (G'.bucket j ≡ blank_bucket) =
        λ σ j h l is. home-comes-from low G G' grow port σ j (omega (arith, l, passed.attached))
        (omega (arith, h, grow.current, from_current)) is in
        record {
          attached = omega (arith, passed.attached, grow.attached);
          quiet = λ σ j l h is. elim (before σ j l h is) [
            | inl was ↦ unarmed σ j (G'.bucket j).armed refl (omega (arith, grow.current, l)) h was
            | inr blank ↦ ap (λ b. b.armed) blank
          ];
          gone = λ σ j n behind l h is b out. elim (before σ j l h is) [
            | inl was ↦ elim (stay.heads port n j behind b out) [
              | inl still ↦ passed.gone σ j n still.behind (omega (arith, grow.current, l)) h was still.bound_to still.out
              | inr seat_was ↦
                  let at_least = passed.later j seat_was in
                  let table = home-table M G whole port σ j (force-there env mix whole.tables σ
                  (omega (arith, h, grow.current)) (omega (arith, passed.attached, h))) was in
                  absurd (omega (arith, at_least, table, h))
            ]
            | inr blank ↦ none-some (ap (λ b. b.out) blank) out
          ];
          later = λ j s. elim (stay.seats port j s) [
            | inl before ↦
                let at_least = passed.later before.bucket before.seat_is in
                let more = table_at-from low G G' grow j (omega (arith, from, at_least, before.earlier)) in
                omega (arith, at_least, before.earlier, more)
            | inr arms ↦ elim (cases_lt (table_at G j) τ) [
              | inl less ↦ absurd (none-some
                  (passed.quiet (table_at G j) j arms.current less arms.here) arms.armed)
              | inr least ↦
                  let more = table_at-from low G G' grow j (omega (arith, from, least)) in
                  omega (arith, least, more)
            ]
          ];
        }
      where
        unarmed : (σ j : ℕ) (armed : Option ℕ) → (G'.bucket j).armed ≡ armed → G.current ≤ σ → σ < τ
            → home env mix G port σ ≡ Some j → (G'.bucket j).armed ≡ None
        unarmed σ j None is l h at = is
        unarmed σ j (Some c) is l h at = elim (stay.armed j c is) [
          | inl before ↦ absurd (none-some (passed.quiet σ j l h at) before)
          | inr last ↦
              let table = home-table M G whole port σ j (force-there env mix whole.tables σ l (omega (arith, passed.attached, h))) at in
              absurd (omega (arith, last, table, passed.attached))
        ]

  -- ---- where all tables stay

  -- Tables come behind those that there are, and the current one is left behind. Of those that there are all stays that is said of them,
  -- but that a table in use may be retired, and that buckets get words whose pages were missing: each of these is blank then. A table that
  -- comes is there, and one that was there still is.
  pub record TablesGrow (G G' : Ghost) : Type 0 where
    pub tables : (τ : ℕ) → τ < G.attached → TableStays G.page τ (G.table τ) (G'.table τ)
    pub placed : (τ b j : ℕ) → τ < G.attached → (G'.table τ).place b ≡ Some j
        → ((G.table τ).place b ≡ Some j) ⊎ (G'.bucket j ≡ blank_bucket)
    pub attached : G.attached ≤ G'.attached
    pub current : G.current ≤ G'.current
    pub live : (s τ : ℕ) → unretired (G'.slot s) ≡ Some τ → τ < G.attached → unretired (G.slot s) ≡ Some τ
    pub there : (τ : ℕ) → τ < G'.attached → (τ < G.attached → IsThere G τ) → IsThere G' τ
    pub pages : (p τ : ℕ) → G.page p ≡ PageOf τ → G'.page p ≡ PageOf τ

  -- so everything stays from the first table on
  pub grows_from : (G G' : Ghost) → TablesGrow G G' → GrowsFrom 0 G G'
  grows_from G G' grow = record {
    tables = λ τ l.
        let stays = grow.tables τ l in
        record { slot = stays.slot; shape = stays.shape; seed = stays.seed; serial = stays.serial };
    places = λ τ b j l from. (grow.tables τ l).places b j;
    placed = λ τ b j l from. grow.placed τ b j l;
    parts = λ p τ l from. (grow.tables τ l).parts p;
    attached = grow.attached;
    current = grow.current;
    live = grow.live;
    there = λ τ from. grow.there τ;
    pages = λ p τ from. grow.pages p τ;
  }

  pub there_from-grows : (G G' : Ghost) → TablesGrow G G' → (τ : ℕ) → AreThereFrom G τ → AreThereFrom G' τ
  there_from-grows G G' grow τ = there_from-from 0 G G' (grows_from G G' grow) τ (omega arith)

  abbrev pub at-stays : (G G' : Ghost) → TablesGrow G G' → (slot : ℕ) → IsAt G slot → IsAt G' slot
  at-stays G G' grow slot at = at-from 0 G G' (grows_from G G' grow) slot at (omega arith)

  pub table_at-grows : (G G' : Ghost) → TablesGrow G G' → (j : ℕ) → table_at G j ≤ table_at G' j
  table_at-grows G G' grow j = table_at-from 0 G G' (grows_from G G' grow) j (omega arith)

  pub hash-stays : (G G' : Ghost) → TablesGrow G G' → (port τ : ℕ) → τ < G.attached
      → hash_in env mix G' port τ ≡ hash_in env mix G port τ
  hash-stays G G' grow = hash-from 0 G G' (grows_from G G' grow)

  pub home-stays : (G G' : Ghost) → TablesGrow G G' → (port τ j : ℕ) → τ < G.attached
      → home env mix G port τ ≡ Some j → home env mix G' port τ ≡ Some j
  home-stays G G' grow port τ j l = home-from 0 G G' (grows_from G G' grow) port τ j l (omega arith)

  module _ (M : Memory) (G G' : Ghost) (whole : Whole env mix M G) (grow : TablesGrow G G')
      (stay : PassesStay G G') where
    pub Passed-stays : (port τ : ℕ) → Passed G port τ → Passed G' port τ
    Passed-stays port τ = Passed-from 0 M G G' whole (grows_from G G' grow) stay (omega arith) port τ
        (omega arith)
