-- What is true of the words and the ghost after each event of each run. Tables stand in the order in which they were attached.
-- The first of the nodes to which a port is bound stands in a chain, and the others in its list behind it.
use Rattle.std.proofs.Common.{◌≡◌, ◌↔◌, ℕ, ◌+◌, ◌-◌, ◌*◌, ◌⊎◌, ◌/◌, ◌%◌, ◌<◌, ◌≤◌, max, nat_lt, cond, true, false, List, [], ◌∷◌, Option, Some, None, arith, refl, sym, ap, ◌∙◌, ◌≢◌, inl, inr}
use Rattle.std.specs.Int.{bit_at}
use Rattle.rht_words.specs.declared.env.Env.{Env}
use Rattle.rht_words.specs.declared.config.Kind.TheVariants.{Single}
use Rattle.rht_words.specs.Links.{link_of, head_of, marker_of, future_of}
use Rattle.rht_words.specs.Shapes.{unpacked, size_of}
use Rattle.rht_words.specs.Places.{CurrentTable, WorkLock, PortCount, Section, Slot, ShapeWord, SeedWord, FutureWord, SerialWord, StateWord, LoadedSection, NodeMap, PageMap, Node, ChainLink, KeyWord, ListLink, PageWord, IsBucketPlace, place_of, pages_at}
use Rattle.rht_words.specs.Chains.{IsSegment}
use Rattle.rht_words.proofs.Memory.{Memory}
use Rattle.rht_words.specs.Members.{In, IsDistinct}
use Rattle.rht_words.proofs.Members.{count_below}
use Rattle.rht_words.specs.Ports.{IsPort}
use Rattle.rht_policy.specs.Mix.{bucket_of}
use Rattle.rht_nest.specs.Tables.{table_seed}
use Rattle.rht_ghost.proofs.Theory.Ghosts.{Part, Row, Top, has_entries, Table, Bucket, blank_bucket, Owner, Free, NodeHeld, First, Leaving, Behind, Taken, Ghost, Live, Retired, Back, unretired, IsSince, lock_bit, state_word, is_first, is_taken_by, seat_of, seated, table_at, has_table, table_of_slot, index_at, PageOwner, PageFree, PageHeld, PageOf, is_entry, entry_word}
use Rattle.rht_ghost.proofs.Theory.Ways.{first_page, child, followed, IsSpareIn, StandsAs, IsNestedShape}

-- the links behind nodes
abbrev pub chain_of : Memory → ℕ → ℕ
chain_of M node = M (Node node ChainLink)

-- the key words of nodes
abbrev pub key_of : Memory → ℕ → ℕ
key_of M node = M (Node node KeyWord)

-- the links behind nodes in the lists of their ports
abbrev pub list_of : Memory → ℕ → ℕ
list_of M node = M (Node node ListLink)

-- no slot has a table before the current one that isn't retired, but for this slot
abbrev pub AreRetired : Ghost → Option ℕ → Type 0
AreRetired G slot = (s τ : ℕ) → unretired (G.slot s) ≡ Some τ → τ < G.current → slot ≡ Some s

-- it is so still where the same table is the current one, and those before it that aren't retired were so before, in the same slots
pub retired_stay : (G G' : Ghost) (slot : Option ℕ) → G'.current ≡ G.current
    → ((s τ : ℕ) → unretired (G'.slot s) ≡ Some τ → τ < G.current → unretired (G.slot s) ≡ Some τ) → AreRetired G slot
    → AreRetired G' slot
retired_stay G G' slot current live is s τ now l =
    let before : τ < G.current = omega (arith, l, current) in is s τ (live s τ now before) before

-- the table has its slot still
pub record IsThere (G : Ghost) (τ : ℕ) : Type 0 where
  pub has_slot : has_table (G.slot (G.table τ).slot) ≡ true
  pub index : index_at G (G.table τ).slot ≡ τ

-- this table and all behind it have
abbrev pub AreThereFrom : Ghost → ℕ → Type 0
AreThereFrom G τ = (σ : ℕ) → τ ≤ σ → σ < G.attached → IsThere G σ

pub there_behind : (G : Ghost) (τ : ℕ) → AreThereFrom G τ → AreThereFrom G (τ + 1)
there_behind G τ on σ later = on σ (omega (arith, later))

-- which of the tables that were attached it is that a slot has: it is there, and so is each one behind it
pub record IsAt (G : Ghost) (slot : ℕ) : Type 0 where
  pub table : ℕ
  pub attached : table < G.attached
  pub slot_is : (G.table table).slot ≡ slot
  pub on : AreThereFrom G table

pub at-there : {G : Ghost} {slot : ℕ} (at : IsAt G slot) → IsThere G at.table
at-there {G} {slot} at = at.on at.table (omega arith) at.attached

-- the tables that have these slots aren't before this one
abbrev pub AreFrom : ℕ → Ghost → List ℕ → Type 0
AreFrom low G slots = (slot : ℕ) → In slot slots → (at : IsAt G slot) → low ≤ at.table

-- no other table that is there has a slot that one has
pub one_slot : (G : Ghost) (τ σ : ℕ) → IsThere G τ → IsThere G σ → (G.table τ).slot ≡ (G.table σ).slot → τ ≡ σ
one_slot G τ σ there other same = sym there.index ∙ ap (index_at G) same ∙ other.index

-- so at each moment a slot has one table
pub one_table : {G : Ghost} {slot : ℕ} (at more : IsAt G slot) → more.table ≡ at.table
one_table {G} {slot} at more =
    one_slot G more.table at.table (at-there more) (at-there at) (more.slot_is ∙ sym at.slot_is)

module _ (env : Env) (mix : ℕ → ℕ → ℕ → ℕ) where
  -- the place of the word of a bucket, and which of the words of all pages stands at a place
  abbrev pub place_at : ℕ → ℕ
  place_at j = place_of env.geometry (PageWord j)

  abbrev pub word_index : ℕ → ℕ
  word_index place = place - pages_at env.geometry

  -- they come back from one another
  pub place_at-index : (place : ℕ) → IsBucketPlace env.geometry place → place_at (word_index place) ≡ place
  place_at-index place is = omega (arith, is.0)

  pub index-place_at : (j : ℕ) → word_index (place_at j) ≡ j
  index-place_at j = omega arith

  pub index-within : (place : ℕ) → IsBucketPlace env.geometry place
      → word_index place < 64 * env.geometry.pages
  index-within place is = omega (arith, is.0, is.1)

  -- the bucket to which a port belongs in a table: its number there, and which of the words of all pages is its word
  abbrev pub hash_in : Ghost → ℕ → ℕ → ℕ
  hash_in G port τ = bucket_of mix port (G.table τ).shape (G.table τ).seed

  abbrev pub home : Ghost → ℕ → ℕ → Option ℕ
  home G port τ = (G.table τ).place (hash_in G port τ)

  -- the word of the future of a table, which leads to the one attached next
  abbrev pub future_in : Ghost → ℕ → ℕ
  future_in G τ = cond (nat_lt (τ + 1) G.attached) (future_of (G.table (τ + 1)).slot) 0

  -- how many pages a flat table takes, the first of which its shape names; and the page is one of these
  abbrev pub pages_of : ℕ → ℕ
  pages_of shape = max 1 (size_of (unpacked shape) / 64)

  pub record IsOfRun (shape p : ℕ) : Type 0 where
    pub from : first_page shape ≤ p
    pub below : p < first_page shape + pages_of shape

  -- The buckets of a flat table stand in a row from its first page on. Its pages are those of this run, and have nothing else.
  pub record IsFlat (table : Table) (page : ℕ → PageOwner) (τ : ℕ) : Type 0 where
    pub flat : (unpacked table.shape).nest ≡ 0
    pub fits : 64 * first_page table.shape + size_of (unpacked table.shape) ≤ 64 * env.geometry.pages
    pub places : (b : ℕ) → b < size_of (unpacked table.shape)
        → table.place b ≡ Some (64 * first_page table.shape + b)
    pub pages : (b : ℕ) → b < size_of (unpacked table.shape)
        → page ((64 * first_page table.shape + b) / 64) ≡ PageOf τ
    pub run : (p : ℕ) → page p ≡ PageOf τ → IsOfRun table.shape p
    pub rows : (p : ℕ) → page p ≡ PageOf τ → table.part p ≡ Row

  -- this is a page of the table, and has what is behind this entry of a page with this part
  pub record IsBehind (table : Table) (page : ℕ → PageOwner) (τ : ℕ) (part : Part) (index p : ℕ) : Type 0 where
    pub within : p < env.geometry.pages
    pub of : page p ≡ PageOf τ
    pub part_is : table.part p ≡ child table.shape part index

  -- A nested table has its top page, and each of its pages stands where its part is to stand. Its entries lead to pages of its own, and
  -- its buckets are where they lead.
  pub record IsNested (table : Table) (page : ℕ → PageOwner) (τ : ℕ) : Type 0 where
    pub shaped : IsNestedShape table.shape
    pub top_within : first_page table.shape < env.geometry.pages
    pub top_of : page (first_page table.shape) ≡ PageOf τ
    pub top_part : table.part (first_page table.shape) ≡ Top
    pub stands : (p : ℕ) → page p ≡ PageOf τ → StandsAs table p (table.part p)
    pub leads : (j p : ℕ) → page (j / 64) ≡ PageOf τ → has_entries (table.part (j / 64)) ≡ true
        → table.entry j ≡ Some p → IsBehind table page τ (table.part (j / 64)) (j % 64) p
    pub places : (b : ℕ) → table.place b ≡ followed table b

  -- where the buckets of a table stand, which is flat or nested, and which pages it has
  abbrev pub PlacedRight : Table → (ℕ → PageOwner) → ℕ → Type 0
  PlacedRight table page τ = IsFlat table page τ ⊎ IsNested table page τ

  -- the words of a table's slot say what the ghost does; its seed is that of the config with its serial
  pub record TableRight (M : Memory) (G : Ghost) (τ : ℕ) : Type 0 where
    pub slot_in : (G.table τ).slot < 8
    pub shape_is : M (Slot (G.table τ).slot ShapeWord) ≡ (G.table τ).shape
    pub seed_is : M (Slot (G.table τ).slot SeedWord) ≡ (G.table τ).seed
    pub serial_is : M (Slot (G.table τ).slot SerialWord) ≡ (G.table τ).serial
    pub seeded : (G.table τ).seed ≡ table_seed env.config.seed (G.table τ).serial
    pub future_is : M (Slot (G.table τ).slot FutureWord) ≡ future_in G τ
    pub placed : PlacedRight (G.table τ) G.page τ

  -- a slot that has a table is that table's
  pub record SlotIsOf (G : Ghost) (s : ℕ) : Type 0 where
    pub attached : index_at G s < G.attached
    pub slot : (G.table (index_at G s)).slot ≡ s

  -- The tables from the current one on are in use, and each that is there is right.
  pub record TablesRight (M : Memory) (G : Ghost) : Type 0 where
    pub current_in : G.current < G.attached
    pub current_is : M CurrentTable ≡ (G.table G.current).slot
    pub force : (τ : ℕ) → G.current ≤ τ → τ < G.attached → G.slot (G.table τ).slot ≡ Live τ
    pub each : (τ : ℕ) → IsThere G τ → TableRight M G τ
    pub slots : (s : ℕ) → has_table (G.slot s) ≡ true → SlotIsOf G s

  -- ---- tables that are there

  -- one that isn't retired
  pub live-there : (G : Ghost) (τ : ℕ) → G.slot (G.table τ).slot ≡ Live τ → IsThere G τ
  live-there G τ live = record { has_slot = ap has_table live; index = ap table_of_slot live }

  -- so those from the current one on
  pub force-there : {M : Memory} {G : Ghost} → TablesRight M G → (τ : ℕ) → G.current ≤ τ → τ < G.attached → IsThere G τ
  force-there {M} {G} tables τ from l = live-there G τ (tables.force τ from l)

  pub current-there : {M : Memory} {G : Ghost} → TablesRight M G → IsThere G G.current
  current-there {M} {G} tables = force-there tables G.current (omega arith) tables.current_in

  -- one that a slot has
  pub slot-there : {M : Memory} {G : Ghost} → TablesRight M G → (s : ℕ) → has_table (G.slot s) ≡ true → IsThere G (index_at G s)
  slot-there {M} {G} tables s has =
      let of = (tables.slots s has).slot in
      record { has_slot = ap (λ t. has_table (G.slot t)) of ∙ has; index = ap (index_at G) of }

  -- one that a caller knows by its slot is right
  pub at-right : {M : Memory} {G : Ghost} → TablesRight M G → (slot : ℕ) (at : IsAt G slot) → TableRight M G at.table
  at-right {M} {G} tables slot at = tables.each at.table (at-there at)

  -- so is the current one known
  abbrev pub current-at : {M : Memory} {G : Ghost} → TablesRight M G → (slot : ℕ) → (G.table G.current).slot ≡ slot → IsAt G slot
  current-at {M} {G} tables slot is =
      record { table = G.current; attached = tables.current_in; slot_is = is; on = force-there tables }

  -- it was attached
  pub there-attached : {M : Memory} {G : Ghost} → TablesRight M G → (τ : ℕ) → IsThere G τ → τ < G.attached
  there-attached {M} {G} tables τ there =
      let of = tables.slots (G.table τ).slot there.has_slot in omega (arith, of.attached, there.index)

  -- The state word of each slot says who has it, and the work lock is set exactly while a caller has it. While none has it each table
  -- before the current one that has a slot is retired. And the caller that has it alone gives back what was a table's.
  pub record SlotsRight (M : Memory) (G : Ghost) : Type 0 where
    pub states : (s : ℕ) → s < 8 → M (Slot s StateWord) ≡ state_word (G.slot s)
    pub worker_is : M WorkLock ≡ lock_bit G.worker
    pub retired : G.worker ≡ None → AreRetired G None
    pub back : (s c : ℕ) → G.slot s ≡ Back c → G.worker ≡ Some c

  -- a caller's section is open exactly while its word is odd
  abbrev pub IsTurned : Option ℕ → ℕ → Type 0
  IsTurned None word = word % 2 ≡ 0
  IsTurned (Some low) word = word % 2 ≡ 1

  -- Section words say who has a section open: one of the callers. In the slot of a retired table stands the word of each section that comes to it.
  -- And the section of a caller that has locked a bucket comes to the bucket's table.
  pub record SectionsRight (M : Memory) (G : Ghost) : Type 0 where
    pub words : (c : ℕ) → c < 16 → IsTurned (G.from c) (M (Section c))
    pub callers : (c low : ℕ) → G.from c ≡ Some low → c < env.geometry.callers
    pub kept : (s τ c : ℕ) → s < 8 → G.slot s ≡ Retired τ → IsSince (G.from c) τ
        → M (Slot s (LoadedSection c)) ≡ M (Section c)
    pub locked : (j c : ℕ) → (G.bucket j).holder ≡ Some c → IsSince (G.from c) (table_at G j)

  -- the word with this index among those of all pages is the word of no table's bucket
  abbrev pub IsNoBucket : Ghost → PageOwner → ℕ → Type 0
  IsNoBucket G PageFree j = Unit {0}
  IsNoBucket G (PageHeld c) j = Unit {0}
  IsNoBucket G (PageOf τ) j = IsSpareIn (G.table τ).shape ((G.table τ).part (j / 64)) j

  -- A page's bit is set exactly where nobody has the page. A table that has a page was attached and is there, and each word of a
  -- page that is no bucket's is blank.
  pub record PagesRight (M : Memory) (G : Ghost) : Type 0 where
    pub bits : (p : ℕ) → p < env.geometry.pages
        → (bit_at (M (PageMap (p / 64))) (p % 64) ≡ 1) ↔ (G.page p ≡ PageFree)
    pub page_of : (p τ : ℕ) → G.page p ≡ PageOf τ → τ < G.attached
    pub there : (p τ : ℕ) → G.page p ≡ PageOf τ → IsThere G τ
    pub blank : (j : ℕ) → IsNoBucket G (G.page (j / 64)) j → G.bucket j ≡ blank_bucket

  -- a bucket's word is odd exactly while somebody holds its lock
  pub record LockedRight (M : Memory) (j : ℕ) (b : Bucket) : Type 0 where
    pub word_is : M (PageWord j) ≡ b.plain + lock_bit b.holder
    pub even : b.plain % 2 ≡ 0

  -- where the chain of the bucket whose word has this place ends: in its own marker, or in the link to the entry that is on its way out
  abbrev pub stop : ℕ → Option ℕ → ℕ
  stop place None = marker_of place
  stop place (Some entry) = link_of entry

  -- its chain has its nodes, each once, and ends where it is to
  pub record ChainedRight (M : Memory) (j : ℕ) (b : Bucket) : Type 0 where
    pub segment : IsSegment (chain_of M) (head_of (place_at j) b.plain) b.nodes (stop (place_at j) b.out)
    pub distinct : IsDistinct b.nodes

  pub record BucketRight (M : Memory) (j : ℕ) (b : Bucket) : Type 0 where
    pub locked : LockedRight M j b
    pub chained : ChainedRight M j b

  -- each word of a page is an entry of a table, or is a bucket's, or that of a blank one
  abbrev pub BucketsRight : Memory → Ghost → Type 0
  BucketsRight M G = (j : ℕ) → j < 64 * env.geometry.pages → is_entry G j ≡ false → BucketRight M j (G.bucket j)

  abbrev pub EntriesRight : Memory → Ghost → Type 0
  EntriesRight M G = (j : ℕ) → j < 64 * env.geometry.pages → is_entry G j ≡ true
      → M (PageWord j) ≡ entry_word ((G.table (table_at G j)).entry j)

  -- the bucket is one of a table in force, and that to which the port belongs there
  pub record IsHomeOf (G : Ghost) (port j : ℕ) : Type 0 where
    pub here : home G port (table_at G j) ≡ Some j
    pub current : G.current ≤ table_at G j
    pub attached : table_at G j < G.attached

  -- a caller that has found in a bucket that no table is behind has locked the bucket, which is one of a table in force
  pub record ArmedRight (G : Ghost) (j c : ℕ) : Type 0 where
    pub holder : (G.bucket j).holder ≡ Some c
    pub current : G.current ≤ table_at G j
    pub attached : table_at G j < G.attached

  -- an entry is in a table behind the current one
  pub record IsFurther (G : Ghost) (entry : ℕ) : Type 0 where
    pub bucket : ℕ
    pub first : G.node entry ≡ First bucket
    pub later : G.current < table_at G bucket

  -- An entry on its way out of a bucket of the current table: the caller that does the work has locked the bucket, to which the
  -- entry's port belongs. The entry is still in that bucket alone, or is in a table behind it as well.
  pub record OutRight (M : Memory) (G : Ghost) (j entry : ℕ) : Type 0 where
    pub worker : ℕ
    pub holder : (G.bucket j).holder ≡ Some worker
    pub works : G.worker ≡ Some worker
    pub table : table_at G j ≡ G.current
    pub among : entry < env.geometry.nodes
    pub here : home G (key_of M entry) G.current ≡ Some j
    pub owner : (G.node entry ≡ Leaving j) ⊎ IsFurther G entry

  -- what is on its way: who is armed, and which entries leave their buckets
  pub record MovingRight (M : Memory) (G : Ghost) : Type 0 where
    pub armed : (j c : ℕ) → (G.bucket j).armed ≡ Some c → ArmedRight G j c
    pub out : (j entry : ℕ) → (G.bucket j).out ≡ Some entry → OutRight M G j entry

  -- the bucket in a table behind the current one into which an entry goes: the caller that does the work has locked it, and the entry's
  -- link leads to its first node
  pub record IsNextFor (M : Memory) (G : Ghost) (entry : ℕ) : Type 0 where
    pub bucket : ℕ
    pub later : G.current < table_at G bucket
    pub attached : table_at G bucket < G.attached
    pub worker : ℕ
    pub holder : (G.bucket bucket).holder ≡ Some worker
    pub works : G.worker ≡ Some worker
    pub here : home G (key_of M entry) (table_at G bucket) ≡ Some bucket
    pub chain : chain_of M entry ≡ head_of (place_at bucket) (G.bucket bucket).plain

  -- an entry that is out of its bucket and not yet in another one is still the first to which its port is bound
  pub record IsLeavingAt (M : Memory) (G : Ghost) (n j : ℕ) : Type 0 where
    pub out : (G.bucket j).out ≡ Some n
    pub behind : List ℕ
    pub bound_to : G.bound (key_of M n) ≡ n ∷ behind
    pub next : IsNextFor M G n

  -- a node of the chain of a bucket is there, is one of the nodes, belongs there, and is the first to which its port is bound
  pub record IsFirstAt (M : Memory) (G : Ghost) (n j : ℕ) : Type 0 where
    pub there : In n (G.bucket j).nodes
    pub among : n < env.geometry.nodes
    pub at_home : IsHomeOf G (key_of M n) j
    pub behind : List ℕ
    pub bound_to : G.bound (key_of M n) ≡ n ∷ behind

  -- a node behind a port's first one is one of the nodes, has the port's key, and the port is bound to it
  pub record IsBehindIn (M : Memory) (G : Ghost) (n port : ℕ) : Type 0 where
    pub among : n < env.geometry.nodes
    pub key_is : key_of M n ≡ port
    pub first : ℕ
    pub behind : List ℕ
    pub bound_to : G.bound port ≡ first ∷ behind
    pub there : In n behind

  -- The first node that a port is bound to has a seat and has the port's key. The others are behind it, each once, along the
  -- links of the port's list, which ends in 0.
  pub record IsBoundTo (M : Memory) (G : Ghost) (port n : ℕ) (behind : List ℕ) : Type 0 where
    pub bucket : ℕ
    pub first : seat_of (G.node n) ≡ Some bucket
    pub key_is : key_of M n ≡ port
    pub list : IsSegment (list_of M) (list_of M n) behind 0
    pub distinct : IsDistinct (n ∷ behind)
    pub each : (m : ℕ) → In m behind → G.node m ≡ Behind port

  -- who owns each node is what chains and lists say; in a table of one owner a port is bound to one node at most; and what is bound is a port
  pub record Owned (M : Memory) (G : Ghost) : Type 0 where
    pub member : (j n : ℕ) → In n (G.bucket j).nodes → G.node n ≡ First j
    pub first_at : (n j : ℕ) → G.node n ≡ First j → IsFirstAt M G n j
    pub leaving_at : (n j : ℕ) → G.node n ≡ Leaving j → IsLeavingAt M G n j
    pub behind_in : (n port : ℕ) → G.node n ≡ Behind port → IsBehindIn M G n port
    pub bound_to : (port n : ℕ) (behind : List ℕ) → G.bound port ≡ n ∷ behind → IsBoundTo M G port n behind
    pub single : env.config.kind ≡ Single → (port n : ℕ) (behind : List ℕ) → G.bound port ≡ n ∷ behind
        → behind ≡ []
    pub small : (port n : ℕ) (behind : List ℕ) → G.bound port ≡ n ∷ behind → IsPort port

  -- a node that was taken out of a list was so by one of the callers
  abbrev pub IsBuilt : Owner → Type 0
  IsBuilt Free = Unit {0}
  IsBuilt (NodeHeld c) = Unit {0}
  IsBuilt (First j) = Unit {0}
  IsBuilt (Leaving j) = Unit {0}
  IsBuilt (Behind k) = Unit {0}
  IsBuilt (Taken c) = c < env.geometry.callers

  -- a node's bit is set exactly where nobody has the node
  pub record ArenaRight (M : Memory) (G : Ghost) : Type 0 where
    pub built : (n : ℕ) → IsBuilt (G.node n)
    pub bits : (n : ℕ) → n < env.geometry.nodes
        → (bit_at (M (NodeMap (n / 64))) (n % 64) ≡ 1) ↔ (G.node n ≡ Free)

  -- the count of ports is the nodes in chains, and the callers that have raised it for a node that they
  -- haven't linked yet or have still to lower it for one that they have taken out
  abbrev pub firsts : Ghost → ℕ
  firsts G = count_below (λ n. is_first (G.node n)) env.geometry.nodes

  -- how many nodes calls of a caller have taken out of ports' lists
  abbrev pub outs : Ghost → ℕ → ℕ
  outs G c = count_below (λ n. is_taken_by c (G.node n)) env.geometry.nodes

  abbrev pub raisers : Ghost → ℕ
  raisers G = count_below G.raised env.geometry.callers

  pub record Whole (M : Memory) (G : Ghost) : Type 0 where
    pub tables : TablesRight M G
    pub slots : SlotsRight M G
    pub sections : SectionsRight M G
    pub pages : PagesRight M G
    pub buckets : BucketsRight M G
    pub entries : EntriesRight M G
    pub moving : MovingRight M G
    pub owned : Owned M G
    pub arena : ArenaRight M G
    pub counted : M PortCount ≡ firsts G + raisers G

  -- a node that has a seat, whether it stays or is on its way out
  pub record IsSeatedAt (M : Memory) (G : Ghost) (n j : ℕ) : Type 0 where
    pub among : n < env.geometry.nodes
    pub at_home : IsHomeOf G (key_of M n) j
    pub behind : List ℕ
    pub bound_to : G.bound (key_of M n) ≡ n ∷ behind

  pub seated_at : (M : Memory) (G : Ghost) → Whole M G → (n j : ℕ) → seat_of (G.node n) ≡ Some j
      → IsSeatedAt M G n j
  seated_at M G whole n j is = elim (seated (G.node n) j is) [
    | inl first ↦
        let at = whole.owned.first_at n j first in
        record { among = at.among; at_home = at.at_home; behind = at.behind; bound_to = at.bound_to }
    | inr leaving ↦
        let at = whole.owned.leaving_at n j leaving in
        let out = whole.moving.out j n at.out in
        record {
          among = out.among;
          at_home = record {
            here = ap (home G (key_of M n)) out.table ∙ out.here;
            current = omega (arith, out.table);
            attached = omega (arith, out.table, whole.tables.current_in);
          };
          behind = at.behind;
          bound_to = at.bound_to;
        }
  ]

  -- ---- who has no entry on its way

  -- no entry is on its way out of a bucket that this caller has locked
  abbrev pub MovesNone : Ghost → ℕ → Type 0
  MovesNone G d = (j entry : ℕ) → (G.bucket j).out ≡ Some entry → (G.bucket j).holder ≢ Some d

  -- so it is of a caller that doesn't do the work
  pub moves_none : (M : Memory) (G : Ghost) → Whole M G → (d : ℕ) → G.worker ≢ Some d → MovesNone G d
  moves_none M G whole d idle j entry is holds =
      let out = whole.moving.out j entry is in
      let same : ◌≡◌ {A = Option ℕ} (Some out.worker) (Some d) = sym out.holder ∙ holds in
      idle (out.works ∙ same)

  -- nor of one of its buckets
  pub none_out : (G : Ghost) (d j : ℕ) → MovesNone G d → (G.bucket j).holder ≡ Some d → (G.bucket j).out ≡ None
  none_out G d j none holds = go (G.bucket j).out refl
    where
      go : (out : Option ℕ) → (G.bucket j).out ≡ out → out ≡ None
      go None is = refl
      go (Some entry) is = absurd (none j entry is holds)

  -- an entry that is out of its bucket goes into none of the buckets that such a caller has locked
  pub next_apart : (M : Memory) (G : Ghost) → Whole M G → (d n j : ℕ) → MovesNone G d → (at : IsLeavingAt M G n j)
      → (G.bucket at.next.bucket).holder ≢ Some d
  next_apart M G whole d n j none at holds =
      let out = whole.moving.out j n at.out in
      let next = at.next in
      let one : ◌≡◌ {A = Option ℕ} (Some next.worker) (Some d) = sym next.holder ∙ holds in
      let two : ◌≡◌ {A = Option ℕ} (Some next.worker) (Some out.worker) = sym next.works ∙ out.works in
      none j n at.out (out.holder ∙ sym two ∙ one)

  -- an entry that is on its way is a node with a seat
  pub out-seated : (M : Memory) (G : Ghost) (j entry : ℕ) → OutRight M G j entry
      → (i : ℕ) × (seat_of (G.node entry) ≡ Some i)
  out-seated M G j entry out = elim out.owner [
    | inl leaving ↦ (j, ap seat_of leaving)
    | inr further ↦ (further.bucket, ap seat_of further.first)
  ]
