-- What a store that changes what a port is bound to makes of the ghost, and what must be known where one binds a port first.
use Rattle.std.proofs.Common.{◌≡◌, ◌≢◌, ◌⊎◌, ℕ, ◌+◌, ◌<◌, ◌≤◌, List, [], ◌∷◌, ◌++◌, Some, None, Bool, true, false, ◌*◌, ◌/◌, ◌%◌}
use Rattle.rht_words.specs.declared.env.Env.{Env}
use Rattle.rht_words.specs.Links.{link_of, head_of}
use Rattle.rht_words.specs.Places.{Slot, SeedWord, SerialWord, Node, ListLink}
use Rattle.rht_words.specs.Members.{In}
use Rattle.rht_words.proofs.Memory.{Memory}
use Rattle.rht_words.specs.Ports.{IsPort}
use Rattle.rht_ghost.proofs.Theory.Ghosts.{put, Bucket, Owner, First, Behind, seat_of, is_used, PageOwner, Ghost, table_at, has_bit, PageHeld, PageOf, IsSince, is_entry, lock_bit}
use Rattle.rht_ghost.proofs.Theory.Wholes.{chain_of, key_of, place_at, MovesNone}
use Rattle.rht_ghost.proofs.Theory.Knowledge.{HasNode, ArmedFor, IsMade}
use Rattle.rht_ghost.proofs.Theory.Ways.{entered_table, IsInUse}

-- the bucket with a new first node, unlocked, in which nobody is armed any more
abbrev pub linked_bucket : Bucket → ℕ → Bucket
linked_bucket b n = record b { nodes = n ∷ b.nodes; plain = link_of n; holder = None; armed = None }

-- the node in its bucket's chain, and the port bound to it
abbrev pub linked : Ghost → ℕ → ℕ → ℕ → ℕ → Ghost
linked G d j n port = record G {
  bucket = put G.bucket j (linked_bucket (G.bucket j) n);
  node = put G.node n (First j);
  bound = put G.bound port (n ∷ []);
  raised = put G.raised d false;
}

-- A change of what a port is bound to, by one store in a bucket: the nodes to which the port is bound from then on, the bucket as
-- it is then, the owners that two nodes get, and whether the caller has raised the count, or has still to lower it.
pub record Change : Type 0 where
  pub port : ℕ
  pub nodes : List ℕ
  pub place : ℕ
  pub bucket : Bucket
  pub one : ℕ
  pub one_owner : Owner
  pub other : ℕ
  pub other_owner : Owner
  pub raised : Bool

abbrev pub changed : Ghost → ℕ → Change → Ghost
changed G d change = record G {
  bucket = put G.bucket change.place change.bucket;
  node = put (put G.node change.one change.one_owner) change.other change.other_owner;
  bound = put G.bound change.port change.nodes;
  raised = put G.raised d change.raised;
}

-- the page behind this entry of a table, which has it from then on
abbrev pub entered : Ghost → ℕ → ℕ → Ghost
entered G j p = record G {
  table = put G.table (table_at G j) (entered_table (G.table (table_at G j)) j p);
  page = put G.page p (PageOf (table_at G j));
}

module _ (env : Env) (mix : ℕ → ℕ → ℕ → ℕ) where
  -- What is known when a node is linked into a bucket: the caller has the node and the lock, is armed there for the port, which is one,
  -- and has no entry on its way.
  pub record IsReady (d n port j : ℕ) (M : Memory) (G : Ghost) : Type 0 where
    pub low : d < env.geometry.callers
    pub small : IsPort port
    pub table : ℕ
    pub armed : ArmedFor env mix G d port table j
    pub moves_none : MovesNone env mix G d
    pub has : HasNode env mix d G n
    pub key : key_of M n ≡ port
    pub list : M (Node n ListLink) ≡ 0
    pub holder : (G.bucket j).holder ≡ Some d
    pub chain : chain_of M n ≡ head_of (place_at env mix j) (G.bucket j).plain
    pub raised : G.raised d ≡ true

  -- What is known when what a port is bound to changes. Its only node goes out of its bucket; or another node
  -- comes into the first one's place, which is nobody's or was behind that one, and those behind it were the
  -- port's; or a node behind the first one goes out of the list; or another node comes into the place of that one, which is nobody's.
  -- The bucket is locked.
  pub record IsUnlinking (change : Change) (G : Ghost) : Type 0 where
    pub first : ℕ
    pub front : List ℕ
    pub rear : List ℕ
    pub bound_to : G.bound change.port ≡ first ∷ []
    pub split : (G.bucket change.place).nodes ≡ front ++ first ∷ rear
    pub left : change.bucket.nodes ≡ front ++ rear
    pub none : change.nodes ≡ []
    pub locked : lock_bit (G.bucket change.place).holder ≡ 1
    pub one : change.one ≡ first
    pub other : change.other ≡ first
    pub gone : seat_of change.other_owner ≡ None

  pub record IsReplacing (change : Change) (M : Memory) (G : Ghost) : Type 0 where
    pub behind : List ℕ
    pub tail : List ℕ
    pub front : List ℕ
    pub rear : List ℕ
    pub bound_to : G.bound change.port ≡ change.one ∷ behind
    pub split : (G.bucket change.place).nodes ≡ front ++ change.one ∷ rear
    pub left : change.bucket.nodes ≡ front ++ change.other ∷ rear
    pub now : change.nodes ≡ change.other ∷ tail
    pub listed : (n : ℕ) → In n tail → In n (change.one ∷ behind)
    pub locked : lock_bit (G.bucket change.place).holder ≡ 1
    pub differs : change.other ≢ change.one
    pub owner : change.other_owner ≡ First change.place
    pub gone : seat_of change.one_owner ≡ None
    pub from : (is_used (G.node change.other) ≡ false) ⊎ In change.other behind
    pub among : change.other < env.geometry.nodes
    pub key_is : key_of M change.other ≡ change.port

  pub record IsShortening (change : Change) (G : Ghost) : Type 0 where
    pub first : ℕ
    pub behind : List ℕ
    pub rest : List ℕ
    pub bound_to : G.bound change.port ≡ first ∷ behind
    pub now : change.nodes ≡ first ∷ rest
    pub listed : (n : ℕ) → In n rest → In n behind
    pub locked : lock_bit (G.bucket change.place).holder ≡ 1
    pub same : change.bucket ≡ G.bucket change.place
    pub one : change.one ≡ change.other
    pub member : In change.other behind
    pub seatless : seat_of (G.node change.other) ≡ None
    pub used : is_used (G.node change.other) ≡ true
    pub gone : seat_of change.other_owner ≡ None

  pub record IsSwapping (change : Change) (M : Memory) (G : Ghost) : Type 0 where
    pub first : ℕ
    pub behind : List ℕ
    pub rest : List ℕ
    pub bound_to : G.bound change.port ≡ first ∷ behind
    pub now : change.nodes ≡ first ∷ rest
    pub listed : (n : ℕ) → In n rest → (n ≡ change.other) ⊎ In n behind
    pub locked : lock_bit (G.bucket change.place).holder ≡ 1
    pub same : change.bucket ≡ G.bucket change.place
    pub differs : change.other ≢ change.one
    pub member : In change.one behind
    pub seatless : seat_of (G.node change.one) ≡ None
    pub used : is_used (G.node change.one) ≡ true
    pub gone : seat_of change.one_owner ≡ None
    pub from : is_used (G.node change.other) ≡ false
    pub owner : change.other_owner ≡ Behind change.port
    pub among : change.other < env.geometry.nodes
    pub key_is : key_of M change.other ≡ change.port

  abbrev pub IsRebinding : Change → Memory → Ghost → Type 0
  IsRebinding change M G =
      IsUnlinking change G ⊎ IsReplacing change M G ⊎ IsShortening change G ⊎ IsSwapping change M G

  -- What is known when a bind is armed in a bucket: the caller has locked it, and its table is the last one.
  pub record IsArming (d j : ℕ) (G : Ghost) : Type 0 where
    pub holder : (G.bucket j).holder ≡ Some d
    pub current : G.current ≤ table_at G j
    pub last : table_at G j + 1 ≡ G.attached

  -- the pages of these bits of a word of the map are there, and all have this owner
  pub record ArePagesOf (G : Ghost) (index bits : ℕ) (owner : PageOwner) : Type 0 where
    pub among : (p : ℕ) → has_bit index bits p ≡ true → p < env.geometry.pages
    pub owned : (p : ℕ) → has_bit index bits p ≡ true → G.page p ≡ owner

  -- What is known when a table is attached: the caller has made it, with this seed and this serial.
  pub record IsAttaching (d slot shape seed serial : ℕ) (M : Memory) (G : Ghost) : Type 0 where
    pub made : IsMade env mix d M G slot shape
    pub seed_is : M (Slot slot SeedWord) ≡ seed
    pub serial_is : M (Slot slot SerialWord) ≡ serial

  -- What is known when a page is entered: the caller has it, and the word is an entry in use of a table, to which the caller's section comes.
  pub record IsEntering (d j p : ℕ) (G : Ghost) : Type 0 where
    pub within : j < 64 * env.geometry.pages
    pub entry : is_entry G j ≡ true
    pub used : IsInUse (G.table (table_at G j)).shape ((G.table (table_at G j)).part (j / 64)) (j % 64)
    pub since : IsSince (G.from d) (table_at G j)
    pub among : p < env.geometry.pages
    pub mine : G.page p ≡ PageHeld d
