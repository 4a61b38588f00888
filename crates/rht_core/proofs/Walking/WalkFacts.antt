-- What a walk knows in each of its states, by the words and the ghost of one moment: which ports were bound nowhere meanwhile, which are
-- shown, and which it may come to still. All of it but that nodes were first ones late, and the key of one, is said where no table is behind
-- the walked one.
use Rattle.std.proofs.Common.{◌≡◌, ◌⊎◌, ℕ, ◌+◌, ◌<◌, ◌≤◌, Bool, true, List, [], map, Option, Some, None, ◌/◌}
use Rattle.rht_words.specs.declared.env.Env.{Env}
use Rattle.rht_words.specs.Members.{In, IsDistinct}
use Rattle.rht_words.proofs.Memory.{Memory}
use Rattle.rht_model.specs.declared.history.Cursor.{Cursor}
use Rattle.rht_walk.specs.WalkLaws.{first_bucket, Fits}
use Rattle.rht_walk.specs.declared.walk.Visit.{Visit}
use Rattle.rht_walk.specs.declared.walk.Chain.{Chain}
use Rattle.rht_walk.specs.declared.walk.WalkEnd.{WalkEnd}
use Rattle.rht_walk.specs.declared.walk.WalkEnd.TheVariants as ends
use Rattle.rht_walk.specs.declared.walk.WalkAt.{WalkAt}
use Rattle.rht_walk.specs.declared.walk.WalkAt.TheVariants as at
use Rattle.rht_ghost.proofs.Theory.Ghosts.{Ghost, index_at, PageOf}
use Rattle.rht_ghost.proofs.Theory.Wholes.{key_of, hash_in, word_index}
use Rattle.rht_core.proofs.Finding.Places.{Places}
use Rattle.rht_core.proofs.Finding.Deaths.{IsLate}
use Rattle.rht_core.proofs.Finding.Stages.{Stage, Reaching, AtKey, AtLink, StageMeans}
use Rattle.rht_core.proofs.Walking.SlotsOfTables.{IsAttached}

-- the ports of pairs
abbrev pub ports_of : List (ℕ × ℕ) → List ℕ
ports_of items = map (λ (pair : ℕ × ℕ). pair.0) items

-- the port was bound nowhere meanwhile, or is shown
abbrev pub SaidOf : (ℕ → Type 0) → List (ℕ × ℕ) → ℕ → Type 0
SaidOf Missed items port = Missed port ⊎ In port (ports_of items)

module _ (env : Env) (mix : ℕ → ℕ → ℕ → ℕ) where
  -- where the table of this number is the last one: each port of its buckets from the first one on was bound nowhere meanwhile or is
  -- shown; the ports that are shown are of these buckets; and each is shown once
  pub record EndKnown (G : Ghost) (τ first upto : ℕ) (Missed : ℕ → Type 0) (items : List (ℕ × ℕ)) : Type 0 where
    pub shown : (port : ℕ) → first ≤ hash_in env mix G port τ → hash_in env mix G port τ < upto → SaidOf Missed items port
    pub within : (port : ℕ) → In port (ports_of items) → (first ≤ hash_in env mix G port τ) × (hash_in env mix G port τ < upto)
    pub distinct : IsDistinct (ports_of items)

  -- It has a cursor of the table's serial to the bucket up to which it came; what it shows is known where no table was behind, of so many
  -- that were attached. Or it has come to the end, behind which no table was.
  abbrev pub EndsAt : Ghost → ℕ → (ℕ → Type 0) → Type 0 → ℕ → ℕ → ℕ → Option Cursor → Type 0
  EndsAt G all WasLast Known τ serial upto None = WasLast τ × ((port : ℕ) → hash_in env mix G port τ < upto) × Known
  EndsAt G all WasLast Known τ serial upto (Some cursor) = (cursor.serial ≡ serial) × (cursor.bucket ≡ upto) × (τ + 1 ≡ all → Known)

  -- the table that was walked, where the walk doesn't have to begin anew
  pub record HasWalkedTo (G : Ghost) (all : ℕ) (from : Option Cursor) (Missed WasLast : ℕ → Type 0)
      (items : List (ℕ × ℕ)) (next : Option Cursor) : Type 0 where
    pub table : ℕ
    pub serial : ℕ
    pub shape : ℕ
    pub upto : ℕ
    pub low : first_bucket from ≤ upto
    pub attached : table < all
    pub serial_is : (G.table table).serial ≡ serial
    pub fits : Fits serial shape from
    pub ends : EndsAt G all WasLast (EndKnown G table (first_bucket from) upto Missed items) table serial upto next

  module _ (from : Option Cursor) (begin now : ℕ) (Missed WasLast : ℕ → Type 0) (seen : ℕ → Bool)
      (items : List (ℕ × ℕ)) (M : Memory) (G : Ghost) (P : Places) where
    abbrev pub first : ℕ
    first = first_bucket from

    abbrev pub Said : ℕ → Type 0
    Said port = SaidOf Missed items port

    -- the number of a port's bucket in the table of a slot
    abbrev pub number : ℕ → ℕ → ℕ
    number slot port = hash_in env mix G port (index_at G slot)

    -- no table is behind that of the slot
    abbrev pub IsLast : ℕ → Type 0
    IsLast slot = index_at G slot + 1 ≡ G.attached

    abbrev pub StageIs : ℕ → ℕ → Stage → Type 0
    StageIs port since stage = StageMeans env mix port seen since (Said port) M G P stage

    -- ---- the room

    -- a node that was shown: the section has met it, it was a first one meanwhile, and its port's bucket isn't before the first one
    pub record IsShown (slot n : ℕ) : Type 0 where
      pub met : seen n ≡ true
      pub late : IsLate env G P 0 n
      pub from_first : first ≤ number slot (key_of M n)

    -- the pairs are those of such nodes, of which this is so too; and no port is shown twice
    pub record RoomKnown (slot : ℕ) (Where : ℕ → Type 0) : Type 0 where
      pub nodes : List ℕ
      pub keys : ports_of items ≡ map (key_of M) nodes
      pub each : (n : ℕ) → In n nodes → IsShown slot n × Where n
      pub distinct : IsDistinct (ports_of items)

    -- the node's port is of an earlier bucket than this one
    abbrev pub IsBefore : ℕ → ℕ → ℕ → Type 0
    IsBefore slot b n = number slot (key_of M n) < b

    -- or of this one, where the node has no lower place than that, which arose before this event
    pub record IsAbove (slot b j least since n : ℕ) : Type 0 where
      pub here : number slot (key_of M n) ≡ b
      pub at : ℕ
      pub is : P.place j n ≡ Some at
      pub high : least ≤ at
      pub early : at < since

    abbrev pub IsPassed : ℕ → ℕ → ℕ → ℕ → ℕ → ℕ → Type 0
    IsPassed slot b j least since n = IsBefore slot b n ⊎ IsAbove slot b j least since n

    -- ---- the buckets

    -- at this bucket: each port of one before it was bound nowhere meanwhile or is shown, and each port of one behind may be come to
    pub record BucketsKnown (slot b : ℕ) (Here Where : ℕ → Type 0) : Type 0 where
      pub behind : (port : ℕ) → first ≤ number slot port → number slot port < b → Said port
      pub here : (port : ℕ) → first ≤ number slot port → number slot port ≡ b → Here port
      pub ahead : (port : ℕ) → b < number slot port → StageIs port 0 (Reaching slot)
      pub room : RoomKnown slot Where

    -- the table that is walked
    pub record OfTable (visit : Visit) : Type 0 where
      pub serial_is : (G.table (index_at G visit.table)).serial ≡ visit.serial
      pub fits : Fits visit.serial visit.shape from

    -- at a table no bucket of which was looked at
    pub record IsNew (slot : ℕ) : Type 0 where
      pub none : items ≡ []
      pub ahead : (port : ℕ) → StageIs port 0 (Reaching slot)

    -- before a bucket, and behind one
    pub record IsAt (visit : Visit) : Type 0 where
      pub of : OfTable visit
      pub low : first ≤ visit.bucket
      pub known : IsLast visit.table
          → BucketsKnown visit.table visit.bucket (λ port. StageIs port 0 (Reaching visit.table)) (IsBefore visit.table visit.bucket)

    pub record IsBehind (visit : Visit) : Type 0 where
      pub of : OfTable visit
      pub low : first ≤ visit.bucket
      pub known : IsLast visit.table → BucketsKnown visit.table visit.bucket Said (IsBefore visit.table (visit.bucket + 1))

    -- ---- a node

    -- where the node stands in the bucket
    pub record ChainKnown (visit : Visit) (j m since : ℕ) (Here : ℕ → Type 0) (least : ℕ → ℕ) : Type 0 where
      pub at : ℕ
      pub is : P.place j m ≡ Some at
      pub early : at < since
      pub buckets : BucketsKnown visit.table visit.bucket Here (IsPassed visit.table visit.bucket j (least at) since)

    -- at a node of the bucket's chain, which was a first one since this event, at which the bucket's word was loaded, or later
    pub record IsInChain (chain : Chain) (m : ℕ) (Here : ℕ → ℕ → Type 0) (least : ℕ → ℕ) : Type 0 where
      pub of : OfTable chain.visit
      pub low : first ≤ chain.visit.bucket
      pub place_is : (G.table (index_at G chain.visit.table)).place chain.visit.bucket ≡ Some (word_index env mix chain.place)
      pub page_is : G.page (word_index env mix chain.place / 64) ≡ PageOf (index_at G chain.visit.table)
      pub since : ℕ
      pub began : begin + 1 ≤ since
      pub so_far : since ≤ now
      pub late : IsLate env G P since m
      pub known : IsLast chain.visit.table → ChainKnown chain.visit (word_index env mix chain.place) m since (Here since) least

    -- before the node's key is loaded, and before its link is
    abbrev pub HereAtKey : Chain → ℕ → ℕ → ℕ → Type 0
    HereAtKey chain m since port = StageIs port since (AtKey chain.visit.table (word_index env mix chain.place) m chain.visited)

    abbrev pub HereAtLink : Chain → ℕ → ℕ → ℕ → Type 0
    HereAtLink chain m since port = StageIs port since (AtLink chain.visit.table (word_index env mix chain.place) m (chain.visited + 1))

    -- before its owner is loaded: the key that was loaded is the node's, and wasn't shown where no table is behind
    pub record IsAtOwner (chain : Chain) (m key : ℕ) : Type 0 where
      pub in_chain : IsInChain chain m (λ since port. (port ≡ key) ⊎ HereAtLink chain m since port) (λ at. at + 1)
      pub is : key_of M m ≡ key
      pub apart : IsLast chain.visit.table → In key (ports_of items) → ⊥

    -- behind the last bucket
    pub record IsAtEnd (slot : ℕ) : Type 0 where
      pub visit : Visit
      pub same : visit.table ≡ slot
      pub of : IsAttached G slot
      pub all : (port : ℕ) → number slot port < visit.bucket + 1
      pub behind : IsBehind visit

    abbrev pub EndMeans : WalkEnd → Type 0
    EndMeans (ends.Walked next) = HasWalkedTo G G.attached from Missed WasLast items next
    EndMeans (ends.Again table) = Unit {0}

    abbrev pub WalkMeans : WalkAt → Type 0
    WalkMeans at.Opening = items ≡ []
    WalkMeans at.CurrentTable = items ≡ []
    WalkMeans (at.Serial table) = IsNew table
    WalkMeans (at.Shape table serial) = ((G.table (index_at G table)).serial ≡ serial) × IsNew table
    WalkMeans (at.Entry visit way) = IsAt visit
    WalkMeans (at.Heading visit place) = IsAt visit
    WalkMeans (at.Key chain node) = IsInChain chain node (HereAtKey chain node) (λ at. at + 1)
    WalkMeans (at.Owner chain node port) = IsAtOwner chain node port
    WalkMeans (at.Link chain node) = IsInChain chain node (HereAtLink chain node) (λ at. at)
    WalkMeans (at.StrangeEnd visit) = IsBehind visit
    WalkMeans (at.TableEnd table) = IsAtEnd table
    WalkMeans (at.Closing end) = EndMeans end
