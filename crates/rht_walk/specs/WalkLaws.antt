-- What a walk does, whatever words it finds.
use Rattle.std.specs.Prelude.{◌≡◌, ◌≢◌, ℕ, ◌+◌, ◌*◌, ◌<◌, ◌≤◌, ◌⊎◌, Option, None, Some, List, [], ◌∷◌, ◌++◌, length, map, take, slice_index}
use Rattle.std.specs.List.{AllByRecursion, flat_map}
use Rattle.rht_words.specs.declared.op.Op.{Op}
use Rattle.rht_words.specs.declared.op.Op.TheVariants.{Load}
use Rattle.rht_words.specs.declared.env.Env.{Env}
use Rattle.rht_words.specs.declared.geometry.Geometry.{Geometry}
use Rattle.rht_words.specs.declared.machine.Next.{Next}
use Rattle.rht_words.specs.declared.machine.Next.TheVariants.{Go, Done}
use Rattle.rht_words.specs.Links.{table_of, slot_of, node_of, head_of, marker_of}
use Rattle.rht_words.specs.Machines.{Performed, Ran, ran}
use Rattle.rht_words.specs.Places.{Address, CurrentTable, Slot, ShapeWord, FutureWord, SerialWord, Node, KeyWord, ChainLink, OwnerWord, place_of}
use Rattle.rht_words.specs.Planned.{IsPlannedIn}
use Rattle.rht_words.specs.Ports.{port_of, owner_of}
use Rattle.rht_words.specs.Shapes.{unpacked, size_of}
use Rattle.rht_grace.specs.Sections.{turning}
use Rattle.rht_nest.specs.PlaceLaws.{finding_ran}
use Rattle.rht_nest.specs.declared.place.Bucket.{Bucket}
use Rattle.rht_nest.specs.declared.place.Bucket.TheVariants as buckets
use Rattle.rht_model.specs.declared.history.Cursor.{Cursor}
use Rattle.rht_model.specs.declared.history.Reply.{Reply}
use Rattle.rht_model.specs.declared.history.Reply.TheVariants.{Walked, Again}
use Rattle.rht_walk.specs.Walk.{Pairs, WalkModel, walk_new, walk_plan, walk_after, plan_at}
use Rattle.rht_walk.specs.declared.walk.WalkAt.{WalkAt}

-- what a walk answers, and the room behind its last operation
pub record Shown : Type 0 where
  pub reply : Reply
  pub room : Pairs

abbrev pub with_room : WalkModel × Next Reply → WalkModel × Next Shown
with_room (m, Go) = (m, Go)
with_room (m, Done reply) = (m, Done (record { reply = reply; room = m.room }))

-- the walk of this caller, whose operations find these words
abbrev pub walk_ran : Env → ℕ → Option Cursor → ℕ → Pairs → List ℕ → Ran Shown
walk_ran env caller from limit room olds =
    ran walk_plan (λ m word. with_room (walk_after m word)) (walk_new env caller from limit room) olds

-- ---- where it works, and how long it takes

-- the operation loads a word, or turns the section word of this caller
abbrev pub IsWalkOp : ℕ → Op → Type 0
IsWalkOp caller op = ((place : ℕ) × (op ≡ Load place)) ⊎ (op ≡ turning caller)

-- so it is in each state whatsoever
abbrev pub LoadsOnly : Type 0
LoadsOnly = (g : Geometry) (caller : ℕ) (state : WalkAt) → IsWalkOp caller (plan_at g caller state)

-- each operation is on one of the table's words
abbrev pub WalksWithin : Type 0
WalksWithin =
    (env : Env) (caller : ℕ) (from : Option Cursor) (limit : ℕ) (room : Pairs) (olds : List ℕ) → caller < 16
    → AllByRecursion (λ step. IsPlannedIn env.geometry step.op) (walk_ran env caller from limit room olds).steps

-- a bucket takes at most so many operations: two entries on the way, its word, of each node the key, the owner and the link, and the
-- table's future behind a strange end
abbrev pub bucket_bound : Geometry → ℕ
bucket_bound g = 4 + 3 * g.nodes

-- and so many a call in a table of so many buckets: four before the first one, and two behind the last
abbrev pub walk_bound : Geometry → ℕ → ℕ
walk_bound g buckets = 6 + buckets * bucket_bound g

-- A walk makes no more, where the table's size is that of the shape that its fourth operation found; and so it has ended where it was
-- told so many words.
pub record EndsWithinBound (env : Env) (caller : ℕ) (from : Option Cursor) (limit : ℕ) (room : Pairs)
    (olds : List ℕ) : Type 0 where
  pub few :
      length (walk_ran env caller from limit room olds).steps
      ≤ walk_bound env.geometry (size_of (unpacked (slice_index olds 3)))
  pub ends :
      walk_bound env.geometry (size_of (unpacked (slice_index olds 3))) ≤ length olds
      → (walk_ran env caller from limit room olds).next ≢ Go

abbrev pub WalksSoon : Type 0
WalksSoon =
    (env : Env) (caller : ℕ) (from : Option Cursor) (limit : ℕ) (room : Pairs) (olds : List ℕ)
    → EndsWithinBound env caller from limit room olds

-- ---- what it shows

-- a load of the word at an address, which found this
abbrev pub loaded : Geometry → Address → ℕ → Performed
loaded g address word = record { op = Load (place_of g address); old = word }

-- a node that it visited, and the words that it found there: the key, the owner, and the link behind it
pub record NodeSeen : Type 0 where
  pub node : ℕ
  pub key : ℕ
  pub owner : ℕ
  pub link : ℕ

-- the three loads, one directly behind the other, and the pair that they show
abbrev pub node_steps : Geometry → NodeSeen → List Performed
node_steps g seen =
    loaded g (Node seen.node KeyWord) seen.key
    ∷ loaded g (Node seen.node OwnerWord) seen.owner
    ∷ loaded g (Node seen.node ChainLink) seen.link
    ∷ []

abbrev pub pair_of : NodeSeen → ℕ × ℕ
pair_of seen = (port_of seen.key, owner_of seen.owner)

-- the first link leads to the first of these nodes, and the link that was found behind each to the next one; the last link is this
abbrev pub LeadsOver : Geometry → ℕ → List NodeSeen → ℕ → Type 0
LeadsOver g link [] last = last ≡ link
LeadsOver g link (seen ∷ nodes) last = (node_of g.nodes link ≡ Some seen.node) × LeadsOver g seen.link nodes last

-- what it found at a bucket, behind these entries of a nested table
pub data BucketSeen : Type 0 where
  -- that a page is missing
  MissingPage : List ℕ → BucketSeen
  -- the bucket's place, its word, and a chain over these nodes that ends at the bucket's own marker
  OwnChain : List ℕ → ℕ → ℕ → List NodeSeen → BucketSeen
  -- the same with another last link, and then this future of the table
  StrangeChain : List ℕ → ℕ → ℕ → List NodeSeen → ℕ → ℕ → BucketSeen

abbrev pub nodes_of : BucketSeen → List NodeSeen
nodes_of (MissingPage entries) = []
nodes_of (OwnChain entries place word nodes) = nodes
nodes_of (StrangeChain entries place word nodes last future) = nodes

-- the pairs of a bucket, and those of these buckets, in order
abbrev pub pairs_at : BucketSeen → List (ℕ × ℕ)
pairs_at seen = map pair_of (nodes_of seen)

abbrev pub pairs_of : List BucketSeen → List (ℕ × ℕ)
pairs_of seen = flat_map pairs_at seen

-- behind each of these buckets but the last one fewer pairs than the limit were kept, in a room for so many, with these shown before
abbrev pub AreTooFew : ℕ → ℕ → List (ℕ × ℕ) → List BucketSeen → Type 0
AreTooFew limit most pairs [] = Unit {0}
AreTooFew limit most pairs (seen ∷ []) = Unit {0}
AreTooFew limit most pairs (seen ∷ next ∷ more) =
    (length (take most (pairs ++ pairs_at seen)) < limit)
    × AreTooFew limit most (pairs ++ pairs_at seen) (next ∷ more)

-- the loads of a chain: the bucket's word, and the nodes
abbrev pub chain_steps : Geometry → ℕ → ℕ → List NodeSeen → List Performed
chain_steps g place word nodes = record { op = Load place; old = word } ∷ flat_map (node_steps g) nodes

-- the way to a bucket of a table with this shape ends here
abbrev pub FindsBucket : Geometry → ℕ → ℕ → List ℕ → Bucket → Type 0
FindsBucket g shape bucket entries found = (finding_ran g shape bucket entries).next ≡ Done found

-- a chain ends strangely: not at the bucket's own marker, and at no node, or where as many were visited as there are, and no more
pub record IsStrange (g : Geometry) (place : ℕ) (nodes : List NodeSeen) (last : ℕ) : Type 0 where
  pub foreign : last ≢ marker_of place
  pub stops : (node_of g.nodes last ≡ None) ⊎ (length nodes ≡ g.nodes)
  pub few : length nodes ≤ g.nodes

-- of a table in this slot with this shape
module _ (g : Geometry) (table shape : ℕ) where
  -- the operations at a bucket
  abbrev pub bucket_steps : ℕ → BucketSeen → List Performed
  bucket_steps bucket (MissingPage entries) = (finding_ran g shape bucket entries).steps
  bucket_steps bucket (OwnChain entries place word nodes) =
      (finding_ran g shape bucket entries).steps ++ chain_steps g place word nodes
  bucket_steps bucket (StrangeChain entries place word nodes last future) =
      (finding_ran g shape bucket entries).steps
      ++ (chain_steps g place word nodes ++ loaded g (Slot table FutureWord) future ∷ [])

  -- at a bucket it finds what is there by the words that it found
  abbrev pub IsBucketSeen : ℕ → BucketSeen → Type 0
  IsBucketSeen bucket (MissingPage entries) =
      (entry : ℕ) × FindsBucket g shape bucket entries (buckets.Absent entry)
  IsBucketSeen bucket (OwnChain entries place word nodes) =
      FindsBucket g shape bucket entries (buckets.At place)
      × LeadsOver g (head_of place word) nodes (marker_of place)
      × (length nodes ≤ g.nodes)
  IsBucketSeen bucket (StrangeChain entries place word nodes last future) =
      FindsBucket g shape bucket entries (buckets.At place)
      × LeadsOver g (head_of place word) nodes last
      × IsStrange g place nodes last

  -- and no table behind the one that is walked
  abbrev pub FindsNone : BucketSeen → Type 0
  FindsNone (MissingPage entries) = Unit {0}
  FindsNone (OwnChain entries place word nodes) = Unit {0}
  FindsNone (StrangeChain entries place word nodes last future) = slot_of future ≡ None

  -- the buckets from this one on up to that, each directly behind the one before
  abbrev pub AreSeen : ℕ → List BucketSeen → ℕ → Type 0
  AreSeen bucket [] upto = upto ≡ bucket
  AreSeen bucket (seen ∷ more) upto =
      IsBucketSeen bucket seen × FindsNone seen × AreSeen (bucket + 1) more upto

  abbrev pub steps_of : ℕ → List BucketSeen → List Performed
  steps_of bucket [] = []
  steps_of bucket (seen ∷ more) = bucket_steps bucket seen ++ steps_of (bucket + 1) more

-- the bucket at which a call begins
abbrev pub first_bucket : Option Cursor → ℕ
first_bucket None = 0
first_bucket (Some cursor) = cursor.bucket

-- a cursor fits a table with this serial and this shape
abbrev pub Fits : ℕ → ℕ → Option Cursor → Type 0
Fits serial shape None = Unit {0}
Fits serial shape (Some cursor) = (cursor.serial ≡ serial) × (cursor.bucket < size_of (unpacked shape))

-- the operations before the first bucket: the opening of the section, and the loads of which table is current, of its serial and of its
-- shape
abbrev pub opening_steps : Geometry → ℕ → ℕ → ℕ → ℕ → ℕ → List Performed
opening_steps g caller entered current serial shape =
    record { op = turning caller; old = entered }
    ∷ loaded g CurrentTable current
    ∷ loaded g (Slot (table_of current) SerialWord) serial
    ∷ loaded g (Slot (table_of current) ShapeWord) shape
    ∷ []

-- The buckets that were walked, from the cursor's one on, which fits, or from the first. The call goes on behind each but the last since
-- there weren't enough pairs.
pub record SawBuckets (g : Geometry) (from : Option Cursor) (limit most table serial shape : ℕ)
    (seen : List BucketSeen) (upto : ℕ) : Type 0 where
  pub fits : Fits serial shape from
  pub are : AreSeen g table shape (first_bucket from) seen upto
  pub goes_on : AreTooFew limit most [] seen

-- it stops before a later bucket that the table has, since enough pairs are kept, and the cursor is of this table and that bucket
pub record StopsBefore (g : Geometry) (from : Option Cursor) (limit table serial shape : ℕ) (seen : List BucketSeen)
    (upto len : ℕ) (next : Option Cursor) (steps : List Performed) : Type 0 where
  pub cursor_is : next ≡ Some (record { serial = serial; bucket = upto })
  pub later : first_bucket from < upto
  pub there : upto < size_of (unpacked shape)
  pub enough : limit ≤ len
  pub steps_are : steps ≡ steps_of g table shape (first_bucket from) seen

-- it has walked all buckets, and behind the last one found this future of the table
pub record ComesToEnd (g : Geometry) (from : Option Cursor) (table shape : ℕ) (seen : List BucketSeen)
    (upto future : ℕ) (steps : List Performed) : Type 0 where
  pub all : upto ≡ size_of (unpacked shape)
  pub steps_are :
      steps ≡ steps_of g table shape (first_bucket from) seen ++ loaded g (Slot table FutureWord) future ∷ []

-- and there is no cursor, since no table is behind
pub record EndsThere (g : Geometry) (from : Option Cursor) (table shape : ℕ) (seen : List BucketSeen) (upto : ℕ)
    (next : Option Cursor) (steps : List Performed) : Type 0 where
  pub no_cursor : next ≡ None
  pub future : ℕ
  pub none_behind : slot_of future ≡ None
  pub comes : ComesToEnd g from table shape seen upto future steps

-- at the bucket behind these its chain has a strange end, and then it found this future of the table
pub record MeetsStrangeEnd (g : Geometry) (from : Option Cursor) (limit most table shape : ℕ)
    (seen : List BucketSeen) (upto future : ℕ) (steps : List Performed) : Type 0 where
  pub there : upto < size_of (unpacked shape)
  pub entries : List ℕ
  pub place : ℕ
  pub word : ℕ
  pub nodes : List NodeSeen
  pub last : ℕ
  pub is_seen : IsBucketSeen g table shape upto (StrangeChain entries place word nodes last future)
  pub goes_on : AreTooFew limit most [] (seen ++ StrangeChain entries place word nodes last future ∷ [])
  pub steps_are :
      steps
      ≡ steps_of g table shape (first_bucket from) seen
      ++ bucket_steps g table shape upto (StrangeChain entries place word nodes last future)

-- `Walked`: the pairs are all that the nodes of these buckets show, as many as there is room for, and it stops there or has come to the
-- table's end
pub record WalkedTo (g : Geometry) (from : Option Cursor) (limit most table serial shape len : ℕ)
    (next : Option Cursor) (pairs : List (ℕ × ℕ)) (steps : List Performed) : Type 0 where
  pub seen : List BucketSeen
  pub upto : ℕ
  pub saw : SawBuckets g from limit most table serial shape seen upto
  pub kept : pairs ≡ take most (pairs_of seen)
  pub counted : len ≡ length pairs
  pub ended :
      StopsBefore g from limit table serial shape seen upto len next steps
      ⊎ EndsThere g from table shape seen upto next steps

-- `Again`, of a table behind: the last load is of the walked table's future, behind all buckets or behind a strange end, and leads there
pub record MetTable (g : Geometry) (from : Option Cursor) (limit most table serial shape slot : ℕ)
    (steps : List Performed) : Type 0 where
  pub seen : List BucketSeen
  pub upto : ℕ
  pub saw : SawBuckets g from limit most table serial shape seen upto
  pub future : ℕ
  pub leads : slot_of future ≡ Some slot
  pub ended :
      ComesToEnd g from table shape seen upto future steps
      ⊎ MeetsStrangeEnd g from limit most table shape seen upto future steps

-- `Again`, of the current table itself: the cursor doesn't fit it, and no bucket was looked at
pub record MisfitsTable (from : Option Cursor) (table serial shape slot : ℕ) (steps : List Performed) : Type 0 where
  pub own : slot ≡ table
  pub misfits : Fits serial shape from → ⊥
  pub none : steps ≡ []

-- it answers nothing else
abbrev pub AnswersRightly : Geometry → Option Cursor → ℕ → ℕ → ℕ → ℕ → ℕ → Reply → List (ℕ × ℕ) → List Performed → Type 0
AnswersRightly g from limit most table serial shape (Walked len next) pairs steps =
    WalkedTo g from limit most table serial shape len next pairs steps
AnswersRightly g from limit most table serial shape (Again slot) pairs steps =
    (pairs ≡ []) × (MetTable g from limit most table serial shape slot steps ⊎ MisfitsTable from table serial shape slot steps)
AnswersRightly g from limit most table serial shape _ pairs steps = ⊥

-- All that a call performs: it opens its section, loads which table is current and what that is, looks at buckets, and closes its section.
pub record EndsRightly (g : Geometry) (caller : ℕ) (from : Option Cursor) (limit most : ℕ) (end : Shown)
    (steps : List Performed) : Type 0 where
  pub entered : ℕ
  pub current : ℕ
  pub serial : ℕ
  pub shape : ℕ
  pub left : ℕ
  pub middle : List Performed
  pub split :
      steps
      ≡ opening_steps g caller entered current serial shape
      ++ (middle ++ record { op = turning caller; old = left } ∷ [])
  pub answers :
      AnswersRightly g from limit most (table_of current) serial shape end.reply end.room.items middle
  pub room : end.room.limit ≡ most

-- whatever words its operations find, a walk that has ended has done what it answers
abbrev pub WalksRightly : Type 0
WalksRightly =
    (env : Env) (caller : ℕ) (from : Option Cursor) (limit : ℕ) (room : Pairs) (olds : List ℕ) (end : Shown)
    → (walk_ran env caller from limit room olds).next ≡ Done end
    → EndsRightly env.geometry caller from limit room.limit end (walk_ran env caller from limit room olds).steps
