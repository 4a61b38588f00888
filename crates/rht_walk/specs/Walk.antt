-- The walk over the buckets of a table, which takes no lock: what each state performs, and what comes after it.
use Rattle.std.specs.Prelude.{◌≡◌, ℕ, Bool, ◌+◌, ◌<◌, ◌==◌, ◌&&◌, nat_lt, nat_le, Option, None, Some, length, if◌then◌else◌}
use Rattle.rht_words.specs.declared.op.Op.{Op}
use Rattle.rht_words.specs.declared.op.Op.TheVariants.{Load}
use Rattle.rht_words.specs.declared.env.Env.{Env}
use Rattle.rht_words.specs.declared.geometry.Geometry.{Geometry}
use Rattle.rht_words.specs.declared.machine.Next.{Next}
use Rattle.rht_words.specs.declared.machine.Next.TheVariants.{Go, Done}
use Rattle.rht_words.specs.Links.{table_of, slot_of, node_of, head_of, marker_of}
use Rattle.rht_words.specs.Ports.{port_of, owner_of}
use Rattle.rht_words.specs.Places.{CurrentTable, Slot, ShapeWord, FutureWord, SerialWord, Node, KeyWord, ChainLink, OwnerWord, IsBucketPlace, place_of}
use Rattle.rht_words.specs.Shapes.{unpacked, size_of}
use Rattle.rht_grace.specs.Sections.{turning}
use Rattle.rht_nest.specs.Place.{PlaceModel, flat_place, nested_place, place_plan, place_after, IsPlaceIn}
use Rattle.rht_nest.specs.Tables.{is_nested}
use Rattle.rht_nest.specs.declared.place.Bucket.{Bucket}
use Rattle.rht_nest.specs.declared.place.Bucket.TheVariants as buckets
use Rattle.rht_model.specs.declared.history.Cursor.{Cursor}
use Rattle.rht_model.specs.declared.history.Reply.{Reply}
use Rattle.rht_model.specs.declared.history.Reply.TheVariants.{Walked, Again}
use Rattle.rht_model.specs.Rooms.{Kept, emptied, with_kept}
use Rattle.rht_walk.specs.declared.walk.Visit.{Visit}
use Rattle.rht_walk.specs.declared.walk.Chain.{Chain}
use Rattle.rht_walk.specs.declared.walk.WalkEnd.{WalkEnd}
use Rattle.rht_walk.specs.declared.walk.WalkEnd.TheVariants as ends
use Rattle.rht_walk.specs.declared.walk.WalkAt.{WalkAt}
use Rattle.rht_walk.specs.declared.walk.WalkAt.TheVariants as at

-- the pairs that are shown, each a port and its first owner, and for how many there is room
abbrev pub Pairs : Type 0
Pairs = Kept (ℕ × ℕ)

-- what contracts see of the machine: the cursor from which it goes on, where there is one; how many pairs are enough; and the
-- pairs that were shown so far
pub record WalkModel : Type 0 where
  pub env : Env
  pub caller : ℕ
  pub from : Option Cursor
  pub limit : ℕ
  pub room : Pairs
  pub at : WalkAt

-- it begins before its read section, with no pairs
abbrev pub walk_new : Env → ℕ → Option Cursor → ℕ → Pairs → WalkModel
walk_new env caller from limit room = record {
  env = env;
  caller = caller;
  from = from;
  limit = limit;
  room = emptied room;
  at = at.Opening;
}

-- the state's one operation
abbrev pub plan_at : Geometry → ℕ → WalkAt → Op
plan_at g caller at.Opening = turning caller
plan_at g caller at.CurrentTable = Load (place_of g CurrentTable)
plan_at g caller (at.Serial table) = Load (place_of g (Slot table SerialWord))
plan_at g caller (at.Shape table serial) = Load (place_of g (Slot table ShapeWord))
plan_at g caller (at.Entry visit way) = place_plan way
plan_at g caller (at.Heading visit place) = Load place
plan_at g caller (at.Key chain node) = Load (place_of g (Node node KeyWord))
plan_at g caller (at.Owner chain node port) = Load (place_of g (Node node OwnerWord))
plan_at g caller (at.Link chain node) = Load (place_of g (Node node ChainLink))
plan_at g caller (at.StrangeEnd visit) = Load (place_of g (Slot visit.table FutureWord))
plan_at g caller (at.TableEnd table) = Load (place_of g (Slot table FutureWord))
plan_at g caller (at.Closing end) = turning caller

abbrev pub walk_plan : WalkModel → Op
walk_plan m = plan_at m.env.geometry m.caller m.at

-- ---- the ways between states

-- at a bucket: its word is loaded, or in a nested table the first entry on the way there
abbrev pub visiting : Geometry → Visit → WalkAt
visiting g visit =
    if is_nested visit.shape then at.Entry visit (nested_place g visit.shape visit.bucket)
    else at.Heading visit (flat_place g visit.shape visit.bucket)

-- a table of this serial and this shape has the bucket of the cursor
abbrev pub fits : ℕ → ℕ → Cursor → Bool
fits serial shape cursor = (cursor.serial == serial) && nat_lt cursor.bucket (size_of (unpacked shape))

-- Once the shape is known it begins at the cursor's bucket, or at the first one. Where the cursor doesn't fit it has to begin anew.
abbrev pub begun : Geometry → Option Cursor → ℕ → ℕ → ℕ → WalkAt
begun g None table serial shape =
    visiting g (record { table = table; serial = serial; shape = shape; bucket = 0 })
begun g (Some cursor) table serial shape =
    if fits serial shape cursor then visiting g (record {
      table = table;
      serial = serial;
      shape = shape;
      bucket = cursor.bucket;
    })
    else at.Closing (ends.Again table)

-- behind the last bucket
abbrev pub table_ended : Visit → WalkAt
table_ended visit = at.TableEnd visit.table

-- at a later bucket: where enough pairs are shown this call ends there
abbrev pub next_bucket : Geometry → ℕ → ℕ → Visit → WalkAt
next_bucket g limit shown visit =
    if nat_le limit shown then at.Closing (ends.Walked (Some (record { serial = visit.serial; bucket = visit.bucket })))
    else visiting g visit

-- behind a bucket comes the next one, and behind the last one the end of the table
abbrev pub bucket_ended : Geometry → ℕ → ℕ → Visit → WalkAt
bucket_ended g limit shown visit =
    if nat_lt (visit.bucket + 1) (size_of (unpacked visit.shape)) then next_bucket g limit shown (record visit { bucket = visit.bucket + 1 })
    else table_ended visit

-- what comes after an entry on the way: the next one, or the bucket's word; where a page is missing the bucket is empty
abbrev pub reached : Geometry → ℕ → ℕ → Visit → PlaceModel → Next Bucket → WalkAt
reached g limit shown visit way Go = at.Entry visit way
reached g limit shown visit way (Done (buckets.At place)) = at.Heading visit place
reached g limit shown visit way (Done (buckets.Absent entry)) = bucket_ended g limit shown visit

-- a chain ends at the marker of its own bucket; any other end is strange
abbrev pub chain_ended : Geometry → ℕ → ℕ → Chain → ℕ → WalkAt
chain_ended g limit shown chain link =
    if link == marker_of chain.place then bucket_ended g limit shown chain.visit else at.StrangeEnd chain.visit

-- a link leads to a node, where fewer were visited than there are
abbrev pub led_to : Geometry → ℕ → ℕ → Chain → ℕ → Option ℕ → WalkAt
led_to g limit shown chain link None = chain_ended g limit shown chain link
led_to g limit shown chain link (Some node) =
    if nat_lt chain.visited g.nodes then at.Key chain node else chain_ended g limit shown chain link

abbrev pub led_on : Geometry → ℕ → ℕ → Chain → ℕ → WalkAt
led_on g limit shown chain link = led_to g limit shown chain link (node_of g.nodes link)

-- where a table is behind the one that is walked it has to begin anew
abbrev pub unless_behind : Option ℕ → WalkAt → WalkAt
unless_behind None next = next
unless_behind (Some table) next = at.Closing (ends.Again table)

-- the chain of a bucket before its first node, and behind one node more
abbrev pub chain_of : Visit → ℕ → Chain
chain_of visit place = record { visit = visit; place = place; visited = 0 }

abbrev pub one_more : Chain → Chain
one_more chain = record chain { visited = chain.visited + 1 }

-- ---- what comes after a state that found this word, with so many pairs shown before

abbrev pub goes : Geometry → Option Cursor → ℕ → ℕ → WalkAt → ℕ → WalkAt
goes g from limit shown at.Opening word = at.CurrentTable
goes g from limit shown at.CurrentTable word = at.Serial (table_of word)
goes g from limit shown (at.Serial table) word = at.Shape table word
goes g from limit shown (at.Shape table serial) word = begun g from table serial word
goes g from limit shown (at.Entry visit way) word =
    reached g limit shown visit (place_after way word).0 (place_after way word).1
goes g from limit shown (at.Heading visit place) word =
    led_on g limit shown (chain_of visit place) (head_of place word)
goes g from limit shown (at.Key chain node) word = at.Owner chain node (port_of word)
goes g from limit shown (at.Owner chain node port) word = at.Link chain node
goes g from limit shown (at.Link chain node) word = led_on g limit shown (one_more chain) word
goes g from limit shown (at.StrangeEnd visit) word =
    unless_behind (slot_of word) (bucket_ended g limit shown visit)
goes g from limit shown (at.TableEnd table) word =
    unless_behind (slot_of word) (at.Closing (ends.Walked None))
goes g from limit shown (at.Closing end) word = at.Closing end

-- a walk that has to begin anew shows no pairs
abbrev pub room_at_end : WalkEnd → Pairs → Pairs
room_at_end (ends.Walked next) room = room
room_at_end (ends.Again table) room = emptied room

-- the pairs that are kept after it: one whose owner was loaded comes last, where there is room
abbrev pub room_after : WalkAt → Pairs → ℕ → Pairs
room_after at.Opening room word = room
room_after at.CurrentTable room word = room
room_after (at.Serial table) room word = room
room_after (at.Shape table serial) room word = room
room_after (at.Entry visit way) room word = room
room_after (at.Heading visit place) room word = room
room_after (at.Key chain node) room word = room
room_after (at.Owner chain node port) room word = with_kept room (port, owner_of word)
room_after (at.Link chain node) room word = room
room_after (at.StrangeEnd visit) room word = room
room_after (at.TableEnd table) room word = room
room_after (at.Closing end) room word = room_at_end end room

-- its answer, which says how many pairs there are
abbrev pub reply_of : Pairs → WalkEnd → Reply
reply_of room (ends.Walked next) = Walked (length room.items) next
reply_of room (ends.Again table) = Again table

-- it answers once its read section is closed
abbrev pub says : Pairs → WalkAt → Next Reply
says room at.Opening = Go
says room at.CurrentTable = Go
says room (at.Serial table) = Go
says room (at.Shape table serial) = Go
says room (at.Entry visit way) = Go
says room (at.Heading visit place) = Go
says room (at.Key chain node) = Go
says room (at.Owner chain node port) = Go
says room (at.Link chain node) = Go
says room (at.StrangeEnd visit) = Go
says room (at.TableEnd table) = Go
says room (at.Closing end) = Done (reply_of room end)

abbrev pub walk_after : WalkModel → ℕ → WalkModel × Next Reply
walk_after m word = (
  record m {
    room = room_after m.at m.room word;
    at = goes m.env.geometry m.from m.limit (length m.room.items) m.at word;
  },
  says (room_after m.at m.room word) m.at,
)

-- ---- what a walk names

-- a bucket of a table
pub record IsVisitIn (visit : Visit) : Type 0 where
  pub table_in : visit.table < 8
  pub bucket_in : visit.bucket < size_of (unpacked visit.shape)

-- an entry on the way there, and the bucket's word
pub record IsEntryIn (g : Geometry) (visit : Visit) (way : PlaceModel) : Type 0 where
  pub visit_in : IsVisitIn visit
  pub way_in : IsPlaceIn g way

pub record IsHeadingIn (g : Geometry) (visit : Visit) (place : ℕ) : Type 0 where
  pub visit_in : IsVisitIn visit
  pub place_in : IsBucketPlace g place

-- a node of the bucket's chain, before which fewer were visited than there are
pub record IsNodeIn (g : Geometry) (chain : Chain) (node : ℕ) : Type 0 where
  pub visit_in : IsVisitIn chain.visit
  pub place_in : IsBucketPlace g chain.place
  pub node_in : node < g.nodes
  pub few : chain.visited < g.nodes

-- all that the state names is the table's: slots, buckets, entries and nodes
abbrev pub IsWalkAtIn : Geometry → WalkAt → Type 0
IsWalkAtIn g at.Opening = Unit {0}
IsWalkAtIn g at.CurrentTable = Unit {0}
IsWalkAtIn g (at.Serial table) = table < 8
IsWalkAtIn g (at.Shape table serial) = table < 8
IsWalkAtIn g (at.Entry visit way) = IsEntryIn g visit way
IsWalkAtIn g (at.Heading visit place) = IsHeadingIn g visit place
IsWalkAtIn g (at.Key chain node) = IsNodeIn g chain node
IsWalkAtIn g (at.Owner chain node port) = IsNodeIn g chain node
IsWalkAtIn g (at.Link chain node) = IsNodeIn g chain node
IsWalkAtIn g (at.StrangeEnd visit) = IsVisitIn visit
IsWalkAtIn g (at.TableEnd table) = table < 8
IsWalkAtIn g (at.Closing end) = Unit {0}

-- a walk of this caller in this table, all that its state names being the table's
pub record IsWalkIn (env : Env) (caller : ℕ) (m : WalkModel) : Type 0 where
  pub same_env : m.env ≡ env
  pub same_caller : m.caller ≡ caller
  pub at_in : IsWalkAtIn env.geometry m.at
