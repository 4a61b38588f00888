-- The listing of a port's owners: what each state performs, and what comes after it.
use Rattle.std.specs.Prelude.{◌≡◌, ℕ, ◌<◌, Option, None, Some, [], length}
use Rattle.rht_words.specs.declared.op.Op.{Op}
use Rattle.rht_words.specs.declared.op.Op.TheVariants.{Load}
use Rattle.rht_words.specs.declared.machine.Next.{Next}
use Rattle.rht_words.specs.declared.machine.Next.TheVariants.{Go, Done}
use Rattle.rht_words.specs.declared.env.Env.{Env}
use Rattle.rht_words.specs.declared.geometry.Geometry.{Geometry}
use Rattle.rht_words.specs.Links.{node_of}
use Rattle.rht_words.specs.Ports.{IsPort, owner_of}
use Rattle.rht_words.specs.Places.{Node, OwnerWord, ListLink, place_of}
use Rattle.rht_grace.specs.Sections.{turning}
use Rattle.rht_chain.specs.Unlock.{unlock_plan, IsUnlockIn}
use Rattle.rht_chain.specs.declared.unlock.Unlock.{Unlock}
use Rattle.rht_model.specs.declared.history.Reply.{Reply}
use Rattle.rht_model.specs.declared.history.Reply.TheVariants.{Listed}
use Rattle.rht_model.specs.Rooms.{Kept, emptied, with_kept}
use Rattle.rht_release.specs.FoundPort.{unlock_of, IsAtNodeIn}
use Rattle.rht_release.specs.Seek.{SeekModel, seek_new, seek_plan, seek_after, IsSeekIn}
use Rattle.rht_release.specs.declared.found_port.FoundPort.{FoundPort}
use Rattle.rht_release.specs.declared.all.AllAt.{AllAt}
use Rattle.rht_release.specs.declared.all.AllAt.TheVariants as at

-- what contracts see of the machine: the room has the owners that were loaded so far
pub record AllModel : Type 0 where
  pub env : Env
  pub caller : ℕ
  pub port : ℕ
  pub room : Kept ℕ
  pub at : AllAt

-- it begins before its read section, with an empty list
abbrev pub all_new : Env → ℕ → ℕ → Kept ℕ → AllModel
all_new env caller port room = record {
  env = env;
  caller = caller;
  port = port;
  room = emptied room;
  at = at.Opening;
}

-- the state's one operation
abbrev pub plan_at : Env → ℕ → AllAt → Op
plan_at env caller at.Opening = turning caller
plan_at env caller (at.Seeking seek) = seek_plan seek
plan_at env caller (at.Owner found node) = Load (place_of env.geometry (Node node OwnerWord))
plan_at env caller (at.ListLink found node) = Load (place_of env.geometry (Node node ListLink))
plan_at env caller (at.Unlocking table unlock) = unlock_plan unlock
plan_at env caller at.Closing = turning caller

abbrev pub all_plan : AllModel → Op
all_plan m = plan_at m.env m.caller m.at

-- what comes after an operation on the way: where the port was found its owners are loaded, from the
-- first on
abbrev pub sought : SeekModel → Next (Option FoundPort) → AllAt
sought seek Go = at.Seeking seek
sought seek (Done None) = at.Closing
sought seek (Done (Some found)) = at.Owner found found.node

-- the next node's owner is loaded; behind the last node the bucket is unlocked
abbrev pub list_followed : FoundPort → Option ℕ → AllAt
list_followed found None = at.Unlocking found.table (unlock_of found)
list_followed found (Some next) = at.Owner found next

-- where the listing stands after a state that found this word, and whether it has ended
abbrev pub after_at : (ℕ → ℕ → ℕ → ℕ) → Env → ℕ → AllAt → ℕ → AllAt × Next (Unit {0})
after_at mix env port at.Opening word = (at.Seeking (seek_new env.geometry), Go)
after_at mix env port (at.Seeking seek) word =
    (sought (seek_after mix port seek word).0 (seek_after mix port seek word).1, Go)
after_at mix env port (at.Owner found node) word = (at.ListLink found node, Go)
after_at mix env port (at.ListLink found node) word =
    (list_followed found (node_of env.geometry.nodes word), Go)
after_at mix env port (at.Unlocking table unlock) word = (at.Closing, Go)
after_at mix env port at.Closing word = (at.Closing, Done tt)

-- the owners that are kept after it: an owner that was loaded comes last, where there is room
abbrev pub room_after : AllAt → Kept ℕ → ℕ → Kept ℕ
room_after at.Opening room word = room
room_after (at.Seeking seek) room word = room
room_after (at.Owner found node) room word = with_kept room (owner_of word)
room_after (at.ListLink found node) room word = room
room_after (at.Unlocking table unlock) room word = room
room_after at.Closing room word = room

-- at its end it says how many owners there are
abbrev pub listed : Kept ℕ → Next (Unit {0}) → Next Reply
listed room Go = Go
listed room (Done done) = Done (Listed (length room.items))

abbrev pub moved : AllModel → Kept ℕ → AllAt × Next (Unit {0}) → AllModel × Next Reply
moved m room next = (record m { room = room; at = next.0 }, listed room next.1)

abbrev pub all_after : (ℕ → ℕ → ℕ → ℕ) → AllModel → ℕ → AllModel × Next Reply
all_after mix m word = moved m (room_after m.at m.room word) (after_at mix m.env m.port m.at word)

-- ---- what a listing names

-- it unlocks a bucket of a table
pub record IsUnlockingIn (g : Geometry) (table : ℕ) (unlock : Unlock) : Type 0 where
  pub table_in : table < 8
  pub unlock_in : IsUnlockIn g unlock

-- all that the state names is the table's: slots, nodes and buckets; and the words that it keeps are words
abbrev pub IsAllAtIn : Env → AllAt → Type 0
IsAllAtIn env at.Opening = Unit {0}
IsAllAtIn env (at.Seeking seek) = IsSeekIn env.geometry seek
IsAllAtIn env (at.Owner found node) = IsAtNodeIn env.geometry found node
IsAllAtIn env (at.ListLink found node) = IsAtNodeIn env.geometry found node
IsAllAtIn env (at.Unlocking table unlock) = IsUnlockingIn env.geometry table unlock
IsAllAtIn env at.Closing = Unit {0}

-- until the port was found no owner is kept
abbrev pub IsRoomIn : AllAt → Kept ℕ → Type 0
IsRoomIn at.Opening room = room.items ≡ []
IsRoomIn (at.Seeking seek) room = room.items ≡ []
IsRoomIn (at.Owner found node) room = Unit {0}
IsRoomIn (at.ListLink found node) room = Unit {0}
IsRoomIn (at.Unlocking table unlock) room = Unit {0}
IsRoomIn at.Closing room = Unit {0}

-- a listing of this caller in this table, all that its state names being the table's
pub record IsAllIn (env : Env) (caller : ℕ) (m : AllModel) : Type 0 where
  pub same_env : m.env ≡ env
  pub same_caller : m.caller ≡ caller
  pub port_in : IsPort m.port
  pub at_in : IsAllAtIn env m.at
  pub room_in : IsRoomIn m.at m.room
