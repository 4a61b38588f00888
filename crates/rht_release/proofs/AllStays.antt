-- Whatever words it is told, a listing stays in its table, and its room is empty until the port was
-- found: a case a state. Links are read totally, so what they name is there or is none.
use Rattle.std.proofs.Common.{ℕ, refl}
use Rattle.std.specs.Prelude.{◌≡◌, Option, Some, None, []}
use Rattle.rht_words.specs.declared.env.Env.{Env}
use Rattle.rht_words.specs.declared.geometry.Geometry.{Geometry}
use Rattle.rht_words.specs.declared.machine.Next.{Next}
use Rattle.rht_words.specs.declared.machine.Next.TheVariants.{Go, Done}
use Rattle.rht_words.specs.Links.{node_of}
use Rattle.rht_words.specs.Planned.{IsWord}
use Rattle.rht_words.proofs.LinksRead.{node_of-in}
use Rattle.rht_chain.specs.LockedWalk.{IsNodeOrNone}
use Rattle.rht_model.specs.Rooms.{Kept}
use Rattle.rht_release.specs.FoundPort.{IsFoundPortIn}
use Rattle.rht_release.specs.Seek.{SeekModel, seek_after}
use Rattle.rht_release.specs.All.{after_at, room_after, sought, list_followed, IsAllAtIn, IsRoomIn}
use Rattle.rht_release.specs.declared.found_port.FoundPort.{FoundPort}
use Rattle.rht_release.specs.declared.all.AllAt.{AllAt}
use Rattle.rht_release.specs.declared.all.AllAt.TheVariants as at
use Rattle.rht_release.proofs.FoundPortsStay.{unlock_of-in}
use Rattle.rht_release.proofs.SeekStays.{SeekIsIn, seek_stays}

module _ (mix : ℕ → ℕ → ℕ → ℕ) (env : Env) (port : ℕ) where
  abbrev g : Geometry
  g = env.geometry

  sought-in : (seek : SeekModel) (next : Next (Option FoundPort)) → SeekIsIn g (seek, next)
      → IsAllAtIn env (sought seek next)
  sought-in seek Go stays = stays.seek_in
  sought-in seek (Done None) stays = tt
  sought-in seek (Done (Some found)) stays =
      record { found_in = stays.end_in; node_in = stays.end_in.node_in }

  list_followed-in : (found : FoundPort) (next : Option ℕ) → IsFoundPortIn g found → IsNodeOrNone g next
      → IsAllAtIn env (list_followed found next)
  list_followed-in found None found_in next_in =
      record { table_in = found_in.table_in; unlock_in = unlock_of-in g found found_in }
  list_followed-in found (Some next) found_in next_in = record { found_in = found_in; node_in = next_in }

  pub all_stays : (state : AllAt) (word : ℕ) → IsAllAtIn env state → IsWord word
      → IsAllAtIn env (after_at mix env port state word).0
  all_stays at.Opening word within told = record { geometry_same = refl; at_in = tt }
  all_stays (at.Seeking seek) word within told =
      sought-in (seek_after mix port seek word).0 (seek_after mix port seek word).1
      (seek_stays g mix port seek word within told)
  all_stays (at.Owner found node) word within told = within
  all_stays (at.ListLink found node) word within told =
      list_followed-in found (node_of g.nodes word) within.found_in (node_of-in g word)
  all_stays (at.Unlocking table unlock) word within told = tt
  all_stays at.Closing word within told = tt

  sought-room : (seek : SeekModel) (next : Next (Option FoundPort)) (room : Kept ℕ) → room.items ≡ []
      → IsRoomIn (sought seek next) room
  sought-room seek Go room empty = empty
  sought-room seek (Done None) room empty = tt
  sought-room seek (Done (Some found)) room empty = tt

  list_followed-room : (found : FoundPort) (next : Option ℕ) (room : Kept ℕ)
      → IsRoomIn (list_followed found next) room
  list_followed-room found None room = tt
  list_followed-room found (Some next) room = tt

  pub room_stays : (state : AllAt) (room : Kept ℕ) (word : ℕ) → IsRoomIn state room
      → IsRoomIn (after_at mix env port state word).0 (room_after state room word)
  room_stays at.Opening room word within = within
  room_stays (at.Seeking seek) room word within =
      sought-room (seek_after mix port seek word).0 (seek_after mix port seek word).1 room within
  room_stays (at.Owner found node) room word within = tt
  room_stays (at.ListLink found node) room word within =
      list_followed-room found (node_of g.nodes word) room
  room_stays (at.Unlocking table unlock) room word within = tt
  room_stays at.Closing room word within = tt
