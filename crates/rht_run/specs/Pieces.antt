-- Pieces that are driven part by part.
use Rattle.std.specs.Prelude.{ℕ, Option, None, Some}
use Rattle.rht_words.specs.declared.machine.Next.{Next}
use Rattle.rht_words.specs.declared.machine.Next.TheVariants.{Go, Done}
use Rattle.rht_arena.specs.NewNode.{NewNodeModel}
use Rattle.rht_arena.specs.declared.new_node.NewNodeAt.{NewNodeAt}
use Rattle.rht_arena.specs.declared.new_node.NewNodeAt.TheVariants as news
use Rattle.rht_chain.specs.Lock.{LockModel, lock_new, lock_after}
use Rattle.rht_chain.specs.Probe.{ProbeModel, walk_began}
use Rattle.rht_chain.specs.declared.locked.Locked.{Locked}
use Rattle.rht_chain.specs.declared.probe.Probed.{Probed}
use Rattle.rht_chain.specs.declared.probe.ProbeAt.{ProbeAt}
use Rattle.rht_chain.specs.declared.probe.ProbeAt.TheVariants as probes
use Rattle.rht_words.specs.declared.geometry.Geometry.{Geometry}
use Rattle.rht_nest.specs.Locate.{LocateModel, locate_new, locate_after}
use Rattle.rht_nest.specs.Place.{nested_place}
use Rattle.rht_nest.specs.declared.locate.LocateAt.TheVariants as locates
use Rattle.rht_nest.specs.declared.locate.LocatedBucket.TheVariants as buckets
use Rattle.rht_run.specs.declared.locating.Way.{Way}
use Rattle.rht_run.specs.declared.locating.Way.TheVariants as ways
use Rattle.rht_nest.specs.declared.locate.Located.{Located}
use Rattle.rht_model.specs.declared.history.Reply.{Reply}
use Rattle.rht_callers.specs.declared.local.Doing.{Doing}
use Rattle.rht_run.specs.declared.pieces.PortLocate.{PortLocate}
use Rattle.rht_run.specs.declared.pieces.PortLocated.{PortLocated}

-- the taking of a lock stands here, and says this; once it has the lock it answers the bucket, with its word before
abbrev pub locked_of : LockModel × Next ℕ → LockModel × Next Locked
locked_of (lock, Go) = (lock, Go)
locked_of (lock, Done word) = (lock, Done (record { place = lock.place; word = word }))

abbrev pub bucket_lock_after : LockModel → ℕ → LockModel × Next Locked
bucket_lock_after lock word = locked_of (lock_after lock word)

-- the probe stands here, and says this
abbrev pub probe_told : ProbeModel → ProbeAt × Next Probed → ProbeModel × Next Probed
probe_told probe next = (record probe { at = next.0 }, next.1)

-- the probe takes its lock, which stands here
abbrev pub probe_locks : ProbeModel → LockModel → ProbeModel
probe_locks probe lock = record probe { at = probes.Locking lock }

-- and has taken that of this bucket: it walks the chain next, or has seen an empty one
abbrev pub probe_locked : ProbeModel → Locked → ProbeModel × Next Probed
probe_locked probe bucket =
    probe_told probe (walk_began probe.geometry probe.key (lock_new bucket.place) bucket)

-- the new node stands here, and says this
abbrev pub new_node_told : NewNodeModel → NewNodeAt × Next (Option ℕ) → NewNodeModel × Next (Option ℕ)
new_node_told new next = (record new { at = next.0 }, next.1)

-- a node that was taken gets its key next; where none was free the piece has answered
abbrev pub node_then : {M : Type 0} → (NewNodeModel → Doing M) → (Option ℕ → Doing M × Option (Reply × Option ℕ)) → NewNodeModel
    → Option ℕ → Doing M × Option (Reply × Option ℕ)
node_then holding behind new None = behind None
node_then holding behind new (Some node) = (holding (record new { at = news.Key node }), None)

-- the finding of this port's bucket stands here
abbrev pub port_locate : ℕ → LocateModel → PortLocate
port_locate port locate = record { port = port; locate = locate }

-- and says this, of the port and the table
abbrev pub located_of : ℕ → ℕ → Next Located → Next PortLocated
located_of port table Go = Go
located_of port table (Done found) = Done (record { port = port; table = table; found = found })

abbrev pub locate_told : ℕ → LocateModel × Next Located → PortLocate × Next PortLocated
locate_told port next = (port_locate port next.0, located_of port next.0.table next.1)

abbrev pub port_locate_after : (ℕ → ℕ → ℕ → ℕ) → PortLocate → ℕ → PortLocate × Next PortLocated
port_locate_after mix p word = locate_told p.port (locate_after mix p.port p.locate word)

-- it has loaded the shape and the seed of a nested table, and goes over the entries next
abbrev pub nested_locate : Geometry → ℕ → ℕ → ℕ → LocateModel
nested_locate g table shape bucket =
    record (locate_new g table) { at = locates.Early shape (nested_place g shape bucket) }

-- in a flat table the bucket is found by then
abbrev pub way_then : {M : Type 0} → (PortLocate → Doing M) → (PortLocated → Doing M × Option (Reply × Option ℕ)) → Geometry → ℕ → ℕ
    → Way → Doing M × Option (Reply × Option ℕ)
way_then holding behind g port table (ways.Flat shape place) =
    behind (record { port = port; table = table; found = record { shape = shape; bucket = buckets.At place } })
way_then holding behind g port table (ways.Nested shape bucket) =
    (holding (port_locate port (nested_locate g table shape bucket)), None)
