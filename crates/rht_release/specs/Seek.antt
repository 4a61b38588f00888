-- The way to a port: from the current table on through the futures, to the bucket in which the port is
-- found, which stays locked. What each state performs, and what comes after it.
use Rattle.std.specs.Prelude.{◌≡◌, ℕ, ◌<◌, true, Option, None, Some, IfSome}
use Rattle.rht_words.specs.declared.op.Op.{Op}
use Rattle.rht_words.specs.declared.op.Op.TheVariants.{Load}
use Rattle.rht_words.specs.declared.machine.Next.{Next}
use Rattle.rht_words.specs.declared.machine.Next.TheVariants.{Go, Done}
use Rattle.rht_words.specs.declared.geometry.Geometry.{Geometry}
use Rattle.rht_words.specs.Held.{Held, holds_nothing}
use Rattle.rht_words.specs.Links.{table_of, slot_of}
use Rattle.rht_words.specs.Planned.{IsWord}
use Rattle.rht_words.specs.Ports.{word_of}
use Rattle.rht_words.specs.Places.{CurrentTable, Slot, FutureWord, place_of}
use Rattle.rht_nest.specs.Locate.{LocateModel, locate_new, locate_plan, locate_after, IsLocateIn}
use Rattle.rht_nest.specs.declared.locate.Located.{Located}
use Rattle.rht_nest.specs.declared.locate.LocatedBucket.{LocatedBucket}
use Rattle.rht_nest.specs.declared.locate.LocatedBucket.TheVariants as buckets
use Rattle.rht_chain.specs.Probe.{ProbeModel, probe_new, probe_plan, probe_after, lock_of_probe, IsProbeIn}
use Rattle.rht_chain.specs.declared.probe.Probed.{Probed}
use Rattle.rht_chain.specs.Unlock.{unlock_plan, IsUnlockIn}
use Rattle.rht_chain.specs.declared.unlock.Unlock.{Unlock}
use Rattle.rht_chain.specs.Locked.{IsLockedIn}
use Rattle.rht_chain.specs.declared.locked.Locked.{Locked}
use Rattle.rht_release.specs.FoundPort.{IsFoundPortIn}
use Rattle.rht_release.specs.declared.found_port.FoundPort.{FoundPort}
use Rattle.rht_release.specs.declared.seek.SeekAt.{SeekAt}
use Rattle.rht_release.specs.declared.seek.SeekAt.TheVariants as at
pub use Rattle.rht_nest.specs.Early.{answer_unless, early_of_locate}

-- what contracts see of the machine
pub record SeekModel : Type 0 where
  pub geometry : Geometry
  pub at : SeekAt

-- it begins with the current table
abbrev pub seek_new : Geometry → SeekModel
seek_new g = record { geometry = g; at = at.CurrentTable }

-- the state's one operation
abbrev pub seek_plan_at : Geometry → SeekAt → Op
seek_plan_at g at.CurrentTable = Load (place_of g CurrentTable)
seek_plan_at g (at.Locating locate) = locate_plan locate
seek_plan_at g (at.Probing table shape probe) = probe_plan probe
seek_plan_at g (at.Future table bucket) = Load (place_of g (Slot table FutureWord))
seek_plan_at g (at.Leaving table unlock future) = unlock_plan unlock

abbrev pub seek_plan : SeekModel → Op
seek_plan m = seek_plan_at m.geometry m.at

-- the port's bucket in the table of this slot is looked for
abbrev pub locating : Geometry → ℕ → SeekAt
locating g table = at.Locating (locate_new g table)

-- a bucket that is missing is empty: the way goes on in the table that was behind before, and where none was the port
-- is bound nowhere
abbrev pub early_or_none : Geometry → LocateModel → Option ℕ → SeekAt × Next (Option FoundPort)
early_or_none g locate None = (at.Locating locate, Done None)
early_or_none g locate (Some next) = (locating g next, Go)

-- a bucket that is there is locked
abbrev pub bucket_or_early : Geometry → ℕ → LocateModel → ℕ → LocatedBucket → SeekAt × Next (Option FoundPort)
bucket_or_early g port locate shape (buckets.At place) =
    (at.Probing locate.table shape (probe_new g place (word_of port)), Go)
bucket_or_early g port locate shape (buckets.Missing place early) = early_or_none g locate early

-- what comes after an operation that looks for the bucket
abbrev pub located : Geometry → ℕ → LocateModel → Next Located → SeekAt × Next (Option FoundPort)
located g port locate Go = (at.Locating locate, Go)
located g port locate (Done there) = bucket_or_early g port locate there.shape there.bucket

-- the port at this node, which was seen in a bucket of a table of this shape
abbrev pub port_at : ℕ → ℕ → Probed → ℕ → FoundPort
port_at table shape end node =
    record { table = table; shape = shape; bucket = end.bucket; node = node; before = end.seen.before }

-- where the port was found the way has ended, and else the table's future is loaded
abbrev pub found_or_future : ℕ → ℕ → ProbeModel → Probed → Option ℕ → SeekAt × Next (Option FoundPort)
found_or_future table shape probe end None = (at.Future table end.bucket, Go)
found_or_future table shape probe end (Some node) =
    (at.Probing table shape probe, Done (Some (port_at table shape end node)))

-- what comes after an operation in the bucket
abbrev pub probed : ℕ → ℕ → ProbeModel → Next Probed → SeekAt × Next (Option FoundPort)
probed table shape probe Go = (at.Probing table shape probe, Go)
probed table shape probe (Done end) = found_or_future table shape probe end end.seen.found

-- the bucket is unlocked, and then the future table is looked through, where there is one
abbrev pub leaving : ℕ → Locked → Option ℕ → SeekAt
leaving table bucket future = at.Leaving table (record { place = bucket.place; word = bucket.word }) future

-- behind the unlocking the way goes on in the future table, or the port is bound nowhere
abbrev pub left : Geometry → ℕ → Unlock → Option ℕ → SeekAt × Next (Option FoundPort)
left g table unlock None = (at.Leaving table unlock None, Done None)
left g table unlock (Some next) = (locating g next, Go)

-- what comes after a state that found this word
abbrev pub seek_after_at : (ℕ → ℕ → ℕ → ℕ) → Geometry → ℕ → SeekAt → ℕ → SeekAt × Next (Option FoundPort)
seek_after_at mix g port at.CurrentTable word = (locating g (table_of word), Go)
seek_after_at mix g port (at.Locating locate) word =
    located g port (locate_after mix port locate word).0 (locate_after mix port locate word).1
seek_after_at mix g port (at.Probing table shape probe) word =
    probed table shape (probe_after probe word).0 (probe_after probe word).1
seek_after_at mix g port (at.Future table bucket) word = (leaving table bucket (slot_of word), Go)
seek_after_at mix g port (at.Leaving table unlock future) word = left g table unlock future

abbrev pub seek_after : (ℕ → ℕ → ℕ → ℕ) → ℕ → SeekModel → ℕ → SeekModel × Next (Option FoundPort)
seek_after mix port m word =
    let next = seek_after_at mix m.geometry port m.at word in
    (record m { at = next.0 }, next.1)

-- ---- what it holds

-- the call goes the way in its read section, in which it holds nothing else so far
abbrev pub holds_section : {Answer : Type 0} → Held Answer
holds_section = record holds_nothing { section = true }

-- the place of the bucket that it has locked
abbrev pub lock_of_seek : SeekAt → Option ℕ
lock_of_seek at.CurrentTable = None
lock_of_seek (at.Locating locate) = None
lock_of_seek (at.Probing table shape probe) = lock_of_probe probe.at
lock_of_seek (at.Future table bucket) = Some bucket.place
lock_of_seek (at.Leaving table unlock future) = Some unlock.place

-- What a call answers whose port is bound nowhere, once that is known: from the load of a future on
-- that leads to no table. At that load no table binds the port, and none will while the bucket is
-- locked. Where the bucket is missing the answer is known at the end alone: no table bound the port at the
-- load of the future before the entries, and no lock has kept it unbound since.
abbrev pub answer_of_seek : {Answer : Type 0} → Answer → SeekAt → Option Answer
answer_of_seek absent at.CurrentTable = None
answer_of_seek absent (at.Locating locate) = None
answer_of_seek absent (at.Probing table shape probe) = None
answer_of_seek absent (at.Future table bucket) = None
answer_of_seek absent (at.Leaving table unlock future) = answer_unless absent future

abbrev pub early_of_seek : {Answer : Type 0} → Answer → SeekAt → Option Answer
early_of_seek absent at.CurrentTable = None
early_of_seek absent (at.Locating locate) = early_of_locate absent locate.at
early_of_seek absent (at.Probing table shape probe) = None
early_of_seek absent (at.Future table bucket) = None
early_of_seek absent (at.Leaving table unlock future) = None

-- ---- what it names

-- it locks a bucket of a table, and walks it
pub record IsProbingIn (g : Geometry) (table shape : ℕ) (probe : ProbeModel) : Type 0 where
  pub table_in : table < 8
  pub shape_in : IsWord shape
  pub probe_in : IsProbeIn g probe

-- it has locked a bucket of a table
pub record IsInBucket (g : Geometry) (table : ℕ) (bucket : Locked) : Type 0 where
  pub table_in : table < 8
  pub bucket_in : IsLockedIn g bucket

-- it unlocks a bucket of a table
pub record IsLeavingBucket (g : Geometry) (table : ℕ) (unlock : Unlock) (future : Option ℕ) : Type 0 where
  pub table_in : table < 8
  pub unlock_in : IsUnlockIn g unlock
  pub future_in : IfSome future (λ next. next < 8)

-- all that the state names is the table's: slots, nodes and buckets; and the words that it keeps are words
abbrev pub IsSeekAtIn : Geometry → SeekAt → Type 0
IsSeekAtIn g at.CurrentTable = Unit {0}
IsSeekAtIn g (at.Locating locate) = IsLocateIn g locate
IsSeekAtIn g (at.Probing table shape probe) = IsProbingIn g table shape probe
IsSeekAtIn g (at.Future table bucket) = IsInBucket g table bucket
IsSeekAtIn g (at.Leaving table unlock future) = IsLeavingBucket g table unlock future

-- the machine works in this table
pub record IsSeekIn (g : Geometry) (m : SeekModel) : Type 0 where
  pub geometry_same : m.geometry ≡ g
  pub at_in : IsSeekAtIn g m.at

-- what was found is the table's
abbrev pub IsSoughtIn : Geometry → Option FoundPort → Type 0
IsSoughtIn g None = Unit {0}
IsSoughtIn g (Some found) = IsFoundPortIn g found

abbrev pub IsSeekEndIn : Geometry → Next (Option FoundPort) → Type 0
IsSeekEndIn g Go = Unit {0}
IsSeekEndIn g (Done sought) = IsSoughtIn g sought
