-- Locking a bucket and walking its chain: what each state performs, and what comes after it.
use Rattle.std.specs.Prelude.{◌≡◌, ℕ, Option, None, Some}
use Rattle.rht_words.specs.declared.op.Op.{Op}
use Rattle.rht_words.specs.declared.machine.Next.{Next}
use Rattle.rht_words.specs.declared.machine.Next.TheVariants.{Go, Done}
use Rattle.rht_words.specs.declared.machine.Start.{Start}
use Rattle.rht_words.specs.declared.machine.Start.TheVariants as starts
use Rattle.rht_words.specs.declared.geometry.Geometry.{Geometry}
use Rattle.rht_chain.specs.Lock.{LockModel, lock_new, lock_plan, lock_after, IsLockIn}
use Rattle.rht_chain.specs.Locked.{IsLockedIn}
use Rattle.rht_chain.specs.LockedWalk.{LockedWalkModel, locked_walk_new, locked_walk_plan, locked_walk_after, IsWalkIn, IsSeenIn}
use Rattle.rht_chain.specs.declared.locked.Locked.{Locked}
use Rattle.rht_chain.specs.declared.locked_walk.Seen.{Seen}
use Rattle.rht_chain.specs.declared.probe.Probed.{Probed}
use Rattle.rht_chain.specs.declared.probe.ProbeAt.{ProbeAt}
use Rattle.rht_chain.specs.declared.probe.ProbeAt.TheVariants as at

-- what contracts see of the machine
pub record ProbeModel : Type 0 where
  pub geometry : Geometry
  pub key : ℕ
  pub at : ProbeAt

-- it begins with the lock of the bucket at this place
abbrev pub probe_new : Geometry → ℕ → ℕ → ProbeModel
probe_new g place key = record { geometry = g; key = key; at = at.Locking (lock_new place) }

-- the state's one operation
abbrev pub probe_plan_at : ProbeAt → Op
probe_plan_at (at.Locking lock) = lock_plan lock
probe_plan_at (at.Walking bucket walk) = locked_walk_plan walk

abbrev pub probe_plan : ProbeModel → Op
probe_plan m = probe_plan_at m.at

-- what was seen in this bucket
abbrev pub probed_in : Locked → Seen → Probed
probed_in bucket seen = record { bucket = bucket; seen = seen }

-- where the lock was taken the walk begins, or it has seen an empty chain at once
abbrev pub walk_or_seen : LockModel → Locked → Start LockedWalkModel Seen → ProbeAt × Next Probed
walk_or_seen lock bucket (starts.Running walk) = (at.Walking bucket walk, Go)
walk_or_seen lock bucket (starts.Done seen) = (at.Locking lock, Done (probed_in bucket seen))

abbrev pub walk_began : Geometry → ℕ → LockModel → Locked → ProbeAt × Next Probed
walk_began g key lock bucket = walk_or_seen lock bucket (locked_walk_new g bucket.place bucket.word key)

abbrev pub lock_taken : Geometry → ℕ → LockModel → Next ℕ → ProbeAt × Next Probed
lock_taken g key lock Go = (at.Locking lock, Go)
lock_taken g key lock (Done word) = walk_began g key lock record { place = lock.place; word = word }

-- where the walk has ended it is told what was seen
abbrev pub walk_taken : Locked → LockedWalkModel → Next Seen → ProbeAt × Next Probed
walk_taken bucket walk Go = (at.Walking bucket walk, Go)
walk_taken bucket walk (Done seen) = (at.Walking bucket walk, Done (probed_in bucket seen))

-- what comes after a state that found this word
abbrev pub probe_after_at : Geometry → ℕ → ProbeAt → ℕ → ProbeAt × Next Probed
probe_after_at g key (at.Locking lock) word = lock_taken g key (lock_after lock word).0
    (lock_after lock word).1
probe_after_at g key (at.Walking bucket walk) word =
    walk_taken bucket (locked_walk_after walk word).0 (locked_walk_after walk word).1

abbrev pub probe_after : ProbeModel → ℕ → ProbeModel × Next Probed
probe_after m word =
    let next = probe_after_at m.geometry m.key m.at word in
    (record m { at = next.0 }, next.1)

-- the place of the bucket that the probe has locked
abbrev pub lock_of_probe : ProbeAt → Option ℕ
lock_of_probe (at.Locking lock) = None
lock_of_probe (at.Walking bucket walk) = Some bucket.place

-- the walk of a bucket of this table, which is locked
pub record IsWalkOfIn (g : Geometry) (bucket : Locked) (walk : LockedWalkModel) : Type 0 where
  pub bucket_in : IsLockedIn g bucket
  pub walk_in : IsWalkIn g walk

-- the bucket, its word and the nodes that the state names are the table's
abbrev pub IsProbeAtIn : Geometry → ProbeAt → Type 0
IsProbeAtIn g (at.Locking lock) = IsLockIn g lock
IsProbeAtIn g (at.Walking bucket walk) = IsWalkOfIn g bucket walk

-- the machine works in this table
pub record IsProbeIn (g : Geometry) (m : ProbeModel) : Type 0 where
  pub geometry_same : m.geometry ≡ g
  pub at_in : IsProbeAtIn g m.at

-- what was seen is the table's
pub record IsProbedIn (g : Geometry) (probed : Probed) : Type 0 where
  pub bucket_in : IsLockedIn g probed.bucket
  pub seen_in : IsSeenIn g probed.seen

abbrev pub IsProbeEndIn : Geometry → Next Probed → Type 0
IsProbeEndIn g Go = Unit {0}
IsProbeEndIn g (Done probed) = IsProbedIn g probed
