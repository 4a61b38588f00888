-- What a job does that has a lock and no node and may still be refused, or that ends without a change: it loads, or it drops the lock.
use Rattle.std.proofs.Common.{◌≡◌, ◌≢◌, ◌⊎◌, ℕ, false, Option, Some, None, refl, ap, inl, inr}
use Rattle.std.specs.Int.{bit_at}
use Rattle.rht_words.specs.declared.env.Env.{Env}
use Rattle.rht_words.specs.declared.geometry.Geometry.{Geometry}
use Rattle.rht_words.specs.declared.op.Op.{Op}
use Rattle.rht_words.specs.declared.op.Op.TheVariants.{Load}
use Rattle.rht_words.specs.Operations.{word_after}
use Rattle.rht_model.specs.Rooms.{Kept}
use Rattle.rht_chain.specs.Probe.{probe_plan_at, lock_of_probe}
use Rattle.rht_chain.specs.declared.probe.ProbeAt.{ProbeAt}
use Rattle.rht_chain.specs.declared.probe.ProbeAt.TheVariants as probes
use Rattle.rht_chain.specs.LockedWalk.{walk_plan_at}
use Rattle.rht_chain.specs.declared.locked_walk.LockedWalkAt.{LockedWalkAt}
use Rattle.rht_chain.specs.declared.locked_walk.LockedWalkAt.TheVariants as walks
use Rattle.rht_chain.specs.declared.unlock.Unlock.{Unlock}
use Rattle.rht_release.specs.Seek.{SeekModel, seek_plan_at, lock_of_seek}
use Rattle.rht_release.specs.declared.seek.SeekAt.{SeekAt}
use Rattle.rht_release.specs.declared.seek.SeekAt.TheVariants as seeks
use Rattle.rht_release.specs.ListSearch.{search_plan}
use Rattle.rht_release.specs.declared.list_search.ListSearch.{ListSearch}
use Rattle.rht_release.specs.declared.list_search.ListSearch.TheVariants as searches
use Rattle.rht_release.specs.All as all_at
use Rattle.rht_release.specs.AllHeld.{held_of_all}
use Rattle.rht_release.specs.declared.all.AllAt.{AllAt}
use Rattle.rht_release.specs.declared.all.AllAt.TheVariants as listing
use Rattle.rht_release.specs.Release as release_at
use Rattle.rht_release.specs.ReleaseHeld.{held_of_release}
use Rattle.rht_release.specs.declared.release.ReleaseAt.{ReleaseAt}
use Rattle.rht_release.specs.declared.release.ReleaseAt.TheVariants as releasing
use Rattle.rht_core.specs.Jobs as jobs
use Rattle.rht_core.specs.Jobs.{Job, finds, binds, lists, releases, rebinds, works, job_plan, job_after, held_of, held_next}
use Rattle.rht_ghost.proofs.Theory.Steps.{LeavesBits}
use Rattle.rht_core.proofs.Machines.NeverHeld.{find-unlocked, walk-unlocked}
use Rattle.rht_core.proofs.Undoing.PastRefusal.{release_is_past, is_past}
use Rattle.rht_core.proofs.Undoing.RefusableJobs.{bind-refusable, rebind-refusable, early_work, work-refusable}

module _ (env : Env) (mix : ℕ → ℕ → ℕ → ℕ) (c : ℕ) (op : Op) (old : ℕ) where
  -- the operation leaves each bit of the word that it found, or the job has no lock behind it
  abbrev LeavesOrDrops : Job → Type 0
  LeavesOrDrops job = LeavesBits op old ⊎ ((held_next (job_after mix env job old)).lock ≡ None)

  load-leaves : (place : ℕ) → op ≡ Load place → LeavesBits op old
  load-leaves place is bit low = ap (λ o. bit_at (word_after old o) bit) is

  walk-leaves : (h : Geometry) (state : LockedWalkAt) → op ≡ walk_plan_at h state → LeavesBits op old
  walk-leaves h (walks.Key node) is = load-leaves _ is
  walk-leaves h (walks.ChainLink node) is = load-leaves _ is

  search-leaves : (h : Geometry) (search : ListSearch) → op ≡ search_plan h search → LeavesBits op old
  search-leaves h (searches.Owner node before) is = load-leaves _ is
  search-leaves h (searches.ListLink node) is = load-leaves _ is

  probe-leaves : (state : ProbeAt) → op ≡ probe_plan_at state → lock_of_probe state ≢ None → LeavesBits op old
  probe-leaves (probes.Locking lock) is locked = absurd (locked refl)
  probe-leaves (probes.Walking bucket walk) is locked = walk-leaves walk.geometry walk.at is

  -- on the way to a port a lock is dropped where a bucket is left
  seek-leaves : (Drops : SeekAt → Type 0) (h : Geometry) (state : SeekAt) → op ≡ seek_plan_at h state → lock_of_seek state ≢ None
      → ((table : ℕ) (unlock : Unlock) (future : Option ℕ) → Drops (seeks.Leaving table unlock future))
      → LeavesBits op old ⊎ Drops state
  seek-leaves Drops h seeks.CurrentTable is locked drops = absurd (locked refl)
  seek-leaves Drops h (seeks.Locating locate) is locked drops = absurd (locked refl)
  seek-leaves Drops h (seeks.Probing table shape probe) is locked drops = inl (probe-leaves probe.at is locked)
  seek-leaves Drops h (seeks.Future table bucket) is locked drops = inl (load-leaves _ is)
  seek-leaves Drops h (seeks.Leaving table unlock future) is locked drops = inr (drops table unlock future)

  -- a way in a state, with what is left of its job behind its operation
  abbrev at_seek : Geometry → SeekAt → SeekModel
  at_seek h state = record { geometry = h; at = state }

  abbrev AllDrops : ℕ → Kept ℕ → Geometry → SeekAt → Type 0
  AllDrops port room h state = (held_next (job_after mix env (lists port room (listing.Seeking (at_seek h state))) old)).lock ≡ None

  all-drops : (port : ℕ) (room : Kept ℕ) (h : Geometry) (table : ℕ) (unlock : Unlock) (future : Option ℕ)
      → AllDrops port room h (seeks.Leaving table unlock future)
  all-drops port room h table unlock None = refl
  all-drops port room h table unlock (Some next) = refl

  all-leaves : (port : ℕ) (room : Kept ℕ) (state : AllAt) → op ≡ all_at.plan_at env c state
      → (held_of_all room.items state).lock ≢ None → LeavesOrDrops (lists port room state)
  all-leaves port room (listing.Seeking seek) is locked =
      seek-leaves (AllDrops port room seek.geometry) seek.geometry seek.at is locked (all-drops port room seek.geometry)
  all-leaves port room listing.Opening is locked = absurd (locked refl)
  all-leaves port room (listing.Unlocking table unlock) is locked = inr refl
  all-leaves port room listing.Closing is locked = absurd (locked refl)
  all-leaves port room _ is locked = inl (load-leaves _ is)

  abbrev ReleaseDrops : ℕ → ℕ → Geometry → SeekAt → Type 0
  ReleaseDrops port owner h state =
      (held_next (job_after mix env (releases port owner (releasing.Seeking (at_seek h state))) old)).lock ≡ None

  release-drops : (port owner : ℕ) (h : Geometry) (table : ℕ) (unlock : Unlock) (future : Option ℕ)
      → ReleaseDrops port owner h (seeks.Leaving table unlock future)
  release-drops port owner h table unlock None = refl
  release-drops port owner h table unlock (Some next) = refl

  release-leaves : (port owner : ℕ) (state : ReleaseAt) → release_is_past state ≡ false → op ≡ release_at.plan_at env c state
      → (held_of_release state).lock ≢ None → LeavesOrDrops (releases port owner state)
  release-leaves port owner (releasing.Seeking seek) may is locked =
      seek-leaves (ReleaseDrops port owner seek.geometry) seek.geometry seek.at is locked (release-drops port owner seek.geometry)
  release-leaves port owner (releasing.Searching found search) may is locked = inl (search-leaves env.geometry search is)
  release-leaves port owner (releasing.CuttingOut found node before link) may is locked = absurd (cc)
  release-leaves port owner (releasing.SecondLink found second link) may is locked = absurd (cc)
  release-leaves port owner (releasing.Promoting found relink) may is locked = absurd (cc)
  release-leaves port owner (releasing.Unlinking found relink) may is locked = absurd (cc)
  release-leaves port owner (releasing.Lowering node shape) may is locked = absurd (cc)
  release-leaves port owner (releasing.Unlocking table unlock removed) may is locked = inr refl
  release-leaves port owner releasing.Opening may is locked = absurd (locked refl)
  release-leaves port owner (releasing.Closing reply removed) may is locked = absurd (locked refl)
  release-leaves port owner _ may is locked = inl (load-leaves _ is)

  pub locked-leaves : (job : Job) → is_past job ≡ false → op ≡ job_plan env c job → (held_of job).lock ≢ None
      → (held_of job).node ≡ None → LeavesOrDrops job
  locked-leaves (finds port state) may is locked none = absurd (locked (find-unlocked state))
  locked-leaves (binds port owner once state) may is locked none = absurd ((bind-refusable state may).locked_has locked none)
  locked-leaves (lists port room state) may is locked none = all-leaves port room state is locked
  locked-leaves (releases port owner state) may is locked none = release-leaves port owner state may is locked
  locked-leaves (rebinds port owner new state) may is locked none =
      absurd ((rebind-refusable state may).locked_has locked none)
  locked-leaves (works state) may is locked none =
      absurd ((work-refusable state (early_work state may)).locked_has locked none)
  locked-leaves (jobs.walks from limit room state) may is locked none = absurd (locked (walk-unlocked room state))
  locked-leaves _ may is locked none = absurd (locked refl)
