-- What a job never holds, by its call: no slot and no pages, and no entries that it moves, where the call makes no table; no work lock, unless
-- it is a resizing; and no raised count, unless it binds or releases.
use Rattle.std.proofs.Common.{◌≡◌, ℕ, Bool, true, false, List, [], Some, None, refl, sym, ◌∙◌, subst}
use Rattle.std.proofs.lemmas.Bool.{both_ways}
use Rattle.rht_words.specs.Members.{In}
use Rattle.rht_model.specs.declared.history.Call.{Call}
use Rattle.rht_model.specs.declared.history.Call.TheVariants.{Bind, Find, All, Release, Rebind, Walk, Work, Tidy, Count}
use Rattle.rht_chain.specs.Relink.{has_relinked}
use Rattle.rht_find.specs.FindHeld.{held_of_find}
use Rattle.rht_find.specs.declared.find.FindAt.{FindAt}
use Rattle.rht_find.specs.declared.find.FindAt.TheVariants as finding
use Rattle.rht_bind.specs.BindHeld as bind_held
use Rattle.rht_bind.specs.BindHeld.{held_of_bind}
use Rattle.rht_bind.specs.declared.bind.BindAt.{BindAt}
use Rattle.rht_bind.specs.declared.bind.BindAt.TheVariants as binding
use Rattle.rht_bind.specs.declared.bind.Claimed.{Claimed}
use Rattle.rht_release.specs.declared.found_port.FoundPort.{FoundPort}
use Rattle.rht_release.specs.AllHeld.{held_of_all}
use Rattle.rht_release.specs.declared.all.AllAt.{AllAt}
use Rattle.rht_release.specs.declared.all.AllAt.TheVariants as listing
use Rattle.rht_release.specs.ReleaseHeld.{held_of_release, holds_relinking}
use Rattle.rht_release.specs.declared.release.ReleaseAt.{ReleaseAt}
use Rattle.rht_release.specs.declared.release.ReleaseAt.TheVariants as releasing
use Rattle.rht_release.specs.RebindHeld as rebind_held
use Rattle.rht_release.specs.RebindHeld.{held_of_rebind}
use Rattle.rht_release.specs.declared.rebind.RebindAt.{RebindAt}
use Rattle.rht_release.specs.declared.rebind.RebindAt.TheVariants as rebinding
use Rattle.rht_release.specs.declared.rebind.RebindEnd.TheVariants as ends
use Rattle.rht_move.specs.WorkHeld.{held_of_work}
use Rattle.rht_move.specs.declared.work.WorkAt.{WorkAt}
use Rattle.rht_move.specs.declared.work.WorkAt.TheVariants as working
use Rattle.rht_walk.specs.Walk.{Pairs}
use Rattle.rht_walk.specs.WalkHeld.{held_of_walk}
use Rattle.rht_walk.specs.declared.walk.WalkAt.{WalkAt}
use Rattle.rht_walk.specs.declared.walk.WalkAt.TheVariants as walking
use Rattle.rht_core.specs.Jobs.{Job, finds, binds, lists, releases, rebinds, works, walks, call_of, held_of}
use Rattle.rht_ghost.proofs.Theory.Steps.{Holding}

-- ---- nothing of a table

-- the calls that may make a table
abbrev pub may_make : Call → Bool
may_make (Bind port owner once) = true
may_make (Find port) = false
may_make (All port) = false
may_make (Release port owner) = false
may_make (Rebind port owner new) = false
may_make (Walk from limit) = false
may_make Work = true
may_make Tidy = false
may_make Count = false

-- no slot, no pages and no work lock are held, and no entries are moved
pub record HoldsNoTable (h : Holding) : Type 0 where
  pub slot : h.slot ≡ None
  pub pages : h.pages ≡ []
  pub idle : h.worker ≡ false
  pub still : h.moving ≡ false

no_table : {h : Holding} → h.slot ≡ None → h.pages ≡ [] → h.worker ≡ false → h.moving ≡ false → HoldsNoTable h
no_table slot pages idle still = record { slot = slot; pages = pages; idle = idle; still = still }

pub slotless : {h : Holding} → HoldsNoTable h → (slot : ℕ) → h.slot ≡ Some slot → ⊥
slotless none slot has = let both = sym none.slot ∙ has in cc

pub pageless : {h : Holding} → HoldsNoTable h → (page : ℕ) → In page h.pages → ⊥
pageless none page i = subst (In page) none.pages i

-- a look-up, a walk and a listing hold a lock and their read section at most
pub record HoldsLockAlone (h : Holding) : Type 0 where
  pub node : h.node ≡ None
  pub low : h.raised ≡ false
  pub table : HoldsNoTable h

lock_alone : {h : Holding} → h.node ≡ None → h.raised ≡ false → h.slot ≡ None → h.pages ≡ [] → h.worker ≡ false
    → h.moving ≡ false → HoldsLockAlone h
lock_alone node low slot pages idle still =
    record { node = node; low = low; table = no_table slot pages idle still }

pub find-alone : (state : FindAt) → HoldsLockAlone (held_of_find state)
find-alone finding.Opening = lock_alone refl refl refl refl refl refl
find-alone _ = lock_alone refl refl refl refl refl refl

-- a look-up takes no lock
pub find-unlocked : (state : FindAt) → (held_of_find state).lock ≡ None
find-unlocked finding.Opening = refl
find-unlocked _ = refl

-- nor does a walk
pub walk-alone : (room : Pairs) (state : WalkAt) → HoldsLockAlone (held_of_walk room state)
walk-alone room walking.Opening = lock_alone refl refl refl refl refl refl
walk-alone room _ = lock_alone refl refl refl refl refl refl

pub walk-unlocked : (room : Pairs) (state : WalkAt) → (held_of_walk room state).lock ≡ None
walk-unlocked room walking.Opening = refl
walk-unlocked room _ = refl

pub all-alone : (owners : List ℕ) (state : AllAt) → HoldsLockAlone (held_of_all owners state)
all-alone owners (listing.Seeking seek) = lock_alone refl refl refl refl refl refl
all-alone owners _ = lock_alone refl refl refl refl refl refl

relinking-tableless : (found : FoundPort) (raised stored : Bool) → HoldsNoTable (holds_relinking found raised stored)
relinking-tableless found raised true = no_table refl refl refl refl
relinking-tableless found raised false = no_table refl refl refl refl

release-tableless : (state : ReleaseAt) → HoldsNoTable (held_of_release state)
release-tableless (releasing.Promoting found relink) = relinking-tableless found false (has_relinked found.before relink.at)
release-tableless (releasing.Unlinking found relink) = relinking-tableless found true (has_relinked found.before relink.at)
release-tableless _ = no_table refl refl refl refl

replacing-tableless : (node : ℕ) (found : FoundPort) (stored : Bool) → HoldsNoTable (rebind_held.holds_replacing node found stored)
replacing-tableless node found true = no_table refl refl refl refl
replacing-tableless node found false = no_table refl refl refl refl

rebind-tableless : (state : RebindAt) → HoldsNoTable (held_of_rebind state)
rebind-tableless (rebinding.Replacing node found relink) = replacing-tableless node found (has_relinked found.before relink.at)
rebind-tableless (rebinding.Unlocking table unlock (ends.Rebound removed)) = no_table refl refl refl refl
rebind-tableless (rebinding.Closing (ends.Rebound removed)) = no_table refl refl refl refl
rebind-tableless _ = no_table refl refl refl refl

-- nor does a bind hold any that puts its node in front of a list
pub front-tableless : (claimed : Claimed) (stored : Bool) → HoldsNoTable (bind_held.holds_replacing claimed stored)
front-tableless claimed true = no_table refl refl refl refl
front-tableless claimed false = no_table refl refl refl refl

pub tableless : (job : Job) → may_make (call_of job) ≡ false → HoldsNoTable (held_of job)
tableless (finds port state) none = (find-alone state).table
tableless (binds port owner once state) none = absurd (cc)
tableless (lists port room state) none = (all-alone room.items state).table
tableless (releases port owner state) none = release-tableless state
tableless (rebinds port owner new state) none = rebind-tableless state
tableless (works state) none = absurd (cc)
tableless (walks from limit room state) none = (walk-alone room state).table
tableless _ none = no_table refl refl refl refl

-- ---- no work lock

bind-idle : (state : BindAt) → (held_of_bind state).worker ≡ false
bind-idle (binding.Replacing list relink) = (front-tableless list.claimed (has_relinked list.before relink.at)).idle
bind-idle _ = refl

-- only a resizing has the work lock
pub worker_works : (job : Job) → (held_of job).worker ≡ true → call_of job ≡ Work
worker_works (binds port owner once state) has = absurd (both_ways _ (bind-idle state) has)
worker_works (works state) has = refl
worker_works job has = absurd (both_ways _ (tableless job refl).idle has)

-- ---- no raised count

replacing-unraised : (node : ℕ) (found : FoundPort) (stored : Bool) → (rebind_held.holds_replacing node found stored).raised ≡ false
replacing-unraised node found false = refl
replacing-unraised node found true = refl

rebind-unraised : (state : RebindAt) → (held_of_rebind state).raised ≡ false
rebind-unraised (rebinding.Replacing node found relink) = replacing-unraised node found (has_relinked found.before relink.at)
rebind-unraised (rebinding.Unlocking table unlock (ends.Rebound removed)) = refl
rebind-unraised (rebinding.Closing (ends.Rebound removed)) = refl
rebind-unraised _ = refl

work-unraised : (state : WorkAt) → (held_of_work state).raised ≡ false
work-unraised working.WorkLock = refl
work-unraised _ = refl

-- no count is raised, unless the call binds or releases
abbrev pub IsUnraised : Call → Bool → Type 0
IsUnraised (Bind port owner once) raised = Unit {0}
IsUnraised (Release port owner) raised = Unit {0}
IsUnraised _ raised = raised ≡ false

pub job-unraised : (job : Job) → IsUnraised (call_of job) (held_of job).raised
job-unraised (finds port state) = (find-alone state).low
job-unraised (binds port owner once state) = tt
job-unraised (lists port room state) = (all-alone room.items state).low
job-unraised (releases port owner state) = tt
job-unraised (rebinds port owner new state) = rebind-unraised state
job-unraised (works state) = work-unraised state
job-unraised (walks from limit room state) = (walk-alone room state).low
job-unraised _ = refl
