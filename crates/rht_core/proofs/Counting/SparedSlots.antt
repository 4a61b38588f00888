-- Which operations leave the words of all slots, of the current table and of the next serial: loads, and those on the work lock, on the
-- count of ports, on section words, and on words behind the slots. Look-ups, listings, releases and rebinds have no other; nor have the
-- pieces of a bind but the making of a table.
use Rattle.rht_callers.specs.Locals.{turns_section, soft}
use Rattle.std.proofs.Common.{◌≡◌, ◌⊎◌, ◌+◌, ◌&&◌, ℕ, Bool, false, ◌<◌, ◌≤◌, List, get_or, refl, sym, ap, subst, inl, inr, arith}
use Rattle.std.proofs.lemmas.Bool.{cond_both}
use Rattle.rht_words.specs.declared.op.Op.{Op}
use Rattle.rht_words.specs.declared.op.Op.TheVariants.{Load, Store, Exchange, Add, Sub, And, Or}
use Rattle.rht_words.specs.declared.env.Env.{Env}
use Rattle.rht_words.specs.declared.geometry.Geometry.{Geometry}
use Rattle.rht_words.specs.Operations.{op_place, old_of, word_after, applied}
use Rattle.rht_words.specs.Places.{Slot, FutureWord, Node, NodeWord, KeyWord, OwnerWord, ListLink, ChainLink, IsBucketPlace, nodes_at, place_of}
use Rattle.rht_words.proofs.PlacesApart.{parts_in_order}
use Rattle.rht_words.proofs.WordChanges.{applied-other}
use Rattle.rht_arena.specs.GiveNode.{GiveNodeModel, give_node_plan}
use Rattle.rht_arena.specs.NewNode.{new_node_plan_at}
use Rattle.rht_arena.specs.declared.new_node.NewNodeAt.{NewNodeAt}
use Rattle.rht_arena.specs.declared.new_node.NewNodeAt.TheVariants as news
use Rattle.rht_arena.specs.TakeNode.{plan_at as take_node_plan_at}
use Rattle.rht_arena.specs.declared.take_node.TakeNodeAt.{TakeNodeAt}
use Rattle.rht_arena.specs.declared.take_node.TakeNodeAt.TheVariants as takes
use Rattle.rht_nest.specs.Locate.{locate_plan_at}
use Rattle.rht_nest.specs.declared.locate.LocateAt.{LocateAt}
use Rattle.rht_nest.specs.declared.locate.LocateAt.TheVariants as locates
use Rattle.rht_chain.specs.LockedWalk.{walk_plan_at}
use Rattle.rht_chain.specs.declared.locked_walk.LockedWalkAt.{LockedWalkAt}
use Rattle.rht_chain.specs.declared.locked_walk.LockedWalkAt.TheVariants as walks
use Rattle.rht_chain.specs.Lock.{lock_plan_at}
use Rattle.rht_chain.specs.declared.lock.LockAt.{LockAt}
use Rattle.rht_chain.specs.declared.lock.LockAt.TheVariants as locks
use Rattle.rht_chain.specs.Probe.{probe_plan_at, IsProbeAtIn}
use Rattle.rht_chain.specs.declared.probe.ProbeAt.{ProbeAt}
use Rattle.rht_chain.specs.declared.probe.ProbeAt.TheVariants as probes
use Rattle.rht_chain.specs.Relink.{RelinkModel, relink_plan_at}
use Rattle.rht_chain.specs.declared.relink.RelinkAt.{RelinkAt}
use Rattle.rht_chain.specs.declared.relink.RelinkAt.TheVariants as relinks
use Rattle.rht_chain.specs.Unlock.{unlock_plan, IsUnlockIn}
use Rattle.rht_chain.specs.declared.unlock.Unlock.{Unlock}
use Rattle.rht_nest.specs.Reach.{reach_plan_at}
use Rattle.rht_nest.specs.declared.reach.ReachAt.{ReachAt}
use Rattle.rht_nest.specs.declared.reach.ReachAt.TheVariants as reaches
use Rattle.rht_find.specs.Find.{plan_at as find_plan_at}
use Rattle.rht_find.specs.declared.find.FindAt.{FindAt}
use Rattle.rht_find.specs.declared.find.FindAt.TheVariants as finds
use Rattle.rht_release.specs.Seek.{seek_plan_at, IsSeekAtIn}
use Rattle.rht_release.specs.declared.seek.SeekAt.{SeekAt}
use Rattle.rht_release.specs.declared.seek.SeekAt.TheVariants as seeks
use Rattle.rht_release.specs.ListSearch.{search_plan}
use Rattle.rht_release.specs.declared.list_search.ListSearch.{ListSearch}
use Rattle.rht_release.specs.declared.list_search.ListSearch.TheVariants as searches
use Rattle.rht_release.specs.All as all
use Rattle.rht_release.specs.declared.all.AllAt.{AllAt}
use Rattle.rht_release.specs.declared.all.AllAt.TheVariants as alls
use Rattle.rht_release.specs.Release as release
use Rattle.rht_release.specs.declared.release.ReleaseAt.{ReleaseAt}
use Rattle.rht_release.specs.declared.release.ReleaseAt.TheVariants as releases
use Rattle.rht_release.specs.Rebind as rebind
use Rattle.rht_release.specs.declared.rebind.RebindAt.{RebindAt}
use Rattle.rht_release.specs.declared.rebind.RebindAt.TheVariants as rebinds
use Rattle.rht_grace.specs.Batch.{BatchModel}
use Rattle.rht_grace.specs.Tidy as tidy
use Rattle.rht_grace.specs.declared.tidy.TidyAt.{TidyAt}
use Rattle.rht_grace.specs.declared.tidy.TidyAt.TheVariants as tidy_at
use Rattle.rht_walk.specs.Walk as walk
use Rattle.rht_walk.specs.declared.walk.WalkAt.{WalkAt}
use Rattle.rht_walk.specs.declared.walk.WalkAt.TheVariants as walk_at
use Rattle.rht_core.specs.Jobs as jobs
use Rattle.rht_core.specs.Jobs.{Job, call_of, job_plan}
use Rattle.rht_ghost.proofs.Theory.Steps.{unchanged}
use Rattle.rht_core.proofs.Machines.JobSteps.{JobIn}
use Rattle.rht_core.proofs.Machines.NeverHeld.{may_make}

-- the place is that of the work lock, of the count of ports, of a section word, or of a word behind the slots
abbrev pub IsBesideSlots : ℕ → Type 0
IsBesideSlots place = (place ≡ 1) ⊎ (place ≡ 2) ⊎ ((8 ≤ place) × (place < 24)) ⊎ (280 ≤ place)

-- the operation is a load, or on such a place
abbrev pub SparesSlots : Op → Type 0
SparesSlots op = ((place : ℕ) × (op ≡ Load place)) ⊎ IsBesideSlots (op_place op)

-- so does what is made of it in a hold
pub soft-spares : (over : Bool) (op : Op) → SparesSlots op → SparesSlots (soft over op)
soft-spares over (Add place by) spares =
    cond_both (turns_section place by && over) _ _ SparesSlots (λ t. inl (place, refl)) (λ f. spares)
soft-spares over (Load place) spares = spares
soft-spares over (Store place value) spares = spares
soft-spares over (Exchange place old new) spares = spares
soft-spares over (Sub place by) spares = spares
soft-spares over (And place mask) spares = spares
soft-spares over (Or place mask) spares = spares

-- it leaves each other word
pub spared_slots : (words : List ℕ) (op : Op) (place : ℕ) → SparesSlots op → (IsBesideSlots place → ⊥)
    → get_or (applied words op) place 0 ≡ get_or words place 0
spared_slots words op place (inl (at, load)) other =
    ap (λ w. get_or w place 0) (unchanged words op (ap (word_after (old_of words op)) load))
spared_slots words op place (inr beside) other =
    applied-other words op place (λ same. other (subst IsBesideSlots (sym same) beside))

-- ---- pieces

pub by_load : (op : Op) (place : ℕ) → op ≡ Load place → SparesSlots op
by_load op place is = inl (place, is)

pub behind : (op : Op) → 280 ≤ op_place op → SparesSlots op
behind op high = inr (inr (inr (inr high)))

-- nodes and buckets stand behind the slots
nodes_behind : (h : Geometry) → 280 ≤ nodes_at h
nodes_behind h = let order = parts_in_order h in omega (arith, order.page_map, order.nodes)

bucket_behind : (g : Geometry) (place : ℕ) → IsBucketPlace g place → 280 ≤ place
bucket_behind g place is =
    let order = parts_in_order g in
    omega (arith, is.0, order.page_map, order.nodes, order.pages)

pub at_node : (h : Geometry) (node : ℕ) (word : NodeWord) (op : Op) → op_place op ≡ place_of h (Node node word) → SparesSlots op
at_node h node word op is = behind op (omega (arith, is, nodes_behind h))

pub at_bucket : (g : Geometry) (op : Op) → IsBucketPlace g (op_place op) → SparesSlots op
at_bucket g op is = behind op (bucket_behind g (op_place op) is)

take_node-spares : (h : Geometry) (state : TakeNodeAt) → SparesSlots (take_node_plan_at h state)
take_node-spares h (takes.MapWord index) = behind _ (omega arith)
take_node-spares h (takes.Claim index bit) = behind _ (omega arith)

pub new_node-spares : (h : Geometry) (key owner : ℕ) (state : NewNodeAt) → SparesSlots (new_node_plan_at h key owner state)
new_node-spares h key owner (news.Taking take) = take_node-spares take.geometry take.at
new_node-spares h key owner (news.Key node) = at_node h node KeyWord _ refl
new_node-spares h key owner (news.Owner node) = at_node h node OwnerWord _ refl
new_node-spares h key owner (news.ListLink node) = at_node h node ListLink _ refl

pub give_node-spares : (give : GiveNodeModel) → SparesSlots (give_node_plan give)
give_node-spares give = behind _ (omega arith)

pub locate-spares : (h : Geometry) (table : ℕ) (state : LocateAt) → SparesSlots (locate_plan_at h table state)
locate-spares h table locates.Shape = by_load _ _ refl
locate-spares h table _ = by_load _ _ refl

reach-spares : (h : Geometry) (table : ℕ) (state : ReachAt) → SparesSlots (reach_plan_at h table state)
reach-spares h table reaches.Shape = by_load _ _ refl
reach-spares h table _ = by_load _ _ refl

search-spares : (h : Geometry) (search : ListSearch) → SparesSlots (search_plan h search)
search-spares h (searches.Owner node before) = by_load _ _ refl
search-spares h (searches.ListLink node) = by_load _ _ refl

-- what opens or closes a section is on the caller's section word
pub at_section : {c : ℕ} → c < 16 → (op : Op) → op_place op ≡ 8 + c → SparesSlots op
at_section few op is = inr (inr (inr (inl (omega (arith, is), omega (arith, few, is)))))

module _ (g : Geometry) where
  pub lock-spares : (place : ℕ) (state : LockAt) → IsBucketPlace g place → SparesSlots (lock_plan_at place state)
  lock-spares place locks.Word there = by_load _ place refl
  lock-spares place (locks.Exchange word) there = at_bucket g _ there

  walk-spares : (h : Geometry) (state : LockedWalkAt) → SparesSlots (walk_plan_at h state)
  walk-spares h (walks.Key node) = by_load _ _ refl
  walk-spares h (walks.ChainLink node) = by_load _ _ refl

  pub probe-spares : (state : ProbeAt) → IsProbeAtIn g state → SparesSlots (probe_plan_at state)
  probe-spares (probes.Locking lock) within = lock-spares lock.place lock.at within.place_in
  probe-spares (probes.Walking bucket walk) within = walk-spares walk.geometry walk.at

  pub relink-spares : (relink : RelinkModel) (state : RelinkAt) → IsBucketPlace g relink.place
      → SparesSlots (relink_plan_at relink state)
  relink-spares relink (relinks.ChainLink before) there = at_node relink.geometry before ChainLink _ refl
  relink-spares relink (relinks.Word word) there = at_bucket g _ there

  pub unlock-spares : (unlock : Unlock) → IsUnlockIn g unlock → SparesSlots (unlock_plan unlock)
  unlock-spares unlock within = at_bucket g _ within.place_in

  seek-spares : (h : Geometry) (state : SeekAt) → IsSeekAtIn g state → SparesSlots (seek_plan_at h state)
  seek-spares h seeks.CurrentTable within = by_load _ _ refl
  seek-spares h (seeks.Locating locate) within = locate-spares locate.geometry locate.table locate.at
  seek-spares h (seeks.Probing table shape probe) within = probe-spares probe.at within.probe_in.at_in
  seek-spares h (seeks.Future table bucket) within = by_load _ _ refl
  seek-spares h (seeks.Leaving table unlock future) within = unlock-spares unlock within.unlock_in

-- ---- calls

module _ (env : Env) (c : ℕ) where
  abbrev g : Geometry
  g = env.geometry

  -- a look-up loads, and opens and closes its section
  find-spares : c < 16 → (state : FindAt) → SparesSlots (find_plan_at env c state)
  find-spares few finds.Opening = at_section few _ refl
  find-spares few (finds.Locating reach) = reach-spares reach.geometry reach.table reach.at
  find-spares few (finds.Closing reply) = at_section few _ refl
  find-spares few _ = by_load _ _ refl

  all-spares : c < 16 → (state : AllAt) → all.IsAllAtIn env state → SparesSlots (all.plan_at env c state)
  all-spares few alls.Opening within = at_section few _ refl
  all-spares few (alls.Seeking seek) within = seek-spares g seek.geometry seek.at within.at_in
  all-spares few (alls.Owner found node) within = by_load _ _ refl
  all-spares few (alls.ListLink found node) within = by_load _ _ refl
  all-spares few (alls.Unlocking table unlock) within = unlock-spares g unlock within.unlock_in
  all-spares few alls.Closing within = at_section few _ refl

  release-spares : c < 16 → (state : ReleaseAt) → release.IsReleaseAtIn env state → SparesSlots (release.plan_at env c state)
  release-spares few releases.Opening within = at_section few _ refl
  release-spares few (releases.Seeking seek) within = seek-spares g seek.geometry seek.at within.at_in
  release-spares few (releases.Searching found search) within = search-spares g search
  release-spares few (releases.CuttingOut found node before link) within = at_node g before ListLink _ refl
  release-spares few (releases.SecondLink found second link) within = at_node g second ChainLink _ refl
  release-spares few (releases.Promoting found relink) within = relink-spares g relink relink.at within.relink_in.place_in
  release-spares few (releases.Unlinking found relink) within = relink-spares g relink relink.at within.relink_in.place_in
  release-spares few (releases.Lowering node shape) within = inr (inr (inl refl))
  release-spares few (releases.Unlocking table unlock removed) within = unlock-spares g unlock within.unlock_in
  release-spares few (releases.Closing reply removed) within = at_section few _ refl
  release-spares few _ within = by_load _ _ refl

  rebind-spares : c < 16 → (state : RebindAt) → rebind.IsRebindAtIn env state → SparesSlots (rebind.plan_at env c state)
  rebind-spares few (rebinds.Filling new) within = new_node-spares new.geometry new.key new.owner new.at
  rebind-spares few (rebinds.Opening node) within = at_section few _ refl
  rebind-spares few (rebinds.Seeking node seek) within = seek-spares g seek.geometry seek.at within.seek_in.at_in
  rebind-spares few (rebinds.Searching node found search) within = search-spares g search
  rebind-spares few (rebinds.LinkBehind node found old before) within = by_load _ _ refl
  rebind-spares few (rebinds.OwnListLink node found old before link) within = at_node g node ListLink _ refl
  rebind-spares few (rebinds.Swapping node found old before) within = at_node g before ListLink _ refl
  rebind-spares few (rebinds.ChainLink node found) within = by_load _ _ refl
  rebind-spares few (rebinds.Link node found link) within = at_node g node ChainLink _ refl
  rebind-spares few (rebinds.Replacing node found relink) within = relink-spares g relink relink.at within.relink_in.place_in
  rebind-spares few (rebinds.Unlocking table unlock end) within = unlock-spares g unlock within.unlock_in
  rebind-spares few (rebinds.Closing end) within = at_section few _ refl
  rebind-spares few (rebinds.Giving give) within = give_node-spares give

-- a tidying loads, or gives a node back
tidy-spares : (g : Geometry) (batch : BatchModel) (state : TidyAt) → SparesSlots (tidy.plan_at g batch state)
tidy-spares g batch (tidy_at.Keeping caller) = by_load _ _ refl
tidy-spares g batch (tidy_at.Asking caller) = by_load _ _ refl
tidy-spares g batch (tidy_at.Giving index) = give_node-spares (record { geometry = g; node = get_or batch.waiting index 0 })

-- a walk loads, or turns its section
unlocked_walk-spares : (g : Geometry) (c : ℕ) → c < 16 → (state : WalkAt) → SparesSlots (walk.plan_at g c state)
unlocked_walk-spares g c few walk_at.Opening = at_section few _ refl
unlocked_walk-spares g c few (walk_at.Closing end) = at_section few _ refl
unlocked_walk-spares g c few _ = by_load _ _ refl

-- nor has any job of a call that makes no table
pub other-spares : (env : Env) (mix : ℕ → ℕ → ℕ → ℕ) (c : ℕ) → c < 16 → (job : Job) → JobIn env mix c job
    → may_make (call_of job) ≡ false → SparesSlots (job_plan env c job)
other-spares env mix c few (jobs.finds port state) within none = find-spares env c few state
other-spares env mix c few (jobs.binds port owner once state) within none = absurd (cc)
other-spares env mix c few (jobs.lists port room state) within none = all-spares env c few state within.at_in
other-spares env mix c few (jobs.releases port owner state) within none = release-spares env c few state within
other-spares env mix c few (jobs.rebinds port owner new state) within none = rebind-spares env c few state within.at_in
other-spares env mix c few (jobs.works state) within none = absurd (cc)
other-spares env mix c few (jobs.tidies batch state) within none = tidy-spares env.geometry batch state
other-spares env mix c few (jobs.walks from limit room state) within none = unlocked_walk-spares env.geometry c few state
other-spares env mix c few _ within none = by_load _ _ refl

-- an operation that leaves the words of slots attaches no table
pub spares-none : (env : Env) (op : Op) (last old new : ℕ) → SparesSlots op → last < 8
    → op ≡ Exchange (place_of env.geometry (Slot last FutureWord)) old new → ⊥
spares-none env op last old new (inl (place, load)) l is = cc
spares-none env op last old new (inr beside) l is = go (subst IsBesideSlots (ap op_place is) beside)
  where
    go : IsBesideSlots (place_of env.geometry (Slot last FutureWord)) → ⊥
    go (inl same) = omega (arith, same)
    go (inr (inl same)) = omega (arith, same)
    go (inr (inr (inl (from, below)))) = omega (arith, from, below)
    go (inr (inr (inr high))) = omega (arith, high, l)
