-- The bucket that a call has locked is one of the table at which its state stands. Where what is known of the state doesn't say so, it is kept
-- from the state in which the bucket was come to.
use Rattle.std.proofs.Common.{◌≡◌, ℕ, ◌/◌, Bool, min, nat_le, nat_eq, List, Option, Some, None, refl, sym, subst}
use Rattle.std.specs.Prelude.{◌==◌, ◌%◌}
use Rattle.std.proofs.lemmas.Bool.{cond_both}
use Rattle.rht_words.specs.declared.env.Env.{Env}
use Rattle.rht_words.specs.declared.geometry.Geometry.{Geometry}
use Rattle.rht_words.specs.declared.config.Kind.{Kind}
use Rattle.rht_words.specs.declared.config.Kind.TheVariants as kinds
use Rattle.rht_words.specs.declared.machine.Next.{Next}
use Rattle.rht_words.specs.declared.machine.Next.TheVariants.{Go, Done}
use Rattle.rht_words.specs.declared.machine.Start.{Start}
use Rattle.rht_words.specs.declared.machine.Start.TheVariants as starts
use Rattle.rht_words.specs.Links.{slot_of, node_of}
use Rattle.rht_words.specs.Shapes.{size_of, unpacked}
use Rattle.rht_arena.specs.NewNode.{NewNodeModel, new_node_after}
use Rattle.rht_policy.specs.Thresholds.{is_above_75, is_above_100, is_above_max}
use Rattle.rht_chain.specs.Lock.{LockModel, lock_after_at}
use Rattle.rht_chain.specs.LockedWalk.{LockedWalkModel, locked_walk_after, walk_from}
use Rattle.rht_chain.specs.Probe.{ProbeModel, probe_after, probe_after_at, lock_taken, walk_or_seen, walk_taken}
use Rattle.rht_chain.specs.Relink.{RelinkModel, relink_after_at}
use Rattle.rht_chain.specs.declared.lock.LockAt.{LockAt}
use Rattle.rht_chain.specs.declared.lock.LockAt.TheVariants as locks
use Rattle.rht_chain.specs.declared.locked.Locked.{Locked}
use Rattle.rht_chain.specs.declared.locked.Then.{Then}
use Rattle.rht_chain.specs.declared.locked.Then.TheVariants.{Table, Answer}
use Rattle.rht_chain.specs.declared.locked_walk.Seen.{Seen}
use Rattle.rht_chain.specs.declared.probe.Probed.{Probed}
use Rattle.rht_chain.specs.declared.probe.ProbeAt.{ProbeAt}
use Rattle.rht_chain.specs.declared.probe.ProbeAt.TheVariants as probes
use Rattle.rht_chain.specs.declared.relink.RelinkAt.{RelinkAt}
use Rattle.rht_chain.specs.declared.relink.RelinkAt.TheVariants as relinks
use Rattle.rht_chain.specs.declared.unlock.Unlock.{Unlock}
use Rattle.rht_model.specs.declared.history.Reply.{Reply}
use Rattle.rht_nest.specs.Grow.{GrowModel, grow_after}
use Rattle.rht_nest.specs.Locate.{LocateModel, locate_after}
use Rattle.rht_nest.specs.Make.{MakeModel, make_after}
use Rattle.rht_nest.specs.Place.{PlaceModel, entered}
use Rattle.rht_nest.specs.Unmake.{UnmakeModel, unmake_after}
use Rattle.rht_nest.specs.declared.locate.Located.{Located}
use Rattle.rht_nest.specs.declared.locate.LocatedBucket.{LocatedBucket}
use Rattle.rht_nest.specs.declared.locate.LocatedBucket.TheVariants as buckets
use Rattle.rht_bind.specs.Bind as bind
use Rattle.rht_bind.specs.Endings as endings_of
use Rattle.rht_bind.specs.Growing as growing_of
use Rattle.rht_bind.specs.declared.bind.Attempt.{Attempt}
use Rattle.rht_bind.specs.declared.bind.Claimed.{Claimed}
use Rattle.rht_bind.specs.declared.bind.FoundList.{FoundList}
use Rattle.rht_bind.specs.declared.bind.ending.Ending.{Ending}
use Rattle.rht_bind.specs.declared.bind.ending.Ending.TheVariants as endings
use Rattle.rht_bind.specs.declared.bind.growth.Growing.{Growing}
use Rattle.rht_bind.specs.declared.bind.growth.Refusal.{Refusal}
use Rattle.rht_bind.specs.declared.bind.BindAt.{BindAt}
use Rattle.rht_bind.specs.declared.bind.BindAt.TheVariants as binding
use Rattle.rht_bind.proofs.BindKnowledge.{known_of_bind}
use Rattle.rht_release.specs.All as all
use Rattle.rht_release.specs.Rebind as rebind
use Rattle.rht_release.specs.Release as release
use Rattle.rht_release.specs.ListSearch.{search_after}
use Rattle.rht_release.specs.Seek as seek_of
use Rattle.rht_release.specs.Seek.{SeekModel, seek_after, seek_after_at}
use Rattle.rht_release.specs.declared.all.AllAt.{AllAt}
use Rattle.rht_release.specs.declared.all.AllAt.TheVariants as listing
use Rattle.rht_release.specs.declared.found_port.FoundPort.{FoundPort}
use Rattle.rht_release.specs.declared.list_search.ListPlace.{ListPlace}
use Rattle.rht_release.specs.declared.list_search.ListSearch.{ListSearch}
use Rattle.rht_release.specs.declared.rebind.RebindAt.{RebindAt}
use Rattle.rht_release.specs.declared.rebind.RebindAt.TheVariants as rebinding
use Rattle.rht_release.specs.declared.rebind.RebindEnd.{RebindEnd}
use Rattle.rht_release.specs.declared.rebind.RebindEnd.TheVariants as ends
use Rattle.rht_release.specs.declared.release.ReleaseAt.{ReleaseAt}
use Rattle.rht_release.specs.declared.release.ReleaseAt.TheVariants as releasing
use Rattle.rht_release.specs.declared.seek.SeekAt.{SeekAt}
use Rattle.rht_release.specs.declared.seek.SeekAt.TheVariants as seeks
use Rattle.rht_release.proofs.AllSteps.{known_of_all}
use Rattle.rht_release.proofs.RebindKnowledge.{known_of_rebind, own}
use Rattle.rht_release.proofs.ReleaseKnowledge.{known_of_release}
use Rattle.rht_release.proofs.Seeks.{known_of_seek}
use Rattle.rht_ghost.proofs.Pieces.Probes.{place_of_probe}
use Rattle.rht_ghost.proofs.Theory.Ghosts.{Ghost, PageOf}
use Rattle.rht_ghost.proofs.Theory.Knowledge.{IsAtHome, TableMeans}
use Rattle.rht_ghost.proofs.Theory.Knowns.{KnownNode}
use Rattle.rht_ghost.proofs.Theory.Passed.{home-word}
use Rattle.rht_ghost.proofs.Theory.Steps.{mem}
use Rattle.rht_ghost.proofs.Theory.Wholes.{Whole, IsAt, word_index, at-there}

module _ (env : Env) (mix : ℕ → ℕ → ℕ → ℕ) (G : Ghost) where
  -- the bucket with this word is in a page of the table in this slot
  pub record IsTied (slot place : ℕ) : Type 0 where
    pub at : IsAt G slot
    pub of : G.page (word_index env mix place / 64) ≡ PageOf at.table

  -- ---- by state

  abbrev pub tied_of_seek : SeekAt → Type 0
  tied_of_seek seeks.CurrentTable = Unit {0}
  tied_of_seek (seeks.Locating locate) = Unit {0}
  tied_of_seek (seeks.Probing table shape probe) = Unit {0}
  tied_of_seek (seeks.Future table bucket) = Unit {0}
  tied_of_seek (seeks.Leaving table unlock future) = IsTied table unlock.place

  abbrev pub tied_at : FoundPort → Type 0
  tied_at found = IsTied found.table found.bucket.place

  abbrev pub tied_of_all : AllAt → Type 0
  tied_of_all listing.Opening = Unit {0}
  tied_of_all (listing.Seeking seek) = tied_of_seek seek.at
  tied_of_all (listing.Owner found node) = tied_at found
  tied_of_all (listing.ListLink found node) = tied_at found
  tied_of_all (listing.Unlocking table unlock) = IsTied table unlock.place
  tied_of_all listing.Closing = Unit {0}

  abbrev pub tied_of_release : ReleaseAt → Type 0
  tied_of_release releasing.Opening = Unit {0}
  tied_of_release (releasing.Seeking seek) = tied_of_seek seek.at
  tied_of_release (releasing.Searching found search) = tied_at found
  tied_of_release (releasing.LinkBehind found node before) = tied_at found
  tied_of_release (releasing.CuttingOut found node before link) = tied_at found
  tied_of_release (releasing.ChainLink found second) = tied_at found
  tied_of_release (releasing.SecondLink found second link) = tied_at found
  tied_of_release (releasing.Promoting found relink) = tied_at found
  tied_of_release (releasing.Unlinking found relink) = tied_at found
  tied_of_release (releasing.Lowering node shape) = Unit {0}
  tied_of_release (releasing.Unlocking table unlock removed) = IsTied table unlock.place
  tied_of_release (releasing.Closing reply removed) = Unit {0}

  abbrev pub tied_of_rebind : RebindAt → Type 0
  tied_of_rebind (rebinding.Filling new) = Unit {0}
  tied_of_rebind (rebinding.Opening node) = Unit {0}
  tied_of_rebind (rebinding.Seeking node seek) = tied_of_seek seek.at
  tied_of_rebind (rebinding.Searching node found search) = tied_at found
  tied_of_rebind (rebinding.LinkBehind node found old before) = tied_at found
  tied_of_rebind (rebinding.OwnListLink node found old before link) = tied_at found
  tied_of_rebind (rebinding.Swapping node found old before) = tied_at found
  tied_of_rebind (rebinding.ChainLink node found) = tied_at found
  tied_of_rebind (rebinding.Link node found link) = tied_at found
  tied_of_rebind (rebinding.Replacing node found relink) = tied_at found
  tied_of_rebind (rebinding.Unlocking table unlock end) = IsTied table unlock.place
  tied_of_rebind (rebinding.Closing end) = Unit {0}
  tied_of_rebind (rebinding.Giving give) = Unit {0}

  abbrev pub tied_of_bind : BindAt → Type 0
  tied_of_bind (binding.Filling new) = Unit {0}
  tied_of_bind (binding.Opening attempt) = Unit {0}
  tied_of_bind (binding.CurrentTable attempt) = Unit {0}
  tied_of_bind (binding.Locating attempt locate) = Unit {0}
  tied_of_bind (binding.Entering attempt table shape place grow) = Unit {0}
  tied_of_bind (binding.Probing attempt table shape probe) = Unit {0}
  tied_of_bind (binding.FoundOwner claimed found) = Unit {0}
  tied_of_bind (binding.ListLink list) = Unit {0}
  tied_of_bind (binding.ChainLink list) = Unit {0}
  tied_of_bind (binding.LinkBehind list link) = Unit {0}
  tied_of_bind (binding.Replacing list relink) = IsTied list.claimed.table list.claimed.bucket.place
  tied_of_bind (binding.Future claimed length) = Unit {0}
  tied_of_bind (binding.Count claimed) = Unit {0}
  tied_of_bind (binding.Link claimed) = Unit {0}
  tied_of_bind (binding.Raise claimed) = Unit {0}
  tied_of_bind (binding.Publish node table relink kick) = Unit {0}
  tied_of_bind (binding.Unlocking attempt table unlock next) = IsTied table unlock.place
  tied_of_bind (binding.UnlockingFull growing unlock) = IsTied growing.table unlock.place
  tied_of_bind (binding.Root growing) = Unit {0}
  tied_of_bind (binding.GrowthCount growing root) = Unit {0}
  tied_of_bind (binding.Making growing size make) = Unit {0}
  tied_of_bind (binding.FutureAgain growing refusal) = Unit {0}
  tied_of_bind (binding.Attaching growing slot shape) = Unit {0}
  tied_of_bind (binding.Unmaking attempt unmake answer) = Unit {0}
  tied_of_bind (binding.Closing ending) = Unit {0}
  tied_of_bind (binding.Giving give reply) = Unit {0}

  -- ---- on the way to a port

  -- a port that was found is in the bucket that the way has come to
  abbrev pub tied_sought : SeekAt × Next (Option FoundPort) → Type 0
  tied_sought (state, Go) = tied_of_seek state
  tied_sought (state, Done None) = Unit {0}
  tied_sought (state, Done (Some found)) = tied_at found

  -- a probe ends in the bucket in which it is
  abbrev InPlace : ℕ → ProbeAt × Next Probed → Type 0
  InPlace place (state, Go) = Unit {0}
  InPlace place (state, Done end) = end.bucket.place ≡ place

  walk_begun-place : (lock : LockModel) (bucket : Locked) (g : Geometry) (key first : ℕ) (node : Option ℕ)
      → InPlace bucket.place (walk_or_seen lock bucket (walk_from g key first node))
  walk_begun-place lock bucket g key first None = refl
  walk_begun-place lock bucket g key first (Some n) = tt

  walk_taken-place : (bucket : Locked) (next : LockedWalkModel × Next Seen) → InPlace bucket.place (walk_taken bucket next.0 next.1)
  walk_taken-place bucket (m, Go) = tt
  walk_taken-place bucket (m, Done seen) = refl

  locked-place : (m : ProbeModel) (lock : LockModel) (state : LockAt) (word : ℕ)
      → InPlace lock.place (let r = lock_after_at (record lock { at = state }) state word in lock_taken m.geometry m.key r.0 r.1)
  locked-place m lock locks.Word word =
      cond_both (word % 2 == 1) _ _ (λ (r : LockModel × Next ℕ). InPlace lock.place (lock_taken m.geometry m.key r.0 r.1)) (λ t. tt) (λ f. tt)
  locked-place m lock (locks.Exchange found) word =
      cond_both (word == found) _ _ (λ (r : LockModel × Next ℕ). InPlace lock.place (lock_taken m.geometry m.key r.0 r.1))
      (λ t. walk_begun-place _ _ m.geometry m.key _ _) (λ f. tt)

  probe-place : (m : ProbeModel) (state : ProbeAt) (word : ℕ) → InPlace (place_of_probe state) (probe_after_at m.geometry m.key state word)
  probe-place m (probes.Locking lock) word = locked-place m lock lock.at word
  probe-place m (probes.Walking bucket walk) word = walk_taken-place bucket (locked_walk_after walk word)

  early-tied : (g : Geometry) (locate : LocateModel) (early : Option ℕ) → tied_sought (seek_of.early_or_none g locate early)
  early-tied g locate None = tt
  early-tied g locate (Some next) = tt

  located-tied : (g : Geometry) (port : ℕ) (next : LocateModel × Next Located) → tied_sought (seek_of.located g port next.0 next.1)
  located-tied g port (m, Go) = tt
  located-tied g port (m, Done is) = go is.bucket
    where
      go : (bucket : LocatedBucket) → tied_sought (seek_of.bucket_or_early g port m is.shape bucket)
      go (buckets.At place) = tt
      go (buckets.Missing place early) = early-tied g m early

  seen-tied : (table shape : ℕ) (probe : ProbeModel) (end : Probed) (found : Option ℕ) → IsTied table end.bucket.place
      → tied_sought (seek_of.found_or_future table shape probe end found)
  seen-tied table shape probe end None tied = tt
  seen-tied table shape probe end (Some node) tied = tied

  probed-tied : (table shape place : ℕ) (probe : ProbeModel) (next : ProbeAt × Next Probed) → IsTied table place → InPlace place next
      → tied_sought (seek_of.probed table shape (record probe { at = next.0 }) next.1)
  probed-tied table shape place probe (state, Go) tied is = tt
  probed-tied table shape place probe (state, Done end) tied is =
      seen-tied table shape (record probe { at = state }) end end.seen.found (subst (IsTied table) (sym is) tied)

  left-tied : (g : Geometry) (table : ℕ) (unlock : Unlock) (future : Option ℕ) → tied_sought (seek_of.left g table unlock future)
  left-tied g table unlock None = tt
  left-tied g table unlock (Some next) = tt

  -- ---- a port that was found

  all-tied : (seek : SeekModel) (next : Next (Option FoundPort)) → tied_sought (seek.at, next) → tied_of_all (all.sought seek next)
  all-tied seek Go tied = tied
  all-tied seek (Done None) tied = tt
  all-tied seek (Done (Some found)) tied = tied

  all_followed-tied : (found : FoundPort) (next : Option ℕ) → tied_at found → tied_of_all (all.list_followed found next)
  all_followed-tied found None tied = record { at = tied.at; of = tied.of }
  all_followed-tied found (Some n) tied = tied

  release-tied : (seek : SeekModel) (next : Next (Option FoundPort)) → tied_sought (seek.at, next) → tied_of_release (release.sought seek next)
  release-tied seek Go tied = tied
  release-tied seek (Done None) tied = tt
  release-tied seek (Done (Some found)) tied = tied

  release_searched-tied : (found : FoundPort) (search : ListSearch) (next : Next (Option ListPlace)) → tied_at found
      → tied_of_release (release.searched found search next)
  release_searched-tied found search Go tied = tied
  release_searched-tied found search (Done None) tied = record { at = tied.at; of = tied.of }
  release_searched-tied found search (Done (Some place)) tied = tied

  release_cut-tied : (g : Geometry) (found : FoundPort) (node link : ℕ) (before : Option ℕ) → tied_at found
      → tied_of_release (release.cut_or_chain g found node link before)
  release_cut-tied g found node link None tied = tied
  release_cut-tied g found node link (Some before) tied = tied

  release_linked-tied : (g : Geometry) (found : FoundPort) (link : ℕ) (second : Option ℕ) → tied_at found
      → tied_of_release (release.unlink_or_promote g found link second)
  release_linked-tied g found link None tied = tied
  release_linked-tied g found link (Some second) tied = tied

  promoted-tied : (found : FoundPort) (relink : RelinkModel) (state : RelinkAt) → tied_at found
      → tied_of_release (let r = relink_after_at relink state in release.promoted found r.0 r.1)
  promoted-tied found relink (relinks.ChainLink before) tied = tied
  promoted-tied found relink (relinks.Word word) tied = tt

  unlinked-tied : (found : FoundPort) (relink : RelinkModel) (state : RelinkAt) → tied_at found
      → tied_of_release (let r = relink_after_at relink state in release.unlinked found r.0 r.1)
  unlinked-tied found relink (relinks.ChainLink before) tied = tied
  unlinked-tied found relink (relinks.Word word) tied = tt

  rebind_filled-tied : (new : NewNodeModel) (next : Next (Option ℕ)) → tied_of_rebind (rebind.filled new next).0
  rebind_filled-tied new Go = tt
  rebind_filled-tied new (Done None) = tt
  rebind_filled-tied new (Done (Some node)) = tt

  rebind-tied : (node : ℕ) (seek : SeekModel) (next : Next (Option FoundPort)) → tied_sought (seek.at, next)
      → tied_of_rebind (rebind.sought node seek next)
  rebind-tied node seek Go tied = tied
  rebind-tied node seek (Done None) tied = tt
  rebind-tied node seek (Done (Some found)) tied = tied

  rebind_searched-tied : (node : ℕ) (found : FoundPort) (search : ListSearch) (next : Next (Option ListPlace)) → tied_at found
      → tied_of_rebind (rebind.searched node found search next)
  rebind_searched-tied node found search Go tied = tied
  rebind_searched-tied node found search (Done None) tied = record { at = tied.at; of = tied.of }
  rebind_searched-tied node found search (Done (Some place)) tied = tied

  rebind_swapped-tied : (node : ℕ) (found : FoundPort) (old : ℕ) (before : Option ℕ) → tied_at found
      → tied_of_rebind (rebind.swap_or_chain node found old before)
  rebind_swapped-tied node found old None tied = tied
  rebind_swapped-tied node found old (Some before) tied = tied

  replaced-tied : (node : ℕ) (found : FoundPort) (relink : RelinkModel) (state : RelinkAt) → tied_at found
      → tied_of_rebind (let r = relink_after_at relink state in rebind.replaced node found r.0 r.1)
  replaced-tied node found relink (relinks.ChainLink before) tied = tied
  replaced-tied node found relink (relinks.Word word) tied = tt

  rebind_closed-tied : (g : Geometry) (end : RebindEnd) → tied_of_rebind (rebind.closed g end).0
  rebind_closed-tied g (ends.Rebound removed) = tt
  rebind_closed-tied g (ends.Absent node) = tt

  -- ---- a bind

  module _ (env' : Env) (port : ℕ) where
    filled-tied : (new : NewNodeModel) (next : Next (Option ℕ)) → tied_of_bind (bind.filled new next).0
    filled-tied new Go = tt
    filled-tied new (Done None) = tt
    filled-tied new (Done (Some node)) = tt

    bucket-tied : (attempt : Attempt) (table shape : ℕ) (bucket : LocatedBucket)
        → tied_of_bind (bind.at_bucket env' port attempt table shape bucket)
    bucket-tied attempt table shape (buckets.At place) = tt
    bucket-tied attempt table shape (buckets.Missing place None) = tt
    bucket-tied attempt table shape (buckets.Missing place (Some next)) = tt

    at_located-tied : (attempt : Attempt) (next : LocateModel × Next Located) → tied_of_bind (bind.located env' port attempt next.0 next.1)
    at_located-tied attempt (m, Go) = tt
    at_located-tied attempt (m, Done is) = bucket-tied attempt m.table is.shape is.bucket

    page-tied : (attempt : Attempt) (table shape : ℕ) (start : Start PlaceModel ℕ)
        → tied_of_bind (bind.behind_page env' port attempt table shape start)
    page-tied attempt table shape (starts.Running next) = tt
    page-tied attempt table shape (starts.Done place) = tt

    grown-tied : (attempt : Attempt) (table shape : ℕ) (place : PlaceModel) (grow : GrowModel) (next : Next (Option ℕ))
        → tied_of_bind (bind.grown env' port attempt table shape place grow next)
    grown-tied attempt table shape place grow Go = tt
    grown-tied attempt table shape place grow (Done None) = tt
    grown-tied attempt table shape place grow (Done (Some page)) = page-tied attempt table shape (entered place page)

    port-tied : (kind : Kind) (claimed : Claimed) (found before : Option ℕ) (length : ℕ)
        → tied_of_bind (bind.found_or_future kind claimed found before length)
    port-tied kind claimed None before length = tt
    port-tied kinds.Single claimed (Some first) before length = tt
    port-tied kinds.Listed claimed (Some first) before length = tt

    at_probed-tied : (kind : Kind) (attempt : Attempt) (table shape : ℕ) (probe : ProbeModel) (next : Next Probed)
        → tied_of_bind (bind.probed kind attempt table shape probe next)
    at_probed-tied kind attempt table shape probe Go = tt
    at_probed-tied kind attempt table shape probe (Done end) = port-tied kind _ end.seen.found end.seen.before end.seen.length

    front-tied : (list : FoundList) (relink : RelinkModel) (state : RelinkAt) → IsTied list.claimed.table list.claimed.bucket.place
        → tied_of_bind (let r = relink_after_at relink state in bind.replaced list r.0 r.1)
    front-tied list relink (relinks.ChainLink before) tied = tied
    front-tied list relink (relinks.Word word) tied = tt

    published-tied : (node table : ℕ) (kick : Bool) (relink : RelinkModel) (state : RelinkAt)
        → tied_of_bind (let r = relink_after_at relink state in bind.published node table kick r.0 r.1)
    published-tied node table kick relink (relinks.ChainLink before) = tt
    published-tied node table kick relink (relinks.Word word) = tt

    future-tied : (claimed : Claimed) (length : ℕ) (future : Option ℕ) → IsTied claimed.table claimed.bucket.place
        → tied_of_bind (bind.future_or_count claimed length future)
    future-tied claimed length None tied =
        cond_both (nat_le 16 length) _ _ tied_of_bind (λ t. record { at = tied.at; of = tied.of }) (λ f. tt)
    future-tied claimed length (Some next) tied = record { at = tied.at; of = tied.of }

    count-tied : (claimed : Claimed) (count : ℕ) → IsTied claimed.table claimed.bucket.place → tied_of_bind (bind.checked_count env' claimed count)
    count-tied claimed count tied =
        cond_both (is_above_max (min count 65536) env'.config.max) _ _ tied_of_bind (λ t. record { at = tied.at; of = tied.of })
        (λ f. cond_both (is_above_100 (min count 65536) (size_of (unpacked claimed.shape)) env'.config.max) _ _ tied_of_bind
        (λ t. record { at = tied.at; of = tied.of }) (λ f. tt))

    unlocked-tied : (attempt : Attempt) (next : Then Reply) → tied_of_bind (bind.unlocked env' attempt next)
    unlocked-tied attempt (Table table) = tt
    unlocked-tied attempt (Answer reply) = tt

    wanted-tied : (growing : Growing) (root count : ℕ) → tied_of_bind (growing_of.want_or_busy env' growing root count)
    wanted-tied growing root count =
        cond_both (is_above_75 (min count 65536) (growing_of.size_grown growing) env'.config.max) _ _ tied_of_bind (λ t. tt)
        (λ f. cond_both (nat_eq root growing.table) _ _ tied_of_bind (λ t. tt) (λ f. tt))

    made-tied : (growing : Growing) (size : ℕ) (make : MakeModel) (next : Next (Option (ℕ × ℕ)))
        → tied_of_bind (growing_of.made growing size make next)
    made-tied growing size make Go = tt
    made-tied growing size make (Done None) = tt
    made-tied growing size make (Done (Some table)) = tt

    behind-tied : (attempt : Attempt) (answer : Option Reply) → tied_of_bind (growing_of.behind_attempt attempt answer)
    behind-tied attempt None = tt
    behind-tied attempt (Some reply) = tt

    again-tied : (once : Bool) (growing : Growing) (refusal : Refusal) (future : Option ℕ)
        → tied_of_bind (growing_of.refused_or_found once growing refusal future)
    again-tied once growing refusal None = tt
    again-tied once growing refusal (Some table) = behind-tied growing.attempt (growing_of.ended_attempt once table)

    attached-tied : (once : Bool) (growing : Growing) (slot shape found : ℕ)
        → tied_of_bind (growing_of.checked_attach env' once growing slot shape found)
    attached-tied once growing slot shape found =
        cond_both (found == 0) _ _ tied_of_bind (λ t. behind-tied _ _) (λ f. tt)

    unmade-tied : (attempt : Attempt) (answer : Option Reply) (unmake : UnmakeModel) (next : Next (Unit {0}))
        → tied_of_bind (growing_of.unmade attempt answer unmake next)
    unmade-tied attempt answer unmake Go = tt
    unmade-tied attempt answer unmake (Done done) = behind-tied attempt answer

    closed-tied : (ending : Ending) → tied_of_bind (endings_of.closed env' ending).0
    closed-tied (endings.Bound kick) = tt
    closed-tied (endings.Answered node reply) = tt
    closed-tied (endings.Anew attempt) = tt

-- ---- each operation

module _ (env : Env) (mix : ℕ → ℕ → ℕ → ℕ) (words : List ℕ) (G : Ghost) (whole : Whole env mix (mem env mix words) G) (c port owner : ℕ) where
  -- where a call is at a port's bucket, as it is known
  home_tied : (slot place : ℕ) (shape : Option ℕ) → IsAtHome env mix c G port slot shape place → IsTied env mix G slot place
  home_tied slot place shape is = record {
    at = is.passing.at;
    of = (home-word env mix (mem env mix words) G whole port is.passing.at.table _ (at-there is.passing.at)
        is.here).of;
  }

  seek_ties_at : (own : Option KnownNode) (state : SeekAt) (word : ℕ) → TableMeans env mix c G (known_of_seek port own state).table
      → tied_sought env mix G (seek_after_at mix env.geometry port state word)
  seek_ties_at own seeks.CurrentTable word known = tt
  seek_ties_at own (seeks.Locating locate) word known = located-tied env mix G env.geometry port (locate_after mix port locate word)
  seek_ties_at own (seeks.Probing table shape probe) word known =
      probed-tied env mix G table shape (place_of_probe probe.at) probe _ (home_tied table _ (Some shape) known)
      (probe-place env mix G probe probe.at word)
  seek_ties_at own (seeks.Future table bucket) word known =
      let tied = home_tied table bucket.place None known in record { at = tied.at; of = tied.of }
  seek_ties_at own (seeks.Leaving table unlock future) word known = left-tied env mix G env.geometry table unlock future

  seek_ties : (own : Option KnownNode) (m : SeekModel) (word : ℕ) → m.geometry ≡ env.geometry
      → TableMeans env mix c G (known_of_seek port own m.at).table
      → let r = seek_after mix port m word in tied_sought env mix G (r.0.at, r.1)
  seek_ties own m word same known =
      subst (λ g. tied_sought env mix G (seek_after_at mix g port m.at word)) (sym same) (seek_ties_at own m.at word known)

  pub all_ties : (owners : List ℕ) (state : AllAt) (word : ℕ) → all.IsAllAtIn env state → TableMeans env mix c G (known_of_all port owners state).table
      → tied_of_all env mix G state → tied_of_all env mix G (all.after_at mix env port state word).0
  all_ties owners listing.Opening word within known tied = tt
  all_ties owners (listing.Seeking seek) word within known tied =
      let r = seek_after mix port seek word in all-tied env mix G r.0 r.1 (seek_ties None seek word within.geometry_same known)
  all_ties owners (listing.Owner found node) word within known tied = tied
  all_ties owners (listing.ListLink found node) word within known tied = all_followed-tied env mix G found (node_of env.geometry.nodes word) tied
  all_ties owners (listing.Unlocking table unlock) word within known tied = tt
  all_ties owners listing.Closing word within known tied = tt

  pub release_ties : (state : ReleaseAt) (word : ℕ) → release.IsReleaseAtIn env state → TableMeans env mix c G (known_of_release port owner state).table
      → tied_of_release env mix G state → tied_of_release env mix G (release.after_at mix env port owner state word).0
  release_ties releasing.Opening word within known tied = tt
  release_ties (releasing.Seeking seek) word within known tied =
      let r = seek_after mix port seek word in release-tied env mix G r.0 r.1 (seek_ties None seek word within.geometry_same known)
  release_ties (releasing.Searching found search) word within known tied =
      let r = search_after env.geometry owner search word in release_searched-tied env mix G found r.0 r.1 tied
  release_ties (releasing.LinkBehind found node before) word within known tied =
      release_cut-tied env mix G env.geometry found node word before tied
  release_ties (releasing.CuttingOut found node before link) word within known tied = record { at = tied.at; of = tied.of }
  release_ties (releasing.ChainLink found second) word within known tied = release_linked-tied env mix G env.geometry found word second tied
  release_ties (releasing.SecondLink found second link) word within known tied = tied
  release_ties (releasing.Promoting found relink) word within known tied = promoted-tied env mix G found relink relink.at tied
  release_ties (releasing.Unlinking found relink) word within known tied = unlinked-tied env mix G found relink relink.at tied
  release_ties (releasing.Lowering node shape) word within known tied = tt
  release_ties (releasing.Unlocking table unlock removed) word within known tied = tt
  release_ties (releasing.Closing reply removed) word within known tied = tt

  pub rebind_ties : (new : ℕ) (state : RebindAt) (word : ℕ) → rebind.IsRebindAtIn env state
      → TableMeans env mix c G (known_of_rebind port owner new state).table
      → tied_of_rebind env mix G state → tied_of_rebind env mix G (rebind.after_at mix env port owner state word).0
  rebind_ties new (rebinding.Filling fresh) word within known tied =
      let r = new_node_after fresh word in rebind_filled-tied env mix G r.0 r.1
  rebind_ties new (rebinding.Opening node) word within known tied = tt
  rebind_ties new (rebinding.Seeking node seek) word within known tied =
      let r = seek_after mix port seek word in
      rebind-tied env mix G node r.0 r.1 (seek_ties (Some (own port owner new node)) seek word within.seek_in.geometry_same known)
  rebind_ties new (rebinding.Searching node found search) word within known tied =
      let r = search_after env.geometry owner search word in rebind_searched-tied env mix G node found r.0 r.1 tied
  rebind_ties new (rebinding.LinkBehind node found old before) word within known tied = tied
  rebind_ties new (rebinding.OwnListLink node found old before link) word within known tied =
      rebind_swapped-tied env mix G node found old before tied
  rebind_ties new (rebinding.Swapping node found old before) word within known tied = record { at = tied.at; of = tied.of }
  rebind_ties new (rebinding.ChainLink node found) word within known tied = tied
  rebind_ties new (rebinding.Link node found link) word within known tied = tied
  rebind_ties new (rebinding.Replacing node found relink) word within known tied = replaced-tied env mix G node found relink relink.at tied
  rebind_ties new (rebinding.Unlocking table unlock end) word within known tied = tt
  rebind_ties new (rebinding.Closing end) word within known tied = rebind_closed-tied env mix G env.geometry end
  rebind_ties new (rebinding.Giving give) word within known tied = tt

  pub bind_ties : (once : Bool) (state : BindAt) (word : ℕ) → TableMeans env mix c G (known_of_bind port owner state).table
      → tied_of_bind env mix G state → tied_of_bind env mix G (bind.after_at mix env port once state word).0
  bind_ties once (binding.Filling new) word known tied = let r = new_node_after new word in filled-tied env mix G env port r.0 r.1
  bind_ties once (binding.Opening attempt) word known tied = tt
  bind_ties once (binding.CurrentTable attempt) word known tied = tt
  bind_ties once (binding.Locating attempt locate) word known tied =
      at_located-tied env mix G env port attempt (locate_after mix port locate word)
  bind_ties once (binding.Entering attempt table shape place grow) word known tied =
      let r = grow_after grow word in grown-tied env mix G env port attempt table shape place r.0 r.1
  bind_ties once (binding.Probing attempt table shape probe) word known tied =
      let r = probe_after probe word in at_probed-tied env mix G env port env.config.kind attempt table shape r.0 r.1
  bind_ties once (binding.FoundOwner claimed found) word known tied =
      let home = home_tied claimed.table claimed.bucket.place _ known in record { at = home.at; of = home.of }
  bind_ties once (binding.ListLink list) word known tied = tt
  bind_ties once (binding.ChainLink list) word known tied = tt
  bind_ties once (binding.LinkBehind list link) word known tied = home_tied list.claimed.table list.claimed.bucket.place _ known
  bind_ties once (binding.Replacing list relink) word known tied = front-tied env mix G env port list relink relink.at tied
  bind_ties once (binding.Future claimed length) word known tied =
      future-tied env mix G env port claimed length (slot_of word) (home_tied claimed.table claimed.bucket.place _ known)
  bind_ties once (binding.Count claimed) word known tied =
      count-tied env mix G env port claimed word (home_tied claimed.table claimed.bucket.place _ known)
  bind_ties once (binding.Link claimed) word known tied = tt
  bind_ties once (binding.Raise claimed) word known tied = tt
  bind_ties once (binding.Publish node table relink kick) word known tied = published-tied env mix G env port node table kick relink relink.at
  bind_ties once (binding.Unlocking attempt table unlock next) word known tied = unlocked-tied env mix G env port attempt next
  bind_ties once (binding.UnlockingFull growing unlock) word known tied = tt
  bind_ties once (binding.Root growing) word known tied = tt
  bind_ties once (binding.GrowthCount growing root) word known tied = wanted-tied env mix G env port growing root word
  bind_ties once (binding.Making growing size make) word known tied =
      let r = make_after make word in made-tied env mix G env port growing size r.0 r.1
  bind_ties once (binding.FutureAgain growing refusal) word known tied = again-tied env mix G env port once growing refusal (slot_of word)
  bind_ties once (binding.Attaching growing slot shape) word known tied = attached-tied env mix G env port once growing slot shape word
  bind_ties once (binding.Unmaking attempt unmake answer) word known tied =
      let r = unmake_after unmake word in unmade-tied env mix G env port attempt answer r.0 r.1
  bind_ties once (binding.Closing ending) word known tied = closed-tied env mix G env port ending
  bind_ties once (binding.Giving give reply) word known tied = tt
