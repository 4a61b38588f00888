-- A release says that there is something to do for `work` by the one operation that lowers the count, for the table that it walked
-- last, in which it found the port.
use Rattle.std.proofs.Common.{◌≡◌, ◌≢◌, ◌⊎◌, ℕ, ◌<◌, ◌≤◌, Bool, true, false, List, [], ◌∷◌, ◌++◌, min, append_assoc, refl, sym, ap, ◌∙◌, subst, inl, inr, arith}
use Rattle.std.specs.Prelude.{Option, Some, None, IfSome, ◌-◌}
use Rattle.std.specs.List.{AllByRecursion, Any}
use Rattle.std.proofs.lemmas.List.Elements.{All-from_recursion}
use Rattle.std.proofs.lemmas.List.Quantifiers.{Any-push}
use Rattle.rht_words.specs.declared.op.Op.{Op}
use Rattle.rht_words.specs.declared.op.Op.TheVariants.{Load, Store, Sub}
use Rattle.rht_words.specs.declared.env.Env.{Env}
use Rattle.rht_words.specs.declared.geometry.Geometry.{Geometry}
use Rattle.rht_words.specs.declared.machine.Next.{Next}
use Rattle.rht_words.specs.declared.machine.Next.TheVariants.{Go, Done}
use Rattle.rht_words.specs.Links.{slot_of}
use Rattle.rht_words.specs.Machines.{GoesOrEnds}
use Rattle.rht_words.specs.Places.{PortCount, Slot, FutureWord, ChainLink, ListLink, OwnerWord, place_of}
use Rattle.rht_words.specs.Shapes.{unpacked, size_of}
use Rattle.rht_words.proofs.EachElement.{AllByRecursion-push, AllByRecursion-cut, AllByRecursion-append, AllByRecursion-weaker, Any-append_left}
use Rattle.rht_model.specs.declared.history.Reply.{Reply}
use Rattle.rht_model.specs.declared.history.Reply.TheVariants.{Released}
use Rattle.rht_nest.specs.Locate.{LocateModel, locate_plan_at, locate_after}
use Rattle.rht_nest.specs.declared.locate.LocateAt.{LocateAt}
use Rattle.rht_nest.specs.declared.locate.LocateAt.TheVariants as locates
use Rattle.rht_nest.specs.declared.locate.Located.{Located}
use Rattle.rht_nest.specs.declared.locate.LocatedBucket.{LocatedBucket}
use Rattle.rht_nest.specs.declared.locate.LocatedBucket.TheVariants as buckets
use Rattle.rht_chain.specs.LockedWalk.{walk_plan_at}
use Rattle.rht_chain.specs.declared.locked_walk.LockedWalkAt.{LockedWalkAt}
use Rattle.rht_chain.specs.declared.locked_walk.LockedWalkAt.TheVariants as walks
use Rattle.rht_chain.specs.Lock.{lock_plan_at}
use Rattle.rht_chain.specs.declared.lock.LockAt.{LockAt}
use Rattle.rht_chain.specs.declared.lock.LockAt.TheVariants as locks
use Rattle.rht_chain.specs.Probe.{ProbeModel, probe_plan_at, probe_after}
use Rattle.rht_chain.specs.declared.probe.ProbeAt.{ProbeAt}
use Rattle.rht_chain.specs.declared.probe.ProbeAt.TheVariants as probes
use Rattle.rht_chain.specs.declared.probe.Probed.{Probed}
use Rattle.rht_chain.specs.Relink.{RelinkModel, relink_plan_at, relink_after}
use Rattle.rht_chain.specs.declared.relink.RelinkAt.{RelinkAt}
use Rattle.rht_chain.specs.declared.relink.RelinkAt.TheVariants as relinks
use Rattle.rht_chain.specs.declared.unlock.Unlock.{Unlock}
use Rattle.rht_release.specs.declared.found_port.FoundPort.{FoundPort}
use Rattle.rht_release.specs.ListSearch.{search_plan, search_after}
use Rattle.rht_release.specs.declared.list_search.ListPlace.{ListPlace}
use Rattle.rht_release.specs.declared.list_search.ListSearch.{ListSearch}
use Rattle.rht_release.specs.declared.list_search.ListSearch.TheVariants as searches
use Rattle.rht_release.specs.declared.seek.SeekAt.{SeekAt}
use Rattle.rht_release.specs.declared.seek.SeekAt.TheVariants as seeks
use Rattle.rht_release.specs.Seek.{seek_plan_at, seek_after, bucket_or_early, early_or_none, located, found_or_future, probed, left, IsSeekAtIn}
use Rattle.rht_release.specs.declared.release.ReleaseAt.{ReleaseAt}
use Rattle.rht_release.specs.declared.release.ReleaseAt.TheVariants as at
use Rattle.rht_release.specs.Release.{plan_at, after_at, sought, searched, cut_or_chain, unlink_or_promote, promoted, unlinked, removed_reply, kicks, IsReleaseAtIn}
use Rattle.rht_move.specs.Choice.{is_sparse}
use Rattle.rht_core.specs.Traces.{Did}
use Rattle.rht_core.specs.Seen.{CameTo, IsNoShapeLoad, LastWalked, StaysInSection}
use Rattle.rht_core.specs.Causes.{IsLowering, IsSparseBy, KicksOnRelease}
use Rattle.rht_core.proofs.Reasons.RaisesSeen.{turning-still}
use Rattle.rht_core.proofs.Reasons.TablesWalked.{IsAside, aside, node_loads, probe_loads, relink_stores, CameTo-append, came-current, came-future, walked-came, Walked, Walked-push, WalkedAt, CameBehind, CameBeyond, WalkedNext, TellsNone, same_table, locate-walked}

-- ---- which operations lower a count

-- the operation takes nothing off a word
abbrev IsNoSub : Op → Type 0
IsNoSub op = (place value : ℕ) → op ≢ Sub place value

locate-none : (h : Geometry) (slot : ℕ) (state : LocateAt) → IsNoSub (locate_plan_at h slot state)
locate-none h slot locates.Shape place value is = cc
locate-none h slot _ place value is = cc

lock-none : (place : ℕ) (state : LockAt) → IsNoSub (lock_plan_at place state)
lock-none bucket locks.Word place value is = cc
lock-none bucket (locks.Exchange word) place value is = cc

walk-none : (h : Geometry) (state : LockedWalkAt) → IsNoSub (walk_plan_at h state)
walk-none h (walks.Key node) place value is = cc
walk-none h (walks.ChainLink node) place value is = cc

probe-none : (state : ProbeAt) → IsNoSub (probe_plan_at state)
probe-none (probes.Locking lock) = lock-none lock.place lock.at
probe-none (probes.Walking bucket walk) = walk-none walk.geometry walk.at

relink-none : (m : RelinkModel) (state : RelinkAt) → IsNoSub (relink_plan_at m state)
relink-none m (relinks.ChainLink before) place value is = cc
relink-none m (relinks.Word word) place value is = cc

seek-none : (g : Geometry) (state : SeekAt) → IsNoSub (seek_plan_at g state)
seek-none g (seeks.Locating locate) place value is = locate-none locate.geometry locate.table locate.at place value is
seek-none g (seeks.Probing table shape probe) place value is = probe-none probe.at place value is
seek-none g _ place value is = cc

search-none : (g : Geometry) (search : ListSearch) → IsNoSub (search_plan g search)
search-none g (searches.Owner node before) place value is = cc
search-none g (searches.ListLink node) place value is = cc

module _ (env : Env) where
  -- the operation doesn't lower the count of ports
  abbrev pub IsNoLowering : Did → Type 0
  IsNoLowering did = IsLowering env.geometry did → ⊥

  no_sub : (did : Did) (op : Op) → did.op ≡ op → IsNoSub op → IsNoLowering did
  no_sub did op is none lowers = none (place_of env.geometry PortCount) 1 (sym is ∙ lowers)

  -- ---- what a release has seen

  -- the last table that it walked
  pub record WalkedSome (steps : List Did) : Type 0 where
    pub table : ℕ
    pub shape : ℕ
    pub walked : Walked env.geometry table shape steps

  -- it keeps nothing of the load of a future that was none
  abbrev NothingOfNone : ℕ → ℕ → Did → Type 0
  NothingOfNone table shape did = Unit {0}

  abbrev SawSeek : SeekAt → List Did → Type 0
  SawSeek seeks.CurrentTable steps = Unit {0}
  SawSeek (seeks.Locating locate) steps = WalkedAt env.geometry NothingOfNone locate.table locate.at steps
  SawSeek (seeks.Probing table shape probe) steps = Walked env.geometry table shape steps
  SawSeek (seeks.Future table bucket) steps = CameTo env.geometry table steps
  SawSeek (seeks.Leaving table unlock future) steps = IfSome future (λ next. CameTo env.geometry next steps)

  abbrev InFound : FoundPort → List Did → Type 0
  InFound found steps = Walked env.geometry found.table found.shape steps

  -- where a node was taken out
  abbrev SawRemoved : Option ℕ → List Did → Type 0
  SawRemoved None steps = Unit {0}
  SawRemoved (Some node) steps = WalkedSome steps

  -- the last table walked has this shape
  pub record WalkedShape (shape : ℕ) (steps : List Did) : Type 0 where
    pub table : ℕ
    pub walked : Walked env.geometry table shape steps

  -- the operation lowers no count, and tells nothing of the last table that was walked
  pub record IsQuiet (did : Did) : Type 0 where
    pub no_shape : IsNoShapeLoad env.geometry did
    pub none : IsNoLowering did

  -- It lowered the count with this operation, and by this the table that it walked last is due to shrink or isn't; or it lowered
  -- none with it, and there is nothing to do. Since then it lowered none.
  pub record SawKick (kick : Bool) (steps : List Did) : Type 0 where
    pub before : List Did
    pub last : Did
    pub rest : List Did
    pub split : steps ≡ before ++ last ∷ rest
    pub unlowered : AllByRecursion IsNoLowering before
    pub table : ℕ
    pub shape : ℕ
    pub walked : LastWalked env.geometry table shape before
    pub still : IsAside env.geometry last
    pub last_says : (IsLowering env.geometry last × (kick ≡ kicks env shape last.old)) ⊎ (IsNoLowering last × (kick ≡ false))
    pub quiet : AllByRecursion IsQuiet rest

  abbrev pub SawForRelease : Reply → List Did → Type 0
  SawForRelease (Released kick) steps = SawKick kick steps
  SawForRelease _ steps = Unit {0}

  -- and this stays so behind the closing of its section
  closed-saw : (reply : Reply) (steps : List Did) (did : Did) → IsQuiet did → SawForRelease reply steps
      → SawForRelease reply (steps ++ did ∷ [])
  closed-saw (Released kick) steps did quiet saw = record {
    before = saw.before;
    last = saw.last;
    rest = saw.rest ++ did ∷ [];
    split = ap (λ l. l ++ did ∷ []) saw.split ∙ append_assoc saw.before (saw.last ∷ saw.rest) (did ∷ []);
    unlowered = saw.unlowered;
    table = saw.table;
    shape = saw.shape;
    walked = saw.walked;
    still = saw.still;
    last_says = saw.last_says;
    quiet = AllByRecursion-push IsQuiet saw.rest did saw.quiet quiet;
  }
  closed-saw _ steps did quiet saw = tt

  abbrev SawAtRelease : ReleaseAt → List Did → Type 0
  SawAtRelease at.Opening steps = Unit {0}
  SawAtRelease (at.Seeking seek) steps = SawSeek seek.at steps
  SawAtRelease (at.Searching found search) steps = InFound found steps
  SawAtRelease (at.LinkBehind found node before) steps = InFound found steps
  SawAtRelease (at.CuttingOut found node before link) steps = InFound found steps
  SawAtRelease (at.ChainLink found second) steps = InFound found steps
  SawAtRelease (at.SecondLink found second link) steps = InFound found steps
  SawAtRelease (at.Promoting found relink) steps = InFound found steps
  SawAtRelease (at.Unlinking found relink) steps = InFound found steps
  SawAtRelease (at.Lowering node shape) steps = WalkedShape shape steps
  SawAtRelease (at.Unlocking table unlock removed) steps = SawRemoved removed steps
  SawAtRelease (at.Closing reply removed) steps = SawForRelease reply steps

  -- up to the closing of its section it has lowered no count, unless it goes there by that
  abbrev Unlowered : ReleaseAt → List Did → Type 0
  Unlowered (at.Closing reply removed) steps = Unit {0}
  Unlowered _ steps = AllByRecursion IsNoLowering steps

  unlowered-so : (state : ReleaseAt) (steps : List Did) → AllByRecursion IsNoLowering steps → Unlowered state steps
  unlowered-so (at.Closing reply removed) steps none = tt
  unlowered-so _ steps none = none

  abbrev pub SawRelease : ReleaseAt → List Did → Type 0
  SawRelease state steps = SawAtRelease state steps × Unlowered state steps

  -- ---- the way to the port

  early-saw : (g : Geometry) (port : ℕ) (locate : LocateModel) (early : Option ℕ) (h : Geometry) (all : List Did)
      → CameBehind env.geometry early all
      → let next = early_or_none g locate early in
      SawAtRelease (sought (record { geometry = h; at = next.0 }) next.1) all
  early-saw g port locate None h all came = tt
  early-saw g port locate (Some next) h all came = came

  bucket-saw : (g : Geometry) (port : ℕ) (locate : LocateModel) (shape : ℕ) (bucket : LocatedBucket) (h : Geometry) (all : List Did)
      → Walked env.geometry locate.table shape all → CameBeyond env.geometry bucket all
      → let next = bucket_or_early g port locate shape bucket in
      SawAtRelease (sought (record { geometry = h; at = next.0 }) next.1) all
  bucket-saw g port locate shape (buckets.At place) h all walked came = walked
  bucket-saw g port locate shape (buckets.Missing place early) h all walked came = early-saw g port locate early h all came

  located-saw : (mix : ℕ → ℕ → ℕ → ℕ) (g : Geometry) (port : ℕ) (table : ℕ) (locate : LocateModel) (end : Next Located) (h : Geometry) (all : List Did)
      → locate.table ≡ table → WalkedNext env.geometry NothingOfNone table (locate, end) all
      → let next = located g port locate end in
      SawAtRelease (sought (record { geometry = h; at = next.0 }) next.1) all
  located-saw mix g port table locate Go h all same walked =
      subst (λ t. WalkedAt env.geometry NothingOfNone t locate.at all) (sym same) walked
  located-saw mix g port table locate (Done there) h all same walked =
      bucket-saw g port locate there.shape there.bucket h all
      (subst (λ t. Walked env.geometry t there.shape all) (sym same) walked.0.walked) walked.1

  seen-saw : (table shape : ℕ) (probe : ProbeModel) (end : Probed) (found : Option ℕ) (h : Geometry) (all : List Did)
      → Walked env.geometry table shape all
      → let next = found_or_future table shape probe end found in
      SawAtRelease (sought (record { geometry = h; at = next.0 }) next.1) all
  seen-saw table shape probe end None h all walked = walked-came env.geometry table shape all walked
  seen-saw table shape probe end (Some node) h all walked = walked

  probed-saw : (table shape : ℕ) (probe : ProbeModel) (end : Next Probed) (h : Geometry) (all : List Did)
      → Walked env.geometry table shape all
      → let next = probed table shape probe end in
      SawAtRelease (sought (record { geometry = h; at = next.0 }) next.1) all
  probed-saw table shape probe Go h all walked = walked
  probed-saw table shape probe (Done end) h all walked = seen-saw table shape probe end end.seen.found h all walked

  -- a future that was loaded is come to
  led-saw : (table : ℕ) (future : Option ℕ) (steps : List Did) (did : Did) → table < 8
      → did.op ≡ Load (place_of env.geometry (Slot table FutureWord)) → slot_of did.old ≡ future
      → CameTo env.geometry table steps → IfSome future (λ next. CameTo env.geometry next (steps ++ did ∷ []))
  led-saw table None steps did within is named came = tt
  led-saw table (Some next) steps did within is named came =
      came-future env.geometry table next steps did within is named came

  left-saw : (g : Geometry) (table : ℕ) (unlock : Unlock) (future : Option ℕ) (h : Geometry) (steps : List Did) (did : Did)
      → StaysInSection env.geometry did → IfSome future (λ next. CameTo env.geometry next steps)
      → let next = left g table unlock future in
      SawAtRelease (sought (record { geometry = h; at = next.0 }) next.1) (steps ++ did ∷ [])
  left-saw g table unlock None h steps did none came = tt
  left-saw g table unlock (Some next) h steps did none came = CameTo-append env.geometry next steps (did ∷ []) (none, tt) came

  -- and so it has nothing to tell of one
  nothing-told : (table : ℕ) (state : LocateAt) (did : Did) → TellsNone env.geometry NothingOfNone table state did
  nothing-told table (locates.Early shape place) did = λ none. tt
  nothing-told table _ did = tt

  seek-saw : (mix : ℕ → ℕ → ℕ → ℕ) (port : ℕ) (h : Geometry) (state : SeekAt) (steps : List Did) (did : Did)
      → IsSeekAtIn env.geometry state → did.op ≡ seek_plan_at h state → SawSeek state steps
      → let next = seek_after mix port (record { geometry = h; at = state }) did.old in
      SawAtRelease (sought next.0 next.1) (steps ++ did ∷ [])
  seek-saw mix port h seeks.CurrentTable steps did within is saw = came-current env.geometry steps did is
  seek-saw mix port h (seeks.Locating locate) steps did within is saw =
      let next = locate_after mix port locate did.old in
      located-saw mix h port locate.table next.0 next.1 h (steps ++ did ∷ [])
      (same_table env.geometry mix port locate locate.at did.old)
      (locate-walked env.geometry NothingOfNone mix port locate locate.at steps did within.at_in within.table_in is
      (nothing-told locate.table locate.at did) saw)
  seek-saw mix port h (seeks.Probing table shape probe) steps did within is saw =
      probed-saw table shape (probe_after probe did.old).0 (probe_after probe did.old).1 h (steps ++ did ∷ [])
      (Walked-push env.geometry table shape steps did
      (probe_loads env.geometry did probe.at within.probe_in.at_in is) saw)
  seek-saw mix port h (seeks.Future table bucket) steps did within is saw =
      led-saw table (slot_of did.old) steps did within.table_in is refl saw
  seek-saw mix port h (seeks.Leaving table unlock future) steps did within is saw =
      left-saw h table unlock future h steps did (aside env.geometry did _ is (λ other load. cc) (λ other by adds. cc)).stays saw

  -- ---- in the port's list

  search_loads : (did : Did) (search : ListSearch) → did.op ≡ search_plan env.geometry search → IsAside env.geometry did
  search_loads did (searches.Owner node before) is = node_loads env.geometry did env.geometry node OwnerWord is
  search_loads did (searches.ListLink node) is = node_loads env.geometry did env.geometry node ListLink is

  searched-saw : (found : FoundPort) (search : ListSearch) (next : Next (Option ListPlace)) (all : List Did) → InFound found all
      → SawAtRelease (searched found search next) all
  searched-saw found search Go all walked = walked
  searched-saw found search (Done None) all walked = tt
  searched-saw found search (Done (Some place)) all walked = walked

  behind-saw : (found : FoundPort) (node link : ℕ) (before : Option ℕ) (all : List Did) → InFound found all
      → SawAtRelease (cut_or_chain env.geometry found node link before) all
  behind-saw found node link None all walked = walked
  behind-saw found node link (Some before) all walked = walked

  second-saw : (found : FoundPort) (link : ℕ) (second : Option ℕ) (all : List Did) → InFound found all
      → SawAtRelease (unlink_or_promote env.geometry found link second) all
  second-saw found link None all walked = walked
  second-saw found link (Some second) all walked = walked

  -- a release that lowers no count has its answer with this operation
  ended-saw : (table shape : ℕ) (steps : List Did) (did : Did) → Walked env.geometry table shape steps → IsAside env.geometry did
      → AllByRecursion IsNoLowering steps → IsNoLowering did → SawKick false (steps ++ did ∷ [])
  ended-saw table shape steps did walked still unlowered none = record {
    before = steps;
    last = did;
    rest = [];
    split = refl;
    unlowered = unlowered;
    table = table;
    shape = shape;
    walked = walked.last;
    still = still;
    last_says = inr (none, refl);
    quiet = tt;
  }

  promoted-saw : (found : FoundPort) (relink : RelinkModel) (next : Next (Unit {0})) (steps : List Did) (did : Did)
      → InFound found steps → IsAside env.geometry did → AllByRecursion IsNoLowering steps → IsNoLowering did
      → SawAtRelease (promoted found relink next) (steps ++ did ∷ [])
  promoted-saw found relink Go steps did walked still unlowered none =
      Walked-push env.geometry found.table found.shape steps did still walked
  promoted-saw found relink (Done done) steps did walked still unlowered none =
      ended-saw found.table found.shape steps did walked still unlowered none

  unlinked-saw : (found : FoundPort) (relink : RelinkModel) (next : Next (Unit {0})) (all : List Did) → InFound found all
      → SawAtRelease (unlinked found relink next) all
  unlinked-saw found relink Go all walked = walked
  unlinked-saw found relink (Done done) all walked = record { table = found.table; walked = walked }

  unlocked-saw : (removed : Option ℕ) (steps : List Did) (did : Did) → SawRemoved removed steps → IsAside env.geometry did
      → AllByRecursion IsNoLowering steps → IsNoLowering did
      → SawForRelease (removed_reply removed) (steps ++ did ∷ [])
  unlocked-saw None steps did saw still unlowered none = tt
  unlocked-saw (Some node) steps did saw still unlowered none =
      ended-saw saw.table saw.shape steps did saw.walked still unlowered none

  -- ---- all states

  -- a store tells nothing of the last table
  stores : (did : Did) (place value : ℕ) → did.op ≡ Store place value → IsAside env.geometry did
  stores did place value is = aside env.geometry did _ is (λ other load. cc) (λ other by adds. cc)

  -- what the operation showed, and that it lowered no count
  both : (next : ReleaseAt) (all : List Did) → SawAtRelease next all → AllByRecursion IsNoLowering all → SawRelease next all
  both next all saw none = (saw, unlowered-so next all none)

  pub release-saw : (mix : ℕ → ℕ → ℕ → ℕ) (c port owner : ℕ) (state : ReleaseAt) (steps : List Did) (did : Did)
      → IsReleaseAtIn env state → did.op ≡ plan_at env c state → SawRelease state steps
      → GoesOrEnds (λ next. SawRelease next (steps ++ did ∷ [])) (λ end. SawForRelease end.0 (steps ++ did ∷ []))
      (after_at mix env port owner state did.old)
  release-saw mix c port owner at.Opening steps did within is saw =
      (tt, AllByRecursion-push IsNoLowering steps did saw.1 (no_sub did _ is (λ place value same. cc)))
  release-saw mix c port owner (at.Seeking seek) steps did within is saw =
      let all = steps ++ did ∷ [] in
      let next = seek_after mix port seek did.old in
      both (sought next.0 next.1) all (seek-saw mix port seek.geometry seek.at steps did within.at_in is saw.0)
      (AllByRecursion-push IsNoLowering steps did saw.1 (no_sub did _ is (seek-none seek.geometry seek.at)))
  release-saw mix c port owner (at.Searching found search) steps did within is saw =
      let all = steps ++ did ∷ [] in
      let next = search_after env.geometry owner search did.old in
      both (searched found next.0 next.1) all
      (searched-saw found next.0 next.1 all
      (Walked-push env.geometry found.table found.shape steps did (search_loads did search is) saw.0))
      (AllByRecursion-push IsNoLowering steps did saw.1 (no_sub did _ is (search-none env.geometry search)))
  release-saw mix c port owner (at.LinkBehind found node before) steps did within is saw =
      both (cut_or_chain env.geometry found node did.old before) (steps ++ did ∷ [])
      (behind-saw found node did.old before (steps ++ did ∷ [])
      (Walked-push env.geometry found.table found.shape steps did (node_loads env.geometry did env.geometry node ListLink is) saw.0))
      (AllByRecursion-push IsNoLowering steps did saw.1 (no_sub did _ is (λ place value same. cc)))
  release-saw mix c port owner (at.CuttingOut found node before link) steps did within is saw = (
    record {
      table = found.table;
      shape = found.shape;
      walked = Walked-push env.geometry found.table found.shape steps did (stores did _ _ is) saw.0;
    },
    AllByRecursion-push IsNoLowering steps did saw.1 (no_sub did _ is (λ place value same. cc)),
  )
  release-saw mix c port owner (at.ChainLink found second) steps did within is saw =
      both (unlink_or_promote env.geometry found did.old second) (steps ++ did ∷ [])
      (second-saw found did.old second (steps ++ did ∷ [])
      (Walked-push env.geometry found.table found.shape steps did
      (node_loads env.geometry did env.geometry found.node ChainLink is) saw.0))
      (AllByRecursion-push IsNoLowering steps did saw.1 (no_sub did _ is (λ place value same. cc)))
  release-saw mix c port owner (at.SecondLink found second link) steps did within is saw = (
    Walked-push env.geometry found.table found.shape steps did (stores did _ _ is) saw.0,
    AllByRecursion-push IsNoLowering steps did saw.1 (no_sub did _ is (λ place value same. cc)),
  )
  release-saw mix c port owner (at.Promoting found relink) steps did within is saw =
      let still = relink_stores env.geometry did relink relink.at is in
      let none = no_sub did _ is (relink-none relink relink.at) in
      let next = relink_after relink in
      both (promoted found next.0 next.1) (steps ++ did ∷ []) (promoted-saw found next.0 next.1 steps did saw.0 still saw.1 none)
      (AllByRecursion-push IsNoLowering steps did saw.1 none)
  release-saw mix c port owner (at.Unlinking found relink) steps did within is saw =
      both (unlinked found (relink_after relink).0 (relink_after relink).1) (steps ++ did ∷ [])
      (unlinked-saw found (relink_after relink).0 (relink_after relink).1 (steps ++ did ∷ [])
      (Walked-push env.geometry found.table found.shape steps did (relink_stores env.geometry did relink relink.at is) saw.0))
      (AllByRecursion-push IsNoLowering steps did saw.1 (no_sub did _ is (relink-none relink relink.at)))
  release-saw mix c port owner (at.Lowering node shape) steps did within is saw = (
    record {
      before = steps;
      last = did;
      rest = [];
      split = refl;
      unlowered = saw.1;
      table = saw.0.table;
      shape = shape;
      walked = saw.0.walked.last;
      still = aside env.geometry did _ is (λ place load. cc) (λ place value adds. cc);
      last_says = inl (is, refl);
      quiet = tt;
    },
    tt,
  )
  release-saw mix c port owner (at.Unlocking table unlock removed) steps did within is saw =
      (unlocked-saw removed steps did saw.0 (stores did _ _ is) saw.1 (no_sub did _ is (λ place value same. cc)), tt)
  release-saw mix c port owner (at.Closing reply removed) steps did within is saw =
      closed-saw reply steps did
      (record { no_shape = (turning-still env c did is).no_shape; none = no_sub did _ is (λ place value same. cc) }) saw.0

  -- ---- the kick

  -- no clamp of the count has changed whether the table is due to shrink
  unclamped : (shape old : ℕ) → old ≤ env.geometry.nodes
      → kicks env shape old ≡ is_sparse env (old - 1) (size_of (unpacked shape))
  unclamped shape old few =
      let most = env.geometry.within.nodes_within.1 in
      let same : min (old - 1) 65536 ≡ old - 1 = omega (arith, few, most) in
      ap (λ count. is_sparse env count (size_of (unpacked shape))) same

  -- a release kicks exactly where it lowered the count, and by this the table is due to shrink
  pub kicks_right : (kick : Bool) (steps : List Did) → (saw : SawKick kick steps)
      → (IsLowering env.geometry saw.last → saw.last.old ≤ env.geometry.nodes)
      → KicksOnRelease env kick steps
  kicks_right kick steps saw few =
      let was = saw.walked in
      let last = saw.last in
      let parts = AllByRecursion-cut IsNoLowering was.before (was.at ∷ was.behind) (subst (AllByRecursion IsNoLowering) was.split saw.unlowered) in
      let tail : AllByRecursion Kicked (last ∷ saw.rest) = (by_last saw.last_says few, none_kicked saw.rest none_behind) in
      let each = AllByRecursion-append Kicked was.behind (last ∷ saw.rest) (none_kicked was.behind parts.1.1) tail in
      record {
        table = saw.table;
        shape = saw.shape;
        walked = record {
          before = was.before;
          at = was.at;
          behind = was.behind ++ last ∷ saw.rest;
          split = saw.split ∙ ap (λ l. l ++ last ∷ saw.rest) was.split ∙ append_assoc was.before (was.at ∷ was.behind) (last ∷ saw.rest);
          reached = was.reached;
          table_in = was.table_in;
          loaded = was.loaded;
          found = was.found;
          last = AllByRecursion-append (IsNoShapeLoad env.geometry) was.behind (last ∷ saw.rest) was.last (saw.still.no_shape, none_loaded);
        };
        unlowered = parts.0;
        kicks = (
          λ is. subst (Any (IsSparseBy env saw.shape)) (append_assoc was.behind (last ∷ []) saw.rest)
              (Any-append_left (IsSparseBy env saw.shape) (was.behind ++ last ∷ []) saw.rest
              (Any-push (IsSparseBy env saw.shape) was.behind last (due saw.last_says few is))),
          λ any. from_any (was.behind ++ last ∷ saw.rest) each any,
        );
      }
    where
      Kicked : Did → Type 0
      Kicked did = IsSparseBy env saw.shape did → kick ≡ true

      none_behind : AllByRecursion IsNoLowering saw.rest
      none_behind = AllByRecursion-weaker IsQuiet IsNoLowering (λ did quiet. quiet.none) saw.rest saw.quiet

      none_loaded : AllByRecursion (IsNoShapeLoad env.geometry) saw.rest
      none_loaded =
          AllByRecursion-weaker IsQuiet (IsNoShapeLoad env.geometry) (λ did quiet. quiet.no_shape) saw.rest saw.quiet

      none_kicked : (dids : List Did) → AllByRecursion IsNoLowering dids → AllByRecursion Kicked dids
      none_kicked [] none = tt
      none_kicked (did ∷ dids) none = ((λ sparse. absurd (none.0 sparse.lowered)), none_kicked dids none.1)

      by_last : (IsLowering env.geometry saw.last × (kick ≡ kicks env saw.shape saw.last.old)) ⊎ (IsNoLowering saw.last × (kick ≡ false))
          → (IsLowering env.geometry saw.last → saw.last.old ≤ env.geometry.nodes) → Kicked saw.last
      by_last (inl (lowers, says)) few sparse = says ∙ unclamped saw.shape saw.last.old (few lowers) ∙ sparse.due
      by_last (inr (none, says)) few sparse = absurd (none sparse.lowered)

      due : (IsLowering env.geometry saw.last × (kick ≡ kicks env saw.shape saw.last.old)) ⊎ (IsNoLowering saw.last × (kick ≡ false))
          → (IsLowering env.geometry saw.last → saw.last.old ≤ env.geometry.nodes) → kick ≡ true
          → IsSparseBy env saw.shape saw.last
      due (inl (lowers, says)) few is = record {
        lowered = lowers;
        due = sym (unclamped saw.shape saw.last.old (few lowers)) ∙ sym says ∙ is;
      }
      due (inr (none, says)) few is = absurd (let both : true ≡ false = sym is ∙ says in cc)

      from_any : (dids : List Did) → AllByRecursion Kicked dids → Any (IsSparseBy env saw.shape) dids → kick ≡ true
      from_any dids each (k, did, within, at_k, sparse) =
          subst Kicked at_k (All-from_recursion Kicked dids each k did within) sparse
