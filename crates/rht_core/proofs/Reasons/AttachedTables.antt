-- Whether a bind has attached a table is what it keeps from one attempt to the next.
--
-- An attempt begins with a new node, and none attached; only the exchange that found no future makes it
-- attached, and no other operation of a bind is an exchange of a future.
use Rattle.std.proofs.Common.{◌≡◌, ◌≢◌, ℕ, ◌<◌, ◌==◌, Bool, true, false, cond, List, [], ◌∷◌, ◌++◌, min, nat_le, nat_eq, refl, sym, ◌∙◌, subst, arith}
use Rattle.std.specs.Prelude.{Option, Some, None, IfSome, ◌-◌}
use Rattle.std.specs.List.{AllByRecursion, Any}
use Rattle.std.proofs.lemmas.Bool.{cond_both, eqb-true, eqb-false}
use Rattle.std.proofs.lemmas.List.Quantifiers.{Any-push}
use Rattle.rht_words.specs.declared.op.Op.{Op}
use Rattle.rht_words.specs.declared.op.Op.TheVariants.{Exchange}
use Rattle.rht_words.specs.declared.env.Env.{Env}
use Rattle.rht_words.specs.declared.config.Kind.{Kind}
use Rattle.rht_words.specs.declared.config.Kind.TheVariants.{Single, Listed}
use Rattle.rht_words.specs.declared.geometry.Geometry.{Geometry}
use Rattle.rht_words.specs.declared.machine.Next.{Next}
use Rattle.rht_words.specs.declared.machine.Start.{Start}
use Rattle.rht_words.specs.declared.machine.Start.TheVariants as starts
use Rattle.rht_words.specs.declared.machine.Next.TheVariants.{Go, Done}
use Rattle.rht_words.specs.Links.{table_of, slot_of, future_of}
use Rattle.rht_words.specs.Shapes.{unpacked, size_of}
use Rattle.rht_words.specs.Places.{Slot, FutureWord, StateWord, IsBucketPlace, place_of}
use Rattle.rht_words.proofs.EachElement.{Any-append_left, AllByRecursion-push}
use Rattle.rht_words.proofs.PlacesApart.{parts_in_order}
use Rattle.rht_policy.specs.Thresholds.{is_above_75, is_above_100, is_above_max}
use Rattle.rht_model.specs.declared.history.Reply.{Reply}
use Rattle.rht_arena.specs.TakeNode.{plan_at as take_node_plan_at}
use Rattle.rht_arena.specs.declared.take_node.TakeNodeAt.{TakeNodeAt}
use Rattle.rht_arena.specs.declared.take_node.TakeNodeAt.TheVariants as takes
use Rattle.rht_arena.specs.NewNode.{NewNodeModel, new_node_plan_at, new_node_after}
use Rattle.rht_arena.specs.declared.new_node.NewNodeAt.{NewNodeAt}
use Rattle.rht_arena.specs.declared.new_node.NewNodeAt.TheVariants as news
use Rattle.rht_arena.specs.TakeRun.{take_run_plan_at}
use Rattle.rht_arena.specs.declared.take_run.TakeRunAt.{TakeRunAt}
use Rattle.rht_arena.specs.declared.take_run.TakeRunAt.TheVariants as runs
use Rattle.rht_nest.specs.Locate.{LocateModel, locate_plan_at, locate_after}
use Rattle.rht_nest.specs.declared.locate.LocateAt.{LocateAt}
use Rattle.rht_nest.specs.declared.locate.LocateAt.TheVariants as locates
use Rattle.rht_nest.specs.declared.locate.Located.{Located}
use Rattle.rht_nest.specs.declared.locate.LocatedBucket.{LocatedBucket}
use Rattle.rht_nest.specs.declared.locate.LocatedBucket.TheVariants as buckets
use Rattle.rht_nest.specs.Place.{PlaceModel, entered}
use Rattle.rht_nest.specs.Grow.{GrowModel, grow_plan_at, grow_after}
use Rattle.rht_nest.specs.declared.grow.GrowAt.{GrowAt}
use Rattle.rht_nest.specs.declared.grow.GrowAt.TheVariants as grows
use Rattle.rht_nest.specs.Make.{MakeModel, make_plan_at, make_after}
use Rattle.rht_nest.specs.declared.make.MakeAt.{MakeAt}
use Rattle.rht_nest.specs.declared.make.MakeAt.TheVariants as makes
use Rattle.rht_nest.specs.Unmake.{UnmakeModel, unmake_new, unmake_plan_at, unmake_after}
use Rattle.rht_nest.specs.declared.unmake.UnmakeAt.{UnmakeAt}
use Rattle.rht_nest.specs.declared.unmake.UnmakeAt.TheVariants as unmakes
use Rattle.rht_chain.specs.Lock.{lock_plan_at}
use Rattle.rht_chain.specs.declared.lock.LockAt.{LockAt}
use Rattle.rht_chain.specs.declared.lock.LockAt.TheVariants as locks
use Rattle.rht_chain.specs.LockedWalk.{walk_plan_at}
use Rattle.rht_chain.specs.declared.locked_walk.LockedWalkAt.{LockedWalkAt}
use Rattle.rht_chain.specs.declared.locked_walk.LockedWalkAt.TheVariants as walks
use Rattle.rht_chain.specs.Probe.{ProbeModel, probe_plan_at, probe_after, IsProbeAtIn}
use Rattle.rht_chain.specs.declared.probe.ProbeAt.{ProbeAt}
use Rattle.rht_chain.specs.declared.probe.ProbeAt.TheVariants as probes
use Rattle.rht_chain.specs.declared.probe.Probed.{Probed}
use Rattle.rht_chain.specs.Relink.{RelinkModel, relink_plan_at, relink_after}
use Rattle.rht_chain.specs.declared.relink.RelinkAt.{RelinkAt}
use Rattle.rht_chain.specs.declared.relink.RelinkAt.TheVariants as relinks
use Rattle.rht_chain.specs.declared.locked.Then.{Then}
use Rattle.rht_chain.specs.declared.locked.Then.TheVariants.{Table, Answer}
use Rattle.rht_bind.specs.Bind.{plan_at, after_at, filled, locating, at_bucket, behind_page, grown, located, bound_already, found_or_future, probed, replaced, future_or_count, checked_count, published, unlocked, IsBindAtIn}
use Rattle.rht_bind.specs.Growing.{size_grown, want_or_busy, made, ended_attempt, behind_attempt, refused_or_found, has_attached, checked_attach, unmade}
use Rattle.rht_bind.specs.declared.bind.Attempt.{Attempt}
use Rattle.rht_bind.specs.declared.bind.Claimed.{Claimed}
use Rattle.rht_bind.specs.declared.bind.FoundList.{FoundList}
use Rattle.rht_bind.specs.declared.bind.growth.Growing.{Growing}
use Rattle.rht_bind.specs.declared.bind.growth.Refusal.{Refusal}
use Rattle.rht_bind.specs.Endings.{closed}
use Rattle.rht_bind.specs.declared.bind.ending.Ending.{Ending}
use Rattle.rht_bind.specs.declared.bind.ending.Ending.TheVariants as endings
use Rattle.rht_bind.specs.declared.bind.BindAt.{BindAt}
use Rattle.rht_bind.specs.declared.bind.BindAt.TheVariants as at
use Rattle.rht_core.specs.Traces.{Did}
use Rattle.rht_core.specs.ResizeCauses.{AttachesSome}
use Rattle.rht_ghost.proofs.Theory.Steps.{by_test}

-- whether a bind in this state has attached a table, where it is still to say so
abbrev pub attached_at : BindAt → Option Bool
attached_at (at.Filling new) = Some false
attached_at (at.Opening attempt) = Some attempt.attached
attached_at (at.CurrentTable attempt) = Some attempt.attached
attached_at (at.Locating attempt locate) = Some attempt.attached
attached_at (at.Entering attempt table shape place grow) = Some attempt.attached
attached_at (at.Probing attempt table shape probe) = Some attempt.attached
attached_at (at.FoundOwner claimed found) = Some claimed.attempt.attached
attached_at (at.ListLink list) = Some list.claimed.attempt.attached
attached_at (at.ChainLink list) = Some list.claimed.attempt.attached
attached_at (at.LinkBehind list link) = Some list.claimed.attempt.attached
attached_at (at.Replacing list relink) = Some list.claimed.attempt.attached
attached_at (at.Future claimed length) = Some claimed.attempt.attached
attached_at (at.Count claimed) = Some claimed.attempt.attached
attached_at (at.Link claimed) = Some claimed.attempt.attached
attached_at (at.Raise claimed) = Some claimed.attempt.attached
attached_at (at.Publish node table relink kick) = None
attached_at (at.Unlocking attempt table unlock next) = Some attempt.attached
attached_at (at.UnlockingFull growing unlock) = Some growing.attempt.attached
attached_at (at.Root growing) = Some growing.attempt.attached
attached_at (at.GrowthCount growing root) = Some growing.attempt.attached
attached_at (at.Making growing size make) = Some growing.attempt.attached
attached_at (at.FutureAgain growing refusal) = Some growing.attempt.attached
attached_at (at.Attaching growing slot shape) = Some growing.attempt.attached
attached_at (at.Unmaking attempt unmake answer) = Some attempt.attached
attached_at (at.Closing (endings.Bound kick)) = None
attached_at (at.Closing (endings.Answered node reply)) = None
attached_at (at.Closing (endings.Anew attempt)) = Some attempt.attached
attached_at (at.Giving give reply) = None

-- the state has this of it, or nothing
abbrev pub Keeps : Bool → BindAt → Type 0
Keeps attached state = IfSome (attached_at state) (λ a. a ≡ attached)

module _ (env : Env) where
  -- ---- between two states it stays

  filled-keeps : (new : NewNodeModel) (next : Next (Option ℕ)) → Keeps false (filled new next).0
  filled-keeps new Go = refl
  filled-keeps new (Done None) = refl
  filled-keeps new (Done (Some node)) = refl

  bucket-keeps : (port : ℕ) (attempt : Attempt) (table shape : ℕ) (bucket : LocatedBucket)
      → Keeps attempt.attached (at_bucket env port attempt table shape bucket)
  bucket-keeps port attempt table shape (buckets.At place) = refl
  bucket-keeps port attempt table shape (buckets.Missing place (Some next)) = refl
  bucket-keeps port attempt table shape (buckets.Missing place None) = refl

  page-keeps : (port : ℕ) (attempt : Attempt) (table shape : ℕ) (start : Start PlaceModel ℕ)
      → Keeps attempt.attached (behind_page env port attempt table shape start)
  page-keeps port attempt table shape (starts.Running next) = refl
  page-keeps port attempt table shape (starts.Done place) = refl

  grown-keeps : (port : ℕ) (attempt : Attempt) (table shape : ℕ) (place : PlaceModel) (grow : GrowModel)
      (next : Next (Option ℕ)) → Keeps attempt.attached (grown env port attempt table shape place grow next)
  grown-keeps port attempt table shape place grow Go = refl
  grown-keeps port attempt table shape place grow (Done None) = tt
  grown-keeps port attempt table shape place grow (Done (Some page)) =
      page-keeps port attempt table shape (entered place page)

  located-keeps : (port : ℕ) (attempt : Attempt) (locate : LocateModel) (next : Next Located)
      → Keeps attempt.attached (located env port attempt locate next)
  located-keeps port attempt locate Go = refl
  located-keeps port attempt locate (Done there) =
      bucket-keeps port attempt locate.table there.shape there.bucket

  bound-keeps : (kind : Kind) (claimed : Claimed) (first : ℕ) (before : Option ℕ)
      → Keeps claimed.attempt.attached (bound_already kind claimed first before)
  bound-keeps Single claimed first before = refl
  bound-keeps Listed claimed first before = refl

  seen-keeps : (kind : Kind) (claimed : Claimed) (found before : Option ℕ) (length : ℕ)
      → Keeps claimed.attempt.attached (found_or_future kind claimed found before length)
  seen-keeps kind claimed None before length = refl
  seen-keeps kind claimed (Some first) before length = bound-keeps kind claimed first before

  probed-keeps : (kind : Kind) (attempt : Attempt) (table shape : ℕ) (probe : ProbeModel) (next : Next Probed)
      → Keeps attempt.attached (probed kind attempt table shape probe next)
  probed-keeps kind attempt table shape probe Go = refl
  probed-keeps kind attempt table shape probe (Done end) =
      let claimed : Claimed = record { attempt = attempt; table = table; shape = shape; bucket = end.bucket } in
      seen-keeps kind claimed end.seen.found end.seen.before end.seen.length

  replaced-keeps : (list : FoundList) (relink : RelinkModel) (next : Next (Unit {0}))
      → Keeps list.claimed.attempt.attached (replaced list relink next)
  replaced-keeps list relink Go = refl
  replaced-keeps list relink (Done done) = tt

  future-keeps : (claimed : Claimed) (length : ℕ) (future : Option ℕ)
      → Keeps claimed.attempt.attached (future_or_count claimed length future)
  future-keeps claimed length None =
      cond_both (nat_le 16 length) _ _ (Keeps claimed.attempt.attached) (λ t. refl) (λ f. refl)
  future-keeps claimed length (Some table) = refl

  count-keeps : (claimed : Claimed) (count : ℕ) → Keeps claimed.attempt.attached (checked_count env claimed count)
  count-keeps claimed count =
      cond_both (is_above_max (min count 65536) env.config.max) _ _ (Keeps claimed.attempt.attached) (λ t. refl)
      (λ f.
      cond_both (is_above_100 (min count 65536) (size_of (unpacked claimed.shape)) env.config.max) _ _
      (Keeps claimed.attempt.attached) (λ t. refl) (λ f. refl))

  unlocked-keeps : (attempt : Attempt) (next : Then Reply) → Keeps attempt.attached (unlocked env attempt next)
  unlocked-keeps attempt (Table table) = refl
  unlocked-keeps attempt (Answer reply) = tt

  want-keeps : (growing : Growing) (root count : ℕ)
      → Keeps growing.attempt.attached (want_or_busy env growing root count)
  want-keeps growing root count =
      cond_both (is_above_75 (min count 65536) (size_grown growing) env.config.max) _ _
      (Keeps growing.attempt.attached) (λ t. refl)
      (λ f.
      cond_both (nat_eq root growing.table) _ _ (Keeps growing.attempt.attached) (λ t. refl) (λ f. refl))

  made-keeps : (growing : Growing) (size : ℕ) (make : MakeModel) (next : Next (Option (ℕ × ℕ)))
      → Keeps growing.attempt.attached (made growing size make next)
  made-keeps growing size make Go = refl
  made-keeps growing size make (Done None) = refl
  made-keeps growing size make (Done (Some table)) = refl

  behind-keeps : (attempt : Attempt) (answer : Option Reply)
      → Keeps attempt.attached (behind_attempt attempt answer)
  behind-keeps attempt None = refl
  behind-keeps attempt (Some reply) = tt

  refused-keeps : (once : Bool) (growing : Growing) (refusal : Refusal) (future : Option ℕ)
      → Keeps growing.attempt.attached (refused_or_found once growing refusal future)
  refused-keeps once growing refusal None = tt
  refused-keeps once growing refusal (Some table) = behind-keeps growing.attempt (ended_attempt once table)

  unmade-keeps : (attempt : Attempt) (answer : Option Reply) (unmake : UnmakeModel) (next : Next (Unit {0}))
      → Keeps attempt.attached (unmade attempt answer unmake next)
  unmade-keeps attempt answer unmake Go = refl
  unmade-keeps attempt answer unmake (Done done) = behind-keeps attempt answer

-- ---- which operations attach

-- the operation is no exchange of a slot's future
abbrev pub IsNoFutureExchange : Geometry → Op → Type 0
IsNoFutureExchange g op =
    (table old new : ℕ) → table < 8 → op ≢ Exchange (place_of g (Slot table FutureWord)) old new

module _ (g : Geometry) where
  abbrev pub IsNoAttach : Did → Type 0
  IsNoAttach did = AttachesSome g did → ⊥

  pub no_attach : (did : Did) (op : Op) → did.op ≡ op → IsNoFutureExchange g op → IsNoAttach did
  no_attach did op is none some =
      let attaches = some.attaches in
      none some.table 0 (future_of some.slot) attaches.table_in (sym is ∙ attaches.exchanges)

  -- whether one of these operations attached a table
  abbrev pub AttachedSo : Bool → List Did → Type 0
  AttachedSo true steps = Any (AttachesSome g) steps
  AttachedSo false steps = AllByRecursion IsNoAttach steps

  pub AttachedSo-push : (attached : Bool) (steps : List Did) (did : Did) → IsNoAttach did
      → AttachedSo attached steps → AttachedSo attached (steps ++ did ∷ [])
  AttachedSo-push true steps did none so = Any-append_left (AttachesSome g) steps (did ∷ []) so
  AttachedSo-push false steps did none so = AllByRecursion-push IsNoAttach steps did so none

  -- ---- of the pieces

  take_node-none : (h : Geometry) (state : TakeNodeAt) → IsNoFutureExchange g (take_node_plan_at h state)
  take_node-none h (takes.MapWord index) table old new l e = cc
  take_node-none h (takes.Claim index bit) table old new l e = cc

  new_node-none : (h : Geometry) (key owner : ℕ) (state : NewNodeAt)
      → IsNoFutureExchange g (new_node_plan_at h key owner state)
  new_node-none h key owner (news.Taking take) table old new l e =
      take_node-none take.geometry take.at table old new l e
  new_node-none h key owner _ table old new l e = cc

  locate-none : (h : Geometry) (slot : ℕ) (state : LocateAt) → IsNoFutureExchange g (locate_plan_at h slot state)
  locate-none h slot locates.Shape table old new l e = cc
  locate-none h slot _ table old new l e = cc

  -- buckets stand behind the slots
  pub lock-none : (place : ℕ) (state : LockAt) → IsBucketPlace g place → IsNoFutureExchange g (lock_plan_at place state)
  lock-none place locks.Word there table old new l e = cc
  lock-none place (locks.Exchange word) there table old new l e =
      let same : place ≡ place_of g (Slot table FutureWord) = cc in
      let order = parts_in_order g in
      absurd (omega (arith, same, l, there.0, order.page_map, order.nodes, order.pages))

  walk-none : (h : Geometry) (state : LockedWalkAt) → IsNoFutureExchange g (walk_plan_at h state)
  walk-none h (walks.Key node) table old new l e = cc
  walk-none h (walks.ChainLink node) table old new l e = cc

  probe-none : (state : ProbeAt) → IsProbeAtIn g state → IsNoFutureExchange g (probe_plan_at state)
  probe-none (probes.Locking lock) there = lock-none lock.place lock.at there.place_in
  probe-none (probes.Walking bucket walk) there = walk-none walk.geometry walk.at

  pub relink-none : (m : RelinkModel) (state : RelinkAt) → IsNoFutureExchange g (relink_plan_at m state)
  relink-none m (relinks.ChainLink before) table old new l e = cc
  relink-none m (relinks.Word word) table old new l e = cc

  run-none : (h : Geometry) (pages : ℕ) (state : TakeRunAt) → IsNoFutureExchange g (take_run_plan_at h pages state)
  run-none h pages (runs.MapWord first index) table old new l e = cc
  run-none h pages (runs.Claim first index) table old new l e = cc
  run-none h pages (runs.GiveBack first index bits) table old new l e = cc

  -- an entry of a nested table is a word of the pages
  grow-none : (entry : ℕ) (state : GrowAt) → IsBucketPlace g entry → IsNoFutureExchange g (grow_plan_at entry state)
  grow-none entry (grows.Taking take) there table old new l e =
      run-none take.geometry take.pages take.at table old new l e
  grow-none entry (grows.Entering page) there table old new l e =
      let same : entry ≡ place_of g (Slot table FutureWord) = cc in
      let order = parts_in_order g in
      absurd (omega (arith, same, l, there.0, order.page_map, order.nodes, order.pages))
  grow-none entry (grows.Giving page give) there table old new l e = cc

  -- the state of a slot is another word than a future
  pub make-none : (h : Geometry) (exponent seed : ℕ) (state : MakeAt)
      → IsNoFutureExchange g (make_plan_at h exponent seed state)
  make-none h exponent seed (makes.Slot slot) table old new l e =
      let same : place_of h (Slot slot StateWord) ≡ place_of g (Slot table FutureWord) = cc in
      absurd (omega (arith, same))
  make-none h exponent seed (makes.Taking slot take) table old new l e =
      run-none take.geometry take.pages take.at table old new l e
  make-none h exponent seed (makes.TakingTop slot take) table old new l e =
      run-none take.geometry take.pages take.at table old new l e
  make-none h exponent seed _ table old new l e = cc

  pub unmake-none : (h : Geometry) (slot : ℕ) (state : UnmakeAt) → IsNoFutureExchange g (unmake_plan_at h slot state)
  unmake-none h slot (unmakes.Giving give) table old new l e = cc
  unmake-none h slot unmakes.SlotBack table old new l e = cc

-- ---- an operation of a bind

module _ (env : Env) where
  abbrev g : Geometry
  g = env.geometry

  -- the operations so far attached a table where the state says that the bind has attached one
  abbrev pub SawAttached : BindAt → List Did → Type 0
  SawAttached state steps = IfSome (attached_at state) (λ a. AttachedSo g a steps)

  kept-saw : (was : Bool) (all : List Did) (next : Option Bool) → IfSome next (λ a. a ≡ was) → AttachedSo g was all
      → IfSome next (λ a. AttachedSo g a all)
  kept-saw was all None keeps so = tt
  kept-saw was all (Some a) keeps so = subst (λ b. AttachedSo g b all) (sym keeps) so

  -- behind an operation that is no exchange of a future
  goes : (was : Bool) (next : BindAt) (op : Op) (steps : List Did) (did : Did) → did.op ≡ op
      → IsNoFutureExchange g op → Keeps was next → AttachedSo g was steps → SawAttached next (steps ++ did ∷ [])
  goes was next op steps did is none keeps so =
      kept-saw was (steps ++ did ∷ []) (attached_at next) keeps
      (AttachedSo-push g was steps did (no_attach g did op is none) so)

  published-saw : (node table : ℕ) (kick : Bool) (relink : RelinkModel) (next : Next (Unit {0})) (all : List Did)
      → SawAttached (published node table kick relink next) all
  published-saw node table kick relink Go all = tt
  published-saw node table kick relink (Done done) all = tt

  -- the exchange attaches where it finds that there was no future
  attaching-saw : (once : Bool) (growing : Growing) (slot shape : ℕ) (steps : List Did) (did : Did)
      → growing.table < 8 → slot < 8 → did.op ≡ Exchange (place_of g (Slot growing.table FutureWord)) 0 (future_of slot)
      → AttachedSo g growing.attempt.attached steps
      → SawAttached (checked_attach env once growing slot shape did.old) (steps ++ did ∷ [])
  attaching-saw once growing slot shape steps did table_in slot_in is so =
      let won = behind_attempt (has_attached growing.attempt) (ended_attempt once slot) in
      let answer = ended_attempt once (table_of (did.old - 1)) in
      let all = steps ++ did ∷ [] in
      by_test (λ t. SawAttached (cond t won (at.Unmaking growing.attempt (unmake_new g slot shape) answer)) all)
      (did.old == 0)
      (λ t.
      kept-saw true all (attached_at won) (behind-keeps env (has_attached growing.attempt) (ended_attempt once slot))
      (Any-push (AttachesSome g) steps did (record {
        table = growing.table;
        slot = slot;
        attaches =
            record { table_in = table_in; slot_in = slot_in; exchanges = is; found = eqb-true did.old 0 t };
      })))
      (λ f.
      AttachedSo-push g growing.attempt.attached steps did
      (λ some. eqb-false did.old 0 f some.attaches.found) so)

  -- behind the closing of its section a bind that begins anew is to say so still
  closed-saw : (ending : Ending) (steps : List Did) (did : Did) → IsNoAttach g did → SawAttached (at.Closing ending) steps
      → SawAttached (closed env ending).0 (steps ++ did ∷ [])
  closed-saw (endings.Bound kick) steps did none saw = tt
  closed-saw (endings.Answered node reply) steps did none saw = tt
  closed-saw (endings.Anew attempt) steps did none saw = AttachedSo-push g attempt.attached steps did none saw

  pub attached-saw : (mix : ℕ → ℕ → ℕ → ℕ) (c port : ℕ) (once : Bool) (state : BindAt) (steps : List Did) (did : Did)
      → IsBindAtIn env state → did.op ≡ plan_at env c state → SawAttached state steps
      → SawAttached (after_at mix env port once state did.old).0 (steps ++ did ∷ [])
  attached-saw mix c port once (at.Filling new) steps did within is saw =
      let r = new_node_after new did.old in
      goes false (filled r.0 r.1).0 _ steps did is (new_node-none g new.geometry new.key new.owner new.at)
      (filled-keeps env r.0 r.1) saw
  attached-saw mix c port once (at.Opening attempt) steps did within is saw =
      AttachedSo-push g attempt.attached steps did (no_attach g did _ is (λ table old new l e. cc)) saw
  attached-saw mix c port once (at.CurrentTable attempt) steps did within is saw =
      goes attempt.attached (locating env attempt (table_of did.old)) _ steps did is (λ table old new l e. cc) refl saw
  attached-saw mix c port once (at.Locating attempt locate) steps did within is saw =
      let r = locate_after mix port locate did.old in
      goes attempt.attached (located env port attempt r.0 r.1) _ steps did is
      (locate-none g locate.geometry locate.table locate.at) (located-keeps env port attempt r.0 r.1) saw
  attached-saw mix c port once (at.Entering attempt table shape place grow) steps did within is saw =
      let r = grow_after grow did.old in
      goes attempt.attached (grown env port attempt table shape place r.0 r.1) _ steps did is
      (grow-none g grow.entry grow.at within.grow_in.entry_in) (grown-keeps env port attempt table shape place r.0 r.1) saw
  attached-saw mix c port once (at.Probing attempt table shape probe) steps did within is saw =
      let r = probe_after probe did.old in
      goes attempt.attached (probed env.config.kind attempt table shape r.0 r.1) _ steps did is
      (probe-none g probe.at within.probe_in.at_in) (probed-keeps env env.config.kind attempt table shape r.0 r.1) saw
  attached-saw mix c port once (at.FoundOwner claimed found) steps did within is saw =
      AttachedSo-push g claimed.attempt.attached steps did (no_attach g did _ is (λ table old new l e. cc)) saw
  attached-saw mix c port once (at.ListLink list) steps did within is saw =
      AttachedSo-push g list.claimed.attempt.attached steps did (no_attach g did _ is (λ table old new l e. cc)) saw
  attached-saw mix c port once (at.ChainLink list) steps did within is saw =
      AttachedSo-push g list.claimed.attempt.attached steps did (no_attach g did _ is (λ table old new l e. cc)) saw
  attached-saw mix c port once (at.LinkBehind list link) steps did within is saw =
      AttachedSo-push g list.claimed.attempt.attached steps did (no_attach g did _ is (λ table old new l e. cc)) saw
  attached-saw mix c port once (at.Replacing list relink) steps did within is saw =
      let r = relink_after relink in
      goes list.claimed.attempt.attached (replaced list r.0 r.1) _ steps did is (relink-none g relink relink.at)
      (replaced-keeps env list r.0 r.1) saw
  attached-saw mix c port once (at.Future claimed length) steps did within is saw =
      goes claimed.attempt.attached (future_or_count claimed length (slot_of did.old)) _ steps did is
      (λ table old new l e. cc) (future-keeps env claimed length (slot_of did.old)) saw
  attached-saw mix c port once (at.Count claimed) steps did within is saw =
      goes claimed.attempt.attached (checked_count env claimed did.old) _ steps did is (λ table old new l e. cc)
      (count-keeps env claimed did.old) saw
  attached-saw mix c port once (at.Link claimed) steps did within is saw =
      AttachedSo-push g claimed.attempt.attached steps did (no_attach g did _ is (λ table old new l e. cc)) saw
  attached-saw mix c port once (at.Raise claimed) steps did within is saw = tt
  attached-saw mix c port once (at.Publish node table relink kick) steps did within is saw =
      published-saw node table kick (relink_after relink).0 (relink_after relink).1 (steps ++ did ∷ [])
  attached-saw mix c port once (at.Unlocking attempt table unlock next) steps did within is saw =
      goes attempt.attached (unlocked env attempt next) _ steps did is (λ table old new l e. cc)
      (unlocked-keeps env attempt next) saw
  attached-saw mix c port once (at.UnlockingFull growing unlock) steps did within is saw =
      AttachedSo-push g growing.attempt.attached steps did (no_attach g did _ is (λ table old new l e. cc)) saw
  attached-saw mix c port once (at.Root growing) steps did within is saw =
      AttachedSo-push g growing.attempt.attached steps did (no_attach g did _ is (λ table old new l e. cc)) saw
  attached-saw mix c port once (at.GrowthCount growing root) steps did within is saw =
      goes growing.attempt.attached (want_or_busy env growing root did.old) _ steps did is (λ table old new l e. cc)
      (want-keeps env growing root did.old) saw
  attached-saw mix c port once (at.Making growing size make) steps did within is saw =
      let r = make_after make did.old in
      goes growing.attempt.attached (made growing size r.0 r.1) _ steps did is
      (make-none g make.geometry make.exponent make.seed make.at) (made-keeps env growing size r.0 r.1) saw
  attached-saw mix c port once (at.FutureAgain growing refusal) steps did within is saw =
      goes growing.attempt.attached (refused_or_found once growing refusal (slot_of did.old)) _ steps did is
      (λ table old new l e. cc) (refused-keeps env once growing refusal (slot_of did.old)) saw
  attached-saw mix c port once (at.Attaching growing slot shape) steps did within is saw =
      attaching-saw once growing slot shape steps did within.growing_in.table_in within.slot_in is saw
  attached-saw mix c port once (at.Unmaking attempt unmake answer) steps did within is saw =
      let r = unmake_after unmake did.old in
      goes attempt.attached (unmade attempt answer r.0 r.1) _ steps did is
      (unmake-none g unmake.geometry unmake.slot unmake.at) (unmade-keeps env attempt answer r.0 r.1) saw
  attached-saw mix c port once (at.Closing ending) steps did within is saw =
      closed-saw ending steps did (no_attach g did _ is (λ table old new l e. cc)) saw
  attached-saw mix c port once (at.Giving give reply) steps did within is saw = tt
