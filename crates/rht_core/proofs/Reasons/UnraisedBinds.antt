-- A bind raises the count of ports with one operation, and behind that it publishes its node, closes its section and ends: until
-- then it has raised none, in none of its attempts.
use Rattle.std.proofs.Common.{◌≡◌, ◌≢◌, ℕ, ◌+◌, Bool, List, [], ◌∷◌, ◌++◌, sym, ap, ◌∙◌, arith}
use Rattle.std.specs.Prelude.{Option, Some, None, IfSome}
use Rattle.std.specs.List.{AllByRecursion}
use Rattle.rht_words.specs.declared.op.Op.{Op}
use Rattle.rht_words.specs.declared.op.Op.TheVariants.{Add}
use Rattle.rht_words.specs.declared.env.Env.{Env}
use Rattle.rht_words.specs.declared.geometry.Geometry.{Geometry}
use Rattle.rht_words.specs.declared.machine.Next.{Next}
use Rattle.rht_words.specs.declared.machine.Next.TheVariants.{Go, Done}
use Rattle.rht_words.specs.Operations.{op_place}
use Rattle.rht_words.specs.Places.{PortCount, Section, place_of}
use Rattle.rht_words.proofs.EachElement.{AllByRecursion-push}
use Rattle.rht_arena.specs.TakeNode.{plan_at as take_node_plan_at}
use Rattle.rht_arena.specs.declared.take_node.TakeNodeAt.{TakeNodeAt}
use Rattle.rht_arena.specs.declared.take_node.TakeNodeAt.TheVariants as takes
use Rattle.rht_arena.specs.NewNode.{new_node_plan_at}
use Rattle.rht_arena.specs.declared.new_node.NewNodeAt.{NewNodeAt}
use Rattle.rht_arena.specs.declared.new_node.NewNodeAt.TheVariants as news
use Rattle.rht_arena.specs.TakeRun.{take_run_plan_at}
use Rattle.rht_arena.specs.declared.take_run.TakeRunAt.{TakeRunAt}
use Rattle.rht_arena.specs.declared.take_run.TakeRunAt.TheVariants as runs
use Rattle.rht_nest.specs.Grow.{grow_plan_at}
use Rattle.rht_nest.specs.declared.grow.GrowAt.{GrowAt}
use Rattle.rht_nest.specs.declared.grow.GrowAt.TheVariants as grows
use Rattle.rht_nest.specs.Locate.{locate_plan_at}
use Rattle.rht_nest.specs.declared.locate.LocateAt.{LocateAt}
use Rattle.rht_nest.specs.declared.locate.LocateAt.TheVariants as locates
use Rattle.rht_nest.specs.Make.{make_plan_at}
use Rattle.rht_nest.specs.declared.make.MakeAt.{MakeAt}
use Rattle.rht_nest.specs.declared.make.MakeAt.TheVariants as makes
use Rattle.rht_nest.specs.Unmake.{unmake_plan_at}
use Rattle.rht_nest.specs.declared.unmake.UnmakeAt.{UnmakeAt}
use Rattle.rht_nest.specs.declared.unmake.UnmakeAt.TheVariants as unmakes
use Rattle.rht_chain.specs.Lock.{lock_plan_at}
use Rattle.rht_chain.specs.declared.lock.LockAt.{LockAt}
use Rattle.rht_chain.specs.declared.lock.LockAt.TheVariants as locks
use Rattle.rht_chain.specs.LockedWalk.{walk_plan_at}
use Rattle.rht_chain.specs.declared.locked_walk.LockedWalkAt.{LockedWalkAt}
use Rattle.rht_chain.specs.declared.locked_walk.LockedWalkAt.TheVariants as walks
use Rattle.rht_chain.specs.Probe.{probe_plan_at}
use Rattle.rht_chain.specs.declared.probe.ProbeAt.{ProbeAt}
use Rattle.rht_chain.specs.declared.probe.ProbeAt.TheVariants as probes
use Rattle.rht_chain.specs.Relink.{RelinkModel, relink_plan_at, relink_after}
use Rattle.rht_chain.specs.declared.relink.RelinkAt.{RelinkAt}
use Rattle.rht_chain.specs.declared.relink.RelinkAt.TheVariants as relinks
use Rattle.rht_bind.specs.Bind.{plan_at, after_at, published}
use Rattle.rht_bind.specs.Endings.{closed}
use Rattle.rht_bind.specs.declared.bind.ending.Ending.{Ending}
use Rattle.rht_bind.specs.declared.bind.ending.Ending.TheVariants as endings
use Rattle.rht_bind.specs.declared.bind.BindAt.{BindAt}
use Rattle.rht_bind.specs.declared.bind.BindAt.TheVariants as at
use Rattle.rht_core.specs.Traces.{Did}
use Rattle.rht_core.proofs.Reasons.AttachedTables.{attached_at}
use Rattle.rht_core.proofs.Reasons.TablesWalked.{IsNoRaise}

module _ (g : Geometry) where
  -- the operation adds 1 to another word than the count of ports, or nothing
  abbrev IsNoCountAdd : Op → Type 0
  IsNoCountAdd op = op ≢ Add (place_of g PortCount) 1

  -- ---- the pieces

  -- a section word is another word
  pub turning-none : (c : ℕ) → IsNoCountAdd (Add (place_of g (Section c)) 1)
  turning-none c is = absurd (let at : 8 + c ≡ 2 = ap op_place is in omega (arith, at))

  take_node-none : (h : Geometry) (state : TakeNodeAt) → IsNoCountAdd (take_node_plan_at h state)
  take_node-none h (takes.MapWord index) is = cc
  take_node-none h (takes.Claim index bit) is = cc

  new_node-none : (h : Geometry) (key owner : ℕ) (state : NewNodeAt) → IsNoCountAdd (new_node_plan_at h key owner state)
  new_node-none h key owner (news.Taking take) is = take_node-none take.geometry take.at is
  new_node-none h key owner _ is = cc

  pub locate-none : (h : Geometry) (slot : ℕ) (state : LocateAt) → IsNoCountAdd (locate_plan_at h slot state)
  locate-none h slot locates.Shape is = cc
  locate-none h slot _ is = cc

  lock-none : (place : ℕ) (state : LockAt) → IsNoCountAdd (lock_plan_at place state)
  lock-none place locks.Word is = cc
  lock-none place (locks.Exchange word) is = cc

  walk-none : (h : Geometry) (state : LockedWalkAt) → IsNoCountAdd (walk_plan_at h state)
  walk-none h (walks.Key node) is = cc
  walk-none h (walks.ChainLink node) is = cc

  pub probe-none : (state : ProbeAt) → IsNoCountAdd (probe_plan_at state)
  probe-none (probes.Locking lock) = lock-none lock.place lock.at
  probe-none (probes.Walking bucket walk) = walk-none walk.geometry walk.at

  pub relink-none : (m : RelinkModel) (state : RelinkAt) → IsNoCountAdd (relink_plan_at m state)
  relink-none m (relinks.ChainLink before) is = cc
  relink-none m (relinks.Word word) is = cc

  run-none : (h : Geometry) (pages : ℕ) (state : TakeRunAt) → IsNoCountAdd (take_run_plan_at h pages state)
  run-none h pages (runs.MapWord first index) is = cc
  run-none h pages (runs.Claim first index) is = cc
  run-none h pages (runs.GiveBack first index bits) is = cc

  -- nor does what enters a page, at whatever place its entry is
  pub grow-none : (entry : ℕ) (state : GrowAt) → IsNoCountAdd (grow_plan_at entry state)
  grow-none entry (grows.Taking take) is = run-none take.geometry take.pages take.at is
  grow-none entry (grows.Entering page) is = cc
  grow-none entry (grows.Giving there give) is = cc

  -- the number of the next table is another word
  make-none : (h : Geometry) (exponent seed : ℕ) (state : MakeAt) → IsNoCountAdd (make_plan_at h exponent seed state)
  make-none h exponent seed (makes.Taking slot take) is = run-none take.geometry take.pages take.at is
  make-none h exponent seed (makes.TakingTop slot take) is = run-none take.geometry take.pages take.at is
  make-none h exponent seed _ is = cc

  unmake-none : (h : Geometry) (slot : ℕ) (state : UnmakeAt) → IsNoCountAdd (unmake_plan_at h slot state)
  unmake-none h slot (unmakes.Giving give) is = cc
  unmake-none h slot unmakes.SlotBack is = cc

-- ---- an operation of a bind

module _ (env : Env) where
  abbrev g : Geometry
  g = env.geometry

  -- while the bind is still to say whether it has attached a table, it has raised no count
  abbrev pub SawUnraised : BindAt → List Did → Type 0
  SawUnraised state steps = IfSome (attached_at state) (λ a. AllByRecursion (IsNoRaise g) steps)

  kept-saw : (all : List Did) (next : Option Bool) → AllByRecursion (IsNoRaise g) all
      → IfSome next (λ a. AllByRecursion (IsNoRaise g) all)
  kept-saw all None none = tt
  kept-saw all (Some a) none = none

  -- behind an operation that isn't the raise
  goes : (next : BindAt) (op : Op) (steps : List Did) (did : Did) → did.op ≡ op → IsNoCountAdd g op
      → AllByRecursion (IsNoRaise g) steps → SawUnraised next (steps ++ did ∷ [])
  goes next op steps did is none unraised =
      kept-saw (steps ++ did ∷ []) (attached_at next)
      (AllByRecursion-push (IsNoRaise g) steps did unraised (λ adds. none (sym is ∙ adds)))

  published-saw : (node table : ℕ) (kick : Bool) (relink : RelinkModel) (next : Next (Unit {0})) (all : List Did)
      → SawUnraised (published node table kick relink next) all
  published-saw node table kick relink Go all = tt
  published-saw node table kick relink (Done done) all = tt

  closed-saw : (c : ℕ) (ending : Ending) (steps : List Did) (did : Did) → did.op ≡ Add (place_of g (Section c)) 1
      → SawUnraised (at.Closing ending) steps → SawUnraised (closed env ending).0 (steps ++ did ∷ [])
  closed-saw c (endings.Bound kick) steps did is saw = tt
  closed-saw c (endings.Answered node reply) steps did is saw = tt
  closed-saw c (endings.Anew attempt) steps did is saw = goes (at.Opening attempt) _ steps did is (turning-none g c) saw

  pub unraised-saw : (mix : ℕ → ℕ → ℕ → ℕ) (c port : ℕ) (once : Bool) (state : BindAt) (steps : List Did) (did : Did)
      → did.op ≡ plan_at env c state → SawUnraised state steps
      → SawUnraised (after_at mix env port once state did.old).0 (steps ++ did ∷ [])
  unraised-saw mix c port once (at.Filling new) steps did is saw =
      goes (after_at mix env port once (at.Filling new) did.old).0 _ steps did is
      (new_node-none g new.geometry new.key new.owner new.at) saw
  unraised-saw mix c port once (at.Locating attempt locate) steps did is saw =
      goes (after_at mix env port once (at.Locating attempt locate) did.old).0 _ steps did is
      (locate-none g locate.geometry locate.table locate.at) saw
  unraised-saw mix c port once (at.Entering attempt table shape place grow) steps did is saw =
      goes (after_at mix env port once (at.Entering attempt table shape place grow) did.old).0 _ steps did is
      (grow-none g grow.entry grow.at) saw
  unraised-saw mix c port once (at.Probing attempt table shape probe) steps did is saw =
      goes (after_at mix env port once (at.Probing attempt table shape probe) did.old).0 _ steps did is
      (probe-none g probe.at) saw
  unraised-saw mix c port once (at.Replacing list relink) steps did is saw =
      goes (after_at mix env port once (at.Replacing list relink) did.old).0 _ steps did is
      (relink-none g relink relink.at) saw
  unraised-saw mix c port once (at.Making growing size make) steps did is saw =
      goes (after_at mix env port once (at.Making growing size make) did.old).0 _ steps did is
      (make-none g make.geometry make.exponent make.seed make.at) saw
  unraised-saw mix c port once (at.Unmaking attempt unmake answer) steps did is saw =
      goes (after_at mix env port once (at.Unmaking attempt unmake answer) did.old).0 _ steps did is
      (unmake-none g unmake.geometry unmake.slot unmake.at) saw
  unraised-saw mix c port once (at.Opening attempt) steps did is saw = goes (at.CurrentTable attempt) _ steps did is (turning-none g c) saw
  unraised-saw mix c port once (at.Closing ending) steps did is saw = closed-saw c ending steps did is saw
  unraised-saw mix c port once (at.Raise claimed) steps did is saw = tt
  unraised-saw mix c port once (at.Publish node table relink kick) steps did is saw =
      published-saw node table kick (relink_after relink).0 (relink_after relink).1 (steps ++ did ∷ [])
  unraised-saw mix c port once (at.Giving give reply) steps did is saw = tt
  unraised-saw mix c port once state steps did is saw =
      goes (after_at mix env port once state did.old).0 _ steps did is (λ adds. cc) saw
