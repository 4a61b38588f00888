-- Which operation draws a serial: the one in a making at which its slot and its pages are taken. Each other operation of each job leaves the
-- word of the next serial, since it is a load, or on another word.
use Rattle.std.proofs.Common.{◌≡◌, ◌≢◌, ◌<◌, ◌⊎◌, ℕ, Bool, List, get_or, refl, sym, ap, subst, inl, inr, arith}
use Rattle.std.specs.Prelude.{Option, Some, None}
use Rattle.rht_words.specs.declared.op.Op.{Op}
use Rattle.rht_words.specs.declared.op.Op.TheVariants.{Load, Add}
use Rattle.rht_words.specs.declared.env.Env.{Env}
use Rattle.rht_words.specs.declared.geometry.Geometry.{Geometry}
use Rattle.rht_words.specs.Operations.{op_place, old_of, word_after, applied}
use Rattle.rht_words.specs.Places.{ChainLink, ListLink, IsBucketPlace}
use Rattle.rht_words.proofs.PlacesApart.{parts_in_order}
use Rattle.rht_words.proofs.WordChanges.{applied-other}
use Rattle.rht_arena.specs.TakeRun.{take_run_plan_at}
use Rattle.rht_arena.specs.GiveRun.{GiveRunModel, give_run_new, give_run_plan}
use Rattle.rht_arena.specs.declared.take_run.TakeRunAt.{TakeRunAt}
use Rattle.rht_arena.specs.declared.take_run.TakeRunAt.TheVariants as runs
use Rattle.rht_nest.specs.Grow.{grow_plan_at}
use Rattle.rht_nest.specs.declared.grow.GrowAt.{GrowAt}
use Rattle.rht_nest.specs.declared.grow.GrowAt.TheVariants as grows
use Rattle.rht_nest.specs.Make.{MakeModel, make_plan_at}
use Rattle.rht_nest.specs.declared.make.MakeAt.{MakeAt}
use Rattle.rht_nest.specs.declared.make.MakeAt.TheVariants as makes
use Rattle.rht_nest.specs.Unmake.{unmake_plan_at}
use Rattle.rht_nest.specs.declared.unmake.UnmakeAt.{UnmakeAt}
use Rattle.rht_nest.specs.declared.unmake.UnmakeAt.TheVariants as unmakes
use Rattle.rht_bind.specs.Bind as bind
use Rattle.rht_bind.specs.declared.bind.BindAt.{BindAt}
use Rattle.rht_bind.specs.declared.bind.BindAt.TheVariants as bind_at
use Rattle.rht_nest.specs.Place.{top_page}
use Rattle.rht_reclaim.specs.GiveTable.{give_table_plan_at}
use Rattle.rht_reclaim.specs.KeepSections.{keep_sections_plan_at}
use Rattle.rht_reclaim.specs.ReturnTables.{return_tables_plan_at, IsReturnTablesAtIn}
use Rattle.rht_reclaim.specs.declared.give_table.GiveTableAt.{GiveTableAt}
use Rattle.rht_reclaim.specs.declared.give_table.GiveTableAt.TheVariants as give_at
use Rattle.rht_reclaim.specs.declared.keep_sections.KeepSectionsAt.{KeepSectionsAt}
use Rattle.rht_reclaim.specs.declared.keep_sections.KeepSectionsAt.TheVariants as keep_at
use Rattle.rht_reclaim.specs.declared.return_tables.ReturnTablesAt.{ReturnTablesAt}
use Rattle.rht_reclaim.specs.declared.return_tables.ReturnTablesAt.TheVariants as return_at
use Rattle.rht_move.specs.LastTable.{last_table_plan_at}
use Rattle.rht_move.specs.declared.last_table.LastTableAt.{LastTableAt}
use Rattle.rht_move.specs.declared.last_table.LastTableAt.TheVariants as last_tables
use Rattle.rht_move.specs.Work as work
use Rattle.rht_move.specs.declared.work.WorkAt.{WorkAt}
use Rattle.rht_move.specs.declared.work.WorkAt.TheVariants as work_at
use Rattle.rht_core.specs.Jobs.{Job, binds, works, job_plan}
use Rattle.rht_ghost.proofs.Theory.Steps.{unchanged}
use Rattle.rht_core.proofs.Machines.JobSteps.{JobIn}
use Rattle.rht_core.proofs.Counting.SparedSlots.{SparesSlots, at_node, at_section, lock-spares, new_node-spares, give_node-spares, locate-spares, probe-spares, relink-spares, unlock-spares, other-spares}

-- the operation is a load, or on another word than the next serial
abbrev pub SparesSerial : Op → Type 0
SparesSerial op = ((place : ℕ) × (op ≡ Load place)) ⊎ (op_place op ≢ 3)

-- it leaves the next serial
pub spared_serial : (words : List ℕ) (op : Op) → SparesSerial op → get_or (applied words op) 3 0 ≡ get_or words 3 0
spared_serial words op (inl (at, load)) =
    ap (λ w. get_or w 3 0) (unchanged words op (ap (word_after (old_of words op)) load))
spared_serial words op (inr other) = applied-other words op 3 (λ same. other (let back : op_place op ≡ 3 = omega (arith, same) in back))

-- so does one that leaves all words of slots
by_slots : (op : Op) → SparesSlots op → SparesSerial op
by_slots op (inl load) = inl load
by_slots op (inr (inl one)) = inr (λ e. omega (arith, one, e))
by_slots op (inr (inr (inl two))) = inr (λ e. omega (arith, two, e))
by_slots op (inr (inr (inr (inl (from, below))))) = inr (λ e. omega (arith, from, e))
by_slots op (inr (inr (inr (inr high)))) = inr (λ e. omega (arith, high, e))

-- the making draws its serial
pub record IsDrawing (make : MakeModel) : Type 0 where
  pub slot : ℕ
  pub nested : Bool
  pub page : ℕ
  pub is : make.at ≡ makes.NextSerial slot nested page

abbrev IsDrawingAt : MakeAt → Type 0
IsDrawingAt state = (slot : ℕ) × (nested : Bool) × (page : ℕ) × (state ≡ makes.NextSerial slot nested page)

-- ---- pieces

run-serial : (h : Geometry) (pages : ℕ) (state : TakeRunAt) → SparesSerial (take_run_plan_at h pages state)
run-serial h pages (runs.MapWord first index) = inl (_, refl)
run-serial h pages (runs.Claim first index) = inr (λ e. let order = parts_in_order h in omega (arith, e, order.page_map))
run-serial h pages (runs.GiveBack first index bits) = inr (λ e. let order = parts_in_order h in omega (arith, e, order.page_map))

give-serial : (give : GiveRunModel) → SparesSerial (give_run_plan give)
give-serial give = inr (λ e. let order = parts_in_order give.geometry in omega (arith, e, order.page_map))

grow-serial : (g : Geometry) (entry : ℕ) (state : GrowAt) → IsBucketPlace g entry → SparesSerial (grow_plan_at entry state)
grow-serial g entry (grows.Taking take) there = run-serial take.geometry take.pages take.at
grow-serial g entry (grows.Entering page) there =
    inr (λ e. let order = parts_in_order g in omega (arith, e, there.0, order.page_map, order.nodes, order.pages))
grow-serial g entry (grows.Giving page give) there = give-serial give

unmake-serial : (h : Geometry) (slot : ℕ) (state : UnmakeAt) → SparesSerial (unmake_plan_at h slot state)
unmake-serial h slot (unmakes.Giving give) = give-serial give
unmake-serial h slot unmakes.SlotBack = inr (λ e. omega (arith, e))

make-serial : (h : Geometry) (exponent seed : ℕ) (state : MakeAt)
    → SparesSerial (make_plan_at h exponent seed state) ⊎ IsDrawingAt state
make-serial h exponent seed (makes.Taking slot take) = inl (run-serial take.geometry take.pages take.at)
make-serial h exponent seed (makes.TakingTop slot take) = inl (run-serial take.geometry take.pages take.at)
make-serial h exponent seed (makes.NextSerial slot nested page) = inr (slot, nested, page, refl)
make-serial h exponent seed _ = inl (inr (λ e. omega (arith, e)))

-- ---- calls

-- the job is at such a making
abbrev pub DrawsBind : BindAt → Type 0
DrawsBind (bind_at.Making growing size make) = IsDrawing make
DrawsBind _ = ⊥

abbrev pub DrawsWork : WorkAt → Type 0
DrawsWork (work_at.Making wanted make) = IsDrawing make
DrawsWork _ = ⊥

abbrev pub DrawsJob : Job → Type 0
DrawsJob (binds port owner once state) = DrawsBind state
DrawsJob (works state) = DrawsWork state
DrawsJob _ = ⊥

module _ (env : Env) (c : ℕ) where
  making-draws : (make : MakeModel) → SparesSerial (make_plan_at make.geometry make.exponent make.seed make.at) ⊎ IsDrawing make
  making-draws make = elim (make-serial make.geometry make.exponent make.seed make.at) [
    | inl spares ↦ inl spares
    | inr at ↦ inr (record { slot = at.0; nested = at.1; page = at.2; is = at.3 })
  ]

  bind-draws : c < 16 → (state : BindAt) → bind.IsBindAtIn env state → SparesSerial (bind.plan_at env c state) ⊎ DrawsBind state
  bind-draws few (bind_at.Making growing size make) within = making-draws make
  bind-draws few (bind_at.Opening attempt) within = inl (by_slots _ (at_section few _ refl))
  bind-draws few (bind_at.Closing ending) within = inl (by_slots _ (at_section few _ refl))
  bind-draws few (bind_at.Filling new) within = inl (by_slots _ (new_node-spares new.geometry new.key new.owner new.at))
  bind-draws few (bind_at.Locating attempt locate) within = inl (by_slots _ (locate-spares locate.geometry locate.table locate.at))
  bind-draws few (bind_at.Entering attempt table shape place grow) within =
      inl (grow-serial env.geometry grow.entry grow.at within.grow_in.entry_in)
  bind-draws few (bind_at.Probing attempt table shape probe) within =
      inl (by_slots _ (probe-spares env.geometry probe.at within.probe_in.at_in))
  bind-draws few (bind_at.ListLink list) within = inl (by_slots _ (at_node env.geometry list.claimed.attempt.node ListLink _ refl))
  bind-draws few (bind_at.LinkBehind list link) within = inl (by_slots _ (at_node env.geometry list.claimed.attempt.node ChainLink _ refl))
  bind-draws few (bind_at.Replacing list relink) within =
      inl (by_slots _ (relink-spares env.geometry relink relink.at within.relink_in.place_in))
  bind-draws few (bind_at.Link claimed) within = inl (by_slots _ (at_node env.geometry claimed.attempt.node ChainLink _ refl))
  bind-draws few (bind_at.Raise claimed) within = inl (inr (λ e. omega (arith, e)))
  bind-draws few (bind_at.Publish node table relink kick) within =
      inl (by_slots _ (relink-spares env.geometry relink relink.at within.relink_in.place_in))
  bind-draws few (bind_at.Unlocking attempt table unlock next) within =
      inl (by_slots _ (unlock-spares env.geometry unlock within.unlock_in))
  bind-draws few (bind_at.UnlockingFull growing unlock) within = inl (by_slots _ (unlock-spares env.geometry unlock within.unlock_in))
  bind-draws few (bind_at.Attaching growing slot shape) within = inl (inr (λ e. omega (arith, e)))
  bind-draws few (bind_at.Unmaking attempt unmake answer) within = inl (unmake-serial unmake.geometry unmake.slot unmake.at)
  bind-draws few (bind_at.Giving give reply) within = inl (by_slots _ (give_node-spares give))
  bind-draws few _ within = inl (inl (_, refl))

  cut-serial : (place : ℕ) (before : Option ℕ) → IsBucketPlace env.geometry place
      → SparesSerial (work.cut_plan env.geometry place before)
  cut-serial place None there = inr (λ e.
      let order = parts_in_order env.geometry in omega (arith, e, there.0, order.page_map, order.nodes, order.pages))
  cut-serial place (Some before) there = by_slots _ (at_node env.geometry before ChainLink _ refl)

  last-serial : (h : Geometry) (state : LastTableAt) → SparesSerial (last_table_plan_at h state)
  last-serial h (last_tables.Future table) = inl (_, refl)
  last-serial h (last_tables.Shape table) = inl (_, refl)

  -- the giving back of tables is on the map of pages, on entries and on state words
  give_table-serial : (slot : ℕ) (state : GiveTableAt) → SparesSerial (give_table_plan_at env.geometry slot state)
  give_table-serial slot (give_at.Run give) = give-serial give
  give_table-serial slot (give_at.ClearLeaf shape top page leaf below) = inr (λ e.
      let order = parts_in_order env.geometry in omega (arith, e, order.page_map, order.nodes, order.pages))
  give_table-serial slot (give_at.GiveLeaf shape top page leaf below) = give-serial (give_run_new env.geometry below 1)
  give_table-serial slot (give_at.ClearTop shape top page) = inr (λ e.
      let order = parts_in_order env.geometry in omega (arith, e, order.page_map, order.nodes, order.pages))
  give_table-serial slot (give_at.GivePage shape top page) = give-serial (give_run_new env.geometry page 1)
  give_table-serial slot (give_at.GiveTop shape) = give-serial (give_run_new env.geometry (top_page env.geometry shape) 1)
  give_table-serial slot give_at.FreeSlot = inr (λ e. omega (arith, e))
  give_table-serial slot _ = inl (_, refl)

  returns-serial : (state : ReturnTablesAt) → IsReturnTablesAtIn env.geometry state
      → SparesSerial (return_tables_plan_at env.geometry state)
  returns-serial (return_at.Giving give) within =
      subst (λ (h : Geometry). SparesSerial (give_table_plan_at h give.slot give.at)) (sym within.geometry_same)
      (give_table-serial give.slot give.at)
  returns-serial _ within = inl (_, refl)

  keep-serial : (slot : ℕ) (state : KeepSectionsAt) → SparesSerial (keep_sections_plan_at env.geometry slot state)
  keep-serial slot (keep_at.Section caller) = inl (_, refl)
  keep-serial slot (keep_at.Word caller word) = inr (λ e. omega (arith, e))

  work-draws : c < 16 → (state : WorkAt) → work.IsWorkAtIn env state → SparesSerial (work.plan_at env c state) ⊎ DrawsWork state
  work-draws few (work_at.Making wanted make) within = making-draws make
  work-draws few work_at.Opening within = inl (by_slots _ (at_section few _ refl))
  work-draws few (work_at.Closing ending) within = inl (by_slots _ (at_section few _ refl))
  work-draws few work_at.WorkLock within = inl (inr (λ e. omega (arith, e)))
  work-draws few (work_at.Returning returns) within =
      inl (subst (λ (h : Geometry). SparesSerial (return_tables_plan_at h returns.at)) (sym within.geometry_same)
      (returns-serial returns.at within.at_in))
  work-draws few (work_at.KeepingSections keep again) within =
      inl (subst (λ (h : Geometry). SparesSerial (keep_sections_plan_at h keep.slot keep.at)) (sym within.geometry_same)
      (keep-serial keep.slot keep.at))
  work-draws few (work_at.LastTable root seek) within = inl (last-serial seek.geometry seek.at)
  work-draws few (work_at.Attaching root last slot shape) within = inl (inr (λ e. omega (arith, e)))
  work-draws few (work_at.Unmaking root unmake) within = inl (unmake-serial unmake.geometry unmake.slot unmake.at)
  work-draws few (work_at.Locking rehash number lock) within =
      inl (by_slots _ (lock-spares env.geometry lock.place lock.at within.lock_in.place_in))
  work-draws few (work_at.EntryTable emptying seek) within = inl (last-serial seek.geometry seek.at)
  work-draws few (work_at.LockingSecond emptying entry table lock) within =
      inl (by_slots _ (lock-spares env.geometry lock.place lock.at within.lock_in.place_in))
  work-draws few (work_at.EntryLink emptying entry second) within = inl (by_slots _ (at_node env.geometry entry.node ChainLink _ refl))
  work-draws few (work_at.Linking emptying entry second) within = inl (inr (λ e.
      let order = parts_in_order env.geometry in
      omega (arith, e, within.second_in.bucket_in.place_in.0, order.page_map, order.nodes, order.pages)))
  work-draws few (work_at.CuttingOff emptying entry) within =
      inl (cut-serial emptying.bucket.place entry.before within.emptying_in.locked_in.place_in)
  work-draws few (work_at.Unlocking rehash number unlock stop) within =
      inl (by_slots _ (unlock-spares env.geometry unlock within.unlock_in))
  work-draws few (work_at.Publishing rehash) within = inl (inr (λ e. omega (arith, e)))
  work-draws few (work_at.Retiring root again) within = inl (inr (λ e. omega (arith, e)))
  work-draws few (work_at.LettingGo outcome) within = inl (inr (λ e. omega (arith, e)))
  work-draws few _ within = inl (inl (_, refl))

  pub job-draws : (mix : ℕ → ℕ → ℕ → ℕ) → c < 16 → (job : Job) → JobIn env mix c job
      → SparesSerial (job_plan env c job) ⊎ DrawsJob job
  job-draws mix few (binds port owner once state) within = bind-draws few state within.at_in
  job-draws mix few (works state) within = work-draws few state within
  job-draws mix few job within = inl (by_slots _ (other-spares env mix c few job within refl))

  -- its operation adds one to the next serial
  make-adds : (make : MakeModel) → IsDrawing make → make_plan_at make.geometry make.exponent make.seed make.at ≡ Add 3 1
  make-adds make drawing = ap (make_plan_at make.geometry make.exponent make.seed) drawing.is

  bind-adds : (state : BindAt) → DrawsBind state → bind.plan_at env c state ≡ Add 3 1
  bind-adds (bind_at.Making growing size make) drawing = make-adds make drawing
  bind-adds _ drawing = absurd drawing

  work-adds : (state : WorkAt) → DrawsWork state → work.plan_at env c state ≡ Add 3 1
  work-adds (work_at.Making wanted make) drawing = make-adds make drawing
  work-adds _ drawing = absurd drawing

  pub job-adds : (job : Job) → DrawsJob job → job_plan env c job ≡ Add 3 1
  job-adds (binds port owner once state) drawing = bind-adds state drawing
  job-adds (works state) drawing = work-adds state drawing
  job-adds _ drawing = absurd drawing

-- such an operation doesn't leave that word
pub adds-not_spared : (op : Op) → op ≡ Add 3 1 → SparesSerial op → ⊥
adds-not_spared op is (inl (place, load)) = cc
adds-not_spared op is (inr other) = other (ap op_place is)
