-- What a job holds and does that may still be refused, or that ends without a change: it has raised no count, and moves nothing. Where it
-- takes nodes or makes tables it has a node where it has a lock, and else it holds a lock at most. Its pages are its own, the one exchange
-- of a future is that of a bind which attaches the table that it has made, and a page that it enters is none of its own any more.
use Rattle.std.proofs.Common.{◌≡◌, ◌≢◌, ℕ, ◌+◌, ◌<◌, Bool, true, false, List, [], Option, Some, None, refl, sym, ◌∙◌, subst, arith}
use Rattle.std.specs.Prelude.{if◌then◌else◌}
use Rattle.rht_words.specs.declared.env.Env.{Env}
use Rattle.rht_words.specs.declared.geometry.Geometry.{Geometry}
use Rattle.rht_words.specs.declared.op.Op.TheVariants.{Exchange}
use Rattle.rht_words.specs.declared.machine.Start.{Start}
use Rattle.rht_words.specs.declared.machine.Start.TheVariants as starts
use Rattle.rht_words.specs.Links.{future_of, entry_of}
use Rattle.rht_words.specs.Members.{In}
use Rattle.rht_words.specs.Places.{Slot, FutureWord, PageWord, place_of}
use Rattle.rht_words.specs.Shapes.{unpacked}
use Rattle.rht_words.proofs.Members.{range_with_len-In}
use Rattle.rht_words.proofs.Memory.{Memory}
use Rattle.rht_model.specs.declared.history.Reply.{Reply}
use Rattle.rht_nest.specs.Tables.{table_pages, pages_of_shape}
use Rattle.rht_arena.specs.TakeRun.{TakeRunModel, take_run_plan_at}
use Rattle.rht_arena.specs.declared.take_run.TakeRunAt.{TakeRunAt}
use Rattle.rht_arena.specs.declared.take_run.TakeRunAt.TheVariants as takes
use Rattle.rht_nest.specs.Make.{MakeModel, make_plan_at, slot_of_make, pages_of_make}
use Rattle.rht_nest.specs.declared.make.MakeAt.{MakeAt}
use Rattle.rht_nest.specs.declared.make.MakeAt.TheVariants as makes
use Rattle.rht_nest.specs.Place.{PlaceModel, entered}
use Rattle.rht_nest.specs.Grow.{GrowModel, grow_plan_at, grow_after_at}
use Rattle.rht_nest.specs.declared.grow.GrowAt.{GrowAt}
use Rattle.rht_nest.specs.declared.grow.GrowAt.TheVariants as grows
use Rattle.rht_nest.specs.Unmake.{unmake_plan_at}
use Rattle.rht_nest.specs.declared.unmake.UnmakeAt.{UnmakeAt}
use Rattle.rht_nest.specs.declared.unmake.UnmakeAt.TheVariants as unmakes
use Rattle.rht_bind.specs.Bind.{behind_page, grown}
use Rattle.rht_bind.specs.Growing.{has_attached, ended_attempt, behind_attempt}
use Rattle.rht_bind.specs.declared.bind.Attempt.{Attempt}
use Rattle.rht_bind.specs.BindHeld.{held_of_bind}
use Rattle.rht_bind.specs.declared.bind.BindAt.{BindAt}
use Rattle.rht_bind.specs.declared.bind.BindAt.TheVariants as binding
use Rattle.rht_release.specs.ReleaseHeld.{held_of_release}
use Rattle.rht_release.specs.declared.release.ReleaseAt.{ReleaseAt}
use Rattle.rht_release.specs.declared.release.ReleaseAt.TheVariants as releasing
use Rattle.rht_release.specs.RebindHeld.{held_of_rebind}
use Rattle.rht_release.specs.declared.rebind.RebindAt.{RebindAt}
use Rattle.rht_release.specs.declared.rebind.RebindAt.TheVariants as rebinding
use Rattle.rht_release.specs.declared.rebind.RebindEnd.TheVariants as ends
use Rattle.rht_move.specs.WorkHeld.{held_of_work}
use Rattle.rht_move.specs.LastTable.{LastTableModel}
use Rattle.rht_move.specs.declared.last_table.Last.{Last}
use Rattle.rht_move.specs.declared.work.Wanted.{Wanted}
use Rattle.rht_reclaim.specs.ReturnTables.{ReturnTablesModel}
use Rattle.rht_reclaim.specs.ReturnHeld.{is_first_word, pages_of_give_table, pages_of_returning}
use Rattle.rht_reclaim.specs.declared.give_table.GiveTableAt.{GiveTableAt}
use Rattle.rht_reclaim.specs.declared.give_table.GiveTableAt.TheVariants as gives
use Rattle.rht_reclaim.specs.declared.return_tables.ReturnTablesAt.{ReturnTablesAt}
use Rattle.rht_reclaim.specs.declared.return_tables.ReturnTablesAt.TheVariants as returning
use Rattle.rht_arena.specs.GiveRun.{pages_of_give_run}
use Rattle.rht_ghost.proofs.Theory.Knowns.{MakesNothing, HasBack}
use Rattle.rht_move.proofs.WorkKnowledge.{made_giving, made_returning}
use Rattle.rht_move.specs.declared.work.Outcome.TheVariants.{NoTable, Idle}
use Rattle.rht_move.specs.declared.work.Due.TheVariants.{Nothing}
use Rattle.rht_move.specs.declared.work.ending.Ending.TheVariants.{LettingGo}
use Rattle.rht_move.specs.declared.work.WorkAt.{WorkAt}
use Rattle.rht_move.specs.declared.work.WorkAt.TheVariants as working
use Rattle.rht_core.specs.Jobs.{Job, finds, binds, lists, releases, rebinds, works, tidies, walks, counts, call_of, job_plan, job_after, held_of, held_next}
use Rattle.rht_core.specs.Traces.{Did}
use Rattle.rht_core.specs.Refused.{StoresLast, MayAttach}
use Rattle.rht_ghost.proofs.Theory.Ghosts.{Ghost, PageHeld, SlotHeld}
use Rattle.rht_ghost.proofs.Theory.Knowledge.{IsMade, MakingMeans}
use Rattle.rht_ghost.proofs.Theory.Steps.{Holding}
use Rattle.rht_ghost.proofs.Pieces.Makes.{known_of_make}
use Rattle.rht_words.proofs.FilteredLists.{range_with_len-from}
use Rattle.rht_core.proofs.Machines.JobSteps.{JobKnows}
use Rattle.rht_core.proofs.Machines.ReturnPlans.{returns-kind, no_exchange}
use Rattle.rht_core.proofs.Machines.NeverHeld.{job-unraised, tableless, slotless, pageless}
use Rattle.rht_core.proofs.Reasons.AttachedTables.{make-none, unmake-none}
use Rattle.rht_core.proofs.Undoing.GoingBack.{MayAttachWith}
use Rattle.rht_core.proofs.Undoing.PastRefusal.{bind_is_past, release_is_past, rebind_is_past, work_is_past, is_past}
use Rattle.rht_core.proofs.Undoing.StoredShapes.{HasStored}
use Rattle.rht_core.proofs.Undoing.WorkStages.{stage_of, work_stage, is_returning, return_in}

-- ---- what it holds

pub record IsRefusable (h : Holding) : Type 0 where
  pub low : h.raised ≡ false
  pub still : h.moving ≡ false

-- a bind, a rebind and a resizing have a node where they have a lock
pub record LocksWithNode (h : Holding) : Type 0 where
  pub refusable : IsRefusable h
  pub locked_has : h.lock ≢ None → h.node ≢ None

has_node : {h : Holding} → h.raised ≡ false → h.moving ≡ false → (node : ℕ) → h.node ≡ Some node → LocksWithNode h
has_node low still node is = record {
  refusable = record { low = low; still = still };
  locked_has = λ locked none. let both_ways = sym is ∙ none in cc;
}

has_no_lock : {h : Holding} → h.raised ≡ false → h.moving ≡ false → h.lock ≡ None → LocksWithNode h
has_no_lock low still none =
    record { refusable = record { low = low; still = still }; locked_has = λ locked. absurd (locked none) }

pub bind-refusable : (state : BindAt) → bind_is_past state ≡ false → LocksWithNode (held_of_bind state)
bind-refusable (binding.Replacing list relink) may = absurd (cc)
bind-refusable (binding.Publish node table relink kick) may = absurd (cc)
bind-refusable (binding.Probing attempt table shape probe) may = has_node refl refl attempt.node refl
bind-refusable (binding.FoundOwner claimed found) may = has_node refl refl claimed.attempt.node refl
bind-refusable (binding.ListLink list) may = has_node refl refl list.claimed.attempt.node refl
bind-refusable (binding.ChainLink list) may = has_node refl refl list.claimed.attempt.node refl
bind-refusable (binding.LinkBehind list link) may = has_node refl refl list.claimed.attempt.node refl
bind-refusable (binding.Future claimed length) may = has_node refl refl claimed.attempt.node refl
bind-refusable (binding.Count claimed) may = has_node refl refl claimed.attempt.node refl
bind-refusable (binding.Link claimed) may = has_node refl refl claimed.attempt.node refl
bind-refusable (binding.Raise claimed) may = has_node refl refl claimed.attempt.node refl
bind-refusable (binding.Unlocking attempt table unlock next) may = has_node refl refl attempt.node refl
bind-refusable (binding.UnlockingFull growing unlock) may = has_node refl refl growing.attempt.node refl
bind-refusable _ may = has_no_lock refl refl refl

pub rebind-refusable : (state : RebindAt) → rebind_is_past state ≡ false → LocksWithNode (held_of_rebind state)
rebind-refusable (rebinding.Filling new) may = has_no_lock refl refl refl
rebind-refusable (rebinding.Opening node) may = has_no_lock refl refl refl
rebind-refusable (rebinding.Seeking node seek) may = has_node refl refl node refl
rebind-refusable (rebinding.Searching node found search) may = has_node refl refl node refl
rebind-refusable (rebinding.Unlocking table unlock (ends.Absent node)) may = has_node refl refl node refl
rebind-refusable (rebinding.Closing (ends.Absent node)) may = has_no_lock refl refl refl
rebind-refusable (rebinding.Giving give) may = has_no_lock refl refl refl
rebind-refusable _ may = absurd (cc)

-- a resizing that may still be refused, or has nothing to do, looks for the last table, makes one, or ends for want of one; or it finds that
-- none was due, and looks for a future of the current one
pub data IsEarlyWork : WorkAt → Type 0 where
  at_lock : IsEarlyWork working.WorkLock
  at_returning : (returns : ReturnTablesModel) → IsEarlyWork (working.Returning returns)
  at_opening : IsEarlyWork working.Opening
  at_current : IsEarlyWork working.CurrentTable
  at_last : (root : ℕ) (seek : LastTableModel) → IsEarlyWork (working.LastTable root seek)
  at_count : (root : ℕ) (last : Last) → IsEarlyWork (working.Count root last)
  at_making : (wanted : Wanted) (make : MakeModel) → IsEarlyWork (working.Making wanted make)
  at_future : (root : ℕ) → IsEarlyWork (working.RootFuture root Nothing)
  at_end : (size : ℕ) → IsEarlyWork (working.LettingGo (NoTable size))
  at_idle : IsEarlyWork (working.LettingGo Idle)
  closing_end : (size : ℕ) → IsEarlyWork (working.Closing (LettingGo (NoTable size)))
  closing_idle : IsEarlyWork (working.Closing (LettingGo Idle))

pub early_work : (state : WorkAt) → work_is_past state ≡ false → IsEarlyWork state
early_work working.WorkLock may = at_lock
early_work (working.Returning returns) may = at_returning returns
early_work working.Opening may = at_opening
early_work working.CurrentTable may = at_current
early_work (working.LastTable root seek) may = at_last root seek
early_work (working.Count root last) may = at_count root last
early_work (working.Making wanted make) may = at_making wanted make
early_work (working.RootFuture root Nothing) may = at_future root
early_work (working.LettingGo (NoTable size)) may = at_end size
early_work (working.LettingGo Idle) may = at_idle
early_work (working.Closing (LettingGo (NoTable size))) may = closing_end size
early_work (working.Closing (LettingGo Idle)) may = closing_idle
early_work _ may = absurd (cc)

pub work-refusable : (state : WorkAt) → IsEarlyWork state → LocksWithNode (held_of_work state)
work-refusable state at_lock = has_no_lock refl refl refl
work-refusable state _ = has_no_lock refl refl refl

-- a release that may still be refused has raised none
release-low : (state : ReleaseAt) → release_is_past state ≡ false → (held_of_release state).raised ≡ false
release-low (releasing.Promoting found relink) may = absurd (cc)
release-low (releasing.Unlinking found relink) may = absurd (cc)
release-low (releasing.Lowering node shape) may = absurd (cc)
release-low _ may = refl

pub refusable : (job : Job) → is_past job ≡ false → IsRefusable (held_of job)
refusable (binds port owner once state) may = (bind-refusable state may).refusable
refusable (releases port owner state) may =
    record { low = release-low state may; still = (tableless (releases port owner state) refl).still }
refusable (works state) may = (work-refusable state (early_work state may)).refusable
refusable job may = record { low = job-unraised job; still = (tableless job refl).still }

-- what it has stored for a table that it makes
abbrev pub JobStored : Env → Job → List Did → Type 0
JobStored env (finds port state) steps = Unit {0}
JobStored env (binds port owner once state) steps = HasStored env state steps
JobStored env (lists port room state) steps = Unit {0}
JobStored env (releases port owner state) steps = Unit {0}
JobStored env (rebinds port owner new state) steps = Unit {0}
JobStored env (works state) steps = Unit {0}
JobStored env (tidies batch state) steps = Unit {0}
JobStored env (walks from limit room state) steps = Unit {0}
JobStored env counts steps = Unit {0}

-- ---- its pages

module _ (env : Env) (mix : ℕ → ℕ → ℕ → ℕ) (c : ℕ) (M : Memory) (G : Ghost) where
  abbrev g : Geometry
  g = env.geometry

  -- each of these pages is the caller's
  abbrev AreMine : List ℕ → Type 0
  AreMine pages = (page : ℕ) → In page pages → G.page page ≡ PageHeld c

  make-mine : (exponent seed : ℕ) (state : MakeAt) → MakingMeans env mix c M G (known_of_make exponent seed state)
      → AreMine (pages_of_make exponent state)
  make-mine exponent seed (makes.Slot slot) means page i = absurd i
  make-mine exponent seed (makes.SlotBack slot) means page i = absurd i
  make-mine exponent seed _ means page i = means.mine page i

  -- those of a table that was made lie from its first page on, and are there
  below_end : (shape page : ℕ) → In page (pages_of_shape shape) → page < (unpacked shape).page + table_pages (unpacked shape)
  below_end shape page i = range_with_len-In (unpacked shape).page (table_pages (unpacked shape)) page i

  made-mine : (slot shape : ℕ) → IsMade env mix c M G slot shape → AreMine (pages_of_shape shape)
  made-mine slot shape made page i =
      made.run page (range_with_len-from (unpacked shape).page (table_pages (unpacked shape)) page i) (below_end shape page i)

  made-among : (slot shape : ℕ) → IsMade env mix c M G slot shape → (page : ℕ) → In page (pages_of_shape shape)
      → page < env.geometry.pages
  made-among slot shape made page i =
      let below = below_end shape page i in let fits = made.fits in omega (arith, below, fits)

  bind-mine : (port owner : ℕ) (once : Bool) (state : BindAt) → bind_is_past state ≡ false
      → JobKnows env mix c (binds port owner once state) M G → AreMine (held_of_bind state).pages
  bind-mine port owner once (binding.Making growing size make) may knows page i =
      make-mine make.exponent make.seed make.at knows.knowing.means.making page i
  bind-mine port owner once (binding.Attaching growing slot shape) may knows page i =
      made-mine slot shape knows.knowing.means.making page i
  bind-mine port owner once (binding.Unmaking attempt unmake answer) may knows page i =
      knows.knowing.means.making.mine page i
  bind-mine port owner once (binding.Replacing list relink) may knows page i = absurd (cc)
  bind-mine port owner once (binding.Publish node table relink kick) may knows page i = absurd (cc)
  bind-mine port owner once (binding.Entering attempt table shape place grow) may knows page i =
      knows.knowing.means.making page i
  bind-mine port owner once _ may knows page i = absurd i

  -- and those of a table that is given back
  giving-mine : (slot : ℕ) (at : GiveTableAt) → MakingMeans env mix c M G (made_giving slot at) → AreMine (pages_of_give_table at)
  giving-mine slot (gives.Run give) means page i = run-mine (is_first_word give) means i
    where
      run-mine : (first : Bool) → MakingMeans env mix c M G (if first then MakesNothing else HasBack slot (pages_of_give_run give))
          → In page (if first then [] else pages_of_give_run give) → G.page page ≡ PageHeld c
      run-mine true means i = absurd i
      run-mine false means i = means.mine page i
  giving-mine slot (gives.GiveLeaf shape top p leaf below) means page i = means page i
  giving-mine slot (gives.GivePage shape top p) means page i = means page i
  giving-mine slot _ means page i = absurd i

  returning-mine : (at : ReturnTablesAt) → MakingMeans env mix c M G (made_returning at) → AreMine (pages_of_returning at)
  returning-mine (returning.Giving give) means page i = giving-mine give.slot give.at means page i
  returning-mine _ means page i = absurd i

  work-mine : (state : WorkAt) → IsEarlyWork state → JobKnows env mix c (works state) M G → AreMine (held_of_work state).pages
  work-mine state (at_making wanted make) knows page i =
      make-mine make.exponent make.seed make.at knows.knowing.means.making page i
  work-mine state (at_returning returns) knows page i = returning-mine returns.at knows.knowing.means.making page i
  work-mine state _ knows page i = absurd i

  -- its slot
  make-slot : (exponent seed slot : ℕ) (state : MakeAt) → MakingMeans env mix c M G (known_of_make exponent seed state)
      → slot_of_make state ≡ Some slot → G.slot slot ≡ SlotHeld c
  make-slot exponent seed slot (makes.Slot s) means has = absurd (cc)
  make-slot exponent seed slot (makes.Taking s take) means has =
      let same : s ≡ slot = cc in subst (λ x. G.slot x ≡ SlotHeld c) same means.slot.has.mine
  make-slot exponent seed slot (makes.TakingTop s take) means has =
      let same : s ≡ slot = cc in subst (λ x. G.slot x ≡ SlotHeld c) same means.slot.has.mine
  make-slot exponent seed slot (makes.SlotBack s) means has =
      let same : s ≡ slot = cc in subst (λ x. G.slot x ≡ SlotHeld c) same means.slot.has.mine
  make-slot exponent seed slot (makes.NextSerial s nested page) means has =
      let same : s ≡ slot = cc in subst (λ x. G.slot x ≡ SlotHeld c) same means.slot.has.mine
  make-slot exponent seed slot (makes.Shape s nested page serial) means has =
      let same : s ≡ slot = cc in subst (λ x. G.slot x ≡ SlotHeld c) same means.slot.has.mine
  make-slot exponent seed slot (makes.Seed s nested page serial) means has =
      let same : s ≡ slot = cc in subst (λ x. G.slot x ≡ SlotHeld c) same means.slot.has.mine
  make-slot exponent seed slot (makes.Future s nested page serial) means has =
      let same : s ≡ slot = cc in subst (λ x. G.slot x ≡ SlotHeld c) same means.slot.has.mine
  make-slot exponent seed slot (makes.Serial s nested page serial) means has =
      let same : s ≡ slot = cc in subst (λ x. G.slot x ≡ SlotHeld c) same means.slot.has.mine

  bind-slot : (port owner : ℕ) (once : Bool) (state : BindAt) → bind_is_past state ≡ false
      → JobKnows env mix c (binds port owner once state) M G → (slot : ℕ) → (held_of_bind state).slot ≡ Some slot → G.slot slot ≡ SlotHeld c
  bind-slot port owner once (binding.Making growing size make) may knows slot has =
      make-slot make.exponent make.seed slot make.at knows.knowing.means.making has
  bind-slot port owner once (binding.Attaching growing s shape) may knows slot has =
      let same : s ≡ slot = cc in subst (λ x. G.slot x ≡ SlotHeld c) same knows.knowing.means.making.has.mine
  bind-slot port owner once (binding.Unmaking attempt unmake answer) may knows slot has =
      let same : unmake.slot ≡ slot = cc in subst (λ x. G.slot x ≡ SlotHeld c) same knows.knowing.means.making.slot.has.mine
  bind-slot port owner once (binding.Replacing list relink) may knows slot has = absurd (cc)
  bind-slot port owner once (binding.Publish node table relink kick) may knows slot has = absurd (cc)
  bind-slot port owner once _ may knows slot has = absurd (cc)

  -- while a table is given back its slot isn't held so
  work-slot : (state : WorkAt) → IsEarlyWork state → is_returning (work_stage state) ≡ false → JobKnows env mix c (works state) M G
      → (slot : ℕ) → (held_of_work state).slot ≡ Some slot → G.slot slot ≡ SlotHeld c
  work-slot state (at_making wanted make) out knows slot has =
      make-slot make.exponent make.seed slot make.at knows.knowing.means.making has
  work-slot state (at_returning returns) out knows slot has = absurd (let both = sym (return_in returns.at) ∙ out in cc)
  work-slot state _ out knows slot has = absurd (cc)

  pub slot_mine : (job : Job) → is_past job ≡ false → is_returning (stage_of job) ≡ false → JobKnows env mix c job M G → (slot : ℕ)
      → (held_of job).slot ≡ Some slot → G.slot slot ≡ SlotHeld c
  slot_mine (binds port owner once state) may out knows slot has = bind-slot port owner once state may knows slot has
  slot_mine (works state) may out knows slot has = work-slot state (early_work state may) out knows slot has
  slot_mine job may out knows slot has = absurd (slotless (tableless job refl) slot has)

  pub mine : (job : Job) → is_past job ≡ false → JobKnows env mix c job M G → AreMine (held_of job).pages
  mine (binds port owner once state) may knows page i = bind-mine port owner once state may knows page i
  mine (works state) may knows page i = work-mine state (early_work state may) knows page i
  mine job may knows page i = absurd (pageless (tableless job refl) page i)

  -- ---- which exchange of a future it makes

  module _ (steps : List Did) (did : Did) (last slot : ℕ) (low : last < 8)
      (exchanges : did.op ≡ Exchange (place_of g (Slot last FutureWord)) 0 (future_of slot)) where
    abbrev MayAttachNow : Job → Type 0
    MayAttachNow job = MayAttachWith g (call_of job) slot (held_of job).pages steps

    bind-attaches : (port owner : ℕ) (once : Bool) (state : BindAt) → bind_is_past state ≡ false
        → JobKnows env mix c (binds port owner once state) M G → HasStored env state steps
        → did.op ≡ job_plan env c (binds port owner once state) → (held_of_bind state).slot ≡ Some slot
        → MayAttachNow (binds port owner once state)
    bind-attaches port owner once (binding.Making growing size make) may knows stored is has =
        absurd (make-none g make.geometry make.exponent make.seed make.at last 0 (future_of slot) low (sym is ∙ exchanges))
    bind-attaches port owner once (binding.Attaching growing s shape) may knows stored is has =
        let same : s ≡ slot = cc in
        record {
          may = tt;
          shape = shape;
          stored = subst (λ x. StoresLast g x shape steps) same stored;
          among = made-among s shape knows.knowing.means.making;
          of_shape = λ page i. i;
        }
    bind-attaches port owner once (binding.Unmaking attempt unmake answer) may knows stored is has =
        absurd (unmake-none g unmake.geometry unmake.slot unmake.at last 0 (future_of slot) low (sym is ∙ exchanges))
    bind-attaches port owner once _ may knows stored is has = absurd (cc)

    -- a resizing that may be refused exchanges none
    work-attaches : (state : WorkAt) → IsEarlyWork state → did.op ≡ job_plan env c (works state)
        → (held_of_work state).slot ≡ Some slot → ⊥
    work-attaches state (at_making wanted make) is has =
        make-none g make.geometry make.exponent make.seed make.at last 0 (future_of slot) low (sym is ∙ exchanges)
    work-attaches state (at_returning returns) is has =
        no_exchange (returns-kind returns.geometry returns.at) (sym is ∙ exchanges)
    work-attaches state _ is has = cc

    pub attaches : (job : Job) → is_past job ≡ false → JobKnows env mix c job M G → JobStored env job steps
        → did.op ≡ job_plan env c job → (held_of job).slot ≡ Some slot → MayAttachNow job
    attaches (binds port owner once state) may knows stored is has = bind-attaches port owner once state may knows stored is has
    attaches (works state) may knows stored is has = absurd (work-attaches state (early_work state may) is has)
    attaches job may knows stored is has = absurd (slotless (tableless job refl) slot has)

  -- ---- which page it enters

  module _ (did : Did) (entry page : ℕ) (exchanges : did.op ≡ Exchange (place_of g (PageWord entry)) 0 (entry_of page)) where
    -- the taking of a run enters no page
    pub take-none : (take : TakeRunModel) (at : TakeRunAt)
        → take_run_plan_at take.geometry take.pages at ≡ Exchange (place_of g (PageWord entry)) 0 (entry_of page) → ⊥
    take-none take (takes.MapWord first index) same = cc
    take-none take (takes.Claim first index) same = cc
    take-none take (takes.GiveBack first index bits) same = cc

    -- a making that exchanges has no page
    pub make-enters : (exponent seed : ℕ) (h : Geometry) (state : MakeAt) → did.op ≡ make_plan_at h exponent seed state
        → In page (pages_of_make exponent state) → ⊥
    make-enters exponent seed h (makes.Slot slot) is i = i
    make-enters exponent seed h (makes.Taking slot take) is i = take-none take take.at (sym is ∙ exchanges)
    make-enters exponent seed h (makes.TakingTop slot take) is i = take-none take take.at (sym is ∙ exchanges)
    make-enters exponent seed h (makes.SlotBack slot) is i = i
    make-enters exponent seed h _ is i = let same = sym is ∙ exchanges in cc

    pub work-enters : (state : WorkAt) → IsEarlyWork state → did.op ≡ job_plan env c (works state)
        → In page (held_of_work state).pages → ⊥
    work-enters state (at_making wanted make) is i = make-enters make.exponent make.seed make.geometry make.at is i
    work-enters state (at_returning returns) is i =
        no_exchange (returns-kind returns.geometry returns.at) (sym is ∙ exchanges)
    work-enters state _ is i = i

    pub enters : (job : Job) → is_past job ≡ false → did.op ≡ job_plan env c job → In page (held_of job).pages
        → MayAttach (call_of job)
    enters (binds port owner once state) may is i = tt
    enters (works state) may is i = absurd (work-enters state (early_work state may) is i)
    enters job may is i = absurd (pageless (tableless job refl) page i)

    -- ---- which is no page of its own any more

    -- the giving back of a table enters none
    pub unmake-enters : (h : Geometry) (slot : ℕ) (state : UnmakeAt) → did.op ≡ unmake_plan_at h slot state → ⊥
    unmake-enters h slot (unmakes.Giving give) is = let same = sym is ∙ exchanges in cc
    unmake-enters h slot unmakes.SlotBack is = let same = sym is ∙ exchanges in cc

    -- behind an entry that leads to a page a bind holds none
    page-none : (port : ℕ) (attempt : Attempt) (table shape : ℕ) (start : Start PlaceModel ℕ)
        → In page (held_of_bind (behind_page env port attempt table shape start)).pages → ⊥
    page-none port attempt table shape (starts.Running next) i = i
    page-none port attempt table shape (starts.Done place) i = i

    -- nor does it behind an attempt
    answer-none : (attempt : Attempt) (answer : Option Reply)
        → In page (held_of_bind (behind_attempt attempt answer)).pages → ⊥
    answer-none attempt None i = i
    answer-none attempt (Some reply) i = i

    -- a growing enters the page that it has, and goes on behind it
    grow-gone : (port : ℕ) (attempt : Attempt) (table shape : ℕ) (place : PlaceModel) (grow : GrowModel) (state : GrowAt)
        → did.op ≡ grow_plan_at grow.entry state
        → In page (held_of_bind (grown env port attempt table shape place
        (record grow { at = (grow_after_at grow.geometry state 0).0 }) (grow_after_at grow.geometry state 0).1)).pages → ⊥
    grow-gone port attempt table shape place grow (grows.Taking take) is i = take-none take take.at (sym is ∙ exchanges)
    grow-gone port attempt table shape place grow (grows.Entering p) is i =
        page-none port attempt table shape (entered place p) i
    grow-gone port attempt table shape place grow (grows.Giving there give) is i = let same = sym is ∙ exchanges in cc

    -- what else a bind holds pages for is no exchange, or finds the future free and attaches them
    bind-gone : (port owner : ℕ) (once : Bool) (state : BindAt) → bind_is_past state ≡ false
        → did.op ≡ job_plan env c (binds port owner once state) → In page (held_of_bind state).pages
        → In page (held_next (job_after mix env (binds port owner once state) 0)).pages → ⊥
    bind-gone port owner once (binding.Making growing size make) may is had i =
        make-enters make.exponent make.seed make.geometry make.at is had
    bind-gone port owner once (binding.Attaching growing slot shape) may is had i =
        answer-none (has_attached growing.attempt) (ended_attempt once slot) i
    bind-gone port owner once (binding.Unmaking attempt unmake answer) may is had i =
        unmake-enters unmake.geometry unmake.slot unmake.at is
    bind-gone port owner once (binding.Entering attempt table shape place grow) may is had i =
        grow-gone port attempt table shape place grow grow.at is i
    bind-gone port owner once (binding.Replacing list relink) may is had i = absurd (cc)
    bind-gone port owner once (binding.Publish node table relink kick) may is had i = absurd (cc)
    bind-gone port owner once _ may is had i = had

    -- where the exchange of an entry for a page that the job has finds 0, the job has the page no more
    pub gone : (job : Job) → is_past job ≡ false → did.op ≡ job_plan env c job → In page (held_of job).pages
        → In page (held_next (job_after mix env job 0)).pages → ⊥
    gone (binds port owner once state) may is had i = bind-gone port owner once state may is had i
    gone (works state) may is had i = work-enters state (early_work state may) is had
    gone job may is had i = pageless (tableless job refl) page had
