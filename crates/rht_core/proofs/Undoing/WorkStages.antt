-- How far a resizing has come: it is at the work lock, asks whether a retired table can be given back, loads the shape of one that can, gives
-- it back, or is behind that. From behind it never comes back.
use Rattle.std.proofs.Common.{◌≡◌, ◌≢◌, ◌⊎◌, ℕ, ◌+◌, ◌%◌, ◌==◌, ◌||◌, Bool, true, false, Option, Some, None, refl, sym, ap, ◌∙◌, subst, inl, inr}
use Rattle.std.proofs.lemmas.Bool.{cond_both, eqb-true}
use Rattle.std.specs.Prelude.{nat_lt}
use Rattle.rht_words.specs.declared.env.Env.{Env}
use Rattle.rht_words.specs.declared.geometry.Geometry.{Geometry}
use Rattle.rht_words.specs.declared.op.Op.TheVariants.{Load}
use Rattle.rht_words.specs.declared.machine.Next.{Next}
use Rattle.rht_words.specs.declared.machine.Next.TheVariants.{Go, Done}
use Rattle.rht_words.specs.Links.{slot_of, page_of}
use Rattle.rht_model.specs.declared.history.Call.TheVariants.{Work}
use Rattle.rht_model.specs.declared.history.Reply.{Reply}
use Rattle.rht_model.specs.declared.history.Reply.TheVariants.{Elsewhere}
use Rattle.rht_model.specs.Endings.{Ending as JobEnding, plain_ending}
use Rattle.rht_nest.specs.Make.{MakeModel, make_after}
use Rattle.rht_nest.specs.Tables.{is_nested, run_first, run_pages}
use Rattle.rht_nest.specs.Place.{top_entries, is_deep}
use Rattle.rht_arena.specs.GiveRun.{GiveRunModel, give_run_new, give_run_after}
use Rattle.rht_reclaim.specs.GiveTable.{GiveTableModel, give_table_new, shape_seen, run_returned, next_top, next_leaf, top_seen, leaf_seen, give_table_after_at, give_table_after}
use Rattle.rht_reclaim.specs.ReturnTables.{ReturnTablesModel, return_tables_new, next_slot, next_caller, given_back, return_tables_plan_at, return_tables_after_at, IsReturnTablesAtIn, IsReturnTablesIn}
use Rattle.rht_reclaim.specs.declared.give_table.GiveTableAt.{GiveTableAt}
use Rattle.rht_reclaim.specs.declared.give_table.GiveTableAt.TheVariants as gives
use Rattle.rht_reclaim.specs.declared.return_tables.ReturnTablesAt.{ReturnTablesAt}
use Rattle.rht_reclaim.specs.declared.return_tables.ReturnTablesAt.TheVariants as returning
use Rattle.rht_move.specs.LastTable.{LastTableModel, last_table_after}
use Rattle.rht_move.specs.Work.{after_at, last_seen, begun, letting_go, not_made, made, future_or_idle, closed, returned, IsWorkAtIn}
use Rattle.rht_move.specs.Choice.{choice_of}
use Rattle.rht_move.specs.declared.last_table.Last.{Last}
use Rattle.rht_move.specs.declared.work.choice.Choice.{Choice}
use Rattle.rht_move.specs.declared.work.choice.Choice.TheVariants.{Attach, Later, Nothing}
use Rattle.rht_move.specs.declared.work.Wanted.{Wanted}
use Rattle.rht_move.specs.declared.work.Due.{Due}
use Rattle.rht_move.specs.declared.work.Due.TheVariants as dues
use Rattle.rht_move.specs.declared.work.Outcome.TheVariants.{NoTable}
use Rattle.rht_move.specs.declared.work.ending.Ending.{Ending}
use Rattle.rht_move.specs.declared.work.ending.Ending.TheVariants as endings
use Rattle.rht_move.specs.declared.work.WorkAt.{WorkAt}
use Rattle.rht_move.specs.declared.work.WorkAt.TheVariants as at
use Rattle.rht_core.specs.Jobs.{Job, finds, binds, lists, releases, rebinds, works, tidies, walks, counts, call_of, job_plan, job_after, job_next, told}
use Rattle.rht_core.proofs.Events.JobsOfCallers.{same_call}
use Rattle.rht_core.proofs.Machines.JobSteps.{JobIn}
use Rattle.rht_core.proofs.Undoing.PastRefusal.{work_is_past, work-past}

-- at the lock, at the states of slots and the words of callers, at the shape of the table in a slot, at the giving back of that in this state,
-- at the opening of its section, and behind all that
pub data Stage : Type 0 where
  AtLock : Stage
  Asks : Stage
  Loads : ℕ → Stage
  Gives : ℕ → GiveTableAt → Stage
  Opens : Stage
  Behind : Stage

abbrev pub give_stage : ℕ → GiveTableAt → Stage
give_stage slot gives.Shape = Loads slot
give_stage slot (gives.Run give) = Gives slot (gives.Run give)
give_stage slot (gives.TopEntry shape top) = Gives slot (gives.TopEntry shape top)
give_stage slot (gives.LeafEntry shape top page leaf) = Gives slot (gives.LeafEntry shape top page leaf)
give_stage slot (gives.ClearLeaf shape top page leaf below) = Gives slot (gives.ClearLeaf shape top page leaf below)
give_stage slot (gives.GiveLeaf shape top page leaf below) = Gives slot (gives.GiveLeaf shape top page leaf below)
give_stage slot (gives.ClearTop shape top page) = Gives slot (gives.ClearTop shape top page)
give_stage slot (gives.GivePage shape top page) = Gives slot (gives.GivePage shape top page)
give_stage slot (gives.GiveTop shape) = Gives slot (gives.GiveTop shape)
give_stage slot gives.FreeSlot = Gives slot gives.FreeSlot

abbrev pub return_stage : ReturnTablesAt → Stage
return_stage (returning.State slot) = Asks
return_stage (returning.KeptWord slot caller) = Asks
return_stage (returning.SectionWord slot caller kept) = Asks
return_stage (returning.Giving give) = give_stage give.slot give.at

abbrev pub work_stage : WorkAt → Stage
work_stage at.WorkLock = AtLock
work_stage (at.Returning returns) = return_stage returns.at
work_stage at.Opening = Opens
work_stage at.CurrentTable = Behind
work_stage (at.LastTable root seek) = Behind
work_stage (at.Count root last) = Behind
work_stage (at.Making wanted make) = Behind
work_stage (at.Attaching root last slot shape) = Behind
work_stage (at.Unmaking root unmake) = Behind
work_stage (at.RootFuture root due) = Behind
work_stage (at.RootShape root future again) = Behind
work_stage (at.Entry rehash number place) = Behind
work_stage (at.Locking rehash number lock) = Behind
work_stage (at.EntryTable emptying seek) = Behind
work_stage (at.Seed emptying last) = Behind
work_stage (at.BucketWord emptying target) = Behind
work_stage (at.Walking emptying target walk) = Behind
work_stage (at.Key emptying target entry) = Behind
work_stage (at.LockingSecond emptying entry table lock) = Behind
work_stage (at.EntryLink emptying entry second) = Behind
work_stage (at.Linking emptying entry second) = Behind
work_stage (at.CuttingOff emptying entry) = Behind
work_stage (at.Unlocking rehash number unlock stop) = Behind
work_stage (at.Publishing rehash) = Behind
work_stage (at.NewFuture rehash) = Behind
work_stage (at.Closing ending) = Behind
work_stage (at.Retiring root again) = Behind
work_stage (at.KeepingSections keep again) = Behind
work_stage (at.LettingGo outcome) = Behind

-- a job of another call is behind it
abbrev pub stage_of : Job → Stage
stage_of (finds port state) = Behind
stage_of (binds port owner once state) = Behind
stage_of (lists port room state) = Behind
stage_of (releases port owner state) = Behind
stage_of (rebinds port owner new state) = Behind
stage_of (works state) = work_stage state
stage_of (tidies batch state) = Behind
stage_of (walks from limit room state) = Behind
stage_of counts = Behind

-- a state behind which no refusal comes is behind it
past-behind : (state : WorkAt) → work_is_past state ≡ true → work_stage state ≡ Behind
past-behind at.WorkLock past = absurd (cc)
past-behind (at.Returning returns) past = absurd (cc)
past-behind at.Opening past = absurd (cc)
past-behind _ past = refl

seen-behind : (root : ℕ) (seek : LastTableModel) (next : Next Last) → work_stage (last_seen root seek next) ≡ Behind
seen-behind root seek Go = refl
seen-behind root seek (Done last) = refl

begun-behind : (env : Env) (root : ℕ) (last : Last) (choice : Choice) → work_stage (begun env root last choice) ≡ Behind
begun-behind env root last (Attach size) = refl
begun-behind env root last Later = refl
begun-behind env root last Nothing = refl

not_made-behind : (wanted : Wanted) → work_stage (not_made wanted) ≡ Behind
not_made-behind wanted =
    cond_both ((wanted.root == wanted.last.table) || is_nested wanted.last.shape) (letting_go (NoTable wanted.size))
    (at.RootFuture wanted.root dues.Later) (λ state. work_stage state ≡ Behind) (λ t. refl) (λ f. refl)

made-behind : (wanted : Wanted) (make : MakeModel) (next : Next (Option (ℕ × ℕ))) → work_stage (made wanted make next) ≡ Behind
made-behind wanted make Go = refl
made-behind wanted make (Done None) = not_made-behind wanted
made-behind wanted make (Done (Some (slot, shape))) = refl

future-behind : (root : ℕ) (due : Due) (future : Option ℕ) → work_stage (future_or_idle root due future) ≡ Behind
future-behind root due None = refl
future-behind root due (Some future) = refl

closed-behind : (ending : Ending) → work_stage (closed ending) ≡ Behind
closed-behind (endings.Retiring root again) = refl
closed-behind (endings.LettingGo outcome) = refl

-- who gives tables back isn't behind it
give_not_behind : (slot : ℕ) (state : GiveTableAt) → give_stage slot state ≡ Behind → ⊥
give_not_behind slot gives.Shape is = cc
give_not_behind slot _ is = cc

never_behind : (state : ReturnTablesAt) → return_stage state ≡ Behind → ⊥
never_behind (returning.Giving give) is = give_not_behind give.slot give.at is
never_behind _ is = cc

-- what comes behind it stays there
pub stays_behind : (mix : ℕ → ℕ → ℕ → ℕ) (env : Env) (state : WorkAt) (old : ℕ) → work_stage state ≡ Behind
    → work_stage (after_at mix env state old).0 ≡ Behind
stays_behind mix env at.WorkLock old is = absurd (cc)
stays_behind mix env (at.Returning returns) old is = absurd (never_behind returns.at is)
stays_behind mix env at.Opening old is = absurd (cc)
stays_behind mix env at.CurrentTable old is = refl
stays_behind mix env (at.LastTable root seek) old is =
    seen-behind root (last_table_after seek old).0 (last_table_after seek old).1
stays_behind mix env (at.Count root last) old is = begun-behind env root last (choice_of env old last.shape (root == last.table))
stays_behind mix env (at.Making wanted make) old is = made-behind wanted (make_after make old).0 (make_after make old).1
stays_behind mix env (at.RootFuture root due) old is = future-behind root due (slot_of old)
stays_behind mix env (at.Closing ending) old is = closed-behind ending
stays_behind mix env (at.LettingGo outcome) old is = refl
stays_behind mix env state old is =
    past-behind (after_at mix env state old).0 (work-past mix env state old refl (λ root due same past. absurd (cc)))

-- ---- what comes next while tables are given back

-- behind an operation that found this word: the asking goes on, comes to a shape, or is over; the giving back begins with the shape that was
-- loaded, and goes on, up to the freeing of the slot, behind which the asking goes on or is over. And the lock leads to the asking, where it was
-- free, and from behind all that nothing comes back.
pub data GoesTo (g : Geometry) (old : ℕ) : Stage → Stage → Type 0 where
  takes_lock : old ≡ 0 → GoesTo g old AtLock Asks
  refused : GoesTo g old AtLock Behind
  opened : GoesTo g old Opens Behind
  stays : GoesTo g old Behind Behind
  asks_on : GoesTo g old Asks Asks
  to_shape : (slot : ℕ) → GoesTo g old Asks (Loads slot)
  asked_all : GoesTo g old Asks Opens
  loaded : (slot : ℕ) → GoesTo g old (Loads slot) (Gives slot (shape_seen g old))
  gives_on : (slot : ℕ) (state : GiveTableAt) → state ≢ gives.FreeSlot
      → GoesTo g old (Gives slot state) (Gives slot (give_table_after_at g state old).0)
  freed : (slot : ℕ) → GoesTo g old (Gives slot gives.FreeSlot) Asks
  freed_last : (slot : ℕ) → GoesTo g old (Gives slot gives.FreeSlot) Opens

module _ (g : Geometry) (old : ℕ) where
  abbrev Comes : Stage → ReturnTablesModel → ReturnTablesAt × Next (Unit {0}) → Type 0
  Comes from m r = GoesTo g old from (work_stage (returned (record m { at = r.0 }) r.1))

  next_slot-comes : (from : Stage) (m : ReturnTablesModel) (state : ReturnTablesAt) (slot : ℕ) → GoesTo g old from Asks
      → GoesTo g old from Opens → Comes from m (next_slot state slot)
  next_slot-comes from m state slot on over =
      cond_both (nat_lt (slot + 1) 8) (returning.State (slot + 1), Go) (state, Done tt) (Comes from m) (λ t. on) (λ f. over)

  next_caller-comes : (m : ReturnTablesModel) (slot caller : ℕ) → Comes Asks m (next_caller m.geometry slot caller)
  next_caller-comes m slot caller =
      cond_both (nat_lt (caller + 1) m.geometry.callers) (returning.KeptWord slot (caller + 1), Go)
      (returning.Giving (give_table_new m.geometry slot), Go) (Comes Asks m) (λ t. asks_on) (λ f. to_shape slot)

  -- of one that gives a table back in this geometry
  abbrev GivesNow : ReturnTablesModel → ℕ → Geometry → GiveTableAt → Type 0
  GivesNow m slot h state =
      let give : GiveTableModel = record { geometry = h; slot = slot; at = state } in
      Comes (give_stage slot state) m (given_back (give_table_after give old).0 (give_table_after give old).1)

  gives_stage : (slot : ℕ) (n : GiveTableAt) → n ≢ gives.Shape → give_stage slot n ≡ Gives slot n
  gives_stage slot gives.Shape other = absurd (other refl)
  gives_stage slot _ other = refl

  -- the shape is loaded once
  next_top-other : (shape top : ℕ) → next_top shape top ≢ gives.Shape
  next_top-other shape top =
      cond_both (nat_lt (top + 1) (top_entries shape)) (gives.TopEntry shape (top + 1)) (gives.GiveTop shape) (λ n. n ≢ gives.Shape)
      (λ t e. cc) (λ f e. cc)

  next_leaf-other : (shape top page leaf : ℕ) → next_leaf shape top page leaf ≢ gives.Shape
  next_leaf-other shape top page leaf =
      cond_both (nat_lt (leaf + 1) 64) (gives.LeafEntry shape top page (leaf + 1)) (gives.ClearTop shape top page) (λ n. n ≢ gives.Shape)
      (λ t e. cc) (λ f e. cc)

  run-other : (give : GiveRunModel) (next : Next (Unit {0})) → run_returned give next ≢ gives.Shape
  run-other give Go e = cc
  run-other give (Done done) e = cc

  top-other : (shape top : ℕ) (page : Option ℕ) → top_seen shape top page ≢ gives.Shape
  top-other shape top None = next_top-other shape top
  top-other shape top (Some page) =
      cond_both (is_deep shape) (gives.LeafEntry shape top page 0) (gives.ClearTop shape top page) (λ n. n ≢ gives.Shape)
      (λ t e. cc) (λ f e. cc)

  leaf-other : (shape top page leaf : ℕ) (below : Option ℕ) → leaf_seen shape top page leaf below ≢ gives.Shape
  leaf-other shape top page leaf None = next_leaf-other shape top page leaf
  leaf-other shape top page leaf (Some below) = λ e. cc

  shape-other : shape_seen g old ≢ gives.Shape
  shape-other =
      cond_both (is_nested old) (gives.TopEntry old 0) (gives.Run (give_run_new g (run_first g old) (run_pages g old)))
      (λ n. n ≢ gives.Shape) (λ t e. cc) (λ f e. cc)

  next-other : (state : GiveTableAt) → (give_table_after_at g state old).0 ≢ gives.Shape
  next-other gives.Shape = shape-other
  next-other (gives.Run give) = run-other (give_run_after give old).0 (give_run_after give old).1
  next-other (gives.TopEntry shape top) = top-other shape top (page_of g.pages old)
  next-other (gives.LeafEntry shape top page leaf) = leaf-other shape top page leaf (page_of g.pages old)
  next-other (gives.ClearLeaf shape top page leaf below) = λ e. cc
  next-other (gives.GiveLeaf shape top page leaf below) = next_leaf-other shape top page leaf
  next-other (gives.ClearTop shape top page) = λ e. cc
  next-other (gives.GivePage shape top page) = next_top-other shape top
  next-other (gives.GiveTop shape) = λ e. cc
  next-other gives.FreeSlot = λ e. cc

  on_stage : (slot : ℕ) (state : GiveTableAt) → state ≢ gives.FreeSlot
      → GoesTo g old (Gives slot state) (give_stage slot (give_table_after_at g state old).0)
  on_stage slot state other =
      let next = (give_table_after_at g state old).0 in
      subst (GoesTo g old (Gives slot state)) (sym (gives_stage slot next (next-other state))) (gives_on slot state other)

  give-comes : (m : ReturnTablesModel) (slot : ℕ) (state : GiveTableAt) → GivesNow m slot g state
  give-comes m slot gives.Shape =
      subst (GoesTo g old (Loads slot)) (sym (gives_stage slot (shape_seen g old) shape-other)) (loaded slot)
  give-comes m slot gives.FreeSlot =
      next_slot-comes (Gives slot gives.FreeSlot) m
      (returning.Giving (record { geometry = g; slot = slot; at = gives.FreeSlot })) slot (freed slot) (freed_last slot)
  give-comes m slot state = on_stage slot state (λ e. cc)

  return-comes : (m : ReturnTablesModel) (state : ReturnTablesAt) → IsReturnTablesAtIn g state
      → let r = return_tables_after_at m.geometry state old in Comes (return_stage state) m r
  return-comes m (returning.State slot) within =
      cond_both (old == 2) (returning.KeptWord slot 0, Go) (next_slot (returning.State slot) slot) (Comes Asks m) (λ t. asks_on)
      (λ f. next_slot-comes Asks m (returning.State slot) slot asks_on asked_all)
  return-comes m (returning.KeptWord slot caller) within =
      cond_both (old % 2 == 1) (returning.SectionWord slot caller old, Go) (next_caller m.geometry slot caller) (Comes Asks m)
      (λ t. asks_on) (λ f. next_caller-comes m slot caller)
  return-comes m (returning.SectionWord slot caller kept) within =
      cond_both (old == kept) (next_slot (returning.SectionWord slot caller kept) slot) (next_caller m.geometry slot caller) (Comes Asks m)
      (λ t. next_slot-comes Asks m (returning.SectionWord slot caller kept) slot asks_on asked_all)
      (λ f. next_caller-comes m slot caller)
  return-comes m (returning.Giving give) within =
      subst (λ h. GivesNow m give.slot h give.at) (sym within.geometry_same) (give-comes m give.slot give.at)

-- so it is of a resizing
returns_comes : (mix : ℕ → ℕ → ℕ → ℕ) (env : Env) (returns : ReturnTablesModel) (old : ℕ) → IsReturnTablesIn env.geometry returns
    → GoesTo env.geometry old (work_stage (at.Returning returns)) (work_stage (after_at mix env (at.Returning returns) old).0)
returns_comes mix env returns old within = return-comes env.geometry old returns returns.at within.at_in

-- ---- jobs

-- who is in no call is behind it
abbrev pub stage_now : Option Job → Stage
stage_now None = Behind
stage_now (Some job) = stage_of job

-- so is each job of another call
other_stage : (job : Job) → call_of job ≢ Work → stage_of job ≡ Behind
other_stage (works state) other = absurd (other refl)
other_stage _ other = refl

module _ (mix : ℕ → ℕ → ℕ → ℕ) (env : Env) where
  -- where an operation leads that found this word
  abbrev pub LeadsTo : ℕ → Stage → Job × Next JobEnding → Type 0
  LeadsTo old from r = GoesTo env.geometry old from (stage_now (told r).0)

  behind_leads : (old : ℕ) (r : WorkAt × Next Reply) → work_stage r.0 ≡ Behind → LeadsTo old Behind (job_next works plain_ending r)
  behind_leads old (state, Go) is = subst (GoesTo env.geometry old Behind) (sym is) stays
  behind_leads old (state, Done reply) is = stays

  other_leads : (old : ℕ) (r : Job × Next JobEnding) → call_of r.0 ≢ Work → LeadsTo old Behind r
  other_leads old (job, Go) other = subst (GoesTo env.geometry old Behind) (sym (other_stage job other)) stays
  other_leads old (job, Done ending) other = stays

  works_lead : (state : WorkAt) (old : ℕ) → IsWorkAtIn env state → LeadsTo old (work_stage state) (job_after mix env (works state) old)
  works_lead at.WorkLock old within =
      cond_both (old == 0) (returning_first env.geometry, Go) (at.WorkLock, Done Elsewhere)
      (λ r. LeadsTo old AtLock (job_next works plain_ending r)) (λ t. takes_lock (eqb-true old 0 t)) (λ f. refused)
    where
      returning_first : Geometry → WorkAt
      returning_first g = at.Returning (return_tables_new g)
  works_lead (at.Returning returns) old within = returns_comes mix env returns old within
  works_lead at.Opening old within = opened
  works_lead state old within = behind_leads old (after_at mix env state old) (stays_behind mix env state old refl)

  pub stage_goes : (c : ℕ) (job : Job) (old : ℕ) → JobIn env mix c job → LeadsTo old (stage_of job) (job_after mix env job old)
  stage_goes c (works state) old within = works_lead state old within
  stage_goes c job old within =
      other_leads old (job_after mix env job old) (λ is. let same = sym (same_call mix env job old) ∙ is in cc)

-- ---- which job it is

-- the job of a resizing that gives back the table in this slot, in this state
pub record IsGiving (slot : ℕ) (state : GiveTableAt) (job : Job) : Type 0 where
  pub outer : Geometry
  pub inner : Geometry
  pub is : job ≡ works (at.Returning (record { geometry = outer; at = returning.Giving (record { geometry = inner; slot = slot; at = state }) }))

-- that is one of its stage
return_gives : (outer : Geometry) (slot : ℕ) (state : GiveTableAt) (at_now : ReturnTablesAt)
    → (return_stage at_now ≡ Gives slot state) ⊎ ((return_stage at_now ≡ Loads slot) × (state ≡ gives.Shape))
    → IsGiving slot state (works (at.Returning (record { geometry = outer; at = at_now })))
return_gives outer slot state (returning.State s) is = elim is [ inl one ↦ absurd (cc) | inr other ↦ absurd (let first = other.0 in cc) ]
return_gives outer slot state (returning.KeptWord s caller) is =
    elim is [ inl one ↦ absurd (cc) | inr other ↦ absurd (let first = other.0 in cc) ]
return_gives outer slot state (returning.SectionWord s caller kept) is =
    elim is [ inl one ↦ absurd (cc) | inr other ↦ absurd (let first = other.0 in cc) ]
return_gives outer slot state (returning.Giving give) is =
    let both = give_gives give.slot give.at is in
    record {
      outer = outer;
      inner = give.geometry;
      is = ap (λ (s : ℕ × GiveTableAt). works (at.Returning (record {
        geometry = outer;
        at = returning.Giving (record { geometry = give.geometry; slot = s.0; at = s.1 });
      }))) (λ i. (both.0 i, both.1 i));
    }
  where
    give_gives : (s : ℕ) (now : GiveTableAt)
        → (give_stage s now ≡ Gives slot state) ⊎ ((give_stage s now ≡ Loads slot) × (state ≡ gives.Shape)) → (s ≡ slot) × (now ≡ state)
    give_gives s gives.Shape (inl is) = absurd (cc)
    give_gives s gives.Shape (inr (is, same)) = (let one : s ≡ slot = cc in one, sym same)
    give_gives s _ (inl is) = (let one : s ≡ slot = cc in one, cc)
    give_gives s _ (inr (is, same)) = absurd (cc)

pub gives_job : (job : Job) (slot : ℕ) (state : GiveTableAt) → stage_of job ≡ Gives slot state → IsGiving slot state job
gives_job (works (at.Returning returns)) slot state is = return_gives returns.geometry slot state returns.at (inl is)
gives_job (works state) slot give is = absurd (cc)
gives_job _ slot state is = absurd (cc)

pub loads_job : (job : Job) (slot : ℕ) → stage_of job ≡ Loads slot → IsGiving slot gives.Shape job
loads_job (works (at.Returning returns)) slot is = return_gives returns.geometry slot gives.Shape returns.at (inr (is, refl))
loads_job (works state) slot is = absurd (cc)
loads_job _ slot is = absurd (cc)

-- one at the lock
return_not_lock : (state : ReturnTablesAt) → return_stage state ≡ AtLock → ⊥
return_not_lock (returning.Giving give) is = give_not_lock give.slot give.at is
  where
    give_not_lock : (slot : ℕ) (state : GiveTableAt) → give_stage slot state ≡ AtLock → ⊥
    give_not_lock slot gives.Shape is = cc
    give_not_lock slot _ is = cc
return_not_lock _ is = cc

return_not_opening : (state : ReturnTablesAt) → return_stage state ≡ Opens → ⊥
return_not_opening (returning.Giving give) is = give_not_opening give.slot give.at is
  where
    give_not_opening : (slot : ℕ) (state : GiveTableAt) → give_stage slot state ≡ Opens → ⊥
    give_not_opening slot gives.Shape is = cc
    give_not_opening slot _ is = cc
return_not_opening _ is = cc

-- or at the opening
pub opening_job : (job : Job) → stage_of job ≡ Opens → job ≡ works at.Opening
opening_job (works at.Opening) is = refl
opening_job (works (at.Returning returns)) is = absurd (return_not_opening returns.at is)
opening_job (works state) is = absurd (cc)
opening_job _ is = absurd (cc)

pub lock_job : (job : Job) → stage_of job ≡ AtLock → job ≡ works at.WorkLock
lock_job (works at.WorkLock) is = refl
lock_job (works (at.Returning returns)) is = absurd (return_not_lock returns.at is)
lock_job (works state) is = absurd (cc)
lock_job _ is = absurd (cc)

-- one that asks loads a word
pub asks_load : (env : Env) (c : ℕ) (job : Job) → stage_of job ≡ Asks → (place : ℕ) × (job_plan env c job ≡ Load place)
asks_load env c (works (at.Returning returns)) is = go returns.at is
  where
    give_asks : (slot : ℕ) (state : GiveTableAt) → give_stage slot state ≡ Asks → ⊥
    give_asks slot gives.Shape is = cc
    give_asks slot _ is = cc

    go : (state : ReturnTablesAt) → return_stage state ≡ Asks
        → (place : ℕ) × (return_tables_plan_at returns.geometry state ≡ Load place)
    go (returning.Giving give) is = absurd (give_asks give.slot give.at is)
    go (returning.State slot) is = (_, refl)
    go (returning.KeptWord slot caller) is = (_, refl)
    go (returning.SectionWord slot caller kept) is = (_, refl)
asks_load env c (works state) is = absurd (cc)
asks_load env c _ is = absurd (cc)

-- the shape is loaded in a stage of its own
pub gives_other : (job : Job) (slot : ℕ) (state : GiveTableAt) → stage_of job ≡ Gives slot state → state ≢ gives.Shape
gives_other job slot state is same =
    let giving = gives_job job slot state is in
    let loads : stage_of job ≡ Loads slot = ap stage_of giving.is ∙ ap (give_stage slot) same in
    let both = sym is ∙ loads in
    cc

-- ---- while tables are given back

-- retired tables are given back
abbrev pub is_returning : Stage → Bool
is_returning AtLock = false
is_returning Asks = true
is_returning (Loads slot) = true
is_returning (Gives slot state) = true
is_returning Opens = false
is_returning Behind = false

give_in : (slot : ℕ) (state : GiveTableAt) → is_returning (give_stage slot state) ≡ true
give_in slot gives.Shape = refl
give_in slot _ = refl

pub return_in : (state : ReturnTablesAt) → is_returning (return_stage state) ≡ true
return_in (returning.Giving give) = give_in give.slot give.at
return_in _ = refl
