-- In a run of one caller in which fewer than 16 ports are bound no bind is refused but for want of a node.
--
-- By induction over the events, with the ghost: each table that was attached is flat and has 16 buckets or more, and each call is one of a
-- bind that hasn't found a table full, or of another kind. A bind knows the table in which it is. So no bucket is missing there; and where it
-- loads the count, that is at most the 15 ports and the one caller, and the table has 16 buckets or more. So it finds no table full and attaches
-- none; and a resizing attaches none that is smaller, or nested.
use Rattle.rht_core.proofs.Machines.HeldSteps.{hard-op, soft-old}
use Rattle.std.proofs.Common.{◌≡◌, ℕ, ◌<◌, ◌≤◌, Bool, false, nat_lt, List, [], ◌∷◌, ◌++◌, length, take, refl, sym, ap, ◌∙◌, subst, inl, inr, arith}
use Rattle.std.specs.Prelude.{Option, Some, IfSome, option_map}
use Rattle.std.specs.List.{AllByRecursion}
use Rattle.std.proofs.lemmas.Bool.{cases_lt}
use Rattle.std.proofs.lemmas.List.{take_all}
use Rattle.rht_words.specs.declared.op.Op.{Op}
use Rattle.rht_words.specs.declared.op.Op.TheVariants.{Exchange}
use Rattle.rht_words.specs.declared.env.Env.{Env}
use Rattle.rht_ghost.proofs.Pieces.HeldSections.{of_its_own}
use Rattle.rht_words.specs.declared.machine.Next.{Next}
use Rattle.rht_words.specs.declared.machine.Next.TheVariants.{Go, Done}
use Rattle.rht_words.specs.Links.{future_of}
use Rattle.rht_words.specs.Machines.{GoesOrEnds}
use Rattle.rht_words.specs.Operations.{old_of}
use Rattle.rht_words.specs.Places.{PortCount, Slot, ShapeWord, FutureWord, place_of, word_at}
use Rattle.rht_words.specs.Shapes.{size_of}
use Rattle.rht_words.specs.Sizes.{first_size}
use Rattle.rht_words.proofs.EachElement.{AllByRecursion-cut, AllByRecursion-push}
use Rattle.rht_words.proofs.Memory.{Memory}
use Rattle.rht_words.proofs.OpeningLaws.{opens_flat}
use Rattle.rht_model.specs.Endings.{Ending, ended_with, plain_ending}
use Rattle.rht_model.specs.declared.finished.Finished.{Finished}
use Rattle.rht_model.specs.declared.history.Call.{Call}
use Rattle.rht_model.specs.declared.history.Call.TheVariants.{Tidy}
use Rattle.rht_model.specs.declared.history.Reply.{Reply}
use Rattle.rht_bind.specs.Bind.{after_at as bind_after_at}
use Rattle.rht_nest.specs.Tables.{is_nested}
use Rattle.rht_nest.specs.Locate.{LocateModel}
use Rattle.rht_nest.specs.declared.locate.LocateAt.TheVariants as locates
use Rattle.rht_bind.specs.declared.bind.Attempt.{Attempt}
use Rattle.rht_bind.specs.declared.bind.Claimed.{Claimed}
use Rattle.rht_bind.specs.declared.bind.BindAt.{BindAt}
use Rattle.rht_bind.specs.declared.bind.BindAt.TheVariants as at
use Rattle.rht_move.specs.LastTable.{LastTableModel, last_table_plan_at}
use Rattle.rht_move.specs.declared.last_table.LastTableAt.TheVariants as last_tables
use Rattle.rht_move.specs.Work as work
use Rattle.rht_move.specs.declared.work.WorkAt.{WorkAt}
use Rattle.rht_move.specs.declared.work.WorkAt.TheVariants as work_at
use Rattle.rht_core.specs.declared.book.Book.{Book}
use Rattle.rht_core.specs.declared.event.Event.{Event}
use Rattle.rht_callers.specs.declared.local.Local.{Local}
use Rattle.rht_core.specs.FewPorts.{IsBindTaken, OneCaller}
use Rattle.rht_grace.specs.Batch.{BatchModel}
use Rattle.rht_core.specs.Jobs.{Job, binds, works, first_job, call_of, job_of, job_plan, job_after, told, held_of, held_next}
use Rattle.rht_core.specs.Laws.{view_stepped}
use Rattle.rht_callers.specs.Locals.{local_after, ending_of}
use Rattle.rht_core.specs.Runs.{World, View, opening, local_of, planned_in, view_of, world_step, run_of, book_after, finished_with, IsAdmitted, IsAdmittedEvent}
use Rattle.rht_core.specs.Seen.{words_before}
use Rattle.rht_stands.specs.StandsFor.{stands_for, AreBound}
use Rattle.rht_core.specs.Traces.{Did, Traced, traced_of}
use Rattle.rht_ghost.proofs.Theory.Ghosts.{Ghost}
use Rattle.rht_ghost.proofs.Theory.Knowns.{Shaped}
use Rattle.rht_ghost.proofs.Theory.Knowledge.{TableMeans, AimMeans}
use Rattle.rht_ghost.proofs.Theory.Wholes.{outs}
use Rattle.rht_ghost.proofs.Theory.Steps.{ReadyFor, Does, ghost_after, mem}
use Rattle.rht_ghost.proofs.Pieces.Locates.{known_locate}
use Rattle.rht_core.proofs.Machines.JobSteps.{JobIn, JobKnows}
use Rattle.rht_core.proofs.Machines.NeverHeld.{may_make}
use Rattle.rht_move.proofs.WorkKnowledge.{last_aim}
use Rattle.rht_core.proofs.Events.BooksInRuns.{BookSays, has_books}
use Rattle.rht_core.proofs.Events.Invariants.{Inv, StepOf, step_of, kept}
use Rattle.rht_core.proofs.Events.InvariantRuns.{opening_ghost, opening_inv, idle_at_opening}
use Rattle.rht_core.proofs.Events.KeptAtEvents.{views_kept, ghosts_kept}
use Rattle.rht_core.proofs.Events.JobsOfCallers.{first_tidy-so, each_goes, same_call, left-job, doing_after-reply, first-of}
use Rattle.rht_core.proofs.Events.RangesInRuns.{AllIn, opens-all, event-all}
use Rattle.rht_core.proofs.Events.Worlds.{induct_by_last, run_of-push}
use Rattle.rht_core.proofs.Tracing.TracedJobs.{found_as, Performs, IsAtJob, jobs_keep_own}
use Rattle.rht_core.proofs.Tracing.TracedRuns.{world-traced_of}
use Rattle.rht_core.proofs.Reasons.CausesInRuns.{JobSaw, EndsSeen, job-leads, first_job-saw}
use Rattle.rht_core.proofs.Reasons.CalmCalls.{below-max, below-size}
use Rattle.rht_core.proofs.Reasons.CalmBinds.{CalmBind, IsCalmAt, calm-bind, bind-spares}
use Rattle.rht_core.proofs.Counting.CountedPorts.{fewer-AreBound}
use Rattle.rht_core.proofs.Counting.FewPorts.{before-push, GoesOn, next-goes}
use Rattle.rht_core.proofs.Counting.FullTables.{taken}
use Rattle.rht_core.proofs.Counting.GoodShapes.{moved-good, slot-good}
use Rattle.rht_core.proofs.Counting.SizedTables.{IsSized, AreSized, SizedWork, sized-work}
use Rattle.rht_core.proofs.Counting.AttachingJobs.{work-attaches}
use Rattle.rht_core.proofs.Counting.SparedSlots.{other-spares, spares-none}
use Rattle.rht_core.proofs.Histories.BoundAmong.{count-few}

-- what is said of every number
abbrev pub Any : ℕ → Type 0
Any n = Unit {0}

-- the count is at most 15 ports and a caller, and no 16 ports are bound
pub record HasFew (env : Env) (words : List ℕ) : Type 0 where
  pub count : word_at env.geometry words PortCount ≤ 16
  pub bound : AreBound (stands_for env.geometry words) 16 → ⊥

module _ (env : Env) where
  -- ---- calls

  module _ (keeps : env.config.shrink ≡ false) where
    -- a bind that hasn't found a table full, a resizing that makes none that is too small, or another call
    abbrev OneJob : Job → Type 0
    OneJob (binds port owner once state) = CalmBind env Any Any state
    OneJob (works state) = SizedWork state
    OneJob _ = Unit {0}

    abbrev OneEnd : Call → Ending → Type 0
    OneEnd call ending = IsBindTaken call ending.answer.reply

    abbrev OneOn : Job → Job × Next Ending → Type 0
    OneOn job next = GoesOn OneJob OneEnd job next

    work-one : (next : WorkAt × Next Reply) → SizedWork next.0
        → GoesOrEnds (λ state. SizedWork state) (λ (reply : Reply). Unit {0}) next
    work-one (state, Go) sized = sized
    work-one (state, Done reply) sized = tt

    -- of a call that makes no table there is nothing to say
    other-one : (job : Job) → may_make (call_of job) ≡ false → OneJob job
    other-one (binds port owner once state) other = absurd (cc)
    other-one (works state) other = absurd (cc)
    other-one _ other = tt

    first-one : (call : Call) (batch : Option BatchModel) (start : ℕ) → IfSome (first_job env batch call start) OneJob
    first-one Tidy batch start = first_tidy-so OneJob batch (λ own. tt)
    first-one _ batch start = tt

    module _ (first : 16 ≤ first_size env.config) (mix : ℕ → ℕ → ℕ → ℕ) (words_at : ℕ → List ℕ)
        (few : (i : ℕ) → HasFew env (words_at i)) (did : Did) where
      -- what a bind finds
      module _ (port owner : ℕ) (once : Bool) where
        record AtSized (state : BindAt) : Type 0 where
          does : Performs mix env (binds port owner once state) did
          sized : AreSized does.ghost
          low : word_at env.geometry does.words PortCount ≤ 16

        bind-low : (state : BindAt) → AtSized state → (claimed : Claimed) → state ≡ at.Count claimed → did.old ≤ 16
        bind-low state of claimed is =
            let here = subst AtSized is of in
            omega (arith, here.does.found ∙ ap (old_of here.does.words) here.does.planned, here.low)

        bind-sized : (state : BindAt) → AtSized state → (claimed : Claimed) → state ≡ at.Count claimed → IsSized claimed.shape
        bind-sized state of claimed is =
            let here = subst AtSized is of in
            let G = here.does.ghost in
            let table = here.does.knows.knowing.means.table in
            subst IsSized table.shape_is (here.sized _ table.passing.at.attached)

        bind-flat : (state : BindAt) → AtSized state → (attempt : Attempt) (locate : LocateModel) (shape : ℕ)
            → state ≡ at.Locating attempt locate → locate.at ≡ locates.Seed shape → is_nested shape ≡ false
        bind-flat state of attempt locate shape is seed =
            let here = subst AtSized is of in
            let G = here.does.ghost in
            let shaped : TableMeans env mix here.does.caller G (Shaped port locate.table shape) =
            subst (λ s. TableMeans env mix here.does.caller G (known_locate port locate.table s)) seed here.does.knows.knowing.means.table in
            (subst IsSized shaped.shape_is (here.sized _ shaped.passing.at.attached)).flat

        bind-sees : (state : BindAt) → AtSized state → IsCalmAt env Any Any state did.old
        bind-sees state of = record {
          current = λ attempt is. tt;
          shape = λ attempt locate is shape come. tt;
          flat = λ attempt locate shape is seed good. bind-flat state of attempt locate shape is seed;
          further = λ claimed length next is further. tt;
          few = λ claimed is. below-max env did.old first (omega (arith, bind-low state of claimed is));
          below = λ claimed is good. below-size env did.old claimed.shape
              (omega (arith, bind-low state of claimed is, (bind-sized state of claimed is).many));
        }

      -- and a resizing
      record WorkSized (state : WorkAt) : Type 0 where
        does : Performs mix env (works state) did
        sized : AreSized does.ghost

      work-sees : (state : WorkAt) → WorkSized state → (root : ℕ) (seek : LastTableModel) (slot : ℕ)
          → state ≡ work_at.LastTable root seek → seek.at ≡ last_tables.Shape slot → IsSized did.old
      work-sees state of root seek slot is shape =
          let here = subst WorkSized is of in
          let does = here.does in
          let aim = subst (λ s. AimMeans env mix does.ghost (last_aim s)) shape does.knows.knowing.means.work.more.aim_is in
          let found : did.old ≡ old_of does.words (last_table_plan_at seek.geometry seek.at) =
          found_as mix env does in
          subst IsSized (sym (found ∙ ap (λ s. old_of does.words (last_table_plan_at seek.geometry s)) shape))
          (slot-good env mix IsSized does.words does.ghost does.whole here.sized slot aim.at)

      -- so each call goes on so, or ends so
      one-leads : (c : ℕ) (job : Job) (steps : List Did) → (does : Performs mix env job did) → AreSized does.ghost
          → word_at env.geometry does.words PortCount ≤ 16 → JobSaw env c words_at mix job steps → OneJob job
          → OneOn job (job_after mix env job did.old)
      one-leads c (binds port owner once state) steps does sized low saw one =
          next-goes OneJob OneEnd (binds port owner once state) (binds port owner once) plain_ending (bind_after_at mix env port once state did.old)
          (calm-bind env Any Any words_at (λ i. (few i).bound) mix port owner once state steps did _ does saw.0 one
          (bind-sees port owner once state (record { does = does; sized = sized; low = low })))
      one-leads c (works state) steps does sized low saw one =
          next-goes OneJob OneEnd (works state) works plain_ending (work.after_at mix env state did.old)
          (work-one (work.after_at mix env state did.old)
          (sized-work env keeps mix state did.old does.within one (work-sees state (record { does = does; sized = sized }))))
      one-leads c job steps does sized low saw one =
          each_goes OneJob (OneEnd (call_of job)) (call_of job) (job_after mix env job did.old) (same_call mix env job did.old)
          (λ other same. other-one other (ap may_make same)) (λ ending. tt)

    -- ---- a table that is attached

    module _ (mix : ℕ → ℕ → ℕ → ℕ) (c : ℕ) (few : c < 16) (M : Memory) (G : Ghost) where
      attach-sized : (job : Job) → JobIn env mix c job → JobKnows env mix c job M G → OneJob job → (last slot shape : ℕ) → last < 8
          → (held_of job).slot ≡ Some slot → job_plan env c job ≡ Exchange (place_of env.geometry (Slot last FutureWord)) 0 (future_of slot)
          → M (Slot slot ShapeWord) ≡ shape → IsSized shape
      attach-sized (binds port owner once state) within knows one last slot shape l has e is =
          absurd (spares-none env _ last 0 (future_of slot) (bind-spares env Any Any c few state within.at_in one) l e)
      attach-sized (works state) within knows one last slot shape l has e is =
          let at = work-attaches env c last slot l state has e in
          let known = subst (λ s. JobKnows env mix c (works s) M G) at.is knows in
          let sized : IsSized at.shape = subst SizedWork at.is one in
          subst IsSized (sym known.knowing.means.making.shape_is ∙ is) sized
      attach-sized job within knows one last slot shape l has e is =
          absurd (spares-none env _ last 0 (future_of slot) (other-spares env mix c few job within refl) l e)

-- ---- runs

module _ (L : Type 0) (mix : ℕ → ℕ → ℕ → ℕ) (env : Env) (keeps : env.config.shrink ≡ false) (first : 16 ≤ first_size env.config) where
  abbrev Taken : Finished → Type 0
  Taken done = IsBindTaken done.call done.reply

  -- what a caller works at is so, and no bind of its was refused but for want of a node
  abbrev ViewOne : View L → Type 0
  ViewOne view = IfSome (job_of view.local.doing) (OneJob env keeps) × AllByRecursion Taken view.book.finished

  -- the invariant with a ghost whose tables have 16 buckets or more, and each caller is so
  record HasOne (w : World L) : Type 0 where
    ghost : Ghost
    inv : Inv env mix L w.core ghost
    all : AllIn L mix env w.core
    sized : AreSized ghost
    ones : (c : ℕ) → ViewOne (view_of w c)

  -- ---- one operation

  after-one : (job : Job) (book : Book) (next : Job × Next Ending) (local : Local L) (reply : Option Reply)
      → reply ≡ option_map (λ (e : Ending). e.answer.reply) (told next).1
      → book.call ≡ Some (call_of job) → AllByRecursion Taken book.finished → OneOn env keeps job next
      → IfSome (told next).0 (OneJob env keeps) × AllByRecursion Taken (book_after (ending_of local reply) book).finished
  after-one job book (after, Go) local reply replied asked taken one =
      subst (λ (r : Option Reply). OneJob env keeps after × AllByRecursion Taken (book_after (ending_of local r) book).finished)
      (sym replied) (one, taken)
  after-one job book (after, Done ending) local reply replied asked taken one =
      subst (λ (r : Option Reply). Unit {0} × AllByRecursion Taken (book_after (ending_of local r) book).finished) (sym replied) (
        tt,
        subst (λ (o : Option Call). AllByRecursion Taken (book.finished ++ finished_with o kept_as)) (sym asked)
            (AllByRecursion-push Taken book.finished (ended_with (call_of job) kept_as) taken one),
      )
    where
      kept_as : Ending
      kept_as = record {
        answer = record { reply = ending.answer.reply; owners = local.owners.items };
        pairs = local.pairs.items;
      }

  module _ (events : List Event) (admitted : IsAdmitted events)
      (few : (i : ℕ) → HasFew env (words_before L mix env events i)) (has : HasOne (run_of mix env events)) where
    abbrev w : World L
    w = run_of mix env events

    few-now : HasFew env w.core.words
    few-now =
        subst (λ (first : List Event). HasFew env (run_of {M = L} mix env first).core.words)
        (take_all (length events) events (omega arith)) (few (length events))

    -- an operation of a caller
    module _ (c : ℕ) (op : Op) (is : planned_in w.core c ≡ Some op) where
      abbrev of : StepOf env mix L w.core has.ghost c op
      of = step_of env mix L w.core has.ghost c op has.all has.inv is

      abbrev did : Did
      did = record { index = length events; op = op; old = old_of w.core.words op }

      performs : Performs mix env of.job did
      performs = record {
        over = (local_of w.core c).held;
        planned = of.plan;
        may = of.may;
        caller = c;
        words = w.core.words;
        ghost = has.ghost;
        low = of.low;
        few = of.few;
        all = of.all;
        whole = has.inv.whole;
        within = of.within;
        knows = of.knows;
        is_open = of.is_open;
        found = refl;
        step = of.step;
      }

      one : OneJob env keeps of.job
      one = subst (λ (j : Option Job). IfSome j (OneJob env keeps)) of.is (has.ones c).0

      -- what the call has seen so far
      saw : JobSaw env c (words_before L mix env events) mix of.job ((traced_of {M = L} mix env events).traces c).steps
      saw =
          let r : Traced L = traced_of mix env events in
          let Now = JobSaw env c (words_before L mix env events) mix in
          let Ended = EndsSeen L mix env events c in
          let now = (jobs_keep_own L mix env Now Ended events c
          record { begins = first_job-saw L mix env events c; goes = job-leads L mix env events c } admitted).now in
          let local = ap (λ (v : World L). job_of (local_of v.core c).doing) (world-traced_of L mix env events) ∙ of.is in
          (subst (λ (j : Option Job). IsAtJob L mix env Now Ended j (r.world.books c) (r.traces c).steps) local now).now

      leads : OneOn env keeps of.job (job_after mix env of.job did.old)
      unfolding performs
      leads =
          one-leads env keeps first mix (words_before L mix env events) few did c of.job
          ((traced_of {M = L} mix env events).traces c).steps performs has.sized few-now.count saw one

      -- the caller afterwards
      step-one : ViewOne (view_stepped mix (old_of w.core.words op) (view_of w c))
      step-one =
          let old = old_of w.core.words op in
          let local = local_of w.core c in
          let next = local_after mix local old in
          let r = job_after mix env of.job old in
          let table = (has.all.stays.locals_of c).doing in
          let left : job_of next.0.doing ≡ (told r).0 = left-job mix env local.doing of.job old table of.is in
          let books = has_books env mix L events admitted in
          let asked = (subst (λ (job : Option Job). BookSays job (w.books c) (outs env mix books.ghost c)) of.is (books.says c)).0 in
          let after = after-one of.job (w.books c) r next.0 next.1
          (doing_after-reply mix env local.doing of.job old table of.is) asked (has.ones c).1 leads in
          (subst (λ (job : Option Job). IfSome job (OneJob env keeps)) (sym left) after.0, after.1)

    -- and the tables
    step-sized : (c : ℕ) (op : Op) → (of : StepOf env mix L w.core has.ghost c op)
        → AreSized (ghost_after env mix c of.step.move has.ghost)
    step-sized c op of =
        let one = subst (λ (j : Option Job). IfSome j (OneJob env keeps)) of.is (has.ones c).0 in
        moved-good env mix IsSized c of.step.move has.ghost has.sized
        (λ slot shape seed serial at.
        let does = subst (λ m. Does env mix m op (old_of w.core.words op) (of_its_own (local_of w.core c).held (held_of of.job))
        (of_its_own (local_of w.core c).held (held_next (job_after mix env of.job (old_of w.core.words op))))) at of.step.does in
        let ready = subst (ReadyFor env mix c (mem env mix w.core.words) has.ghost) at of.step.ready in
        attach-sized env keeps mix c of.few (mem env mix w.core.words) has.ghost of.job of.within of.knows one does.last slot shape
        does.within does.has (sym (hard-op (local_of w.core c).held (job_plan env c of.job) _ tt (sym of.plan ∙ does.attaching))) ready.made.shape_is)

    -- ---- one event

    event-has : (event : Event) → IsAdmittedEvent event → HasOne (world_step mix w event)
    event-has event may =
        let k = kept env mix L w.core has.ghost event has.all has.inv in
        record {
          ghost = k.ghost;
          inv = k.inv;
          all = event-all L mix env w event may has.all;
          sized = ghosts_kept L mix env w AreSized has.ghost has.all has.inv has.sized step-sized event;
          ones = views_kept L mix env w ViewOne has.all.stays has.ones
              (λ c call machine first. (
                subst (λ (j : Option Job). IfSome j (OneJob env keeps)) (sym first.does)
                    (first-of (OneJob env keeps) env call first.job (first-one env keeps call) first.first),
                (has.ones c).1,
              ))
              step-one event;
        }

  -- ---- all events

  opening-one : HasOne (opening env)
  opening-one =
      let flat = opens_flat env in
      record {
        ghost = opening_ghost env;
        inv = opening_inv env mix L;
        all = opens-all L mix env;
        sized = λ τ l. record {
          many = omega (arith, ap size_of flat.shape ∙ flat.size, first);
          flat = ap (λ s. nat_lt 0 s.nest) flat.shape;
        };
        ones = λ c. rw (idle_at_opening env mix L c) (tt, tt);
      }

  runs-one : (events : List Event) → IsAdmitted events
      → ((i : ℕ) → HasFew env (words_before L mix env events i)) → HasOne (run_of mix env events)
  runs-one =
      induct_by_last
      (λ events. IsAdmitted events → ((i : ℕ) → HasFew env (words_before L mix env events i)) → HasOne (run_of mix env events))
      (λ none few. opening-one)
      (λ events event each all few.
      let parts = AllByRecursion-cut IsAdmittedEvent events (event ∷ []) all in
      let before = before-push L mix env events event (HasFew env) few in
      subst HasOne (sym (run_of-push L mix env events event))
      (event-has events parts.0 before (each parts.0 before) event parts.1.0))

  pub runs-taken : (events : List Event) (c : ℕ) → IsAdmitted events
      → ((i : ℕ) → HasFew env (words_before L mix env events i))
      → AllByRecursion Taken ((run_of {M = L} mix env events).books c).finished
  runs-taken events c admitted few = ((runs-one events admitted few).ones c).1

pub one_caller : (M : Type 0) (mix : ℕ → ℕ → ℕ → ℕ) → OneCaller M mix
one_caller M mix env events c admitted is =
    runs-taken M mix env is.keeps_size is.first events c admitted
    (λ i.
    let first = taken IsAdmittedEvent i events admitted in
    let words = words_before M mix env events i in
    let count = count-few M mix env (take i events) 15 first (below words (is.few i)) in
    let callers = env.agrees.callers_same in
    let one = is.one in
    record { count = omega (arith, count, callers, one); bound = is.few i })
  where
    below : (words : List ℕ) → (AreBound (stands_for env.geometry words) 16 → ⊥) → (many : ℕ)
        → AreBound (stands_for env.geometry words) many → many ≤ 15
    below words none many are = elim (cases_lt 15 many) [
      | inl more ↦ absurd (none (fewer-AreBound (stands_for env.geometry words) many 16 (omega (arith, more)) are))
      | inr fewer ↦ omega (arith, fewer)
    ]
