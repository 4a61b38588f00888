-- Which draw of a serial a job has: a making that has drawn one stores it in its slot, so that the table which it attaches has it.
use Rattle.std.proofs.Common.{◌≡◌, ◌≢◌, ℕ, ◌+◌, ◌%◌, ◌^◌, Bool, true, false, List, length, cond, nat_lt, refl, sym, ap, ◌∙◌, subst}
use Rattle.std.specs.Prelude.{Option, Some, None, ◌==◌}
use Rattle.rht_words.specs.declared.env.Env.{Env}
use Rattle.rht_words.specs.declared.geometry.Geometry.{Geometry}
use Rattle.rht_words.specs.declared.machine.Next.{Next}
use Rattle.rht_words.specs.declared.machine.Next.TheVariants.{Go, Done}
use Rattle.rht_words.specs.declared.machine.Start.{Start}
use Rattle.rht_words.specs.declared.machine.Start.TheVariants as starts
use Rattle.rht_words.specs.Operations.{old_of, applied}
use Rattle.rht_words.specs.Places.{Slot, SerialWord, words_in}
use Rattle.rht_words.proofs.Memory.{Memory, is_write}
use Rattle.rht_model.specs.declared.history.Call.{Call}
use Rattle.rht_model.specs.Endings.{Ending, plain_ending}
use Rattle.rht_arena.specs.TakeRun.{TakeRunModel, take_run_new, take_run_after}
use Rattle.rht_nest.specs.Make.{MakeModel, IsMakeIn, make_plan, make_plan_at, IsMakeAtIn, make_after, make_after_at, may_nest, made_pages, no_run, run_taken, run_started, top_taken, slot_seen}
use Rattle.rht_nest.specs.declared.make.MakeAt.{MakeAt}
use Rattle.rht_nest.specs.declared.make.MakeAt.TheVariants as makes
use Rattle.rht_bind.specs.Bind as bind
use Rattle.rht_bind.specs.declared.bind.BindAt.{BindAt}
use Rattle.rht_bind.specs.declared.bind.BindAt.TheVariants as bind_at
use Rattle.rht_move.specs.Work as work
use Rattle.rht_move.specs.declared.work.WorkAt.{WorkAt}
use Rattle.rht_move.specs.declared.work.WorkAt.TheVariants as work_at
use Rattle.rht_core.specs.Jobs.{Job, binds, works, call_of, job_plan, job_next, job_after, told, IsFirstJob}
use Rattle.rht_ghost.proofs.Theory.Ghosts.{Ghost}
use Rattle.rht_ghost.proofs.Theory.Reliance.{HoldingsStay}
use Rattle.rht_ghost.proofs.Theory.Steps.{mem, by_test}
use Rattle.rht_core.proofs.Machines.JobSteps.{JobIn, JobKnows}
use Rattle.rht_core.proofs.Machines.NeverHeld.{may_make}
use Rattle.rht_core.proofs.Counting.AttachingJobs.{IsAttachingJob}
use Rattle.rht_core.proofs.Counting.MakingWorks.{MakeGoes, WorkMakes, work-leads}
use Rattle.rht_core.proofs.Counting.MakingBinds.{BindMakes, bind-leads}
use Rattle.rht_core.proofs.Counting.MakingJobs.{JobMakes, MakesLeft, told-makes, others-make, begins-making}
use Rattle.rht_core.proofs.Counting.SerialDraws.{IsDrawing, DrawsBind, DrawsWork, DrawsJob}

-- this word is the serial of the draw with this number; of no draw there is none
abbrev pub IsOfDraw : Option ℕ → ℕ → Type 0
IsOfDraw None word = ⊥
IsOfDraw (Some draw) word = word ≡ draw % 2 ^ 64

-- a making that has drawn its serial has it from this draw
abbrev pub MakesOf : Option ℕ → MakeAt → Type 0
MakesOf has (makes.Shape slot nested page serial) = IsOfDraw has serial
MakesOf has (makes.Seed slot nested page serial) = IsOfDraw has serial
MakesOf has (makes.Future slot nested page serial) = IsOfDraw has serial
MakesOf has (makes.Serial slot nested page serial) = IsOfDraw has serial
MakesOf has _ = Unit {0}

-- so has the slot of a table that is about to be attached
module _ (M : Memory) (has : Option ℕ) where
  abbrev Any : ℕ → Type 0
  Any shape = Unit {0}

  abbrev Makes : MakeModel → Type 0
  Makes make = MakesOf has make.at

  abbrev Has : ℕ → ℕ → Type 0
  Has slot shape = IsOfDraw has (M (Slot slot SerialWord))

  abbrev pub DrawnBind : BindAt → Type 0
  DrawnBind state = BindMakes Any Makes Has state

  abbrev pub DrawnWork : WorkAt → Type 0
  DrawnWork state = WorkMakes Any Makes Has state

  abbrev pub DrawnJob : Job → Type 0
  DrawnJob job = JobMakes Any Makes Has job

  abbrev pub DrawnLeft : Option Job → Type 0
  DrawnLeft job = MakesLeft Any Makes Has job

  told-of : {S A : Type 0} (job : S → Job) (ending : A → Ending) (next : S × Next A) → DrawnJob (job next.0)
      → DrawnLeft (told (job_next job ending next)).0
  told-of job ending next of = told-makes Any Makes Has job ending next of

  other-of : (mix : ℕ → ℕ → ℕ → ℕ) (env : Env) (job : Job) (old : ℕ) → may_make (call_of job) ≡ false
      → DrawnLeft (told (job_after mix env job old)).0
  other-of mix env job old none = others-make Any Makes Has mix env job old none

  pub begins-drawn : (env : Env) (call : Call) (job : Job) → IsFirstJob env call job → DrawnJob job
  begins-drawn env call job is = begins-making Any Makes Has env call job is

-- the job makes a table
abbrev pub IsMakingBind : BindAt → Type 0
IsMakingBind (bind_at.Making growing size make) = Unit {0}
IsMakingBind _ = ⊥

abbrev pub IsMakingWork : WorkAt → Type 0
IsMakingWork (work_at.Making wanted make) = Unit {0}
IsMakingWork _ = ⊥

abbrev pub IsMakingJob : Job → Type 0
IsMakingJob (binds port owner once state) = IsMakingBind state
IsMakingJob (works state) = IsMakingWork state
IsMakingJob _ = ⊥

-- ---- an operation of the making

-- up to the draw there is nothing to say
no_run-of : (has : Option ℕ) (h : Geometry) (slot : ℕ) (nests : Bool) → MakesOf has (no_run h nests slot)
no_run-of has h slot true = tt
no_run-of has h slot false = tt

started-of : (has : Option ℕ) (h : Geometry) (slot : ℕ) (nests : Bool) (start : Start TakeRunModel (Option ℕ))
    → MakesOf has (run_started h nests slot start)
started-of has h slot nests (starts.Running take) = tt
started-of has h slot nests (starts.Done None) = no_run-of has h slot nests
started-of has h slot nests (starts.Done (Some page)) = tt

taken-of : (has : Option ℕ) (h : Geometry) (slot : ℕ) (nests : Bool) (take : TakeRunModel) (next : Next (Option ℕ))
    → MakesOf has (run_taken h nests slot take next)
taken-of has h slot nests take Go = tt
taken-of has h slot nests take (Done None) = no_run-of has h slot nests
taken-of has h slot nests take (Done (Some page)) = tt

top-of : (has : Option ℕ) (slot : ℕ) (take : TakeRunModel) (next : Next (Option ℕ)) → MakesOf has (top_taken slot take next)
top-of has slot take Go = tt
top-of has slot take (Done None) = tt
top-of has slot take (Done (Some page)) = tt

-- a making goes on with its draw, or it has stored its serial in the slot of the table
abbrev OnWith : Memory → Option ℕ → MakeModel × Next (Option (ℕ × ℕ)) → Type 0
OnWith M has next = MakeGoes (λ make. MakesOf has make.at) (λ slot shape. IsOfDraw has (M (Slot slot SerialWord))) next

module _ (M : Memory) (has : Option ℕ) (make : MakeModel) where
  abbrev Then : MakeAt × Next (Option (ℕ × ℕ)) → Type 0
  Then next = OnWith M has (record make { at = next.0 }, next.1)

  slot-of : (h : Geometry) (nests : Bool) (exponent slot old : ℕ) → Then (slot_seen h exponent nests slot old)
  slot-of h nests exponent slot old =
      by_test (λ t. Then (cond {A = MakeAt × Next (Option (ℕ × ℕ))} t (run_started h nests slot (take_run_new h (made_pages exponent)), Go)
      (cond (nat_lt (slot + 1) 8) (makes.Slot (slot + 1), Go) (makes.Slot slot, Done None)))) (old == 0)
      (λ t. started-of has h slot nests (take_run_new h (made_pages exponent)))
      (λ f. by_test (λ t. Then (cond {A = MakeAt × Next (Option (ℕ × ℕ))} t (makes.Slot (slot + 1), Go) (makes.Slot slot, Done None)))
      (nat_lt (slot + 1) 8) (λ t. tt) (λ f. tt))

  -- but for the draw itself, and for the store, it is as before
  at-of : (h : Geometry) (exponent : ℕ) (allowed : Bool) (state : MakeAt) (old : ℕ) → MakesOf has state
      → ((slot page : ℕ) (nested : Bool) → state ≡ makes.NextSerial slot nested page → IsOfDraw has old)
      → ((slot page serial : ℕ) (nested : Bool) → state ≡ makes.Serial slot nested page serial → M (Slot slot SerialWord) ≡ serial)
      → Then (make_after_at h exponent allowed state old)
  at-of h exponent allowed (makes.Slot slot) old of draws stores = slot-of h (may_nest exponent allowed) exponent slot old
  at-of h exponent allowed (makes.Taking slot take) old of draws stores =
      taken-of has h slot (may_nest exponent allowed) (take_run_after take old).0 (take_run_after take old).1
  at-of h exponent allowed (makes.TakingTop slot take) old of draws stores =
      top-of has slot (take_run_after take old).0 (take_run_after take old).1
  at-of h exponent allowed (makes.SlotBack slot) old of draws stores = tt
  at-of h exponent allowed (makes.NextSerial slot nested page) old of draws stores = draws slot page nested refl
  at-of h exponent allowed (makes.Shape slot nested page serial) old of draws stores = of
  at-of h exponent allowed (makes.Seed slot nested page serial) old of draws stores = of
  at-of h exponent allowed (makes.Future slot nested page serial) old of draws stores = of
  at-of h exponent allowed (makes.Serial slot nested page serial) old of draws stores =
      subst (IsOfDraw has) (sym (stores slot page serial nested refl)) of

-- ---- an operation of a call

module _ (env : Env) (mix : ℕ → ℕ → ℕ → ℕ) (c : ℕ) (words : List ℕ) (all_words : length words ≡ words_in env.geometry) where
  -- with what it has behind its operation: the draw that it makes, or what it had
  module _ (was now : Option ℕ) (make : MakeModel) (within : IsMakeIn env.geometry make) where
    abbrev after : Memory
    after = mem env mix (applied words (make_plan make))

    make-leads : (IsDrawing make → IsOfDraw now (old_of words (make_plan make))) → ((IsDrawing make → ⊥) → now ≡ was)
        → MakesOf was make.at → OnWith after now (make_after make (old_of words (make_plan make)))
    make-leads draws same of =
        at-of after now make make.geometry make.exponent make.nested make.at (old_of words (make_plan make)) (kept make.at refl)
        (λ slot page nested is. draws (record { slot = slot; nested = nested; page = page; is = is }))
        stored
      where
        no_draw : (state : MakeAt) → make.at ≡ state → ((slot page : ℕ) (nested : Bool) → state ≢ makes.NextSerial slot nested page)
            → MakesOf was state → MakesOf now state
        no_draw state at none of =
            subst (λ h. MakesOf h state)
            (sym (same (λ drawing. none drawing.slot drawing.page drawing.nested (sym at ∙ drawing.is)))) of

        kept : (state : MakeAt) → make.at ≡ state → MakesOf now make.at
        kept (makes.NextSerial slot nested page) at = subst (MakesOf now) (sym at) tt
        kept state at =
            subst (MakesOf now) (sym at) (no_draw state at (λ slot page nested e. cc) (subst (MakesOf was) at of))

        stored : (slot page serial : ℕ) (nested : Bool) → make.at ≡ makes.Serial slot nested page serial
            → after (Slot slot SerialWord) ≡ serial
        stored slot page serial nested is =
            let slot_in = (subst (λ s. IsMakeAtIn env.geometry make.exponent make.nested s) is within.at_in).taken.slot_in in
            subst (λ o. mem env mix (applied words o) (Slot slot SerialWord) ≡ serial)
            (sym (ap (λ g. make_plan_at g make.exponent make.seed make.at) within.geometry_same
            ∙ ap (make_plan_at env.geometry make.exponent make.seed) is))
            (is_write env.geometry words (Slot slot SerialWord) (make_plan_at env.geometry make.exponent make.seed (makes.Serial slot nested page serial))
            all_words (slot_in, tt) refl).same

  module _ (was now : Option ℕ) where
    -- the words behind an operation of the job
    abbrev behind : Job → Memory
    behind job = mem env mix (applied words (job_plan env c job))

    bind-on : (port owner : ℕ) (once : Bool) (state : BindAt) → bind.IsBindAtIn env state
        → (DrawsJob (binds port owner once state) → IsOfDraw now (old_of words (bind.plan_at env c state)))
        → (IsMakingBind state → (DrawsJob (binds port owner once state) → ⊥) → now ≡ was)
        → DrawnBind (mem env mix words) was state
        → DrawnBind (behind (binds port owner once state)) now (bind.after_at mix env port once state (old_of words (bind.plan_at env c state))).0
    bind-on port owner once state within draws same of =
        bind-leads env (λ shape. Unit {0}) (λ make. MakesOf now make.at)
        (λ slot shape. IsOfDraw now (behind (binds port owner once state) (Slot slot SerialWord)))
        mix (λ shape. Unit {0}) (λ make. MakesOf was make.at)
        (λ slot shape. IsOfDraw was (mem env mix words (Slot slot SerialWord))) port once state (old_of words (bind.plan_at env c state)) within of
        (record {
          future = λ claimed length is. tt;
          count = λ claimed is. tt;
          stays = λ shape full. tt;
          grows = λ shape full above. tt;
          renews = λ shape full. tt;
          makes = λ growing size make is in_range has.
              subst (λ s. OnWith (mem env mix (applied words (bind.plan_at env c s))) now (make_after make (old_of words (bind.plan_at env c s))))
              (sym is)
              (make-leads was now make in_range.make_in
              (λ drawing. subst (λ s. DrawsBind s → IsOfDraw now (old_of words (bind.plan_at env c s))) is draws drawing)
              (λ none. subst (λ s. IsMakingBind s → (DrawsBind s → ⊥) → now ≡ was) is same tt none) has);
        })

    work-on : (state : WorkAt) → work.IsWorkAtIn env state
        → (DrawsJob (works state) → IsOfDraw now (old_of words (work.plan_at env c state)))
        → (IsMakingWork state → (DrawsJob (works state) → ⊥) → now ≡ was)
        → DrawnWork (mem env mix words) was state
        → DrawnWork (behind (works state)) now (work.after_at mix env state (old_of words (work.plan_at env c state))).0
    work-on state within draws same of =
        work-leads env (λ shape. Unit {0}) (λ make. MakesOf now make.at)
        (λ slot shape. IsOfDraw now (behind (works state) (Slot slot SerialWord)))
        mix (λ shape. Unit {0}) (λ make. MakesOf was make.at)
        (λ slot shape. IsOfDraw was (mem env mix words (Slot slot SerialWord))) state (old_of words (work.plan_at env c state)) within of
        (record {
          last = λ root seek slot is shape. tt;
          chooses = λ root last size known is. tt;
          makes = λ wanted make is in_range has.
              subst (λ s. OnWith (mem env mix (applied words (work.plan_at env c s))) now (make_after make (old_of words (work.plan_at env c s))))
              (sym is)
              (make-leads was now make in_range.make_in
              (λ drawing. subst (λ s. DrawsWork s → IsOfDraw now (old_of words (work.plan_at env c s))) is draws drawing)
              (λ none. subst (λ s. IsMakingWork s → (DrawsWork s → ⊥) → now ≡ was) is same tt none) has);
        })

    pub job-on : (job : Job) → JobIn env mix c job
        → (DrawsJob job → IsOfDraw now (old_of words (job_plan env c job)))
        → (IsMakingJob job → (DrawsJob job → ⊥) → now ≡ was) → DrawnJob (mem env mix words) was job
        → DrawnLeft (behind job) now (told (job_after mix env job (old_of words (job_plan env c job)))).0
    job-on (binds port owner once state) within draws same of =
        told-of (behind (binds port owner once state)) now (binds port owner once) plain_ending
        (bind.after_at mix env port once state (old_of words (bind.plan_at env c state)))
        (bind-on port owner once state within.at_in draws same of)
    job-on (works state) within draws same of =
        told-of (behind (works state)) now works plain_ending (work.after_at mix env state (old_of words (work.plan_at env c state)))
        (work-on state within draws same of)
    job-on job within draws same of = other-of (behind job) now mix env job (old_of words (job_plan env c job)) refl

-- ---- another caller

module _ (env : Env) (mix : ℕ → ℕ → ℕ → ℕ) (k : ℕ) (M M' : Memory) (G G' : Ghost) (stay : HoldingsStay env mix k M G M' G')
    (has : Option ℕ) where
  -- nobody else writes to the slot that it has
  bind-still : (port owner : ℕ) (once : Bool) (state : BindAt) → JobKnows env mix k (binds port owner once state) M G
      → DrawnBind M has state → DrawnBind M' has state
  bind-still port owner once (bind_at.Attaching growing slot shape) knows of =
      subst (IsOfDraw has) (sym (stay.slot_words slot SerialWord knows.knowing.means.making.has tt)) of
  bind-still port owner once _ knows of = of

  work-still : (state : WorkAt) → JobKnows env mix k (works state) M G → DrawnWork M has state → DrawnWork M' has state
  work-still (work_at.Attaching root last slot shape) knows of =
      subst (IsOfDraw has) (sym (stay.slot_words slot SerialWord knows.knowing.means.making.has tt)) of
  work-still _ knows of = of

  pub job-still : (job : Job) → JobKnows env mix k job M G → DrawnJob M has job → DrawnJob M' has job
  job-still (binds port owner once state) knows of = bind-still port owner once state knows of
  job-still (works state) knows of = work-still state knows of
  job-still _ knows of = of

-- ---- a job that attaches a table

-- it isn't making one, and draws no serial
pub attaching-makes : (slot : ℕ) (job : Job) → IsAttachingJob job slot → IsMakingJob job → ⊥
attaching-makes slot (binds port owner once state) at making = subst IsMakingBind at.is making
attaching-makes slot (works state) at making = subst IsMakingWork at.is making
attaching-makes slot _ at making = at

pub attaching-draws : (slot : ℕ) (job : Job) → IsAttachingJob job slot → DrawsJob job → ⊥
attaching-draws slot (binds port owner once state) at draws = subst DrawsBind at.is draws
attaching-draws slot (works state) at draws = subst DrawsWork at.is draws
attaching-draws slot _ at draws = at

-- the table's slot has the serial of its draw
pub attaching-has : (M : Memory) (has : Option ℕ) (slot : ℕ) (job : Job) → IsAttachingJob job slot → DrawnJob M has job
    → IsOfDraw has (M (Slot slot SerialWord))
attaching-has M has slot (binds port owner once state) at of = subst (DrawnBind M has) at.is of
attaching-has M has slot (works state) at of = subst (DrawnWork M has) at.is of
attaching-has M has slot _ at of = absurd at
