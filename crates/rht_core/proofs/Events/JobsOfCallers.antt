-- A caller that is in a call does what its job says: it plans the job's operation, what becomes of it is what becomes of
-- the job, and a call that begins begins as its first job. Each is shown by cases on machines; what is said of callers
-- above is said of jobs.
use Rattle.std.proofs.Common.{◌≡◌, ℕ, Bool, true, false, [], refl, sym, ap, ◌∙◌, subst}
use Rattle.std.specs.Prelude.{Option, Some, None, IfSome, option_map}
use Rattle.rht_words.specs.Machines.{GoesOrEnds}
use Rattle.rht_words.specs.declared.op.Op.{Op}
use Rattle.rht_words.specs.declared.env.Env.{Env}
use Rattle.rht_words.specs.Held as held
use Rattle.rht_words.specs.declared.machine.Next.{Next}
use Rattle.rht_words.specs.declared.machine.Next.TheVariants.{Go, Done}
use Rattle.rht_model.specs.declared.history.Call.{Call}
use Rattle.rht_model.specs.declared.history.Call.TheVariants.{Bind, Find, Release, Rebind, All, Walk, Work, Tidy, Count}
use Rattle.rht_model.specs.declared.history.Cursor.{Cursor}
use Rattle.rht_model.specs.declared.history.Reply.{Reply}
use Rattle.rht_model.specs.Replies.{ArePairsWith}
use Rattle.rht_model.specs.Answers.{Answer}
use Rattle.rht_model.specs.Endings.{Ending, plain_ending}
use Rattle.rht_find.specs.Find as find
use Rattle.rht_bind.specs.Bind as bind
use Rattle.rht_model.specs.declared.history.Reply.TheVariants.{Counted}
use Rattle.rht_model.specs.Rooms.{Kept}
use Rattle.rht_release.specs.All as all
use Rattle.rht_release.specs.All.{AllModel, moved}
use Rattle.rht_release.specs.AllHeld.{listing_of}
use Rattle.rht_release.specs.declared.all.AllAt.{AllAt}
use Rattle.rht_callers.specs.declared.local.Local.{Local}
use Rattle.rht_grace.specs.Batch.{BatchModel}
use Rattle.rht_grace.specs.Tidy as tidy
use Rattle.rht_grace.specs.Tidy.{TidyModel}
use Rattle.rht_grace.specs.declared.tidy.TidyAt.{TidyAt}
use Rattle.rht_callers.specs.declared.local.Doing.{Doing}
use Rattle.rht_callers.specs.declared.local.Doing.TheVariants.{Idle, Finding, Binding, Releasing, Rebinding, Listing, Working, Counting, Tidying, Walking}
use Rattle.rht_callers.specs.Locals.{fresh, does_nothing, machine_from, doing_plan, soft, plan_of, doing_after, owners_after, room_given, pairs_after, pairs_given, local_after, ending_of, doing_next, without_node, IsDoingOf, IsLocalOf}
use Rattle.rht_core.specs.Laws.{IsDoingIn}
use Rattle.rht_core.specs.Jobs.{listing_ending, node_ending, Job, finds, binds, releases, rebinds, lists, works, tidies, tidying, tidied, walks, walk_ending, walk_gone, counts, call_of, first_job, first_tidy, job_plan, job_after, job_next, job_of, told, held_of, IsFirstJob}
use Rattle.rht_release.specs.Release as release
use Rattle.rht_release.specs.Rebind as rebind
use Rattle.rht_move.specs.Work as work
use Rattle.rht_walk.specs.Walk as walk
use Rattle.rht_walk.specs.Walk.{Pairs, WalkModel}
use Rattle.rht_walk.specs.declared.walk.WalkAt.{WalkAt}
use Rattle.rht_walk.specs.declared.walk.WalkAt.TheVariants as walks_at
use Rattle.rht_walk.specs.declared.walk.WalkEnd.TheVariants as walk_ends
use Rattle.rht_callers.proofs.CallBeginnings.{begins_so}

-- there is no job
abbrev pub is_no_job : Option Job → Bool
is_no_job None = true
is_no_job (Some job) = false

-- there is an ending
abbrev pub has_ended : Option Ending → Bool
has_ended None = false
has_ended (Some ending) = true

-- a caller whose rooms are empty
pub record HasNoLists {M : Type 0} (local : Local M) : Type 0 where
  pub owners : local.owners.items ≡ []
  pub pairs : local.pairs.items ≡ []

-- a walk ends with as many pairs as its reply says, and any other call with none
abbrev pub HasItsPairs : Call → Ending → Type 0
HasItsPairs (Bind port owner once) ending = ending.pairs ≡ []
HasItsPairs (Find port) ending = ending.pairs ≡ []
HasItsPairs (All port) ending = ending.pairs ≡ []
HasItsPairs (Release port owner) ending = ending.pairs ≡ []
HasItsPairs (Rebind port owner new) ending = ending.pairs ≡ []
HasItsPairs (Walk from limit) ending = ArePairsWith ending.answer.reply ending.pairs
HasItsPairs Work ending = ending.pairs ≡ []
HasItsPairs Tidy ending = ending.pairs ≡ []
HasItsPairs Count ending = ending.pairs ≡ []

-- an operation leaves the job one of its call, or ends the call with the pairs that it is to have
pub record GoesSo (asked : Call) (next : Job × Next Ending) : Type 0 where
  pub same : call_of next.0 ≡ asked
  pub alone : GoesOrEnds (λ job. Unit {0}) (HasItsPairs asked) next

job_next-so : {S A : Type 0} (job : S → Job) (ending : A → Ending) (call : Call) → ((state : S) → call_of (job state) ≡ call)
    → ((end : A) → HasItsPairs call (ending end)) → (next : S × Next A) → GoesSo call (job_next job ending next)
job_next-so job ending call same alone (state, Go) = record { same = same state; alone = tt }
job_next-so job ending call same alone (state, Done end) = record { same = same state; alone = alone end }

-- a walk counts the pairs in its room, and has none where it has to begin anew
walk-so : (env : Env) (from : Option Cursor) (limit : ℕ) (room : Pairs) (state : WalkAt) (old : ℕ)
    → let after = walk.room_after state room old in
    GoesSo (Walk from limit) (job_next (walks from limit after) (walk_ending after) (walk_gone env from limit room after state old))
walk-so env from limit room (walks_at.Closing (walk_ends.Walked next)) old = record { same = refl; alone = refl }
walk-so env from limit room (walks_at.Closing (walk_ends.Again table)) old = record { same = refl; alone = refl }
walk-so env from limit room _ old = record { same = refl; alone = tt }

pub goes_so : (mix : ℕ → ℕ → ℕ → ℕ) (env : Env) (job : Job) (old : ℕ) → GoesSo (call_of job) (job_after mix env job old)
goes_so mix env (finds port state) old =
    job_next-so (finds port) plain_ending (Find port) (λ s. refl) (λ e. refl) (find.after_at mix env port state old)
goes_so mix env (binds port owner once state) old =
    job_next-so (binds port owner once) plain_ending (Bind port owner once) (λ s. refl) (λ e. refl)
    (bind.after_at mix env port once state old)
goes_so mix env (lists port room state) old =
    let after = all.room_after state room old in
    job_next-so (lists port after) (listing_ending after) (All port) (λ s. refl) (λ e. refl) (all.after_at mix env port state old)
goes_so mix env (releases port owner state) old =
    job_next-so (releases port owner) node_ending (Release port owner) (λ s. refl) (λ e. refl)
    (release.after_at mix env port owner state old)
goes_so mix env (rebinds port owner new state) old =
    job_next-so (rebinds port owner new) node_ending (Rebind port owner new) (λ s. refl) (λ e. refl)
    (rebind.after_at mix env port owner state old)
goes_so mix env (works state) old =
    job_next-so works plain_ending Work (λ s. refl) (λ e. refl) (work.after_at mix env state old)
goes_so mix env (tidies batch state) old =
    job_next-so tidying plain_ending Tidy (λ s. refl) (λ e. refl) (tidied (tidy.after_at env.geometry batch state old))
goes_so mix env (walks from limit room state) old = walk-so env from limit room state old
goes_so mix env counts old = record { same = refl; alone = refl }

pub same_call : (mix : ℕ → ℕ → ℕ → ℕ) (env : Env) (job : Job) (old : ℕ) → call_of (job_after mix env job old).0 ≡ call_of job
same_call mix env job old = (goes_so mix env job old).same

-- what is so of each job of a call and of each way in which the call may end is so behind an operation
pub each_goes : (Now : Job → Type 0) (Ended : Ending → Type 0) (call : Call) (next : Job × Next Ending) → call_of next.0 ≡ call
    → ((job : Job) → call_of job ≡ call → Now job) → ((ending : Ending) → Ended ending) → GoesOrEnds Now Ended next
each_goes Now Ended call (job, Go) same now ended = now job same
each_goes Now Ended call (job, Done ending) same now ended = ended ending

-- a job leaves either no ending, and goes on, or an ending, and no job
pub left-told : (next : Job × Next Ending) → is_no_job (told next).0 ≡ has_ended (told next).1
left-told (job, Go) = refl
left-told (job, Done ending) = refl

-- what is so of the first job of a call
pub first-so : (Now : Job → Type 0) (first : Option Job) (job : Job) → IfSome first Now → first ≡ Some job → Now job
first-so Now None job kept is = absurd (cc)
first-so Now (Some first) job kept is = let same : first ≡ job = cc in subst Now same kept

-- what is so of it whatever batch its caller has
pub first-of : (Now : Job → Type 0) (env : Env) (call : Call) (job : Job) → ((batch : Option BatchModel) (start : ℕ) → IfSome (first_job env batch call start) Now)
    → IsFirstJob env call job → Now job
first-of Now env call job each (batch, start, is) = first-so Now (first_job env batch call start) job (each batch start) is

-- a tidying begins with its caller's batch
pub first_tidy-so : (Now : Job → Type 0) (batch : Option BatchModel) → ((own : BatchModel) → Now (tidying (tidy.begun own)))
    → IfSome (first_tidy batch) Now
first_tidy-so Now None so = tt
first_tidy-so Now (Some own) so = so own

-- a call holds nothing at its beginning
abbrev HoldsNothing : Job → Type 0
HoldsNothing job = held_of job ≡ held.holds_nothing

first_job-holds : (env : Env) (call : Call) (batch : Option BatchModel) (start : ℕ) → IfSome (first_job env batch call start) HoldsNothing
first_job-holds env Tidy batch start = first_tidy-so HoldsNothing batch (λ own. refl)
first_job-holds env _ batch start = refl

pub first_holds : (env : Env) (call : Call) (job : Job) → IsFirstJob env call job
    → held_of job ≡ held.holds_nothing
first_holds env call job is = first-of HoldsNothing env call job (first_job-holds env call) is

-- so nothing is known of its answer, now or early, and it has no node
pub first_unknown : (env : Env) (call : Call) (job : Job) → IsFirstJob env call job → (held_of job).answer ≡ None
first_unknown env call job is = ap (λ (h : held.Held Answer). h.answer) (first_holds env call job is)

pub first_not_early : (env : Env) (call : Call) (job : Job) → IsFirstJob env call job → (held_of job).early ≡ None
first_not_early env call job is = ap (λ (h : held.Held Answer). h.early) (first_holds env call job is)

pub first_without : (env : Env) (call : Call) (job : Job) → IsFirstJob env call job → (held_of job).node ≡ None
first_without env call job is = ap (λ (h : held.Held Answer). h.node) (first_holds env call job is)

module _ {M : Type 0} where
  -- who is in no call has no job
  pub nothing-job : (doing : Doing M) → does_nothing doing ≡ is_no_job (job_of doing)
  nothing-job Idle = refl
  nothing-job _ = refl

  -- ---- the beginning of a call

  -- the job with which a call begins is that of its machine, and does the call
  pub record IsFirst (env : Env) (call : Call) (doing : Doing M) : Type 0 where
    pub job : Job
    pub first : IsFirstJob env call job
    pub does : job_of doing ≡ Some job
    pub asked : call_of job ≡ call

  pub first_job-machine : (env : Env) (c : ℕ) (batch : Option BatchModel) (start : ℕ) (call : Call) (doing : Doing M)
      → machine_from env c batch call start ≡ Some doing
      → IsFirst env call doing
  first_job-machine env c batch start =
      begins_so M env c batch start (IsFirst env) (λ port. record { job = _; first = (batch, start, refl); does = refl; asked = refl })
      (λ port owner once. record { job = _; first = (batch, start, refl); does = refl; asked = refl })
      (λ port. record { job = _; first = (batch, start, refl); does = refl; asked = refl })
      (λ port owner. record { job = _; first = (batch, start, refl); does = refl; asked = refl })
      (λ port owner new. record { job = _; first = (batch, start, refl); does = refl; asked = refl })
      (record { job = _; first = (batch, start, refl); does = refl; asked = refl })
      (record { job = _; first = (batch, start, refl); does = refl; asked = refl })
      (λ own has. record { job = _; first = (batch, start, ap first_tidy has); does = refl; asked = refl })
      (λ from limit. record { job = _; first = (batch, start, refl); does = refl; asked = refl })

  -- ---- an operation

  -- what this machine plans is its job's operation, in the table of the run
  record PlansJobOf (env : Env) (c : ℕ) (doing : Doing M) (op : Op) : Type 0 where
    job : Job
    does : job_of doing ≡ Some job
    plan : op ≡ job_plan env c job

  plans-so : (env : Env) (c : ℕ) (doing : Doing M) (op : Op) (job : Job) (own : Env) (caller : ℕ) → job_of doing ≡ Some job
      → doing_plan doing ≡ Some (job_plan own caller job) → own ≡ env → caller ≡ c → doing_plan doing ≡ Some op
      → PlansJobOf env c doing op
  plans-so env c doing op job own caller does planned of mine plan =
      let here : op ≡ job_plan own caller job = let both = sym plan ∙ planned in cc in
      let owned = subst (λ (e : Env). op ≡ job_plan e caller job) of here in
      record { job = job; does = does; plan = subst (λ d. op ≡ job_plan env d job) mine owned }

  machine-job : (env : Env) (c : ℕ) (doing : Doing M) (op : Op) → IsDoingIn env c doing → doing_plan doing ≡ Some op
      → PlansJobOf env c doing op
  machine-job env c Idle op within plan = absurd (cc)
  machine-job env c (Finding m) op within plan =
      plans-so env c (Finding m) op (finds m.port m.at) m.env m.caller refl refl within.same_env within.same_caller plan
  machine-job env c (Binding m) op within plan =
      plans-so env c (Binding m) op (binds m.port m.owner m.once m.at) m.env m.caller refl refl within.same_env within.same_caller plan
  machine-job env c (Listing m) op within plan =
      plans-so env c (Listing m) op (lists m.port m.room m.at) m.env m.caller refl refl within.same_env within.same_caller plan
  machine-job env c (Releasing m) op within plan =
      plans-so env c (Releasing m) op (releases m.port m.owner m.at) m.env m.caller refl refl within.same_env within.same_caller plan
  machine-job env c (Rebinding m) op within plan =
      plans-so env c (Rebinding m) op (rebinds m.port m.owner m.new_owner m.at) m.env m.caller refl refl
      within.same_env within.same_caller plan
  machine-job env c (Working m) op within plan =
      plans-so env c (Working m) op (works m.at) m.env m.caller refl refl within.same_env within.same_caller plan
  machine-job env c (Tidying m) op within plan =
      let here : op ≡ tidy.plan_at m.geometry m.batch m.at = let both = sym plan in cc in
      record { job = tidies m.batch m.at; does = refl; plan = here ∙ ap (λ g. tidy.plan_at g m.batch m.at) within.same_geometry }
  machine-job env c (Walking m) op within plan =
      plans-so env c (Walking m) op (walks m.from m.limit m.room m.at) m.env m.caller refl refl within.same_env within.same_caller plan
  machine-job env c (Counting m) op within plan = plans-so env c (Counting m) op counts m.env c refl refl within refl plan

  -- what a caller plans is that operation, which loads the word where it would turn a section that the caller holds open
  pub record PlansJob (env : Env) (c : ℕ) (local : Local M) (op : Op) : Type 0 where
    pub job : Job
    pub does : job_of local.doing ≡ Some job
    pub plan : op ≡ soft local.held (job_plan env c job)

  pub plan-job : (env : Env) (c : ℕ) (local : Local M) (op : Op) → IsDoingIn env c local.doing → plan_of local ≡ Some op
      → PlansJob env c local op
  plan-job env c local op within plan = go (doing_plan local.doing) refl plan
    where
      go : (planned : Option Op) → doing_plan local.doing ≡ planned → option_map (soft local.held) planned ≡ Some op → PlansJob env c local op
      go None is plan = absurd (cc)
      go (Some own) is plan =
          let of = machine-job env c local.doing own within is in
          let same : op ≡ soft local.held own = let both = sym plan in cc in
          record { job = of.job; does = of.does; plan = same ∙ ap (soft local.held) of.plan }

  module _ (local : Local M) (none : HasNoLists local) where
    -- the job that a caller has after this has become of what it does and of its rooms, and how its call has
    -- ended
    abbrev job_left_with : Doing M × Option Reply → Kept ℕ → Pairs → Option Job × Option Ending
    job_left_with next owners pairs =
        (job_of next.0, ending_of (record local { doing = next.0; owners = owners; pairs = pairs }) next.1)

    abbrev job_left : Doing M × Option Reply → Option Job × Option Ending
    job_left next = job_left_with next local.owners local.pairs

    -- a call that ends without lists ends so
    plain : (reply : Reply) → ending_of local (Some reply) ≡ Some (plain_ending reply)
    plain reply = (λ i. Some record { answer = record { reply = reply; owners = none.owners i }; pairs = none.pairs i })

    next-told : {S A : Type 0} (doing : A → Doing M) (machine : S → A) (job : S → Job)
        → ((state : S) → job_of (doing (machine state)) ≡ Some (job state)) → (r : S × Next Reply)
        → job_left (doing_next doing (machine r.0, r.1)) ≡ told (job_next job plain_ending r)
    next-told doing machine job same (state, Go) = ap (λ j. (j, None)) (same state)
    next-told doing machine job same (state, Done reply) = ap (λ e. (None, e)) (plain reply)

    node-told : {S A : Type 0} (doing : A → Doing M) (machine : S → A) (job : S → Job)
        → ((state : S) → job_of (doing (machine state)) ≡ Some (job state)) → (r : S × Next (Reply × Option ℕ))
        → job_left (doing_next doing (machine r.0, without_node r.1)) ≡ told (job_next job node_ending r)
    node-told doing machine job same (state, Go) = ap (λ j. (j, None)) (same state)
    node-told doing machine job same (state, Done end) = ap (λ e. (None, e)) (plain end.0)

    listed-told : (m : AllModel) (after : Kept ℕ) (r : AllAt × Next (Unit {0}))
        → let next = moved m after r in
        job_left_with (doing_next Listing next) (room_given next local.owners) local.pairs
        ≡ told (job_next (lists m.port after) (listing_ending after) r)
    listed-told m after (state, Go) = refl
    listed-told m after (state, Done done) =
        (λ i. (None, Some record { answer = listing_of after.items; pairs = none.pairs i }))

    tidied-told : (m : TidyModel) (came : BatchModel × TidyAt × Next Reply)
        → job_left (doing_next Tidying (tidy.moved m came)) ≡ told (job_next tidying plain_ending (tidied came))
    tidied-told m (batch, state, Go) = refl
    tidied-told m (batch, state, Done reply) = ap (λ e. (None, e)) (plain reply)

    walked-told : (m : WalkModel) (after : Pairs) (r : WalkAt × Next Reply)
        → let next : WalkModel × Next Reply = (record m { room = after; at = r.0 }, r.1) in
        job_left_with (doing_next Walking next) local.owners (pairs_given next local.pairs)
        ≡ told (job_next (walks m.from m.limit after) (walk_ending after) r)
    walked-told m after (state, Go) = refl
    walked-told m after (state, Done reply) =
        (λ i. (None, Some record { answer = record { reply = reply; owners = none.owners i }; pairs = after.items }))

    -- what is left of a job is the same in its own table as in the run's, which is that one
    told-same : (mix : ℕ → ℕ → ℕ → ℕ) (own env : Env) (first job : Job) (old : ℕ) → own ≡ env → Some first ≡ Some job
        → told (job_after mix own first old) ≡ told (job_after mix env job old)
    told-same mix own env first job old of is =
        let here : first ≡ job = cc in
        ap (λ (e : Env). told (job_after mix e first old)) of ∙ ap (λ (j : Job). told (job_after mix env j old)) here

    doing_after-job : (mix : ℕ → ℕ → ℕ → ℕ) (env : Env) (doing : Doing M) (job : Job) (old : ℕ)
        → IsDoingOf env doing → job_of doing ≡ Some job
        → job_left_with (doing_after mix doing old) (owners_after mix doing local.owners old) (pairs_after doing local.pairs old)
        ≡ told (job_after mix env job old)
    doing_after-job mix env Idle job old of is = absurd (cc)
    doing_after-job mix env (Finding m) job old of is =
        next-told Finding (λ state. record m { at = state }) (finds m.port) (λ state. refl)
        (find.after_at mix m.env m.port m.at old)
        ∙ told-same mix m.env env (finds m.port m.at) job old of is
    doing_after-job mix env (Binding m) job old of is =
        next-told Binding (λ state. record m { at = state }) (binds m.port m.owner m.once) (λ state. refl)
        (bind.after_at mix m.env m.port m.once m.at old)
        ∙ told-same mix m.env env (binds m.port m.owner m.once m.at) job old of is
    doing_after-job mix env (Listing m) job old of is =
        listed-told m (all.room_after m.at m.room old) (all.after_at mix m.env m.port m.at old)
        ∙ told-same mix m.env env (lists m.port m.room m.at) job old of is
    doing_after-job mix env (Releasing m) job old of is =
        node-told Releasing (λ state. record m { at = state }) (releases m.port m.owner) (λ state. refl)
        (release.after_at mix m.env m.port m.owner m.at old)
        ∙ told-same mix m.env env (releases m.port m.owner m.at) job old of is
    doing_after-job mix env (Rebinding m) job old of is =
        node-told Rebinding (λ state. record m { at = state }) (rebinds m.port m.owner m.new_owner) (λ state. refl)
        (rebind.after_at mix m.env m.port m.owner m.at old)
        ∙ told-same mix m.env env (rebinds m.port m.owner m.new_owner m.at) job old of is
    doing_after-job mix env (Working m) job old of is =
        next-told Working (λ state. record m { at = state }) works (λ state. refl) (work.after_at mix m.env m.at old)
        ∙ told-same mix m.env env (works m.at) job old of is
    doing_after-job mix env (Tidying m) job old of is =
        let here : tidies m.batch m.at ≡ job = cc in
        tidied-told m (tidy.after_at m.geometry m.batch m.at old)
        ∙ ap (λ g. told (job_next tidying plain_ending (tidied (tidy.after_at g m.batch m.at old)))) of
        ∙ ap (λ (j : Job). told (job_after mix env j old)) here
    doing_after-job mix env (Walking m) job old of is =
        let after = walk.room_after m.at m.room old in
        walked-told m after (walk_gone m.env m.from m.limit m.room after m.at old)
        ∙ told-same mix m.env env (walks m.from m.limit m.room m.at) job old of is
    doing_after-job mix env (Counting m) job old of is =
        ap (λ e. (None, e)) (plain (Counted old)) ∙ told-same mix m.env env counts job old of is

  -- the reply is that with which its call has ended, whatever is in its rooms
  pub doing_after-reply : (mix : ℕ → ℕ → ℕ → ℕ) (env : Env) (doing : Doing M) (job : Job) (old : ℕ)
      → IsDoingOf env doing → job_of doing ≡ Some job
      → (doing_after mix doing old).1 ≡ option_map (λ (e : Ending). e.answer.reply) (told (job_after mix env job old)).1
  doing_after-reply mix env doing job old of is =
      let local : Local M = fresh env in
      let next = doing_after mix doing old in
      let owners = owners_after mix doing local.owners old in
      let pairs = pairs_after doing local.pairs old in
      sym (ended-reply (record local { doing = next.0; owners = owners; pairs = pairs }) next.1)
      ∙ ap (λ l. option_map (λ (e : Ending). e.answer.reply) l.1) (doing_after-job local (record { owners = refl; pairs = refl }) mix env doing job old of is)
    where
      ended-reply : (local : Local M) (reply : Option Reply) → option_map (λ (e : Ending). e.answer.reply) (ending_of local reply) ≡ reply
      ended-reply local None = refl
      ended-reply local (Some reply) = refl

  -- the job that is left of what it does is the one that is left of its job
  pub left-job : (mix : ℕ → ℕ → ℕ → ℕ) (env : Env) (doing : Doing M) (job : Job) (old : ℕ)
      → IsDoingOf env doing → job_of doing ≡ Some job
      → job_of (doing_after mix doing old).0 ≡ (told (job_after mix env job old)).0
  left-job mix env doing job old of is =
      ap (λ l. l.0) (doing_after-job (fresh env) (record { owners = refl; pairs = refl }) mix env doing job old of is)

  -- what becomes of a caller is what becomes of its job
  pub local_after-job : (mix : ℕ → ℕ → ℕ → ℕ) (env : Env) (local : Local M) (job : Job) (old : ℕ)
      → HasNoLists local → IsLocalOf env local → job_of local.doing ≡ Some job
      → let next = local_after mix local old in
      ◌≡◌ {A = Option Job × Option Ending} (job_of next.0.doing, ending_of next.0 next.1) (told (job_after mix env job old))
  local_after-job mix env local job old none of is =
      doing_after-job local none mix env local.doing job old of.doing is
