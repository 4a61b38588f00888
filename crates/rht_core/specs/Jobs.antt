-- Jobs: what a caller does, said without its number, its table and the type of its mix. What is said of a caller by where
-- its machine stands is said of its job, so that each machine is told apart from the others here and in few places else.
use Rattle.std.specs.Prelude.{◌≡◌, ℕ, Bool, Option, Some, None, [], length}
use Rattle.rht_words.specs.declared.op.Op.{Op}
use Rattle.rht_words.specs.declared.env.Env.{Env}
use Rattle.rht_words.specs.declared.machine.Next.{Next}
use Rattle.rht_words.specs.declared.machine.Next.TheVariants.{Go, Done}
use Rattle.rht_model.specs.declared.history.Call.{Call}
use Rattle.rht_model.specs.declared.history.Call.TheVariants.{Bind, Find, All, Release, Rebind, Walk, Work, Tidy, Count}
use Rattle.rht_model.specs.declared.history.Cursor.{Cursor}
use Rattle.rht_model.specs.declared.history.Reply.{Reply}
use Rattle.rht_words.specs.Held.{Held}
use Rattle.rht_words.specs.Held as held
use Rattle.rht_model.specs.Answers.{Answer, plain}
use Rattle.rht_model.specs.Endings.{Ending, plain_ending}
use Rattle.rht_find.specs.FindHeld.{held_of_find}
use Rattle.rht_bind.specs.BindHeld.{held_of_bind}
use Rattle.rht_find.specs.Find as find
use Rattle.rht_find.specs.declared.find.FindAt.{FindAt}
use Rattle.rht_find.specs.declared.find.FindAt.TheVariants.{Opening}
use Rattle.rht_bind.specs.Bind as bind
use Rattle.rht_bind.specs.declared.bind.BindAt.{BindAt}
use Rattle.rht_model.specs.Rooms.{Kept}
use Rattle.rht_release.specs.All as all
use Rattle.rht_release.specs.AllHeld.{listing_of, held_of_all}
use Rattle.rht_release.specs.declared.all.AllAt.{AllAt}
use Rattle.rht_release.specs.declared.all.AllAt.TheVariants as alls
use Rattle.rht_model.specs.declared.history.Reply.TheVariants.{Counted}
use Rattle.rht_move.specs.Work as work
use Rattle.rht_move.specs.WorkHeld.{held_of_work}
use Rattle.rht_move.specs.declared.work.WorkAt.{WorkAt}
use Rattle.rht_move.specs.declared.work.WorkAt.TheVariants as works_at
use Rattle.rht_callers.specs.Locals.{room_for_nodes}
use Rattle.rht_grace.specs.Batch.{BatchModel}
use Rattle.rht_grace.specs.Tidy as tidy
use Rattle.rht_grace.specs.declared.tidy.TidyAt.{TidyAt}
use Rattle.rht_callers.specs.PortCounts.{count_plan_in}
use Rattle.rht_walk.specs.Walk as walk
use Rattle.rht_walk.specs.Walk.{Pairs}
use Rattle.rht_walk.specs.WalkHeld.{held_of_walk}
use Rattle.rht_walk.specs.declared.walk.WalkAt.{WalkAt}
use Rattle.rht_walk.specs.declared.walk.WalkAt.TheVariants as walks_at
use Rattle.rht_callers.specs.declared.local.Doing.{Doing}
use Rattle.rht_callers.specs.declared.local.Doing.TheVariants.{Idle, Finding, Binding, Releasing, Rebinding, Listing, Working, Counting, Tidying, Walking}
use Rattle.rht_release.specs.Release as release
use Rattle.rht_release.specs.ReleaseHeld.{held_of_release}
use Rattle.rht_release.specs.declared.release.ReleaseAt.{ReleaseAt}
use Rattle.rht_release.specs.declared.release.ReleaseAt.TheVariants as releasing
use Rattle.rht_release.specs.Rebind as rebind
use Rattle.rht_release.specs.RebindHeld.{held_of_rebind}
use Rattle.rht_release.specs.declared.rebind.RebindAt.{RebindAt}

-- a look-up of a port, a bind of a port to an owner, a listing of a port's owners with its room, a release, a rebind, a
-- resizing of the table, a tidying of its caller's batch, and a walk with its room, each with the state in which it is; and a
-- reading of how many ports are bound
pub data Job : Type 0 where
  finds : (port : ℕ) (state : FindAt) → Job
  binds : (port owner : ℕ) (once : Bool) (state : BindAt) → Job
  lists : (port : ℕ) (room : Kept ℕ) (state : AllAt) → Job
  releases : (port owner : ℕ) (state : ReleaseAt) → Job
  rebinds : (port owner new : ℕ) (state : RebindAt) → Job
  works : (state : WorkAt) → Job
  tidies : (batch : BatchModel) (state : TidyAt) → Job
  walks : (from : Option Cursor) (limit : ℕ) (room : Pairs) (state : WalkAt) → Job
  counts : Job

-- the call that it does
abbrev pub call_of : Job → Call
call_of (finds port state) = Find port
call_of (binds port owner once state) = Bind port owner once
call_of (lists port room state) = All port
call_of (releases port owner state) = Release port owner
call_of (rebinds port owner new state) = Rebind port owner new
call_of (works state) = Work
call_of (tidies batch state) = Tidy
call_of (walks from limit room state) = Walk from limit
call_of counts = Count

-- a tidying's state is that of its batch and its machine
abbrev pub tidying : BatchModel × TidyAt → Job
tidying at = tidies at.0 at.1

-- the job with which a call begins; none for a tidying without a batch
abbrev pub first_tidy : Option BatchModel → Option Job
first_tidy None = None
first_tidy (Some batch) = Some (tidying (tidy.begun batch))

-- it is that of a caller with this batch, whose search for a free node is to begin at word `start`
abbrev pub first_job : Env → Option BatchModel → Call → ℕ → Option Job
first_job env batch (Find port) start = Some (finds port Opening)
first_job env batch (Bind port owner once) start = Some (binds port owner once (bind.first_state env port owner start))
first_job env batch (All port) start = Some (lists port (room_for_nodes env) alls.Opening)
first_job env batch (Release port owner) start = Some (releases port owner releasing.Opening)
first_job env batch (Rebind port owner new) start = Some (rebinds port owner new (rebind.first_state env port new start))
first_job env batch (Walk from limit) start = Some (walks from limit (room_for_nodes env) walks_at.Opening)
first_job env batch Work start = Some (works works_at.WorkLock)
first_job env batch Tidy start = first_tidy batch
first_job env batch Count start = Some counts

-- so the call may begin, with some batch and from some word
abbrev pub IsFirstJob : Env → Call → Job → Type 0
IsFirstJob env call job = (batch : Option BatchModel) × (start : ℕ) × (first_job env batch call start ≡ Some job)

-- the operation that this caller performs next for it
abbrev pub job_plan : Env → ℕ → Job → Op
job_plan env caller (finds port state) = find.plan_at env caller state
job_plan env caller (binds port owner once state) = bind.plan_at env caller state
job_plan env caller (lists port room state) = all.plan_at env caller state
job_plan env caller (releases port owner state) = release.plan_at env caller state
job_plan env caller (rebinds port owner new state) = rebind.plan_at env caller state
job_plan env caller (works state) = work.plan_at env caller state
job_plan env caller (tidies batch state) = tidy.plan_at env.geometry batch state
job_plan env caller (walks from limit room state) = walk.plan_at env.geometry caller state
job_plan env caller counts = count_plan_in env

-- the job goes on in its machine's next state, or its call has ended so
abbrev pub job_next : {S A : Type 0} → (S → Job) → (A → Ending) → S × Next A → Job × Next Ending
job_next job ending (state, Go) = (job state, Go)
job_next job ending (state, Done end) = (job state, Done (ending end))

-- a listing ends with the owners in its room
abbrev pub listing_ending : Kept ℕ → Unit {0} → Ending
listing_ending room done = record { answer = listing_of room.items; pairs = [] }

-- a release and a rebind end with their reply, without the node that was taken out
abbrev pub node_ending : Reply × Option ℕ → Ending
node_ending end = plain_ending end.0

-- a walk ends with its reply, and the pairs in its room
abbrev pub walk_ending : Pairs → Reply → Ending
walk_ending room reply = record { answer = plain reply; pairs = room.items }

-- where it stands behind this state, and its answer, with the pairs that are kept then
abbrev pub walk_gone : Env → Option Cursor → ℕ → Pairs → Pairs → WalkAt → ℕ → WalkAt × Next Reply
walk_gone env from limit room after state old =
    (walk.goes env.geometry from limit (length room.items) state old, walk.says after state)

abbrev pub tidied : BatchModel × TidyAt × Next Reply → (BatchModel × TidyAt) × Next Reply
tidied came = ((came.0, came.1), came.2)

-- what becomes of it after its operation found this value
abbrev pub job_after : (ℕ → ℕ → ℕ → ℕ) → Env → Job → ℕ → Job × Next Ending
job_after mix env (finds port state) old =
    job_next (finds port) plain_ending (find.after_at mix env port state old)
job_after mix env (binds port owner once state) old =
    job_next (binds port owner once) plain_ending (bind.after_at mix env port once state old)
job_after mix env (lists port room state) old =
    let after = all.room_after state room old in
    job_next (lists port after) (listing_ending after) (all.after_at mix env port state old)
job_after mix env (releases port owner state) old =
    job_next (releases port owner) node_ending (release.after_at mix env port owner state old)
job_after mix env (rebinds port owner new state) old =
    job_next (rebinds port owner new) node_ending (rebind.after_at mix env port owner state old)
job_after mix env (works state) old = job_next works plain_ending (work.after_at mix env state old)
job_after mix env (tidies batch state) old =
    job_next tidying plain_ending (tidied (tidy.after_at env.geometry batch state old))
job_after mix env (walks from limit room state) old =
    let after = walk.room_after state room old in
    job_next (walks from limit after) (walk_ending after) (walk_gone env from limit room after state old)
job_after mix env counts old = (counts, Done (plain_ending (Counted old)))

-- the job of what a caller does
abbrev pub job_of : {M : Type 0} → Doing M → Option Job
job_of Idle = None
job_of (Finding m) = Some (finds m.port m.at)
job_of (Binding m) = Some (binds m.port m.owner m.once m.at)
job_of (Listing m) = Some (lists m.port m.room m.at)
job_of (Releasing m) = Some (releases m.port m.owner m.at)
job_of (Rebinding m) = Some (rebinds m.port m.owner m.new_owner m.at)
job_of (Working m) = Some (works m.at)
job_of (Counting m) = Some counts
job_of (Tidying m) = Some (tidies m.batch m.at)
job_of (Walking m) = Some (walks m.from m.limit m.room m.at)

-- what is left of a job after an operation, and how its call has ended where it has
abbrev pub told : Job × Next Ending → Option Job × Option Ending
told (job, Go) = (Some job, None)
told (job, Done ending) = (None, Some ending)

-- ---- what a call holds, by its job

-- what it holds in its state: its node, its locks, its slot and pages, the work lock, whether it has raised the count, and its
-- answer once it is known
abbrev pub held_of : Job → Held Answer
held_of (finds port state) = held_of_find state
held_of (binds port owner once state) = held_of_bind state
held_of (lists port room state) = held_of_all room.items state
held_of (releases port owner state) = held_of_release state
held_of (rebinds port owner new state) = held_of_rebind state
held_of (works state) = held_of_work state
held_of (tidies batch state) = held.holds_nothing
held_of (walks from limit room state) = held_of_walk room state
held_of counts = held.holds_nothing

-- and after an operation; once the call has ended it holds nothing, and its answer is known
abbrev pub held_next : Job × Next Ending → Held Answer
held_next (job, Go) = held_of job
held_next (job, Done ending) = held.ended_with ending.answer
