-- A caller stands next only where it could come to before; and out of its section it stands nowhere. It is said of jobs, each machine apart.
use Rattle.std.proofs.Common.{length, ◌≡◌, ℕ, Bool, true, false, List, Some, None, refl, sym, ◌∙◌, subst, Option}
use Rattle.std.specs.Prelude.{IfSome, if◌then◌else◌}
use Rattle.rht_words.specs.declared.env.Env.{Env}
use Rattle.rht_words.specs.Held.{Held}
use Rattle.rht_words.specs.declared.machine.Next.{Next}
use Rattle.rht_words.specs.declared.machine.Next.TheVariants.{Go, Done}
use Rattle.rht_words.specs.Operations.{old_of}
use Rattle.rht_words.specs.Standing.{Standing, stands_nowhere}
use Rattle.rht_arena.specs.NewNode.{new_node_after}
use Rattle.rht_model.specs.declared.history.Call.{Call}
use Rattle.rht_model.specs.declared.history.Call.TheVariants.{Tidy}
use Rattle.rht_model.specs.declared.history.Reply.{Reply}
use Rattle.rht_model.specs.Answers.{Answer}
use Rattle.rht_model.specs.Endings.{Ending, plain_ending}
use Rattle.rht_model.specs.Rooms.{Kept}
use Rattle.rht_find.specs.Find as find
use Rattle.rht_find.specs.FindHeld.{held_of_find}
use Rattle.rht_find.specs.FindStanding.{standing_of_find}
use Rattle.rht_find.specs.declared.find.FindAt.{FindAt}
use Rattle.rht_find.specs.declared.find.FindAt.TheVariants as finding
use Rattle.rht_bind.specs.Bind as bind
use Rattle.rht_bind.specs.BindHeld.{held_of_bind}
use Rattle.rht_bind.specs.BindStanding.{standing_of_bind}
use Rattle.rht_bind.specs.declared.bind.BindAt.{BindAt}
use Rattle.rht_bind.specs.declared.bind.BindAt.TheVariants as binding
use Rattle.rht_release.specs.All as all
use Rattle.rht_release.specs.AllHeld.{held_of_all}
use Rattle.rht_release.specs.AllStanding.{standing_of_all}
use Rattle.rht_release.specs.declared.all.AllAt.{AllAt}
use Rattle.rht_release.specs.declared.all.AllAt.TheVariants as listing
use Rattle.rht_release.specs.Release as release
use Rattle.rht_release.specs.ReleaseHeld.{held_of_release}
use Rattle.rht_release.specs.ReleaseStanding.{standing_of_release}
use Rattle.rht_release.specs.declared.release.ReleaseAt.{ReleaseAt}
use Rattle.rht_release.specs.declared.release.ReleaseAt.TheVariants as releasing
use Rattle.rht_release.specs.Rebind as rebind
use Rattle.rht_release.specs.RebindHeld.{held_of_rebind}
use Rattle.rht_release.specs.RebindStanding.{standing_of_rebind}
use Rattle.rht_release.specs.declared.rebind.RebindEnd.TheVariants as ends
use Rattle.rht_release.specs.declared.rebind.RebindAt.{RebindAt}
use Rattle.rht_release.specs.declared.rebind.RebindAt.TheVariants as rebinding
use Rattle.rht_reclaim.specs.KeepSections.{keep_sections_after}
use Rattle.rht_reclaim.specs.ReturnTables.{return_tables_after}
use Rattle.rht_move.specs.Work as work
use Rattle.rht_move.specs.WorkHeld.{held_of_work}
use Rattle.rht_move.specs.WorkStanding.{standing_of_work}
use Rattle.rht_move.specs.declared.work.WorkAt.{WorkAt}
use Rattle.rht_move.specs.declared.work.WorkAt.TheVariants as working
use Rattle.rht_grace.specs.Batch.{BatchModel}
use Rattle.rht_core.specs.Jobs.{Job, finds, binds, lists, releases, rebinds, works, tidies, tidying, walks, walk_ending, counts, first_job, listing_ending, node_ending, job_plan, job_next, job_after, told, held_of, IsFirstJob}
use Rattle.rht_release.proofs.RebindKnowledge.{own}
use Rattle.rht_core.specs.Standings.{standing_of, standing_with}
use Rattle.rht_ghost.proofs.Theory.Ghosts.{Ghost}
use Rattle.rht_ghost.proofs.Theory.Steps.{mem}
use Rattle.rht_ghost.proofs.Theory.Wholes.{Whole}
use Rattle.rht_core.proofs.Events.JobsOfCallers.{first_tidy-so, first-of}
use Rattle.rht_core.proofs.Finding.Lookups.{LookMeans}
use Rattle.rht_core.proofs.Finding.Places.{Places}
use Rattle.rht_core.proofs.Machines.JobSteps.{JobIn, JobKnows}
use Rattle.rht_core.proofs.Returning.Coming.{Comes, to_nowhere}
use Rattle.rht_walk.specs.Walk as walk
use Rattle.rht_walk.specs.Walk.{Pairs}
use Rattle.rht_walk.specs.WalkHeld.{held_of_walk}
use Rattle.rht_walk.specs.WalkStanding.{standing_of_walk}
use Rattle.rht_walk.specs.declared.walk.WalkAt.{WalkAt}
use Rattle.rht_walk.specs.declared.walk.WalkAt.TheVariants as walking
use Rattle.rht_model.specs.declared.history.Cursor.{Cursor}
use Rattle.rht_core.proofs.Returning.TiedJobs.{tied_of}
use Rattle.rht_core.proofs.Returning.WalkWays.{walk_comes}
use Rattle.rht_core.proofs.Returning.ComingFinds.{find_comes}
use Rattle.rht_core.proofs.Returning.ComingBinds.{bind_comes, bind_filled}
use Rattle.rht_core.proofs.Returning.ComingReleases.{all_comes, release_comes, rebind_comes, rebind_filled}
use Rattle.rht_core.proofs.Returning.ComingWorks.{work_comes, locked-nowhere, returned-nowhere, kept-nowhere}

-- what is so of where a machine stands next, and of nowhere, is so of what is left of its job
told-stands : {S A : Type 0} (job : S → Job) (ending : A → Ending) (P : Standing → Type 0) (r : S × Next A)
    → P (standing_of (job r.0)) → P stands_nowhere → P (standing_with (told (job_next job ending r)).0)
told-stands job ending P (state, Go) next none = next
told-stands job ending P (state, Done end) next none = none

-- ---- out of its section

-- while a chain is changed it is in its section, before the store and behind it
either-section : (stored : Bool) (now before : Held Answer) → now.section ≡ true → before.section ≡ true
    → (if stored then now else before).section ≡ true
either-section true now before one other = one
either-section false now before one other = other

-- a machine stands nowhere, and whatever it finds, it stands nowhere behind that
find_outside : (mix : ℕ → ℕ → ℕ → ℕ) (env : Env) (port : ℕ) (state : FindAt) → (held_of_find state).section ≡ false
    → (standing_of_find state ≡ stands_nowhere) × ((old : ℕ) → standing_of_find (find.goes mix env port state old) ≡ stands_nowhere)
find_outside mix env port finding.Opening out = (refl, λ old. refl)
find_outside mix env port _ out = absurd (cc)

bind_outside : (mix : ℕ → ℕ → ℕ → ℕ) (env : Env) (port : ℕ) (once : Bool) (state : BindAt) → (held_of_bind state).section ≡ false
    → (standing_of_bind state ≡ stands_nowhere)
    × ((old : ℕ) → standing_of_bind (bind.after_at mix env port once state old).0 ≡ stands_nowhere)
bind_outside mix env port once (binding.Filling new) out =
    (refl, λ old. bind_filled (new_node_after new old).0 (new_node_after new old).1)
bind_outside mix env port once (binding.Opening attempt) out = (refl, λ old. refl)
bind_outside mix env port once (binding.Giving give reply) out = (refl, λ old. refl)
bind_outside mix env port once (binding.Replacing list relink) out =
    absurd (let inside : (held_of_bind (binding.Replacing list relink)).section ≡ true = either-section _ _ _ refl refl in
    let both : true ≡ false = sym inside ∙ out in cc)
bind_outside mix env port once _ out = absurd (cc)

all_outside : (mix : ℕ → ℕ → ℕ → ℕ) (env : Env) (port : ℕ) (room : Kept ℕ) (state : AllAt)
    → (held_of_all room.items state).section ≡ false
    → (standing_of_all state ≡ stands_nowhere)
    × ((old : ℕ) → standing_of_all (all.after_at mix env port state old).0 ≡ stands_nowhere)
all_outside mix env port room listing.Opening out = (refl, λ old. refl)
all_outside mix env port room _ out = absurd (cc)

release_outside : (mix : ℕ → ℕ → ℕ → ℕ) (env : Env) (port owner : ℕ) (state : ReleaseAt) → (held_of_release state).section ≡ false
    → (standing_of_release state ≡ stands_nowhere)
    × ((old : ℕ) → standing_of_release (release.after_at mix env port owner state old).0 ≡ stands_nowhere)
release_outside mix env port owner releasing.Opening out = (refl, λ old. refl)
release_outside mix env port owner (releasing.Promoting found relink) out =
    absurd (let inside : (held_of_release (releasing.Promoting found relink)).section ≡ true = either-section _ _ _ refl refl in
    let both : true ≡ false = sym inside ∙ out in cc)
release_outside mix env port owner (releasing.Unlinking found relink) out =
    absurd (let inside : (held_of_release (releasing.Unlinking found relink)).section ≡ true = either-section _ _ _ refl refl in
    let both : true ≡ false = sym inside ∙ out in cc)
release_outside mix env port owner _ out = absurd (cc)

rebind_outside : (mix : ℕ → ℕ → ℕ → ℕ) (env : Env) (port owner : ℕ) (state : RebindAt) → (held_of_rebind state).section ≡ false
    → (standing_of_rebind state ≡ stands_nowhere)
    × ((old : ℕ) → standing_of_rebind (rebind.after_at mix env port owner state old).0 ≡ stands_nowhere)
rebind_outside mix env port owner (rebinding.Filling new) out =
    (refl, λ old. rebind_filled (new_node_after new old).0 (new_node_after new old).1)
rebind_outside mix env port owner (rebinding.Opening node) out = (refl, λ old. refl)
rebind_outside mix env port owner (rebinding.Giving give) out = (refl, λ old. refl)
rebind_outside mix env port owner (rebinding.Replacing node found relink) out =
    absurd (let inside : (held_of_rebind (rebinding.Replacing node found relink)).section ≡ true = either-section _ _ _ refl refl in
    let both : true ≡ false = sym inside ∙ out in cc)
rebind_outside mix env port owner (rebinding.Unlocking table unlock (ends.Rebound removed)) out = absurd (cc)
rebind_outside mix env port owner (rebinding.Unlocking table unlock (ends.Absent node)) out = absurd (cc)
rebind_outside mix env port owner (rebinding.Closing (ends.Rebound removed)) out = absurd (cc)
rebind_outside mix env port owner (rebinding.Closing (ends.Absent node)) out = absurd (cc)
rebind_outside mix env port owner _ out = absurd (cc)

work_outside : (mix : ℕ → ℕ → ℕ → ℕ) (env : Env) (state : WorkAt) → (held_of_work state).section ≡ false
    → (standing_of_work state ≡ stands_nowhere)
    × ((old : ℕ) → standing_of_work (work.after_at mix env state old).0 ≡ stands_nowhere)
work_outside mix env working.WorkLock out = (refl, λ old. locked-nowhere env.geometry old)
work_outside mix env (working.Returning returns) out =
    (refl, λ old. returned-nowhere (return_tables_after returns old).0 (return_tables_after returns old).1)
work_outside mix env working.Opening out = (refl, λ old. refl)
work_outside mix env (working.Retiring root again) out = (refl, λ old. refl)
work_outside mix env (working.KeepingSections keep again) out =
    (refl, λ old. kept-nowhere (keep_sections_after keep old).0 again (keep_sections_after keep old).1)
work_outside mix env (working.LettingGo outcome) out = (refl, λ old. refl)
work_outside mix env _ out = absurd (cc)

walk_outside : (env : Env) (from : Option Cursor) (limit shown : ℕ) (room : Pairs) (state : WalkAt) → (held_of_walk room state).section ≡ false
    → (standing_of_walk state ≡ stands_nowhere)
    × ((old : ℕ) → standing_of_walk (walk.goes env.geometry from limit shown state old) ≡ stands_nowhere)
walk_outside env from limit shown room walking.Opening out = (refl, λ old. refl)
walk_outside env from limit shown room _ out = absurd (cc)

abbrev IsNowhere : Standing → Type 0
IsNowhere at = at ≡ stands_nowhere

pub record StandsOutside (mix : ℕ → ℕ → ℕ → ℕ) (env : Env) (job : Job) : Type 0 where
  pub before : standing_of job ≡ stands_nowhere
  pub behind : (old : ℕ) → standing_with (told (job_after mix env job old)).0 ≡ stands_nowhere

pub job_outside : (mix : ℕ → ℕ → ℕ → ℕ) (env : Env) (job : Job) → (held_of job).section ≡ false → StandsOutside mix env job
job_outside mix env (finds port state) out =
    let is = find_outside mix env port state out in
    record { before = is.0; behind = λ old. told-stands (finds port) plain_ending IsNowhere _ (is.1 old) refl }
job_outside mix env (binds port owner once state) out =
    let is = bind_outside mix env port once state out in
    record { before = is.0; behind = λ old. told-stands (binds port owner once) plain_ending IsNowhere _ (is.1 old) refl }
job_outside mix env (lists port room state) out =
    let is = all_outside mix env port room state out in
    record {
      before = is.0;
      behind = λ old.
          let after = all.room_after state room old in told-stands (lists port after) (listing_ending after) IsNowhere _ (is.1 old) refl;
    }
job_outside mix env (releases port owner state) out =
    let is = release_outside mix env port owner state out in
    record { before = is.0; behind = λ old. told-stands (releases port owner) node_ending IsNowhere _ (is.1 old) refl }
job_outside mix env (rebinds port owner new state) out =
    let is = rebind_outside mix env port owner state out in
    record { before = is.0; behind = λ old. told-stands (rebinds port owner new) node_ending IsNowhere _ (is.1 old) refl }
job_outside mix env (works state) out =
    let is = work_outside mix env state out in
    record { before = is.0; behind = λ old. told-stands works plain_ending IsNowhere _ (is.1 old) refl }
job_outside mix env (walks from limit room state) out =
    let is = walk_outside env from limit (length room.items) room state out in
    record {
      before = is.0;
      behind = λ old.
          let after = walk.room_after state room old in told-stands (walks from limit after) (walk_ending after) IsNowhere _ (is.1 old) refl;
    }
job_outside mix env (tidies batch state) out =
    record { before = refl; behind = λ old. told-stands tidying plain_ending IsNowhere _ refl refl }
job_outside mix env counts out = record { before = refl; behind = λ old. refl }

-- a call begins nowhere
first-nowhere : (env : Env) (call : Call) (batch : Option BatchModel) (start : ℕ) → IfSome (first_job env batch call start) (λ job. standing_of job ≡ stands_nowhere)
first-nowhere env Tidy batch start = first_tidy-so (λ job. standing_of job ≡ stands_nowhere) batch (λ own. refl)
first-nowhere env _ batch start = refl

pub first_stands : (env : Env) (call : Call) (job : Job) → IsFirstJob env call job → standing_of job ≡ stands_nowhere
first_stands env call job is =
    first-of (λ j. standing_of j ≡ stands_nowhere) env call job (first-nowhere env call) is

-- ---- an operation

module _ (env : Env) (mix : ℕ → ℕ → ℕ → ℕ) (words : List ℕ) (G : Ghost) (whole : Whole env mix (mem env mix words) G) (c : ℕ) where
  -- What a look-up knows. The other calls know what their jobs say.
  abbrev pub KnowsLook : (ℕ → Bool) → ℕ → (ℕ → Reply → Type 0) → Places → Job → Type 0
  KnowsLook seen since Says P (finds port state) = LookMeans env mix port seen since (Says port) (mem env mix words) G P state
  KnowsLook seen since Says P _ = Unit {0}

  abbrev GoesTo : Job → Type 0
  GoesTo job =
      Comes env.geometry words (standing_of job) (standing_with (told (job_after mix env job (old_of words (job_plan env c job)))).0)

  pub job_comes : (seen : ℕ → Bool) (since : ℕ) (Says : ℕ → Reply → Type 0) (P : Places) (job : Job) → JobIn env mix c job
      → JobKnows env mix c job (mem env mix words) G → tied_of env mix G job → KnowsLook seen since Says P job → GoesTo job
  job_comes seen since Says P (finds port state) within knows tied look =
      told-stands (finds port) plain_ending (Comes env.geometry words (standing_of_find state)) _
      (find_comes env mix port seen since (Says port) words G P whole c state within look) (to_nowhere _ _ _)
  job_comes seen since Says P (binds port owner once state) within knows tied look =
      told-stands (binds port owner once) plain_ending (Comes env.geometry words (standing_of_bind state)) _
      (bind_comes env mix port owner words G whole c once state within.at_in knows.knowing.means.table) (to_nowhere _ _ _)
  job_comes seen since Says P (lists port room state) within knows tied look =
      let after = all.room_after state room (old_of words (job_plan env c (lists port room state))) in
      told-stands (lists port after) (listing_ending after) (Comes env.geometry words (standing_of_all state)) _
      (all_comes env mix port 0 words G whole c state within.at_in
      (λ seek is. let known = subst (λ s. JobKnows env mix c (lists port room s) (mem env mix words) G) is knows in
      (None, known.knowing.means.table))) (to_nowhere _ _ _)
  job_comes seen since Says P (releases port owner state) within knows tied look =
      told-stands (releases port owner) node_ending (Comes env.geometry words (standing_of_release state)) _
      (release_comes env mix port owner words G whole c state within
      (λ seek is. let known = subst (λ s. JobKnows env mix c (releases port owner s) (mem env mix words) G) is knows in
      (None, known.knowing.means.table))) (to_nowhere _ _ _)
  job_comes seen since Says P (rebinds port owner new state) within knows tied look =
      told-stands (rebinds port owner new) node_ending (Comes env.geometry words (standing_of_rebind state)) _
      (rebind_comes env mix port owner words G whole c state within.at_in
      (λ node seek is. let known = subst (λ s. JobKnows env mix c (rebinds port owner new s) (mem env mix words) G) is knows in
      (Some (own port owner new node), known.knowing.means.table))) (to_nowhere _ _ _)
  job_comes seen since Says P (works state) within knows tied look =
      told-stands works plain_ending (Comes env.geometry words (standing_of_work state)) _
      (work_comes env mix words G whole c state within knows.knowing.means.work) (to_nowhere _ _ _)
  job_comes seen since Says P (tidies batch state) within knows tied look =
      told-stands tidying plain_ending (Comes env.geometry words stands_nowhere) _ (to_nowhere _ _ _) (to_nowhere _ _ _)
  job_comes seen since Says P (walks from limit room state) within knows tied look =
      let after = walk.room_after state room (old_of words (job_plan env c (walks from limit room state))) in
      told-stands (walks from limit after) (walk_ending after) (Comes env.geometry words (standing_of_walk state)) _
      (walk_comes env mix words G whole from limit (length room.items) c state within tied) (to_nowhere _ _ _)
  job_comes seen since Says P counts within knows tied look = to_nowhere _ _ _
