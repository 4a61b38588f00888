-- In every run the operations of a walk are those of its machine that finds the words which they found. So what is shown of the machine,
-- whatever it finds, is so of them: a walk that has ended has done what it answers, and a walk makes few operations.
use Rattle.std.proofs.Common.{◌≡◌, ℕ, ◌+◌, ◌≤◌, Bool, true, false, ◌++◌, ◌∷◌, List, [], length, length-append, map, Option, Some, None, refl, sym, ap, ◌∙◌, subst, append_assoc, arith}
use Rattle.std.specs.Prelude.{IfSome, slice_index}
use Rattle.std.specs.List.{AllByRecursion}
use Rattle.std.proofs.lemmas.List.{append-nil, length-map, map-append}
use Rattle.rht_words.specs.declared.env.Env.{Env}
use Rattle.rht_words.specs.declared.machine.Next.{Next}
use Rattle.rht_words.specs.declared.machine.Next.TheVariants.{Go, Done}
use Rattle.rht_words.specs.Machines.{Performed, Ran, ran, went_on}
use Rattle.rht_words.specs.Shapes.{unpacked, size_of}
use Rattle.rht_words.proofs.EachElement.{AllByRecursion-weaker}
use Rattle.rht_model.specs.declared.history.Call.{Call}
use Rattle.rht_model.specs.declared.history.Call.TheVariants.{Walk, Tidy}
use Rattle.rht_model.specs.declared.history.Cursor.{Cursor}
use Rattle.rht_model.specs.declared.history.Reply.{Reply}
use Rattle.rht_model.specs.Endings.{Ending, ending_in}
use Rattle.rht_grace.specs.Batch.{BatchModel}
use Rattle.rht_walk.specs.Walk as walk
use Rattle.rht_walk.specs.Walk.{Pairs, WalkModel, walk_plan, walk_after}
use Rattle.rht_walk.specs.WalkLaws.{Shown, EndsRightly, with_room, walk_ran, walk_bound}
use Rattle.rht_walk.specs.declared.walk.WalkAt.{WalkAt}
use Rattle.rht_walk.proofs.WalkAnswers.{walks_rightly}
use Rattle.rht_walk.proofs.WalkBounds.{walks_soon as soon_enough}
use Rattle.rht_callers.specs.Locals.{room_for_nodes}
use Rattle.rht_core.specs.declared.book.Book.{Book}
use Rattle.rht_core.specs.declared.event.Event.{Event}
use Rattle.rht_core.specs.Jobs.{Job, walks, walk_ending, walk_gone, call_of, first_job, job_next, job_after}
use Rattle.rht_core.specs.Lookups.{shape_found, IsShortWalk, WalksSoon}
use Rattle.rht_core.specs.Runs.{IsAdmitted}
use Rattle.rht_core.specs.Traces.{Did, Past, performed_of, traced_of}
use Rattle.rht_core.specs.WalkCauses.{SawForWalk}
use Rattle.rht_core.proofs.Events.JobsOfCallers.{first_tidy-so, each_goes, same_call, first-of}
use Rattle.rht_core.proofs.Tracing.TracedJobs.{hard_rests, Performs, LeadsOn, IsAtJob, jobs_keep_own}

abbrev with_steps : List Performed → Next Shown → Ran Shown
with_steps steps next = record { steps = steps; next = next }

-- operations, and then a run
abbrev further : List Performed → Ran Shown → Ran Shown
further steps rest = record { steps = steps ++ rest.steps; next = rest.next }

-- a part of so many operations is no longer than all of them
fewer : (made both rest ran most : ℕ) → ran ≡ both → both ≡ made + rest → ran ≤ most → made ≤ most
fewer made both rest ran most long split few = omega (arith, long, split, few)

abbrev words_of : List Did → List ℕ
words_of steps = map (λ (did : Did). did.old) steps

module _ (env : Env) (c : ℕ) (from : Option Cursor) (limit : ℕ) where
  abbrev walk_at : Pairs → WalkAt → WalkModel
  walk_at room state = record { env = env; caller = c; from = from; limit = limit; room = room; at = state }

  -- the run of the machine from this state on, with these pairs kept; or it has ended
  abbrev goes_on : Pairs → WalkAt × Next Reply → List ℕ → Ran Shown
  goes_on room (state, Go) olds = ran walk_plan (λ m word. with_room (walk_after m word)) (walk_at room state) olds
  goes_on room (state, Done reply) olds = record { steps = []; next = Done (record { reply = reply; room = room }) }

  -- the walk that finds the words which these operations found has made them, and goes on so
  abbrev RunsOn : List Did → Pairs → WalkAt × Next Reply → Type 0
  RunsOn steps room next =
      (olds : List ℕ) → walk_ran env c from limit (room_for_nodes env) (words_of steps ++ olds)
      ≡ further (map performed_of steps) (goes_on room next olds)

  -- an operation of the machine, and what it goes on with
  by_step : (step : Performed) (room : Pairs) (next : WalkAt × Next Reply) (olds : List ℕ)
      → let came = with_room (walk_at room next.0, next.1) in
      went_on step came.1 (ran walk_plan (λ m word. with_room (walk_after m word)) came.0 olds)
      ≡ further (step ∷ []) (goes_on room next olds)
  by_step step room (state, Go) olds = refl
  by_step step room (state, Done reply) olds = refl

  -- one operation further
  runs_on : (room : Pairs) (state : WalkAt) (steps : List Did) (did : Did) → did.op ≡ walk.plan_at env.geometry c state
      → RunsOn steps room (state, Go)
      → let after = walk.room_after state room did.old in
      RunsOn (steps ++ did ∷ []) after (walk_gone env from limit room after state did.old)
  runs_on room state steps did is runs olds =
      let after = walk.room_after state room did.old in
      let next = walk_gone env from limit room after state did.old in
      let step : Performed = record { op = walk.plan_at env.geometry c state; old = did.old } in
      let before = map performed_of steps in
      let all = map performed_of (steps ++ did ∷ []) in
      let words : words_of (steps ++ did ∷ []) ++ olds ≡ words_of steps ++ did.old ∷ olds =
      ap (λ xs. xs ++ olds) (map-append (λ (d : Did). d.old) steps (did ∷ [])) ∙ append_assoc (words_of steps) (did.old ∷ []) olds in
      let made : before ++ step ∷ [] ≡ all =
      ap (λ op. before ++ record { op = op; old = did.old } ∷ []) (sym is) ∙ sym (map-append performed_of steps (did ∷ [])) in
      let rest = goes_on after next olds in
      ap (walk_ran env c from limit (room_for_nodes env)) words ∙ runs (did.old ∷ olds)
      ∙ ap (further before) (by_step step after next olds)
      ∙ ap (λ steps. with_steps steps rest.next) (sym (append_assoc before (step ∷ []) rest.steps) ∙ ap (λ xs. xs ++ rest.steps) made)

  -- ---- what is shown of the machine is so of these operations

  module _ (steps : List Did) (room : Pairs) where
    abbrev found : List ℕ
    found = words_of steps ++ []

    ends_rightly : (state : WalkAt) (reply : Reply) → RunsOn steps room (state, Done reply)
        → SawForWalk env c from limit reply room.items steps
    ends_rightly state reply runs =
        let end : Shown = record { reply = reply; room = room } in
        let is = runs [] in
        let rightly : EndsRightly env.geometry c from limit env.geometry.nodes end (map performed_of steps) =
        subst (EndsRightly env.geometry c from limit env.geometry.nodes end)
        (ap (λ (r : Ran Shown). r.steps) is ∙ append-nil (map performed_of steps))
        (walks_rightly env c from limit (room_for_nodes env) found end (ap (λ (r : Ran Shown). r.next) is)) in
        subst (λ (most : ℕ). EndsRightly env.geometry c from limit env.geometry.nodes
        (record { reply = reply; room = record { items = room.items; limit = most } }) (map performed_of steps)) rightly.room rightly

    is_soon : (next : WalkAt × Next Reply) → RunsOn steps room next
        → length steps ≤ walk_bound env.geometry (size_of (unpacked (shape_found steps)))
    is_soon next runs =
        let ran_all : Ran Shown = walk_ran env c from limit (room_for_nodes env) found in
        let rest = (goes_on room next []).steps in
        let most = walk_bound env.geometry (size_of (unpacked (shape_found steps))) in
        let bound = ap (λ olds. walk_bound env.geometry (size_of (unpacked (slice_index olds 3)))) (append-nil (words_of steps)) in
        let few : length ran_all.steps ≤ most =
        subst (λ (n : ℕ). length ran_all.steps ≤ n) bound (soon_enough env c from limit (room_for_nodes env) found).few in
        fewer (length steps) (length (map performed_of steps ++ rest)) (length rest) (length ran_all.steps) most
        (ap (λ (r : Ran Shown). length r.steps) (runs []))
        (length-append (map performed_of steps) rest ∙ ap (λ (n : ℕ). n + length rest) (length-map steps performed_of)) few

-- ---- what is kept of calls

module _ (mix : ℕ → ℕ → ℕ → ℕ) (env : Env) (c : ℕ) where
  abbrev Now : Job → List Did → Type 0
  Now (walks from limit room state) steps = RunsOn env c from limit steps room (state, Go)
  Now _ steps = Unit {0}

  -- a walk that has ended has done what it answers, and soon
  record WalkedSo (from : Option Cursor) (limit : ℕ) (ending : Ending) (steps : List Did) : Type 0 where
    saw : SawForWalk env c from limit ending.answer.reply ending.pairs steps
    soon : length steps ≤ walk_bound env.geometry (size_of (unpacked (shape_found steps)))

  abbrev Ended : Call → Ending → List Did → Type 0
  Ended (Walk from limit) ending steps = WalkedSo from limit ending steps
  Ended _ ending steps = Unit {0}

  abbrev is_walk : Call → Bool
  is_walk (Walk from limit) = true
  is_walk _ = false

  other-now : (job : Job) (steps : List Did) → is_walk (call_of job) ≡ false → Now job steps
  other-now (walks from limit room state) steps other = absurd (cc)
  other-now _ steps other = tt

  other-ended : (call : Call) (ending : Ending) (steps : List Did) → is_walk call ≡ false → Ended call ending steps
  other-ended (Walk from limit) ending steps other = absurd (cc)
  other-ended _ ending steps other = tt

  first-now : (call : Call) (batch : Option BatchModel) (start : ℕ) → IfSome (first_job env batch call start) (λ job. Now job [])
  first-now (Walk from limit) batch start = λ olds. refl
  first-now Tidy batch start = first_tidy-so (λ job. Now job []) batch (λ own. tt)
  first-now _ batch start = tt

  leads : (L : Type 0) (job : Job) (steps : List Did) (did : Did) (performs : Performs mix env job did) → performs.over ≡ false → performs.caller ≡ c
      → Now job steps → LeadsOn L mix env Now Ended job (steps ++ did ∷ []) (job_after mix env job did.old)
  leads L (walks from limit room state) steps did performs rests own now =
      let after = walk.room_after state room did.old in
      go after (walk_gone env from limit room after state did.old)
      (runs_on env c from limit room state steps did (hard_rests mix env performs rests ∙ ap (λ caller. walk.plan_at env.geometry caller state) own) now)
    where
      go : (after : Pairs) (next : WalkAt × Next Reply) → RunsOn env c from limit (steps ++ did ∷ []) after next
          → LeadsOn L mix env Now Ended (walks from limit room state) (steps ++ did ∷ []) (job_next (walks from limit after) (walk_ending after) next)
      go after (next, Go) runs = runs
      go after (next, Done reply) runs = record {
        saw = ends_rightly env c from limit (steps ++ did ∷ []) after next reply runs;
        soon = is_soon env c from limit (steps ++ did ∷ []) after (next, Done reply) runs;
      }
  leads L job steps did performs rests own now =
      let all = steps ++ did ∷ [] in
      each_goes (λ after. Now after all) (λ ending. Ended (call_of job) ending all) (call_of job) (job_after mix env job did.old)
      (same_call mix env job did.old) (λ after same. other-now after all (ap is_walk same))
      (λ ending. other-ended (call_of job) ending all refl)

  -- of the call in progress
  now_soon : (L : Type 0) (job : Option Job) (call : Call) (book : Book) (steps : List Did) → IsAtJob L mix env Now Ended job book steps
      → book.call ≡ Some call → IsShortWalk env call steps
  now_soon L None call book steps at_job asked from limit same = absurd (let none = at_job.call in cc)
  now_soon L (Some (walks start most room state)) call book steps at_job asked from limit same =
      is_soon env c start most steps room (state, Go) at_job.now
  now_soon L (Some _) call book steps at_job asked from limit same = absurd (let is = at_job.call in cc)

  -- ---- a walk of this caller that has ended

  abbrev EndedSo : Past → Type 0
  EndedSo past = Ended past.done.call (ending_in past.done) past.steps

  past_so : (past : Past) → EndedSo past → (from : Option Cursor) (limit : ℕ) → past.done.call ≡ Walk from limit
      → WalkedSo from limit (ending_in past.done) past.steps
  past_so past ended from limit same = subst (λ call. Ended call (ending_in past.done) past.steps) same ended

abbrev pub HasWalked : Env → ℕ → Past → Type 0
HasWalked env c past =
    (from : Option Cursor) (limit : ℕ) → past.done.call ≡ Walk from limit
    → SawForWalk env c from limit past.done.reply past.done.pairs past.steps

pub walked : (L : Type 0) (mix : ℕ → ℕ → ℕ → ℕ) (env : Env) (events : List Event) (c : ℕ) → IsAdmitted events
    → AllByRecursion (HasWalked env c) ((traced_of {M = L} mix env events).traces c).past
walked L mix env events c admitted =
    AllByRecursion-weaker (EndedSo mix env c) (HasWalked env c)
    (λ past ended from limit same. (past_so mix env c past ended from limit same).saw) _
    (jobs_keep_own L mix env (Now mix env c) (Ended mix env c) events c
    (record {
      begins = λ call job is. first-of (λ j. Now mix env c j []) env call job (first-now mix env c call) is;
      goes = λ job steps did performs own stands now. leads mix env c L job steps did performs stands.rests own now;
    }) admitted).past

pub walks_soon : (L : Type 0) (mix : ℕ → ℕ → ℕ → ℕ) → WalksSoon L mix
walks_soon L mix env events c admitted =
    let kept = jobs_keep_own L mix env (Now mix env c) (Ended mix env c) events c
    (record {
      begins = λ call job is. first-of (λ j. Now mix env c j []) env call job (first-now mix env c call) is;
      goes = λ job steps did performs own stands now. leads mix env c L job steps did performs stands.rests own now;
    }) admitted in
    record {
      past =
          AllByRecursion-weaker (EndedSo mix env c) (λ past. IsShortWalk env past.done.call past.steps)
          (λ past ended from limit same. (past_so mix env c past ended from limit same).soon) _ kept.past;
      now = λ call asked. now_soon mix env c L _ call _ _ kept.now asked;
    }
