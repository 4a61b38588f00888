-- A look-up, a walk and a reading of the count only load, but for the caller's own section word. A tidying loads section words, and sets bits
-- of the map of nodes. None of them is ever at the work lock.
use Rattle.std.proofs.lemmas.Bool.{cond_both}
use Rattle.rht_callers.specs.Locals.{turns_section, soft}
use Rattle.std.proofs.Common.{Bool, ◌&&◌, ◌≡◌, ◌≢◌, ℕ, ◌+◌, ◌/◌, ◌<◌, ◌≤◌, List, get_or, [], ◌∷◌, ◌++◌, sym, subst, inl, inr, refl, arith}
use Rattle.rht_words.specs.declared.op.Op.{Op}
use Rattle.rht_words.specs.declared.op.Op.TheVariants.{Load, Store, Exchange, Add, Sub, And, Or}
use Rattle.rht_words.specs.declared.env.Env.{Env}
use Rattle.rht_words.specs.declared.geometry.Geometry.{Geometry}
use Rattle.rht_words.specs.Operations.{op_place}
use Rattle.rht_words.specs.Places.{Section, Slot, SlotWord, Node, NodeWord, KeyWord, ChainLink, OwnerWord, PageWord, ShapeWord, SeedWord, FutureWord, SerialWord, IsBucketPlace, place_of, map_words}
use Rattle.rht_words.proofs.PlacesApart.{parts_in_order}
use Rattle.rht_words.proofs.EachElement.{AllByRecursion-push}
use Rattle.rht_model.specs.declared.history.Call.{Call}
use Rattle.rht_model.specs.Endings.{Ending}
use Rattle.rht_nest.specs.Reach.{ReachModel, reach_plan, reach_plan_at, IsReachIn, IsReachAtIn}
use Rattle.rht_nest.specs.declared.reach.ReachAt.{ReachAt}
use Rattle.rht_nest.specs.declared.reach.ReachAt.TheVariants as reaches
use Rattle.rht_find.specs.Find.{plan_at, IsFindAtIn}
use Rattle.rht_find.specs.declared.find.FindAt.{FindAt}
use Rattle.rht_find.specs.declared.find.FindAt.TheVariants as at
use Rattle.rht_grace.specs.Batch.{BatchModel}
use Rattle.rht_grace.specs.Tidy as tidy
use Rattle.rht_grace.specs.declared.tidy.TidyAt.{TidyAt}
use Rattle.rht_grace.specs.declared.tidy.TidyAt.TheVariants as tidy_at
use Rattle.std.specs.Prelude.{Option, Some, None}
use Rattle.rht_core.specs.declared.book.Book.{Book}
use Rattle.rht_walk.specs.Walk as walk
use Rattle.rht_walk.specs.declared.walk.WalkAt.{WalkAt}
use Rattle.rht_walk.specs.declared.walk.WalkAt.TheVariants as walk_at
use Rattle.rht_core.specs.Jobs.{Job, finds, tidies, walks, counts, call_of, job_after}
use Rattle.rht_core.specs.Lookups.{IsHarmless, IsLockFree, IsHarmlessCall, Harmless}
use Rattle.rht_core.specs.Tidyings.{IsTidyingIn}
use Rattle.rht_core.specs.Traces.{Did}
use Rattle.rht_core.proofs.Events.JobsOfCallers.{each_goes, same_call}
use Rattle.rht_core.proofs.Machines.TidyRanges.{waiting_low}
use Rattle.rht_core.proofs.Tracing.TracedJobs.{hard, Performs, LeadsOn, IsAtJob, jobs_keep}

-- ---- of operations

module _ (g : Geometry) where
  -- it only loads where it is on a bucket's word, and it isn't on the work lock
  record IsHarmlessOp (op : Op) : Type 0 where
    buckets : IsBucketPlace g (op_place op) → op ≡ Load (op_place op)
    work : op_place op ≢ 1

  other_than_one : (place : ℕ) → 8 ≤ place → place ≢ 1
  other_than_one place far same = omega (arith, far, same)

  far_load : (place : ℕ) → 8 ≤ place → IsHarmlessOp (Load place)
  far_load place far = record { buckets = λ there. refl; work = other_than_one place far }

  slot_load : (slot : ℕ) (word : SlotWord) → IsHarmlessOp (Load (place_of g (Slot slot word)))
  slot_load slot word = far_load (place_of g (Slot slot word)) (omega arith)

  node_load : (node : ℕ) (word : NodeWord) → IsHarmlessOp (Load (place_of g (Node node word)))
  node_load node word =
      let order = parts_in_order g in far_load (place_of g (Node node word)) (omega (arith, order.nodes, order.page_map))

  bucket_load : (place : ℕ) → IsBucketPlace g place → IsHarmlessOp (Load place)
  bucket_load place there =
      let order = parts_in_order g in
      let low = there.0 in
      far_load place (omega (arith, low, order.pages, order.nodes, order.page_map))

  section_turn : (caller : ℕ) → caller < 16 → IsHarmlessOp (Add (place_of g (Section caller)) 1)
  section_turn caller few = record {
    buckets = λ there.
        let order = parts_in_order g in
        let low = there.0 in
        absurd (omega (arith, few, low, order.pages, order.nodes, order.page_map));
    work = other_than_one (8 + caller) (omega arith);
  }

  -- the words of the map of nodes lie before the page map
  node_given : (node : ℕ) → node < g.nodes → IsHarmlessOp (tidy.give_of g node)
  node_given node there = record {
    buckets = λ bucket.
        let order = parts_in_order g in
        let before : node / 64 < map_words g.nodes = omega (arith, there) in
        let low = bucket.0 in
        absurd (omega (arith, before, low, order.pages, order.nodes, order.page_map));
    work = other_than_one (280 + node / 64) (omega arith);
  }

  reach_at : (table : ℕ) (state : ReachAt) → IsReachAtIn g state → IsHarmlessOp (reach_plan_at g table state)
  reach_at table reaches.Shape within = slot_load table ShapeWord
  reach_at table (reaches.Seed shape) within = slot_load table SeedWord
  reach_at table (reaches.Entry place) within =
      subst (λ (h : Geometry). IsHarmlessOp (Load (place_of h (PageWord place.entry)))) (sym within.geometry_same)
      (let order = parts_in_order g in
      far_load (place_of g (PageWord place.entry)) (omega (arith, order.pages, order.nodes, order.page_map)))

  reach_load : (m : ReachModel) → IsReachIn g m → IsHarmlessOp (reach_plan m)
  reach_load m within =
      subst (λ (h : Geometry). IsHarmlessOp (reach_plan_at h m.table m.at)) (sym within.geometry_same)
      (reach_at m.table m.at within.at_in)

find_harmless : (env : Env) (caller : ℕ) (state : FindAt) → caller < 16 → IsFindAtIn env state
    → IsHarmlessOp env.geometry (plan_at env caller state)
find_harmless env caller at.Opening few within = section_turn env.geometry caller few
find_harmless env caller at.CurrentTable few within = record { buckets = λ there. refl; work = λ same. absurd (cc) }
find_harmless env caller (at.Locating reach) few within = reach_load env.geometry reach within
find_harmless env caller (at.Heading head) few within = bucket_load env.geometry head.place within.place_in
find_harmless env caller (at.Key head node visited) few within = node_load env.geometry node KeyWord
find_harmless env caller (at.Link head node visited) few within = node_load env.geometry node ChainLink
find_harmless env caller (at.Future table) few within = slot_load env.geometry table FutureWord
find_harmless env caller (at.Owner node) few within = node_load env.geometry node OwnerWord
find_harmless env caller (at.Closing reply) few within = section_turn env.geometry caller few

-- a walk, in whatever state
walk_harmless : (g : Geometry) (caller : ℕ) (state : WalkAt) → caller < 16 → walk.IsWalkAtIn g state → IsHarmlessOp g (walk.plan_at g caller state)
walk_harmless g caller walk_at.Opening few within = section_turn g caller few
walk_harmless g caller walk_at.CurrentTable few within = record { buckets = λ there. refl; work = λ same. absurd (cc) }
walk_harmless g caller (walk_at.Serial table) few within = slot_load g table SerialWord
walk_harmless g caller (walk_at.Shape table serial) few within = slot_load g table ShapeWord
walk_harmless g caller (walk_at.Entry visit way) few within =
    subst (λ (h : Geometry). IsHarmlessOp g (Load (place_of h (PageWord way.entry)))) (sym within.way_in.geometry_same)
    (let order = parts_in_order g in
    far_load g (place_of g (PageWord way.entry)) (omega (arith, order.pages, order.nodes, order.page_map)))
walk_harmless g caller (walk_at.Heading visit place) few within = bucket_load g place within.place_in
walk_harmless g caller (walk_at.Key chain node) few within = node_load g node KeyWord
walk_harmless g caller (walk_at.Owner chain node port) few within = node_load g node OwnerWord
walk_harmless g caller (walk_at.Link chain node) few within = node_load g node ChainLink
walk_harmless g caller (walk_at.StrangeEnd visit) few within = slot_load g visit.table FutureWord
walk_harmless g caller (walk_at.TableEnd table) few within = slot_load g table FutureWord
walk_harmless g caller (walk_at.Closing end) few within = section_turn g caller few

-- a tidying, in whatever state
tidy_harmless : (env : Env) (batch : BatchModel) (state : TidyAt) → IsTidyingIn env.geometry batch state
    → IsHarmlessOp env.geometry (tidy.plan_at env.geometry batch state)
tidy_harmless env batch (tidy_at.Keeping caller) within = far_load env.geometry (8 + caller) (omega arith)
tidy_harmless env batch (tidy_at.Asking caller) within = far_load env.geometry (8 + caller) (omega arith)
tidy_harmless env batch (tidy_at.Giving index) within =
    node_given env.geometry (get_or batch.waiting index 0) (waiting_low env.geometry batch (tidy_at.Giving index) index within)

-- one that loads a section word in its place is so too
soft-harmless : (g : Geometry) (over : Bool) (op : Op) → IsHarmlessOp g op → IsHarmlessOp g (soft over op)
soft-harmless g over (Load place) harmless = harmless
soft-harmless g over (Store place value) harmless = harmless
soft-harmless g over (Exchange place old new) harmless = harmless
soft-harmless g over (Sub place by) harmless = harmless
soft-harmless g over (And place mask) harmless = harmless
soft-harmless g over (Or place mask) harmless = harmless
soft-harmless g over (Add place by) harmless =
    cond_both (turns_section place by && over) _ _ (IsHarmlessOp g)
    (λ t. record { buckets = λ there. refl; work = λ same. harmless.work same }) (λ f. harmless)

-- ---- of calls

module _ (mix : ℕ → ℕ → ℕ → ℕ) (env : Env) where
  by_op : (did : Did) (op : Op) → did.op ≡ op → IsHarmlessOp env.geometry op → IsHarmless env.geometry did
  by_op did op is harmless =
      let here = subst (IsHarmlessOp env.geometry) (sym is) harmless in record { buckets = here.buckets; work = here.work }

  job_harmless : (job : Job) (did : Did) → Performs mix env job did → IsLockFree (call_of job) → IsHarmless env.geometry did
  job_harmless (finds port state) did performs reads =
      by_op did _ performs.planned
      (soft-harmless env.geometry performs.over (plan_at env performs.caller state) (find_harmless env performs.caller state performs.few performs.within))
  job_harmless counts did performs reads =
      by_op did _ performs.planned (record { buckets = λ there. refl; work = λ same. absurd (omega (arith, same)) })
  job_harmless (tidies batch state) did performs reads =
      by_op did (tidy.plan_at env.geometry batch state) (hard mix env refl performs) (tidy_harmless env batch state performs.within)
  job_harmless (walks from limit room state) did performs reads =
      by_op did _ performs.planned
      (soft-harmless env.geometry performs.over (walk.plan_at env.geometry performs.caller state)
      (walk_harmless env.geometry performs.caller state performs.few performs.within))
  job_harmless _ did performs (inl reads) = absurd (let same = reads.1 in cc)
  job_harmless _ did performs (inr (inl reads)) = absurd (cc)
  job_harmless _ did performs (inr (inr (inl reads))) = absurd (cc)
  job_harmless _ did performs (inr (inr (inr reads))) = absurd (let same = reads.2 in cc)

  -- so far each operation was so, and where the call has ended each was
  abbrev Now : Job → List Did → Type 0
  Now job steps = IsHarmlessCall env (call_of job) steps

  abbrev Ended : Call → Ending → List Did → Type 0
  Ended call ending steps = IsHarmlessCall env call steps

  leads : (L : Type 0) (job : Job) (steps : List Did) (did : Did) → Performs mix env job did → Now job steps
      → LeadsOn L mix env Now Ended job (steps ++ did ∷ []) (job_after mix env job did.old)
  leads L job steps did performs now =
      let all = steps ++ did ∷ [] in
      let more : IsHarmlessCall env (call_of job) all =
      λ reads. AllByRecursion-push (IsHarmless env.geometry) steps did (now reads) (job_harmless job did performs reads) in
      each_goes (λ after. Now after all) (λ ending. Ended (call_of job) ending all) (call_of job) (job_after mix env job did.old)
      (same_call mix env job did.old) (λ after same. subst (λ call. IsHarmlessCall env call all) (sym same) more) (λ ending. more)

module _ (L : Type 0) (mix : ℕ → ℕ → ℕ → ℕ) (env : Env) where
  -- of the call in progress, by its job
  now_harmless : (job : Option Job) (call : Call) (book : Book) (steps : List Did) → IsAtJob L mix env (Now mix env) (Ended mix env) job book steps
      → book.call ≡ Some call → IsHarmlessCall env call steps
  now_harmless None call book steps at_job asked = absurd (let none = at_job.call in cc)
  now_harmless (Some job) call book steps at_job asked =
      let same : call_of job ≡ call = (let is = at_job.call in cc) in
      subst (λ c. IsHarmlessCall env c steps) same at_job.now

pub harmless : (L : Type 0) (mix : ℕ → ℕ → ℕ → ℕ) → Harmless L mix
harmless L mix env events c admitted =
    let kept = jobs_keep L mix env (Now mix env) (Ended mix env)
    (record { begins = λ call job is reads. tt; goes = leads mix env L }) events c admitted in
    record {
      past = kept.past;
      now = λ call asked. now_harmless L mix env _ call _ _ kept.now asked;
    }
