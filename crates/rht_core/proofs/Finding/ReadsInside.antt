-- A look-up opens its caller's read section with its first operation, and closes it with its last one; all others load words.
use Rattle.std.proofs.Common.{◌≡◌, ℕ, Bool, true, false, List, [], ◌∷◌, ◌++◌, Option, Some, None, refl, sym, ◌∙◌, ap, subst, inl, inr}
use Rattle.rht_words.specs.declared.op.Op.TheVariants.{Load}
use Rattle.rht_words.specs.declared.env.Env.{Env}
use Rattle.rht_words.specs.declared.geometry.Geometry.{Geometry}
use Rattle.rht_words.specs.declared.machine.Next.TheVariants.{Go}
use Rattle.rht_words.specs.Operations.{op_place}
use Rattle.rht_words.proofs.EachElement.{AllByRecursion-push}
use Rattle.rht_model.specs.declared.history.Call.{Call}
use Rattle.rht_model.specs.declared.history.Call.TheVariants.{Find, Walk, Tidy}
use Rattle.rht_model.specs.Endings.{Ending, plain_ending}
use Rattle.rht_nest.specs.Reach.{ReachModel, reach_plan}
use Rattle.rht_nest.specs.declared.reach.ReachAt.{ReachAt}
use Rattle.rht_nest.specs.declared.reach.ReachAt.TheVariants as reaches
use Rattle.rht_find.specs.Find.{plan_at, goes, says}
use Rattle.rht_find.specs.FindHeld.{held_of_find}
use Rattle.rht_find.specs.declared.find.FindAt.{FindAt}
use Rattle.rht_find.specs.declared.find.FindAt.TheVariants as at
use Rattle.rht_find.proofs.FindSteps.{stays_open}
use Rattle.rht_core.specs.declared.book.Book.{Book}
use Rattle.rht_grace.specs.Batch.{BatchModel}
use Rattle.rht_core.specs.Jobs.{Job, finds, call_of, first_job, job_next, job_after}
use Rattle.rht_core.specs.Lookups.{IsLoad, IsReading, HasRead, ReadsInside}
use Rattle.rht_core.specs.Traces.{Did}
use Rattle.std.specs.Prelude.{IfSome, ◌⊎◌}
use Rattle.rht_core.proofs.Events.JobsOfCallers.{first_tidy-so, each_goes, same_call, first-of}
use Rattle.rht_core.proofs.Tracing.TracedJobs.{hard_rests, Performs, LeadsOn, IsAtJob, jobs_keep_own}

-- its operation loads a word, where its section is open and it isn't about to close it
reach_loads : (m : ReachModel) → reach_plan m ≡ Load (op_place (reach_plan m))
reach_loads m = go m.at
  where
    go : (state : ReachAt) → let op = reach_plan (record m { at = state }) in op ≡ Load (op_place op)
    go reaches.Shape = refl
    go (reaches.Seed shape) = refl
    go (reaches.Entry place) = refl

loads_open : (env : Env) (caller : ℕ) (state : FindAt) → (held_of_find state).section ≡ true → says state ≡ Go
    → plan_at env caller state ≡ Load (op_place (plan_at env caller state))
loads_open env caller at.Opening within goes_on = absurd (cc)
loads_open env caller (at.Locating reach) within goes_on = reach_loads reach
loads_open env caller (at.Closing reply) within goes_on = absurd (cc)
loads_open env caller _ within goes_on = refl

module _ (mix : ℕ → ℕ → ℕ → ℕ) (env : Env) (c : ℕ) where
  abbrev g : Geometry
  g = env.geometry

  -- it has made no operation while its section isn't open, and reads once it is
  abbrev SoFar : Bool → List Did → Type 0
  SoFar false steps = steps ≡ []
  SoFar true steps = IsReading g c steps

  abbrev Now : Job → List Did → Type 0
  Now (finds port state) steps = SoFar (held_of_find state).section steps
  Now _ steps = Unit {0}

  abbrev Ended : Call → Ending → List Did → Type 0
  Ended call ending steps = (port : ℕ) → call ≡ Find port → HasRead g c steps

  -- ---- a look-up

  one_more : (steps : List Did) (did : Did) → IsReading g c steps → IsLoad did → IsReading g c (steps ++ did ∷ [])
  one_more steps did reading loads = record {
    opening = reading.opening;
    loads = reading.loads ++ did ∷ [];
    split = ap (λ all. all ++ did ∷ []) reading.split;
    opens = reading.opens;
    only = AllByRecursion-push IsLoad reading.loads did reading.only loads;
  }

  find_leads : (L : Type 0) (port : ℕ) (state : FindAt) (steps : List Did) (did : Did) → did.op ≡ plan_at env c state
      → Now (finds port state) steps
      → LeadsOn L mix env Now Ended (finds port state) (steps ++ did ∷ [])
      (job_next (finds port) plain_ending (goes mix env port state did.old, says state))
  find_leads L port at.Opening steps did planned none = record {
    opening = did;
    loads = [];
    split = ap (λ all. all ++ did ∷ []) none;
    opens = planned;
    only = tt;
  }
  find_leads L port (at.Closing reply) steps did planned reading = λ asked same. record {
    opening = reading.opening;
    loads = reading.loads;
    closing = did;
    split = ap (λ all. all ++ did ∷ []) reading.split;
    opens = reading.opens;
    only = reading.only;
    closes = planned;
  }
  find_leads L port state steps did planned reading =
      subst (λ inside. SoFar inside (steps ++ did ∷ [])) (sym (stays_open mix env port state did.old))
      (one_more steps did reading
      (planned ∙ loads_open env c state refl refl ∙ ap (λ op. Load (op_place op)) (sym planned)))

  -- ---- jobs

  abbrev is_look : Call → Bool
  is_look (Find port) = true
  is_look _ = false

  other-now : (job : Job) (steps : List Did) → is_look (call_of job) ≡ false → Now job steps
  other-now (finds port state) steps other = absurd (cc)
  other-now _ steps other = tt

  other-ended : (call : Call) (ending : Ending) (steps : List Did) → is_look call ≡ false → Ended call ending steps
  other-ended call ending steps other = λ port same. absurd (let both : false ≡ true = sym other ∙ ap is_look same in cc)

  first-now : (call : Call) (batch : Option BatchModel) (start : ℕ) → IfSome (first_job env batch call start) (λ job. Now job [])
  first-now (Find port) batch start = refl
  first-now (Walk from limit) batch start = tt
  first-now Tidy batch start = first_tidy-so (λ job. Now job []) batch (λ own. tt)
  first-now _ batch start = tt

  leads : (L : Type 0) (job : Job) (steps : List Did) (did : Did) (performs : Performs mix env job did) → performs.over ≡ false → performs.caller ≡ c
      → Now job steps → LeadsOn L mix env Now Ended job (steps ++ did ∷ []) (job_after mix env job did.old)
  leads L (finds port state) steps did performs rests own now =
      find_leads L port state steps did (hard_rests mix env performs rests ∙ ap (λ caller. plan_at env caller state) own) now
  leads L job steps did performs rests own now =
      let all = steps ++ did ∷ [] in
      each_goes (λ after. Now after all) (λ ending. Ended (call_of job) ending all) (call_of job) (job_after mix env job did.old)
      (same_call mix env job did.old) (λ after same. other-now after all (ap is_look same))
      (λ ending. other-ended (call_of job) ending all refl)

  -- ---- the call in progress

  so_far : (inside : Bool) (steps : List Did) → SoFar inside steps → (steps ≡ []) ⊎ IsReading g c steps
  so_far false steps none = inl none
  so_far true steps reading = inr reading

  now_reads : (L : Type 0) (job : Option Job) (port : ℕ) (book : Book) (steps : List Did) → IsAtJob L mix env Now Ended job book steps
      → book.call ≡ Some (Find port) → (steps ≡ []) ⊎ IsReading g c steps
  now_reads L None port book steps at_job asked = absurd (let none = at_job.call in cc)
  now_reads L (Some (finds other state)) port book steps at_job asked = so_far (held_of_find state).section steps at_job.now
  now_reads L (Some _) port book steps at_job asked = absurd (let same = at_job.call in cc)

pub reads_inside : (L : Type 0) (mix : ℕ → ℕ → ℕ → ℕ) → ReadsInside L mix
reads_inside L mix env events c admitted =
    let kept = jobs_keep_own L mix env (Now mix env c) (Ended mix env c) events c
    (record {
      begins = λ call job is. first-of (λ j. Now mix env c j []) env call job (first-now mix env c call) is;
      goes = λ job steps did performs own stands now. leads mix env c L job steps did performs stands.rests own now;
    }) admitted in
    record {
      past = kept.past;
      now = λ port asked. now_reads mix env c L _ port _ _ kept.now asked;
    }
