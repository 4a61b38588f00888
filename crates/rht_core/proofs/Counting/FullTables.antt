-- Whoever loads the count of ports finds no less than the ports bound there, and no more than these and
-- the other callers in mid-call.
--
-- The count is the nodes in chains, and the callers that have raised it for a node that they haven't
-- linked yet or have still to lower it for one that they have taken out. Such a caller stands before
-- its publishing store, or before its lowering: so it is in a call, and it isn't the one that loads.
use Rattle.rht_core.proofs.Machines.HeldSteps.{MayHold, soft-none}
use Rattle.rht_callers.specs.Locals.{soft}
use Rattle.std.proofs.Common.{◌≡◌, ◌≢◌, ℕ, zero, suc, ◌≤◌, ◌==◌, ◌&&◌, not, Bool, true, false, List, [], ◌∷◌, take, refl, sym, ap, ◌∙◌, arith}
use Rattle.std.specs.Prelude.{Option, Some, None}
use Rattle.std.specs.List.{AllByRecursion}
use Rattle.std.proofs.lemmas.Bool.{and_from, ne_eqb}
use Rattle.rht_words.specs.declared.op.Op.TheVariants.{Load}
use Rattle.rht_words.specs.declared.env.Env.{Env}
use Rattle.rht_words.specs.Operations.{old_of}
use Rattle.rht_words.specs.Places.{PortCount, place_of}
use Rattle.rht_words.proofs.Memory.{Memory}
use Rattle.rht_words.proofs.Members.{count_below, count_below-le, count_by-range}
use Rattle.rht_chain.specs.Relink.{RelinkModel, relink_plan_at, has_relinked}
use Rattle.rht_chain.specs.declared.relink.RelinkAt.{RelinkAt}
use Rattle.rht_chain.specs.declared.relink.RelinkAt.TheVariants as relinks
use Rattle.rht_bind.specs.Bind.{plan_at}
use Rattle.rht_bind.specs.BindHeld.{held_of_bind, holds_replacing}
use Rattle.rht_bind.specs.declared.bind.Claimed.{Claimed}
use Rattle.rht_bind.specs.declared.bind.BindAt.{BindAt}
use Rattle.rht_bind.specs.declared.bind.BindAt.TheVariants as at
use Rattle.rht_core.specs.declared.event.Event.{Event}
use Rattle.rht_callers.specs.Locals.{is_idle}
use Rattle.rht_core.specs.Runs.{Core, local_of, planned_in, run_of, IsAdmitted, IsAdmittedEvent}
use Rattle.rht_core.specs.Jobs.{Job, binds, releases, job_of, job_plan, held_of}
use Rattle.rht_release.specs.declared.found_port.FoundPort.{FoundPort}
use Rattle.rht_release.specs.Release.{plan_at as release_plan_at}
use Rattle.rht_release.specs.ReleaseHeld.{held_of_release, holds_relinking}
use Rattle.rht_release.specs.declared.release.ReleaseAt.{ReleaseAt}
use Rattle.rht_release.specs.declared.release.ReleaseAt.TheVariants as release_at
use Rattle.rht_core.specs.Traces.{Did}
use Rattle.rht_core.specs.Laws.{IsRecorded}
use Rattle.rht_core.specs.Seen.{others_in_call, CountedAt}
use Rattle.rht_core.proofs.Counting.RaisingCallers.{raised_by}
use Rattle.rht_core.proofs.Events.JobsOfCallers.{is_no_job, nothing-job}
use Rattle.rht_ghost.proofs.Theory.Ghosts.{Ghost}
use Rattle.rht_ghost.proofs.Theory.Wholes.{firsts, raisers}
use Rattle.rht_ghost.proofs.Theory.Steps.{mem}
use Rattle.rht_core.proofs.Events.Invariants.{Knows, step_of}
use Rattle.rht_core.proofs.Events.InvariantRuns.{has_inv}
use Rattle.rht_core.proofs.Counting.CountedPorts.{firsts-AreAllBound}
use Rattle.rht_core.proofs.Machines.NeverHeld.{job-unraised}

-- what holds of each of a list holds of the first ones
pub taken : {X : Type 0} (P : X → Type 0) (n : ℕ) (xs : List X) → AllByRecursion P xs
    → AllByRecursion P (take n xs)
taken P zero xs all = tt
taken P (suc n) [] all = tt
taken P (suc n) (x ∷ xs) all = (all.0, taken P n xs all.1)

-- ---- the callers that have raised the count

module _ (mix : ℕ → ℕ → ℕ → ℕ) (env : Env) where
  -- a caller has raised the count exactly where its job has
  pub raises : (c : ℕ) (job : Option Job) (M : Memory) (G : Ghost) → Knows env mix c job M G
      → G.raised c ≡ raised_by job
  raises c None M G knows = knows.only.raising
  raises c (Some job) M G knows = knows.knowing.only.raising

  -- who has is in a call
  raised-busy : (c : ℕ) (job : Option Job) (M : Memory) (G : Ghost) → G.raised c ≡ true
      → Knows env mix c job M G
      → not (is_no_job job) ≡ true
  raised-busy c None M G is knows = let unraised = knows.only.raising in absurd (cc)
  raised-busy c (Some job) M G is knows = refl

-- ---- who loads has raised none

-- a bind that puts its node in front of a list has raised none
pub front-unraised : (claimed : Claimed) (stored : Bool) → (holds_replacing claimed stored).raised ≡ false
front-unraised claimed false = refl
front-unraised claimed true = refl

-- what stores the link into a bucket loads nothing
relink_stores : (relink : RelinkModel) (state : RelinkAt) (place : ℕ)
    → relink_plan_at relink state ≢ Load place
relink_stores relink (relinks.ChainLink before) place is = cc
relink_stores relink (relinks.Word word) place is = cc

-- and there it loads nothing
bind_loads-unraised : (e : Env) (c place : ℕ) (state : BindAt) → plan_at e c state ≡ Load place
    → (held_of_bind state).raised ≡ false
bind_loads-unraised e c place (at.Replacing list relink) is = front-unraised list.claimed
    (has_relinked list.before relink.at)
bind_loads-unraised e c place (at.Publish node table relink kick) is = absurd
    (relink_stores relink relink.at place is)
bind_loads-unraised e c place _ is = refl

-- a release that has raised it, and is to lower it, loads nothing either
pub relinking-unraised : (found : FoundPort) (stored : Bool) → (holds_relinking found false stored).raised ≡ false
relinking-unraised found false = refl
relinking-unraised found true = refl

release_loads-unraised : (e : Env) (c place : ℕ) (state : ReleaseAt) → release_plan_at e c state ≡ Load place
    → (held_of_release state).raised ≡ false
release_loads-unraised e c place (release_at.Promoting found relink) is =
    relinking-unraised found (has_relinked found.before relink.at)
release_loads-unraised e c place (release_at.Unlinking found relink) is = absurd
    (relink_stores relink relink.at place is)
release_loads-unraised e c place (release_at.Lowering node shape) is = absurd (cc)
release_loads-unraised e c place _ is = refl

-- what loads has raised none
load-unraised : (env : Env) (c : ℕ) (job : Job) (place : ℕ) (over : Bool) → MayHold over job → soft over (job_plan env c job) ≡ Load place
    → (held_of job).raised ≡ false
load-unraised env c (binds port owner once state) place false may is =
    bind_loads-unraised env c place state (sym (soft-none (job_plan env c (binds port owner once state))) ∙ is)
load-unraised env c (releases port owner state) place false may is =
    release_loads-unraised env c place state (sym (soft-none (job_plan env c (releases port owner state))) ∙ is)
load-unraised env c (binds port owner once state) place true may is = absurd (cc)
load-unraised env c (releases port owner state) place true may is = absurd (cc)
load-unraised env c job place over may is = job-unraised job

module _ (M : Type 0) (mix : ℕ → ℕ → ℕ → ℕ) (env : Env) where
  -- the callers that have raised the count are others in mid-call
  raisers-others : (core : Core M) (c : ℕ) (G : Ghost) → core.env ≡ env → G.raised c ≡ false
      → ((d : ℕ) → Knows env mix d (job_of (local_of core d).doing) (mem env mix core.words) G)
      → raisers env mix G ≤ others_in_call core c
  raisers-others core c G same unraised each =
      let other : ℕ → Bool = λ d. not (d == c) && not (is_idle (local_of core d)) in
      let counted : others_in_call core c ≡ count_below other env.geometry.callers =
      count_by-range other core.env.geometry.callers ∙ ap
      (λ (e : Env). count_below other e.geometry.callers) same in
      let fewer = count_below-le G.raised other env.geometry.callers (λ d is.
      let differ : d ≢ c = λ e. let here : G.raised c ≡ true = ap G.raised (sym e) ∙ is in cc in
      and_from (not (d == c)) (not (is_idle (local_of core d))) (ap not (ne_eqb d c differ))
      (ap not (nothing-job (local_of core d).doing) ∙ raised-busy mix env d
      (job_of (local_of core d).doing) (mem env mix core.words) G is (each d))) in
      omega arith

  -- ---- the load of the count

  -- what such an operation found is no less than the ports bound at its event, and no more than these and the other callers
  -- in mid-call there
  pub counted_at : (events : List Event) (c count : ℕ) (did : Did) → IsAdmitted events
      → did.op ≡ Load (place_of env.geometry PortCount) → did.old ≡ count
      → IsRecorded M mix env events c did → CountedAt M mix env events c count did
  counted_at events c count did admitted loaded found is =
      let before = take did.index events in
      let core : Core M = (run_of mix env before).core in
      let has = has_inv env mix M before (taken IsAdmittedEvent did.index events
      admitted) in
      let G = has.ghost in
      let place = place_of env.geometry PortCount in
      let plans : planned_in core c ≡ Some (Load place) = is.plan ∙ ap Some loaded in
      let of = step_of env mix M core G c (Load place) has.all has.inv plans in
      let unraised = of.knows.knowing.only.raising ∙ load-unraised env c of.job place (local_of core c).held of.may (sym of.plan) in
      let others = raisers-others core c G has.inv.same_env unraised has.inv.each in
      let word : mem env mix core.words PortCount ≡ count =
      sym (ap (old_of core.words) loaded) ∙ is.found ∙ found in
      let counted = has.inv.whole.counted in
      record {
        bound = firsts env mix G;
        are_bound = (firsts-AreAllBound env mix core.words G has.inv.whole).are;
        most = (firsts-AreAllBound env mix core.words G has.inv.whole).most;
        few = omega arith;
        enough = omega arith;
      }
