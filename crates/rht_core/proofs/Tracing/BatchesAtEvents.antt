-- A caller's batch at the events of a run: before the next event it is the one that its caller has behind all so far, and behind an operation
-- of the caller it is what that leaves.
use Rattle.std.proofs.Common.{◌≡◌, ℕ, ◌+◌, ◌++◌, ◌∷◌, List, [], length, take, false, Some, refl, sym, ap, ◌∙◌, subst, append_assoc, length-append, arith}
use Rattle.std.proofs.Math.Seq.{take-append_seam}
use Rattle.rht_words.specs.declared.env.Env.{Env}
use Rattle.rht_words.specs.declared.machine.Next.{Next}
use Rattle.rht_words.specs.declared.machine.Next.TheVariants.{Go, Done}
use Rattle.rht_words.specs.Operations.{old_of, applied}
use Rattle.rht_model.specs.declared.history.Reply.{Reply}
use Rattle.rht_find.specs.Find.{find_after}
use Rattle.rht_bind.specs.Bind.{bind_after}
use Rattle.rht_release.specs.All.{all_after}
use Rattle.rht_release.specs.Release.{release_after}
use Rattle.rht_release.specs.Rebind.{rebind_after}
use Rattle.rht_move.specs.Work.{work_after}
use Rattle.rht_walk.specs.Walk.{walk_after}
use Rattle.rht_grace.specs.Batch.{BatchModel}
use Rattle.rht_grace.specs.Tidy.{TidyModel}
use Rattle.rht_callers.specs.declared.local.Local.{Local}
use Rattle.rht_callers.specs.declared.local.Doing.{Doing}
use Rattle.rht_callers.specs.declared.local.Doing.TheVariants.{Idle, Finding, Binding, Listing, Releasing, Rebinding, Working, Counting, Tidying, Walking}
use Rattle.rht_callers.specs.Batches.{batch_room}
use Rattle.rht_callers.specs.PortCounts.{count_after}
use Rattle.rht_callers.specs.Locals.{is_idle, doing_next, doing_after, local_after, without_node}
use Rattle.rht_core.specs.declared.event.Event.{Event}
use Rattle.rht_core.specs.declared.event.Event.TheVariants.{Step}
use Rattle.rht_core.specs.Runs.{Core, World, View, run_of, local_of, planned_in}
use Rattle.rht_core.specs.Seen.{words_before}
use Rattle.rht_core.specs.Tidied.{batch_of, batch_or, batch_before}
use Rattle.rht_core.specs.Traces.{Did}
use Rattle.rht_core.proofs.Events.Worlds.{run_of-push, stepped_words, step_self, planned-some}
use Rattle.rht_core.proofs.Events.JobsOfCallers.{nothing-job, is_no_job}
use Rattle.rht_core.proofs.Events.SoundRuns.{has_place, runs-in}
use Rattle.rht_core.proofs.Tracing.TracedCallers.{IsMade}

module _ (M : Type 0) (mix : ℕ → ℕ → ℕ → ℕ) (env : Env) where
  -- ---- who tidies

  abbrev pub IsNone : Doing M → Type 0
  IsNone doing = (m : TidyModel) → doing ≡ Tidying m → ⊥

  next-other : {A : Type 0} (doing : A → Doing M) → ((a : A) → IsNone (doing a)) → (r : A × Next Reply) → IsNone (doing_next doing r).0
  next-other doing none (a, Go) = none a
  next-other doing none (a, Done reply) = λ m is. cc

  -- who doesn't, doesn't behind an operation
  pub stays-other : (doing : Doing M) (old : ℕ) → IsNone doing → IsNone (doing_after mix doing old).0
  stays-other Idle old none = λ m is. cc
  stays-other (Finding m) old none = next-other Finding (λ a m is. cc) (find_after mix m old)
  stays-other (Binding m) old none = next-other Binding (λ a m is. cc) (bind_after mix m old)
  stays-other (Listing m) old none = next-other Listing (λ a m is. cc) (all_after mix m old)
  stays-other (Releasing m) old none =
      let next = release_after mix m old in next-other Releasing (λ a m is. cc) (next.0, without_node next.1)
  stays-other (Rebinding m) old none =
      let next = rebind_after mix m old in next-other Rebinding (λ a m is. cc) (next.0, without_node next.1)
  stays-other (Working m) old none = next-other Working (λ a m is. cc) (work_after mix m old)
  stays-other (Counting m) old none = next-other Counting (λ a m is. cc) (count_after m old)
  stays-other (Walking m) old none = next-other Walking (λ a m is. cc) (walk_after m old)
  stays-other (Tidying m) old none = absurd (none m refl)

  -- ---- the batch of a caller

  -- by what it does
  abbrev pub own_of : Local M → BatchModel
  own_of local = batch_or env.geometry (batch_room local.doing local.batch)

  pub of-core : (c : ℕ) (core : Core M) (local : Local M) → core.env ≡ env → local_of core c ≡ local → batch_of core c ≡ own_of local
  of-core c core local same here =
      ap (λ (e : Env). batch_or e.geometry (batch_room (local_of core c).doing (local_of core c).batch)) same
      ∙ ap own_of here

  module _ (events : List Event) (c : ℕ) where
    abbrev batch_at : ℕ → BatchModel
    batch_at index = batch_before M mix env events c index

    -- the batch before the next event, and behind all so far
    pub batch-next : (so_far rest : List Event) → events ≡ so_far ++ rest → (index : ℕ) → index ≡ length so_far
        → batch_at index ≡ batch_of (run_of {M = M} mix env so_far).core c
    batch-next so_far rest all index is =
        ap (λ es. batch_of (run_of {M = M} mix env es).core c)
        (ap (λ n. take n events) is ∙ ap (take (length so_far)) all ∙ take-append_seam so_far rest)

    -- ---- an operation

    module _ (so_far rest : List Event) (all : events ≡ so_far ++ Step c ∷ rest) (did : Did) (local : Local M)
        (made : IsMade M mix env so_far c local did) where
      abbrev run : Core M
      run = (run_of {M = M} mix env so_far).core

      abbrev more : List Event
      more = so_far ++ Step c ∷ []

      all-more : events ≡ more ++ rest
      all-more = all ∙ sym (append_assoc so_far (Step c ∷ []) rest)

      here : local_of run c ≡ local
      here = ap (λ (core : Core M). local_of core c) (sym made.now) ∙ made.known.here

      found : did.old ≡ old_of run.words did.op
      found = made.known.found ∙ ap (λ (core : Core M). old_of core.words did.op) made.now

      planned : planned_in run c ≡ Some did.op
      planned =
          ap (λ es. planned_in (run_of {M = M} mix env es).core c)
          (sym (ap (λ n. take n more) made.index ∙ take-append_seam so_far (Step c ∷ []))) ∙ made.recorded.plan

      local-then : local_of (run_of {M = M} mix env more).core c ≡ (local_after mix local did.old).0
      local-then =
          let can = planned-some run.env run.enrolled run.locals c did.op planned in
          ap (λ (w : World M). local_of w.core c) (run_of-push M mix env so_far (Step c))
          ∙ ap (λ (v : View M). v.local)
          (step_self M mix (run_of {M = M} mix env so_far) c did.op planned (has_place M mix env run c (runs-in M mix env so_far) can.below))
          ∙ ap (λ old. (local_after mix (local_of run c) old).0) (sym found)
          ∙ ap (λ own. (local_after mix own did.old).0) here

      pub batch-behind : batch_at (did.index + 1) ≡ own_of (local_after mix local did.old).0
      batch-behind =
          batch-next more rest all-more (did.index + 1) (let at = made.index in let long = length-append so_far (Step c ∷ []) in omega (arith, at, long))
          ∙ of-core c (run_of {M = M} mix env more).core (local_after mix local did.old).0 (runs-in M mix env more).same_env local-then

      -- the words before it, and behind it
      pub words-now : run.words ≡ words_before M mix env events did.index
      words-now =
          ap (λ es. (run_of {M = M} mix env es).core.words)
          (sym (ap (λ n. take n events) made.index ∙ ap (take (length so_far)) all ∙ take-append_seam so_far (Step c ∷ rest)))

      pub words-behind : applied run.words did.op ≡ words_before M mix env events (did.index + 1)
      words-behind =
          let long : did.index + 1 ≡ length more =
          (let at = made.index in let both = length-append so_far (Step c ∷ []) in omega (arith, at, both)) in
          sym (stepped_words M mix run c did.op (planned_in run c) refl planned)
          ∙ sym (ap (λ (w : World M). w.core.words) (run_of-push M mix env so_far (Step c)))
          ∙ ap (λ es. (run_of {M = M} mix env es).core.words)
          (sym (ap (λ n. take n events) long ∙ ap (take (length more)) all-more ∙ take-append_seam more rest))

      -- it is in a call
      pub made-busy : is_idle local ≡ false
      made-busy = subst (λ (own : Local M). is_idle own ≡ false) made.known.here
          (nothing-job (local_of made.known.core c).doing ∙ ap is_no_job made.known.step.is)
