-- In every run a resizing that retires a table then keeps the section words of all callers in that one's slot, and gives the work lock back.
--
-- It retires one in one state alone, behind which it keeps the words, and lets go of the work lock once it has kept them all.
use Rattle.rht_ghost.proofs.Pieces.HeldSections.{of_its_own}
use Rattle.std.proofs.Common.{◌≡◌, ℕ, ◌<◌, Bool, List, [], ◌∷◌, ◌++◌, map, append_assoc, inl, inr, refl, sym, ap, ◌∙◌, subst}
use Rattle.std.specs.List.{Any}
use Rattle.rht_words.specs.declared.env.Env.{Env}
use Rattle.rht_words.specs.declared.geometry.Geometry.{Geometry}
use Rattle.rht_words.specs.declared.machine.Next.{Next}
use Rattle.rht_words.specs.declared.machine.Next.TheVariants.{Go, Done}
use Rattle.rht_words.specs.Operations.{op_place, word_after}
use Rattle.rht_words.proofs.EachElement.{AllByRecursion-weaker}
use Rattle.rht_model.specs.declared.history.Call.{Call}
use Rattle.rht_model.specs.Endings.{Ending}
use Rattle.rht_reclaim.specs.KeepSections.{KeepSectionsModel, keep_sections_after}
use Rattle.rht_reclaim.specs.KeepLaws.{SectionsKept}
use Rattle.rht_move.specs.Work as work_table
use Rattle.rht_move.specs.declared.work.WorkAt.TheVariants as working
use Rattle.rht_core.specs.declared.event.Event.{Event}
use Rattle.rht_core.specs.Jobs.{Job, works, job_after, held_of, held_next}
use Rattle.rht_core.specs.Runs.{IsAdmitted}
use Rattle.rht_core.specs.Traces.{Did, performed_of}
use Rattle.rht_core.specs.Seen.{words_before}
use Rattle.rht_core.specs.Attached.{ChangesState, RetiresSlot, HasKeptSections, KeepsWhereRetired, KeepsAtRetiring}
use Rattle.rht_ghost.proofs.Theory.Steps.{mem}
use Rattle.rht_core.proofs.Tracing.TracedJobs.{hard_by, hard, Performs, StandsIn, LeadsOn, IsEndedSo, jobs_keep_own}
use Rattle.rht_core.proofs.Histories.Behind.{Any-push_cases, Any-none}
use Rattle.rht_core.proofs.Reasons.CausesInRuns.{JobSaw, EndsSeen, job-leads, first_job-saw}
use Rattle.rht_core.proofs.Reasons.ChangesSeen.{fits_now, does_now}
use Rattle.rht_core.proofs.Reasons.TableWordsKept.{StateHere, state_by_move}
use Rattle.rht_core.proofs.Reasons.TablesLeft.{retires_now, retiring_is}
use Rattle.rht_core.proofs.Reasons.WordsKept.{KeepsSoFar, keeps-end}

module _ (M : Type 0) (mix : ℕ → ℕ → ℕ → ℕ) (env : Env) (events : List Event) (c : ℕ) where
  abbrev g : Geometry
  g = env.geometry

  abbrev words_at : ℕ → List ℕ
  words_at = words_before M mix env events

  -- ---- what is kept

  -- where one of these operations retired the table of a slot, this is so of the slot
  abbrev WhereRetired : (ℕ → Type 0) → List Did → Type 0
  WhereRetired So steps = (slot : ℕ) → slot < 8 → Any (RetiresSlot g slot) steps → So slot

  abbrev HasRetiredNone : List Did → Type 0
  HasRetiredNone = WhereRetired (λ slot. ⊥)

  -- the operations end with the keeping of all section words, behind the retiring of the slot's table
  record HasKept (steps : List Did) (slot : ℕ) : Type 0 where
    before : List Did
    at : Did
    keeping : List Did
    split : steps ≡ before ++ at ∷ keeping
    retires : RetiresSlot g slot at
    kept : SectionsKept g slot (map performed_of keeping)

  SoFar : Job → List Did → Type 0
  SoFar (works (working.KeepingSections keep again)) steps = WhereRetired (λ slot. keep.slot ≡ slot) steps
  SoFar (works (working.LettingGo outcome)) steps = WhereRetired (HasKept steps) steps
  SoFar (works state) steps = HasRetiredNone steps
  SoFar job steps = HasRetiredNone steps

  abbrev KeptAll : List Did → Type 0
  KeptAll steps = WhereRetired (λ slot. HasKeptSections g slot steps) steps

  abbrev Now : Job → List Did → Type 0
  Now job steps = JobSaw env c words_at mix job steps × SoFar job steps

  abbrev Ended : Call → Ending → List Did → Type 0
  Ended call ending steps = EndsSeen M mix env events c call ending steps × KeptAll steps

  abbrev SoFarNext : List Did → Job × Next Ending → Type 0
  SoFarNext all (after, Go) = SoFar after all
  SoFarNext all (after, Done ending) = KeptAll all

  -- ---- none so far

  none_so_far : (job : Job) (steps : List Did) → HasRetiredNone steps → SoFar job steps
  unfolding SoFar
  none_so_far (works (working.KeepingSections keep again)) steps none = λ slot low has. absurd (none slot low has)
  none_so_far (works (working.LettingGo outcome)) steps none = λ slot low has. absurd (none slot low has)
  none_so_far (works state) steps none = none
  none_so_far job steps none = none

  none_next : (all : List Did) (next : Job × Next Ending) → HasRetiredNone all → SoFarNext all next
  none_next all (after, Go) none = none_so_far after all none
  none_next all (after, Done ending) none = λ slot low has. absurd (none slot low has)

  -- ---- an operation

  module _ (admitted : IsAdmitted events) (steps : List Did) (did : Did) where
    abbrev all : List Did
    all = steps ++ did ∷ []

    -- one that retires a table is made in the state in which that is done, of this slot
    record IsRetiring (slot : ℕ) (job : Job) : Type 0 where
      root : ℕ
      again : Bool
      is : job ≡ works (working.Retiring root again)
      same : root ≡ slot

    retires_in : (slot : ℕ) → slot < 8 → RetiresSlot g slot did → (job : Job) (performs : Performs mix env job did)
        → performs.words ≡ words_at did.index → IsRetiring slot job
    retires_in slot low retires job performs now =
        here (state_by_move env mix performs.caller (mem env mix performs.words) performs.ghost did (of_its_own performs.over (held_of job))
        (of_its_own performs.over (held_next (job_after mix env job did.old))) slot
        (fits_now M mix env events c admitted steps did job performs now) changed performs.step.move performs.step.ready
        (does_now M mix env events c admitted steps did job performs))
      where
        changed : ChangesState g slot did
        changed = record {
          slot_in = low;
          there = ap op_place retires.stores;
          other = λ same. retires.other (sym same ∙ ap (word_after did.old) retires.stores);
        }

        here : StateHere env mix performs.caller (mem env mix performs.words) performs.ghost did (of_its_own performs.over (held_of job))
            (of_its_own performs.over (held_next (job_after mix env job did.old))) slot → IsRetiring slot job
        here (inl takes) = absurd (let both = sym retires.stores ∙ takes.takes.taking in cc)
        here (inr (inl gives)) = absurd (let both = sym retires.stores ∙ gives.gives in cc)
        here (inr (inr is)) =
            let one =
            retiring_is env mix performs.caller (mem env mix performs.words) performs.ghost did slot is.can is.stores job
            (retires_now env mix performs.caller (mem env mix performs.words) performs.ghost did slot is.can is.stores job
            (hard_by mix env performs _ tt is.stores) is.moves performs.knows) in
            record { root = one.0; again = one.1; is = one.2; same = one.3 }

    -- so it is of the operations with it, where one of them did so
    module _ (job : Job) (performs : Performs mix env job did) (now : performs.words ≡ words_at did.index) where
      with_last : (So : ℕ → Type 0) → WhereRetired So steps → ((slot : ℕ) → IsRetiring slot job → So slot) → WhereRetired So all
      with_last So before last slot low has = elim (Any-push_cases (RetiresSlot g slot) steps did has) [
        | inl earlier ↦ before slot low earlier
        | inr retires ↦ last slot (retires_in slot low retires job performs now)
      ]

    -- behind the keeping of a section word
    kept-next : (keep : KeepSectionsModel) (again : Bool) (next : Next (Unit {0})) → (keep_sections_after keep did.old).1 ≡ next
        → (performs : Performs mix env (works (working.KeepingSections keep again)) did) → KeepsSoFar g keep steps
        → WhereRetired (λ slot. keep.slot ≡ slot) all
        → SoFar (works (work_table.kept (keep_sections_after keep did.old).0 again next)) all
    unfolding SoFar
    kept-next keep again Go is performs so_far kept = kept
    kept-next keep again (Done tt) is performs so_far kept = λ slot low has. record {
      before = so_far.sooner;
      at = so_far.at;
      keeping = so_far.since ++ did ∷ [];
      split = ap (λ l. l ++ did ∷ []) so_far.split ∙ append_assoc so_far.sooner (so_far.at ∷ so_far.since) (did ∷ []);
      retires = subst (λ s. RetiresSlot g s so_far.at) (kept slot low has) so_far.retires;
      kept =
          subst (λ s. SectionsKept g s (map performed_of (so_far.since ++ did ∷ []))) (kept slot low has)
          (keeps-end g keep performs.within steps did (hard mix env refl performs) so_far is);
    }

    so_far-next : (job : Job) (performs : Performs mix env job did) → performs.words ≡ words_at did.index
        → JobSaw env c words_at mix job steps → SoFar job steps → SoFarNext all (job_after mix env job did.old)
    unfolding SoFar
    so_far-next (works (working.Retiring root again)) performs now saw so_far =
        with_last (works (working.Retiring root again)) performs now (λ slot. root ≡ slot) (λ slot low has. absurd (so_far slot low has))
        (λ slot is. let one = is.is in let same = is.same in cc)
    so_far-next (works (working.KeepingSections keep again)) performs now saw so_far =
        kept-next keep again (keep_sections_after keep did.old).1 refl performs saw.1
        (with_last (works (working.KeepingSections keep again)) performs now (λ slot. keep.slot ≡ slot) so_far
        (λ slot is. absurd (let one = is.is in cc)))
    so_far-next (works (working.LettingGo outcome)) performs now saw so_far =
        with_last (works (working.LettingGo outcome)) performs now (λ slot. HasKeptSections g slot all)
        (λ slot low has. let kept = so_far slot low has in record {
          before = kept.before;
          at = kept.at;
          keeping = kept.keeping;
          last = did;
          split = ap (λ l. l ++ did ∷ []) kept.split ∙ append_assoc kept.before (kept.at ∷ kept.keeping) (did ∷ []);
          retires = kept.retires;
          kept = kept.kept;
          gives = performs.planned;
        })
        (λ slot is. absurd (let one = is.is in cc))
    so_far-next (works state) performs now saw so_far =
        none_next all (job_after mix env (works state) did.old)
        (with_last (works state) performs now (λ slot. ⊥) so_far (λ slot is. let one = is.is in cc))
    so_far-next job performs now saw so_far =
        none_next all (job_after mix env job did.old)
        (with_last job performs now (λ slot. ⊥) so_far (λ slot is. let one = is.is in cc))

    by_next : (job : Job) (next : Job × Next Ending)
        → LeadsOn M mix env (JobSaw env c words_at mix) (EndsSeen M mix env events c) job all next → SoFarNext all next
        → LeadsOn M mix env Now Ended job all next
    by_next job (after, Go) saw so_far = (saw, so_far)
    by_next job (after, Done ending) saw so_far = (saw, so_far)

    goes : (job : Job) (performs : Performs mix env job did) → performs.caller ≡ c → StandsIn mix env words_at job steps did performs
        → Now job steps → LeadsOn M mix env Now Ended job all (job_after mix env job did.old)
    goes job performs own stands (saw, so_far) =
        by_next job (job_after mix env job did.old) (job-leads M mix env events c job steps did performs own stands saw)
        (so_far-next job performs stands.now saw so_far)

-- in every run each call that has ended has kept section words wherever it retired a table
pub kept_at_retiring : (M : Type 0) (mix : ℕ → ℕ → ℕ → ℕ) → KeepsAtRetiring M mix
kept_at_retiring M mix env events c admitted =
    let keeping =
    jobs_keep_own M mix env (Now M mix env events c) (Ended M mix env events c) events c
    (record {
      begins = λ call job is. (
        first_job-saw M mix env events c call job is,
        none_so_far M mix env events c job [] (λ slot low none. Any-none (RetiresSlot env.geometry slot) none),
      );
      goes = λ job steps did performs own stands now. goes M mix env events c admitted steps did job performs own stands now;
    }) admitted in
    AllByRecursion-weaker (IsEndedSo M mix env (Now M mix env events c) (Ended M mix env events c)) (KeepsWhereRetired env.geometry)
    (λ past ended. ended.1) _ keeping.past
