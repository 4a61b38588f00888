-- The invariant of every run: the whole is true of the words and some ghost, and each caller knows what its job says. And its batch has the
-- nodes that its calls took out.
-- An operation of a caller keeps the whole and leads to what its next state says, and everybody else still knows what it knew.
use Rattle.std.proofs.Common.{◌≡◌, ◌≢◌, ℕ, ◌+◌, refl, sym, ◌∙◌, subst, inl, inr}
use Rattle.std.specs.Prelude.{Option, Some, None, false}
use Rattle.std.proofs.lemmas.Bool.{cases_eq}
use Rattle.std.proofs.lemmas.List.{get_or-set_same, get_or-set_other}
use Rattle.rht_words.specs.declared.op.Op.{Op}
use Rattle.rht_words.specs.declared.env.Env.{Env}
use Rattle.rht_words.specs.Operations.{old_of, word_after, applied}
use Rattle.rht_words.specs.Places.{EnrolledCallers, Section, word_at}
use Rattle.rht_words.proofs.Memory.{is_write}
use Rattle.rht_words.proofs.EachElement.{each_set}
use Rattle.rht_model.specs.declared.history.Call.{Call}
use Rattle.rht_core.specs.declared.event.Event.{Event}
use Rattle.rht_core.specs.declared.event.Event.TheVariants.{Enroll, Begin}
use Rattle.rht_core.specs.declared.event.Event.TheVariants as events
use Rattle.rht_callers.specs.declared.local.Local.{Local}
use Rattle.rht_callers.specs.declared.local.Doing.{Doing}
use Rattle.rht_callers.specs.Locals.{fresh, begin_with, local_after}
use Rattle.rht_core.specs.Runs.{Core, local_of, beginning_in, planned_in, enrolling, core_step}
use Rattle.rht_core.specs.Jobs.{Job, job_after, job_of, told, held_of, held_next}
use Rattle.rht_core.proofs.Events.Worlds.{beginning-some, planned-some}
use Rattle.rht_core.proofs.Events.SoundRuns.{has_place, made_in}
use Rattle.rht_core.proofs.Events.RangesInRuns.{AllIn}
use Rattle.rht_core.proofs.Events.JobsOfCallers.{left-job}
use Rattle.rht_ghost.proofs.Theory.Ghosts.{Ghost}
use Rattle.rht_ghost.proofs.Theory.Wholes.{outs, Whole}
use Rattle.rht_ghost.proofs.Theory.Answering.{outs_of}
use Rattle.rht_ghost.proofs.Theory.Frames.{StaleStay, stale_write, same_owners}
use Rattle.rht_ghost.proofs.Theory.Reliance.{Rely}
use Rattle.rht_ghost.proofs.Theory.Steps.{mem, ghost_after, other_sections}
use Rattle.rht_ghost.proofs.Moves.Quiet.{aside}
use Rattle.rht_core.proofs.Events.TidiedNodes.{given_of, given_next}
use Rattle.rht_core.proofs.Events.OwnBatches.{BatchRight, idle-owns, begun-right, stepped-right, stepped-given, others-right}
use Rattle.rht_core.proofs.Events.SectionMoves.{AreRight, is_inside, open_as, step_right, begin_right, enroll_right}
use Rattle.rht_core.proofs.Events.StepsOfCallers.{Knows-rely, knows-told, begun_knows, begun_holds, step_from, holds-told}
pub use Rattle.rht_core.proofs.Events.StepsOfCallers.{Knows, StepOf, MayHoldAs, idle_knows, others_outs}

module _ (env : Env) (mix : ℕ → ℕ → ℕ → ℕ) where
  module _ (L : Type 0) where
    -- the invariant: the whole is true of some ghost, each caller knows what its job says, and its batch is right
    pub record Inv (core : Core L) (G : Ghost) : Type 0 where
      pub same_env : core.env ≡ env
      pub whole : Whole env mix (mem env mix core.words) G
      pub each : (c : ℕ) → Knows env mix c (job_of (local_of core c).doing) (mem env mix core.words) G
      pub batches : (c : ℕ) → BatchRight env mix L G c (local_of core c)
      pub right : AreRight env mix L core
      pub holds : (c : ℕ) → MayHoldAs (local_of core c).held (job_of (local_of core c).doing)
      pub rests : (c : ℕ) → (local_of core c).held ≡ false

    -- the operation that a caller plans is a step
    pub step_of : (core : Core L) (G : Ghost) (c : ℕ) (op : Op) → AllIn L mix env core → Inv core G
        → planned_in core c ≡ Some op
        → StepOf env mix L core G c op
    step_of core G c op sound inv is = step_from env mix L core G c op sound inv.whole (inv.each c)
        (λ low. open_as env mix (is_inside env mix (local_of core c)) (G.from c) (word_at env.geometry core.words (Section c))
        (inv.whole.sections.words c low) (inv.right c low)) (inv.holds c) is

    -- ---- one event

    -- how many nodes each caller's calls have taken out of lists and not given back: as many as before, but for a caller that makes an operation
    pub record StepOuts (core : Core L) (G G' : Ghost) (c : ℕ) : Type 0 where
      pub others : (k : ℕ) → k ≢ c → outs env mix G' k ≡ outs env mix G k
      pub none : planned_in core c ≡ None → outs env mix G' c ≡ outs env mix G c
      pub mine : (op : Op) (job : Job) → planned_in core c ≡ Some op
          → job_of (local_of core c).doing ≡ Some job
          → outs env mix G' c + given_next (job_after mix env job (old_of core.words op)) + outs_of (held_of job).answer
          ≡ outs env mix G c + given_of job + outs_of (held_next (job_after mix env job (old_of core.words op))).answer

    abbrev pub OutsKept : Core L → Ghost → Ghost → Event → Type 0
    OutsKept core G G' Enroll = (k : ℕ) → outs env mix G' k ≡ outs env mix G k
    OutsKept core G G' (Begin c call start) = (k : ℕ) → outs env mix G' k ≡ outs env mix G k
    OutsKept core G G' (events.Step c) = StepOuts core G G' c

    -- the ghost stays, but for the move of a caller that makes an operation
    pub record StepMoves (core : Core L) (G G' : Ghost) (c : ℕ) : Type 0 where
      pub none : planned_in core c ≡ None → G' ≡ G
      pub some : (op : Op) → planned_in core c ≡ Some op
          → (of : StepOf env mix L core G c op) × (G' ≡ ghost_after env mix c of.step.move G)

    abbrev pub GhostKept : Core L → Ghost → Ghost → Event → Type 0
    GhostKept core G G' Enroll = G' ≡ G
    GhostKept core G G' (Begin c call start) = G' ≡ G
    GhostKept core G G' (events.Step c) = StepMoves core G G' c

    -- the invariant again, with some ghost
    pub record Kept (core : Core L) (G : Ghost) (event : Event) : Type 0 where
      pub ghost : Ghost
      pub inv : Inv (core_step mix core event).0 ghost
      pub outs_kept : OutsKept core G ghost event
      pub ghost_kept : GhostKept core G ghost event

    begin_kept : (core : Core L) (G : Ghost) (c : ℕ) (call : Call) (start : ℕ) (machine : Option (Doing L))
        → AllIn L mix env core → Inv core G → beginning_in core c call start ≡ machine → Kept core G (Begin c call start)
    begin_kept core G c call start None sound inv is = record {
      ghost = G;
      inv = rw is (record { same_env = inv.same_env; whole = inv.whole; each = inv.each; batches = inv.batches; right = inv.right; holds = inv.holds; rests = inv.rests });
      outs_kept = λ k. refl;
      ghost_kept = refl;
    }
    begin_kept core G c call start (Some machine) sound inv is =
        let can = beginning-some core.env core.enrolled core.locals c call start machine is in
        let place = has_place L mix env core c sound.stays can.below in
        let M = mem env mix core.words in
        let nothing = idle_knows env mix L c (local_of core c).doing M G can.idle (inv.each c) in
        let owns = idle-owns env mix L G c (local_of core c) can.idle (inv.batches c) in
        let knows = begun_knows env mix L c (local_of core c).batch start call machine M G (made_in L mix env core c call start machine sound.stays can) nothing owns in
        record {
          ghost = G;
          inv = rw is (record {
            same_env = inv.same_env;
            whole = inv.whole;
            each = each_set (λ k local. Knows env mix k (job_of local.doing) M G) (fresh core.env) core.locals c
                (begin_with (local_of core c) machine) place knows inv.each;
            batches = each_set (BatchRight env mix L G) (fresh core.env) core.locals c (begin_with (local_of core c) machine) place
                (begun-right env mix L core G c call start machine sound is (inv.batches c)) inv.batches;
            right = begin_right env mix L core c call start machine sound is inv.right;
            holds = each_set (λ k (local : Local L). MayHoldAs local.held (job_of local.doing)) (fresh core.env) core.locals c
                (begin_with (local_of core c) machine) place
                (begun_holds env mix L (local_of core c).held c (local_of core c).batch start call machine
                (made_in L mix env core c call start machine sound.stays can) can.may) inv.holds;
            rests = each_set (λ k (local : Local L). local.held ≡ false) (fresh core.env) core.locals c
                (begin_with (local_of core c) machine) place (inv.rests c) inv.rests;
          });
          outs_kept = λ k. refl;
          ghost_kept = refl;
        }

    step_kept : (core : Core L) (G : Ghost) (c : ℕ) (plan : Option Op) → AllIn L mix env core → Inv core G
        → planned_in core c ≡ plan → Kept core G (events.Step c)
    step_kept core G c None sound inv is = record {
      ghost = G;
      inv = rw is (record { same_env = inv.same_env; whole = inv.whole; each = inv.each; batches = inv.batches; right = inv.right; holds = inv.holds; rests = inv.rests });
      outs_kept = record {
        others = λ k ne. refl;
        none = λ none. refl;
        mine = λ op job plans of. absurd (let both = sym is ∙ plans in cc);
      };
      ghost_kept = record { none = λ none. refl; some = λ op plans. absurd (let both = sym is ∙ plans in cc) };
    }
    step_kept core G c (Some op) sound inv is =
        let can = planned-some core.env core.enrolled core.locals c op is in
        let place = has_place L mix env core c sound.stays can.below in
        let doing = (local_of core c).doing in
        let old = old_of core.words op in
        let of = step_of core G c op sound inv is in
        let step = of.step in
        let next = (local_after mix (local_of core c) old).0 in
        let M' = mem env mix (applied core.words op) in
        let G' = ghost_after env mix c step.move G in
        let left : job_of next.doing ≡ (told (job_after mix env of.job old)).0 = left-job mix env doing
        of.job old (sound.stays.locals_of c).doing of.is in
        record {
          ghost = G';
          inv = rw is (record {
            same_env = inv.same_env;
            whole = step.made.whole;
            each = λ k. elim (cases_eq k c) [
              | inl e ↦ rw e (rw (get_or-set_same core.locals c next (fresh core.env) place)
                  (rw left (knows-told env mix c (job_after mix env of.job old) M' G' step.knows)))
              | inr ne ↦ rw (get_or-set_other core.locals c k next (fresh core.env) ne)
                  (Knows-rely env mix k (job_of (local_of core k).doing) (mem env mix core.words) M' G G'
                  inv.whole (other_sections env mix c k step.move (mem env mix core.words) G step.ready ne) (step.made.others k ne)
                  (inv.each k))
            ];
            batches = λ k. elim (cases_eq k c) [
              | inl e ↦ rw e (rw (get_or-set_same core.locals c next (fresh core.env) place)
                  (stepped-right env mix L core G sound inv.whole c op of (inv.batches c)))
              | inr ne ↦ rw (get_or-set_other core.locals c k next (fresh core.env) ne)
                  (others-right env mix L core G c op of k (local_of core k) ne (inv.batches k))
            ];
            right = step_right env mix L core G c op sound is of inv.right;
            holds = each_set (λ k (local : Local L). MayHoldAs local.held (job_of local.doing)) (fresh core.env) core.locals c next place
                (subst (MayHoldAs (local_of core c).held) (sym left) (holds-told env mix (local_of core c).held of.job old of.may)) inv.holds;
            rests = each_set (λ k (local : Local L). local.held ≡ false) (fresh core.env) core.locals c next place (inv.rests c) inv.rests;
          });
          outs_kept = record {
            others = λ k ne. others_outs env mix L k (mem env mix core.words) M' G G' (step.made.others k ne);
            none = λ none. absurd (let both = sym is ∙ none in cc);
            mine = λ other job plans does.
                let same_op : op ≡ other = (let both = sym is ∙ plans in cc) in
                let same : of.job ≡ job = (let both = sym of.is ∙ does in cc) in
                subst (λ j. outs env mix G' c + given_next (job_after mix env j (old_of core.words other)) + outs_of (held_of j).answer
                ≡ outs env mix G c + given_of j + outs_of (held_next (job_after mix env j (old_of core.words other))).answer) same
                (subst (λ o. outs env mix G' c + given_next (job_after mix env of.job (old_of core.words o)) + outs_of (held_of of.job).answer
                ≡ outs env mix G c + given_of of.job + outs_of (held_next (job_after mix env of.job (old_of core.words o))).answer)
                same_op (stepped-given env mix L core G sound inv.whole c op of (inv.batches c)));
          };
          ghost_kept = record {
            none = λ none. absurd (let both = sym is ∙ none in cc);
            some = λ other plans.
                let same_op : op ≡ other = (let both = sym is ∙ plans in cc) in
                subst (λ o. (of : StepOf env mix L core G c o) × (G' ≡ ghost_after env mix c of.step.move G)) same_op (of, refl);
          };
        }

    -- an enrolling leaves the whole, and all that anybody relies on
    pub enrolled : (core : Core L) (G : Ghost) → AllIn L mix env core → Inv core G
        → let M' = mem env mix (applied core.words (enrolling core.env)) in
        Whole env mix M' G × ((k : ℕ) → Rely env mix k (mem env mix core.words) G M' G)
        × ((k : ℕ) → StaleStay env mix k (mem env mix core.words) G M' G)
    enrolled core G sound inv =
        let op = enrolling core.env in
        let v = word_after (word_at env.geometry core.words EnrolledCallers) op in
        let M = mem env mix core.words in
        let M' = mem env mix (applied core.words op) in
        let write = is_write env.geometry core.words EnrolledCallers op sound.stays.all_words tt refl in
        let kept = aside env mix EnrolledCallers
        (word_after (word_at env.geometry core.words EnrolledCallers) op)
        (mem env mix core.words) (mem env mix (applied core.words op)) G inv.whole write
        (record { current = λ e. cc; work = λ e. cc; sections = λ c e. cc; slots = λ s w e. cc; pages = λ i e. cc }) (λ j e. cc) (λ n w e. cc) (λ i e. cc)
        (λ e. cc) in (
          kept.0,
          kept.1,
          λ k. stale_write env mix M M' G G EnrolledCallers v write (same_owners env mix G G refl)
              (λ n u f e. cc) (λ n u f e. cc),
        )

    enroll_kept : (core : Core L) (G : Ghost) → AllIn L mix env core → Inv core G → Kept core G Enroll
    enroll_kept core G sound inv =
        let kept = enrolled core G sound inv in
        let M' = mem env mix (applied core.words (enrolling core.env)) in
        record {
          ghost = G;
          inv = record {
            same_env = inv.same_env;
            whole = kept.0;
            each = λ k. Knows-rely env mix k (job_of (local_of core k).doing) (mem env mix core.words) M' G G
                inv.whole refl (kept.1 k) (inv.each k);
            batches = inv.batches;
            right = enroll_right env mix L core sound inv.right;
            holds = inv.holds;
            rests = inv.rests;
          };
          outs_kept = λ k. refl;
          ghost_kept = refl;
        }

    -- each event keeps the invariant
    pub kept : (core : Core L) (G : Ghost) (event : Event) → AllIn L mix env core → Inv core G
        → Kept core G event
    kept core G Enroll sound inv = enroll_kept core G sound inv
    kept core G (Begin c call start) sound inv = begin_kept core G c call start (beginning_in core c call start) sound inv refl
    kept core G (events.Step c) sound inv = step_kept core G c (planned_in core c) sound inv refl
