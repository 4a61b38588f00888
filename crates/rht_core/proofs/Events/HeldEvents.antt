-- A caller that is in no call may open its section, and hold it open over its calls, or close it again. Of the words and the ghost it is then so
-- what the invariant says, and nobody else sees it.
use Rattle.std.proofs.Common.{◌≡◌, ◌≢◌, ℕ, ◌+◌, ◌%◌, ◌<◌, Bool, true, false, Option, Some, None, List, refl, sym, ap, ◌∙◌, subst, inl, inr, arith}
use Rattle.std.specs.Prelude.{slice_set}
use Rattle.std.proofs.lemmas.Bool.{cases_eq}
use Rattle.std.proofs.lemmas.List.{get_or-set_same, get_or-set_other}
use Rattle.rht_words.specs.declared.env.Env.{Env}
use Rattle.rht_words.specs.declared.op.Op.{Op}
use Rattle.rht_words.specs.declared.op.Op.TheVariants.{Add}
use Rattle.rht_words.specs.Operations.{op_place, applied}
use Rattle.rht_words.specs.Places.{Section, place_of, word_at}
use Rattle.rht_words.proofs.WordChanges.{applied-other}
use Rattle.rht_words.proofs.Memory.{Memory}
use Rattle.rht_callers.specs.declared.local.Local.{Local}
use Rattle.rht_callers.specs.Locals.{fresh, is_idle}
use Rattle.rht_core.specs.Jobs.{Job, job_of}
use Rattle.rht_core.specs.Runs.{Core, local_of}
use Rattle.rht_ghost.proofs.Theory.Ghosts.{Ghost, put-other, with_from}
use Rattle.rht_ghost.proofs.Theory.Knowns.{known_nothing}
use Rattle.rht_ghost.proofs.Theory.Knowledge.{IsOpenAs}
use Rattle.rht_ghost.proofs.Theory.Steps.{mem}
use Rattle.rht_ghost.proofs.Theory.Wholes.{Whole}
use Rattle.rht_ghost.proofs.Pieces.HeldSections.{is_in}
use Rattle.rht_ghost.proofs.Pieces.OwnSections.{HasTurned, enter_turns, leave_turns}
use Rattle.rht_core.proofs.Machines.JobSteps.{holds_no}
use Rattle.rht_core.proofs.Events.JobsOfCallers.{is_no_job, nothing-job}
use Rattle.rht_core.proofs.Events.RangesInRuns.{AllIn}
use Rattle.rht_core.proofs.Events.SoundRuns.{has_place}
use Rattle.rht_core.proofs.Events.OwnBatches.{BatchRight}
use Rattle.rht_core.proofs.Events.SectionMoves.{AreRight, odd_by, in_section, is_inside, idle_outside, open_as, turned}
use Rattle.rht_core.proofs.Events.StepsOfCallers.{Knows, Knows-rely, MayHoldAs, idle_knows}
use Rattle.rht_core.proofs.Events.Invariants.{Inv}

module _ (env : Env) (mix : ℕ → ℕ → ℕ → ℕ) (L : Type 0) where
  -- the invariant, whoever holds its section open
  pub record InvHeld (core : Core L) (G : Ghost) : Type 0 where
    pub same_env : core.env ≡ env
    pub whole : Whole env mix (mem env mix core.words) G
    pub each : (c : ℕ) → Knows env mix c (job_of (local_of core c).doing) (mem env mix core.words) G
    pub batches : (c : ℕ) → BatchRight env mix L G c (local_of core c)
    pub right : AreRight env mix L core
    pub holds : (c : ℕ) → MayHoldAs (local_of core c).held (job_of (local_of core c).doing)

  abbrev pub turning : ℕ → Op
  turning c = Add (place_of env.geometry (Section c)) 1

  -- it has turned its section, and holds it open from then on, or no more
  abbrev pub turned_by : Core L → ℕ → Bool → Core L
  turned_by core c over = record core {
    words = applied core.words (turning c);
    locals = slice_set core.locals c (record (local_of core c) { held = over });
  }

  module _ (core : Core L) (G : Ghost) (sound : AllIn L mix env core) (inv : InvHeld core G) (c : ℕ) (below : c < core.enrolled)
      (idle : is_idle (local_of core c) ≡ true) where
    abbrev M : Memory
    M = mem env mix core.words

    abbrev M' : Memory
    M' = mem env mix (applied core.words (turning c))

    low : c < env.geometry.callers
    low = omega (arith, below, sound.stays.few_enrolled)

    few : c < 16
    few = let callers = env.geometry.within.callers_within in omega (arith, low, callers.1)

    no_job : job_of (local_of core c).doing ≡ None
    no_job = go (job_of (local_of core c).doing) (sym (nothing-job (local_of core c).doing) ∙ idle)
      where
        go : (job : Option Job) → is_no_job job ≡ true → job ≡ None
        go None none = refl
        go (Some job) none = absurd (cc)

    is_over : is_inside env mix (local_of core c) ≡ (local_of core c).held
    is_over =
        ap (λ s. is_in (local_of core c).held s) (idle_outside (local_of core c).doing idle) ∙ in_none (local_of core c).held
      where
        in_none : (over : Bool) → is_in over false ≡ over
        in_none false = refl
        in_none true = refl

    open_now : IsOpenAs (local_of core c).held (G.from c)
    open_now =
        subst (λ b. IsOpenAs b (G.from c)) is_over
        (open_as env mix (is_inside env mix (local_of core c)) (G.from c) (word_at env.geometry core.words (Section c))
        (inv.whole.sections.words c few) (inv.right c few))

    keeps : (over : Bool) (from : Option ℕ)
        → HasTurned env mix c holds_no known_nothing refl core.words G sound.stays.all_words inv.whole low from
        → odd_by (local_of core c).held + odd_by over ≡ 1 → InvHeld (turned_by core c over) (with_from G c from)
    keeps over from has one =
        let place = has_place L mix env core c sound.stays below in
        let G' = with_from G c from in
        let mine : Local L = record (local_of core c) { held = over } in
        let each : (k : ℕ) → Knows env mix k (job_of (local_of (turned_by core c over) k).doing) M' G' =
        λ k. elim (cases_eq k c) [
          | inl e ↦ rw e (rw (get_or-set_same core.locals c mine (fresh core.env) place)
              (subst (λ job. Knows env mix c job M' G') (sym no_job) has.knows))
          | inr ne ↦ rw (get_or-set_other core.locals c k mine (fresh core.env) ne)
              (Knows-rely env mix k (job_of (local_of core k).doing) M M' G G' inv.whole (put-other G.from c from k ne) (has.made.others k ne)
              (inv.each k))
        ] in
        let batch : (k : ℕ) → BatchRight env mix L G k (local_of core k) → BatchRight env mix L G' k (local_of core k) =
        λ k was. record { out = was.out; sound = was.sound; apart = was.apart; many = was.many; answered = was.answered } in
        let own : BatchRight env mix L G' c mine =
        let was = inv.batches c in
        record { out = was.out; sound = was.sound; apart = was.apart; many = was.many; answered = was.answered } in
        let op : Op = turning c in
        record {
          same_env = inv.same_env;
          whole = has.made.whole;
          each = each;
          batches = λ k. elim (cases_eq k c) [
            | inl e ↦ rw e (rw (get_or-set_same core.locals c mine (fresh core.env) place) own)
            | inr ne ↦ rw (get_or-set_other core.locals c k mine (fresh core.env) ne) (batch k (inv.batches k))
          ];
          right = λ d l. elim (cases_eq d c) [
            | inl e ↦ rw e (rw (get_or-set_same core.locals c mine (fresh core.env) place)
                (turned env mix core.words op sound.stays.all_words c few refl _ _ one (inv.right c few ∙ ap odd_by is_over)
                ∙ ap odd_by (sym (ap (is_in over) (idle_outside (local_of core c).doing idle) ∙ in_none over))))
            | inr ne ↦ rw (get_or-set_other core.locals c d mine (fresh core.env) ne)
                (ap (λ w. w % 2) (applied-other core.words op (8 + d) (λ at. ne (let on : op_place op ≡ 8 + c = refl in omega (arith, at, on))))
                ∙ inv.right d l)
          ];
          holds = λ k. elim (cases_eq k c) [
            | inl e ↦ rw e (rw (get_or-set_same core.locals c mine (fresh core.env) place) (subst (MayHoldAs over) (sym no_job) tt))
            | inr ne ↦ rw (get_or-set_other core.locals c k mine (fresh core.env) ne) (inv.holds k)
          ];
        }
      where
        in_none : (over : Bool) → is_in over false ≡ over
        in_none false = refl
        in_none true = refl

    -- who doesn't hold its section open may open it
    pub enter_keeps : (local_of core c).held ≡ false → InvHeld (turned_by core c true) (with_from G c (Some G.current))
    enter_keeps none = go (G.from c) refl (subst (λ b. IsOpenAs b (G.from c)) none open_now)
      where
        go : (from : Option ℕ) → G.from c ≡ from → IsOpenAs false from → InvHeld (turned_by core c true) (with_from G c (Some G.current))
        go None is open_as_is =
            keeps true (Some G.current)
            (enter_turns env mix c holds_no known_nothing refl core.words G sound.stays.all_words inv.whole low is
            (idle_knows env mix L c (local_of core c).doing M G idle (inv.each c)))
            (ap (λ b. odd_by b + 1) none)
        go (Some first) is open_as_is = absurd open_as_is

    -- and who does may close it
    pub leave_keeps : (local_of core c).held ≡ true → InvHeld (turned_by core c false) (with_from G c None)
    leave_keeps over = go (G.from c) refl (subst (λ b. IsOpenAs b (G.from c)) over open_now)
      where
        go : (from : Option ℕ) → G.from c ≡ from → IsOpenAs true from → InvHeld (turned_by core c false) (with_from G c None)
        go None is open_as_is = absurd open_as_is
        go (Some first) is open_as_is =
            keeps false None
            (leave_turns env mix c holds_no known_nothing refl core.words G sound.stays.all_words inv.whole low first is refl refl
            (idle_knows env mix L c (local_of core c).doing M G idle (inv.each c)))
            (ap (λ b. odd_by b + 0) over)
