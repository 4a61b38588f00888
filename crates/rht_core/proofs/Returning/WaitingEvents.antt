-- What is kept for waiting nodes, by the calls of all callers, behind an event, while the words are those before it; and that a node which is
-- given back then no section has met.
use Rattle.std.proofs.Common.{◌≡◌, ℕ, ◌<◌, ◌^◌, List, Option, Some, None, Bool, true, false, refl, sym, ◌∙◌, ap, subst, inl, inr, arith}
use Rattle.std.specs.Prelude.{slice_index, option_map}
use Rattle.std.specs.Int.{bit_at}
use Rattle.std.proofs.lemmas.Bool.{cases_eq}
use Rattle.std.proofs.lemmas.Nat.Bits.{bit_at-pow_same, bit_at-pow_other}
use Rattle.rht_words.specs.declared.op.Op.{Op}
use Rattle.rht_words.specs.declared.op.Op.TheVariants.{Or}
use Rattle.rht_words.specs.declared.env.Env.{Env}
use Rattle.rht_ghost.proofs.Pieces.HeldSections.{of_its_own}
use Rattle.rht_words.specs.declared.geometry.Geometry.{Geometry}
use Rattle.rht_words.specs.Maps.{bit_of}
use Rattle.rht_words.specs.Operations.{op_place, op_value, old_of}
use Rattle.rht_words.proofs.EachElement.{each_set}
use Rattle.rht_words.proofs.Memory.{Memory}
use Rattle.rht_model.specs.declared.history.Call.{Call}
use Rattle.rht_model.specs.declared.history.Call.TheVariants.{Tidy}
use Rattle.rht_core.proofs.Machines.HeldSteps.{soft-none, soft-old, none_over}
use Rattle.rht_arena.specs.Laws.{map_place, map_bit}
use Rattle.rht_grace.specs.Batch.{BatchModel}
use Rattle.rht_grace.specs.Tidy.{plan_at, give_of}
use Rattle.rht_grace.specs.declared.tidy.TidyAt.{TidyAt}
use Rattle.rht_grace.specs.declared.tidy.TidyAt.TheVariants as at
use Rattle.rht_callers.specs.declared.local.Local.{Local}
use Rattle.rht_callers.specs.declared.local.Doing.{Doing}
use Rattle.rht_callers.specs.declared.local.Doing.TheVariants.{Idle, Tidying}
use Rattle.rht_callers.specs.Locals.{fresh, does_nothing, doing_plan, soft, may_hold, begin_with, local_after}
use Rattle.rht_core.specs.declared.event.Event.{Event}
use Rattle.rht_core.specs.declared.event.Event.TheVariants.{Enroll, Begin, Step}
use Rattle.rht_core.specs.Jobs.{job_after, held_of, held_next}
use Rattle.rht_core.specs.Laws.{IsDoingIn}
use Rattle.rht_core.specs.Runs.{Core, core_step, with_step, with_machine, local_of, beginning_in, planned_in}
use Rattle.rht_core.specs.Tidyings.{IsTidyPlace}
use Rattle.rht_core.proofs.Events.Invariants.{StepOf}
use Rattle.rht_core.proofs.Events.OwnBatches.{tidying-of}
use Rattle.rht_core.proofs.Events.RangesInRuns.{AllIn}
use Rattle.rht_core.proofs.Events.SoundRuns.{has_place, made_in}
use Rattle.rht_core.proofs.Events.Worlds.{beginning-some, planned-some}
use Rattle.rht_ghost.proofs.Theory.Ghosts.{Ghost}
use Rattle.rht_ghost.proofs.Theory.Steps.{ReturnsNode, DoesReturnNode, Does, bare, mem}
use Rattle.rht_core.proofs.Returning.MetBySome.{IsApart}
use Rattle.rht_core.proofs.Returning.Readers.{Reader, ReaderRight}
use Rattle.rht_core.proofs.Returning.WaitingBatches.{tidies_in, waits_own, waits_of, has_loaded, begun_of, after_of}
use Rattle.rht_core.proofs.Returning.WaitingNodes.{waits_at, given_unmet}

-- one bit says one place in a word, so that two nodes of one bit are one
same_bit : (a b : ℕ) → 2 ^ a ≡ 2 ^ b → a ≡ b
same_bit a b same = elim (cases_eq a b) [
  | inl is ↦ is
  | inr other ↦
      let one = bit_at-pow_same a in
      let none = bit_at-pow_other b a other in
      let both = ap (λ w. bit_at w a) same in absurd (omega (arith, one, none, both))
]

same_node : (g : Geometry) (n m : ℕ) → map_place g n ≡ map_place g m → bit_of (map_bit n) ≡ bit_of (map_bit m) → n ≡ m
same_node g n m place bit = let in_word = same_bit (map_bit n) (map_bit m) bit in omega (arith, place, in_word)

module _ (env : Env) (mix : ℕ → ℕ → ℕ → ℕ) (L : Type 0) where
  -- what a caller does in range is a tidying in range, or none
  pub tidies-of : (c : ℕ) (doing : Doing L) → IsDoingIn env c doing → tidies_in env mix L doing
  tidies-of c (Tidying m) within = within
  tidies-of c _ within = tt

  -- who is in no call has its batch
  idle-own : (M : Memory) (readers : ℕ → Reader) (doing : Doing L) (batch : Option BatchModel) → does_nothing doing ≡ true
      → waits_of env mix L M readers doing batch → waits_own env mix L M readers batch
  idle-own M readers Idle batch idle waits = waits
  idle-own M readers doing batch idle waits = absurd (cc)

  -- the word that a load of a tidying found
  loaded-of : (words : List ℕ) (readers : ℕ → Reader) (over : Bool) (doing : Doing L) (op : Op)
      → option_map (soft over) (doing_plan doing) ≡ Some op
      → has_loaded env mix L (mem env mix words) readers doing (old_of words op)
  loaded-of words readers over (Tidying m) op plan = λ caller either. elim either [
    | inl is ↦ planned (at.Keeping caller) is
    | inr is ↦ planned (at.Asking caller) is
  ]
    where
      planned : (state : TidyAt) → m.at ≡ state → old_of words op ≡ old_of words (plan_at m.geometry m.batch state)
      planned state is =
          let same : soft over (plan_at m.geometry m.batch m.at) ≡ op = cc in
          ap (old_of words) (sym same) ∙ soft-old over (plan_at m.geometry m.batch m.at) words
          ∙ ap (λ s. old_of words (plan_at m.geometry m.batch s)) is
  loaded-of words readers over doing op plan = tt

  -- of each caller, by the words of the first of these and the calls of the second
  abbrev pub Waits : Core L → (ℕ → Reader) → ℕ → Local L → Type 0
  Waits core readers c local = c < env.geometry.callers → waits_of env mix L (mem env mix core.words) readers local.doing local.batch

  abbrev pub AllWait : Core L → (ℕ → Reader) → Core L → Type 0
  AllWait core readers core' = (c : ℕ) → Waits core readers c (local_of core' c)

  module _ (core : Core L) (all : AllIn L mix env core) (readers : ℕ → Reader) where
    abbrev M : Memory
    M = mem env mix core.words

    begin_waits : (c : ℕ) (call : Call) (start : ℕ) (machine : Option (Doing L)) → beginning_in core c call start ≡ machine → AllWait core readers core
        → AllWait core readers (record core { locals = with_machine core.env core.locals c machine })
    begin_waits c call start None is waits = waits
    begin_waits c call start (Some machine) is waits =
        let can = beginning-some core.env core.enrolled core.locals c call start machine is in
        let place = has_place L mix env core c all.stays can.below in
        let local = local_of core c in
        each_set (Waits core readers) (fresh core.env) core.locals c (begin_with local machine) place
        (λ low. begun_of env mix L M readers c local.batch start call machine (made_in L mix env core c call start machine all.stays can)
        (idle-own M readers local.doing local.batch can.idle (waits c low)))
        waits

    step_waits : (c : ℕ) (plan : Option Op) → planned_in core c ≡ plan → AllWait core readers core → AllWait core readers (with_step mix core c plan).0
    step_waits c None is waits = waits
    step_waits c (Some op) is waits =
        let can = planned-some core.env core.enrolled core.locals c op is in
        let place = has_place L mix env core c all.stays can.below in
        let local = local_of core c in
        let old = old_of core.words op in
        each_set (Waits core readers) (fresh core.env) core.locals c (local_after mix local old).0 place
        (λ low. after_of env mix L M readers local.doing local.batch old (tidies-of c local.doing (all.locals c).doing)
        (loaded-of core.words readers local.held local.doing op can.plan) (waits c low))
        waits

    pub event_waits : (event : Event) → AllWait core readers core → AllWait core readers (core_step mix core event).0
    event_waits Enroll waits = waits
    event_waits (Begin c call start) waits = begin_waits c call start (beginning_in core c call start) refl waits
    event_waits (Step c) waits = step_waits c (planned_in core c) refl waits

    -- ---- a node that is given back

    module _ (G : Ghost) (right : (d : ℕ) → d < env.geometry.callers → ReaderRight env mix M G d (readers d)) (c : ℕ) (op : Op)
        (of : StepOf env mix L core G c op) (planned : planned_in core c ≡ Some op) (n : ℕ) (returns : of.step.move ≡ ReturnsNode n) where
      gives : op ≡ Or (map_place env.geometry n) (bit_of (map_bit n))
      gives =
          let does : DoesReturnNode env.geometry n op (of_its_own (local_of core c).held (held_of of.job)) (bare (of_its_own (local_of core c).held (held_next (job_after mix env of.job (old_of core.words op))))) =
          subst (λ move. Does env mix move op (old_of core.words op) (of_its_own (local_of core c).held (held_of of.job))
          (of_its_own (local_of core c).held (held_next (job_after mix env of.job (old_of core.words op))))) returns of.step.does in
          does.giving

      by_state : (batch : BatchModel) (state : TidyAt) → IsTidyPlace env.geometry batch state → op ≡ plan_at env.geometry batch state
          → waits_at env mix M readers batch state → IsApart env.geometry.callers readers n
      by_state batch (at.Keeping caller) place plan waits = absurd (let both = sym plan ∙ gives in cc)
      by_state batch (at.Asking caller) place plan waits = absurd (let both = sym plan ∙ gives in cc)
      by_state batch (at.Giving index) place plan waits = λ d low.
          let node = slice_index batch.waiting index in
          let both : give_of env.geometry node ≡ Or (map_place env.geometry n) (bit_of (map_bit n)) = sym plan ∙ gives in
          let same : node ≡ n = same_node env.geometry node n (ap op_place both) (ap op_value both) in
          subst (λ k. (readers d).lists k ≡ false) same (given_unmet env mix M readers G batch index place right waits d low)

      pub given_apart : AllWait core readers core → IsApart env.geometry.callers readers n
      given_apart waits =
          let local = local_of core c in
          let can = planned-some core.env core.enrolled core.locals c op planned in
          let tidying = tidying-of L local.doing of.job of.is (of.step.returning n returns) in
          let m = tidying.0 in
          let within = subst (IsDoingIn env c) tidying.1 (all.locals c).doing in
          let over = (local_of core c).held in
          let may : may_hold over Tidy ≡ true = subst (λ call. may_hold over call ≡ true) (of.step.returning n returns) of.may in
          let plan : plan_at m.geometry m.batch m.at ≡ op =
          (let is : Some (soft over (plan_at m.geometry m.batch m.at)) ≡ Some op =
          ap (option_map (soft over)) (sym (ap doing_plan tidying.1)) ∙ can.plan in
          let same : soft over (plan_at m.geometry m.batch m.at) ≡ op = cc in
          sym (ap (λ o. soft o (plan_at m.geometry m.batch m.at)) (none_over over may) ∙ soft-none (plan_at m.geometry m.batch m.at)) ∙ same) in
          by_state m.batch m.at within.at_in.at_in
          (sym plan ∙ ap (λ g. plan_at g m.batch m.at) within.same_geometry)
          (subst (λ doing. waits_of env mix L M readers doing local.batch) tidying.1 (waits c of.low))
