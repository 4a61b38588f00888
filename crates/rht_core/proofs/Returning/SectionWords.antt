-- An event leaves each section word as it is, or turns whether it is odd. It leaves it unless it is an operation of the section's own caller
-- that adds 1 to it.
use Rattle.rht_core.specs.Runs.{local_of}
use Rattle.std.proofs.Common.{◌≡◌, ◌≢◌, ◌⊎◌, ℕ, ◌+◌, ◌%◌, ◌<◌, List, length, Option, Some, None, refl, sym, ◌∙◌, ap, subst, inl, inr, arith}
use Rattle.std.specs.Prelude.{slice_index}
use Rattle.std.specs.Int.{bit_at}
use Rattle.std.specs.List.{AllByRecursion}
use Rattle.std.proofs.lemmas.Bool.{cases_eq}
use Rattle.std.proofs.lemmas.Nat.Bits.{same_from_bits_below}
use Rattle.rht_words.specs.declared.env.Env.{Env}
use Rattle.rht_ghost.proofs.Pieces.HeldSections.{of_its_own}
use Rattle.rht_words.specs.declared.op.Op.{Op}
use Rattle.rht_words.specs.declared.op.Op.TheVariants.{Add}
use Rattle.rht_words.specs.Operations.{op_place, old_of, word_after, applied}
use Rattle.rht_words.specs.Places.{Section, place_of, words_in, word_at}
use Rattle.rht_words.specs.Planned.{IsWord}
use Rattle.rht_words.proofs.EachElement.{AllByRecursion-get_or}
use Rattle.rht_words.proofs.Memory.{is_write}
use Rattle.rht_words.proofs.WordChanges.{applied-other}
use Rattle.rht_core.specs.declared.event.Event.{Event}
use Rattle.rht_core.specs.declared.event.Event.TheVariants.{Enroll, Begin, Step}
use Rattle.rht_core.specs.Jobs.{job_after, held_of, held_next}
use Rattle.rht_core.specs.Runs.{Core, core_step, with_step, enrolling, planned_in}
use Rattle.rht_core.proofs.Events.Invariants.{Inv, StepOf, step_of}
use Rattle.rht_core.proofs.Events.RangesInRuns.{AllIn}
use Rattle.rht_core.proofs.Events.SectionsInRuns.{SparesSections, by_move}
use Rattle.rht_ghost.proofs.Theory.Ghosts.{Ghost}
use Rattle.rht_ghost.proofs.Theory.Steps.{Move, Holding, ReadyFor, Does, mem}

module _ (env : Env) (mix : ℕ → ℕ → ℕ → ℕ) (L : Type 0) where
  abbrev section : List ℕ → ℕ → ℕ
  section words d = word_at env.geometry words (Section d)

  -- the word is the same, or odd where it was even, or even where it was odd
  abbrev pub SameOrTurned : List ℕ → List ℕ → ℕ → Type 0
  SameOrTurned words words' d = (section words' d ≡ section words d) ⊎ (section words' d % 2 ≢ section words d % 2)

  fits : (words : List ℕ) → AllByRecursion IsWord words → (d : ℕ) → IsWord (section words d)
  fits words all d = AllByRecursion-get_or IsWord words (8 + d) 0 (omega arith) all

  module _ (words : List ℕ) (op : Op) (all : length words ≡ words_in env.geometry) (each : AllByRecursion IsWord words)
      (each' : AllByRecursion IsWord (applied words op)) (d : ℕ) (low : d < 16) where
    -- where the operation spares section words, this one stays
    spared-same : SparesSections op (old_of words op) → section (applied words op) d ≡ section words d
    spared-same spares = elim (cases_eq (8 + d) (op_place op)) [
      | inr other ↦ applied-other words op (8 + d) other
      | inl at ↦ elim spares [
        | inl before ↦ absurd (omega (arith, at, before))
        | inr (inl behind) ↦ absurd (omega (arith, at, low, behind))
        | inr (inr leaves) ↦
            let write = is_write env.geometry words (Section d) op all low (sym at) in
            let here : old_of words op ≡ section words d = ap (slice_index words) (sym at) in
            same_from_bits_below 64 (section (applied words op) d) (section words d) (fits (applied words op) each' d) (fits words each d)
            (λ bit below.
            ap (λ word. bit_at word bit) write.same
            ∙ subst (λ old. bit_at (word_after old op) bit ≡ bit_at old bit) here (leaves bit below))
      ]
    ]

    -- an operation of a caller leaves it, or turns it where it is the caller's own
    op_turns : (G : Ghost) (c : ℕ) (h h' : Holding) (move : Move) → c < 16 → ReadyFor env mix c (mem env mix words) G move
        → Does env mix move op (old_of words op) h h' → SameOrTurned words (applied words op) d
    op_turns G c h h' move few ready does = elim (by_move env mix c (mem env mix words) G op (old_of words op) h h' move ready does) [
      | inl keeps ↦ inl (spared-same keeps.spares)
      | inr turns ↦ elim (cases_eq d c) [
        | inl same ↦
            let adds = subst (λ k. op ≡ Add (place_of env.geometry (Section k)) 1) (sym same) turns.adds in
            let write = is_write env.geometry words (Section d) op all low (ap op_place adds) in
            let then = write.same ∙ ap (word_after (section words d)) adds in
            inr (λ even. absurd (omega (arith, then, even)))
        | inr ne ↦
            inl (applied-other words op (8 + d) (λ at. ne (let on = ap op_place turns.adds in omega (arith, at, on))))
      ]
    ]

    -- and it turns none but the caller's own, by adding 1 to it
    op_same : (G : Ghost) (c : ℕ) (h h' : Holding) (move : Move) → ReadyFor env mix c (mem env mix words) G move
        → Does env mix move op (old_of words op) h h' → (d ≡ c → op ≢ Add (place_of env.geometry (Section d)) 1)
        → section (applied words op) d ≡ section words d
    op_same G c h h' move ready does apart = elim (by_move env mix c (mem env mix words) G op (old_of words op) h h' move ready does) [
      | inl keeps ↦ spared-same keeps.spares
      | inr turns ↦ elim (cases_eq d c) [
        | inl same ↦ absurd (apart same (subst (λ k. op ≡ Add (place_of env.geometry (Section k)) 1) (sym same) turns.adds))
        | inr ne ↦ applied-other words op (8 + d) (λ at. ne (let on = ap op_place turns.adds in omega (arith, at, on)))
      ]
    ]

  -- a step leaves the section word of each caller but its own, and that too unless it adds 1 to it
  pub step_same : (core : Core L) (G : Ghost) (c : ℕ) (op : Op) → AllIn L mix env core → AllIn L mix env (core_step mix core (Step c)).0
      → StepOf env mix L core G c op → planned_in core c ≡ Some op → (d : ℕ) → d < 16
      → (d ≡ c → op ≢ Add (place_of env.geometry (Section d)) 1) → section (applied core.words op) d ≡ section core.words d
  step_same core G c op all all' of plan d low apart =
      let same : (core_step mix core (Step c)).0.words ≡ applied core.words op = ap (λ o. (with_step mix core c o).0.words) plan in
      op_same core.words op of.all all.words (subst (AllByRecursion IsWord) same all'.words) d low G c (of_its_own (local_of core c).held (held_of of.job))
      (of_its_own (local_of core c).held (held_next (job_after mix env of.job (old_of core.words op)))) of.step.move of.step.ready of.step.does apart

  -- the event is no operation of the caller
  abbrev pub IsOthers : Core L → Event → ℕ → Type 0
  IsOthers core Enroll d = Unit {0}
  IsOthers core (Begin c call start) d = Unit {0}
  IsOthers core (Step c) d = (d ≢ c) ⊎ (planned_in core c ≡ None)

  pub others_same : (core : Core L) (G : Ghost) (event : Event) → AllIn L mix env core → AllIn L mix env (core_step mix core event).0
      → Inv env mix L core G → (d : ℕ) → d < 16 → IsOthers core event d
      → section (core_step mix core event).0.words d ≡ section core.words d
  others_same core G Enroll all all' inv d low others =
      applied-other core.words (enrolling core.env) (8 + d) (λ at. absurd (omega (arith, at, low)))
  others_same core G (Begin c call start) all all' inv d low others = refl
  others_same core G (Step c) all all' inv d low (inr none) = ap (λ o. section (with_step mix core c o).0.words d) none
  others_same core G (Step c) all all' inv d low (inl ne) = go (planned_in core c) refl
    where
      go : (plan : Option Op) → planned_in core c ≡ plan → section (core_step mix core (Step c)).0.words d ≡ section core.words d
      go None is = ap (λ o. section (with_step mix core c o).0.words d) is
      go (Some op) is =
          ap (λ o. section (with_step mix core c o).0.words d) is
          ∙ step_same core G c op all all' (step_of env mix L core G c op all inv is) is d low (λ same. absurd (ne same))

  -- so does an event
  pub event_turns : (core : Core L) (G : Ghost) (event : Event) → AllIn L mix env core → AllIn L mix env (core_step mix core event).0
      → Inv env mix L core G → (d : ℕ) → d < 16 → SameOrTurned core.words (core_step mix core event).0.words d
  event_turns core G Enroll all all' inv d low =
      inl (applied-other core.words (enrolling core.env) (8 + d) (λ at. absurd (omega (arith, at, low))))
  event_turns core G (Begin c call start) all all' inv d low = inl refl
  event_turns core G (Step c) all all' inv d low = go (planned_in core c) refl
    where
      go : (plan : Option Op) → planned_in core c ≡ plan → SameOrTurned core.words (core_step mix core (Step c)).0.words d
      go None is = inl (ap (λ o. section (with_step mix core c o).0.words d) is)
      go (Some op) is =
          let same : (core_step mix core (Step c)).0.words ≡ applied core.words op = ap (λ o. (with_step mix core c o).0.words) is in
          let of = step_of env mix L core G c op all inv is in
          subst (λ words. SameOrTurned core.words words d) (sym same)
          (op_turns core.words op of.all all.words (subst (AllByRecursion IsWord) same all'.words) d low G c (of_its_own (local_of core c).held (held_of of.job))
          (of_its_own (local_of core c).held (held_next (job_after mix env of.job (old_of core.words op)))) of.step.move of.few of.step.ready of.step.does)
