-- In every run a caller's section word is odd just where the call that it is in has opened its read section and not closed it.
-- An operation is on no section word, or leaves the word that it finds, or it opens or closes the section of its own caller, and adds 1 to
-- that word. Of each move it is enough to see on which word its operation is. Nothing here rests on which machines open sections.
use Rattle.rht_ghost.proofs.Pieces.HeldSections.{of_its_own, is_in}
use Rattle.std.proofs.Common.{◌≡◌, ◌≢◌, ◌⊎◌, ℕ, ◌+◌, ◌*◌, ◌/◌, ◌%◌, ◌<◌, ◌≤◌, Bool, true, false, List, Some, None, length, slice_index, take, drop, refl, sym, ap, ◌∙◌, subst, inl, inr, arith}
use Rattle.std.specs.Prelude.{Option}
use Rattle.std.specs.Int.{bit_at}
use Rattle.std.proofs.lemmas.Bool.{cases_eq}
use Rattle.std.proofs.lemmas.List.{get_or-set_same, get_or-set_other, take-append-drop}
use Rattle.std.proofs.lemmas.Nat.Bits.{bit_at_lowest, same_from_bits_below}
use Rattle.rht_words.specs.declared.op.Op.{Op}
use Rattle.rht_words.specs.declared.op.Op.TheVariants.{Add}
use Rattle.rht_words.specs.declared.env.Env.{Env}
use Rattle.rht_words.specs.declared.geometry.Geometry.{Geometry}
use Rattle.rht_words.specs.declared.machine.Next.{Next}
use Rattle.rht_words.specs.declared.machine.Next.TheVariants.{Go, Done}
use Rattle.rht_words.specs.Operations.{op_place, old_of, word_after, applied}
use Rattle.rht_words.specs.Places.{Section, FutureWord, StateWord, LoadedSection, PageMap, Node, NodeWord, ChainLink, PageWord, nodes_at, slot_offset, place_of, word_at, words_in}
use Rattle.rht_words.proofs.Memory.{Memory, is_write}
use Rattle.rht_words.proofs.OpeningLaws.{stand_in_place}
use Rattle.rht_words.proofs.PlacesApart.{parts_in_order}
use Rattle.rht_words.proofs.PlannedWords.{old_of-fits, word_after-fits}
use Rattle.rht_words.proofs.EachElement.{AllByRecursion-cut, each_set}
use Rattle.rht_words.proofs.WordChanges.{applied-other}
use Rattle.rht_model.specs.declared.history.Call.{Call}
use Rattle.rht_model.specs.Endings.{Ending}
use Rattle.rht_callers.specs.declared.local.Local.{Local}
use Rattle.rht_callers.specs.declared.local.Doing.{Doing}
use Rattle.rht_callers.specs.Locals.{fresh, is_idle, does_nothing, begin_with, local_after}
use Rattle.rht_core.specs.declared.event.Event.{Event}
use Rattle.rht_core.specs.declared.event.Event.TheVariants.{Enroll, Begin, Step}
use Rattle.rht_core.specs.Jobs.{Job, job_after, job_of, told, held_of, held_next}
use Rattle.rht_core.specs.Runs.{Core, World, core_step, with_step, with_machine, local_of, beginning_in, run_of, opening, planned_in, enrolling, IsAdmitted, IsAdmittedEvent}
use Rattle.rht_core.specs.Sections.{IsInNoSection, Sections, AddsToOwn, OwnSections}
use Rattle.rht_ghost.proofs.Theory.Ghosts.{Ghost}
use Rattle.rht_ghost.proofs.Theory.Steps.{bare, Holding, mem, LeavesBits, IsAside, Move, Quiet, TakesNode, GivesNode, TakesLock, DropsLock, Raises, Links, Lowers, Rebinds, LinksBehind, Arms, TakesSlot, GivesSlot, TakesPages, GivesPages, TakesWork, GivesWork, BeginsMoving, TakesSecond, Leaves, Arrives, CutsOff, Publishes, Retires, KeepsWord, Settles, Withdraws, TakesBack, Opens, Closes, ReturnsNode, ReadyFor, Does}
use Rattle.rht_ghost.proofs.Theory.Steps as moves
use Rattle.rht_core.proofs.Events.Worlds.{beginning-some, planned-some, run_keeps_admitted}
use Rattle.rht_core.proofs.Events.SoundRuns.{has_place, made_in}
use Rattle.rht_core.proofs.Events.RangesInRuns.{event-all, opens-all, planned_now}
use Rattle.rht_core.proofs.Events.JobsOfCallers.{is_no_job, nothing-job, left-job, first_job-machine, first_holds}
use Rattle.rht_core.proofs.Events.Invariants.{kept, step_of}
pub use Rattle.rht_core.proofs.Events.SectionMoves.{SparesSections, odd_by, by_move, in_section, AreRight}
use Rattle.rht_core.proofs.Events.SectionMoves.{idle_outside}
use Rattle.rht_core.proofs.Events.InvariantRuns.{HasInv, has_inv, idle_at_opening, opening_ghost, opening_inv}

module _ (env : Env) (mix : ℕ → ℕ → ℕ → ℕ) where
  module _ (L : Type 0) where
    pub event_right : (core : Core L) (event : Event) → HasInv env mix L core → AreRight env mix L (core_step mix core event).0
    event_right core event has = (kept env mix L core has.ghost event has.all has.inv).inv.right

    -- the section word of each caller is odd where its call has its section open, and even where it hasn't, or in no call
    pub section_parity : (events : List Event) → IsAdmitted events → AreRight env mix L (run_of {M = L} mix env events).core
    section_parity events admitted = (has_inv env mix L events admitted).inv.right

    -- so that of a caller in no call is even
    pub in_no_section : (events : List Event) → IsAdmitted events → (c : ℕ) → c < env.geometry.callers
        → is_idle (local_of (run_of {M = L} mix env events).core c) ≡ true
        → IsInNoSection env.geometry (run_of {M = L} mix env events).core.words c
    in_no_section events admitted c below idle =
        let within = env.geometry.within.callers_within in
        section_parity events admitted c (omega (arith, below, within.1))
        ∙ ap (λ over. odd_by (is_in over (in_section (job_of (local_of (run_of {M = L} mix env events).core c).doing))))
        ((has_inv env mix L events admitted).inv.rests c)
        ∙ ap odd_by (idle_outside (local_of (run_of {M = L} mix env events).core c).doing idle)

pub sections : (M : Type 0) (mix : ℕ → ℕ → ℕ → ℕ) → Sections M mix
sections M mix env events c admitted below idle = in_no_section env mix M events admitted c below idle

-- ---- each operation

pub own_sections : (M : Type 0) (mix : ℕ → ℕ → ℕ → ℕ) → OwnSections M mix
own_sections M mix env events c d did admitted low recorded on =
    let before = take did.index events in
    let first = (AllByRecursion-cut IsAdmittedEvent before (drop did.index events)
    (subst IsAdmitted (sym (take-append-drop did.index events)) admitted)).0 in
    let core : Core M = (run_of mix env before).core in
    let has = has_inv env mix M before first in
    let of = step_of env mix M core has.ghost c did.op has.all has.inv recorded.plan in
    let old = old_of core.words did.op in
    let fits = planned_now M mix env before first c did.op
    (planned-some core.env core.enrolled core.locals c did.op recorded.plan).plan in
    let found = old_of-fits core.words did.op has.all.words in
    subst (λ word. (word_after word did.op ≡ word) ⊎ AddsToOwn env.geometry c d did.op) recorded.found
    (elim (by_move env mix c (mem env mix core.words) has.ghost did.op old (of_its_own (local_of core c).held (held_of of.job))
    (of_its_own (local_of core c).held (held_next (job_after mix env of.job old))) of.step.move of.step.ready of.step.does) [
      | inl kept_so ↦ elim kept_so.spares [
        | inl before ↦ absurd (omega (arith, on, before))
        | inr (inl behind) ↦ absurd (omega (arith, on, low, behind))
        | inr (inr leaves) ↦
            inl (same_from_bits_below 64 (word_after old did.op) old (word_after-fits old did.op found fits.fits) found leaves)
      ]
      | inr turns ↦
          inr ((let there : op_place did.op ≡ 8 + c = ap op_place turns.adds in omega (arith, on, there)), turns.adds)
    ])
