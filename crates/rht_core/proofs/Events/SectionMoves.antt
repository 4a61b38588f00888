-- Each operation of a caller leaves the section words odd or even that it finds, or opens or closes its own caller's section. So each section word
-- is odd just where its caller's call has its section open.
-- Of each move it is enough to see on which word its operation is. Nothing here rests on which machines open sections.
use Rattle.std.proofs.Common.{◌≡◌, ◌≢◌, ◌⊎◌, ℕ, ◌+◌, ◌*◌, ◌/◌, ◌%◌, ◌<◌, ◌≤◌, Bool, true, false, List, Some, None, length, slice_index, take, drop, refl, sym, ap, ◌∙◌, subst, inl, inr, arith}
use Rattle.std.specs.Prelude.{Option}
use Rattle.std.specs.Int.{bit_at}
use Rattle.std.proofs.lemmas.Bool.{cases_eq}
use Rattle.std.proofs.lemmas.List.{get_or-set_same, get_or-set_other, take-append-drop}
use Rattle.std.proofs.lemmas.Nat.Bits.{bit_at_lowest, same_from_bits_below}
use Rattle.rht_words.specs.declared.op.Op.{Op}
use Rattle.rht_words.specs.declared.op.Op.TheVariants.{Add}
use Rattle.rht_words.specs.declared.env.Env.{Env}
use Rattle.rht_words.specs.declared.geometry.Geometry.{Geometry}
use Rattle.rht_words.specs.declared.machine.Next.{Next}
use Rattle.rht_words.specs.declared.machine.Next.TheVariants.{Go, Done}
use Rattle.rht_words.specs.Operations.{op_place, old_of, word_after, applied}
use Rattle.rht_words.specs.Places.{Section, FutureWord, StateWord, LoadedSection, PageMap, Node, NodeWord, ChainLink, PageWord, nodes_at, slot_offset, place_of, word_at, words_in}
use Rattle.rht_words.proofs.Memory.{Memory, is_write}
use Rattle.rht_words.proofs.PlacesApart.{parts_in_order}
use Rattle.rht_words.proofs.PlannedWords.{old_of-fits, word_after-fits}
use Rattle.rht_words.proofs.EachElement.{AllByRecursion-cut, each_set}
use Rattle.rht_words.proofs.WordChanges.{applied-other}
use Rattle.rht_model.specs.declared.history.Call.{Call}
use Rattle.rht_model.specs.Endings.{Ending}
use Rattle.rht_callers.specs.declared.local.Local.{Local}
use Rattle.rht_callers.specs.declared.local.Doing.{Doing}
use Rattle.rht_callers.specs.Locals.{fresh, is_idle, does_nothing, begin_with, local_after}
use Rattle.rht_core.specs.declared.event.Event.{Event}
use Rattle.rht_core.specs.declared.event.Event.TheVariants.{Enroll, Begin, Step}
use Rattle.rht_core.specs.Jobs.{Job, job_after, job_of, told, held_of, held_next}
use Rattle.rht_core.specs.Runs.{Core, World, core_step, with_step, with_machine, local_of, beginning_in, run_of, opening, planned_in, enrolling, IsAdmitted, IsAdmittedEvent}
use Rattle.rht_ghost.proofs.Theory.Ghosts.{Ghost}
use Rattle.rht_ghost.proofs.Theory.Steps.{bare, Holding, mem, LeavesBits, IsAside, Move, Quiet, TakesNode, GivesNode, TakesLock, DropsLock, Raises, Links, Lowers, Rebinds, LinksBehind, Arms, TakesSlot, GivesSlot, TakesPages, GivesPages, TakesWork, GivesWork, BeginsMoving, TakesSecond, Leaves, Arrives, CutsOff, Publishes, Retires, KeepsWord, Settles, Withdraws, TakesBack, Opens, Closes, ReturnsNode, ReadyFor, Does}
use Rattle.rht_ghost.proofs.Theory.Steps as moves
use Rattle.rht_core.proofs.Events.Worlds.{beginning-some, planned-some, run_keeps_admitted}
use Rattle.rht_core.proofs.Events.SoundRuns.{has_place, made_in}
use Rattle.rht_core.proofs.Events.JobsOfCallers.{is_no_job, nothing-job, left-job, first_job-machine, first_holds}
use Rattle.rht_core.proofs.Events.RangesInRuns.{AllIn}
use Rattle.rht_core.proofs.Events.StepsOfCallers.{StepOf}
pub use Rattle.rht_core.proofs.Events.StepsOfCallers.{in_section}
use Rattle.rht_ghost.proofs.Theory.Knowledge.{IsOpenAs}
use Rattle.rht_ghost.proofs.Pieces.HeldSections.{opened_itself, of_its_own, is_in}
use Rattle.rht_ghost.proofs.Theory.Wholes.{IsTurned}

-- The operation is on no section word, or leaves each bit of its word.
abbrev pub SparesSections : Op → ℕ → Type 0
SparesSections op old = (op_place op < 8) ⊎ (24 ≤ op_place op) ⊎ LeavesBits op old

-- what a section word is odd by, while the section is open and while it isn't
abbrev pub odd_by : Bool → ℕ
odd_by true = 1
odd_by false = 0

sum_is : (a b : ℕ) {x y : ℕ} → a ≡ x → b ≡ y → a + b ≡ x + y
sum_is a b first second = omega (arith, first, second)

-- ---- each move

module _ (g : Geometry) (op : Op) (old : ℕ) where
  first_word : (place : ℕ) → place < 8 → op_place op ≡ place → SparesSections op old
  first_word place low on = inl (omega (arith, low, on))

  -- the words of slots stand behind those of sections, and those of maps, nodes and pages behind these
  at_slot : (slot offset : ℕ) → op_place op ≡ 24 + 32 * slot + offset → SparesSections op old
  at_slot slot offset on = inr (inl (omega (arith, on)))

  behind_slots : (index : ℕ) → op_place op ≡ 280 + index → SparesSections op old
  behind_slots index on = inr (inl (omega (arith, on)))

  behind_maps : nodes_at g ≤ op_place op → SparesSections op old
  behind_maps from = let order = parts_in_order g in inr (inl (omega (arith, from, order.nodes, order.page_map)))

  in_page_map : (index : ℕ) → op_place op ≡ place_of g (PageMap index) → SparesSections op old
  in_page_map index on = let order = parts_in_order g in inr (inl (omega (arith, on, order.page_map)))

  at_node : (node : ℕ) (word : NodeWord) → op_place op ≡ place_of g (Node node word) → SparesSections op old
  at_node node word on = behind_maps (omega (arith, on))

  in_pages : (index : ℕ) → op_place op ≡ place_of g (PageWord index) → SparesSections op old
  in_pages index on = let order = parts_in_order g in behind_maps (omega (arith, on, order.pages))

  aside : (h : Holding) → LeavesBits op old ⊎ IsAside g op h → SparesSections op old
  aside h (inl leaves) = inr (inr leaves)
  aside h (inr (inl own)) = at_node own.node own.word own.place
  aside h (inr (inr (inl own))) = at_slot own.slot (slot_offset own.word) own.place
  aside h (inr (inr (inr serial))) = first_word 3 (omega arith) (ap op_place serial)

module _ (env : Env) (mix : ℕ → ℕ → ℕ → ℕ) (c : ℕ) (M : Memory) (G : Ghost) (op : Op) (old : ℕ) (h h' : Holding) where
  abbrev g : Geometry
  g = env.geometry

  -- the operation spares the section words, and the call's section is open behind it where it was before
  pub record KeepsSections : Type 0 where
    pub spares : SparesSections op old
    pub same : h'.section ≡ h.section

  -- or it adds 1 to the word of this caller, whose section is open before it or behind it, and not both
  pub record TurnsSection (d : ℕ) : Type 0 where
    pub adds : op ≡ Add (place_of g (Section d)) 1
    pub turns : odd_by h.section + odd_by h'.section ≡ 1

  keeps : {then : Holding} → SparesSections op old → bare h' ≡ then → then.section ≡ h.section → KeepsSections ⊎ TurnsSection c
  keeps spares holds same = inl (record { spares = spares; same = ap (λ (x : Holding). x.section) holds ∙ same })

  pub by_move : (move : Move) → ReadyFor env mix c M G move → Does env mix move op old h h' → KeepsSections ⊎ TurnsSection c
  by_move Quiet ready does = keeps (aside g op old h does.leaves) does.holds refl
  by_move (Arms j) ready does = keeps (aside g op old h does.leaves) does.holds refl
  by_move (TakesNode n) ready does = keeps (behind_slots g op old (n / 64) does.taking.clears.place) does.holds refl
  by_move (GivesNode n) ready does = keeps (behind_slots g op old (n / 64) (ap op_place does.giving)) does.holds refl
  by_move (ReturnsNode n) ready does = keeps (behind_slots g op old (n / 64) (ap op_place does.giving)) does.holds refl
  by_move (TakesLock j) ready does = keeps (in_pages g op old j does.on) does.holds refl
  by_move (DropsLock j) ready does = keeps (in_pages g op old j does.on) does.holds refl
  by_move Raises ready does = keeps (first_word g op old 2 (omega arith) (ap op_place does.adds)) does.holds refl
  by_move (Links n port j) ready does = keeps (in_pages g op old j does.on) does.holds refl
  by_move Lowers ready does = keeps (first_word g op old 2 (omega arith) (ap op_place does.subtracts)) does.holds refl
  by_move (Rebinds change) ready does = inl (record { spares = behind_maps g op old does.behind_maps; same = does.left_section })
  by_move (LinksBehind n) ready does = keeps (at_node g op old n ChainLink does.on) does.holds refl
  by_move (TakesSlot s) ready does = keeps (at_slot g op old s (slot_offset StateWord) (ap op_place does.taking)) does.holds refl
  by_move (GivesSlot s) ready does = keeps (at_slot g op old s (slot_offset StateWord) (ap op_place does.giving)) does.holds refl
  by_move (TakesPages index bits) ready does = keeps (in_page_map g op old index does.clears.on) does.holds refl
  by_move (GivesPages index bits) ready does = keeps (in_page_map g op old index does.sets.on) does.holds refl
  by_move (moves.Attaches slot shape seed serial) ready does = keeps (at_slot g op old does.last (slot_offset FutureWord) (ap op_place does.attaching)) does.holds refl
  by_move (moves.Enters j p) ready does = keeps (in_pages g op old j (ap op_place does.entering)) does.holds refl
  by_move TakesWork ready does = keeps (first_word g op old 1 (omega arith) (ap op_place does.taking)) does.holds refl
  by_move GivesWork ready does = keeps (first_word g op old 1 (omega arith) (ap op_place does.giving)) does.holds refl
  by_move BeginsMoving ready does = keeps (inr (inr (λ bit low. ap (λ w. bit_at w bit) does.leaves))) does.holds refl
  by_move (TakesSecond j) ready does = keeps (in_pages g op old j does.on) does.holds refl
  by_move (Leaves j i entry nodes) ready does = keeps (at_node g op old entry ChainLink does.on) does.holds refl
  by_move (Arrives j i entry) ready does = keeps (in_pages g op old i does.on) does.holds refl
  by_move (CutsOff j entry None) ready does = keeps (in_pages g op old j does.on) does.holds refl
  by_move (CutsOff j entry (Some before)) ready does = keeps (at_node g op old before ChainLink does.on) does.holds refl
  by_move Publishes ready does = keeps (first_word g op old 0 (omega arith) does.on) does.holds refl
  by_move (Retires s) ready does = keeps (at_slot g op old s (slot_offset StateWord) (ap op_place does.retiring)) does.holds refl
  by_move (KeepsWord s d word) ready does = keeps (at_slot g op old s (slot_offset (LoadedSection d)) (ap op_place does.keeping)) does.holds refl
  by_move (Settles s d word) ready does = keeps (at_slot g op old s (slot_offset (LoadedSection d)) (ap op_place does.keeping)) does.holds refl
  by_move (Withdraws j p) ready does = keeps (in_pages g op old j (ap op_place does.clearing)) does.holds refl
  by_move (TakesBack s index bits) ready does = keeps (in_page_map g op old index does.sets.on) does.holds refl
  by_move (Opens d) ready does = inr (subst TurnsSection ready.0 (record {
    adds = does.turns;
    turns = sum_is _ _ (ap odd_by does.outside) (ap (λ (x : Holding). odd_by x.section) does.holds);
  }))
  by_move (Closes d) ready does = inr (subst TurnsSection ready (record {
    adds = does.turns;
    turns = sum_is _ _ (ap odd_by does.inside) (ap (λ (x : Holding). odd_by x.section) does.holds);
  }))

-- ---- each event

-- once the call has ended it holds none
in_section-told : (next : Job × Next Ending) → in_section (told next).0 ≡ (held_next next).section
in_section-told (job, Go) = refl
in_section-told (job, Done ending) = refl

pub idle_outside : {M : Type 0} (doing : Doing M) → does_nothing doing ≡ true → in_section (job_of doing) ≡ false
idle_outside doing idle = go (job_of doing) (sym (nothing-job doing) ∙ idle)
  where
    go : (job : Option Job) → is_no_job job ≡ true → in_section job ≡ false
    go None none = refl
    go (Some job) none = absurd (cc)

module _ (env : Env) (mix : ℕ → ℕ → ℕ → ℕ) where
  same_rest : (word word' : ℕ) → bit_at word' 0 ≡ bit_at word 0 → word' % 2 ≡ word % 2
  same_rest word word' same = omega (arith, same, bit_at_lowest word, bit_at_lowest word')

  -- an operation that spares the section words leaves each one odd or even
  spared : (words : List ℕ) (op : Op) → length words ≡ words_in env.geometry → SparesSections op (old_of words op) → (c : ℕ) → c < 16
      → word_at env.geometry (applied words op) (Section c) % 2 ≡ word_at env.geometry words (Section c) % 2
  spared words op all spares c low = elim (cases_eq (8 + c) (op_place op)) [
    | inr other ↦ ap (λ w. w % 2) (applied-other words op (8 + c) other)
    | inl at ↦ elim spares [
      | inl before ↦ absurd (omega (arith, at, before))
      | inr (inl behind) ↦ absurd (omega (arith, at, low, behind))
      | inr (inr leaves) ↦
          let write = is_write env.geometry words (Section c) op all low (sym at) in
          let word = word_at env.geometry words (Section c) in
          let here : old_of words op ≡ word = ap (slice_index words) (sym at) in
          ap (λ w. w % 2) write.same
          ∙ same_rest word (word_after word op)
          (subst (λ old. bit_at (word_after old op) 0 ≡ bit_at old 0) here (leaves 0 (omega arith)))
    ]
  ]

  -- an addition of 1 turns the lowest bit
  pub turned : (words : List ℕ) (op : Op) → length words ≡ words_in env.geometry → (c : ℕ) → c < 16
      → op ≡ Add (place_of env.geometry (Section c)) 1 → (was now : ℕ) → was + now ≡ 1
      → word_at env.geometry words (Section c) % 2 ≡ was → word_at env.geometry (applied words op) (Section c) % 2 ≡ now
  turned words op all c low adds was now one is =
      let write = is_write env.geometry words (Section c) op all low (ap op_place adds) in
      let then = write.same ∙ ap (word_after (word_at env.geometry words (Section c))) adds in
      omega (arith, one, is, then)

  -- a section is open where its word is odd
  pub open_as : (inside : Bool) (from : Option ℕ) (word : ℕ) → IsTurned env mix from word → word % 2 ≡ odd_by inside → IsOpenAs inside from
  open_as false None word turned is = tt
  open_as true (Some low) word turned is = tt
  open_as false (Some low) word turned is = absurd (omega (arith, turned, is))
  open_as true None word turned is = absurd (omega (arith, turned, is))

  -- and none where it is even
  pub none_even : (from : Option ℕ) (word : ℕ) → IsTurned env mix from word → word % 2 ≡ 0 → from ≡ None
  none_even None word turned is = refl
  none_even (Some low) word turned is = absurd (omega (arith, turned, is))

  -- whether the call turns a section of its own, so does its caller
  in_as_own : (over was now : Bool) → opened_itself over now ≡ opened_itself over was → is_in over now ≡ is_in over was
  in_as_own false was now same = same
  in_as_own true was now same = refl

  turns_as_own : (over was now : Bool) → odd_by (opened_itself over was) + odd_by (opened_itself over now) ≡ 1
      → odd_by (is_in over was) + odd_by (is_in over now) ≡ 1
  turns_as_own false was now one = one
  turns_as_own true was now one = absurd (cc)

  -- the caller is in a section: its call's, or one that it holds open over its calls
  abbrev pub is_inside : {L : Type 0} → Local L → Bool
  is_inside local = is_in local.held (in_section (job_of local.doing))

  module _ (L : Type 0) where
    -- each section word is odd where its caller's section is open, and even where it isn't
    abbrev pub AreRight : Core L → Type 0
    AreRight core =
        (c : ℕ) → c < 16 → word_at env.geometry core.words (Section c) % 2 ≡ odd_by (is_inside (local_of core c))

    pub step_right : (core : Core L) (G : Ghost) (c : ℕ) (op : Op) → AllIn L mix env core → planned_in core c ≡ Some op
        → StepOf env mix L core G c op → AreRight core → AreRight (with_step mix core c (Some op)).0
    step_right core G c op all is of right =
        let can = planned-some core.env core.enrolled core.locals c op is in
        let place = has_place L mix env core c all.stays can.below in
        let old = old_of core.words op in
        let next = (local_after mix (local_of core c) old).0 in
        let after = job_after mix env of.job old in
        let left = left-job mix env (local_of core c).doing of.job old (all.stays.locals_of c).doing of.is in
        let over = (local_of core c).held in
        let kind = by_move env mix c (mem env mix core.words) G op old (of_its_own over (held_of of.job)) (of_its_own over (held_next after))
        of.step.move of.step.ready of.step.does in
        let own : c < 16 → word_at env.geometry (applied core.words op) (Section c) % 2 ≡ odd_by (is_inside next) =
        λ low. elim kind [
          | inl kept_so ↦
              spared core.words op of.all kept_so.spares c low ∙ right c low
              ∙ ap (λ job. odd_by (is_in over (in_section job))) of.is
              ∙ ap odd_by (sym (in_as_own over (held_of of.job).section (held_next after).section kept_so.same))
              ∙ ap (λ b. odd_by (is_in over b)) (sym (ap in_section left ∙ in_section-told after))
          | inr turns ↦
              turned core.words op of.all c low turns.adds _ _
              (turns_as_own over (held_of of.job).section (held_next after).section turns.turns)
              (right c low ∙ ap (λ job. odd_by (is_in over (in_section job))) of.is)
              ∙ ap (λ b. odd_by (is_in over b)) (sym (ap in_section left ∙ in_section-told after))
        ] in
        let other : (d : ℕ) → d ≢ c → d < 16
        → word_at env.geometry (applied core.words op) (Section d) % 2 ≡ odd_by (is_inside (local_of core d)) =
        λ d ne low. elim kind [
          | inl kept_so ↦ spared core.words op of.all kept_so.spares d low ∙ right d low
          | inr turns ↦
              ap (λ w. w % 2) (applied-other core.words op (8 + d)
              (λ at. ne (let on : op_place op ≡ 8 + c = ap op_place turns.adds in omega (arith, at, on))))
              ∙ right d low
        ] in
        λ d low. elim (cases_eq d c) [
          | inl e ↦ rw e (rw (get_or-set_same core.locals c next (fresh core.env) place) (own (subst (λ k. k < 16) e low)))
          | inr ne ↦ rw (get_or-set_other core.locals c d next (fresh core.env) ne) (other d ne low)
        ]

    pub begin_right : (core : Core L) (c : ℕ) (call : Call) (start : ℕ) (machine : Doing L) → AllIn L mix env core
        → beginning_in core c call start ≡ Some machine → AreRight core
        → AreRight record core { locals = with_machine core.env core.locals c (Some machine) }
    begin_right core c call start machine all is right =
        let can = beginning-some core.env core.enrolled core.locals c call start machine is in
        let place = has_place L mix env core c all.stays can.below in
        let first = first_job-machine env c (local_of core c).batch start call machine (made_in L mix env core c call start machine all.stays can) in
        let begun : in_section (job_of machine) ≡ false =
        ap in_section first.does ∙ ap (λ (h : Holding). h.section) (first_holds env call first.job first.first) in
        let idle = idle_outside (local_of core c).doing can.idle in
        each_set
        (λ k local. k < 16 → word_at env.geometry core.words (Section k) % 2 ≡ odd_by (is_inside local))
        (fresh core.env) core.locals c (begin_with (local_of core c) machine) place
        (λ low. right c low ∙ ap (λ b. odd_by (is_in (local_of core c).held b)) (idle ∙ sym begun)) right

    pub enroll_right : (core : Core L) → AllIn L mix env core → AreRight core
        → AreRight record core { words = applied core.words (enrolling core.env) }
    enroll_right core all right = λ c low. spared core.words (enrolling core.env) all.stays.all_words (inl (omega arith)) c low ∙ right c low
