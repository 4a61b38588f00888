-- The making of a table answers none exactly where each slot was found not to be free, or each run of pages was seen taken
-- in its turn and, where the table may be nested, each page in its turn after that.
--
-- Each slot is looked at once. Where one is taken, no later operation looks at a slot, and none but those of the taking of a run and of
-- a page look at pages. So what these have seen is what the machine has.
use Rattle.std.proofs.Common.{◌≡◌, ℕ, Bool, true, false, ◌+◌, ◌<◌, ◌≤◌, List, [], ◌∷◌, ◌++◌, Some, None, inl, inr, refl, sym, subst, arith}
use Rattle.std.specs.Prelude.{Option, ◌⊎◌, ◌↔◌, ◌==◌, nat_lt, if◌then◌else◌}
use Rattle.std.specs.List.{Any}
use Rattle.std.proofs.lemmas.Bool.{cases_eq, cond_both, eqb-true, eqb-false, ltb-true, ltb-false}
use Rattle.rht_words.specs.declared.machine.Next.{Next}
use Rattle.rht_words.specs.declared.machine.Next.TheVariants.{Go, Done}
use Rattle.rht_words.specs.declared.machine.Start.{Start}
use Rattle.rht_words.specs.declared.machine.Start.TheVariants as starts
use Rattle.rht_words.specs.declared.geometry.Geometry.{Geometry}
use Rattle.rht_words.specs.Places.{Slot, StateWord, place_of}
use Rattle.rht_words.specs.Machines.{Performed, Ran, went_on}
use Rattle.rht_arena.specs.declared.take_run.TakeRunAt.{TakeRunAt}
use Rattle.rht_arena.specs.declared.take_run.TakeRunAt.TheVariants as takes
use Rattle.rht_arena.specs.TakeRun.{TakeRunModel, take_run_new, take_run_plan_at, take_run_after}
use Rattle.rht_arena.specs.RunLaws.{AreRunsSeenInTurn}
use Rattle.rht_arena.proofs.NodesInTurn.{Any-behind}
use Rattle.rht_nest.specs.Make.{make_plan_at, make_after_at, may_nest, made_pages, no_run, run_taken, run_started, top_taken}
use Rattle.rht_nest.specs.Tables.{exponent_made}
use Rattle.rht_nest.specs.MakeLaws.{slot_taking, SeesSlotTaken, AreNoPagesSeen, NoneWhereSlotsOrRunsTaken}
use Rattle.rht_nest.specs.declared.make.MakeAt.{MakeAt}
use Rattle.rht_nest.specs.declared.make.MakeAt.TheVariants as at
use Rattle.rht_nest.proofs.OneOfSteps.{Any-parts, Any-only, Any-first}
use Rattle.rht_nest.proofs.TurnsJoined.{AreBlind, turn-then, turn-before_blind, pages_behind, no_pages-then, no_pages-of}
use Rattle.rht_nest.proofs.RunsLooked.{LookedThrough}
use Rattle.rht_nest.proofs.MakesEnd.{making_from, step_at, Stored, TopEnds, NoRunEnds, RunEnds, stores_blind, started_ends}

module _ (g : Geometry) (exponent seed : ℕ) (allowed : Bool) where
  abbrev pages : ℕ
  pages = made_pages exponent

  abbrev nests : Bool
  nests = may_nest exponent allowed

  -- what comes of the making from a state on
  abbrev from : MakeAt → List ℕ → Ran (Option (ℕ × ℕ))
  from state olds = making_from g exponent seed allowed state olds

  -- ---- once a slot is taken

  -- the state is behind the taking of a slot
  abbrev IsPastSlots : MakeAt → Type 0
  IsPastSlots (at.Slot slot) = ⊥
  IsPastSlots (at.Taking slot take) = Unit {0}
  IsPastSlots (at.TakingTop slot take) = Unit {0}
  IsPastSlots (at.SlotBack slot) = Unit {0}
  IsPastSlots (at.NextSerial slot nested page) = Unit {0}
  IsPastSlots (at.Shape slot nested page serial) = Unit {0}
  IsPastSlots (at.Seed slot nested page serial) = Unit {0}
  IsPastSlots (at.Future slot nested page serial) = Unit {0}
  IsPastSlots (at.Serial slot nested page serial) = Unit {0}

  no_run-past : (slot : ℕ) → IsPastSlots (no_run g nests slot)
  no_run-past slot = cond_both nests _ _ IsPastSlots (λ t. tt) (λ f. tt)

  run_taken-past : (slot : ℕ) (take : TakeRunModel) (next : Next (Option ℕ))
      → IsPastSlots (run_taken g nests slot take next)
  run_taken-past slot take Go = tt
  run_taken-past slot take (Done None) = no_run-past slot
  run_taken-past slot take (Done (Some page)) = tt

  top_taken-past : (slot : ℕ) (take : TakeRunModel) (next : Next (Option ℕ)) → IsPastSlots (top_taken slot take next)
  top_taken-past slot take Go = tt
  top_taken-past slot take (Done None) = tt
  top_taken-past slot take (Done (Some page)) = tt

  past_after : (state : MakeAt) (old : ℕ) → IsPastSlots state
      → IsPastSlots (make_after_at g exponent allowed state old).0
  past_after (at.Slot slot) old past = absurd past
  past_after (at.Taking slot take) old past =
      run_taken-past slot (take_run_after take old).0 (take_run_after take old).1
  past_after (at.TakingTop slot take) old past =
      top_taken-past slot (take_run_after take old).0 (take_run_after take old).1
  past_after (at.SlotBack slot) old past = tt
  past_after (at.NextSerial slot nested page) old past = tt
  past_after (at.Shape slot nested page serial) old past = tt
  past_after (at.Seed slot nested page serial) old past = tt
  past_after (at.Future slot nested page serial) old past = tt
  past_after (at.Serial slot nested page serial) old past = tt

  takes_no_slot : (table : Geometry) (count slot : ℕ) (state : TakeRunAt)
      → take_run_plan_at table count state ≡ slot_taking g slot → ⊥
  takes_no_slot table count slot (takes.MapWord first index) is = cc
  takes_no_slot table count slot (takes.Claim first index) is = cc
  takes_no_slot table count slot (takes.GiveBack first index bits) is = cc

  -- its operations take no slot any more
  past_takes_none : (slot : ℕ) (state : MakeAt) → IsPastSlots state
      → make_plan_at g exponent seed state ≡ slot_taking g slot → ⊥
  past_takes_none slot (at.Slot other) past is = past
  past_takes_none slot (at.Taking other take) past is = takes_no_slot take.geometry take.pages slot take.at is
  past_takes_none slot (at.TakingTop other take) past is = takes_no_slot take.geometry take.pages slot take.at is
  past_takes_none slot (at.SlotBack other) past is = cc
  past_takes_none slot (at.NextSerial other nested page) past is = cc
  past_takes_none slot (at.Shape other nested page serial) past is = cc
  past_takes_none slot (at.Seed other nested page serial) past is = cc
  past_takes_none slot (at.Future other nested page serial) past is = cc
  past_takes_none slot (at.Serial other nested page serial) past is = cc

  went_sees_none : (slot : ℕ) (step : Performed) (next : Next (Option (ℕ × ℕ))) (rest : Ran (Option (ℕ × ℕ)))
      → (SeesSlotTaken g slot step → ⊥) → (Any (SeesSlotTaken g slot) rest.steps → ⊥)
      → Any (SeesSlotTaken g slot) (went_on step next rest).steps → ⊥
  went_sees_none slot step Go rest here later some = elim (Any-parts (SeesSlotTaken g slot) step rest.steps some) [
    | inl sees ↦ here sees
    | inr behind ↦ later behind
  ]
  went_sees_none slot step (Done answer) rest here later some = here (Any-only (SeesSlotTaken g slot) step some)

  past_sees_none : (slot : ℕ) (olds : List ℕ) (state : MakeAt) → IsPastSlots state
      → Any (SeesSlotTaken g slot) (from state olds).steps → ⊥
  past_sees_none slot [] state past (k, y, within, is, holds) = absurd (omega (arith, within))
  past_sees_none slot (old ∷ olds) state past some =
      went_sees_none slot (step_at g exponent seed allowed state old) (make_after_at g exponent allowed state old).1
      (from (make_after_at g exponent allowed state old).0 olds)
      (λ sees. past_takes_none slot state past sees.looks)
      (past_sees_none slot olds (make_after_at g exponent allowed state old).0 (past_after state old past))
      some

  run_started-past : (slot : ℕ) (start : Start TakeRunModel (Option ℕ))
      → IsPastSlots (run_started g nests slot start)
  run_started-past slot (starts.Running take) = tt
  run_started-past slot (starts.Done None) = no_run-past slot
  run_started-past slot (starts.Done (Some page)) = tt

  -- ---- what its operations have seen of pages

  -- what is to be shown of an answer, where the table may be nested or not
  abbrev IsShown : Bool → Option (ℕ × ℕ) → List Performed → Type 0
  IsShown nested answer steps = (answer ≡ None) ↔ AreNoPagesSeen g pages nested steps

  -- a taking that has found pages hasn't seen that there are none
  found_some : (many : ℕ) (page : ℕ) (looking rest : List Performed) → LookedThrough g many (Some page) looking
      → AreBlind rest → AreRunsSeenInTurn g many 0 (looking ++ rest) → ⊥
  found_some many page looking rest looked blind turn =
      let none = looked.seen.1 (turn-before_blind g many 0 looking rest blind turn) in
      cc

  -- a run was found
  run-shown : (nested : Bool) (slot page : ℕ) (answer : Option (ℕ × ℕ)) (looking rest : List Performed)
      → LookedThrough g pages (Some page) looking → Stored g exponent seed allowed slot false page answer rest
      → IsShown nested answer (looking ++ rest)
  run-shown true slot page answer looking rest looked stored =
      let blind = stores_blind g exponent seed allowed slot false page answer rest stored in (
        λ none. absurd (let some = stored.answer_is in cc),
        λ seen.
            absurd (found_some pages page looking rest looked blind
            (subst (λ s. AreRunsSeenInTurn g pages 0 s) (sym seen.are)
            (turn-then g pages 0 seen.before seen.behind seen.runs))),
      )
  run-shown false slot page answer looking rest looked stored =
      let blind = stores_blind g exponent seed allowed slot false page answer rest stored in (
        λ none. absurd (let some = stored.answer_is in cc),
        λ turn. absurd (found_some pages page looking rest looked blind turn),
      )

  -- none was, and a page was looked for
  top-shown : (slot : ℕ) (answer : Option (ℕ × ℕ)) (looking rest : List Performed)
      → LookedThrough g pages None looking
      → (page : Option ℕ) (tops last : List Performed) → LookedThrough g 1 page tops
      → TopEnds g exponent seed allowed slot answer last page → rest ≡ tops ++ last
      → IsShown true answer (looking ++ rest)
  top-shown slot answer looking rest looked None tops last found ends are = (
    λ none. record {
      before = looking;
      behind = rest;
      are = refl;
      runs = looked.seen.0 refl;
      tops =
          subst (λ s. AreRunsSeenInTurn g 1 0 s) (sym are) (turn-then g 1 0 tops last (found.seen.0 refl));
    },
    λ seen. ends.answer_is,
  )
  top-shown slot answer looking rest looked (Some page) tops last found ends are =
      let blind = stores_blind g exponent seed allowed slot true page answer last ends in (
        λ none. absurd (let some = ends.answer_is in cc),
        λ seen.
            absurd (found_some 1 page tops last found blind
            (subst (λ s. AreRunsSeenInTurn g 1 0 s) are (pages_behind g pages looking rest looked.quiet seen))),
      )

  no_run-shown : (nested : Bool) (slot : ℕ) (answer : Option (ℕ × ℕ)) (looking rest : List Performed)
      → LookedThrough g pages None looking → NoRunEnds g exponent seed allowed nested slot answer rest
      → IsShown nested answer (looking ++ rest)
  no_run-shown true slot answer looking rest looked ends =
      top-shown slot answer looking rest looked ends.page ends.looking ends.rest ends.looked ends.ends ends.are
  no_run-shown false slot answer looking rest looked ends =
      (λ none. turn-then g pages 0 looking rest (looked.seen.0 refl), λ turn. ends.answer_is)

  ended-shown : (slot : ℕ) (answer : Option (ℕ × ℕ)) (page : Option ℕ) (looking rest : List Performed)
      → LookedThrough g pages page looking → RunEnds g exponent seed allowed slot answer rest page
      → IsShown nests answer (looking ++ rest)
  ended-shown slot answer None looking rest looked ends = no_run-shown nests slot answer looking rest looked ends
  ended-shown slot answer (Some page) looking rest looked ends =
      run-shown nests slot page answer looking rest looked ends

  -- from the taking of a slot on
  started-shown : (slot : ℕ) (olds : List ℕ) (answer : Option (ℕ × ℕ))
      → (from (run_started g nests slot (take_run_new g pages)) olds).next ≡ Done answer
      → IsShown nests answer (from (run_started g nests slot (take_run_new g pages)) olds).steps
  started-shown slot olds answer done =
      let ended = started_ends g exponent seed allowed slot olds answer done in
      subst (IsShown nests answer) (sym ended.are)
      (ended-shown slot answer ended.page ended.looking ended.rest ended.looked ended.ends)

  -- ---- from a slot on

  -- the slots from this one on were found not to be free
  abbrev SlotsSeenFrom : ℕ → List Performed → Type 0
  SlotsSeenFrom slot steps = (other : ℕ) → slot ≤ other → other < 8 → Any (SeesSlotTaken g other) steps

  -- what is to be shown of the making from a slot on
  abbrev NoneFrom : ℕ → Ran (Option (ℕ × ℕ)) → Type 0
  NoneFrom slot run =
      (answer : Option (ℕ × ℕ)) → run.next ≡ Done answer
      → (answer ≡ None) ↔ (SlotsSeenFrom slot run.steps ⊎ AreNoPagesSeen g pages nests run.steps)

  -- another slot's state is another word
  other_slot : (slot other : ℕ) → slot_taking g slot ≡ slot_taking g other → slot ≡ other
  other_slot slot other is =
      let places : place_of g (Slot slot StateWord) ≡ place_of g (Slot other StateWord) = cc in
      omega (arith, places)

  module _ (slot old : ℕ) (olds : List ℕ) (slot_in : slot < 8) where
    abbrev step : Performed
    step = step_at g exponent seed allowed (at.Slot slot) old

    -- the slot is taken
    slot-taken : old ≡ 0 → (answer : Option (ℕ × ℕ))
        → (from (run_started g nests slot (take_run_new g pages)) olds).next ≡ Done answer
        → (answer ≡ None) ↔ (SlotsSeenFrom slot (step ∷ (from (run_started g nests slot (take_run_new g pages)) olds).steps)
        ⊎ AreNoPagesSeen g pages nests (step ∷ (from (run_started g nests slot (take_run_new g pages)) olds).steps))
    slot-taken free answer done =
        let start = run_started g nests slot (take_run_new g pages) in
        let rest = (from start olds).steps in
        let shown = started-shown slot olds answer done in (
          λ none. inr (no_pages-then g pages step rest (λ looks. looks) nests (shown.0 none)),
          λ seen. elim seen [
            | inl slots ↦
                absurd (elim (Any-parts (SeesSlotTaken g slot) step rest (slots slot (omega arith) slot_in)) [
                  | inl sees ↦ sees.taken free
                  | inr behind ↦
                      past_sees_none slot olds start (run_started-past slot (take_run_new g pages)) behind
                ])
            | inr pages_seen ↦ shown.1 (no_pages-of g pages step rest (λ looks. looks) nests pages_seen)
          ],
        )

    -- it isn't free, and neither is any behind it or not
    slot-seen : SeesSlotTaken g slot step → NoneFrom (slot + 1) (from (at.Slot (slot + 1)) olds)
        → (answer : Option (ℕ × ℕ)) → (from (at.Slot (slot + 1)) olds).next ≡ Done answer
        → (answer ≡ None) ↔ (SlotsSeenFrom slot (step ∷ (from (at.Slot (slot + 1)) olds).steps)
        ⊎ AreNoPagesSeen g pages nests (step ∷ (from (at.Slot (slot + 1)) olds).steps))
    slot-seen sees behind answer done =
        let rest = (from (at.Slot (slot + 1)) olds).steps in
        let later = behind answer done in (
          λ none. elim (later.0 none) [
            | inl slots ↦ inl (λ other low high. elim (cases_eq slot other) [
              | inl same ↦ Any-first (SeesSlotTaken g other) step rest (subst (λ s. SeesSlotTaken g s step) same sees)
              | inr differ ↦
                  Any-behind (SeesSlotTaken g other) step rest (slots other (omega (arith, low, differ)) high)
            ])
            | inr pages_seen ↦ inr (no_pages-then g pages step rest (λ looks. looks) nests pages_seen)
          ],
          λ seen. elim seen [
            | inl slots ↦ later.1 (inl (λ other low high.
                elim (Any-parts (SeesSlotTaken g other) step rest (slots other (omega (arith, low)) high)) [
                  | inl here ↦
                      let same : slot ≡ other = other_slot slot other here.looks in
                      absurd (omega (arith, same, low))
                  | inr after ↦ after
                ]))
            | inr pages_seen ↦ later.1 (inr (no_pages-of g pages step rest (λ looks. looks) nests pages_seen))
          ],
        )

  -- By induction over the words that the operations find.
  from_slot : (olds : List ℕ) (slot : ℕ) → slot < 8 → NoneFrom slot (from (at.Slot slot) olds)
  from_slot [] slot slot_in = λ answer done. absurd (cc)
  from_slot (old ∷ olds) slot slot_in =
      let first = step_at g exponent seed allowed (at.Slot slot) old in
      let start = run_started g nests slot (take_run_new g pages) in
      cond_both (old == 0) (start, Go)
      (if nat_lt (slot + 1) 8 then (at.Slot (slot + 1), Go) else (at.Slot slot, Done None))
      (λ (next : MakeAt × Next (Option (ℕ × ℕ))). NoneFrom slot (went_on first next.1 (from next.0 olds)))
      (λ t. slot-taken slot old olds slot_in (eqb-true old 0 t))
      (λ f.
      let sees : SeesSlotTaken g slot first = record { looks = refl; taken = eqb-false old 0 f } in
      cond_both (nat_lt (slot + 1) 8) (at.Slot (slot + 1), Go) (at.Slot slot, Done None)
      (λ (next : MakeAt × Next (Option (ℕ × ℕ))). NoneFrom slot (went_on first next.1 (from next.0 olds)))
      (λ t. slot-seen slot old olds slot_in sees (from_slot olds (slot + 1) (ltb-true (slot + 1) 8 t)))
      (λ last answer done.
      let end : 8 ≤ slot + 1 = ltb-false (slot + 1) 8 last in (
        λ none. inl (λ other low high.
            let same : slot ≡ other = omega (arith, low, high, end) in
            Any-first (SeesSlotTaken g other) first [] (subst (λ s. SeesSlotTaken g s first) same sees)),
        λ seen. cc,
      )))

pub none_where_slots_or_runs_taken : NoneWhereSlotsOrRunsTaken
none_where_slots_or_runs_taken g size seed allowed olds answer done =
    let shown = from_slot g (exponent_made size) seed allowed olds 0 (omega arith) answer done in (
      λ none. elim (shown.0 none) [
        | inl slots ↦ inl (λ slot high. slots slot (omega arith) high)
        | inr pages_seen ↦ inr pages_seen
      ],
      λ seen. elim seen [
        | inl slots ↦ shown.1 (inl (λ slot low high. slots slot high))
        | inr pages_seen ↦ shown.1 (inr pages_seen)
      ],
    )
