-- While no other caller is in a call, nothing but this one's own operations and the enrolling of callers changes words. So a word
-- that the operations of one of its calls leave from one event up to another is behind these events what it was before.
-- By induction over the events from the last one back: an enrolling changes the word of the enrolled callers alone, a beginning
-- none, a step of a caller in no call none, and one of the caller itself is one of the call.
use Rattle.std.proofs.Common.{◌≡◌, ◌≢◌, ◌⊎◌, ℕ, zero, suc, ◌+◌, ◌-◌, ◌<◌, ◌≤◌, Bool, true, false, cond, nat_lt, List, [], ◌∷◌, ◌++◌, length, take, append_assoc, get_or, refl, sym, ap, ◌∙◌, subst, inl, inr, arith}
use Rattle.std.specs.Prelude.{Option, Some, None}
use Rattle.std.specs.List.{AllByRecursion, Contains, slice_get}
use Rattle.std.proofs.lemmas.Bool.{cases_eq}
use Rattle.std.proofs.lemmas.List.Elements.{All-contains, All-from_recursion, Contains-push, Contains-append_right}
use Rattle.std.proofs.lemmas.Option.{slice_get-get_or}
use Rattle.rht_words.specs.declared.op.Op.{Op}
use Rattle.rht_words.specs.declared.op.Op.TheVariants.{Store}
use Rattle.rht_words.specs.declared.env.Env.{Env}
use Rattle.rht_words.specs.Operations.{op_place, old_of, word_after, applied}
use Rattle.rht_words.specs.Places.{Address, EnrolledCallers, IsAddress, place_of, word_at}
use Rattle.rht_words.proofs.EachElement.{AllByRecursion-append, AllByRecursion-weaker}
use Rattle.rht_words.proofs.PlacesApart.{place_of-apart, place_of-below}
use Rattle.rht_words.proofs.WordChanges.{applied-same, applied-other}
use Rattle.rht_core.specs.declared.event.Event.{Event}
use Rattle.rht_core.specs.declared.event.Event.TheVariants.{Enroll, Begin, Step}
use Rattle.rht_callers.specs.Locals.{is_idle}
use Rattle.rht_core.specs.Runs.{Core, World, local_of, planned_in, enrolling, world_step, run_of, IsAdmitted}
use Rattle.rht_core.specs.Traces.{Did, Past, traced_of, IsRising, behind_call}
use Rattle.rht_core.specs.Laws.{IsRecorded, IsPastCall}
use Rattle.rht_core.specs.ResizeCauses.{Loaded}
use Rattle.rht_core.specs.Worked.{IsAloneDuring}
use Rattle.rht_ghost.proofs.Theory.Steps.{unchanged}
use Rattle.rht_core.proofs.Events.Worlds.{run_of-next, step_none, step_words}
use Rattle.rht_callers.proofs.CallBeginnings.{idle_plans}
use Rattle.rht_core.proofs.Events.SoundRuns.{runs-in}
use Rattle.rht_core.proofs.Tracing.BehindCalls.{idle_behind}
use Rattle.rht_core.proofs.Tracing.TracesAtEvents.{at_events, past-ends}
use Rattle.rht_core.proofs.Tracing.StepsInTraces.{stands_within, call_in_order, rising_around, LiesWithin, rising-within}

-- the operation leaves the word at this place
abbrev pub Spares : ℕ → Did → Type 0
Spares place did = (op_place did.op ≢ place) ⊎ (word_after did.old did.op ≡ did.old)

-- the words that the first of these operations found, or these where there is none
abbrev pub found_first : (ℕ → List ℕ) → List Did → List ℕ → List ℕ
found_first words_at [] now = now
found_first words_at (did ∷ dids) now = words_at did.index

spared_word : (words : List ℕ) (place : ℕ) (did : Did) → old_of words did.op ≡ did.old → Spares place did
    → get_or (applied words did.op) place 0 ≡ get_or words place 0
spared_word words place did found (inl apart) = applied-other words did.op place (λ same. apart (sym same))
spared_word words place did found (inr same) =
    ap (λ w. get_or w place 0)
    (unchanged words did.op (ap (λ old. word_after old did.op) found ∙ same ∙ sym found))

module _ (M : Type 0) (mix : ℕ → ℕ → ℕ → ℕ) (env : Env) (events : List Event) (c : ℕ) (past : Past)
    (admitted : IsAdmitted events)
    (ended : Contains ((traced_of {M = M} mix env events).traces c).past past)
    (alone : IsAloneDuring M mix env events c past) where
  -- the run behind so many events
  abbrev behind : ℕ → World M
  behind n = run_of mix env (take n events)

  -- what the events say of the call
  pub past_call : IsPastCall M mix env events c past
  past_call =
      let calls = ((traced_of {M = M} mix env events).traces c).past in
      All-contains (IsPastCall M mix env events c) calls past
      (All-from_recursion (IsPastCall M mix env events c) calls (at_events M mix env events admitted c).past) ended

  recorded_in : (did : Did) → Contains past.steps did → IsRecorded M mix env events c did
  recorded_in did there =
      All-contains (IsRecorded M mix env events c) past.steps did
      (All-from_recursion (IsRecorded M mix env events c) past.steps past_call.steps) there

  -- its operations are in order
  pub steps_rising : IsRising (past.begin + 1) past.steps
  steps_rising =
      let order = at_events M mix env events admitted c in
      let (number, within, is) = ended in
      let calls = ((traced_of {M = M} mix env events).traces c).past in
      (call_in_order 0 calls number past order.in_order (slice_get-get_or calls number past within ∙ ap Some is)).rising

  -- and lie between its beginning and its end
  steps_within : (did : Did) → Contains past.steps did → LiesWithin (past.begin + 1) past.steps did
  steps_within did there =
      let P = LiesWithin (past.begin + 1) past.steps in
      All-contains P past.steps did
      (All-from_recursion P past.steps (rising-within (past.begin + 1) past.steps steps_rising)) there

  -- the last of them answered it
  last_there : Contains past.steps past_call.answered.last
  last_there =
      let answered = past_call.answered in
      subst (λ s. Contains s answered.last) (sym answered.steps_are) (Contains-push answered.before answered.last)

  pub begins_before : past.begin ≤ behind_call past
  begins_before = let within = steps_within past_call.answered.last last_there in omega (arith, within.0, within.1)

  -- one event more
  behind-suc : (n : ℕ) (event : Event) → slice_get events n ≡ Some event
      → ◌≡◌ {A = World M} (behind (suc n)) (world_step mix (behind n) event)
  behind-suc n event is = run_of-next M mix env events n event is

  -- then it is in no call
  pub idle_at_end : is_idle (local_of (behind (behind_call past)).core c) ≡ true
  idle_at_end = idle_behind M mix env events c past past_call

  -- the word at a place behind so many events
  abbrev word : ℕ → ℕ → ℕ
  word place n = get_or (behind n).core.words place 0

  -- the operation leaves the word at this place, if its event is among these
  abbrev pub SparesWithin : ℕ → ℕ → ℕ → Did → Type 0
  SparesWithin place from to did = from ≤ did.index → did.index < to → Spares place did

  module _ (place from to : ℕ) (low : past.begin ≤ from) (high : to ≤ behind_call past)
      (spared : AllByRecursion (SparesWithin place from to) past.steps)
      (apart : place ≢ place_of env.geometry EnrolledCallers) where
    -- a step of the caller itself is one of the call, which began with no step
    step_own : (n : ℕ) (op : Option Op) → slice_get events n ≡ Some (Step c) → from ≤ n → n < to
        → planned_in (behind n).core c ≡ op
        → get_or (world_step mix (behind n) (Step c)).core.words place 0 ≡ word place n
    step_own n None is first last none =
        ap (λ (w : World M). get_or w.core.words place 0) (step_none M mix (behind n) c none)
    step_own n (Some op) is first last plan = elim (cases_eq n past.begin) [
      | inl same ↦
          let both : Some (Step c) ≡ Some (Begin c past.done.call past_call.start) =
          sym is ∙ ap (slice_get events) same ∙ past_call.began in
          absurd (cc)
      | inr later ↦
          let did : Did = record { index = n; op = op; old = old_of (behind n).core.words op } in
          let there = stands_within M mix env events c admitted past did ended
          (record { event = is; plan = plan; found = refl }) (omega (arith, low, first, later)) (omega (arith, last, high)) in
          ap (λ words. get_or words place 0) (step_words M mix (behind n) c op plan)
          ∙ spared_word (behind n).core.words place did refl
          (All-contains (SparesWithin place from to) past.steps did
          (All-from_recursion (SparesWithin place from to) past.steps spared) there first last)
    ]

    -- who is in no call performs nothing
    idle_planned : (core : Core M) (d : ℕ) → is_idle (local_of core d) ≡ true → planned_in core d ≡ None
    idle_planned core d idle = rw (idle_plans M (local_of core d) idle) (none_either (nat_lt d core.enrolled))
      where
        none_either : (b : Bool) → ◌≡◌ {A = Option Op} (cond b None None) None
        none_either true = refl
        none_either false = refl

    event_leaves : (n : ℕ) (event : Event) → slice_get events n ≡ Some event → from ≤ n → n < to
        → get_or (world_step mix (behind n) event).core.words place 0 ≡ word place n
    event_leaves n Enroll is first last =
        applied-other (behind n).core.words (enrolling (behind n).core.env) place apart
    event_leaves n (Begin d call start) is first last = refl
    event_leaves n (Step d) is first last = elim (cases_eq d c) [
      | inl same ↦
          subst (λ k. get_or (world_step mix (behind n) (Step k)).core.words place 0 ≡ word place n) (sym same)
          (step_own n (planned_in (behind n).core c) (is ∙ ap (λ k. Some (Step k)) same) first last refl)
      | inr other ↦
          ap (λ (w : World M). get_or w.core.words place 0)
          (step_none M mix (behind n) d
          (idle_planned (behind n).core d
          (alone n d (omega (arith, low, first)) (omega (arith, last, high)) other)))
    ]

    -- so the word is behind these events what it was before them
    same_between : (left n : ℕ) → n + left ≡ to → from ≤ n → word place n ≡ word place to
    same_between zero n is first = ap (word place) (omega (arith, is))
    same_between (suc left) n is first =
        let ends = past-ends M mix env events c past past_call in
        let within : n < length events = omega (arith, is, high, ends) in
        let event = get_or events n Enroll in
        let there = slice_get-get_or events n Enroll within in
        sym (event_leaves n event there first (omega (arith, is)))
        ∙ ap (λ (w : World M). get_or w.core.words place 0) (sym (behind-suc n event there))
        ∙ same_between left (suc n) (omega (arith, is)) (omega (arith, first))

    pub same_over : from ≤ to → word place from ≡ word place to
    same_over within = same_between (to - from) from (omega (arith, within)) (omega arith)

  -- what an operation loaded is what stood there
  loaded_there : (address : Address) (value : ℕ) (did : Did) → Contains past.steps did
      → Loaded env.geometry address value did → word (place_of env.geometry address) did.index ≡ value
  loaded_there address value did there loaded =
      sym (ap (old_of (behind did.index).core.words) loaded.word.loads) ∙ (recorded_in did there).found ∙ loaded.found

  not_enrolled : (address : Address) → IsAddress env.geometry address → address ≢ EnrolledCallers
      → place_of env.geometry address ≢ place_of env.geometry EnrolledCallers
  not_enrolled address there other same = other (place_of-apart env.geometry address EnrolledCallers there tt same)

  -- a word that an operation of the call loaded, and that all leave from there on, is at the end of the call what was loaded
  pub loaded_at_end : (address : Address) (value : ℕ) (did : Did) → Contains past.steps did
      → Loaded env.geometry address value did → address ≢ EnrolledCallers
      → AllByRecursion (SparesWithin (place_of env.geometry address) did.index (behind_call past)) past.steps
      → word_at env.geometry (behind (behind_call past)).core.words address ≡ value
  loaded_at_end address value did there loaded other spared =
      let within = steps_within did there in
      sym (same_over (place_of env.geometry address) did.index (behind_call past) (omega (arith, within.0)) (omega arith) spared
      (not_enrolled address loaded.word.there other) (omega (arith, within.1)))
      ∙ loaded_there address value did there loaded

  -- one that all leave before is at the beginning what was loaded
  pub loaded_at_begin : (address : Address) (value : ℕ) (did : Did) → Contains past.steps did
      → Loaded env.geometry address value did → address ≢ EnrolledCallers
      → AllByRecursion (SparesWithin (place_of env.geometry address) past.begin did.index) past.steps
      → word_at env.geometry (behind past.begin).core.words address ≡ value
  loaded_at_begin address value did there loaded other spared =
      let within = steps_within did there in
      same_over (place_of env.geometry address) past.begin did.index (omega arith) (omega (arith, within.1)) spared
      (not_enrolled address loaded.word.there other) (omega (arith, within.0))
      ∙ loaded_there address value did there loaded

  -- and one that an operation stored, and that all leave behind it, is at the end what was stored
  pub stored_at_end : (address : Address) (value : ℕ) (did : Did) → Contains past.steps did → IsAddress env.geometry address
      → did.op ≡ Store (place_of env.geometry address) value → address ≢ EnrolledCallers
      → AllByRecursion (SparesWithin (place_of env.geometry address) (did.index + 1) (behind_call past)) past.steps
      → word_at env.geometry (behind (behind_call past)).core.words address ≡ value
  stored_at_end address value did there is_address stores other spared =
      let within = steps_within did there in
      let place = place_of env.geometry address in
      let recorded = recorded_in did there in
      let w = behind did.index in
      let inside : place < length w.core.words =
      let all = (runs-in M mix env (take did.index events)).all_words in
      let below = place_of-below env.geometry address is_address in omega (arith, all, below) in
      let words : (behind (suc did.index)).core.words ≡ applied w.core.words (Store place value) =
      ap (λ (v : World M). v.core.words) (behind-suc did.index (Step c) recorded.event)
      ∙ step_words M mix w c did.op recorded.plan ∙ ap (applied w.core.words) stores in
      let next : did.index + 1 ≡ suc did.index = omega arith in
      sym (same_over place (did.index + 1) (behind_call past) (omega (arith, within.0)) (omega arith) spared
      (not_enrolled address is_address other) (omega (arith, within.1)))
      ∙ ap (word place) next ∙ ap (λ ws. get_or ws place 0) words ∙ applied-same w.core.words (Store place value) inside

  -- each of its operations finds the words as the one before has left them, and the last one leaves them so for the end
  pub left_so : (before rest : List Did) (did : Did) → past.steps ≡ before ++ did ∷ rest → (address : Address)
      → IsAddress env.geometry address → address ≢ EnrolledCallers
      → word_at env.geometry (found_first (λ n. (behind n).core.words) rest (behind (behind_call past)).core.words) address
      ≡ word_at env.geometry (applied (behind did.index).core.words did.op) address
  left_so before rest did split address is_address other =
      go rest (rising_around (past.begin + 1) before did rest (subst (IsRising (past.begin + 1)) split steps_rising)) split
    where
      place : ℕ
      place = place_of env.geometry address

      there : Contains past.steps did
      there =
          subst (λ s. Contains s did) (sym split)
          (Contains-append_right before (did ∷ rest) did (0, omega arith, refl))

      left : (to : ℕ) → did.index + 1 ≤ to → to ≤ behind_call past
          → AllByRecursion (SparesWithin place (did.index + 1) to) past.steps
          → word place to ≡ get_or (applied (behind did.index).core.words did.op) place 0
      left to low high spared =
          let within = steps_within did there in
          let recorded = recorded_in did there in
          let words : (behind (suc did.index)).core.words ≡ applied (behind did.index).core.words did.op =
          ap (λ (v : World M). v.core.words) (behind-suc did.index (Step c) recorded.event)
          ∙ step_words M mix (behind did.index) c did.op recorded.plan in
          let next : did.index + 1 ≡ suc did.index = omega arith in
          sym (same_over place (did.index + 1) to (omega (arith, within.0)) high spared (not_enrolled address is_address other) low)
          ∙ ap (word place) next ∙ ap (λ ws. get_or ws place 0) words

      -- none of them stands between the two
      spares : (to : ℕ) (behind : List Did) → past.steps ≡ before ++ did ∷ behind
          → AllByRecursion (λ (d : Did). d.index < did.index) before → AllByRecursion (λ (d : Did). to ≤ d.index) behind
          → AllByRecursion (SparesWithin place (did.index + 1) to) past.steps
      spares to behind is early late =
          let P = SparesWithin place (did.index + 1) to in
          let earlier : AllByRecursion P before =
          AllByRecursion-weaker (λ (d : Did). d.index < did.index) P
          (λ d less first last. absurd (omega (arith, less, first))) before early in
          let here : P did = λ first last. absurd (omega (arith, first)) in
          let later : AllByRecursion P behind =
          AllByRecursion-weaker (λ (d : Did). to ≤ d.index) P (λ d more first last. absurd (omega (arith, more, last)))
          behind late in
          subst (AllByRecursion P) (sym is) (AllByRecursion-append P before (did ∷ behind) earlier (here, later))

      go : (rest : List Did)
          → AllByRecursion (λ (d : Did). d.index < did.index) before × AllByRecursion (λ (d : Did). did.index < d.index) rest
          → past.steps ≡ before ++ did ∷ rest
          → word_at env.geometry (found_first (λ n. (behind n).core.words) rest (behind (behind_call past)).core.words) address
          ≡ word_at env.geometry (applied (behind did.index).core.words did.op) address
      go [] rising is =
          let within = steps_within did there in
          left (behind_call past) (omega (arith, within.1)) (omega arith) (spares (behind_call past) [] is rising.0 tt)
      go (next ∷ more) rising is =
          let behind_next = rising_around (past.begin + 1) (before ++ did ∷ []) next more
          (subst (IsRising (past.begin + 1)) (is ∙ sym (append_assoc before (did ∷ []) (next ∷ more))) steps_rising) in
          let next_there : Contains past.steps next =
          subst (λ s. Contains s next) (sym is) (Contains-append_right before (did ∷ next ∷ more) next (1, omega arith, refl)) in
          let within = steps_within next next_there in
          let above = rising.1.0 in
          left next.index (omega (arith, above)) (omega (arith, within.1))
          (spares next.index (next ∷ more) is rising.0 (
            omega arith,
            AllByRecursion-weaker (λ (d : Did). next.index < d.index) (λ (d : Did). next.index ≤ d.index)
                (λ d later. omega (arith, later)) more behind_next.1,
          ))
