-- What the making of a table has seen and done so far: while it looks for a slot, that each slot before it isn't free; while it takes a
-- run of pages, that each run before the one at which it stands was seen taken in its turn; while it takes a top page, that each run was,
-- and behind that each page before the one at which it stands; where it gives its slot back, that all of these were; and once it has stored
-- the shape, that it has left it so. So where it makes no table, no slot or no pages were to be had, neither for a flat table nor for a
-- nested one, if that might be made.
use Rattle.std.proofs.Common.{◌≡◌, ◌≢◌, ℕ, ◌+◌, ◌<◌, ◌≤◌, ◌⊎◌, List, [], ◌∷◌, ◌++◌, append_assoc, Some, None, inl, inr, refl, sym, ap, ◌∙◌, subst, arith}
use Rattle.std.specs.Prelude.{Bool, true, false, Option, ◌==◌, nat_le, nat_lt}
use Rattle.std.specs.List.{AllByRecursion, Any}
use Rattle.std.proofs.lemmas.Bool.{cases_lt, cond_both, eqb-false, leb-false, ltb-false}
use Rattle.std.proofs.lemmas.List.{append-nil}
use Rattle.std.proofs.lemmas.List.Quantifiers.{Any-push}
use Rattle.rht_words.specs.declared.machine.Next.{Next}
use Rattle.rht_words.specs.declared.machine.Next.TheVariants.{Go, Done}
use Rattle.rht_words.specs.declared.machine.Start.TheVariants as starts
use Rattle.rht_words.specs.declared.geometry.Geometry.{Geometry}
use Rattle.rht_words.specs.Machines.{Performed}
use Rattle.rht_words.specs.Operations.{op_place}
use Rattle.rht_words.specs.Places.{Slot, ShapeWord, StateWord, place_of}
use Rattle.rht_words.proofs.EachElement.{Any-append_left, AllByRecursion-push}
use Rattle.rht_words.proofs.MachineRuns.{performed}
use Rattle.rht_words.proofs.PlacesApart.{parts_in_order}
use Rattle.rht_arena.specs.RunLaws.{page_place}
use Rattle.rht_arena.specs.TakeRun.{TakeRunModel, take_run_new, take_run_plan, take_run_after, run_length, first_run, IsTakeRunAtIn}
use Rattle.rht_arena.specs.declared.take_run.TakeRunAt.{TakeRunAt}
use Rattle.rht_arena.proofs.RunsSeen.{next_unseen, GoesOn, Went, goes_on_in}
use Rattle.rht_nest.specs.Make.{make_plan_at, make_after_at, may_nest, made_pages, made_shape, no_run, run_taken, run_started, top_taken, slot_seen, IsKind, IsMakeAtIn}
use Rattle.rht_nest.specs.MakeLaws.{StoresInSlot, SeesSlotTaken}
use Rattle.rht_nest.specs.declared.make.MakeAt.{MakeAt}
use Rattle.rht_nest.specs.declared.make.MakeAt.TheVariants as at
use Rattle.rht_nest.proofs.MakesStay.{made_pages-some}
use Rattle.rht_core.specs.ResizeCauses.{FindsSlotsTaken, AreSlotsTaken, SeesRunLost, AreRunsTaken, IsGivenBack, AreNoPages}
use Rattle.rht_core.proofs.Reasons.PagesTaken.{none_from, TakesNoneFrom, off_map_takes_none, none_later, none_took, StandsFrom, PassesIn, passes_in}
use Rattle.rht_core.proofs.Reasons.PagesGivenBack.{given_back-none, GaveBackBut, GaveBackThen, gave_back_in}
use Rattle.rht_core.specs.Attached.{SawNoRun}

module _ (g : Geometry) (pages : ℕ) where
  -- the runs from one up to this one were seen taken in their turn, behind these operations
  abbrev pub AreRunsTakenTo : ℕ → ℕ → List Performed → List Performed → Type 0
  AreRunsTakenTo place next before [] = next ≡ place
  AreRunsTakenTo place next before (step ∷ steps) =
      let past = before ++ step ∷ [] in
      AreRunsTakenTo place next past steps
      ⊎ (SeesRunLost g pages next before step × AreRunsTakenTo place (next + pages) past steps)

  -- and stay so
  taken_to-stays : (place next : ℕ) (before steps : List Performed) (step : Performed) → AreRunsTakenTo place next before steps
      → AreRunsTakenTo place next before (steps ++ step ∷ [])
  taken_to-stays place next before [] step same = inl same
  taken_to-stays place next before (first ∷ steps) step (inl later) =
      inl (taken_to-stays place next (before ++ first ∷ []) steps step later)
  taken_to-stays place next before (first ∷ steps) step (inr (here, later)) =
      inr (here, taken_to-stays place (next + pages) (before ++ first ∷ []) steps step later)

  -- and this one too, where the next operation sees it
  taken_to-sees : (place next : ℕ) (before steps : List Performed) (step : Performed)
      → SeesRunLost g pages place (before ++ steps) step
      → AreRunsTakenTo place next before steps → AreRunsTakenTo (place + pages) next before (steps ++ step ∷ [])
  taken_to-sees place next before [] step sees same =
      let here = subst (λ b. SeesRunLost g pages place b step) (append-nil before) sees in
      inr (subst (λ p. SeesRunLost g pages p before step) (sym same) here, ap (λ p. p + pages) same)
  taken_to-sees place next before (first ∷ steps) step sees (inl later) =
      inl (taken_to-sees place next (before ++ first ∷ []) steps step
      (subst (λ b. SeesRunLost g pages place b step) (sym (append_assoc before (first ∷ []) steps)) sees) later)
  taken_to-sees place next before (first ∷ steps) step sees (inr (here, later)) =
      inr (
        here,
        taken_to-sees place (next + pages) (before ++ first ∷ []) steps step
            (subst (λ b. SeesRunLost g pages place b step) (sym (append_assoc before (first ∷ []) steps)) sees) later,
      )

  -- where fewer pages are left behind them, each run was seen
  taken_to-each : (place next : ℕ) (before steps : List Performed) → g.pages < place + pages
      → AreRunsTakenTo place next before steps → AreRunsTaken g pages next before steps
  taken_to-each place next before [] past same = subst (λ p. g.pages < p + pages) (sym same) past
  taken_to-each place next before (step ∷ steps) past (inl later) =
      inl (taken_to-each place next (before ++ step ∷ []) steps past later)
  taken_to-each place next before (step ∷ steps) past (inr (here, later)) =
      inr (here, taken_to-each place (next + pages) (before ++ step ∷ []) steps past later)

  -- with none seen yet
  taken_to-begins : (before steps : List Performed) → AreRunsTakenTo 0 0 before steps
  taken_to-begins before [] = refl
  taken_to-begins before (step ∷ steps) = inl (taken_to-begins (before ++ step ∷ []) steps)

  -- runs that were seen taken in their turn have been, whatever comes behind
  pub runs_taken-stay : (next : ℕ) (before steps : List Performed) (step : Performed) → AreRunsTaken g pages next before steps
      → AreRunsTaken g pages next before (steps ++ step ∷ [])
  runs_taken-stay next before [] step seen = inl seen
  runs_taken-stay next before (first ∷ steps) step (inl later) =
      inl (runs_taken-stay next (before ++ first ∷ []) steps step later)
  runs_taken-stay next before (first ∷ steps) step (inr (here, later)) =
      inr (here, runs_taken-stay (next + pages) (before ++ first ∷ []) steps step later)

  -- what the taking of a run has seen in a state
  abbrev pub SawRun : TakeRunAt → List Performed → Type 0
  SawRun at steps = AllByRecursion (TakesNoneFrom g (none_from pages at)) steps × AreRunsTakenTo (next_unseen pages at) 0 [] steps

  -- and behind an operation of it
  abbrev pub SawTaking : TakeRunModel × Next (Option ℕ) → List Performed → Type 0
  SawTaking (left, Go) steps = SawRun left.at steps
  SawTaking (left, Done None) steps = AreRunsTaken g pages 0 [] steps
  SawTaking (left, Done (Some page)) steps = Unit {0}

  -- an operation of the taking of a run
  module _ (take : TakeRunModel) (old : ℕ) (steps : List Performed) where
    abbrev stand : ℕ
    stand = next_unseen pages take.at

    abbrev step : Performed
    step = performed take_run_plan take_run_after take old

    abbrev done : List Performed
    done = steps ++ step ∷ []

    -- it sees the run at which the machine stands or stays at it
    went-to : (end : ℕ) → Went g pages stand end step → PassesIn g pages take old → SawRun take.at steps
        → AreRunsTakenTo end 0 [] done
    went-to end (inl stays) passes saw =
        subst (λ p. AreRunsTakenTo p 0 [] done) (sym stays.0) (taken_to-stays stand 0 [] steps step saw.1)
    went-to end (inr (is, sees)) passes saw =
        let ahead = passes.ahead sees in
        let lost : SeesRunLost g pages stand steps step = record {
          sees = sees;
          untaken = none_took g (none_from pages take.at) sees.page steps ahead.0 ahead.1 saw.0;
        } in
        subst (λ p. AreRunsTakenTo p 0 [] done) (sym is) (taken_to-sees stand 0 [] steps step lost saw.1)

    -- up to where it stands then it may have taken pages
    none_taken : (passes : PassesIn g pages take old) → SawRun take.at steps
        → AllByRecursion (TakesNoneFrom g passes.from) done
    none_taken passes saw =
        AllByRecursion-push (TakesNoneFrom g passes.from) steps step
        (none_later g (none_from pages take.at) passes.from steps passes.before saw.0) passes.takes

    pub taken-saw : (r : TakeRunModel × Next (Option ℕ)) → GoesOn g pages stand step r → (passes : PassesIn g pages take old)
        → StandsFrom pages passes.from r → SawRun take.at steps
        → SawTaking r done
    taken-saw (left, Go) on passes stands saw = (
      none_later g passes.from (none_from pages left.at) done stands (none_taken passes saw),
      subst (λ place. AreRunsTakenTo place 0 [] done) (sym on.stands) (went-to on.end on.went passes saw),
    )
    taken-saw (left, Done None) on passes stands saw =
        taken_to-each on.end 0 [] done on.stands (went-to on.end on.went passes saw)
    taken-saw (left, Done (Some page)) on passes stands saw = tt

module _ (g : Geometry) (exponent : ℕ) where
  abbrev pages_flat : ℕ
  pages_flat = made_pages exponent

  -- the last operation on the shape of this slot stored this one
  pub record IsShaped (slot shape : ℕ) (steps : List Performed) : Type 0 where
    pub before : List Performed
    pub at : Performed
    pub behind : List Performed
    pub split : steps ≡ before ++ at ∷ behind
    pub stored : StoresInSlot g slot ShapeWord shape at
    pub left : AllByRecursion (λ step. op_place step.op ≢ place_of g (Slot slot ShapeWord)) behind

  IsShaped-new : (slot shape : ℕ) (steps : List Performed) (step : Performed) → StoresInSlot g slot ShapeWord shape step
      → IsShaped slot shape (steps ++ step ∷ [])
  IsShaped-new slot shape steps step stored =
      record { before = steps; at = step; behind = []; split = refl; stored = stored; left = tt }

  IsShaped-push : (slot shape : ℕ) (steps : List Performed) (step : Performed)
      → op_place step.op ≢ place_of g (Slot slot ShapeWord) → IsShaped slot shape steps → IsShaped slot shape (steps ++ step ∷ [])
  IsShaped-push slot shape steps step other is = record {
    before = is.before;
    at = is.at;
    behind = is.behind ++ step ∷ [];
    split = ap (λ s. s ++ step ∷ []) is.split ∙ append_assoc is.before (is.at ∷ is.behind) (step ∷ []);
    stored = is.stored;
    left =
        AllByRecursion-push (λ step. op_place step.op ≢ place_of g (Slot slot ShapeWord)) is.behind step is.left other;
  }

  -- the slots before this one were found not to be free
  abbrev SawSlotsBelow : ℕ → List Performed → Type 0
  SawSlotsBelow slot steps = (other : ℕ) → other < slot → Any (SeesSlotTaken g other) steps

  -- all pages were given back that these operations took
  abbrev pub GaveBack : List Performed → Type 0
  GaveBack steps = (page : ℕ) → page < g.pages → IsGivenBack g page steps

  -- What the making has seen while it takes a top page: each run by operations before, which gave back what they took, and behind
  -- these the pages up to one.
  pub record SawTopTaking (take : TakeRunModel) (steps : List Performed) : Type 0 where
    pub before : List Performed
    pub behind : List Performed
    pub are : steps ≡ before ++ behind
    pub runs : AreRunsTaken g pages_flat 0 [] before
    pub back : GaveBack before
    pub tops : SawRun g 1 take.at behind

  -- a table is nested where each run of pages was seen taken
  abbrev pub NestedFor : Bool → List Performed → Type 0
  NestedFor nested steps = nested ≡ true → SawNoRun g pages_flat steps

  NestedFor-push : (nested : Bool) (steps : List Performed) (step : Performed) → NestedFor nested steps
      → NestedFor nested (steps ++ step ∷ [])
  NestedFor-push nested steps step saw is =
      let none = saw is in
      record {
        first = none.first;
        behind = none.behind ++ step ∷ [];
        are = ap (λ s. s ++ step ∷ []) none.are ∙ append_assoc none.first none.behind (step ∷ []);
        runs = none.runs;
      }

  -- what the making has seen in a state
  abbrev pub SawMaking : Bool → MakeAt → List Performed → Type 0
  SawMaking nests (at.Slot slot) steps =
      SawSlotsBelow slot steps × (AllByRecursion (FindsSlotsTaken g) steps × AllByRecursion (TakesNoneFrom g 0) steps)
  SawMaking nests (at.Taking slot take) steps = SawRun g pages_flat take.at steps × GaveBackBut g pages_flat take.at steps
  SawMaking nests (at.TakingTop slot take) steps = SawTopTaking take steps
  SawMaking nests (at.SlotBack slot) steps = AreNoPages g pages_flat nests steps
  SawMaking nests (at.NextSerial slot nested page) steps = NestedFor nested steps
  SawMaking nests (at.Shape slot nested page serial) steps = NestedFor nested steps
  SawMaking nests (at.Seed slot nested page serial) steps = IsShaped slot (made_shape exponent nested page) steps × NestedFor nested steps
  SawMaking nests (at.Future slot nested page serial) steps = IsShaped slot (made_shape exponent nested page) steps × NestedFor nested steps
  SawMaking nests (at.Serial slot nested page serial) steps = IsShaped slot (made_shape exponent nested page) steps × NestedFor nested steps

  -- and once it has ended; what it made is nested only where it may be
  abbrev pub SawMade : Bool → MakeAt × Next (Option (ℕ × ℕ)) → List Performed → Type 0
  SawMade nests (state, Go) steps = SawMaking nests state steps
  SawMade nests (state, Done None) steps = AreSlotsTaken g steps ⊎ AreNoPages g pages_flat nests steps
  SawMade nests (state, Done (Some made)) steps =
      (nested : Bool) × (page : ℕ) × IsShaped made.0 (made_shape exponent nested page) steps × (nested ≡ true → nests ≡ true)
      × (made.1 ≡ made_shape exponent nested page) × NestedFor nested steps

  -- it begins with nothing seen
  pub saw_nothing : (nests : Bool) (steps : List Performed) → AllByRecursion (FindsSlotsTaken g) steps
      → AllByRecursion (TakesNoneFrom g 0) steps → SawMaking nests (at.Slot 0) steps
  saw_nothing nests steps finds takes = (λ other low. absurd (omega (arith, low)), (finds, takes))

  -- where there is no run, the pages are looked for from the first one on, or none was to be had
  no_run-saw : (nests : Bool) (slot : ℕ) (steps : List Performed) → AreRunsTaken g pages_flat 0 [] steps → GaveBack steps
      → SawMaking nests (no_run g nests slot) steps
  no_run-saw true slot steps runs back = record {
    before = steps;
    behind = [];
    are = sym (append-nil steps);
    runs = runs;
    back = back;
    tops = (tt, taken_to-begins g 1 [] []);
  }
  no_run-saw false slot steps runs back = runs

  -- with a slot a run is looked for from the first one on, or there are too few pages
  started-saw : (nests : Bool) (slot : ℕ) (steps : List Performed) → AllByRecursion (TakesNoneFrom g 0) steps
      → SawMaking nests (run_started g nests slot (take_run_new g pages_flat)) steps
  started-saw nests slot steps none =
      let some = made_pages-some exponent in
      let back : GaveBack steps = λ page within. given_back-none g page steps within none in
      cond_both (nat_le (run_length pages_flat) g.pages) (starts.Running (first_run g (run_length pages_flat)))
      (starts.Done None)
      (λ start. SawMaking nests (run_started g nests slot start) steps)
      (λ t. ((none, taken_to-begins g pages_flat [] steps), λ page within lost. back page within))
      (λ f.
      let few : g.pages < run_length pages_flat = leb-false (run_length pages_flat) g.pages f in
      no_run-saw nests slot steps
      (taken_to-each g pages_flat 0 0 [] steps (omega (arith, few, some)) (taken_to-begins g pages_flat [] steps)) back)

  -- the exchange of a slot's state takes no page
  slot_takes_none : (slot : ℕ) (step : Performed) → step.op ≡ make_plan_at g exponent 0 (at.Slot slot) → slot < 8
      → TakesNoneFrom g 0 step
  slot_takes_none slot step is slot_in =
      off_map_takes_none g step
      (λ page within same.
      let here : place_of g (Slot slot StateWord) ≡ page_place g page = sym (ap op_place is) ∙ same in
      let order = parts_in_order g in
      absurd (omega (arith, here, slot_in, order.page_map)))

  slot-saw : (nests : Bool) (slot : ℕ) (steps : List Performed) (step : Performed) → step.op ≡ make_plan_at g exponent 0 (at.Slot slot)
      → slot < 8 → SawMaking nests (at.Slot slot) steps
      → SawMade nests (slot_seen g exponent nests slot step.old) (steps ++ step ∷ [])
  slot-saw nests slot steps step is slot_in saw =
      let all = steps ++ step ∷ [] in
      let takes = AllByRecursion-push (TakesNoneFrom g 0) steps step saw.1.1 (slot_takes_none slot step is slot_in) in
      cond_both (step.old == 0) _ _ (λ next. SawMade nests next all) (λ t. started-saw nests slot all takes)
      (λ f.
      let here : SeesSlotTaken g slot step = record { looks = is; taken = eqb-false step.old 0 f } in
      let further : SawSlotsBelow (slot + 1) all = λ other low. elim (cases_lt other slot) [
        | inl before ↦ Any-append_left (SeesSlotTaken g other) steps (step ∷ []) (saw.0 other before)
        | inr not_before ↦
            let same : slot ≡ other = omega (arith, low, not_before) in
            Any-push (SeesSlotTaken g other) steps step (subst (λ s. SeesSlotTaken g s step) same here)
      ] in
      let finds : FindsSlotsTaken g step = λ other low place.
      let places : place_of g (Slot slot StateWord) ≡ place_of g (Slot other StateWord) = sym (ap op_place is) ∙ place in
      let same : slot ≡ other = omega (arith, places) in
      subst (λ s. SeesSlotTaken g s step) same here in
      let only = AllByRecursion-push (FindsSlotsTaken g) steps step saw.1.0 finds in
      cond_both (nat_lt (slot + 1) 8) _ _ (λ next. SawMade nests next all) (λ t. (further, (only, takes)))
      (λ last.
      let end : 8 ≤ slot + 1 = ltb-false (slot + 1) 8 last in
      inl (record { seen = λ other high. further other (omega (arith, high, end)); only = only })))

  -- a run was taken, or is taken still, or there was none
  run_taken-saw : (nests : Bool) (slot : ℕ) (r : TakeRunModel × Next (Option ℕ)) (steps : List Performed)
      → SawTaking g pages_flat r steps → GaveBackThen g pages_flat r steps → SawMaking nests (run_taken g nests slot r.0 r.1) steps
  run_taken-saw nests slot (left, Go) steps saw gave = (saw, gave)
  run_taken-saw nests slot (left, Done None) steps saw gave = no_run-saw nests slot steps saw (λ page within. gave page within refl)
  run_taken-saw nests slot (left, Done (Some page)) steps saw gave = λ nested. absurd (cc)

  -- and so a top page
  top_taken-saw : (nests : Bool) (slot : ℕ) (r : TakeRunModel × Next (Option ℕ)) (before behind steps : List Performed)
      → nests ≡ true → steps ≡ before ++ behind → AreRunsTaken g pages_flat 0 [] before → GaveBack before
      → SawTaking g 1 r behind
      → SawMaking nests (top_taken slot r.0 r.1) steps
  top_taken-saw nests slot (left, Go) before behind steps may are runs back saw =
      record { before = before; behind = behind; are = are; runs = runs; back = back; tops = saw }
  top_taken-saw nests slot (left, Done None) before behind steps may are runs back saw =
      subst (λ n. AreNoPages g pages_flat n steps) (sym may)
      (record { flat = before; nested = behind; are = are; runs = runs; back = back; tops = saw })
  top_taken-saw nests slot (left, Done (Some page)) before behind steps may are runs back saw =
      λ nested. record { first = before; behind = behind; are = are; runs = runs }

  -- that no pages were to be had stays so
  pub no_pages-stay : (nests : Bool) (steps : List Performed) (step : Performed) → AreNoPages g pages_flat nests steps
      → AreNoPages g pages_flat nests (steps ++ step ∷ [])
  no_pages-stay false steps step runs = runs_taken-stay g pages_flat 0 [] steps step runs
  no_pages-stay true steps step none = record {
    flat = none.flat;
    nested = none.nested ++ step ∷ [];
    are = ap (λ s. s ++ step ∷ []) none.are ∙ append_assoc none.flat none.nested (step ∷ []);
    runs = none.runs;
    back = none.back;
    tops = runs_taken-stay g 1 0 [] none.nested step none.tops;
  }

  -- a table that is nested may be
  kind_nests : (allowed nested : Bool) → IsKind exponent allowed nested → nested ≡ true → may_nest exponent allowed ≡ true
  kind_nests allowed true kind is = kind
  kind_nests allowed false kind is = absurd (cc)

  -- each operation sees more
  pub make-saw : (seed : ℕ) (allowed : Bool) (state : MakeAt) (steps : List Performed) (old : ℕ)
      → IsMakeAtIn g exponent allowed state → SawMaking (may_nest exponent allowed) state steps
      → SawMade (may_nest exponent allowed) (make_after_at g exponent allowed state old)
      (steps ++ record { op = make_plan_at g exponent seed state; old = old } ∷ [])
  make-saw seed allowed (at.Slot slot) steps old here saw =
      slot-saw (may_nest exponent allowed) slot steps (record { op = make_plan_at g exponent seed (at.Slot slot); old = old }) refl here saw
  make-saw seed allowed (at.Taking slot take) steps old here saw =
      let range = subst (λ p. IsTakeRunAtIn g p take.at) here.pages_same here.take_in.at_in in
      let passes = passes_in g pages_flat take old here.take_in.geometry_same here.pages_same range in
      let step : Performed = record { op = take_run_plan take; old = old } in
      run_taken-saw (may_nest exponent allowed) slot (take_run_after take old) (steps ++ step ∷ [])
      (taken-saw g pages_flat take old steps (take_run_after take old)
      (goes_on_in g pages_flat take old here.take_in.geometry_same here.pages_same range) passes passes.stands saw.0)
      (gave_back_in g pages_flat take old steps here.take_in.geometry_same here.pages_same range saw.1)
  make-saw seed allowed (at.TakingTop slot take) steps old here saw =
      let taking = here.taking in
      let range = subst (λ p. IsTakeRunAtIn g p take.at) taking.pages_same taking.take_in.at_in in
      let passes = passes_in g 1 take old taking.take_in.geometry_same taking.pages_same range in
      let step : Performed = record { op = take_run_plan take; old = old } in
      top_taken-saw (may_nest exponent allowed) slot (take_run_after take old) saw.before (saw.behind ++ step ∷ [])
      (steps ++ step ∷ []) here.kind
      (ap (λ s. s ++ step ∷ []) saw.are ∙ append_assoc saw.before saw.behind (step ∷ [])) saw.runs saw.back
      (taken-saw g 1 take old saw.behind (take_run_after take old)
      (goes_on_in g 1 take old taking.take_in.geometry_same taking.pages_same range) passes passes.stands saw.tops)
  make-saw seed allowed (at.SlotBack slot) steps old here saw =
      inr (no_pages-stay (may_nest exponent allowed) steps (record { op = make_plan_at g exponent seed (at.SlotBack slot); old = old }) saw)
  make-saw seed allowed (at.NextSerial slot nested page) steps old here saw =
      NestedFor-push nested steps (record { op = make_plan_at g exponent seed (at.NextSerial slot nested page); old = old }) saw
  make-saw seed allowed (at.Shape slot nested page serial) steps old here saw =
      let step : Performed = record { op = make_plan_at g exponent seed (at.Shape slot nested page serial); old = old } in
      (IsShaped-new slot (made_shape exponent nested page) steps step refl, NestedFor-push nested steps step saw)
  make-saw seed allowed (at.Seed slot nested page serial) steps old here saw =
      let step : Performed = record { op = make_plan_at g exponent seed (at.Seed slot nested page serial); old = old } in (
        IsShaped-push slot (made_shape exponent nested page) steps step (λ same. absurd (omega (arith, same))) saw.0,
        NestedFor-push nested steps step saw.1,
      )
  make-saw seed allowed (at.Future slot nested page serial) steps old here saw =
      let step : Performed = record { op = make_plan_at g exponent seed (at.Future slot nested page serial); old = old } in (
        IsShaped-push slot (made_shape exponent nested page) steps step (λ same. absurd (omega (arith, same))) saw.0,
        NestedFor-push nested steps step saw.1,
      )
  make-saw seed allowed (at.Serial slot nested page serial) steps old here saw =
      let step : Performed = record { op = make_plan_at g exponent seed (at.Serial slot nested page serial); old = old } in (
        nested,
        page,
        IsShaped-push slot (made_shape exponent nested page) steps step (λ same. absurd (omega (arith, same))) saw.0,
        kind_nests allowed nested here.taken.kind,
        refl,
        NestedFor-push nested steps step saw.1,
      )
