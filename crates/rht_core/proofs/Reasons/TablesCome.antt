-- A slot to which a call has come in its section had a table, and has it while that stays open: each load on the way there was made at its event,
-- in the section. So where a bind attaches a table behind the one that it walked last, that one is in force and has the shape that was
-- loaded; and it has 2^17 buckets at most.
use Rattle.std.proofs.Common.{◌≡◌, ℕ, zero, suc, ◌^◌, ◌<◌, ◌≤◌, List, [], ◌∷◌, ◌++◌, take, drop, Option, Some, None, refl, sym, ap, ◌∙◌, subst, inl, inr, arith, ◌%◌, append_assoc, ◌⊎◌}
use Rattle.std.specs.List.{AllByRecursion}
use Rattle.std.proofs.lemmas.List.{take-append-drop}
use Rattle.std.proofs.lemmas.Option.{slice_get_within}
use Rattle.rht_words.specs.declared.env.Env.{Env}
use Rattle.rht_words.specs.declared.geometry.Geometry.{Geometry}
use Rattle.rht_words.specs.declared.op.Op.TheVariants.{Load}
use Rattle.rht_words.specs.Links.{table_of, slot_of}
use Rattle.rht_words.specs.Members.{In}
use Rattle.rht_words.specs.Operations.{old_of, op_place}
use Rattle.rht_words.specs.Places.{Address, CurrentTable, Slot, ShapeWord, FutureWord, place_of, word_at, Section}
use Rattle.rht_words.specs.Shapes.{unpacked, size_of}
use Rattle.rht_words.proofs.EachElement.{AllByRecursion-cut, AllByRecursion-weaker, AllByRecursion-append}
use Rattle.rht_stands.specs.StandsFor.{in_force, tables_from}
use Rattle.rht_core.specs.declared.event.Event.{Event}
use Rattle.rht_core.specs.declared.event.Event.TheVariants.{Step}
use Rattle.rht_core.specs.Runs.{IsAdmitted, IsAdmittedEvent}
use Rattle.rht_core.specs.Traces.{Did, IsRising}
use Rattle.rht_core.specs.Laws.{IsRecorded}
use Rattle.rht_core.specs.Seen.{CameTo, as_current, as_future, LastWalked, words_before, StaysInSection, TurnsNoSection}
use Rattle.rht_core.specs.ResizeCauses.{Attaches}
use Rattle.rht_core.specs.Attached.{ChangesMissing}
use Rattle.rht_core.proofs.Meaning.TablesInForce.{last_stands}
use Rattle.rht_core.proofs.Events.TablesThere as there
use Rattle.rht_core.proofs.Events.TablesThere.{HadTable, tables_at, IsInside}
use Rattle.rht_core.proofs.Tracing.StepsInTraces.{rising-before, rising_around}
use Rattle.rht_core.proofs.Counting.TablesInRuns.{tables}
use Rattle.rht_core.proofs.Tracing.UnturnedSteps.{LeavesSection, UnturnedTo}
use Rattle.rht_core.proofs.Events.UnturnedSections.{unturned-first}
use Rattle.rht_core.proofs.Returning.InsideInRuns.{inside}

module _ (M : Type 0) (mix : ℕ → ℕ → ℕ → ℕ) (env : Env) (events : List Event) (c : ℕ) where
  abbrev g : Geometry
  g = env.geometry

  abbrev words_at : ℕ → List ℕ
  words_at = words_before M mix env events

  abbrev IsRecordedHere : Did → Type 0
  IsRecordedHere did = IsRecorded M mix env events c did

  abbrev IsBefore : ℕ → Did → Type 0
  IsBefore n did = did.index < n

  -- these operations of the caller were recorded at their events, one behind the other
  pub record AreTraced (steps : List Did) : Type 0 where
    pub from : ℕ
    pub recorded : AllByRecursion IsRecordedHere steps
    pub rising : IsRising from steps

  -- so were the first of them
  pub traced-front : (front rest : List Did) → AreTraced (front ++ rest) → AreTraced front
  traced-front front rest all = record {
    from = all.from;
    recorded = (AllByRecursion-cut IsRecordedHere front rest all.recorded).0;
    rising = rising-before all.from front rest all.rising;
  }

  -- what a load found is the word before its event
  load-found : (address : Address) (did : Did) → IsRecordedHere did → did.op ≡ Load (place_of g address)
      → did.old ≡ word_at g (words_at did.index) address
  load-found address did was loads = sym was.found ∙ ap (old_of (words_at did.index)) loads

  -- ---- a slot to which a call has come

  -- the section word stays from operations on up to an earlier one too, where this one and those behind it turn none
  abbrev Unturned : List Did → ℕ → Type 0
  Unturned = UnturnedTo g words_at c

  unturned-front : (before : List Did) (at : Did) (behind steps : List Did) (upto : ℕ) → steps ≡ before ++ at ∷ behind → AreTraced steps
      → at.index ≤ upto → AllByRecursion (LeavesSection g words_at c) (at ∷ behind) → Unturned steps upto → Unturned before at.index
  unturned-front before at behind steps upto split all within quiet calm front first later is keep =
      let cut = subst AreTraced split all in
      let early = (AllByRecursion-cut (λ (d : Did). d.index < at.index) front (first ∷ later)
      (subst (AllByRecursion (λ (d : Did). d.index < at.index)) is (rising_around cut.from before at behind cut.rising).0)).1.0 in
      let whole = calm front first (later ++ at ∷ behind)
      (split ∙ ap (λ l. l ++ at ∷ behind) is ∙ append_assoc front (first ∷ later) (at ∷ behind))
      (AllByRecursion-append (LeavesSection g words_at c) (first ∷ later) (at ∷ behind) keep quiet) in
      unturned-first g words_at c first.index at.index upto whole (omega (arith, early)) within

  -- a load turns no section, and neither do those that stay in the section
  keeps_load : (did : Did) (place : ℕ) → did.op ≡ Load place → LeavesSection g words_at c did
  keeps_load did place loads adds = let both = sym loads ∙ adds in cc

  keep_all : c < 16 → (steps : List Did) → AllByRecursion (StaysInSection g) steps → AllByRecursion (LeavesSection g words_at c) steps
  keep_all few steps stay = AllByRecursion-weaker (StaysInSection g) (LeavesSection g words_at c) (λ did stays. stays.1 c few) steps stay

  module _ (admitted : IsAdmitted events) (few : c < 16) where
    -- the load of the current table is made in a section
    reads_at : (did : Did) → IsRecordedHere did → did.op ≡ Load (place_of g CurrentTable)
        → word_at g (words_at did.index) (Section c) % 2 ≡ 1
    reads_at did was loads = (inside M mix env events c did admitted was).current (ap op_place loads)

    -- the slot had a table by the words then, and the section has been open since an earlier event
    record HasCome (slot n : ℕ) : Type 0 where
      had : HadTable g words_at c n slot
      from : ℕ
      inside : IsInside g words_at c from n

    came_had : (slot : ℕ) (steps : List Did) (n : ℕ) → AreTraced steps → AllByRecursion (IsBefore n) steps → Unturned steps n
        → CameTo g slot steps → HasCome slot n
    came_had slot steps n all early calm (as_current _ before at behind _ loads split last) =
        let was = (AllByRecursion-cut IsRecordedHere before (at ∷ behind) (subst (AllByRecursion IsRecordedHere) split all.recorded)).1.0 in
        let inside : IsInside g words_at c at.index n = record {
          odd = reads_at at was loads.0.loads;
          unturned = calm before at behind split (keeps_load at _ loads.0.loads, keep_all few behind last);
        } in
        record {
          had = there.as_before at.index n slot
              (there.as_current at.index slot (ap table_of (sym (load-found CurrentTable at was loads.0.loads)) ∙ loads.1)) inside;
          from = at.index;
          inside = inside;
        }
    came_had slot steps n all early calm (as_future front _ before at behind _ came loads named split last) =
        let cut = subst AreTraced split all in
        let was = (AllByRecursion-cut IsRecordedHere before (at ∷ behind) cut.recorded).1.0 in
        let low = (AllByRecursion-cut (IsBefore n) before (at ∷ behind) (subst (AllByRecursion (IsBefore n)) split early)).1.0 in
        let sooner = (rising_around cut.from before at behind cut.rising).0 in
        let quiet : AllByRecursion (LeavesSection g words_at c) (at ∷ behind) = (keeps_load at _ loads.loads, keep_all few behind last) in
        let had = came_had front before at.index (traced-front before (at ∷ behind) cut) sooner
        (unturned-front before at behind steps n split all (omega (arith, low)) quiet calm) came in
        let first = had.inside in
        let inside : IsInside g words_at c at.index n = record {
          odd = ap (λ word. word % 2) (first.unturned.same at.index first.unturned.later (omega arith)) ∙ first.odd;
          unturned = calm before at behind split quiet;
        } in
        record {
          had = there.as_before at.index n slot
              (there.as_future at.index front slot had.had (ap slot_of (sym (load-found (Slot front FutureWord) at was loads.loads)) ∙ named))
              inside;
          from = at.index;
          inside = inside;
        }

  -- ---- or whose table is in force

  -- by induction over the tables from this one on
  from_had : (i slot left : ℕ) (next : Option ℕ) → ((s : ℕ) → next ≡ Some s → HadTable g words_at c i s)
      → In slot (tables_from g (words_at i) left next) → HadTable g words_at c i slot
  from_had i slot zero next had there_is = absurd there_is
  from_had i slot (suc left) None had there_is = absurd there_is
  from_had i slot (suc left) (Some table) had there_is = elim there_is [
    | inl same ↦ subst (HadTable g words_at c i) (sym same) (had table refl)
    | inr behind ↦
        from_had i slot left (slot_of (word_at g (words_at i) (Slot table FutureWord)))
        (λ s named. there.as_future i table s (had table refl) named) behind
  ]

  stands_had : (i slot : ℕ) → In slot (in_force g (words_at i)) → HadTable g words_at c i slot
  stands_had i slot stands =
      let current = table_of (word_at g (words_at i) CurrentTable) in
      from_had i slot 8 (Some current)
      (λ s is. let same : current ≡ s = cc in there.as_current i s same) stands

  -- ---- what that says of an operation, with those before it

  module _ (admitted : IsAdmitted events) (few : c < 16) (before : List Did) (did : Did)
      (all : AreTraced (before ++ did ∷ [])) (calm : Unturned before did.index) where
    early_steps : AllByRecursion (IsBefore did.index) before
    early_steps = (rising_around all.from before did [] all.rising).0

    traced_before : AreTraced before
    traced_before = traced-front before (did ∷ []) all

    -- a table was there that is in force, or to which the call has come; then its section is still open
    pub record WasThere (slot : ℕ) : Type 0 where
      pub had : HadTable g words_at c did.index slot
      pub yet : In slot (in_force g (words_at did.index)) ⊎ (word_at g (words_at did.index) (Section c) % 2 ≡ 1)

    pub table_there : (slot : ℕ) → In slot (in_force g (words_at did.index)) ⊎ CameTo g slot before → WasThere slot
    table_there slot stands = elim stands [
      | inl in_it ↦ record { had = stands_had did.index slot in_it; yet = inl in_it }
      | inr came ↦
          let has = came_had admitted few slot before did.index traced_before early_steps calm came in
          let inside = has.inside in
          record {
            had = has.had;
            yet = inr (ap (λ word. word % 2) (inside.unturned.same did.index inside.unturned.later (omega arith)) ∙ inside.odd);
          }
    ]

    -- so was the table of an entry that leads to no page
    pub missing_had : (entry : ℕ) (changed : ChangesMissing g (words_at did.index) before entry did)
        → HadTable g words_at c did.index changed.table
    missing_had entry changed = (table_there changed.table changed.stands).had

    -- and the table behind which another one is attached has 2^17 buckets at most
    pub walked_size : (table shape slot : ℕ) (walked : LastWalked g table shape before) → AllByRecursion (TurnsNoSection g) walked.behind
        → Attaches g table slot did → size_of (unpacked shape) ≤ 2 ^ 17
    walked_size table shape slot walked quiet attaches =
        let at = walked.at in
        let front = subst AreTraced walked.split traced_before in
        let was = (AllByRecursion-cut IsRecordedHere walked.before (at ∷ walked.behind) front.recorded).1.0 in
        let low = (AllByRecursion-cut (IsBefore did.index) walked.before (at ∷ walked.behind)
        (subst (AllByRecursion (IsBefore did.index)) walked.split early_steps)).1.0 in
        let keep : AllByRecursion (LeavesSection g words_at c) (at ∷ walked.behind) = (
          keeps_load at _ walked.loaded,
          AllByRecursion-weaker (TurnsNoSection g) (LeavesSection g words_at c) (λ other none. none c few) walked.behind quiet,
        ) in
        let had =
        came_had admitted few table walked.before at.index (traced-front walked.before (at ∷ walked.behind) front)
        (rising_around front.from walked.before at walked.behind front.rising).0
        (unturned-front walked.before at walked.behind before did.index walked.split traced_before (omega (arith, low)) keep calm)
        walked.reached in
        let first = had.inside in
        let inside : IsInside g words_at c at.index did.index = record {
          odd = ap (λ word. word % 2) (first.unturned.same at.index first.unturned.later (omega arith)) ∙ first.odd;
          unturned = calm walked.before at walked.behind walked.split keep;
        } in
        let now = (AllByRecursion-cut IsRecordedHere before (did ∷ []) all.recorded).1.0 in
        let within = slice_get_within events did.index (Step c) now.event in
        let here = tables_at env mix M events did.index (omega (arith, within)) admitted c few in
        let stayed = here.1 at.index table (inr inside) had.had in
        let read : shape ≡ word_at g (words_at did.index) (Slot table ShapeWord) =
        sym walked.found ∙ load-found (Slot table ShapeWord) at was walked.loaded ∙ stayed.shape in
        let none : word_at g (words_at did.index) (Slot table FutureWord) ≡ 0 =
        sym (ap (old_of (words_at did.index)) attaches.exchanges) ∙ now.found ∙ attaches.found in
        let stands = last_stands env mix (words_at did.index) here.0.ghost here.0.inv.whole table stayed.at none in
        let parts = AllByRecursion-cut IsAdmittedEvent (take did.index events) (drop did.index events)
        (subst IsAdmitted (sym (take-append-drop did.index events)) admitted) in
        subst (λ s. size_of (unpacked s) ≤ 2 ^ 17) (sym read) ((tables M mix env (take did.index events) parts.0).0.each table stands).most
