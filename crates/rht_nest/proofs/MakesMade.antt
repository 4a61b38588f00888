-- A table that is answered was made of a slot and of pages that were free until the machine took them.
--
-- The slot is taken by the operation that finds it free; the run of pages, or the top page of a nested table, by those of its taking,
-- which has ended; and the last five operations take the serial and store the words. A nested table comes only behind a taking of a
-- run that found none.
use Rattle.std.proofs.Common.{◌≡◌, ℕ, Bool, true, false, ◌+◌, ◌-◌, ◌*◌, ◌/◌, ◌^◌, ◌<◌, ◌≤◌, List, [], ◌∷◌, ◌++◌, append_assoc, Some, None, inl, inr, refl, sym, ap, ◌∙◌, subst, max, min, arith}
use Rattle.std.specs.Prelude.{Option, ◌==◌, nat_lt, if◌then◌else◌}
use Rattle.std.specs.List.{Any}
use Rattle.std.proofs.lemmas.Bool.{cases_lt, cond_both, eqb-true, ltb-true}
use Rattle.std.proofs.Math.Pow.{pow_mono}
use Rattle.std.proofs.lemmas.Nat.{pow-add}
use Rattle.rht_words.specs.declared.machine.Next.{Next}
use Rattle.rht_words.specs.declared.machine.Next.TheVariants.{Go, Done}
use Rattle.rht_words.specs.declared.geometry.Geometry.{Geometry}
use Rattle.rht_words.specs.declared.shape.Shape.{Shape}
use Rattle.rht_words.specs.Places.{ShapeWord, SeedWord, FutureWord, SerialWord}
use Rattle.rht_words.specs.Shapes.{size_of}
use Rattle.rht_words.specs.Machines.{Performed, Ran, went_on}
use Rattle.rht_arena.specs.TakeRun.{take_run_new}
use Rattle.rht_arena.specs.RunLaws.{TakesPage, RunWasTaken}
use Rattle.rht_arena.proofs.NodesInTurn.{Any-behind}
use Rattle.rht_nest.specs.Tables.{exponent_made, flat_shape, table_pages, table_seed}
use Rattle.rht_nest.specs.Make.{may_nest, made_pages, made_shape, pages_taken, run_started}
use Rattle.rht_nest.specs.MakeLaws.{TakesSlot, StoresInSlot, TakesSerial, IsKindMade, TableWasMade, MadeOfWhatWasFree}
use Rattle.rht_nest.specs.declared.make.MakeAt.{MakeAt}
use Rattle.rht_nest.specs.declared.make.MakeAt.TheVariants as at
use Rattle.rht_nest.proofs.OneOfSteps.{Any-first, Any-within, Any-later}
use Rattle.rht_nest.proofs.TurnsJoined.{turn-then}
use Rattle.rht_nest.proofs.RunsLooked.{LookedThrough}
use Rattle.rht_nest.proofs.MakesEnd.{making_from, step_at, stores, Stored, TopEnds, NoRunEnds, RunEnds, started_ends}

-- a flat table's buckets fit in its pages
pub size_of-fits : (shape : Shape) → shape.nest ≡ 0 → size_of shape ≤ 64 * table_pages shape
size_of-fits shape flat =
    let exponent = max 2 (min shape.exponent 18) in
    let pages : table_pages shape ≡ max 1 (size_of shape / 64) = rw flat refl in
    elim (cases_lt exponent 6) [
      | inl few ↦ omega (arith, pages, pow_mono {i = exponent} {j = 6} (omega arith))
      | inr many ↦
          let more = exponent - 6 in
          let parts : 6 + more ≡ exponent = omega (arith, many) in
          let whole : 2 ^ exponent ≡ 64 * 2 ^ more = ap (λ e. 2 ^ e) (sym parts) ∙ pow-add 2 6 more in
          omega (arith, pages, whole)
    ]

-- two answers that are one have one slot and one shape
same_answer : (made other : ℕ × ℕ) → Some made ≡ Some other → (made.0 ≡ other.0) × (made.1 ≡ other.1)
same_answer made other is =
    let same : made ≡ other = cc in
    (ap (λ (pair : ℕ × ℕ). pair.0) same, ap (λ (pair : ℕ × ℕ). pair.1) same)

-- what was taken was so with more operations before and behind
RunWasTaken-within : (g : Geometry) (pages first : ℕ) (before steps behind : List Performed)
    → RunWasTaken g pages first steps → RunWasTaken g pages first (before ++ (steps ++ behind))
RunWasTaken-within g pages first before steps behind was = record {
  run = was.run;
  multiple = was.multiple;
  aligned = was.aligned;
  taken = λ page of_run. Any-within (TakesPage g page) before steps behind (was.taken page of_run);
}

module _ (g : Geometry) (size seed : ℕ) (allowed : Bool) where
  abbrev exponent : ℕ
  exponent = exponent_made size

  abbrev pages : ℕ
  pages = made_pages exponent

  abbrev nests : Bool
  nests = may_nest exponent allowed

  -- what comes of the making from a state on
  abbrev from : MakeAt → List ℕ → Ran (Option (ℕ × ℕ))
  from state olds = making_from g exponent seed allowed state olds

  -- with an operation before that table was made, too
  kind-first : (nested : Bool) (page : ℕ) (step : Performed) (steps : List Performed)
      → IsKindMade g size allowed nested page steps → IsKindMade g size allowed nested page (step ∷ steps)
  kind-first true page step steps kind = record { may = kind.may; no_run = inl kind.no_run }
  kind-first false page step steps kind = kind

  made-first : (slot shape : ℕ) (step : Performed) (steps : List Performed)
      → TableWasMade g size seed allowed slot shape steps → TableWasMade g size seed allowed slot shape (step ∷ steps)
  made-first slot shape step steps was = record {
    nested = was.nested;
    page = was.page;
    serial = was.serial;
    slot_in = was.slot_in;
    kind = kind-first was.nested was.page step steps was.kind;
    shape_is = was.shape_is;
    took_slot = Any-behind (TakesSlot g slot) step steps was.took_slot;
    took_run = record {
      run = was.took_run.run;
      multiple = was.took_run.multiple;
      aligned = was.took_run.aligned;
      taken = λ page of_run. Any-behind (TakesPage g page) step steps (was.took_run.taken page of_run);
    };
    took_serial = Any-behind (TakesSerial g was.serial) step steps was.took_serial;
    stored_shape = Any-behind (StoresInSlot g slot ShapeWord shape) step steps was.stored_shape;
    stored_seed =
        Any-behind (StoresInSlot g slot SeedWord (table_seed seed was.serial)) step steps was.stored_seed;
    stored_future = Any-behind (StoresInSlot g slot FutureWord 0) step steps was.stored_future;
    stored_serial = Any-behind (StoresInSlot g slot SerialWord was.serial) step steps was.stored_serial;
  }

  module _ (slot : ℕ) (slot_in : slot < 8) (shape : ℕ) where
    -- its next operation in a state
    abbrev step : MakeAt → ℕ → Performed
    step state old = step_at g exponent seed allowed state old

    -- what the last operations have stored, behind those that took the slot and the pages
    stored-made : (nested : Bool) (page : ℕ) (steps front last : List Performed) → steps ≡ front ++ last
        → IsKindMade g size allowed nested page steps
        → Any (TakesSlot g slot) steps
        → RunWasTaken g (pages_taken exponent nested) page steps
        → Stored g exponent seed allowed slot nested page (Some (slot, shape)) last
        → TableWasMade g size seed allowed slot shape steps
    stored-made nested page steps front last are kind took_slot took_run stored =
        let serial = stored.serial in
        let made = (same_answer (slot, shape) (slot, made_shape exponent nested page) stored.answer_is).1 in
        let all = stores g exponent seed allowed slot nested page serial stored.a stored.b stored.c stored.d in
        let behind : (P : Performed → Type 0) → Any P all → Any P steps =
        λ P some. subst (Any P) (sym are) (Any-later P front last (subst (Any P) (sym stored.are) some)) in
        record {
          nested = nested;
          page = page;
          serial = serial;
          slot_in = slot_in;
          kind = kind;
          shape_is = made;
          took_slot = took_slot;
          took_run = took_run;
          took_serial =
              behind (TakesSerial g serial)
              (0, step (at.NextSerial slot nested page) serial, omega arith, refl, record { raises = refl; found = refl });
          stored_shape =
              subst (λ s. Any (StoresInSlot g slot ShapeWord s) steps) (sym made)
              (behind (StoresInSlot g slot ShapeWord (made_shape exponent nested page))
              (1, step (at.Shape slot nested page serial) stored.a, omega arith, refl, refl));
          stored_seed =
              behind (StoresInSlot g slot SeedWord (table_seed seed serial))
              (2, step (at.Seed slot nested page serial) stored.b, omega arith, refl, refl);
          stored_future =
              behind (StoresInSlot g slot FutureWord 0)
              (3, step (at.Future slot nested page serial) stored.c, omega arith, refl, refl);
          stored_serial =
              behind (StoresInSlot g slot SerialWord serial)
              (4, step (at.Serial slot nested page serial) stored.d, omega arith, refl, refl);
        }

    module _ (first : Performed) (taking : TakesSlot g slot first) where
      -- behind a run
      run-made : (page : ℕ) (looking rest : List Performed) → LookedThrough g pages (Some page) looking
          → Stored g exponent seed allowed slot false page (Some (slot, shape)) rest
          → TableWasMade g size seed allowed slot shape (first ∷ (looking ++ rest))
      run-made page looking rest looked stored =
          let was = looked.taken page refl in
          let fits = size_of-fits (flat_shape exponent page) refl in
          let within = was.run.within in
          stored-made false page (first ∷ (looking ++ rest)) (first ∷ looking) rest refl
          (record { flat = refl; within = omega (arith, fits, within) })
          (Any-first (TakesSlot g slot) first (looking ++ rest) taking)
          (RunWasTaken-within g pages page (first ∷ []) looking rest was) stored

      -- behind a top page, where there was no run
      top-made : nests ≡ true → (page : ℕ) (looking tops last : List Performed) → LookedThrough g pages None looking
          → LookedThrough g 1 (Some page) tops
          → Stored g exponent seed allowed slot true page (Some (slot, shape)) last
          → TableWasMade g size seed allowed slot shape (first ∷ (looking ++ (tops ++ last)))
      top-made may page looking tops last looked found stored =
          stored-made true page (first ∷ (looking ++ (tops ++ last))) ((first ∷ looking) ++ tops) last
          (sym (append_assoc (first ∷ looking) tops last))
          (record { may = may; no_run = inl (turn-then g pages 0 looking (tops ++ last) (looked.seen.0 refl)) })
          (Any-first (TakesSlot g slot) first (looking ++ (tops ++ last)) taking)
          (RunWasTaken-within g 1 page (first ∷ looking) tops last (found.taken page refl)) stored

  -- ---- from the taking of a slot on

  -- what was stored is what is answered
  stored-slot : (slot other shape : ℕ) (nested : Bool) (page : ℕ) (steps : List Performed)
      → Stored g exponent seed allowed slot nested page (Some (other, shape)) steps → slot ≡ other
  stored-slot slot other shape nested page steps stored =
      sym (same_answer (other, shape) (slot, made_shape exponent nested page) stored.answer_is).0

  module _ (slot : ℕ) (slot_in : slot < 8) (other shape : ℕ) (first : Performed) (taking : TakesSlot g slot first) where
    abbrev Made : List Performed → Type 0
    Made steps = TableWasMade g size seed allowed other shape (first ∷ steps)

    topped-made : nests ≡ true → (looking : List Performed) → LookedThrough g pages None looking
        → (page : Option ℕ) (tops last : List Performed) → LookedThrough g 1 page tops
        → TopEnds g exponent seed allowed slot (Some (other, shape)) last page → Made (looking ++ (tops ++ last))
    topped-made may looking looked None tops last found ends = absurd (let none = ends.answer_is in cc)
    topped-made may looking looked (Some page) tops last found ends =
        let same = stored-slot slot other shape true page last ends in
        subst
        (λ s. s < 8 → TakesSlot g s first → Stored g exponent seed allowed s true page (Some (other, shape)) last
        → Made (looking ++ (tops ++ last)))
        (sym same)
        (λ o_in takes stored. top-made other o_in shape first takes may page looking tops last looked found stored)
        slot_in taking ends

    no_run-made : (nested : Bool) → nests ≡ nested → (looking rest : List Performed)
        → LookedThrough g pages None looking
        → NoRunEnds g exponent seed allowed nested slot (Some (other, shape)) rest → Made (looking ++ rest)
    no_run-made true may looking rest looked ends =
        subst (λ s. Made (looking ++ s)) (sym ends.are)
        (topped-made may looking looked ends.page ends.looking ends.rest ends.looked ends.ends)
    no_run-made false may looking rest looked ends = absurd (let none = ends.answer_is in cc)

    ended-made : (page : Option ℕ) (looking rest : List Performed) → LookedThrough g pages page looking
        → RunEnds g exponent seed allowed slot (Some (other, shape)) rest page → Made (looking ++ rest)
    ended-made None looking rest looked ends = no_run-made nests refl looking rest looked ends
    ended-made (Some page) looking rest looked ends =
        let same = stored-slot slot other shape false page rest ends in
        subst
        (λ s. s < 8 → TakesSlot g s first → Stored g exponent seed allowed s false page (Some (other, shape)) rest
        → Made (looking ++ rest))
        (sym same)
        (λ o_in takes stored. run-made other o_in shape first takes page looking rest looked stored)
        slot_in taking ends

    started-made : (olds : List ℕ)
        → (from (run_started g nests slot (take_run_new g pages)) olds).next ≡ Done (Some (other, shape))
        → Made (from (run_started g nests slot (take_run_new g pages)) olds).steps
    started-made olds done =
        let ended = started_ends g exponent seed allowed slot olds (Some (other, shape)) done in
        subst Made (sym ended.are) (ended-made ended.page ended.looking ended.rest ended.looked ended.ends)

  -- what is to be shown of the making from a slot on
  abbrev MadeFrom : Ran (Option (ℕ × ℕ)) → Type 0
  MadeFrom run =
      (slot shape : ℕ) → run.next ≡ Done (Some (slot, shape)) → TableWasMade g size seed allowed slot shape run.steps

  -- By induction over the words that the operations find.
  from_slot : (olds : List ℕ) (slot : ℕ) → slot < 8 → MadeFrom (from (at.Slot slot) olds)
  from_slot [] slot slot_in = λ other shape done. absurd (cc)
  from_slot (old ∷ olds) slot slot_in =
      let first = step_at g exponent seed allowed (at.Slot slot) old in
      let start = run_started g nests slot (take_run_new g pages) in
      cond_both (old == 0) (start, Go)
      (if nat_lt (slot + 1) 8 then (at.Slot (slot + 1), Go) else (at.Slot slot, Done None))
      (λ (next : MakeAt × Next (Option (ℕ × ℕ))). MadeFrom (went_on first next.1 (from next.0 olds)))
      (λ t other shape done.
      started-made slot slot_in other shape first (record { taking = refl; free = eqb-true old 0 t }) olds done)
      (λ f.
      cond_both (nat_lt (slot + 1) 8) (at.Slot (slot + 1), Go) (at.Slot slot, Done None)
      (λ (next : MakeAt × Next (Option (ℕ × ℕ))). MadeFrom (went_on first next.1 (from next.0 olds)))
      (λ t other shape done.
      made-first other shape first (from (at.Slot (slot + 1)) olds).steps
      (from_slot olds (slot + 1) (ltb-true (slot + 1) 8 t) other shape done))
      (λ last other shape done. absurd (cc)))

pub made_of_what_was_free : MadeOfWhatWasFree
made_of_what_was_free g size seed allowed olds slot shape done =
    from_slot g size seed allowed olds 0 (omega arith) slot shape done
