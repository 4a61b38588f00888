-- A giving back of retired tables that has ended has done with each slot what its law says. By induction over the slots that are left, and
-- of a retired table over the callers that are left.
use Rattle.std.proofs.Common.{◌≡◌, ◌≢◌, ℕ, Bool, true, false, zero, suc, ◌+◌, ◌-◌, ◌*◌, ◌%◌, ◌<◌, ◌⊎◌, List, [], ◌∷◌, ◌++◌, append_assoc, inl, inr, refl, sym, ap, ◌∙◌, subst, arith}
use Rattle.std.specs.Prelude.{◌==◌, nat_lt, if◌then◌else◌}
use Rattle.std.specs.List.{AllByRecursion}
use Rattle.std.proofs.lemmas.Bool.{cond_both, ltb-true}
use Rattle.std.proofs.lemmas.Bool.Decides.{nat_tests}
use Rattle.rht_words.specs.declared.geometry.Geometry.{Geometry}
use Rattle.rht_words.specs.declared.machine.Next.{Next}
use Rattle.rht_words.specs.declared.machine.Next.TheVariants.{Go, Done}
use Rattle.rht_words.specs.Machines.{Performed, Ran, ran, went_on}
use Rattle.rht_reclaim.specs.GiveTable.{GiveTableModel, give_table_plan, give_table_plan_at, give_table_after, give_table_after_at, give_table_new}
use Rattle.rht_reclaim.specs.GiveTableLaws.{did, Joined, TableReturned, IsOfReturn}
use Rattle.rht_reclaim.specs.ReturnTables.{ReturnTablesModel, return_tables_new, return_tables_plan, return_tables_plan_at, return_tables_after, return_tables_after_at, next_slot, next_caller, kept_seen, state_seen, given_back, IsReturnTablesAtIn}
use Rattle.rht_reclaim.specs.ReturnLaws.{WasOutside, HasLeft, IsStillReading, AreOutside, IsStaying, SlotReturned, SlotSeen, AreSlotsSeen, ReturnsTables, TablesReturnSoon, TablesReturnWithin, IsReturningOp, IsReturningStep}
use Rattle.rht_reclaim.specs.declared.give_table.GiveTableAt.{GiveTableAt}
use Rattle.rht_reclaim.specs.declared.give_table.GiveTableAt.TheVariants as gives
use Rattle.rht_reclaim.specs.declared.return_tables.ReturnTablesAt.{ReturnTablesAt}
use Rattle.rht_reclaim.specs.declared.return_tables.ReturnTablesAt.TheVariants as at
use Rattle.rht_reclaim.proofs.Descents.{Drops, few_steps, ends_soon, all_steps}
use Rattle.rht_reclaim.proofs.GivesEnd as ends
use Rattle.rht_reclaim.proofs.GivesReturn.{returns_table}
use Rattle.rht_reclaim.proofs.ReturnsStay.{return_tables_stays_at, planned_return_tables_at}

later_caller : (before caller : ℕ) → before + (caller + 1) ≡ suc before + caller
later_caller before caller = omega arith

from_none : (caller : ℕ) → 0 + caller ≡ caller
from_none caller = omega arith

no_caller : (before : ℕ) → before + 0 ≡ before
no_caller before = omega arith

module _ (g : Geometry) where
  -- what comes of it from a state on
  abbrev from : ReturnTablesAt → List ℕ → Ran (Unit {0})
  from state olds = ran return_tables_plan return_tables_after (record { geometry = g; at = state }) olds

  abbrev IsEnded : Ran (Unit {0}) → Type 0
  IsEnded run = run.next ≡ Done tt

  -- the state's operation
  abbrev by : ReturnTablesAt → ℕ → Performed
  by state old = did (return_tables_plan_at g state) old

  -- behind an operation that led to this
  abbrev behind : Performed → ReturnTablesAt × Next (Unit {0}) → List ℕ → Ran (Unit {0})
  behind step next olds = went_on step next.1 (from next.0 olds)

  -- what is known of the slots from this one on, where there are any
  abbrev Later : ℕ → ℕ → Type 0
  Later slot zero = Unit {0}
  Later slot (suc count) =
      (olds : List ℕ) → IsEnded (from (at.State slot) olds)
      → AreSlotsSeen g slot (suc count) (from (at.State slot) olds).steps

  -- the operations are such ones, and then those for so many slots from this one on
  record Comes (slot count : ℕ) (Part : List Performed → Type 0) (steps : List Performed) : Type 0 where
    part : List Performed
    is_part : Part part
    rest : List Performed
    seen : AreSlotsSeen g slot count rest
    are : steps ≡ part ++ rest

  -- more operations before
  comes_with : (slot count : ℕ) (now : List Performed) (Part Whole : List Performed → Type 0) (steps : List Performed)
      → ((part : List Performed) → Part part → Whole (now ++ part)) → Comes slot count Part steps
      → Comes slot count Whole (now ++ steps)
  comes_with slot count now Part Whole steps joins all = record {
    part = now ++ all.part;
    is_part = joins all.part all.is_part;
    rest = all.rest;
    seen = all.seen;
    are = ap (λ l. now ++ l) all.are ∙ sym (append_assoc now all.part all.rest);
  }

  abbrev IsJust : Performed → List Performed → Type 0
  IsJust step part = part ≡ step ∷ []

  -- the last operation for a slot
  slot_left : (slot count : ℕ) → slot + suc count ≡ 8 → Later (slot + 1) count → (state : ReturnTablesAt)
      (step : Performed) (olds : List ℕ) → IsEnded (behind step (next_slot state slot) olds)
      → Comes (slot + 1) count (IsJust step) (behind step (next_slot state slot) olds).steps
  slot_left slot zero is later state step olds =
      let past : nat_lt (slot + 1) 8 ≡ false = grind (arith, nat_tests, is) in
      rw past
      (λ done. record { part = step ∷ []; is_part = refl; rest = []; seen = refl; are = refl })
  slot_left slot (suc count) is later state step olds =
      let more : nat_lt (slot + 1) 8 ≡ true = grind (arith, nat_tests, is) in
      rw more
      (λ done. record {
        part = step ∷ [];
        is_part = refl;
        rest = (from (at.State (slot + 1)) olds).steps;
        seen = later olds done;
        are = refl;
      })

  module _ (slot count : ℕ) (is : slot + suc count ≡ 8) (later : Later (slot + 1) count) where
    abbrev ComesTo : (List Performed → Type 0) → List Performed → Type 0
    ComesTo Part steps = Comes (slot + 1) count Part steps

    -- ---- a table that is given back

    abbrev giving : GiveTableAt → GiveTableModel
    giving state = record { geometry = g; slot = slot; at = state }

    abbrev gives_from : GiveTableAt → List ℕ → Ran (Unit {0})
    gives_from state olds = ran give_table_plan give_table_after (giving state) olds

    -- the operations are those of such a giving back
    record IsGiveRun (run : List ℕ → Ran (Unit {0})) (steps : List Performed) : Type 0 where
      olds : List ℕ
      ended : IsEnded (run olds)
      are : steps ≡ (run olds).steps

    given_then : (state : GiveTableAt) (next : Next (Unit {0})) (step : Performed) (olds : List ℕ)
        → (IsEnded (from (at.Giving (giving state)) olds)
        → ComesTo (IsGiveRun (gives_from state)) (from (at.Giving (giving state)) olds).steps)
        → IsEnded (behind step (given_back (giving state) next) olds)
        → ComesTo (IsGiveRun (λ l. went_on step next (gives_from state l)))
        (behind step (given_back (giving state) next) olds).steps
    given_then state Go step olds more done =
        comes_with (slot + 1) count (step ∷ []) (IsGiveRun (gives_from state))
        (IsGiveRun (λ l. went_on step Go (gives_from state l))) (from (at.Giving (giving state)) olds).steps
        (λ part is_run. record {
          olds = is_run.olds;
          ended = is_run.ended;
          are = ap (λ l. step ∷ l) is_run.are;
        })
        (more done)
    given_then state (Done tt) step olds more done =
        let all = slot_left slot count is later (at.Giving (giving state)) step olds done in
        record {
          part = all.part;
          is_part = record { olds = []; ended = refl; are = all.is_part };
          rest = all.rest;
          seen = all.seen;
          are = all.are;
        }

    -- By induction over the words that the operations find.
    given : (olds : List ℕ) (state : GiveTableAt) → IsEnded (from (at.Giving (giving state)) olds)
        → ComesTo (IsGiveRun (gives_from state)) (from (at.Giving (giving state)) olds).steps
    given [] state done = absurd (cc)
    given (old ∷ olds) state done =
        let next = give_table_after_at g state old in
        let all = given_then next.0 next.1 (did (give_table_plan_at g slot state) old) olds (given olds next.0) done in
        record {
          part = all.part;
          is_part =
              record { olds = old ∷ all.is_part.olds; ended = all.is_part.ended; are = all.is_part.are };
          rest = all.rest;
          seen = all.seen;
          are = all.are;
        }

    table_given : (olds : List ℕ) → IsEnded (from (at.Giving (give_table_new g slot)) olds)
        → ComesTo (TableReturned g slot) (from (at.Giving (give_table_new g slot)) olds).steps
    table_given olds done =
        let all = given olds gives.Shape done in
        record {
          part = all.part;
          is_part =
              subst (TableReturned g slot) (sym all.is_part.are)
              (returns_table g slot all.is_part.olds all.is_part.ended);
          rest = all.rest;
          seen = all.seen;
          are = all.are;
        }

    -- ---- the callers of a retired table

    abbrev IsOutside : ℕ → List Performed → Type 0
    IsOutside caller now = WasOutside g slot caller now ⊎ HasLeft g slot caller now

    -- so many callers from this one on are left, and one of them is inside
    record StaysFrom (caller left : ℕ) (steps : List Performed) : Type 0 where
      before : ℕ
      low : before < left
      are : Joined (AreOutside g slot caller before) (IsStillReading g slot (before + caller)) steps

    -- none of them is, or one is
    abbrev Asked : ℕ → ℕ → List Performed → Type 0
    Asked caller left steps =
        StaysFrom caller left steps ⊎ Joined (AreOutside g slot caller left) (TableReturned g slot) steps

    asked_then : (caller left : ℕ) (now part : List Performed) → IsOutside caller now → Asked (caller + 1) left part
        → Asked caller (suc left) (now ++ part)
    asked_then caller left now part outside (inl stays) =
        let low = stays.low in
        inl (record {
          before = suc stays.before;
          low = omega (arith, low);
          are = record {
            first = now ++ stays.are.first;
            rest = stays.are.rest;
            is_first = record {
              first = now;
              rest = stays.are.first;
              is_first = outside;
              is_rest = stays.are.is_first;
              are = refl;
            };
            is_rest =
                subst (λ c. IsStillReading g slot c stays.are.rest)
                (later_caller stays.before caller) stays.are.is_rest;
            are = ap (λ l. now ++ l) stays.are.are ∙ sym (append_assoc now stays.are.first stays.are.rest);
          };
        })
    asked_then caller left now part outside (inr gone) =
        inr (record {
          first = now ++ gone.first;
          rest = gone.rest;
          is_first = record {
            first = now;
            rest = gone.first;
            is_first = outside;
            is_rest = gone.is_first;
            are = refl;
          };
          is_rest = gone.is_rest;
          are = ap (λ l. now ++ l) gone.are ∙ sym (append_assoc now gone.first gone.rest);
        })

    -- what is known of the callers from this one on, where there are any, and else of the giving back
    abbrev LaterCallers : ℕ → ℕ → Type 0
    LaterCallers caller zero = Unit {0}
    LaterCallers caller (suc left) =
        (olds : List ℕ) → IsEnded (from (at.KeptWord slot caller) olds)
        → ComesTo (Asked caller (suc left)) (from (at.KeptWord slot caller) olds).steps

    -- a caller that is outside, before those behind it
    caller_left : (caller left : ℕ) → caller + suc left ≡ g.callers → LaterCallers (caller + 1) left
        → (before : List Performed) (step : Performed) (olds : List ℕ) → IsOutside caller (before ++ step ∷ [])
        → IsEnded (behind step (next_caller g slot caller) olds)
        → ComesTo (Asked caller (suc left)) (before ++ (behind step (next_caller g slot caller) olds).steps)
    caller_left caller zero all callers before step olds outside =
        let past : nat_lt (caller + 1) g.callers ≡ false = grind (arith, nat_tests, all) in
        let rest = (from (at.Giving (give_table_new g slot)) olds).steps in
        rw past
        (λ done.
        subst (ComesTo (Asked caller 1)) (append_assoc before (step ∷ []) rest)
        (comes_with (slot + 1) count (before ++ step ∷ []) (TableReturned g slot) (Asked caller 1) rest
        (λ part returned.
        asked_then caller 0 (before ++ step ∷ []) part outside
        (inr (record { first = []; rest = part; is_first = refl; is_rest = returned; are = refl })))
        (table_given olds done)))
    caller_left caller (suc left) all callers before step olds outside =
        let more : nat_lt (caller + 1) g.callers ≡ true = grind (arith, nat_tests, all) in
        let rest = (from (at.KeptWord slot (caller + 1)) olds).steps in
        rw more
        (λ done.
        subst (ComesTo (Asked caller (suc (suc left)))) (append_assoc before (step ∷ []) rest)
        (comes_with (slot + 1) count (before ++ step ∷ []) (Asked (caller + 1) (suc left))
        (Asked caller (suc (suc left))) rest
        (λ part asked. asked_then caller (suc left) (before ++ step ∷ []) part outside asked) (callers olds done)))

    module _ (caller left : ℕ) (all : caller + suc left ≡ g.callers) (callers : LaterCallers (caller + 1) left) where
      -- the section word, where an odd one was kept
      section_found : (kept : ℕ) → kept % 2 ≡ 1 → (olds : List ℕ) → IsEnded (from (at.SectionWord slot caller kept) olds)
          → ComesTo (Asked caller (suc left)) (by (at.KeptWord slot caller) kept ∷ (from (at.SectionWord slot caller kept) olds).steps)
      section_found kept odd [] done = absurd (cc)
      section_found kept odd (word ∷ olds) done = go (word == kept) refl done
        where
          load : Performed
          load = by (at.KeptWord slot caller) kept

          step : Performed
          step = by (at.SectionWord slot caller kept) word

          go : (same : Bool) → (word == kept) ≡ same → IsEnded (behind step (if same then next_slot (at.SectionWord slot caller kept) slot else next_caller g slot caller) olds)
              → ComesTo (Asked caller (suc left)) (load ∷ (behind step (if same then next_slot (at.SectionWord slot caller kept) slot else next_caller g slot caller) olds).steps)
          go true same done =
              let there : word ≡ kept = grind (arith, nat_tests, same) in
              comes_with (slot + 1) count (load ∷ []) (IsJust step) (Asked caller (suc left))
              (behind step (next_slot (at.SectionWord slot caller kept) slot) olds).steps
              (λ part just.
              inl (record {
                before = 0;
                low = omega arith;
                are = record {
                  first = [];
                  rest = load ∷ part;
                  is_first = refl;
                  is_rest = subst (λ c. IsStillReading g slot c (load ∷ part)) (sym (from_none caller)) (record {
                    kept = kept;
                    odd = odd;
                    are =
                        ap (λ l. load ∷ l)
                        (just ∙ ap (λ w. by (at.SectionWord slot caller kept) w ∷ []) there);
                  });
                  are = refl;
                };
              }))
              (slot_left slot count is later (at.SectionWord slot caller kept) step olds done)
          go false same done =
              caller_left caller left all callers (load ∷ []) step olds
              (inr (record {
                kept = kept;
                now = word;
                odd = odd;
                other = λ there. absurd (grind (arith, nat_tests, same, there));
                are = refl;
              }))
              done

      caller_found : (kept : ℕ) (olds : List ℕ)
          → IsEnded (behind (by (at.KeptWord slot caller) kept) (kept_seen g slot caller kept) olds)
          → ComesTo (Asked caller (suc left)) (behind (by (at.KeptWord slot caller) kept) (kept_seen g slot caller kept) olds).steps
      caller_found kept olds done =
          cond_both {A = ReturnTablesAt × Next (Unit {0})} (kept % 2 == 1) _ _
          (λ next. IsEnded (behind (by (at.KeptWord slot caller) kept) next olds)
          → ComesTo (Asked caller (suc left)) (behind (by (at.KeptWord slot caller) kept) next olds).steps)
          (λ t ended. section_found kept (grind (arith, nat_tests, t)) olds ended)
          (λ f ended.
          let odd : kept % 2 ≢ 1 = λ here. absurd (grind (arith, nat_tests, f, here)) in
          caller_left caller left all callers [] (by (at.KeptWord slot caller) kept) olds
          (inl (record { kept = kept; even = omega (arith, odd); are = refl })) ended)
          done

    -- By induction over the callers that are left.
    asked : (left caller : ℕ) → caller + suc left ≡ g.callers → (olds : List ℕ)
        → IsEnded (from (at.KeptWord slot caller) olds)
        → ComesTo (Asked caller (suc left)) (from (at.KeptWord slot caller) olds).steps
    asked left caller all [] done = absurd (cc)
    asked zero caller all (kept ∷ olds) done = caller_found caller zero all tt kept olds done
    asked (suc left) caller all (kept ∷ olds) done =
        caller_found caller (suc left) all (asked left (caller + 1) (omega (arith, all))) kept olds done

    -- ---- a slot

    all_asked : (n : ℕ) → n ≡ g.callers → (olds : List ℕ) → IsEnded (from (at.KeptWord slot 0) olds)
        → ComesTo (λ part. IsStaying g slot part ⊎ SlotReturned g slot part) (from (at.KeptWord slot 0) olds).steps
    all_asked zero all olds done = let some = g.within.callers_within in absurd (omega (arith, some, all))
    all_asked (suc left) all olds done =
        let steps = asked left 0 (omega (arith, all)) olds done in
        record {
          part = steps.part;
          is_part = asked_rightly left all steps.part steps.is_part;
          rest = steps.rest;
          seen = steps.seen;
          are = steps.are;
        }
      where
        asked_rightly : (left : ℕ) → suc left ≡ g.callers → (part : List Performed) → Asked 0 (suc left) part
            → IsStaying g slot part ⊎ SlotReturned g slot part
        asked_rightly left all part (inl stays) =
            let low = stays.low in
            inl (record {
              caller = stays.before;
              there = omega (arith, low, all);
              are = record {
                first = stays.are.first;
                rest = stays.are.rest;
                is_first = stays.are.is_first;
                is_rest =
                    subst (λ c. IsStillReading g slot c stays.are.rest) (no_caller stays.before)
                    stays.are.is_rest;
                are = stays.are.are;
              };
            })
        asked_rightly left all part (inr gone) =
            inr (record {
              first = gone.first;
              rest = gone.rest;
              is_first = subst (λ n. AreOutside g slot 0 n gone.first) all gone.is_first;
              is_rest = gone.is_rest;
              are = gone.are;
            })

    slot_seen : (state : ℕ) (olds : List ℕ) → IsEnded (behind (by (at.State slot) state) (state_seen slot state) olds)
        → AreSlotsSeen g slot (suc count) (behind (by (at.State slot) state) (state_seen slot state) olds).steps
    slot_seen state olds done =
        let step = by (at.State slot) state in
        let Goal : ReturnTablesAt × Next (Unit {0}) → Type 0 =
        λ next. IsEnded (behind step next olds) → AreSlotsSeen g slot (suc count) (behind step next olds).steps in
        cond_both {A = ReturnTablesAt × Next (Unit {0})} (state == 2) _ _ Goal
        (λ t ended. seen_retired state (grind (arith, nat_tests, t)) olds ended)
        (λ f ended. seen_other state (λ here. absurd (grind (arith, nat_tests, f, here))) olds ended)
        done
      where
        joined : (state : ℕ) (steps : List Performed) → Comes (slot + 1) count (SlotSeen g slot) steps
            → AreSlotsSeen g slot (suc count) steps
        joined state steps all = record {
          first = all.part;
          rest = all.rest;
          is_first = all.is_part;
          is_rest = all.seen;
          are = all.are;
        }

        seen_other : (state : ℕ) → state ≢ 2 → (olds : List ℕ)
            → IsEnded (behind (by (at.State slot) state) (next_slot (at.State slot) slot) olds)
            → AreSlotsSeen g slot (suc count) (behind (by (at.State slot) state) (next_slot (at.State slot) slot) olds).steps
        seen_other state other olds ended =
            let all = slot_left slot count is later (at.State slot) (by (at.State slot) state) olds ended in
            joined state _ (record {
              part = all.part;
              is_part = record { state = state; behind = []; is_done = inl (other, refl); are = all.is_part };
              rest = all.rest;
              seen = all.seen;
              are = all.are;
            })

        seen_retired : (state : ℕ) → state ≡ 2 → (olds : List ℕ) → IsEnded (from (at.KeptWord slot 0) olds)
            → AreSlotsSeen g slot (suc count) (by (at.State slot) state ∷ (from (at.KeptWord slot 0) olds).steps)
        seen_retired state retired olds ended =
            let all = all_asked g.callers refl olds ended in
            joined state _ (comes_with (slot + 1) count (by (at.State slot) state ∷ [])
            (λ part. IsStaying g slot part ⊎ SlotReturned g slot part) (SlotSeen g slot)
            (from (at.KeptWord slot 0) olds).steps
            (λ part done. record { state = state; behind = part; is_done = inr (retired, done); are = refl }) all)

  -- By induction over the slots that are left.
  slots : (count slot : ℕ) → slot + suc count ≡ 8 → (olds : List ℕ) → IsEnded (from (at.State slot) olds)
      → AreSlotsSeen g slot (suc count) (from (at.State slot) olds).steps
  slots count slot is [] done = absurd (cc)
  slots zero slot is (state ∷ olds) done = slot_seen slot zero is tt state olds done
  slots (suc count) slot is (state ∷ olds) done =
      slot_seen slot (suc count) is (slots count (slot + 1) (omega (arith, is))) state olds done

pub returns_tables : ReturnsTables
returns_tables g olds done = slots g 7 0 refl olds done

-- ---- how long it takes

-- the operations that are left for a slot behind this one
abbrev of_slot : Geometry → ℕ
of_slot g = 1 + 2 * g.callers + 12483

abbrev left_at : Geometry → ReturnTablesAt → ℕ
left_at g (at.State slot) = (7 - slot) * of_slot g + of_slot g
left_at g (at.KeptWord slot caller) = (7 - slot) * of_slot g + (2 * (g.callers - (caller + 1)) + 12485)
left_at g (at.SectionWord slot caller kept) = (7 - slot) * of_slot g + (2 * (g.callers - (caller + 1)) + 12484)
left_at g (at.Giving give) = (7 - give.slot) * of_slot g + ends.left_at give.at

abbrev left : ReturnTablesModel → ℕ
left m = left_at m.geometry m.at

module _ (g : Geometry) where
  abbrev Fewer : ℕ → ReturnTablesAt × Next (Unit {0}) → Type 0
  Fewer most next =
      Drops return_tables_plan return_tables_after left most (record { geometry = g; at = next.0 }, next.1)

  -- a slot less
  a_slot : (slot : ℕ) → slot + 1 < 8 → (7 - slot) * of_slot g ≡ (7 - (slot + 1)) * of_slot g + of_slot g
  a_slot slot low =
      let one : 7 - slot ≡ suc (7 - (slot + 1)) = omega (arith, low) in
      ap (λ n. n * of_slot g) one ∙ grind arith

  next_slot-few : (state : ReturnTablesAt) (slot more : ℕ) → 0 < more
      → Fewer ((7 - slot) * of_slot g + more) (next_slot state slot)
  next_slot-few state slot more some =
      cond_both {A = ReturnTablesAt × Next (Unit {0})} (nat_lt (slot + 1) 8) _ _
      (Fewer ((7 - slot) * of_slot g + more))
      (λ t. let same = a_slot slot (ltb-true (slot + 1) 8 t) in omega (arith, same, some)) (λ f. omega (arith, some))

  next_caller-few : (slot caller more : ℕ) → 2 * (g.callers - (caller + 1)) + 12483 < more
      → Fewer ((7 - slot) * of_slot g + more) (next_caller g slot caller)
  next_caller-few slot caller more some =
      cond_both {A = ReturnTablesAt × Next (Unit {0})} (nat_lt (caller + 1) g.callers) _ _
      (Fewer ((7 - slot) * of_slot g + more))
      (λ t. let low = ltb-true (caller + 1) g.callers t in omega (arith, low, some)) (λ f. omega (arith, some))

  given-few : (give : GiveTableModel) (most : ℕ) (next : GiveTableModel × Next (Unit {0})) → next.0.slot ≡ give.slot
      → Drops give_table_plan give_table_after ends.left most next
      → Fewer ((7 - give.slot) * of_slot g + most) (given_back next.0 next.1)
  given-few give most (after, Go) same few =
      subst (λ slot. (7 - slot) * of_slot g + ends.left_at after.at < (7 - give.slot) * of_slot g + most) (sym same)
      (omega (arith, few))
  given-few give most (after, Done answer) same few =
      subst (λ slot. Fewer ((7 - give.slot) * of_slot g + most) (next_slot (at.Giving after) slot)) (sym same)
      (next_slot-few (at.Giving after) give.slot most few)

  drops-at : (state : ReturnTablesAt) (old : ℕ) → Fewer (left_at g state) (return_tables_after_at g state old)
  drops-at (at.State slot) old =
      let some = g.within.callers_within in
      cond_both {A = ReturnTablesAt × Next (Unit {0})} (old == 2) _ _ (Fewer (left_at g (at.State slot)))
      (λ t. omega (arith, some)) (λ f. next_slot-few (at.State slot) slot (of_slot g) (omega arith))
  drops-at (at.KeptWord slot caller) old =
      cond_both {A = ReturnTablesAt × Next (Unit {0})} (old % 2 == 1) _ _ (Fewer (left_at g (at.KeptWord slot caller)))
      (λ t. omega arith)
      (λ f. next_caller-few slot caller (2 * (g.callers - (caller + 1)) + 12485) (omega arith))
  drops-at (at.SectionWord slot caller kept) old =
      cond_both {A = ReturnTablesAt × Next (Unit {0})} (old == kept) _ _
      (Fewer (left_at g (at.SectionWord slot caller kept)))
      (λ t.
      next_slot-few (at.SectionWord slot caller kept) slot (2 * (g.callers - (caller + 1)) + 12484) (omega arith))
      (λ f. next_caller-few slot caller (2 * (g.callers - (caller + 1)) + 12484) (omega arith))
  drops-at (at.Giving give) old =
      given-few give (ends.left_at give.at) (give_table_after give old) refl (ends.drops give old)

pub tables_return_soon : TablesReturnSoon
tables_return_soon g olds =
    let few = few_steps return_tables_plan return_tables_after left (λ m old. drops-at m.geometry m.at old)
    (return_tables_new g) olds in
    record {
      few = omega (arith, few);
      ends = λ enough.
          ends_soon return_tables_plan return_tables_after left (λ m old. drops-at m.geometry m.at old)
          (return_tables_new g) olds (omega (arith, enough));
    }

-- ---- where it works

module _ (g : Geometry) where
  of_slot-at : (at : ReturnTablesAt) → IsReturnTablesAtIn g at → IsReturningOp g (return_tables_plan_at g at)
  of_slot-at (at.State slot) here =
      let some = g.within.callers_within in
      record { slot = slot; caller = 0; slot_in = here; caller_in = omega (arith, some); either = inl refl }
  of_slot-at (at.KeptWord slot caller) here = record {
    slot = slot;
    caller = caller;
    slot_in = here.slot_in;
    caller_in = here.caller_in;
    either = inr (inl refl);
  }
  of_slot-at (at.SectionWord slot caller kept) here = record {
    slot = slot;
    caller = caller;
    slot_in = here.slot_in;
    caller_in = here.caller_in;
    either = inr (inr (inl refl));
  }
  of_slot-at (at.Giving give) here =
      let some = g.within.callers_within in
      record {
        slot = give.slot;
        caller = 0;
        slot_in = here.slot_in;
        caller_in = omega (arith, some);
        either = inr (inr (inr (subst (λ (h : Geometry). IsOfReturn g give.slot (give_table_plan_at h give.slot give.at)) (sym here.geometry_same) (ends.of_return g give.slot here.slot_in give.at here.at_in))));
      }

  step_in : (at : ReturnTablesAt) (old : ℕ) → IsReturnTablesAtIn g at
      → IsReturningStep g (did (return_tables_plan_at g at) old)
  step_in at old here = record { of_slot = of_slot-at at here; planned = planned_return_tables_at g at here }

  all_within : (olds : List ℕ) (at : ReturnTablesAt) → IsReturnTablesAtIn g at
      → AllByRecursion (IsReturningStep g) (from g at olds).steps
  all_within [] at here = tt
  all_within (old ∷ olds) at here =
      all_steps (IsReturningStep g) (did (return_tables_plan_at g at) old) (return_tables_after_at g at old).1
      (from g (return_tables_after_at g at old).0 olds) (step_in at old here)
      (all_within olds (return_tables_after_at g at old).0 (return_tables_stays_at g at old here))

pub tables_return_within : TablesReturnWithin
tables_return_within g olds = all_within g olds (at.State 0) (omega arith)
