-- Whatever words it is told, the giving back of retired tables stays among the slots and callers that there are, and works on words of the
-- table.
use Rattle.std.proofs.Common.{ℕ, ◌+◌, ◌%◌, refl, sym, subst, arith}
use Rattle.std.specs.Prelude.{◌==◌, nat_lt}
use Rattle.std.proofs.lemmas.Bool.{cond_both, ltb-true}
use Rattle.rht_words.specs.declared.geometry.Geometry.{Geometry}
use Rattle.rht_words.specs.declared.machine.Next.{Next}
use Rattle.rht_words.specs.declared.machine.Next.TheVariants.{Go, Done}
use Rattle.rht_words.specs.Places.{Section, Slot, StateWord, LoadedSection}
use Rattle.rht_words.specs.Planned.{IsPlannedIn}
use Rattle.rht_words.proofs.PlannedWords.{planned_load}
use Rattle.rht_reclaim.specs.GiveTable.{GiveTableModel, give_table_after, IsGiveTableIn}
use Rattle.rht_reclaim.specs.ReturnTables.{ReturnTablesModel, return_tables_plan, return_tables_plan_at, return_tables_after, return_tables_after_at, next_slot, next_caller, given_back, IsAskedIn, IsReturnTablesAtIn, IsReturnTablesIn}
use Rattle.rht_reclaim.specs.declared.return_tables.ReturnTablesAt.{ReturnTablesAt}
use Rattle.rht_reclaim.specs.declared.return_tables.ReturnTablesAt.TheVariants as at
use Rattle.rht_reclaim.proofs.GivesStay.{give_table_stays, planned_give_table}

module _ (g : Geometry) where
  abbrev StaysIn : ReturnTablesAt × Next (Unit {0}) → Type 0
  StaysIn next = IsReturnTablesAtIn g next.0

  next_slot-in : (state : ReturnTablesAt) (slot : ℕ) → IsReturnTablesAtIn g state → StaysIn (next_slot state slot)
  next_slot-in state slot here =
      cond_both {A = ReturnTablesAt × Next (Unit {0})} (nat_lt (slot + 1) 8) _ _ StaysIn (λ t. ltb-true (slot + 1) 8 t)
      (λ f. here)

  next_caller-in : (slot caller : ℕ) → IsAskedIn g slot caller → StaysIn (next_caller g slot caller)
  next_caller-in slot caller here =
      cond_both {A = ReturnTablesAt × Next (Unit {0})} (nat_lt (caller + 1) g.callers) _ _ StaysIn
      (λ t. record { slot_in = here.slot_in; caller_in = ltb-true (caller + 1) g.callers t })
      (λ f. record { geometry_same = refl; slot_in = here.slot_in; at_in = tt })

  given_back-in : (give : GiveTableModel) (next : Next (Unit {0})) → IsGiveTableIn g give → StaysIn (given_back give next)
  given_back-in give Go here = here
  given_back-in give (Done answer) here = next_slot-in (at.Giving give) give.slot here

  pub return_tables_stays_at : (at : ReturnTablesAt) (old : ℕ) → IsReturnTablesAtIn g at
      → StaysIn (return_tables_after_at g at old)
  return_tables_stays_at (at.State slot) old here =
      let some = g.within.callers_within in
      cond_both {A = ReturnTablesAt × Next (Unit {0})} (old == 2) _ _ StaysIn
      (λ t. record { slot_in = here; caller_in = omega (arith, some) }) (λ f. next_slot-in (at.State slot) slot here)
  return_tables_stays_at (at.KeptWord slot caller) old here =
      cond_both {A = ReturnTablesAt × Next (Unit {0})} (old % 2 == 1) _ _ StaysIn (λ t. here)
      (λ f. next_caller-in slot caller here)
  return_tables_stays_at (at.SectionWord slot caller kept) old here =
      cond_both {A = ReturnTablesAt × Next (Unit {0})} (old == kept) _ _ StaysIn
      (λ t. next_slot-in (at.SectionWord slot caller kept) slot here) (λ f. next_caller-in slot caller here)
  return_tables_stays_at (at.Giving give) old here =
      given_back-in (give_table_after give old).0 (give_table_after give old).1 (give_table_stays g give old here)

  pub return_tables_stays : (m : ReturnTablesModel) (old : ℕ) → IsReturnTablesIn g m
      → IsReturnTablesIn g (return_tables_after m old).0
  return_tables_stays m old within =
      subst
      (λ (h : Geometry). IsReturnTablesIn g (record m { at = (return_tables_after_at h m.at old).0 }))
      (sym within.geometry_same)
      (record { geometry_same = within.geometry_same; at_in = return_tables_stays_at m.at old within.at_in })

  -- ---- on which words it works

  pub planned_return_tables_at : (at : ReturnTablesAt) → IsReturnTablesAtIn g at
      → IsPlannedIn g (return_tables_plan_at g at)
  planned_return_tables_at (at.State slot) here = planned_load g (Slot slot StateWord) (here, tt) tt
  planned_return_tables_at (at.KeptWord slot caller) here =
      let few = g.within.callers_within in
      let low = here.caller_in in
      planned_load g (Slot slot (LoadedSection caller)) (here.slot_in, omega (arith, low, few)) tt
  planned_return_tables_at (at.SectionWord slot caller kept) here =
      let few = g.within.callers_within in
      let low = here.caller_in in planned_load g (Section caller) (omega (arith, low, few)) tt
  planned_return_tables_at (at.Giving give) here = planned_give_table g give here

  -- what it performs is on words of the table
  pub planned_return_tables : (m : ReturnTablesModel) → IsReturnTablesIn g m → IsPlannedIn g (return_tables_plan m)
  planned_return_tables m within =
      subst (λ (h : Geometry). IsPlannedIn g (return_tables_plan_at h m.at)) (sym within.geometry_same)
      (planned_return_tables_at m.at within.at_in)
