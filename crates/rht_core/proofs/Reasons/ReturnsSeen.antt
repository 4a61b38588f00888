-- The operations of a giving back of retired tables that has ended have done with each slot what the law of such a giving back says.
use Rattle.std.proofs.Common.{◌≡◌, ◌≢◌, inl, inr, arith, map, ℕ, List, [], ◌∷◌, ◌++◌, sym, ap, ◌∙◌, subst}
use Rattle.std.specs.List.{AllByRecursion}
use Rattle.rht_words.specs.declared.machine.Next.TheVariants.{Go, Done}
use Rattle.rht_words.specs.declared.geometry.Geometry.{Geometry}
use Rattle.rht_words.specs.Machines.{Performed, Ran}
use Rattle.rht_reclaim.specs.ReturnTables.{ReturnTablesModel, return_tables_new, return_tables_plan, return_tables_after}
use Rattle.rht_reclaim.specs.ReturnLaws.{AreSlotsSeen, IsReturningOp, IsReturningStep}
use Rattle.rht_reclaim.specs.GiveTableLaws.{IsOfReturn}
use Rattle.rht_words.specs.declared.op.Op.{Op}
use Rattle.rht_words.specs.declared.op.Op.TheVariants.{Load, Store, Or}
use Rattle.rht_words.specs.Operations.{op_place}
use Rattle.rht_words.specs.Places.{CurrentTable, place_of}
use Rattle.rht_words.proofs.PlacesApart.{parts_in_order}
use Rattle.rht_core.specs.Traces.{Did, performed_of}
use Rattle.rht_core.proofs.Reasons.PartsOfRuns.{IsPart, part-begins, part-goes, part-ended}
use Rattle.rht_reclaim.proofs.ReturnsDone.{returns_tables, tables_return_within}

-- the operation of its state, which found this word
abbrev pub returning_step : ReturnTablesModel → ℕ → Performed
returning_step returns old = record { op = return_tables_plan returns; old = old }

module _ (g : Geometry) where
  -- a giving back has come with these operations to this state: whatever its next ones find, they and those are such of a whole one
  abbrev pub IsPartOf : List Performed → ReturnTablesModel → Type 0
  IsPartOf = IsPart return_tables_plan return_tables_after (return_tables_new g)

  -- it begins with none
  pub returns-begin : IsPartOf [] (return_tables_new g)
  returns-begin = part-begins return_tables_plan return_tables_after (return_tables_new g)

  -- an operation more, behind which it goes on
  pub returns-go : (steps : List Performed) (returns : ReturnTablesModel) (old : ℕ) → (return_tables_after returns old).1 ≡ Go
      → IsPartOf steps returns → IsPartOf (steps ++ returning_step returns old ∷ []) (return_tables_after returns old).0
  returns-go = part-goes return_tables_plan return_tables_after (return_tables_new g)

  -- once it has ended, each slot was seen, and each operation is one of a giving back
  pub record HasSeen (steps : List Performed) : Type 0 where
    pub slots : AreSlotsSeen g 0 8 steps
    pub within : AllByRecursion (IsReturningStep g) steps

  -- an operation with which it ends
  pub returns-end : (steps : List Performed) (returns : ReturnTablesModel) (old : ℕ) → (return_tables_after returns old).1 ≡ Done tt
      → IsPartOf steps returns → HasSeen (steps ++ returning_step returns old ∷ [])
  returns-end steps returns old ends part =
      let whole = part-ended return_tables_plan return_tables_after (return_tables_new g) steps returns old ends part in
      subst HasSeen (ap (λ (r : Ran (Unit {0})). r.steps) whole.is)
      (record {
        slots = returns_tables g whole.all (ap (λ (r : Ran (Unit {0})). r.next) whole.is);
        within = tables_return_within g whole.all;
      })

-- ---- where its operations are

module _ (g : Geometry) where
  -- none is on the word of the current table
  return-apart : (slot : ℕ) (op : Op) → IsOfReturn g slot op → op_place op ≢ place_of g CurrentTable
  return-apart slot (Load place) (inl entry) same =
      let order = parts_in_order g in
      let at = entry.at in omega (arith, at, same, order.page_map, order.nodes, order.pages)
  return-apart slot (Load place) (inr shape) same = omega (arith, shape, same)
  return-apart slot (Store place value) (zero, inl entry) same =
      let order = parts_in_order g in
      let at = entry.at in omega (arith, at, same, order.page_map, order.nodes, order.pages)
  return-apart slot (Store place value) (zero, inr state) same = omega (arith, state, same)
  return-apart slot (Or place mask) on same =
      let order = parts_in_order g in
      let at = on.at in omega (arith, at, same, order.page_map)
  return-apart slot _ is same = absurd is

  returning-apart : (op : Op) → IsReturningOp g op → op_place op ≢ place_of g CurrentTable
  returning-apart op is same = elim is.either [
    | inl state ↦ let at = sym (ap op_place state) ∙ same in omega (arith, at)
    | inr (inl kept) ↦ let at = sym (ap op_place kept) ∙ same in omega (arith, at)
    | inr (inr (inl section)) ↦ let at = sym (ap op_place section) ∙ same in omega (arith, at)
    | inr (inr (inr of)) ↦ return-apart is.slot op of same
  ]

  pub gave-apart : (steps : List Did) → AllByRecursion (IsReturningStep g) (map performed_of steps)
      → AllByRecursion (λ (did : Did). op_place did.op ≢ place_of g CurrentTable) steps
  gave-apart [] gave = tt
  gave-apart (did ∷ steps) gave = (returning-apart did.op gave.0.of_slot, gave-apart steps gave.1)
