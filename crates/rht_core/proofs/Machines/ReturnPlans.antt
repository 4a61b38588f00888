-- What kinds of operation give tables back: loads, stores, and such as set bits. None of them exchanges a word.
use Rattle.std.proofs.Common.{◌≡◌, ℕ, subst}
use Rattle.rht_words.specs.declared.geometry.Geometry.{Geometry}
use Rattle.rht_words.specs.declared.op.Op.{Op}
use Rattle.rht_words.specs.declared.op.Op.TheVariants.{Load, Store, Exchange, Add, Sub, And, Or}
use Rattle.rht_reclaim.specs.GiveTable.{give_table_plan_at}
use Rattle.rht_reclaim.specs.ReturnTables.{return_tables_plan_at}
use Rattle.rht_reclaim.specs.declared.give_table.GiveTableAt.{GiveTableAt}
use Rattle.rht_reclaim.specs.declared.give_table.GiveTableAt.TheVariants as gives
use Rattle.rht_reclaim.specs.declared.return_tables.ReturnTablesAt.{ReturnTablesAt}
use Rattle.rht_reclaim.specs.declared.return_tables.ReturnTablesAt.TheVariants as returns

-- it is a load, a store, or sets bits
abbrev pub LoadsStoresOrSets : Op → Type 0
LoadsStoresOrSets (Load place) = Unit {0}
LoadsStoresOrSets (Store place value) = Unit {0}
LoadsStoresOrSets (Exchange place old new) = ⊥
LoadsStoresOrSets (Add place by) = ⊥
LoadsStoresOrSets (Sub place by) = ⊥
LoadsStoresOrSets (And place mask) = ⊥
LoadsStoresOrSets (Or place mask) = Unit {0}

-- so is each operation that gives a table back
pub give_table-kind : (g : Geometry) (slot : ℕ) (state : GiveTableAt) → LoadsStoresOrSets (give_table_plan_at g slot state)
give_table-kind g slot gives.Shape = tt
give_table-kind g slot _ = tt

-- each one that goes through the slots
pub returns-kind : (g : Geometry) (state : ReturnTablesAt) → LoadsStoresOrSets (return_tables_plan_at g state)
returns-kind g (returns.Giving give) = give_table-kind give.geometry give.slot give.at
returns-kind g _ = tt

-- so none of them exchanges a word
pub no_exchange : {op : Op} {place old new : ℕ} → LoadsStoresOrSets op → op ≡ Exchange place old new → ⊥
no_exchange kind is = subst LoadsStoresOrSets is kind
