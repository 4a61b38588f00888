-- Passes that are ready for a call.
use Rattle.std.specs.Prelude.{◌≡◌, ℕ, true}
use Rattle.rht_core.specs.Locals.{is_idle}
use Rattle.rht_run.specs.declared.table.Table.{Table}
use Rattle.rht_run.specs.declared.pass.Pass.{Pass}
use Rattle.rht_run.specs.Passes.{IsPassOf}

-- the pass is one of the table's, and in no call
abbrev pub IsReady : {M : Type 0} → (ℕ → ℕ → ℕ → ℕ) → Table M → Pass M → Type 0
IsReady mix t pass = IsPassOf mix t pass × (is_idle pass.local ≡ true)
