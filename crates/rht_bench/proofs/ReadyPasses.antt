-- Each pass of a new table is ready: it is one of the table's, and in no call.
use Rattle.std.proofs.Common.{ℕ, ◌+◌, List, [], ◌∷◌, ap, All}
use Rattle.std.proofs.lemmas.List.Elements.{All-nil, All-cons}
use Rattle.rht_core.specs.Locals.{is_idle}
use Rattle.rht_run.specs.declared.table.Table.{Table}
use Rattle.rht_run.specs.declared.pass.Pass.{Pass}
use Rattle.rht_run.specs.Passes.{AreNew}
use Rattle.rht_bench.specs.Ready.{IsReady}

-- By induction over the passes.
pub AreNew-IsReady : {M : Type 0} (mix : ℕ → ℕ → ℕ → ℕ) (t : Table M) (n : ℕ) (passes : List (Pass M)) → AreNew mix t n passes
    → All (IsReady mix t) passes
AreNew-IsReady mix t n [] new = All-nil (IsReady mix t)
AreNew-IsReady mix t n (pass ∷ passes) new =
    All-cons (IsReady mix t) pass passes (new.0.pass, ap is_idle new.0.local) (AreNew-IsReady mix t (n + 1) passes new.1)
