-- How many nodes a pass has that a tidying is to give back.
use Rattle.std.specs.Prelude.{ℕ, length}
use Rattle.rht_callers.specs.Batches.{nodes_in}
use Rattle.rht_run.specs.declared.pass.Pass.{Pass}

-- those of its batch, which wait for sections to be left or don't wait yet; a pass that is in no call has its batch
abbrev pub untidied : {M : Type 0} → Pass M → ℕ
untidied pass = length (nodes_in pass.local.batch)
