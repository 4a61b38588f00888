-- Jobs that are ready to be done.
use Rattle.std.specs.Prelude.{ℕ}
use Rattle.rht_run.specs.declared.table.Table.{Table}
use Rattle.rht_bench.specs.declared.measure.Job.{Job}
use Rattle.rht_bench.specs.Ready.{IsReady}

-- the job's pass is one of the table's, and in no call
abbrev pub IsReadyJob : {M : Type 0} → (ℕ → ℕ → ℕ → ℕ) → Table M → Job M → Type 0
IsReadyJob mix t job = IsReady mix t job.pass
