use Rattle.std.proofs.Common.{All, vec_len}
use Rattle.rht_bench.specs.Ready.{IsReady}
use Rattle.rht_bench.specs.Jobs.{IsReadyJob}
use Rattle.rht_bench.proofs.measure.share_out.Given as goal

-- the passes that are left and those that have a job are ready
abbrev pub invariant-loop-pass : goal.invariant-loop-pass
invariant-loop-pass g l =
    All (IsReady g.M.Mix.mix_of l.table) l.passes.items × All (IsReadyJob g.M.Mix.mix_of l.table) l.jobs.items

abbrev pub decreases-loop-pass : goal.decreases-loop-pass
decreases-loop-pass g l = vec_len l.passes
