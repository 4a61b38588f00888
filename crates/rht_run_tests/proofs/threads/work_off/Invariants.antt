use Rattle.std.proofs.Common.{◌≡◌, true}
use Rattle.rht_core.specs.Locals.{is_idle}
use Rattle.rht_run.specs.Passes.{IsPassOf}
use Rattle.rht_run_tests.proofs.threads.work_off.Given as goal

-- the pass is in no call
abbrev pub invariant-loop : goal.invariant-loop
invariant-loop g l = record {
  pass : IsPassOf g.M.Mix.mix_of l.table l.pass;
  idle : is_idle l.pass.local ≡ true;
}
