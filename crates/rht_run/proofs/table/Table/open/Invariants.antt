use Rattle.std.proofs.Common.{◌-◌, ◌≡◌, ◌+◌, ◌<◌, vec_len}
use Rattle.rht_run.specs.Passes.{IsOpening, AreNew}
use Rattle.rht_run.proofs.table.Table.open.Given as goal

-- the seat still has the numbers below this one, and the passes have the others
abbrev pub invariant-loop-number : goal.invariant-loop-number
invariant-loop-number g l = record {
  opening : IsOpening g.M.Mix.mix_of l.table l.number l.env.geometry.callers l.seat;
  row : AreNew g.M.Mix.mix_of l.table l.number l.passes.items;
  count : vec_len l.passes + l.number ≡ l.env.geometry.callers;
  some : 0 < l.number;
  env : l.table.env ≡ l.env;
}

abbrev pub decreases-loop-number : goal.decreases-loop-number
decreases-loop-number g l = l.number - 1
