use Rattle.std.proofs.Common.{◌≡◌, ◌≤◌, ◌*◌, take}
use Rattle.rht_script.specs.SummaryText.{sum_of_ports}
use Rattle.rht_script.proofs.writer.summary.sum_of_ports.Given as goal

-- the ports so far were added up
abbrev pub invariant-loop-i : goal.invariant-loop-i
invariant-loop-i l = record {
  sum : l.sum ≡ sum_of_ports (take l.i l.bindings.pairs);
  most : l.sum ≤ l.i * 4294967295;
}
