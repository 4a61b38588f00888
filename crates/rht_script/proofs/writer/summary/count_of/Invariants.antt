use Rattle.std.proofs.Common.{◌≡◌, ◌≤◌, take}
use Rattle.rht_script.specs.SummaryText.{count_of}
use Rattle.rht_script.proofs.writer.summary.count_of.Given as goal

-- the replies so far were counted
abbrev pub invariant-loop-i : goal.invariant-loop-i
invariant-loop-i l = record {
  count : l.count ≡ count_of l.sort (take l.i l.replies);
  few : l.count ≤ l.i;
}
