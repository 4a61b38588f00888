use Rattle.std.proofs.Common.{◌≡◌, ◌≤◌, ◌*◌, take}
use Rattle.rht_script.specs.SummaryText.{how_many}
use Rattle.rht_script.proofs.writer.summary.how_many.Given as goal

-- the replies of the workers so far were counted
abbrev pub invariant-loop-i : goal.invariant-loop-i
invariant-loop-i l = record {
  count : l.count ≡ how_many l.sort (take l.i l.workers);
  few : l.count ≤ l.i * 4294967296;
}
