use Rattle.std.proofs.Common.{◌≡◌, ◌≤◌, []}
use Rattle.crossbeam_queue.specs.Passes.{view, IsPassOf, ruled_capacity}
use Rattle.rht_deal.specs.Numbers.{hand, all_parts}
use Rattle.rht_deal.proofs.numbers.filled.Given as goal

-- so many numbers were pushed
abbrev pub invariant-loop-i : goal.invariant-loop-i
invariant-loop-i g l = record {
  pass : IsPassOf l.queue l.pass;
  view : view l.pass ≡ hand all_parts l.i [];
  room : l.count ≤ ruled_capacity l.queue;
}
