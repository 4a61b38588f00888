use Rattle.std.proofs.Common.{◌<◌}
use Rattle.crossbeam_queue.specs.Passes.{view, IsPassOf}
use Rattle.rht_deal.specs.Workers.{HasGathered}
use Rattle.rht_deal.proofs.dealing.gathered.Given as goal

-- all so far have ended well, and the dealer has taken in their passes
abbrev pub invariant-loop-worked : goal.invariant-loop-worked
invariant-loop-worked g l = record {
  queue : IsPassOf l.queue l.dealer;
  part : 0 < (view l.dealer).parts;
  so_far : HasGathered l.yielded l.workers.items (view l.initial.dealer) (view l.dealer);
}
