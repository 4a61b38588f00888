use Rattle.std.proofs.Common.{◌≡◌}
use Rattle.rht_deal.specs.Ordering.{kept_items}
use Rattle.rht_deal.specs.Workers.{passes_of, kept_of}
use Rattle.rht_deal.proofs.dealing.parted.Given as goal

-- of the workers so far
abbrev pub invariant-loop-worker : goal.invariant-loop-worker
invariant-loop-worker g l = record {
  passes : l.passes.items ≡ passes_of l.yielded;
  kept : kept_items l.kept ≡ kept_of l.yielded;
}
