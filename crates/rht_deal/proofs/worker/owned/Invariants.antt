use Rattle.std.proofs.Common.{◌≡◌, take}
use Rattle.rht_deal.proofs.worker.owned.Given as goal

-- the owners so far
abbrev pub invariant-loop-owner : goal.invariant-loop-owner
invariant-loop-owner l = l.own ≡ take l.owner-index l.owners
