use Rattle.std.proofs.Common.{take}
use Rattle.rht_lease.specs.Books.{sweep_calls}
use Rattle.rht_lease.specs.ServedLeases.{HasSwept}
use Rattle.rht_lease.proofs.book.release_ended.Given as goal

-- what the leases so far had bound is released, of those that have ended
abbrev pub invariant-loop-lease : goal.invariant-loop-lease
invariant-loop-lease g l =
    HasSwept g.M.Mix.mix_of l.table l.fn.auto (sweep_calls l.now (take l.lease-index l.leases)) l.swept l.initial.pass l.pass
