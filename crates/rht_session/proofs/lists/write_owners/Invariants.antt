use Rattle.std.proofs.Common.{◌≡◌, ◌++◌, take, drop}
use Rattle.rht_session.proofs.lists.write_owners.Given as goal

-- so many of the list from its place on stand at the front of the room, and behind them what stood there
abbrev pub invariant-loop-place : goal.invariant-loop-place
invariant-loop-place l = l.into ≡ take l.place (drop l.from l.owners) ++ drop l.place l.fn.into
