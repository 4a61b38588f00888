use Rattle.std.proofs.Common.{◌≡◌, ◌++◌, take, drop, map}
use Rattle.rht_session.specs.Plain.{c_pair}
use Rattle.rht_session.proofs.lists.write_pairs.Given as goal

-- so many of the list from its place on stand at the front of the room, and behind them what stood there
abbrev pub invariant-loop-place : goal.invariant-loop-place
invariant-loop-place l = l.into ≡ take l.place (drop l.from (map c_pair l.pairs)) ++ drop l.place l.fn.into
