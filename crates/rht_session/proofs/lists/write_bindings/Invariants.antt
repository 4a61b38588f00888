use Rattle.std.proofs.Common.{map, take}
use Rattle.rht_session.specs.Plain.{c_pair}
use Rattle.rht_session.specs.Lists.{all_owned, IsWritten}
use Rattle.rht_session.proofs.lists.write_bindings.Given as goal

-- the ports so far are written
abbrev pub invariant-loop-number : goal.invariant-loop-number
invariant-loop-number l = IsWritten l.fn.into (map c_pair (all_owned (take l.number l.bindings.pairs))) l.place l.into
