use Rattle.std.proofs.Common.{List, ◌++◌, map, take}
use Rattle.rht_session.specs.declared.plain.CPair.{CPair}
use Rattle.rht_session.specs.Plain.{c_pair}
use Rattle.rht_session.specs.Lists.{owned, IsWritten}
use Rattle.rht_session.proofs.lists.write_port.Given as goal

-- the owners so far are written behind whatever was
abbrev pub invariant-loop-number : goal.invariant-loop-number
invariant-loop-number l = (before list : List CPair) → IsWritten before list l.place l.fn.into
    → IsWritten before (list ++ map c_pair (owned l.port (take l.number l.owners))) l.next l.into
