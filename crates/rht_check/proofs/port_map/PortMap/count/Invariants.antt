use Rattle.std.proofs.Common.{◌≡◌, ◌+◌}
use Rattle.rht_check.specs.Updates.{count_of_owners}
use Rattle.rht_check.proofs.port_map.PortMap.count.Given as goal

-- those counted so far, and those of the ports that are left, are all owners
abbrev pub invariant-loop-port : goal.invariant-loop-port
invariant-loop-port l = l.count + count_of_owners l._port-iterator ≡ count_of_owners l.self
