use Rattle.std.proofs.Common.{◌≡◌, ◌++◌}
use Rattle.rht_check.specs.Updates.{count_of_owners}
use Rattle.rht_check.proofs.port_map.PortMap.listing.Given as goal

-- the ports so far are listed, and there is room for the owners of those that are left
abbrev pub invariant-loop-port : goal.invariant-loop-port
invariant-loop-port l = record {
  listed : l.bindings.pairs ++ l.port-iterator ≡ l.self;
  room : l.bindings.room ≡ count_of_owners l.port-iterator;
}
