use Rattle.std.proofs.Common.{◌≡◌, ◌<◌, ◌-◌, ◌++◌, IfSome}
use Rattle.rht_stands.specs.StandsFor.{owners_from, stands_for}
use Rattle.rht_stands.proofs.bound.owners_of.Given as goal

-- the owners so far, with those in what is left of the list, are all of them
abbrev pub invariant-loop : goal.invariant-loop
invariant-loop l = record {
  all : l.owners.items ++ owners_from l.geometry l.words (l.geometry.nodes - l.counter) l.next
      ≡ stands_for l.geometry l.words l.fn.port;
  within : IfSome l.next (λ node. node < l.geometry.nodes);
}
