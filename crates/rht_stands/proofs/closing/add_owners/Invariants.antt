use Rattle.std.proofs.Common.{◌≡◌, ◌<◌, ◌+◌, ◌-◌, map, length, IfSome}
use Rattle.rht_stands.specs.StandsFor.{owners_from}
use Rattle.rht_stands.specs.Closing.{owned, all_added}
use Rattle.rht_stands.proofs.closing.add_owners.Given as goal

-- the bindings so far, with the owners in what is left of the list, are all of them
abbrev pub invariant-loop : goal.invariant-loop
invariant-loop l = record {
  all : all_added l.bindings.pairs (map (λ owner. (l.fn.first.0, owner)) (owners_from l.geometry l.words (l.geometry.nodes - l.counter) l.next))
      ≡ all_added l.fn.bindings.pairs (owned l.geometry l.words l.fn.first);
  room : l.bindings.room + length (owned l.geometry l.words l.fn.first)
      ≡ l.fn.bindings.room + length (owners_from l.geometry l.words (l.geometry.nodes - l.counter) l.next);
  within : IfSome l.next (λ node. node < l.geometry.nodes);
}
