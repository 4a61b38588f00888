use Rattle.std.proofs.Common.{◌≡◌, ◌<◌, ◌-◌, Some, IfSome}
use Rattle.std.specs.List.{find}
use Rattle.rht_stands.specs.StandsFor.{bucket_nodes, has_key}
use Rattle.rht_stands.proofs.FirstNodes.{first_left}
use Rattle.rht_stands.proofs.bound.first_in_bucket.Given as goal

-- the first node with the key in what is left of the chain is the first in the bucket
abbrev pub invariant-loop : goal.invariant-loop
invariant-loop l = record {
  first : first_left l.geometry l.words l.key (l.geometry.nodes - l.counter) l.next
      ≡ find (has_key l.geometry l.words l.key) (bucket_nodes l.geometry l.words (Some l.place));
  within : IfSome l.next (λ node. node < l.geometry.nodes);
}
