use Rattle.std.proofs.Common.{◌≡◌, ◌<◌, ◌-◌, length, Some, IfSome}
use Rattle.rht_stands.specs.StandsFor.{chain_from, bucket_nodes}
use Rattle.rht_stands.specs.Closing.{marked}
use Rattle.rht_stands.proofs.closing.mark_chain.Given as goal

-- the marks so far, with those of what is left of the chain, are all of them
abbrev pub invariant-loop : goal.invariant-loop
invariant-loop l = record {
  all : marked l.met (chain_from l.geometry l.words (l.geometry.nodes - l.counter) l.next)
      ≡ marked l.fn.met (bucket_nodes l.geometry l.words (Some l.place));
  count : length l.met ≡ l.geometry.nodes;
  within : IfSome l.next (λ node. node < l.geometry.nodes);
}
