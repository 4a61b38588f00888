use Rattle.std.proofs.Common.{◌≡◌, ◌<◌, ◌-◌, IfSome}
use Rattle.rht_words.specs.Ports.{word_of}
use Rattle.rht_stands.specs.StandsFor.{first_node}
use Rattle.rht_stands.proofs.FirstNodes.{first_of_tables}
use Rattle.rht_stands.proofs.bound.first_node.Given as goal

-- the first node of the port in the tables that are left is the first of all
abbrev pub invariant-loop : goal.invariant-loop
invariant-loop l = record {
  first : first_of_tables l.geometry l.words (word_of l.fn.port) (8 - l.counter) l.next
      ≡ first_node l.geometry l.words l.fn.port;
  within : IfSome l.next (λ table. table < 8);
}
