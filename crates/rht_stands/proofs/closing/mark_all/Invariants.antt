use Rattle.std.proofs.Common.{◌≡◌, ◌<◌, ◌-◌, length, IfSome}
use Rattle.std.specs.List.{flat_map}
use Rattle.rht_stands.specs.StandsFor.{tables_from, table_nodes}
use Rattle.rht_stands.specs.Closing.{nodes_met, marked}
use Rattle.rht_stands.proofs.closing.mark_all.Given as goal

-- the marks so far, with those of the tables that are left, are all of them
abbrev pub invariant-loop : goal.invariant-loop
invariant-loop l = record {
  all : marked l.met (flat_map (table_nodes l.geometry l.words) (tables_from l.geometry l.words (8 - l.counter) l.next))
      ≡ marked l.fn.met (nodes_met l.geometry l.words);
  count : length l.met ≡ l.geometry.nodes;
  within : IfSome l.next (λ table. table < 8);
}
