use Rattle.std.proofs.Common.{◌≡◌, ◌≤◌, [], length, drop}
use Rattle.std.specs.List.{flat_map}
use Rattle.rht_stands.specs.Closing.{owned, all_added, AreFirsts}
use Rattle.rht_stands.proofs.closing.listing.Given as goal

-- the bindings so far, with those of the ports that are left, are all of them, and there is room for these
abbrev pub invariant-loop-first : goal.invariant-loop-first
invariant-loop-first l = record {
  all : all_added l.bindings.pairs (flat_map (owned l.geometry l.words) (drop l.first-index l.first-items))
      ≡ all_added [] (flat_map (owned l.geometry l.words) l.first-items);
  room : length (flat_map (owned l.geometry l.words) (drop l.first-index l.first-items)) ≤ l.bindings.room;
  firsts : AreFirsts l.geometry l.words l.first-items;
}
