use Rattle.std.proofs.Common.{◌≡◌, ◌≤◌, ◌-◌, ◌++◌, map, length, vec_len, vec_capacity}
use Rattle.std.specs.List.{filter, range_with_len}
use Rattle.rht_stands.specs.Closing.{with_port, is_marked, marked_below}
use Rattle.rht_stands.proofs.closing.put_marked.Given as goal

-- what was put down, with those of the nodes that are left, are all of them
abbrev pub invariant-loop-node : goal.invariant-loop-node
invariant-loop-node l = record {
  all : l.firsts.items ++ map (with_port l.geometry l.words) (filter (is_marked l.met) (range_with_len l.node (l.geometry.nodes - l.node)))
      ≡ map (with_port l.geometry l.words) (marked_below l.met l.geometry.nodes);
  count : length l.met ≡ l.geometry.nodes;
  few : vec_len l.firsts ≤ l.node;
  room : l.geometry.nodes ≤ vec_capacity l.firsts;
}
