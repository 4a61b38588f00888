use Rattle.std.proofs.Common.{◌≡◌}
use Rattle.std.specs.List.{find}
use Rattle.rht_words.specs.Shapes.{size_of, unpacked}
use Rattle.rht_stands.specs.StandsFor.{table_nodes, has_key}
use Rattle.rht_stands.proofs.FirstNodes.{first_of_buckets}
use Rattle.rht_stands.proofs.bound.first_in_table.Given as goal

-- the first node with the key in the buckets from this one on is the first in the table
abbrev pub invariant-loop-bucket : goal.invariant-loop-bucket
invariant-loop-bucket l =
    first_of_buckets l.geometry l.words l.key l.shape (size_of (unpacked l.shape)) l.bucket
    ≡ find (has_key l.geometry l.words l.key) (table_nodes l.geometry l.words l.table)
