use Rattle.std.proofs.Common.{◌≡◌, ◌-◌, length}
use Rattle.std.specs.List.{flat_map, range_with_len}
use Rattle.rht_words.specs.Shapes.{size_of, unpacked}
use Rattle.rht_stands.specs.StandsFor.{bucket_in, bucket_nodes, table_nodes}
use Rattle.rht_stands.specs.Closing.{marked}
use Rattle.rht_stands.proofs.closing.mark_table.Given as goal

-- the marks so far, with those of the buckets that are left, are all of them
abbrev pub invariant-loop-bucket : goal.invariant-loop-bucket
invariant-loop-bucket l = record {
  all : marked l.met
      (flat_map (λ bucket. bucket_nodes l.geometry l.words (bucket_in l.geometry l.words l.shape bucket)) (range_with_len l.bucket (size_of (unpacked l.shape) - l.bucket)))
      ≡ marked l.fn.met (table_nodes l.geometry l.words l.table);
  count : length l.met ≡ l.geometry.nodes;
}
