use Rattle.std.proofs.Common.{◌<◌, ◌+◌, ◌-◌, length, List, ℕ, ◌∙◌, sym, ap, subst, slice_index}
use Rattle.std.specs.List.{flat_map, range_with_len}
use Rattle.rht_words.specs.Shapes.{size_of, unpacked}
use Rattle.rht_stands.specs.StandsFor.{bucket_in, bucket_nodes}
use Rattle.rht_stands.specs.Closing.{marked}
use Rattle.rht_stands.proofs.MarkedNodes.{range-more, marked-append, length-marked}
use Rattle.rht_stands.proofs.closing.mark_table.Goals as goal

pub loop-bucket-preserved : goal.loop-bucket-preserved
loop-bucket-preserved c =
    let g = c.args.geometry in
    let words = c.args.words.now in
    let shape = slice_index words c.shape.result in
    let nodes : ℕ → List ℕ = λ bucket. bucket_nodes g words (bucket_in g words shape bucket) in
    let count = size_of (unpacked shape) in
    let bucket = c.loop-bucket.bucket in
    let met = c.loop-bucket.met in
    let size = c.size-bucket-end.ensures.size ∙ ap size_of c.from.ensures in
    let rest = range_with_len (bucket + 1) (count - (bucket + 1)) in
    let here = c.mark_bucket.ensures ∙ ap (λ place. marked met (bucket_nodes g words place)) c.bucket_in.ensures.place in
    record {
      all = ap (λ marks. marked marks (flat_map nodes rest)) here
          ∙ sym (marked-append met (nodes bucket) (flat_map nodes rest))
          ∙ sym (ap (λ buckets. marked met (flat_map nodes buckets))
          (range-more count bucket (subst (λ n. bucket < n) size c.loop-bucket-test.true)))
          ∙ c.loop-bucket.invariant.all;
      count = ap length c.mark_bucket.ensures ∙ length-marked met (bucket_nodes g words c.bucket_in.result) ∙ c.loop-bucket.invariant.count;
    }
