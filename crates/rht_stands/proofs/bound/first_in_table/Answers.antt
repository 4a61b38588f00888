use Rattle.std.proofs.Common.{◌<◌, sym, ◌∙◌, ap, subst}
use Rattle.rht_words.specs.Shapes.{size_of}
use Rattle.rht_stands.proofs.FirstNodes.{buckets-here, buckets-past}
use Rattle.rht_stands.proofs.bound.first_in_table.Goals as goal

pub returns-then-is_some-clause-first : goal.returns-then-is_some-clause-first
returns-then-is_some-clause-first c =
    let size = c.size-bucket-end.ensures.size ∙ ap size_of c.from.ensures in
    buckets-here _ c.args.words.now c.args.key _ _ c.loop-bucket.bucket _
    (subst (λ n. c.loop-bucket.bucket < n) size c.loop-bucket-test.true) c.loop-bucket.invariant
    _ _ c.first_at-found.ensures.first c.bucket_in.ensures.place
    (sym c.is_some.ensures ∙ c.if-is_some.true)

pub loop-bucket-preserved : goal.loop-bucket-preserved
loop-bucket-preserved c =
    let size = c.size-bucket-end.ensures.size ∙ ap size_of c.from.ensures in
    buckets-past _ c.args.words.now c.args.key _ _ c.loop-bucket.bucket _
    (subst (λ n. c.loop-bucket.bucket < n) size c.loop-bucket-test.true) c.loop-bucket.invariant
    _ _ c.first_at-found.ensures.first c.bucket_in.ensures.place
    (sym c.is_some.ensures ∙ c.if-is_some.false)
