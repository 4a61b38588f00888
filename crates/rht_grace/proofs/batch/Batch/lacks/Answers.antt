use Rattle.std.proofs.Common.{ap, ◌∙◌}
use Rattle.rht_grace.proofs.BatchNodes.{none_of-both, none_of-first}
use Rattle.rht_grace.proofs.batch.Batch.lacks.Goals as goal

pub returns-then-none_of : goal.returns-then-none_of
returns-then-none_of c =
    none_of-both c.args.node c.args.self.now.fresh c.args.self.now.waiting c.as_slice.result.now
    c.as_slice-then-none_of.result.now c.none_of.result c.none_of-then-none_of.result
    (c.as_slice.ensures.items ∙ ap (λ batch. batch.fresh) c.self.view_is)
    (c.as_slice-then-none_of.ensures.items ∙ ap (λ batch. batch.waiting) c.self.view_is)
    c.if-none_of.true c.none_of.ensures c.none_of-then-none_of.ensures

pub returns-else-none_of : goal.returns-else-none_of
returns-else-none_of c =
    none_of-first c.args.node c.args.self.now.fresh c.args.self.now.waiting c.as_slice.result.now c.none_of.result
    (c.as_slice.ensures.items ∙ ap (λ batch. batch.fresh) c.self.view_is)
    c.if-none_of.false c.none_of.ensures
