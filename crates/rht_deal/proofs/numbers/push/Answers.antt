use Rattle.crossbeam_queue.specs.Passes.{view, ruled_capacity}
use Rattle.rht_deal.proofs.NumberRule.{pushes, learns, never_full}
use Rattle.rht_deal.proofs.numbers.push.Goals as goal

pub push_as-requires-clause-rule : goal.push_as-requires-clause-rule
push_as-requires-clause-rule g c = (pushes _ _ _ _ c.requires.all c.requires.next, learns _ _)

pub unreachable-requires : goal.unreachable-requires
unreachable-requires g c =
    never_full (ruled_capacity c.args.queue.now) c.args.number (view c.args.pass.now) c.requires.all c.requires.next c.requires.room
    c.in-Err.ensures.rule.2
