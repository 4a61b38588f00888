use Rattle.rht_stands.proofs.FirstNodes.{owners-past, owners-none}
use Rattle.rht_stands.proofs.bound.owners_of.Goals as goal

pub returns-in_default : goal.returns-in_default
returns-in_default c =
    owners-none c.args.geometry c.args.words.now _ c.loop.next c.loop.owners.items _
    c.in_default.is c.loop.invariant.all

pub loop-preserved : goal.loop-preserved
loop-preserved c = record {
  all = owners-past c.args.geometry c.args.words.now _ c.loop.counter c.loop.next c.in-Some.node
      c.loop.owners.items _ c.in-Some.is c.loop-test.true c.loop.invariant.all
      c.owner.result c.owner.ensures.place c.owner_of.result c.owner_of.ensures
      _ c.in_ok-push.ensures.items
      c.list_link.result c.list_link.ensures.place c.node_of-next.result c.node_of-next.ensures.node;
  within = c.node_of-next.ensures.within;
}
