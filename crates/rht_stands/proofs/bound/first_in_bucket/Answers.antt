use Rattle.rht_stands.proofs.FirstNodes.{chain-here, chain-past}
use Rattle.rht_stands.proofs.bound.first_in_bucket.Goals as goal

pub returns-then-words-key-clause-first : goal.returns-then-words-key-clause-first
returns-then-words-key-clause-first c =
    chain-here _ c.args.words.now c.args.key _ c.loop.counter c.loop.next c.in-Some.node _
    c.in-Some.is c.loop-test.true c.loop.invariant.first
    c.key.result c.key.ensures.place c.if-words-key.true

pub loop-preserved : goal.loop-preserved
loop-preserved c = record {
  first = chain-past _ c.args.words.now c.args.key _ c.loop.counter c.loop.next c.in-Some.node _
      c.in-Some.is c.loop-test.true c.loop.invariant.first
      c.key.result c.key.ensures.place c.if-words-key.false
      c.chain_link.result c.chain_link.ensures.place
      c.node_of-next-in-loop.result c.node_of-next-in-loop.ensures.node;
  within = c.node_of-next-in-loop.ensures.within;
}
