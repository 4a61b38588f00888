use Rattle.std.proofs.Common.{true, length-set, refl, sym, ◌∙◌, ap, slice_index}
use Rattle.rht_words.specs.Links.{node_of}
use Rattle.rht_words.specs.Places.{Node, ChainLink, word_at}
use Rattle.rht_stands.specs.StandsFor.{chain_from}
use Rattle.rht_stands.specs.Closing.{marked}
use Rattle.rht_stands.proofs.MarkedNodes.{way-more}
use Rattle.rht_stands.proofs.closing.mark_chain.Goals as goal

pub loop-preserved : goal.loop-preserved
loop-preserved c =
    let g = c.args.geometry in
    let words = c.args.words.now in
    let met = c.loop.met in
    let node = c.in-Some.node in
    let more = way-more (λ node. node_of g.nodes (word_at g words (Node node ChainLink))) (chain_from g words)
    record { spent = λ next. refl; none = λ left. refl; some = λ left node. refl }
    g.nodes c.loop.counter c.loop.next node c.node_of-next-in-loop.result c.in-Some.is c.loop-test.true
    (c.node_of-next-in-loop.ensures.node ∙ ap (λ place. node_of g.nodes (slice_index words place)) c.chain_link.ensures.place) in
    record {
      all = sym (ap (marked met) more) ∙ c.loop.invariant.all;
      count = length-set met node true ∙ c.loop.invariant.count;
      within = c.node_of-next-in-loop.ensures.within;
    }
