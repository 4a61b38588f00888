use Rattle.std.proofs.Common.{◌+◌, ◌-◌, ℕ, List, map, length, refl, sym, ◌∙◌, ap, slice_index, arith}
use Rattle.rht_words.specs.Links.{node_of}
use Rattle.rht_words.specs.Ports.{owner_of}
use Rattle.rht_words.specs.Places.{Node, ListLink, word_at}
use Rattle.rht_stands.specs.StandsFor.{list_from, owners_at}
use Rattle.rht_model.specs.Listing.{added}
use Rattle.rht_stands.specs.Closing.{all_added}
use Rattle.rht_stands.proofs.MarkedNodes.{way-more}
use Rattle.rht_stands.proofs.closing.add_owners.Goals as goal

pub loop-preserved : goal.loop-preserved
loop-preserved c =
    let g = c.args.geometry in
    let words = c.args.words.now in
    let port = c.args.first.0 in
    let pairs = c.loop.bindings.pairs in
    let node = c.in-Some.node in
    let rest = list_from g words (g.nodes - (c.loop.counter + 1)) c.node_of-next.result in
    let with_owners : List ℕ → List (ℕ × ℕ) = λ nodes. map (λ owner. (port, owner)) (owners_at g words nodes) in
    let owner = c.owner_of.ensures ∙ ap (λ place. owner_of (slice_index words place)) c.owner.ensures.place in
    let more = way-more (λ node. node_of g.nodes (word_at g words (Node node ListLink))) (list_from g words)
    record { spent = λ next. refl; none = λ left. refl; some = λ left node. refl }
    g.nodes c.loop.counter c.loop.next node c.node_of-next.result c.in-Some.is c.loop-test.true
    (c.node_of-next.ensures.node ∙ ap (λ place. node_of g.nodes (slice_index words place)) c.list_link.ensures.place) in
    let one_more = ap (λ nodes. length (owners_at g words nodes)) more in
    let before = c.loop.invariant.room in
    let after = c.add.ensures.room in
    record {
      all = ap (λ l. all_added l (with_owners rest)) (c.add.ensures.pairs ∙ ap (added pairs port) owner)
          ∙ sym (ap (λ nodes. all_added pairs (with_owners nodes)) more)
          ∙ c.loop.invariant.all;
      room = omega (arith, one_more, before, after);
      within = c.node_of-next.ensures.within;
    }
