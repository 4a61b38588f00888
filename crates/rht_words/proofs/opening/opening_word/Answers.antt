use Rattle.std.proofs.Common.{◌-◌, ◌∙◌, arith}
use Rattle.rht_words.specs.Places.{NodeMap, PageMap}
use Rattle.rht_words.proofs.OpenedWords.{opening_word-at, opening_word-zero}
use Rattle.rht_words.proofs.PlacesApart.{parts_in_order, words_in-few}
use Rattle.rht_words.proofs.opening.opening_word.Goals as goal

pub overflow_cast-place : goal.overflow_cast-place
overflow_cast-place c = omega (arith, words_in-few c.args.env.geometry)

pub overflow_cast-place-then-place-nodes : goal.overflow_cast-place-then-place-nodes
overflow_cast-place-then-place-nodes c = omega (arith, words_in-few c.args.env.geometry)

pub returns-then-place-page_map : goal.returns-then-place-page_map
returns-then-place-page_map c =
    let parts = parts_in_order c.args.env.geometry in
    c.map_bits.ensures ∙ opening_word-at c.args.env c.args.place
    (NodeMap (c.args.place - c.node_map-node_map.result)) (omega arith) (omega arith)

pub returns-then-place-nodes : goal.returns-then-place-nodes
returns-then-place-nodes c =
    let parts = parts_in_order c.args.env.geometry in
    c.page_bits.ensures ∙ opening_word-at c.args.env c.args.place
    (PageMap (c.args.place - c.page_map-page_map.result)) (omega arith) (omega arith)

pub returns-else-place-nodes : goal.returns-else-place-nodes
returns-else-place-nodes c =
    let parts = parts_in_order c.args.env.geometry in
    opening_word-zero c.args.env c.args.place c.requires record {
      serial = omega arith;
      shape = omega arith;
      seed = omega arith;
      state = omega arith;
      maps = λ past within. omega arith;
    }
