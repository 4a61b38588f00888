use Rattle.std.proofs.Common.{sym, ◌∙◌, ap}
use Rattle.std.specs.List.{find}
use Rattle.rht_words.specs.Ports.{word_of}
use Rattle.rht_stands.specs.StandsFor.{table_nodes, has_key}
use Rattle.rht_stands.proofs.FirstNodes.{tables-here, tables-past, tables-none}
use Rattle.rht_stands.proofs.bound.first_node.Goals as goal

pub returns-in_default-clause-first : goal.returns-in_default-clause-first
returns-in_default-clause-first c =
    tables-none _ c.args.words.now (word_of c.args.port) _ c.loop.next _ c.in_default.is
    c.loop.invariant.first

pub returns-then-is_some-clause-first : goal.returns-then-is_some-clause-first
returns-then-is_some-clause-first c =
    let nodes = table_nodes c.args.geometry c.args.words.now c.in-Some.table in
    let same_key = ap (λ key. find (has_key c.args.geometry c.args.words.now key) nodes) c.word_of.ensures.word in
    tables-here _ c.args.words.now (word_of c.args.port) 8 c.loop.counter c.loop.next c.in-Some.table _
    c.in-Some.is c.loop-test.true c.loop.invariant.first
    _ (c.first_in_table-found.ensures.first ∙ same_key) (sym c.is_some.ensures ∙ c.if-is_some.true)

pub loop-preserved : goal.loop-preserved
loop-preserved c =
    let nodes = table_nodes c.args.geometry c.args.words.now c.in-Some.table in
    let same_key = ap (λ key. find (has_key c.args.geometry c.args.words.now key) nodes) c.word_of.ensures.word in
    record {
      first = tables-past _ c.args.words.now (word_of c.args.port) 8 c.loop.counter c.loop.next
          c.in-Some.table _
          c.in-Some.is c.loop-test.true c.loop.invariant.first
          _ (c.first_in_table-found.ensures.first ∙ same_key) (sym c.is_some.ensures ∙ c.if-is_some.false)
          c.future.result c.future.ensures.place c.slot_of-next.result c.slot_of-next.ensures.table;
      within = c.slot_of-next.ensures.slot;
    }
