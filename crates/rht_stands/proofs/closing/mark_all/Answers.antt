use Rattle.std.proofs.Common.{ℕ, ◌+◌, ◌-◌, List, length, refl, sym, ◌∙◌, ap, slice_index}
use Rattle.std.specs.List.{flat_map}
use Rattle.rht_words.specs.declared.geometry.Geometry.{Geometry}
use Rattle.rht_words.specs.Links.{slot_of}
use Rattle.rht_words.specs.Places.{Slot, FutureWord, word_at}
use Rattle.rht_stands.specs.StandsFor.{tables_from, table_nodes}
use Rattle.rht_stands.specs.Closing.{marked}
use Rattle.rht_stands.proofs.MarkedNodes.{IsWay, way-more, way-none, marked-append, length-marked}
use Rattle.rht_stands.proofs.closing.mark_all.Goals as goal

-- from table to table
tables_way : (g : Geometry) (words : List ℕ) → IsWay (λ table. slot_of (word_at g words (Slot table FutureWord))) (tables_from g words)
tables_way g words = record { spent = λ next. refl; none = λ left. refl; some = λ left node. refl }

pub returns-in_default : goal.returns-in_default
returns-in_default c =
    let g = c.args.geometry in
    let words = c.args.words.now in
    let none = way-none (λ table. slot_of (word_at g words (Slot table FutureWord))) (tables_from g words) (tables_way g words)
    (8 - c.loop.counter) c.loop.next c.in_default.is in
    sym (ap (λ tables. marked c.loop.met (flat_map (table_nodes g words) tables)) none) ∙ c.loop.invariant.all

pub loop-preserved : goal.loop-preserved
loop-preserved c =
    let g = c.args.geometry in
    let words = c.args.words.now in
    let met = c.loop.met in
    let table = c.in-Some.table in
    let nodes = table_nodes g words in
    let following = c.slot_of-next.result in
    let rest = tables_from g words (8 - (c.loop.counter + 1)) following in
    let more = way-more (λ table. slot_of (word_at g words (Slot table FutureWord))) (tables_from g words)
    (tables_way g words) 8 c.loop.counter c.loop.next table following c.in-Some.is c.loop-test.true
    (c.slot_of-next.ensures.table ∙ ap (λ place. slot_of (slice_index words place)) c.future.ensures.place) in
    record {
      all = ap (λ marks. marked marks (flat_map nodes rest)) c.mark_table.ensures
          ∙ sym (marked-append met (nodes table) (flat_map nodes rest))
          ∙ sym (ap (λ tables. marked met (flat_map nodes tables)) more)
          ∙ c.loop.invariant.all;
      count = ap length c.mark_table.ensures ∙ length-marked met (nodes table) ∙ c.loop.invariant.count;
      within = c.slot_of-next.ensures.slot;
    }
