use Rattle.std.proofs.Common.{ℕ, ◌+◌, ◌<◌, List, [], ◌∷◌, ◌++◌, length, length-append, ap, ◌∙◌, arith}
use Rattle.std.specs.Slots.{slots_items}
use Rattle.rht_run.proofs.LaidWords.{physical_below}
use Rattle.rht_run.proofs.ClosedTables.{read_more}
use Rattle.rht_run.proofs.closing.read_words.Goals as goal

pub word-requires : goal.word-requires
word-requires c = (
  omega (
    arith,
    c.physical.ensures,
    c.requires.closed.0,
    physical_below c.loop-place.place c.args.count c.loop-place-test.true,
  ),
  c.requires.closed.1,
)

pub loop-place-preserved : goal.loop-place-preserved
loop-place-preserved c =
    let before = c.loop-place.invariant in
    record {
      limit = c.push.ensures.limit ∙ before.limit;
      count = ap (λ (xs : List ℕ). length xs) c.push.ensures.items
          ∙ length-append c.loop-place.into.items (c.word.result ∷ []) ∙ ap (λ (n : ℕ). n + 1) before.count;
      words = λ words lie all.
          let below : c.loop-place.place < length words = omega (arith, all, c.loop-place-test.true) in
          c.push.ensures.items ∙ ap (λ (xs : List ℕ). xs ++ c.word.result ∷ []) (before.words words lie all)
          ∙ read_more (slots_items c.args.closed.now.words) words c.loop-place.place c.physical.result c.word.result lie
          below c.physical.ensures c.word.ensures;
    }
