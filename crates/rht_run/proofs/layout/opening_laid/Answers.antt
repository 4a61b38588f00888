use Rattle.std.proofs.Common.{◌<◌, ℕ, ◌+◌, List, set, sym, subst, arith}
use Rattle.rht_words.specs.Places.{words_in}
use Rattle.rht_run.proofs.LaidWords.{IsLaidUpTo, physical_below, one_more_laid, all_laid}
use Rattle.rht_run.proofs.layout.opening_laid.Goals as goal

pub index_mut-requires : goal.index_mut-requires
index_mut-requires c =
    let below : c.loop-place.place < words_in c.args.env.geometry =
    omega (arith, c.loop-place-test.true, c.words-count.ensures.count) in
    omega (
      arith,
      c.physical.ensures,
      c.loop-place.invariant.count,
      c.loop-place.laid.ok.0,
      physical_below c.loop-place.place (words_in c.args.env.geometry) below,
    )

pub loop-place-preserved : goal.loop-place-preserved
loop-place-preserved c =
    let place = c.loop-place.place in
    let laid : List ℕ = c.loop-place.laid.items in
    let below : place < words_in c.args.env.geometry =
    omega (arith, c.loop-place-test.true, c.words-count.ensures.count) in
    subst (λ (at : ℕ). IsLaidUpTo c.args.env (place + 1) (set laid at c.opening_word.result)) (sym c.physical.ensures)
    (one_more_laid c.args.env place c.opening_word.result laid below c.opening_word.ensures c.loop-place.invariant)

pub returns-clause-laid : goal.returns-clause-laid
returns-clause-laid c =
    all_laid c.args.env c.loop-place.laid.items
    (subst (λ (n : ℕ). IsLaidUpTo c.args.env n c.loop-place.laid.items)
    (omega (arith, c.loop-place-test.false, c.words-count.ensures.count)) c.loop-place.invariant)

pub returns-clause-count : goal.returns-clause-count
returns-clause-count c = c.loop-place.invariant.count
