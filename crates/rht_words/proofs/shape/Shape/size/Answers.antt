use Rattle.std.proofs.Common.{rules, sym, subst}
use Rattle.rht_words.specs.Sizes.{IsSizeUpTo}
use Rattle.rht_words.proofs.ShapeSizes.{IsSizeUpTo-size_of}
use Rattle.rht_words.proofs.shape.Shape.size.Goals as goal

pub returns-clause-size : goal.returns-clause-size
returns-clause-size c = search rules

pub returns-clause-within : goal.returns-clause-within
returns-clause-within c = subst (IsSizeUpTo 262144) (sym (returns-clause-size c))
    (IsSizeUpTo-size_of c.args.self)
