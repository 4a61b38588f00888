-- The size of the first table is one.
use Rattle.std.proofs.Common.{sym, subst}
use Rattle.rht_words.specs.Sizes.{IsSizeUpTo}
use Rattle.rht_words.proofs.StartingSizes.{IsSizeUpTo-starting_size}
use Rattle.rht_policy.proofs.sizes.starting.Goals as goal

pub returns-clause-size : goal.returns-clause-size
returns-clause-size c =
    subst (IsSizeUpTo 131072) (sym c.starting_size.ensures)
    (IsSizeUpTo-starting_size c.args.hint c.args.min c.args.max c.requires.hint c.requires.min c.requires.max)
