-- The code rounds also where there are no ports, and the least size hides that.
use Rattle.std.proofs.Common.{max, ap, ◌∙◌, sym, subst}
use Rattle.rht_words.specs.Sizes.{IsSizeUpTo}
use Rattle.rht_policy.proofs.TableSizes.{rounded-shrunk_size, IsSizeUpTo-shrunk_size}
use Rattle.rht_policy.proofs.sizes.shrunk.Goals as goal

pub returns-clause-formula : goal.returns-clause-formula
returns-clause-formula c =
    c.max.ensures ∙ ap (λ r. max r c.args.min) c.rounded_up.ensures
    ∙ rounded-shrunk_size c.args.count c.args.min c.requires.min

pub returns-clause-size : goal.returns-clause-size
returns-clause-size c =
    subst (IsSizeUpTo 131072) (sym (returns-clause-formula c))
    (IsSizeUpTo-shrunk_size c.args.count c.args.min c.requires.count c.requires.min)
