use Rattle.std.proofs.Common.{sym, subst}
use Rattle.rht_nest.specs.Grow.{IsGrowAtIn}
use Rattle.rht_nest.specs.declared.grow.GrowAt.TheVariants as at
use Rattle.rht_nest.proofs.Grows.{grow_stays_at}
use Rattle.rht_nest.proofs.grow.after_at.Goals as goal

pub returns-in-Taking-clause-at : goal.returns-in-Taking-clause-at
returns-in-Taking-clause-at c =
    let g = c.args.geometry in
    let here : IsGrowAtIn g (at.Taking c.in-Taking.take) = subst (IsGrowAtIn g) c.in-Taking.is c.requires in
    let stays = grow_stays_at g (at.Taking c.in-Taking.take) c.args.old c.ranges.old.fits here in
    subst (λ next. IsGrowAtIn g next.0) (sym c.page_taken.ensures) stays.at_in
