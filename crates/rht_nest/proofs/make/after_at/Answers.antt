use Rattle.std.proofs.Common.{◌^◌, ◌<◌, Bool, sym, subst, arith}
use Rattle.rht_arena.specs.TakeRun.{take_run_after}
use Rattle.rht_nest.specs.Make.{made_pages, run_taken, IsMakeAtIn, IsTakingIn, IsTakingTopIn}
use Rattle.rht_nest.specs.declared.make.MakeAt.{MakeAt}
use Rattle.rht_nest.specs.declared.make.MakeAt.TheVariants as at
use Rattle.rht_nest.proofs.MakesStay.{make_stays_at}
use Rattle.rht_nest.proofs.make.after_at.Goals as goal

pub returns-in-Taking-clause-at : goal.returns-in-Taking-clause-at
returns-in-Taking-clause-at c =
    let g = c.args.geometry in
    let exponent = c.args.exponent in
    let allowed = c.args.allowed in
    let slot = c.in-Taking.slot in
    let take = c.in-Taking.take in
    let next = take_run_after take c.args.old in
    let told : c.args.old < 2 ^ 64 = omega arith in
    let here : IsTakingIn g (made_pages exponent) slot take =
    subst (λ (state : MakeAt). IsMakeAtIn g exponent allowed state) c.in-Taking.is c.requires in
    let stays = make_stays_at g exponent allowed (at.Taking slot take) c.args.old told here in
    subst (λ (state : MakeAt). IsMakeAtIn g exponent allowed state) (sym c.run_taken.ensures)
    (subst (λ (nests : Bool). IsMakeAtIn g exponent allowed (run_taken g nests slot next.0 next.1))
    (sym c.may_nest-nests.ensures) stays.at_in)

pub returns-in-TakingTop-clause-at : goal.returns-in-TakingTop-clause-at
returns-in-TakingTop-clause-at c =
    let g = c.args.geometry in
    let exponent = c.args.exponent in
    let allowed = c.args.allowed in
    let slot = c.in-TakingTop.slot in
    let take = c.in-TakingTop.take in
    let told : c.args.old < 2 ^ 64 = omega arith in
    let here : IsTakingTopIn g exponent allowed slot take =
    subst (λ (state : MakeAt). IsMakeAtIn g exponent allowed state) c.in-TakingTop.is c.requires in
    let stays = make_stays_at g exponent allowed (at.TakingTop slot take) c.args.old told here in
    subst (λ (state : MakeAt). IsMakeAtIn g exponent allowed state) (sym c.top_taken.ensures) stays.at_in
