use Rattle.std.proofs.Common.{◌+◌, ◌<◌, length, get_or, set, ap, ◌∙◌, arith}
use Rattle.rht_session.proofs.ShownLists.{one_more}
use Rattle.rht_session.proofs.lists.write_owners.Goals as goal

pub loop-place-preserved : goal.loop-place-preserved
loop-place-preserved c =
    let owners = c.args.owners.now in
    let room = c.args.into.now in
    let from = c.min-from.result in
    let place = c.loop-place.place in
    let below = c.loop-place-test.true in
    let from_is = c.min-from.ensures in
    let count_is = c.min-count.ensures in
    let within : from + place < length owners = omega (arith, below, from_is, count_is) in
    let roomy : place < length room = omega (arith, below, count_is) in
    ap (λ l. set l place (get_or owners (from + place) 0)) c.loop-place.invariant ∙ one_more owners room from place 0 within roomy
