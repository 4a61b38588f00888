use Rattle.std.proofs.Common.{◌≡◌, ◌+◌, ◌<◌, ◌++◌, length, map, take, drop, get_or, set, sym, ap, ◌∙◌, arith}
use Rattle.std.proofs.lemmas.List.{length-map, get_or-map}
use Rattle.rht_session.specs.declared.plain.CPair.{CPair}
use Rattle.rht_session.specs.Plain.{c_pair}
use Rattle.rht_session.proofs.ShownLists.{one_more}
use Rattle.rht_session.proofs.lists.write_pairs.Goals as goal

pub loop-place-preserved : goal.loop-place-preserved
loop-place-preserved c =
    let pairs = c.args.pairs.now in
    let all = map c_pair pairs in
    let room = c.args.into.now in
    let from = c.min-from.result in
    let place = c.loop-place.place in
    let below = c.loop-place-test.true in
    let from_is = c.min-from.ensures in
    let count_is = c.min-count.ensures in
    let within : from + place < length pairs = omega (arith, below, from_is, count_is) in
    let many : length all ≡ length pairs = length-map pairs c_pair in
    let within_all : from + place < length all = omega (arith, within, many) in
    let roomy : place < length room = omega (arith, below, count_is) in
    let item : CPair = c.of.result in
    let same : item ≡ get_or all (from + place) item =
    c.of.ensures ∙ ap c_pair c.index-pairs-from.is
    ∙ sym (get_or-map c_pair pairs (from + place) c.index-pairs-from.result item within) in
    ap (λ l. set l place item) c.loop-place.invariant
    ∙ ap (λ (x : CPair). set (take place (drop from all) ++ drop place room) place x) same
    ∙ one_more all room from place item within_all roomy
