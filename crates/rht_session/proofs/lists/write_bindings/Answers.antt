use Rattle.std.proofs.Common.{List, map, take, sym, ap, ◌∙◌, subst}
use Rattle.std.proofs.lemmas.List.{map-append}
use Rattle.rht_session.specs.declared.plain.CPair.{CPair}
use Rattle.rht_session.specs.Plain.{c_pair}
use Rattle.rht_session.specs.Lists.{owned, all_owned, IsWritten}
use Rattle.rht_session.proofs.WrittenBindings.{all_owned_more}
use Rattle.rht_session.proofs.lists.write_bindings.Goals as goal

pub loop-number-preserved : goal.loop-number-preserved
loop-number-preserved c =
    let pairs = c.args.bindings.now.pairs in
    let number = c.loop-number.number in
    let port = c.port.result in
    let owners = c.owners.result.now in
    let so_far = all_owned (take number pairs) in
    let one = c.write_port-place.ensures c.args.into.now (map c_pair so_far) c.loop-number.invariant in
    subst (λ (l : List CPair). IsWritten c.args.into.now l c.write_port-place.result c.write_port-place.new.into)
    (sym (map-append c_pair so_far (owned port owners))
    ∙ ap (map c_pair) (sym (all_owned_more pairs number port owners c.port.ensures c.owners.ensures))) one
