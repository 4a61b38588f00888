use Rattle.std.proofs.Common.{◌≡◌, true, false, Some, nat_eq, sym}
use Rattle.std.proofs.lemmas.Bool.{not-true, not-false}
use Rattle.std.specs.Option.{option_eq}
use Rattle.rht_model.specs.Heads.{last_port}
use Rattle.rht_model.proofs.FlatPairs.{begun-is}
use Rattle.rht_model.proofs.bindings.begin.Goals as goal

pub returns-then-ne-clause-heads : goal.returns-then-ne-clause-heads
returns-then-ne-clause-heads c =
    let heads = c.args.heads.now.items in
    let differs : option_eq nat_eq c.last_port.result (Some c.args.port) ≡ false = not-true _
    (sym c.if-ne.ensures) in
    let last : c.last_port.result ≡ last_port heads = cc in
    rw (begun-is heads c.args.port c.args.start, ← last, differs) c.push_within.ensures.items

pub returns-else-ne-clause-heads : goal.returns-else-ne-clause-heads
returns-else-ne-clause-heads c =
    let heads = c.args.heads.now.items in
    let same : option_eq nat_eq c.last_port.result (Some c.args.port) ≡ true = not-false _
    (sym c.if-ne.ensures) in
    let last : c.last_port.result ≡ last_port heads = cc in
    rw (begun-is heads c.args.port c.args.start, ← last, same)
