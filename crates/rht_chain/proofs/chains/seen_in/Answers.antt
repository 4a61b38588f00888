use Rattle.std.proofs.Common.{slice_index, sym, ◌∙◌}
use Rattle.rht_chain.proofs.ChainsWorkedOut.{at_first, at_end}
use Rattle.rht_chain.proofs.chains.seen_in.Goals as goal

pub returns-in-Some : goal.returns-in-Some
returns-in-Some c =
    let seen =
    at_first (λ node. slice_index c.args.keys.now node) c.args.key c.args.nodes.now c.args.stop
    c.in-Some.first (sym c.first_with.ensures ∙ c.in-Some.is) in
    cc

pub returns-in-None : goal.returns-in-None
returns-in-None c =
    let seen =
    at_end (λ node. slice_index c.args.keys.now node) c.args.key c.args.nodes.now c.args.stop
    (sym c.first_with.ensures ∙ c.in-None.is) in
    cc
