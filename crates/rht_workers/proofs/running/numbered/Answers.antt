use Rattle.std.proofs.Common.{◌≡◌, vec_items}
use Rattle.std.specs.List.{enumerate_from}
use Rattle.std.proofs.lemmas.Iterator.{items_from_collect}
use Rattle.std.proofs.lemmas.Iterator.Adapters.{YieldsList-from_vec}
use Rattle.std.proofs.lemmas.Iterator.Consumers.{YieldsList-from_enumerate}
use Rattle.std.proofs.lemmas.Result.{IfOk-at_ok}
use Rattle.rht_workers.proofs.running.numbered.Goals as goal

pub returns : goal.returns
returns g c =
    let passes = c.args.passes.items in
    IfOk-at_ok (λ parts. vec_items parts ≡ enumerate_from 0 passes) c.in_ok-collect.was
    (items_from_collect c.collect.result c.collect.ensures.ran
    (YieldsList-from_enumerate (YieldsList-from_vec passes (cc) (cc)) (cc)))
