use Rattle.std.proofs.lemmas.Result.{IfOk-weaker}
use Rattle.rht_words.specs.declared.config.Hash.TheVariants as hashes
use Rattle.rht_lease.specs.Leasing.{IsLeasing}
use Rattle.rht_forms.proofs.LeaseTexts.{IsLeasing-hash}
use Rattle.rht_forms.proofs.program.lease_hashed.Goals as goal

pub returns-in-Mix : goal.returns-in-Mix
returns-in-Mix g c =
    let script = c.args.script.now in
    IfOk-weaker c.run_leases.result _
    (λ outcome. IsLeasing script.config script.auto script.commands.items outcome.replies.items outcome.closed)
    (λ outcome is. IsLeasing-hash hashes.Mix script outcome c.in-Mix.is is) c.run_leases.ensures

pub returns-in-Low : goal.returns-in-Low
returns-in-Low g c =
    let script = c.args.script.now in
    IfOk-weaker c.run_leases-in-Low.result _
    (λ outcome. IsLeasing script.config script.auto script.commands.items outcome.replies.items outcome.closed)
    (λ outcome is. IsLeasing-hash hashes.Low script outcome c.in-Low.is is) c.run_leases-in-Low.ensures
