use Rattle.std.proofs.lemmas.Result.{IfOk-weaker}
use Rattle.rht_words.specs.declared.config.Hash.TheVariants as hashes
use Rattle.rht_run.specs.ServedRuns.{HasRun}
use Rattle.rht_forms.proofs.RunTexts.{HasRun-hash}
use Rattle.rht_forms.proofs.program.run_hashed.Goals as goal

pub returns-in-Mix : goal.returns-in-Mix
returns-in-Mix g c =
    let script = c.args.script.now in
    IfOk-weaker c.run_by.result _
    (λ left. HasRun script.config script.auto script.commands.items left.0.items left.1)
    (λ left served. HasRun-hash hashes.Mix script.config script.auto script.commands.items left.0.items left.1 c.in-Mix.is served)
    c.run_by.ensures

pub returns-in-Low : goal.returns-in-Low
returns-in-Low g c =
    let script = c.args.script.now in
    IfOk-weaker c.run_by-in-Low.result _
    (λ left. HasRun script.config script.auto script.commands.items left.0.items left.1)
    (λ left served. HasRun-hash hashes.Low script.config script.auto script.commands.items left.0.items left.1 c.in-Low.is served)
    c.run_by-in-Low.ensures
