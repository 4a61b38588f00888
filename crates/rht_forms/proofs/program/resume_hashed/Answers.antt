use Rattle.std.proofs.lemmas.Result.{IfOk-weaker}
use Rattle.rht_words.specs.declared.config.Hash.TheVariants as hashes
use Rattle.rht_resume.specs.Resuming.{IsResuming}
use Rattle.rht_forms.proofs.ResumeTexts.{IsResuming-hash}
use Rattle.rht_forms.proofs.program.resume_hashed.Goals as goal

pub returns-in-Mix : goal.returns-in-Mix
returns-in-Mix g c =
    let script = c.args.script.now in
    IfOk-weaker c.run_resumed.result _
    (λ outcome. IsResuming script.config script.auto script.commands.items outcome.replies.items outcome.closed)
    (λ outcome is. IsResuming-hash hashes.Mix script outcome c.in-Mix.is is) c.run_resumed.ensures

pub returns-in-Low : goal.returns-in-Low
returns-in-Low g c =
    let script = c.args.script.now in
    IfOk-weaker c.run_resumed-in-Low.result _
    (λ outcome. IsResuming script.config script.auto script.commands.items outcome.replies.items outcome.closed)
    (λ outcome is. IsResuming-hash hashes.Low script outcome c.in-Low.is is) c.run_resumed-in-Low.ensures
