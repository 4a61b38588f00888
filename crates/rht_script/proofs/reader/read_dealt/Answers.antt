use Rattle.std.proofs.Common.{◌≡◌, Ok, sym, ◌∙◌, subst}
use Rattle.std.proofs.lemmas.Result.{IfOk-weaker, IfErr-weaker}
use Rattle.rht_script.specs.declared.script.Below.TheVariants.{Any}
use Rattle.rht_script.specs.Dealt.{dealing_of, reading_as, SaysDealt}
use Rattle.rht_script.specs.Reading.{said_by, IsReasonFor}
use Rattle.rht_script.proofs.DealtScripts.{reading_as-any, IsDealtScript-read}
use Rattle.rht_script.proofs.reader.read_dealt.Goals as goal

pub returns-clause-script : goal.returns-clause-script
returns-clause-script c =
    IfOk-weaker c.read_as.result (λ script. reading_as Any c.args.bytes.now ≡ Ok (said_by script))
    (SaysDealt c.args.bytes.now) (λ script says. sym (reading_as-any c.args.bytes.now) ∙ says) c.read_as.ensures.script

pub returns-clause-dealt : goal.returns-clause-dealt
returns-clause-dealt c =
    IfOk-weaker c.read_as.result (SaysDealt c.args.bytes.now) _
    (λ script is. IsDealtScript-read c.args.bytes.now script is)
    (returns-clause-script c)

pub returns-clause-reason : goal.returns-clause-reason
returns-clause-reason c =
    IfErr-weaker c.read_as.result (IsReasonFor (reading_as Any c.args.bytes.now)) (IsReasonFor (dealing_of c.args.bytes.now))
    (λ error reason. subst (λ reading. IsReasonFor reading error) (reading_as-any c.args.bytes.now) reason)
    c.read_as.ensures.reason
