use Rattle.std.proofs.Common.{◌≡◌, Ok, sym, ◌∙◌, subst}
use Rattle.std.proofs.lemmas.Result.{IfOk-weaker, IfErr-weaker}
use Rattle.rht_script.specs.declared.script.Below.TheVariants.{Workers}
use Rattle.rht_script.specs.Dealt.{reading_as}
use Rattle.rht_script.specs.Reading.{said_by, IsScript, IsReason, IsReasonFor}
use Rattle.rht_script.proofs.DealtScripts.{reading_as-workers}
use Rattle.rht_script.proofs.SayableScripts.{says_sayable, IsSoundScript-sayable}
use Rattle.rht_script.proofs.reader.read.Goals as goal

pub returns-clause-script : goal.returns-clause-script
returns-clause-script c =
    IfOk-weaker c.read_as.result (λ script. reading_as Workers c.args.bytes.now ≡ Ok (said_by script))
    (IsScript c.args.bytes.now) (λ script says. sym (reading_as-workers c.args.bytes.now) ∙ says) c.read_as.ensures.script

pub returns-clause-sound : goal.returns-clause-sound
returns-clause-sound c =
    IfOk-weaker c.read_as.result (IsScript c.args.bytes.now) _
    (λ script is. IsSoundScript-sayable script (says_sayable c.args.bytes.now (said_by script) is))
    (returns-clause-script c)

pub returns-clause-reason : goal.returns-clause-reason
returns-clause-reason c =
    IfErr-weaker c.read_as.result (IsReasonFor (reading_as Workers c.args.bytes.now)) (IsReason c.args.bytes.now)
    (λ error reason. subst (λ reading. IsReasonFor reading error) (reading_as-workers c.args.bytes.now) reason)
    c.read_as.ensures.reason
