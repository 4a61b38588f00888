use Rattle.std.proofs.lemmas.Result.{IfOk-weaker}
use Rattle.rht_words.specs.declared.config.Hash.TheVariants as hashes
use Rattle.rht_deal.specs.Dealing.{IsDealing}
use Rattle.rht_forms.proofs.DealTexts.{IsDealing-hash}
use Rattle.rht_forms.proofs.program.deal_hashed.Goals as goal

pub returns-in-Mix : goal.returns-in-Mix
returns-in-Mix g c =
    let script = c.args.script.now in
    IfOk-weaker c.run_dealt.result _
    (λ dealt. IsDealing script.config script.auto script.commands.items dealt.done.items dealt.closed)
    (λ dealt is. IsDealing-hash hashes.Mix script dealt c.in-Mix.is is) c.run_dealt.ensures

pub returns-in-Low : goal.returns-in-Low
returns-in-Low g c =
    let script = c.args.script.now in
    IfOk-weaker c.run_dealt-in-Low.result _
    (λ dealt. IsDealing script.config script.auto script.commands.items dealt.done.items dealt.closed)
    (λ dealt is. IsDealing-hash hashes.Low script dealt c.in-Low.is is) c.run_dealt-in-Low.ensures
