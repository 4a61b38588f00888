use Rattle.std.proofs.lemmas.Result.{err_from_is_err_and}
use Rattle.rht_check.specs.Reading.{claim_reading_of}
use Rattle.rht_check.specs.Text.{verdict_text}
use Rattle.rht_forms.specs.declared.form.Form.TheVariants.{Check}
use Rattle.rht_forms.proofs.ToldInput.{IsFaultOf-claim}
use Rattle.rht_forms.proofs.VerdictTexts.{Prints-judged}
use Rattle.rht_forms.proofs.ServedScripts.{FailsBy-unread, Serves-put}
use Rattle.rht_forms.proofs.program.serve_check.Goals as goal

pub returns-in_err-claim : goal.returns-in_err-claim
returns-in_err-claim g c =
    let p = err_from_is_err_and c.from_residual.result c.from_residual.ensures.1 in
    rw (p.1, p.2)
    (FailsBy-unread g.S.Source.left g.S.Source.faults g.O.Sink.held g.O.Sink.faults Check c.args.source.now
    c.read_claimed.new.source claim_reading_of (IsFaultOf-claim (g.S.Source.left c.args.source.now) (g.S.Source.left c.read_claimed.new.source))
    tt c.args.out.now c.in_err-claim.field-0.0 c.in_err-claim.ensures.unread)

pub returns : goal.returns
returns g c =
    let left = g.S.Source.left in
    let verdict = c.in_ok-verdict.verdict in
    rw c.served_by.ensures
    (Serves-put left g.S.Source.faults g.O.Sink.held g.O.Sink.faults Check c.args.source.now
    c.read_claimed.new.source c.args.out.now c.write_verdict.new.out (verdict_text verdict) c.write_verdict.result
    (Prints-judged (left c.args.source.now) (left c.read_claimed.new.source) c.in_ok-claim.claim verdict c.in_ok-claim.ensures.read
    c.in_ok-verdict.ensures) c.write_verdict.ensures)
