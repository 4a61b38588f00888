use Rattle.std.proofs.lemmas.Result.{err_from_is_err_and}
use Rattle.rht_script.specs.Dealt.{dealing_of}
use Rattle.rht_script.specs.Reading.{said_by}
use Rattle.rht_script.specs.Text.{dones_text}
use Rattle.rht_forms.specs.declared.form.Form.TheVariants.{Deal}
use Rattle.rht_forms.proofs.ToldInput.{IsFaultOf-deal}
use Rattle.rht_forms.proofs.DealTexts.{Prints-dealt}
use Rattle.rht_forms.proofs.ServedScripts.{FailsBy-unread, Serves-put}
use Rattle.rht_forms.proofs.program.serve_deal.Goals as goal

pub returns-in_err-script : goal.returns-in_err-script
returns-in_err-script g c =
    let p = err_from_is_err_and c.from_residual.result c.from_residual.ensures.1 in
    rw (p.1, p.2)
    (FailsBy-unread g.S.Source.left g.S.Source.faults g.O.Sink.held g.O.Sink.faults Deal c.args.source.now
    c.read_deal.new.source dealing_of (IsFaultOf-deal (g.S.Source.left c.args.source.now) (g.S.Source.left c.read_deal.new.source))
    tt c.args.out.now c.in_err-script.field-0.0 c.in_err-script.ensures.unread)

pub returns : goal.returns
returns g c =
    let left = g.S.Source.left in
    let script = c.in_ok-script.script in
    let dealt = c.in_ok-dealt.dealt in
    rw c.served_by.ensures
    (Serves-put left g.S.Source.faults g.O.Sink.held g.O.Sink.faults Deal c.args.source.now
    c.read_deal.new.source c.args.out.now c.write_dealt.new.out (dones_text dealt.done.items dealt.closed) c.write_dealt.result
    (Prints-dealt (left c.args.source.now) (left c.read_deal.new.source) (said_by script) dealt.done.items dealt.closed
    c.in_ok-script.ensures.read c.in_ok-dealt.ensures) c.write_dealt.ensures)
