use Rattle.std.proofs.lemmas.Result.{err_from_is_err_and}
use Rattle.rht_script.specs.Grammar.{reading_of}
use Rattle.rht_forms.specs.declared.form.Form.TheVariants.{Replay}
use Rattle.rht_forms.proofs.ReplayTexts.{Prints-replayed}
use Rattle.rht_forms.proofs.ToldInput.{IsFaultOf-script}
use Rattle.rht_forms.proofs.ServedScripts.{FailsBy-unread, Serves-replayed}
use Rattle.rht_forms.proofs.program.serve_replay.Goals as goal

pub returns-in_err-script : goal.returns-in_err-script
returns-in_err-script g c =
    let p = err_from_is_err_and c.from_residual.result c.from_residual.ensures.1 in
    rw (p.1, p.2)
    (FailsBy-unread g.S.Source.left g.S.Source.faults g.O.Sink.held g.O.Sink.faults Replay c.args.source.now
    c.read_script.new.source reading_of (IsFaultOf-script Replay tt (g.S.Source.left c.args.source.now) (g.S.Source.left c.read_script.new.source))
    tt c.args.out.now c.in_err-script.field-0.0 c.in_err-script.ensures.unread)

pub returns : goal.returns
returns g c =
    let script = c.in_ok-script.script in
    let replayed = c.replay_hashed.result in
    let left = g.S.Source.left in
    let text = Prints-replayed g.O.Sink.held g.O.Sink.faults c.args.out.now c.replay_hashed.new.out replayed script
    (left c.args.source.now) (left c.read_script.new.source) c.in_ok-script.ensures.read c.replay_hashed.ensures in
    rw c.replayed_by.ensures
    (Serves-replayed left g.S.Source.faults g.O.Sink.held g.O.Sink.faults Replay c.args.source.now
    c.read_script.new.source c.args.out.now c.replay_hashed.new.out text.0 replayed text.1 text.2)
