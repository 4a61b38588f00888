use Rattle.std.proofs.Common.{List, sym, subst}
use Rattle.std.proofs.lemmas.Result.{err_from_is_err_and}
use Rattle.rht_script.specs.Reading.{said_by}
use Rattle.rht_script.specs.Text.{run_text}
use Rattle.rht_model.specs.Endings.{Ending}
use Rattle.rht_registry.proofs.SoundCommands.{sound-commands}
use Rattle.rht_script.specs.Grammar.{reading_of}
use Rattle.rht_forms.specs.declared.form.Form.TheVariants.{Run}
use Rattle.rht_forms.specs.Forms.{Prints}
use Rattle.rht_forms.proofs.RunTexts.{closed-keys, Prints-run}
use Rattle.rht_forms.proofs.ToldInput.{IsFaultOf-script}
use Rattle.rht_forms.proofs.ServedScripts.{FailsBy-unread, Serves-put}
use Rattle.rht_forms.proofs.program.serve_run.Goals as goal

pub returns-in_err-script : goal.returns-in_err-script
returns-in_err-script g c =
    let p = err_from_is_err_and c.from_residual.result c.from_residual.ensures.1 in
    rw (p.1, p.2)
    (FailsBy-unread g.S.Source.left g.S.Source.faults g.O.Sink.held g.O.Sink.faults Run c.args.source.now
    c.read_script.new.source reading_of (IsFaultOf-script Run tt (g.S.Source.left c.args.source.now) (g.S.Source.left c.read_script.new.source))
    tt c.args.out.now c.in_err-script.field-0.0 c.in_err-script.ensures.unread)

pub write_run-requires : goal.write_run-requires
write_run-requires g c =
    let script = c.in_ok-script.script in
    closed-keys script.config script.auto script.commands.items c.in_ok-replies.replies.items c.in_ok-replies.closed
    c.in_ok-replies.ensures

pub returns : goal.returns
returns g c =
    let script = c.in_ok-script.script in
    let replies = c.in_ok-replies.replies in
    let closed = c.in_ok-replies.closed in
    let pairs = closed.bindings.pairs in
    let text = run_text c.deref.result.now pairs closed.size in
    let left = g.S.Source.left in
    let printed : Prints Run (left c.args.source.now) (left c.read_script.new.source) text =
    subst (λ (workers : List (List Ending)). Prints Run (left c.args.source.now) (left c.read_script.new.source)
    (run_text workers pairs closed.size)) (sym c.deref.ensures.value)
    (Prints-run (left c.args.source.now) (left c.read_script.new.source) (said_by script) replies.items closed
    c.in_ok-script.ensures.read (sound-commands script.form script.config script.commands.items c.in_ok-script.ensures.sound.commands)
    c.in_ok-replies.ensures) in
    rw c.served_by.ensures
    (Serves-put left g.S.Source.faults g.O.Sink.held g.O.Sink.faults Run c.args.source.now
    c.read_script.new.source c.args.out.now c.write_run.new.out text c.write_run.result printed c.write_run.ensures)
