use Rattle.std.proofs.Common.{◌≤◌, ℕ, List, Option, length, refl, inl, sym, subst, arith}
use Rattle.std.proofs.lemmas.Result.{err_from_is_err_and}
use Rattle.rht_script.specs.Reading.{said_by}
use Rattle.rht_script.specs.SummaryText.{summary_line, AreCountable}
use Rattle.rht_model.specs.Endings.{Ending}
use Rattle.rht_registry.proofs.SoundCommands.{sound-commands}
use Rattle.rht_forms.specs.declared.form.Form.TheVariants.{Gen}
use Rattle.rht_forms.specs.Forms.{Prints}
use Rattle.rht_forms.proofs.RunTexts.{closed-keys, countable, Prints-gen}
use Rattle.rht_forms.proofs.ServedScripts.{Serves-put}
use Rattle.rht_forms.proofs.program.serve_gen.Goals as goal

pub returns-in_err-script : goal.returns-in_err-script
returns-in_err-script g c =
    let p = err_from_is_err_and c.from_residual.result c.from_residual.ensures.1 in
    rw (p.1, p.2) (λ left. inl refl)

pub returns-in_err-replies : goal.returns-in_err-replies
returns-in_err-replies g c =
    let p = err_from_is_err_and c.from_residual-in_err-replies.result c.from_residual-in_err-replies.ensures.1 in
    rw (p.1, p.2) (λ left. inl refl)

pub write_summary-requires-clause-few : goal.write_summary-requires-clause-few
write_summary-requires-clause-few g c =
    let script = c.in_ok-script.script in
    let sound = c.in_ok-script.ensures.sound in
    let callers : script.config.callers ≤ 65536 = omega (arith, sound.settled.geometry.callers_within.1) in
    let few : length script.commands.items ≤ 4294967296 = omega (arith, sound.few) in
    subst AreCountable (sym c.deref.ensures.value)
    (countable script.config script.auto script.commands.items c.in_ok-replies.replies.items c.in_ok-replies.closed callers few
    c.in_ok-replies.ensures)

pub write_summary-requires-clause-keys : goal.write_summary-requires-clause-keys
write_summary-requires-clause-keys g c =
    let script = c.in_ok-script.script in
    closed-keys script.config script.auto script.commands.items c.in_ok-replies.replies.items c.in_ok-replies.closed
    c.in_ok-replies.ensures

pub returns : goal.returns
returns g c =
    let number = c.args.number in
    let script = c.in_ok-script.script in
    let replies = c.in_ok-replies.replies in
    let closed = c.in_ok-replies.closed in
    let pairs = closed.bindings.pairs in
    let text = summary_line number c.deref.result.now pairs in
    let printed : (left : Option (List ℕ)) → Prints (Gen number) left left text =
    subst (λ (workers : List (List Ending)). (left : Option (List ℕ)) → Prints (Gen number) left left (summary_line number workers pairs))
    (sym c.deref.ensures.value)
    (λ left. Prints-gen number left (said_by script) replies.items closed c.in_ok-script.ensures.script
    (sound-commands script.form script.config script.commands.items c.in_ok-script.ensures.sound.commands) c.in_ok-replies.ensures) in
    rw c.served_by.ensures
    (λ left. Serves-put (λ input. input) (λ input. 0) g.O.Sink.held g.O.Sink.faults (Gen number) left left
    c.args.out.now c.write_summary.new.out text c.write_summary.result (printed left) c.write_summary.ensures)
