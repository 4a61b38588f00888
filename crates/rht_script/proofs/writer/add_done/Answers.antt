use Rattle.std.proofs.Common.{◌∙◌, [], false, ap, decimal}
use Rattle.rht_script.specs.Text.{reply_line}
use Rattle.rht_script.proofs.AddedPieces.{Adds-then, Adds-same, Adds-longer, Adds-passed_on}
use Rattle.rht_script.proofs.writer.add_done.Goals as goal

pub returns-in_err-add_number-clause-text : goal.returns-in_err-add_number-clause-text
returns-in_err-add_number-clause-text g c =
    let number = Adds-same c.in_err-add_number.ensures.text (ap decimal c.into.ensures) in
    Adds-passed_on (Adds-longer _ (Adds-longer _ number)) c.from_residual.ensures.0

pub returns-in_err-add-clause-text : goal.returns-in_err-add-clause-text
returns-in_err-add-clause-text g c =
    let number = Adds-same c.in_ok-add_number.ensures.text (ap decimal c.into.ensures) in
    Adds-passed_on (Adds-longer _ (Adds-then number c.in_err-add.ensures.text)) c.from_residual-in_err-add.ensures.0

pub returns-clause-text : goal.returns-clause-text
returns-clause-text g c =
    let done = c.args.done.now in
    let number = Adds-same c.in_ok-add_number.ensures.text (ap decimal c.into.ensures) in
    let line = Adds-same c.add_reply.ensures.text
    (ap (λ worker. reply_line worker done.reply c.as_slice.result.now [] false) c.into-2.ensures
    ∙ ap (λ owners. reply_line done.worker done.reply owners [] false) c.as_slice.ensures) in
    Adds-then (Adds-then number c.in_ok-add.ensures.text) line
