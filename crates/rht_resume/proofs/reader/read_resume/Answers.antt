use Rattle.std.proofs.lemmas.Result.{err_from_is_err_and}
use Rattle.rht_script.proofs.CommandTexts.{commands-no_table, commands-reason, commands-read}
use Rattle.rht_resume.specs.ResumeLines.{resume_line_of}
use Rattle.rht_resume.specs.Reading.{resume_reading_of}
use Rattle.rht_resume.proofs.SoundScripts.{IsSoundResume-read}
use Rattle.rht_resume.proofs.reader.read_resume.Goals as goal

pub returns-in_err-table-clause-reason : goal.returns-in_err-table-clause-reason
unfolding resume_reading_of
returns-in_err-table-clause-reason c =
    let p = err_from_is_err_and c.from_residual.result c.from_residual.ensures.1 in
    rw (p.1, p.2) (commands-no_table resume_line_of c.args.bytes.now c.in_err-table.field-0.0 c.in_err-table.ensures)

pub returns-in_err-commands-clause-reason : goal.returns-in_err-commands-clause-reason
unfolding resume_reading_of
returns-in_err-commands-clause-reason c =
    let p = err_from_is_err_and c.from_residual-in_err-commands.result c.from_residual-in_err-commands.ensures.1 in
    rw (p.1, p.2)
    (commands-reason resume_line_of c.args.bytes.now c.in_ok-table.table c.in_ok-table.lines c.in_ok-table.ensures
    c.in_err-commands.field-0.0 c.in_err-commands.ensures.reason)

pub returns-clause-script : goal.returns-clause-script
unfolding resume_reading_of
returns-clause-script c =
    commands-read resume_line_of c.args.bytes.now c.in_ok-table.table c.in_ok-table.lines c.in_ok-table.ensures
    c.in_ok-commands.commands.items c.in_ok-commands.ensures.commands

pub returns-clause-sound : goal.returns-clause-sound
returns-clause-sound c = IsSoundResume-read c.args.bytes.now _ (returns-clause-script c)
