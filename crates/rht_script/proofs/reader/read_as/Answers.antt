use Rattle.std.proofs.Common.{◌≡◌, Ok, sym, subst, ◌∙◌}
use Rattle.std.proofs.lemmas.Result.{err_from_is_err_and, IfOk-weaker, IfErr-weaker}
use Rattle.rht_script.specs.Grammar.{below_by}
use Rattle.rht_script.specs.Dealt.{line_as, reading_as}
use Rattle.rht_script.specs.Reading.{said_by, IsReasonFor}
use Rattle.rht_script.proofs.ReadingLemmas.{reading_by-table, reading_by-no_table}
use Rattle.rht_script.proofs.reader.read_as.Goals as goal

pub returns-in_err-table-clause-reason : goal.returns-in_err-table-clause-reason
returns-in_err-table-clause-reason c =
    let p = err_from_is_err_and c.from_residual.result c.from_residual.ensures.1 in
    rw (p.1, p.2)
    (reading_by-no_table (below_by (line_as c.args.below)) c.args.bytes.now c.in_err-table.field-0.0 c.in_err-table.ensures)

-- what is read is what the table line says with the lines below it
read_below : (c : goal.After-script_below) → reading_as c.args.below c.args.bytes.now ≡ below_by (line_as c.args.below)
    c.in_ok-table.table c.in_ok-table.lines.number c.in_ok-table.lines.lines
read_below c = reading_by-table (below_by (line_as c.args.below)) c.args.bytes.now c.in_ok-table.table c.in_ok-table.lines c.in_ok-table.ensures

pub returns-clause-reason : goal.returns-clause-reason
returns-clause-reason c =
    let left = c.in_ok-table.lines in
    IfErr-weaker c.script_below.result (IsReasonFor (below_by (line_as c.args.below) c.in_ok-table.table left.number left.lines))
    (IsReasonFor (reading_as c.args.below c.args.bytes.now))
    (λ error reason. subst (λ reading. IsReasonFor reading error) (sym (read_below c)) reason)
    c.script_below.ensures.reason

pub returns-clause-script : goal.returns-clause-script
returns-clause-script c =
    let left = c.in_ok-table.lines in
    IfOk-weaker c.script_below.result
    (λ script. below_by (line_as c.args.below) c.in_ok-table.table left.number left.lines ≡ Ok (said_by script))
    (λ script. reading_as c.args.below c.args.bytes.now ≡ Ok (said_by script)) (λ script says. read_below c ∙ says)
    c.script_below.ensures.script
