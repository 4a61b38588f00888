use Rattle.std.proofs.Common.{Result, Err, sym, ◌∙◌, ap}
use Rattle.std.proofs.lemmas.Result.{err_from_is_err_and}
use Rattle.rht_script.specs.declared.script.TableLine.{TableLine}
use Rattle.rht_script.specs.declared.script.ScriptFault.{ScriptFault}
use Rattle.rht_script.specs.Cursors.{Unread, table_from}
use Rattle.rht_script.proofs.ReadingLemmas.{reading_by-long, reading_by-lines}
use Rattle.rht_script.proofs.reader.first_table.Goals as goal

-- the table line of unread lines
abbrev table_of_unread : Unread → Result (TableLine × Unread) ScriptFault
table_of_unread unread = table_from unread.number unread.lines

pub returns-then-bytes-gt-MOST_BYTES : goal.returns-then-bytes-gt-MOST_BYTES
returns-then-bytes-gt-MOST_BYTES c =
    ap (λ (fault : ScriptFault). Err fault) c.too_long.ensures
    ∙ sym (reading_by-long table_from c.args.bytes.now c.if-bytes-gt-MOST_BYTES.true)

pub returns-in_err-table : goal.returns-in_err-table
returns-in_err-table c =
    let p = err_from_is_err_and c.from_residual.result c.from_residual.ensures.1 in
    rw (p.1, p.2)
    (sym (reading_by-lines table_from c.args.bytes.now c.if-bytes-gt-MOST_BYTES.false
    ∙ sym (ap table_of_unread c.new-lines.ensures) ∙ c.in_err-table.ensures))

pub returns : goal.returns
returns c =
    sym (reading_by-lines table_from c.args.bytes.now c.if-bytes-gt-MOST_BYTES.false
    ∙ sym (ap table_of_unread c.new-lines.ensures) ∙ c.in_ok-table.ensures)
