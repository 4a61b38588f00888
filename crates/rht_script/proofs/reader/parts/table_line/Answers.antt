use Rattle.rht_script.specs.TableLines.{table_of}
use Rattle.rht_script.proofs.SayableScripts.{IsSettledTable, table_settled, HasForm, table_form, IfOk-coded}
use Rattle.rht_script.proofs.reader.parts.table_line.Goals as goal

pub returns-clause-settled : goal.returns-clause-settled
returns-clause-settled c =
    rw (c.coded.ensures, c.table.ensures)
    (IfOk-coded IsSettledTable (table_of c.new.result) (table_settled c.new.result))

pub returns-clause-form : goal.returns-clause-form
returns-clause-form c =
    rw (c.coded.ensures, c.table.ensures) (IfOk-coded HasForm (table_of c.new.result) (table_form c.new.result))
