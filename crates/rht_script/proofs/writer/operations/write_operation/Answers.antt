use Rattle.std.proofs.Common.{rules, ap, decimal}
use Rattle.rht_script.proofs.AddedPieces.{Adds-then, Adds-same, Adds-longer, Puts-of_put, Puts-of_failed_adds, Puts-between}
use Rattle.rht_script.proofs.writer.operations.write_operation.Goals as goal

pub returns-in_err-add_number : goal.returns-in_err-add_number
returns-in_err-add_number g c =
    let worker = Adds-same c.in_err-add_number.ensures.text (ap decimal c.into.ensures) in
    Puts-between c.new-text.ensures.unchanged (search rules)
    (Puts-of_failed_adds (Adds-longer _ (Adds-longer _ (Adds-longer _ worker))) c.new-text.ensures.none
    c.from_residual.ensures.0)

pub returns-in_err-add : goal.returns-in_err-add
returns-in_err-add g c =
    let worker = Adds-same c.in_ok-add_number.ensures.text (ap decimal c.into.ensures) in
    Puts-between c.new-text.ensures.unchanged (search rules)
    (Puts-of_failed_adds (Adds-longer _ (Adds-longer _ (Adds-then worker c.in_err-add.ensures.text)))
    c.new-text.ensures.none
    c.from_residual-in_err-add.ensures.0)

pub returns-in_err-add_operation : goal.returns-in_err-add_operation
returns-in_err-add_operation g c =
    let worker = Adds-same c.in_ok-add_number.ensures.text (ap decimal c.into.ensures) in
    let head = Adds-then worker c.in_ok-add.ensures.text in
    Puts-between c.new-text.ensures.unchanged (search rules)
    (Puts-of_failed_adds (Adds-longer _ (Adds-then head c.in_err-add_operation.ensures.text))
    c.new-text.ensures.none
    c.from_residual-in_err-add_operation.ensures.0)

pub returns-in_err-end_line : goal.returns-in_err-end_line
returns-in_err-end_line g c =
    let worker = Adds-same c.in_ok-add_number.ensures.text (ap decimal c.into.ensures) in
    let head = Adds-then worker c.in_ok-add.ensures.text in
    Puts-between c.new-text.ensures.unchanged (search rules)
    (Puts-of_failed_adds (Adds-then (Adds-then head c.in_ok-add_operation.ensures.text)
    c.in_err-end_line.ensures.text) c.new-text.ensures.none
    c.from_residual-in_err-end_line.ensures.0)

pub returns : goal.returns
returns g c =
    let worker = Adds-same c.in_ok-add_number.ensures.text (ap decimal c.into.ensures) in
    let head = Adds-then worker c.in_ok-add.ensures.text in
    Puts-between c.new-text.ensures.unchanged (search rules)
    (Puts-of_put (Adds-then (Adds-then head c.in_ok-add_operation.ensures.text) c.in_ok-end_line.ensures.text)
    c.put.ensures.text c.new-text.ensures.none c.put.ensures.none)
