use Rattle.std.proofs.Common.{rules, ap, codes}
use Rattle.rht_script.specs.Text.{named}
use Rattle.rht_script.proofs.AddedPieces.{Adds-then, Adds-same, Adds-longer, Puts-of_put, Puts-of_failed_adds, Puts-between}
use Rattle.rht_script.proofs.writer.write_fault.Goals as goal

pub returns-in_err-add_named : goal.returns-in_err-add_named
returns-in_err-add_named g c =
    let place = Adds-same c.in_err-add_named.ensures.text (ap (named (codes "rht: line")) c.into.ensures) in
    Puts-between c.new-text.ensures.unchanged (search rules)
    (Puts-of_failed_adds (Adds-longer _ (Adds-longer _ (Adds-longer _ place))) c.new-text.ensures.none
    c.from_residual.ensures.0)

pub returns-in_err-add : goal.returns-in_err-add
returns-in_err-add g c =
    let place = Adds-same c.in_ok-add_named.ensures.text (ap (named (codes "rht: line")) c.into.ensures) in
    Puts-between c.new-text.ensures.unchanged (search rules)
    (Puts-of_failed_adds (Adds-longer _ (Adds-longer _ (Adds-then place c.in_err-add.ensures.text)))
    c.new-text.ensures.none
    c.from_residual-in_err-add.ensures.0)

pub returns-in_err-add-2 : goal.returns-in_err-add-2
returns-in_err-add-2 g c =
    let place = Adds-same c.in_ok-add_named.ensures.text (ap (named (codes "rht: line")) c.into.ensures) in
    let cause = Adds-same c.in_err-add-2.ensures.text c.cause_text.ensures.text in
    Puts-between c.new-text.ensures.unchanged (search rules)
    (Puts-of_failed_adds (Adds-longer _ (Adds-then (Adds-then place c.in_ok-add.ensures.text) cause))
    c.new-text.ensures.none
    c.from_residual-in_err-add-2.ensures.0)

pub returns-in_err-end_line : goal.returns-in_err-end_line
returns-in_err-end_line g c =
    let place = Adds-same c.in_ok-add_named.ensures.text (ap (named (codes "rht: line")) c.into.ensures) in
    let cause = Adds-same c.in_ok-add-2.ensures.text c.cause_text.ensures.text in
    Puts-between c.new-text.ensures.unchanged (search rules)
    (Puts-of_failed_adds (Adds-then (Adds-then (Adds-then place c.in_ok-add.ensures.text) cause)
    c.in_err-end_line.ensures.text) c.new-text.ensures.none
    c.from_residual-in_err-end_line.ensures.0)

pub returns : goal.returns
returns g c =
    let place = Adds-same c.in_ok-add_named.ensures.text (ap (named (codes "rht: line")) c.into.ensures) in
    let cause = Adds-same c.in_ok-add-2.ensures.text c.cause_text.ensures.text in
    Puts-between c.new-text.ensures.unchanged (search rules)
    (Puts-of_put (Adds-then (Adds-then (Adds-then place c.in_ok-add.ensures.text) cause)
    c.in_ok-end_line.ensures.text) c.put.ensures.text c.new-text.ensures.none c.put.ensures.none)
