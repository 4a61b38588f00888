use Rattle.std.proofs.Common.{◌++◌, ◌∙◌, ap, codes}
use Rattle.rht_script.specs.Text.{named, spaced}
use Rattle.rht_script.proofs.AddedPieces.{Adds-then, Adds-same, Adds-longer, Adds-passed_on}
use Rattle.rht_lease.proofs.writer.add_swept.Goals as goal

pub returns-in_err-add_number-clause-text : goal.returns-in_err-add_number-clause-text
returns-in_err-add_number-clause-text g c =
    Adds-passed_on (Adds-longer _ (Adds-longer _ (Adds-longer _ c.in_err-add_number.ensures.text))) c.from_residual.ensures.0

pub returns-in_err-add-clause-text : goal.returns-in_err-add-clause-text
returns-in_err-add-clause-text g c =
    Adds-passed_on (Adds-longer _ (Adds-longer _ (Adds-then c.in_ok-add_number.ensures.text c.in_err-add.ensures.text)))
    c.from_residual-in_err-add.ensures.0

pub returns-in_err-add_two-clause-text : goal.returns-in_err-add_two-clause-text
returns-in_err-add_two-clause-text g c =
    let swept = c.args.swept in
    let head = Adds-then c.in_ok-add_number.ensures.text c.in_ok-add.ensures.text in
    let counts = Adds-same c.in_err-add_two.ensures.text
    (ap (λ n. named (codes "swept") n ++ spaced c.into-2.result) c.into.ensures
    ∙ ap (λ n. named (codes "swept") swept.released ++ spaced n) c.into-2.ensures) in
    Adds-passed_on (Adds-longer _ (Adds-then head counts)) c.from_residual-in_err-add_two.ensures.0

pub returns-clause-text : goal.returns-clause-text
returns-clause-text g c =
    let swept = c.args.swept in
    let head = Adds-then c.in_ok-add_number.ensures.text c.in_ok-add.ensures.text in
    let counts = Adds-same c.in_ok-add_two.ensures.text
    (ap (λ n. named (codes "swept") n ++ spaced c.into-2.result) c.into.ensures
    ∙ ap (λ n. named (codes "swept") swept.released ++ spaced n) c.into-2.ensures) in
    Adds-then (Adds-then head counts) c.end_line.ensures.text
