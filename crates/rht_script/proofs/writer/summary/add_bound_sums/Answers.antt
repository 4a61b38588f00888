use Rattle.std.proofs.Common.{ap, codes, ◌∙◌}
use Rattle.rht_script.specs.Text.{named}
use Rattle.rht_script.proofs.AddedPieces.{Adds-then, Adds-same, Adds-longer, Adds-passed_on}
use Rattle.rht_script.proofs.writer.summary.add_bound_sums.Goals as goal

pub returns-in_err-add_named-clause-text : goal.returns-in_err-add_named-clause-text
returns-in_err-add_named-clause-text g c =
    let keys = Adds-same c.in_err-add_named.ensures.text (ap (named (codes " keys")) (c.into.ensures ∙ c.requires)) in
    Adds-passed_on (Adds-longer _ (Adds-longer _ keys)) c.from_residual.ensures.0

pub returns-in_err-add_named-2-clause-text : goal.returns-in_err-add_named-2-clause-text
returns-in_err-add_named-2-clause-text g c =
    let keys = Adds-same c.in_ok-add_named.ensures.text (ap (named (codes " keys")) (c.into.ensures ∙ c.requires)) in
    let sum = Adds-same c.in_err-add_named-2.ensures.text (ap (named (codes " sum")) c.sum_of_ports.ensures) in
    Adds-passed_on (Adds-longer _ (Adds-then keys sum)) c.from_residual-in_err-add_named-2.ensures.0

pub returns-clause-text : goal.returns-clause-text
returns-clause-text g c =
    let keys = Adds-same c.in_ok-add_named.ensures.text (ap (named (codes " keys")) (c.into.ensures ∙ c.requires)) in
    let sum = Adds-same c.in_ok-add_named-2.ensures.text (ap (named (codes " sum")) c.sum_of_ports.ensures) in
    Adds-then (Adds-then keys sum) c.end_line.ensures.text
