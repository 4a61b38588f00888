use Rattle.std.proofs.Common.{ap, codes}
use Rattle.rht_script.specs.Text.{named}
use Rattle.rht_script.proofs.AddedPieces.{Adds-then, Adds-same, Adds-longer, Adds-passed_on}
use Rattle.rht_script.proofs.writer.add_last_line.Goals as goal

pub returns-in_err-add_named-clause-text : goal.returns-in_err-add_named-clause-text
returns-in_err-add_named-clause-text g c =
    let size = Adds-same c.in_err-add_named.ensures.text (ap (named (codes "size")) c.into.ensures) in
    Adds-passed_on (Adds-longer _ (Adds-longer _ size)) c.from_residual.ensures.0

pub returns-in_err-add_named-2-clause-text : goal.returns-in_err-add_named-2-clause-text
returns-in_err-add_named-2-clause-text g c =
    let size = Adds-same c.in_ok-add_named.ensures.text (ap (named (codes "size")) c.into.ensures) in
    let keys = Adds-same c.in_err-add_named-2.ensures.text (ap (named (codes " keys")) c.into-2.ensures) in
    Adds-passed_on (Adds-longer _ (Adds-then size keys)) c.from_residual-in_err-add_named-2.ensures.0

pub returns-clause-text : goal.returns-clause-text
returns-clause-text g c =
    let size = Adds-same c.in_ok-add_named.ensures.text (ap (named (codes "size")) c.into.ensures) in
    let keys = Adds-same c.in_ok-add_named-2.ensures.text (ap (named (codes " keys")) c.into-2.ensures) in
    Adds-then (Adds-then size keys) c.end_line.ensures.text
