use Rattle.rht_script.proofs.AddedPieces.{Adds-then, Adds-longer, Adds-passed_on}
use Rattle.rht_resume.proofs.writer.add_next.Goals as goal

pub returns-in_err-add_number-clause-text : goal.returns-in_err-add_number-clause-text
returns-in_err-add_number-clause-text g c =
    Adds-passed_on (Adds-longer _ (Adds-longer _ (Adds-longer _ c.in_err-add_number.ensures.text))) c.from_residual.ensures.0

pub returns-in_err-add-clause-text : goal.returns-in_err-add-clause-text
returns-in_err-add-clause-text g c =
    Adds-passed_on (Adds-longer _ (Adds-longer _ (Adds-then c.in_ok-add_number.ensures.text c.in_err-add.ensures.text)))
    c.from_residual-in_err-add.ensures.0

pub returns-in_err-add_piece-clause-text : goal.returns-in_err-add_piece-clause-text
returns-in_err-add_piece-clause-text g c =
    let head = Adds-then c.in_ok-add_number.ensures.text c.in_ok-add.ensures.text in
    Adds-passed_on (Adds-longer _ (Adds-then head c.in_err-add_piece.ensures.text)) c.from_residual-in_err-add_piece.ensures.0

pub returns-clause-text : goal.returns-clause-text
returns-clause-text g c =
    let head = Adds-then c.in_ok-add_number.ensures.text c.in_ok-add.ensures.text in
    Adds-then (Adds-then head c.in_ok-add_piece.ensures.text) c.end_line.ensures.text
