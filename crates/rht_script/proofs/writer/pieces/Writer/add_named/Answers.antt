use Rattle.rht_script.proofs.AddedPieces.{Adds-then, Adds-longer, Adds-passed_on}
use Rattle.rht_script.proofs.writer.pieces.Writer.add_named.Goals as goal

pub returns-in_err-add-clause-text : goal.returns-in_err-add-clause-text
returns-in_err-add-clause-text g c = Adds-passed_on (Adds-longer _ c.in_err-add.ensures.text)
    c.from_residual.ensures.0

pub returns-clause-text : goal.returns-clause-text
returns-clause-text g c = Adds-then c.in_ok-add.ensures.text c.add_spaced.ensures.text
