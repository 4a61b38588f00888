use Rattle.rht_script.proofs.AddedPieces.{Adds-then, Adds-longer, Adds-passed_on}
use Rattle.rht_script.proofs.writer.operations.add_three.Goals as goal

pub returns-in_err-add_two-clause-text : goal.returns-in_err-add_two-clause-text
returns-in_err-add_two-clause-text g c = Adds-passed_on (Adds-longer _ c.in_err-add_two.ensures.text)
    c.from_residual.ensures.0

pub returns-clause-text : goal.returns-clause-text
returns-clause-text g c = Adds-then c.in_ok-add_two.ensures.text c.add_spaced.ensures.text
