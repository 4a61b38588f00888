use Rattle.rht_script.proofs.AddedPieces.{Adds-longer, Adds-passed_on}
use Rattle.rht_script.proofs.writer.pieces.Writer.add.Goals as goal

pub returns-in_err-make_room-clause-text : goal.returns-in_err-make_room-clause-text
returns-in_err-make_room-clause-text g c = Adds-passed_on (Adds-longer _ c.in_err-make_room.ensures.text)
    c.from_residual.ensures.0
