use Rattle.std.proofs.Common.{sym, ap}
use Rattle.rht_script.specs.Text.{walk_end}
use Rattle.rht_script.proofs.AddedPieces.{Adds-then, Adds-same, Adds-longer, Adds-passed_on}
use Rattle.rht_script.proofs.writer.add_walk.Goals as goal

pub returns-in_err-add-clause-text : goal.returns-in_err-add-clause-text
returns-in_err-add-clause-text g c = Adds-passed_on (Adds-longer _ c.in_err-add.ensures.text)
    c.from_residual.ensures.0

pub returns-in_err-add_pairs-clause-text : goal.returns-in_err-add_pairs-clause-text
returns-in_err-add_pairs-clause-text g c =
    Adds-passed_on (Adds-longer _ (Adds-then c.in_ok-add.ensures.text c.in_err-add_pairs.ensures.text))
    c.from_residual-in_err-add_pairs.ensures.0

pub returns-in-None-clause-text : goal.returns-in-None-clause-text
returns-in-None-clause-text g c =
    Adds-then (Adds-then c.in_ok-add.ensures.text c.in_ok-add_pairs.ensures.text)
    (Adds-same c.add-in-None.ensures.text (ap walk_end (sym c.in-None.is)))

pub returns-in-Some-clause-text : goal.returns-in-Some-clause-text
returns-in-Some-clause-text g c =
    Adds-then (Adds-then c.in_ok-add.ensures.text c.in_ok-add_pairs.ensures.text)
    (Adds-same c.add-in-Some.ensures.text (ap walk_end (sym c.in-Some.is)))
