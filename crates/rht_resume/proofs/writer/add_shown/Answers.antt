use Rattle.std.specs.List.{flat_map}
use Rattle.rht_script.specs.Text.{pair_text}
use Rattle.rht_script.proofs.AddedPieces.{Adds-then, Adds-longer, Adds-passed_on}
use Rattle.rht_resume.proofs.writer.add_shown.Goals as goal

pub returns-in_err-add-clause-text : goal.returns-in_err-add-clause-text
returns-in_err-add-clause-text g c =
    Adds-passed_on (Adds-longer c.args.last.now (Adds-longer (flat_map pair_text c.args.pairs.now) c.in_err-add.ensures.text)) c.from_residual.ensures.0

pub returns-in_err-add_pairs-clause-text : goal.returns-in_err-add_pairs-clause-text
returns-in_err-add_pairs-clause-text g c =
    Adds-passed_on (Adds-longer c.args.last.now (Adds-then c.in_ok-add.ensures.text c.in_err-add_pairs.ensures.text))
    c.from_residual-in_err-add_pairs.ensures.0

pub returns-clause-text : goal.returns-clause-text
returns-clause-text g c =
    Adds-then (Adds-then c.in_ok-add.ensures.text c.in_ok-add_pairs.ensures.text) c.add-2.ensures.text
