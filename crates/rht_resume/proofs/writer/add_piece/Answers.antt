use Rattle.std.proofs.Common.{sym, ap, ◌∙◌, codes}
use Rattle.rht_script.specs.Text.{named}
use Rattle.rht_script.proofs.AddedPieces.{Adds-same}
use Rattle.rht_resume.specs.Text.{piece_text}
use Rattle.rht_resume.proofs.writer.add_piece.Goals as goal

pub returns-in-Again-clause-text : goal.returns-in-Again-clause-text
returns-in-Again-clause-text g c =
    Adds-same c.add_named.ensures.text
    (ap (named (codes "next again")) c.into.ensures ∙ ap (λ piece. piece_text piece c.args.pairs.now) (sym c.in-Again.is))
