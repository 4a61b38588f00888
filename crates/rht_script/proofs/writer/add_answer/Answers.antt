use Rattle.std.proofs.Common.{sym, ap, ◌∙◌, codes}
use Rattle.rht_script.specs.Text.{named, reply_text}
use Rattle.rht_script.proofs.AddedPieces.{Adds-same}
use Rattle.rht_script.proofs.writer.add_answer.Goals as goal

pub returns-in-Again-clause-text : goal.returns-in-Again-clause-text
returns-in-Again-clause-text g c =
    Adds-same c.add_named-in-Again.ensures.text
    (ap (named (codes "walk again")) c.into-in-Again.ensures
    ∙ ap (λ reply. reply_text reply c.args.owners.now c.args.pairs.now c.args.kicks) (sym c.in-Again.is))
