use Rattle.std.proofs.Common.{sym, ap, ◌∙◌}
use Rattle.rht_script.specs.Spelling.{is_skipped}
use Rattle.rht_script.proofs.PiecesLemmas.{is_skipped-position, words_of-position_none}
use Rattle.rht_script.proofs.reader.cursors.Words.is_skipped.Goals as goal

pub returns-in-Some : goal.returns-in-Some
returns-in-Some c =
    sym (is_skipped-position c.self.inside.rest.now c.in-Some.start (sym c.letter_at.ensures
    ∙ c.in-Some.is)) ∙ ap is_skipped c.self.view_is

pub returns-in-None : goal.returns-in-None
returns-in-None c =
    let none = words_of-position_none c.self.inside.rest.now (sym c.letter_at.ensures ∙ c.in-None.is) in
    sym (ap is_skipped none) ∙ ap is_skipped c.self.view_is
