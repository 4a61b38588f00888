use Rattle.std.proofs.Common.{drop, sym, ◌∙◌}
use Rattle.std.proofs.lemmas.List.{take_rest}
use Rattle.rht_script.proofs.PiecesLemmas.{words_of-position_none}
use Rattle.rht_script.proofs.PlaceLemmas.{word_at-blank, word_at-last}
use Rattle.rht_script.proofs.reader.places.word_at.Goals as goal

pub returns-in_err-start : goal.returns-in_err-start
returns-in_err-start c =
    rw c.from_residual.ensures (words_of-position_none (drop c.args.at c.args.line.now)
    (rw take_rest at (sym c.letter_at.ensures ∙ c.in_err-start.was)))

pub returns-in-Some : goal.returns-in-Some
returns-in-Some c =
    word_at-blank c.args.line.now c.args.at c.requires c.in_ok-start.field-0
    (rw take_rest at (sym c.letter_at.ensures ∙ c.in_ok-start.was)) c.in-Some.len
    (rw take_rest at (sym c.blank_at.ensures ∙ c.in-Some.is))

pub returns-in-None : goal.returns-in-None
returns-in-None c =
    word_at-last c.args.line.now c.args.at c.requires c.in_ok-start.field-0
    (rw take_rest at (sym c.letter_at.ensures ∙ c.in_ok-start.was))
    (rw take_rest at (sym c.blank_at.ensures ∙ c.in-None.is))
