use Rattle.std.proofs.Common.{Err, sym, ap, ◌∙◌, refl, arith}
use Rattle.std.proofs.lemmas.Bool.{eqb-true}
use Rattle.rht_script.specs.declared.script.ScriptFault.{ScriptFault}
use Rattle.rht_script.specs.declared.cause.Cause.TheVariants.{TooManyLines, LineTooLong}
use Rattle.rht_script.specs.Grammar.{fault_at}
use Rattle.rht_script.specs.Spelling.{lines_of}
use Rattle.rht_script.specs.Cursors.{Unread}
use Rattle.rht_script.proofs.LineLemmas.{lines_of-none, words_at-many, words_at-long, words_at-right}
use Rattle.rht_script.proofs.reader.cursors.Lines.next.Goals as goal

pub returns-then-is_empty : goal.returns-then-is_empty
returns-then-is_empty c =
    let text = c.self.inside.rest.now in (
      sym (ap (λ (unread : Unread). unread.lines) c.self.view_is)
          ∙ lines_of-none text (eqb-true _ _ (sym c.is_empty.ensures ∙ c.if-is_empty.true)),
      refl,
    )

pub returns-then-number-gt-MOST_LINES : goal.returns-then-number-gt-MOST_LINES
returns-then-number-gt-MOST_LINES c =
    let before = c.args.self.now in
    let line = c.first_line.result.0.now in (
      record {
        line = line;
        lines = lines_of c.first_line.result.1.now;
        first = sym (ap (λ (unread : Unread). unread.lines) c.self.view_is) ∙ c.first_line.ensures;
        wrong = rw (words_at-many before.number line (omega arith))
            (ap (λ (fault : ScriptFault). Err fault) (sym (c.at.ensures
            ∙ ap (λ number. fault_at number TooManyLines) c.number-number.ensures)));
      },
      refl,
    )

pub returns-then-line-gt-MOST_IN_LINE : goal.returns-then-line-gt-MOST_IN_LINE
returns-then-line-gt-MOST_IN_LINE c =
    let before = c.args.self.now in
    let line = c.first_line.result.0.now in (
      record {
        line = line;
        lines = lines_of c.first_line.result.1.now;
        first = sym (ap (λ (unread : Unread). unread.lines) c.self.view_is) ∙ c.first_line.ensures;
        wrong = rw (words_at-long before.number line (omega arith) (omega arith))
            (ap (λ (fault : ScriptFault). Err fault)
            (sym (c.at-then-line-gt-MOST_IN_LINE.ensures
            ∙ ap (λ number. fault_at number LineTooLong) c.number-number.ensures)));
      },
      refl,
    )

pub returns : goal.returns
returns c =
    let before = c.args.self.now in
    let line = c.first_line.result.0.now in
    record {
      first = sym (ap (λ (unread : Unread). unread.lines) c.self.view_is) ∙ c.first_line.ensures;
      here = c.number-number.ensures;
      counted = omega arith;
      words = words_at-right before.number line (omega arith) (omega arith);
    }
