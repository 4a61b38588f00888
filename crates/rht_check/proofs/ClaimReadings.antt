-- The parts of a claimed history, read one after another: what one reading gives goes on to the next, and the first fault ends it.
use Rattle.std.proofs.Common.{◌≡◌, ℕ, Ok, List, sym, ◌∙◌, ap, subst}
use Rattle.rht_model.specs.declared.history.Call.{Call}
use Rattle.rht_script.specs.declared.script.TableLine.{TableLine}
use Rattle.rht_script.specs.declared.script.ReadError.{ReadError}
use Rattle.rht_script.specs.Spelling.{◌>>=◌}
use Rattle.rht_script.specs.Cursors.{Unread}
use Rattle.rht_script.specs.Grammar.{lines_by}
use Rattle.rht_script.specs.Reading.{IsReasonFor}
use Rattle.rht_script.proofs.ReadingLemmas.{reason_first}
use Rattle.rht_check.specs.Claims.{Told}
use Rattle.rht_check.specs.ClaimLines.{told_of}
use Rattle.rht_check.specs.Reading.{asked_from, asking, claimed_with}

module _ (table : TableLine) (lines behind : Unread) (commands : List (ℕ × Call))
    (asked : asked_from lines.number table lines.lines ≡ Ok (record { commands = commands; behind = behind })) where
  -- the commands were read
  with_asked : claimed_with table lines.number lines.lines
      ≡ (lines_by told_of behind.number table behind.lines >>= (λ told. Ok (record { script = asking table commands; claims = told })))
  with_asked = ap (λ r. r >>= (λ a. lines_by told_of a.behind.number table a.behind.lines >>= (λ told. Ok (record {
    script = asking table a.commands;
    claims = told;
  })))) asked

  pub claimed_with-claims_reason : (error : ReadError) → IsReasonFor (lines_by told_of behind.number table behind.lines) error
      → IsReasonFor (claimed_with table lines.number lines.lines) error
  claimed_with-claims_reason error reason =
      subst (λ r. IsReasonFor r error) (sym with_asked) (reason_first (lines_by told_of behind.number table behind.lines) _ error reason)

  pub claimed_with-whole : (claims : List Told) → lines_by told_of behind.number table behind.lines ≡ Ok claims
      → claimed_with table lines.number lines.lines ≡ Ok (record { script = asking table commands; claims = claims })
  claimed_with-whole claims told = with_asked ∙ ap (λ r. r >>= (λ t. Ok (record { script = asking table commands; claims = t }))) told

-- the commands were not read
pub claimed_with-commands_reason : (table : TableLine) (lines : Unread) (error : ReadError)
    → IsReasonFor (asked_from lines.number table lines.lines) error → IsReasonFor (claimed_with table lines.number lines.lines) error
claimed_with-commands_reason table lines error reason = reason_first (asked_from lines.number table lines.lines) _ error reason
