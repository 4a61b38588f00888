use Rattle.std.proofs.Common.{◌≡◌, ℕ, List, Ok, sym, ◌∙◌, ap}
use Rattle.std.proofs.lemmas.Result.{err_from_is_err_and}
use Rattle.rht_script.specs.declared.script.TableLine.{TableLine}
use Rattle.rht_script.specs.Cursors.{Unread, table_reading_of}
use Rattle.rht_script.proofs.ReadingLemmas.{reading_by-table, reading_by-no_table}
use Rattle.rht_check.specs.Reading.{claimed_with, claim_reading_of}
use Rattle.rht_check.proofs.ClaimReadings.{claimed_with-commands_reason, claimed_with-claims_reason, claimed_with-whole}
use Rattle.rht_check.proofs.SoundClaims.{IsSoundClaim-read}
use Rattle.rht_check.proofs.reader.read_claim.Goals as goal

-- what is claimed below a table line that was found
claim_below : (bytes : List ℕ) (table : TableLine) (lines : Unread) → Ok (table, lines) ≡ table_reading_of bytes
    → claim_reading_of bytes ≡ claimed_with table lines.number lines.lines
unfolding claim_reading_of
claim_below bytes table lines found = reading_by-table claimed_with bytes table lines found

pub returns-in_err-table-clause-reason : goal.returns-in_err-table-clause-reason
unfolding claim_reading_of
returns-in_err-table-clause-reason c =
    let p = err_from_is_err_and c.from_residual.result c.from_residual.ensures.1 in
    rw (p.1, p.2) (reading_by-no_table claimed_with c.args.bytes.now c.in_err-table.field-0.0 c.in_err-table.ensures)

pub returns-in_err-commands-clause-reason : goal.returns-in_err-commands-clause-reason
returns-in_err-commands-clause-reason c =
    let p = err_from_is_err_and c.from_residual-in_err-commands.result c.from_residual-in_err-commands.ensures.1 in
    rw (p.1, p.2, claim_below c.args.bytes.now c.in_ok-table.table c.in_ok-table.lines c.in_ok-table.ensures)
    (claimed_with-commands_reason c.in_ok-table.table c.in_ok-table.lines c.in_err-commands.field-0.0 c.in_err-commands.ensures.reason)

pub returns-in_err-claims-clause-reason : goal.returns-in_err-claims-clause-reason
returns-in_err-claims-clause-reason c =
    let p = err_from_is_err_and c.from_residual-in_err-claims.result c.from_residual-in_err-claims.ensures.1 in
    rw (p.1, p.2, claim_below c.args.bytes.now c.in_ok-table.table c.in_ok-table.lines c.in_ok-table.ensures)
    (claimed_with-claims_reason c.in_ok-table.table c.in_ok-table.lines c.commands_above.new.lines c.in_ok-commands.commands.items
    c.in_ok-commands.ensures.asked c.in_err-claims.field-0.0 c.in_err-claims.ensures.reason)

pub returns-clause-claim : goal.returns-clause-claim
returns-clause-claim c =
    claim_below c.args.bytes.now c.in_ok-table.table c.in_ok-table.lines c.in_ok-table.ensures
    ∙ claimed_with-whole c.in_ok-table.table c.in_ok-table.lines c.commands_above.new.lines c.in_ok-commands.commands.items
    c.in_ok-commands.ensures.asked c.in_ok-claims.claims.items c.in_ok-claims.ensures.told
    ∙ ap (λ schedule. Ok (record {
      script = record {
        config = c.in_ok-table.table.config;
        auto = c.in_ok-table.table.auto;
        form = c.in_ok-table.table.form;
        commands = c.in_ok-commands.commands.items;
        schedule = schedule;
      };
      claims = c.in_ok-claims.claims.items;
    })) (sym c.new.ensures.items)

pub returns-clause-sound : goal.returns-clause-sound
returns-clause-sound c = IsSoundClaim-read c.args.bytes.now _ (returns-clause-claim c)
