-- What the words of a line of a lease script stand for, below its table line. Words are read from left to right.
use Rattle.std.specs.Prelude.{ℕ, if◌then◌else◌, Result, Ok, Err, List, [], ◌∷◌, codes}
use Rattle.rht_model.specs.declared.history.Call.{Call}
use Rattle.rht_script.specs.declared.script.TableLine.{TableLine}
use Rattle.rht_script.specs.declared.cause.Cause.{Cause}
use Rattle.rht_script.specs.declared.cause.Cause.TheVariants.{UnknownWord}
use Rattle.rht_script.specs.Spelling.{◌>>=◌, between, is_word}
use Rattle.rht_script.specs.CommandLines.{owner_limits, number_first, port_first, end_of, call_of, asked_by}
use Rattle.rht_lease.specs.declared.lease.Lease.{Lease}
use Rattle.rht_lease.specs.declared.lease.LeaseCall.{LeaseCall}
use Rattle.rht_lease.specs.declared.lease.LeaseCall.TheVariants as asks
use Rattle.rht_lease.specs.Books.{lease_of}
use Rattle.rht_lease.specs.Scripts.{is_plain_call}

-- ---- commands of their own

-- a lease: its port, its owner, and its last tick, which is any number of 64 bits
unfoldable pub lease_of_words : ℕ → List (List ℕ) → Result Lease Cause
lease_of_words form words = do
  port ← port_first form words
  owner ← number_first owner_limits port.1
  last ← number_first (between 0 18446744073709551615) owner.1
  end ← end_of last.1
  Ok (lease_of port.0 owner.0 last.0)

-- what these verbs ask with the words behind them, in a script of this form
abbrev pub grant_of : ℕ → List (List ℕ) → Result LeaseCall Cause
grant_of form words = lease_of_words form words >>= (λ lease. Ok (asks.Lease lease))

abbrev pub renew_of : ℕ → List (List ℕ) → Result LeaseCall Cause
renew_of form words = lease_of_words form words >>= (λ lease. Ok (asks.Renew lease))

unfoldable pub cancel_of : ℕ → List (List ℕ) → Result LeaseCall Cause
cancel_of form words = do
  port ← port_first form words
  owner ← number_first owner_limits port.1
  end ← end_of owner.1
  Ok (asks.Cancel port.0 owner.0)

unfoldable pub sweep_of : List (List ℕ) → Result LeaseCall Cause
sweep_of words = do
  now ← number_first (between 0 18446744073709551615) words
  end ← end_of now.1
  Ok (asks.Sweep now.0)

-- a call that scripts have, where lease scripts have it too
abbrev pub plain_of : Call → Result LeaseCall Cause
plain_of call = if is_plain_call call then Ok (asks.Plain call) else Err UnknownWord

-- ---- lines

-- what a worker asks by these words, of which the first is a verb that only lease scripts have, or one that scripts have
unfoldable pub ask_of : TableLine → List (List ℕ) → Result LeaseCall Cause
ask_of table [] = Err UnknownWord
ask_of table (verb ∷ words) =
    if is_word verb (codes "lease") then grant_of table.form words
    else if is_word verb (codes "renew") then renew_of table.form words
    else if is_word verb (codes "cancel") then cancel_of table.form words
    else if is_word verb (codes "sweep") then sweep_of words
    else (call_of table (verb ∷ words) >>= plain_of)

-- the command of a line of these words below this table line: its worker, and what that asks
unfoldable pub lease_line_of : TableLine → List (List ℕ) → Result (ℕ × LeaseCall) Cause
lease_line_of table words = asked_by (ask_of table) table.config words
