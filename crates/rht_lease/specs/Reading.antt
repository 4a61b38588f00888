-- Which bytes are a lease script and what it says, and where other bytes have their first fault. It has a table line, as every script does,
-- and each line below it that isn't skipped is a command. Lines are read from the first to the last, and the first that is wrong is at fault.
use Rattle.std.specs.Prelude.{◌≡◌, ℕ, Result, Ok, List}
use Rattle.rht_script.specs.declared.script.ScriptFault.{ScriptFault}
use Rattle.rht_script.specs.declared.script.ReadError.{ReadError}
use Rattle.rht_script.specs.Commands.{SaidCommands, said_below}
use Rattle.rht_script.specs.Grammar.{from_table, reading_by}
use Rattle.rht_script.specs.Reading.{IsReasonFor}
use Rattle.rht_lease.specs.declared.lease.LeaseCall.{LeaseCall}
use Rattle.rht_lease.specs.declared.lease.LeaseScript.{LeaseScript}
use Rattle.rht_lease.specs.LeaseLines.{lease_line_of}

-- what a lease script says: what the table is opened with, whether a worker runs `work` by itself where a reply asks for it, and the
-- commands, each with its worker
abbrev pub SaidLeases : Type 0
SaidLeases = SaidCommands LeaseCall

-- what is said in these lines, which are counted on from this number
abbrev pub leases_from : ℕ → List (List ℕ) → Result SaidLeases ScriptFault
leases_from = from_table (said_below lease_line_of)

-- what the bytes say, or their first fault
unfoldable pub lease_reading_of : List ℕ → Result SaidLeases ScriptFault
lease_reading_of bytes = reading_by leases_from bytes

-- what a lease script says
abbrev pub said_by_leases : LeaseScript → SaidLeases
said_by_leases script = record { config = script.config; auto = script.auto; commands = script.commands.items }

-- the bytes are this lease script
abbrev pub IsLeaseScript : List ℕ → LeaseScript → Type 0
IsLeaseScript bytes script = lease_reading_of bytes ≡ Ok (said_by_leases script)

-- the error is the reason why these bytes were not read: their first fault, or want of memory
abbrev pub IsLeaseReason : List ℕ → ReadError → Type 0
IsLeaseReason bytes error = IsReasonFor (lease_reading_of bytes) error
