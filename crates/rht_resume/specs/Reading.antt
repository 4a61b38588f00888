-- Which bytes are a resume script and what it says, and where other bytes have their first fault. It has a table line, as every script does,
-- and each line below it that isn't skipped is a command. Lines are read from the first to the last, and the first that is wrong is at fault.
use Rattle.std.specs.Prelude.{◌≡◌, ℕ, Result, Ok, List}
use Rattle.rht_script.specs.declared.script.ScriptFault.{ScriptFault}
use Rattle.rht_script.specs.declared.script.ReadError.{ReadError}
use Rattle.rht_script.specs.Commands.{SaidCommands, said_below}
use Rattle.rht_script.specs.Grammar.{from_table, reading_by}
use Rattle.rht_script.specs.Reading.{IsReasonFor}
use Rattle.rht_resume.specs.declared.resume.ResumeCall.{ResumeCall}
use Rattle.rht_resume.specs.declared.resume.ResumeScript.{ResumeScript}
use Rattle.rht_resume.specs.ResumeLines.{resume_line_of}

-- what a resume script says: what the table is opened with, whether a worker runs `work` by itself where a reply asks for it, and the
-- commands, each with its worker
abbrev pub SaidResume : Type 0
SaidResume = SaidCommands ResumeCall

-- what is said in these lines, which are counted on from this number
abbrev pub resume_from : ℕ → List (List ℕ) → Result SaidResume ScriptFault
resume_from = from_table (said_below resume_line_of)

-- what the bytes say, or their first fault
unfoldable pub resume_reading_of : List ℕ → Result SaidResume ScriptFault
resume_reading_of bytes = reading_by resume_from bytes

-- what a resume script says
abbrev pub said_by_resume : ResumeScript → SaidResume
said_by_resume script = record { config = script.config; auto = script.auto; commands = script.commands.items }

-- the bytes are this resume script
abbrev pub IsResumeScript : List ℕ → ResumeScript → Type 0
IsResumeScript bytes script = resume_reading_of bytes ≡ Ok (said_by_resume script)

-- the error is the reason why these bytes were not read: their first fault, or want of memory
abbrev pub IsResumeReason : List ℕ → ReadError → Type 0
IsResumeReason bytes error = IsReasonFor (resume_reading_of bytes) error
