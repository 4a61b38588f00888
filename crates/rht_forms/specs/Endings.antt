-- How a run can end: its status, its line, and what was read and written.
use Rattle.std.specs.Prelude.{◌≡◌, ℕ, ◌==◌, ◌⊎◌, if◌then◌else◌, Option, Result, Ok, Err, List, [], codes}
use Rattle.std.specs.Io.KnownBytes.{Appends}
use Rattle.rht_io.specs.declared.source.Failed.{Failed}
use Rattle.rht_io.specs.Told.{Rose, AppendsPrefix}
use Rattle.rht_script.specs.declared.script.ReadError.{ReadError}
use Rattle.rht_script.specs.declared.script.ReadError.TheVariants as reads
use Rattle.rht_script.specs.Text.{fault_line}
use Rattle.rht_registry.specs.declared.replaying.ReplayError.{ReplayError}
use Rattle.rht_registry.specs.declared.replaying.ReplayError.TheVariants as replays
use Rattle.rht_forms.specs.declared.form.Form.{Form}
use Rattle.rht_forms.specs.declared.ending.Failure.{Failure}
use Rattle.rht_forms.specs.declared.ending.Failure.TheVariants.{Fault, Read, Write, Memory}
use Rattle.rht_forms.specs.declared.ending.Ending.{Ending}
use Rattle.rht_forms.specs.declared.ending.Ending.TheVariants.{Done, Usage, Unserved}
use Rattle.rht_forms.specs.Forms.{ReadsInput, Prints, IsFaultOf}

-- why a script wasn't read
abbrev pub of_read_error : ReadError → Failure
of_read_error (reads.Fault fault) = Fault fault
of_read_error reads.Memory = Memory

-- how a form is served whose text was put so
abbrev pub served_by : Result (Unit {0}) Failed → Result (Unit {0}) Failure
served_by (Ok done) = Ok done
served_by (Err failed) = Err Write

-- how a form is served whose text is a replay that ended so
abbrev pub replayed_by : Result (Unit {0}) ReplayError → Result (Unit {0}) Failure
replayed_by (Ok done) = Ok done
replayed_by (Err replays.Write) = Err Write
replayed_by (Err replays.Memory) = Err Memory

-- how a run of a form ends that was served or failed so
abbrev pub ending_of : Result (Unit {0}) Failure → Ending
ending_of (Ok done) = Done
ending_of (Err failure) = Unserved failure

-- the exit status
abbrev pub failure_status : Failure → ℕ
failure_status (Fault fault) = 2
failure_status Read = 3
failure_status Write = 4
failure_status Memory = 5

abbrev pub status_of : Ending → ℕ
status_of Done = 0
status_of Usage = 1
status_of (Unserved failure) = failure_status failure

-- the line on standard error
abbrev pub failure_line : Failure → List ℕ
failure_line (Fault fault) = fault_line fault
failure_line Read = codes "rht: read failed\n"
failure_line Write = codes "rht: write failed\n"
failure_line Memory = codes "rht: out of memory\n"

abbrev pub ending_line : Ending → List ℕ
ending_line Done = []
ending_line Usage = codes "rht: usage: rht run | rht replay | rht gen NUMBER | rht deal | rht lease | rht check | rht resume\n"
ending_line (Unserved failure) = failure_line failure

-- the line on standard error, by the status; at 2 it is the line of the script's first fault instead
abbrev pub status_line : ℕ → List ℕ
status_line status =
    if status == 0 then ending_line Done
    else if status == 1 then ending_line Usage
    else if status == 3 then ending_line (Unserved Read)
    else if status == 4 then ending_line (Unserved Write)
    else ending_line (Unserved Memory)

-- The form's input was read, and the whole of a text that it prints was written.
pub record IsDone (form : Form) (left left_after held held_after : Option (List ℕ)) : Type 0 where
  pub text : List ℕ
  pub printed : Prints form left left_after text
  pub written : Appends held held_after text

-- The form's input was read, and a prefix of a text that it prints was written.
pub record IsCutShort (form : Form) (left left_after held held_after : Option (List ℕ)) : Type 0 where
  pub text : List ℕ
  pub printed : Prints form left left_after text
  pub written : AppendsPrefix held held_after text

-- what a failure to serve a form means for the source and the sink
abbrev pub FailsBy : {S O : Type 0} → (S → Option (List ℕ)) → (S → ℕ) → (O → Option (List ℕ)) → (O → ℕ)
    → Form → S → S → O → O → Failure → Type 0
FailsBy left sfaults held ofaults form s s_after o o_after (Fault fault) =
    IsFaultOf form (left s) (left s_after) fault × (o_after ≡ o)
FailsBy left sfaults held ofaults form s s_after o o_after Read =
    Rose (sfaults s) (sfaults s_after) × (o_after ≡ o) × ReadsInput form
FailsBy left sfaults held ofaults form s s_after o o_after Write =
    Rose (ofaults o) (ofaults o_after) × IsCutShort form (left s) (left s_after) (held o) (held o_after)
FailsBy left sfaults held ofaults form s s_after o o_after Memory =
    (o_after ≡ o) ⊎ IsCutShort form (left s) (left s_after) (held o) (held o_after)

-- what the way in which a form was served means for them
abbrev pub Serves : {S O : Type 0} → (S → Option (List ℕ)) → (S → ℕ) → (O → Option (List ℕ)) → (O → ℕ)
    → Form → S → S → O → O → Result (Unit {0}) Failure → Type 0
Serves left sfaults held ofaults form s s_after o o_after (Ok done) =
    IsDone form (left s) (left s_after) (held o) (held o_after)
Serves left sfaults held ofaults form s s_after o o_after (Err failure) =
    FailsBy left sfaults held ofaults form s s_after o o_after failure

-- the same for a form that reads nothing, whatever input there is
abbrev pub ServesUnread : {O : Type 0} → (O → Option (List ℕ)) → (O → ℕ) → Form → O → O → Result (Unit {0}) Failure → Type 0
ServesUnread held ofaults form o o_after served =
    (left : Option (List ℕ)) → Serves (λ input. input) (λ input. 0) held ofaults form left left o o_after served
