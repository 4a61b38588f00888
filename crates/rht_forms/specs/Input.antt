-- Which bytes are read of an input: all of them, or one more than a script can have. And when they are a script, or
-- a claimed history.
use Rattle.std.specs.Prelude.{◌≡◌, ℕ, ◌+◌, ◌<◌, ◌≤◌, ◌⊎◌, ◌++◌, Bool, Option, Result, Ok, Err, List, [], length, MatchBool}
use Rattle.std.specs.Io.KnownBytes.{Consumes, IsAtEnd}
use Rattle.rht_io.specs.Told.{Rose}
use Rattle.rht_script.specs.declared.script.ScriptFault.{ScriptFault}
use Rattle.rht_script.specs.Grammar.{most_bytes, Said, reading_of}
use Rattle.rht_script.specs.Dealt.{dealing_of}
use Rattle.rht_lease.specs.Reading.{SaidLeases, lease_reading_of}
use Rattle.rht_check.specs.Reading.{SaidClaim, claim_reading_of}
use Rattle.rht_resume.specs.Reading.{SaidResume, resume_reading_of}
use Rattle.rht_forms.specs.declared.ending.Failure.{Failure}
use Rattle.rht_forms.specs.declared.ending.Failure.TheVariants.{Fault, Read, Write, Memory}

-- These bytes were read: the whole input, or one byte more than the longest script has.
pub record IsRead (left left_after : Option (List ℕ)) (bytes : List ℕ) : Type 0 where
  pub taken : Consumes left left_after bytes
  pub enough : (IsAtEnd left_after × (length bytes ≤ most_bytes)) ⊎ (length bytes ≡ most_bytes + 1)

-- A piece of at most this length was read behind the other bytes; it is empty only at the end of the input.
pub record IsMore (left left_after : Option (List ℕ)) (bytes bytes_after : List ℕ) (room : ℕ)
    (more : Bool) : Type 0 where
  pub piece : List ℕ
  pub taken : Consumes left left_after piece
  pub behind : bytes_after ≡ bytes ++ piece
  pub within : length piece ≤ room
  pub ends : MatchBool more (0 < length piece) ((piece ≡ []) × IsAtEnd left_after)

-- why reading stopped: the source's faults rose, or memory ran out
abbrev pub IsReadFault : ℕ → ℕ → Failure → Type 0
IsReadFault before after (Fault fault) = ⊥
IsReadFault before after Read = Rose before after
IsReadFault before after Write = ⊥
IsReadFault before after Memory = Unit {0}

-- ---- what the bytes say

-- The input was read to its end, and by such a reading it says this.
pub record IsReadAs {X : Type 0} (reading : List ℕ → Result X ScriptFault) (left left_after : Option (List ℕ)) (said : X) : Type 0 where
  pub bytes : List ℕ
  pub taken : Consumes left left_after bytes
  pub to_end : IsAtEnd left_after
  pub says : reading bytes ≡ Ok said

-- The whole input was read, or one byte more than a script can have, and by such a reading this is its first fault.
pub record IsAtFault {X : Type 0} (reading : List ℕ → Result X ScriptFault) (left left_after : Option (List ℕ)) (fault : ScriptFault) : Type 0 where
  pub bytes : List ℕ
  pub read : IsRead left left_after bytes
  pub first : reading bytes ≡ Err fault

-- why nothing was read by such a reading: the input is at fault, the source's faults rose, or memory ran out
abbrev pub IsUnread : {X : Type 0} → (List ℕ → Result X ScriptFault) → Option (List ℕ) → Option (List ℕ) → ℕ → ℕ → Failure → Type 0
IsUnread reading left left_after before after (Fault fault) = IsAtFault reading left left_after fault
IsUnread reading left left_after before after Read = Rose before after
IsUnread reading left left_after before after Write = ⊥
IsUnread reading left left_after before after Memory = Unit {0}

-- ---- scripts and claimed histories

-- The input was read to its end and is a script, a dealt one, a lease script, a resume script or a claimed history, which says this.
abbrev pub IsScriptRead : Option (List ℕ) → Option (List ℕ) → Said → Type 0
IsScriptRead = IsReadAs reading_of

abbrev pub IsDealRead : Option (List ℕ) → Option (List ℕ) → Said → Type 0
IsDealRead = IsReadAs dealing_of

abbrev pub IsLeaseRead : Option (List ℕ) → Option (List ℕ) → SaidLeases → Type 0
IsLeaseRead = IsReadAs lease_reading_of

abbrev pub IsResumeRead : Option (List ℕ) → Option (List ℕ) → SaidResume → Type 0
IsResumeRead = IsReadAs resume_reading_of

abbrev pub IsClaimRead : Option (List ℕ) → Option (List ℕ) → SaidClaim → Type 0
IsClaimRead = IsReadAs claim_reading_of
