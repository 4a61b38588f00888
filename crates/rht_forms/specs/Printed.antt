-- The headlines of the forms `deal`, `lease` and `resume`. For every dealt script, every lease script and every resume script, whatever the threads
-- do, what is printed is a text of it: the answers and last bindings of a run of one-word steps, which one legal history of a finite multimap fits.
use Rattle.std.specs.Prelude.{ℕ, Option, Result, List}
use Rattle.std.specs.Io.KnownBytes.{Appends}
use Rattle.rht_script.specs.declared.script.ScriptFault.{ScriptFault}
use Rattle.rht_script.specs.Dealt.{dealing_of}
use Rattle.rht_lease.specs.Reading.{lease_reading_of}
use Rattle.rht_resume.specs.Reading.{resume_reading_of}
use Rattle.rht_forms.specs.Input.{IsReadAs}
use Rattle.rht_forms.specs.DealText.{IsDealText}
use Rattle.rht_forms.specs.LeaseText.{IsLeaseText}
use Rattle.rht_forms.specs.ResumeText.{IsResumeText}

-- what a form read and printed that has this reading and these texts: of the source what was left before and after, and of the sink what it held
pub record HasPrinted {X : Type 0} (reading : List ℕ → Result X ScriptFault) (IsText : X → List ℕ → Type 0)
    (left left_after held held_after : Option (List ℕ)) : Type 0 where
  -- the whole input was read, and is this script
  pub script : X
  pub read : IsReadAs reading left left_after script
  -- a text of it
  pub text : List ℕ
  pub is_text : IsText script text
  -- and that text was printed
  pub printed : Appends held held_after text

-- `deal` read a dealt script, and printed a text of a run in which each of its commands was done once
abbrev pub DealHeadline : (left left_after held held_after : Option (List ℕ)) → Type 0
DealHeadline = HasPrinted dealing_of IsDealText

-- `lease` read a lease script, and printed a text of a run that serves the calls for which its commands stand
abbrev pub LeaseHeadline : (left left_after held held_after : Option (List ℕ)) → Type 0
LeaseHeadline = HasPrinted lease_reading_of IsLeaseText

-- `resume` read a resume script, and printed a text of a run in which each `next` stands for its walks
abbrev pub ResumeHeadline : (left left_after held held_after : Option (List ℕ)) → Type 0
ResumeHeadline = HasPrinted resume_reading_of IsResumeText
