-- The command forms: which words they are, what their input is, and what text they print for it.
-- What a status means rests on the relations here and on nothing else of a form.
use Rattle.std.specs.Prelude.{◌≡◌, ℕ, ◌^◌, ◌&&◌, nat_lt, nat_le, if◌then◌else◌, Option, None, Some, Result, List, [], ◌∷◌, length, codes}
use Rattle.std.specs.Char.{is_ascii_digit}
use Rattle.std.specs.List.{list_all}
use Rattle.std.specs.Str.{bytes_eq}
use Rattle.std.specs.Str.Parse.{digits_value}
use Rattle.rht_script.specs.declared.script.ScriptFault.{ScriptFault}
use Rattle.rht_script.specs.Grammar.{reading_of}
use Rattle.rht_script.specs.Dealt.{dealing_of}
use Rattle.rht_forms.specs.declared.form.Form.{Form}
use Rattle.rht_forms.specs.declared.form.Form.TheVariants.{Run, Replay, Gen, Deal, Lease, Check, Resume}
use Rattle.rht_lease.specs.Reading.{lease_reading_of}
use Rattle.rht_check.specs.Reading.{claim_reading_of}
use Rattle.rht_resume.specs.Reading.{resume_reading_of}
use Rattle.rht_forms.specs.Input.{IsReadAs, IsAtFault}
use Rattle.rht_forms.specs.RunText.{whole_text, IsRunText}
use Rattle.rht_forms.specs.GenText.{IsGenText}
use Rattle.rht_forms.specs.ReplayText.{IsReplayText}
use Rattle.rht_forms.specs.DealText.{IsDealText}
use Rattle.rht_forms.specs.LeaseText.{IsLeaseText}
use Rattle.rht_forms.specs.ResumeText.{IsResumeText}
use Rattle.rht_forms.specs.VerdictText.{IsVerdictText}

-- the form that a single word is
abbrev pub form_of_word : List ℕ → Option Form
form_of_word word =
    if bytes_eq word (codes "run") then Some Run
    else if bytes_eq word (codes "replay") then Some Replay
    else if bytes_eq word (codes "deal") then Some Deal
    else if bytes_eq word (codes "lease") then Some Lease
    else if bytes_eq word (codes "check") then Some Check
    else if bytes_eq word (codes "resume") then Some Resume
    else None

-- the form `gen` of the number that digits stand for, where there are some and it has 32 bits
abbrev pub gen_of_digits : List ℕ → Option Form
gen_of_digits digits =
    if nat_lt 0 (length digits) && nat_lt (digits_value 10 digits) (2 ^ 32) then Some (Gen (digits_value 10 digits)) else None

-- the form `gen` of the number that a word is, which has at most 10 digits
abbrev pub gen_of_word : List ℕ → Option Form
gen_of_word word = if nat_le (length word) 10 && list_all is_ascii_digit word then gen_of_digits word else None

-- the form that two words are
abbrev pub form_of_two : List ℕ → List ℕ → Option Form
form_of_two word second = if bytes_eq word (codes "gen") then gen_of_word second else None

-- the form that these words are
abbrev pub form_of : List (List ℕ) → Option Form
form_of [] = None
form_of (word ∷ []) = form_of_word word
form_of (word ∷ second ∷ []) = form_of_two word second
form_of (word ∷ second ∷ third ∷ words) = None

-- The words are a form for which this holds.
pub record HasForm (words : List (List ℕ)) (Holds : Form → Type 0) : Type 0 where
  pub form : Form
  pub named : form_of words ≡ Some form
  pub holds : Holds form

-- the form reads a script whose commands are workers'
abbrev pub ReadsScript : Form → Type 0
ReadsScript Run = Unit {0}
ReadsScript Replay = Unit {0}
ReadsScript (Gen number) = ⊥
ReadsScript Deal = ⊥
ReadsScript Lease = ⊥
ReadsScript Check = ⊥
ReadsScript Resume = ⊥

-- the form reads its input, be it a script, a dealt one, a lease script, a resume script or a claimed history
abbrev pub ReadsInput : Form → Type 0
ReadsInput Run = Unit {0}
ReadsInput Replay = Unit {0}
ReadsInput (Gen number) = ⊥
ReadsInput Deal = Unit {0}
ReadsInput Lease = Unit {0}
ReadsInput Check = Unit {0}
ReadsInput Resume = Unit {0}

-- The input was read by such a reading, and the text is one for what it says.
pub record IsPrintedOf {X : Type 0} (reading : List ℕ → Result X ScriptFault) (IsText : X → List ℕ → Type 0)
    (left left_after : Option (List ℕ)) (text : List ℕ) : Type 0 where
  pub said : X
  pub read : IsReadAs reading left left_after said
  pub is_text : IsText said text

-- This form's input was read, which leaves so much of it, and the text is one that the form prints for it. `gen` reads nothing, and
-- does what the script of its number says.
unfoldable pub Prints : Form → Option (List ℕ) → Option (List ℕ) → List ℕ → Type 0
Prints Run left left_after text = IsPrintedOf reading_of (IsRunText whole_text) left left_after text
Prints Replay left left_after text = IsPrintedOf reading_of IsReplayText left left_after text
Prints (Gen number) left left_after text = (left_after ≡ left) × IsGenText number text
Prints Deal left left_after text = IsPrintedOf dealing_of IsDealText left left_after text
Prints Lease left left_after text = IsPrintedOf lease_reading_of IsLeaseText left left_after text
Prints Check left left_after text = IsPrintedOf claim_reading_of IsVerdictText left left_after text
Prints Resume left left_after text = IsPrintedOf resume_reading_of IsResumeText left left_after text

-- Reading the bytes that are left leaves the rest, and they say something.
pub record SaysBy {X : Type 0} (reading : List ℕ → Result X ScriptFault) (left rest : Option (List ℕ)) : Type 0 where
  pub said : X
  pub read : IsReadAs reading left rest said

-- what is left is this form's input, of which reading it leaves the rest: a script, a dealt one, a lease script, a resume script, or a
-- claimed history
unfoldable pub HasInput : Form → Option (List ℕ) → Option (List ℕ) → Type 0
HasInput Run left rest = SaysBy reading_of left rest
HasInput Replay left rest = SaysBy reading_of left rest
HasInput (Gen number) left rest = rest ≡ left
HasInput Deal left rest = SaysBy dealing_of left rest
HasInput Lease left rest = SaysBy lease_reading_of left rest
HasInput Check left rest = SaysBy claim_reading_of left rest
HasInput Resume left rest = SaysBy resume_reading_of left rest

-- what it means that this form's input was read and is at fault
unfoldable pub IsFaultOf : Form → Option (List ℕ) → Option (List ℕ) → ScriptFault → Type 0
IsFaultOf Run left left_after fault = IsAtFault reading_of left left_after fault
IsFaultOf Replay left left_after fault = IsAtFault reading_of left left_after fault
IsFaultOf (Gen number) left left_after fault = ⊥
IsFaultOf Deal left left_after fault = IsAtFault dealing_of left left_after fault
IsFaultOf Lease left left_after fault = IsAtFault lease_reading_of left left_after fault
IsFaultOf Check left left_after fault = IsAtFault claim_reading_of left left_after fault
IsFaultOf Resume left left_after fault = IsAtFault resume_reading_of left left_after fault
