-- What a form of texts of its own has printed where it ends with status 0.
use Rattle.std.proofs.Common.{◌≡◌, ℕ, List, Option, Result, sym, subst}
use Rattle.std.specs.Io.KnownBytes.{Appends}
use Rattle.rht_script.specs.declared.script.ScriptFault.{ScriptFault}
use Rattle.rht_script.specs.Dealt.{dealing_of}
use Rattle.rht_lease.specs.Reading.{lease_reading_of}
use Rattle.rht_resume.specs.Reading.{resume_reading_of}
use Rattle.rht_forms.specs.declared.ending.Failure.{Failure}
use Rattle.rht_forms.specs.declared.form.Form.{Form}
use Rattle.rht_forms.specs.declared.form.Form.TheVariants.{Deal, Lease, Resume}
use Rattle.rht_forms.specs.Forms.{Prints, IsPrintedOf}
use Rattle.rht_forms.specs.Endings.{Serves, ending_of, status_of}
use Rattle.rht_forms.specs.DealText.{IsDealText}
use Rattle.rht_forms.specs.LeaseText.{IsLeaseText}
use Rattle.rht_forms.specs.ResumeText.{IsResumeText}
use Rattle.rht_forms.specs.Printed.{HasPrinted, DealHeadline, LeaseHeadline, ResumeHeadline}
use Rattle.rht_forms.proofs.Headlines.{IsDone-served}

-- a text of what was read was printed
HasPrinted-written : {X : Type 0} (reading : List ℕ → Result X ScriptFault) (IsText : X → List ℕ → Type 0)
    (left left_after held held_after : Option (List ℕ)) (text : List ℕ)
    → IsPrintedOf reading IsText left left_after text → Appends held held_after text
    → HasPrinted reading IsText left left_after held held_after
HasPrinted-written reading IsText left left_after held held_after text of_said written = record {
  script = of_said.said;
  read = of_said.read;
  text = text;
  is_text = of_said.is_text;
  printed = written;
}

DealHeadline-printed : (left left_after held held_after : Option (List ℕ)) (text : List ℕ) → Prints Deal left left_after text
    → Appends held held_after text → DealHeadline left left_after held held_after
unfolding Prints
DealHeadline-printed left left_after held held_after text printed written =
    HasPrinted-written dealing_of IsDealText left left_after held held_after text printed written

LeaseHeadline-printed : (left left_after held held_after : Option (List ℕ)) (text : List ℕ) → Prints Lease left left_after text
    → Appends held held_after text → LeaseHeadline left left_after held held_after
unfolding Prints
LeaseHeadline-printed left left_after held held_after text printed written =
    HasPrinted-written lease_reading_of IsLeaseText left left_after held held_after text printed written

ResumeHeadline-printed : (left left_after held held_after : Option (List ℕ)) (text : List ℕ) → Prints Resume left left_after text
    → Appends held held_after text → ResumeHeadline left left_after held held_after
unfolding Prints
ResumeHeadline-printed left left_after held held_after text printed written =
    HasPrinted-written resume_reading_of IsResumeText left left_after held held_after text printed written

module _ {S O : Type 0} (left : S → Option (List ℕ)) (sfaults : S → ℕ) (held : O → Option (List ℕ)) (ofaults : O → ℕ)
    (form : Form) (s s' : S) (o o' : O) (served : Result (Unit {0}) Failure)
    (serves : Serves left sfaults held ofaults form s s' o o' served) (zero : status_of (ending_of served) ≡ 0) where
  -- for `deal`
  pub DealHeadline-served : Deal ≡ form → DealHeadline (left s) (left s') (held o) (held o')
  DealHeadline-served is =
      let done = IsDone-served left sfaults held ofaults form s s' o o' served serves zero in
      DealHeadline-printed (left s) (left s') (held o) (held o') done.text
      (subst (λ (f : Form). Prints f (left s) (left s') done.text) (sym is) done.printed) done.written

  -- and for `lease`
  pub LeaseHeadline-served : Lease ≡ form → LeaseHeadline (left s) (left s') (held o) (held o')
  LeaseHeadline-served is =
      let done = IsDone-served left sfaults held ofaults form s s' o o' served serves zero in
      LeaseHeadline-printed (left s) (left s') (held o) (held o') done.text
      (subst (λ (f : Form). Prints f (left s) (left s') done.text) (sym is) done.printed) done.written

  -- and for `resume`
  pub ResumeHeadline-served : Resume ≡ form → ResumeHeadline (left s) (left s') (held o) (held o')
  ResumeHeadline-served is =
      let done = IsDone-served left sfaults held ofaults form s s' o o' served serves zero in
      ResumeHeadline-printed (left s) (left s') (held o) (held o') done.text
      (subst (λ (f : Form). Prints f (left s) (left s') done.text) (sym is) done.printed) done.written
