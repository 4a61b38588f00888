-- Where the source tells its bytes and nothing fails, whole input is served and input at fault refused:
-- told input isn't both, and has one first fault. So a run that ends otherwise ends for want of memory.
use Rattle.std.proofs.Common.{◌≡◌, ℕ, ◌⊎◌, List, Option, Result, Some, Ok, Err, refl, ap, subst, inl, inr}
use Rattle.rht_io.specs.Told.{Rose}
use Rattle.rht_script.specs.declared.script.ScriptFault.{ScriptFault}
use Rattle.rht_script.specs.Text.{fault_line}
use Rattle.rht_forms.specs.declared.form.Form.{Form}
use Rattle.rht_forms.specs.declared.form.Form.TheVariants.{Gen}
use Rattle.rht_forms.specs.declared.ending.Failure.{Failure}
use Rattle.rht_forms.specs.declared.ending.Failure.TheVariants.{Fault, Read, Write, Memory}
use Rattle.rht_forms.specs.Forms.{Prints, HasInput, IsFaultOf}
use Rattle.rht_forms.specs.Endings.{Serves, ending_of, ending_line, status_of}
use Rattle.rht_forms.proofs.ToldInput.{not_both, HasInput-printed, one_fault}

-- A form that reads nothing is served whatever the source is: it has no fault in its input, and reads no script.
pub served_unread : {S O : Type 0} (left : S → Option (List ℕ)) (sfaults : S → ℕ) (held : O → Option (List ℕ)) (ofaults : O → ℕ)
    (number : ℕ) (s s' : S) (o o' : O) (served : Result (Unit {0}) Failure)
    → Serves left sfaults held ofaults (Gen number) s s' o o' served → (Rose (ofaults o) (ofaults o') → ⊥)
    → (status_of (ending_of served) ≡ 0) ⊎ (status_of (ending_of served) ≡ 5)
unfolding IsFaultOf
served_unread left sfaults held ofaults number s s' o o' (Ok all) serves writes = inl refl
served_unread left sfaults held ofaults number s s' o o' (Err (Fault fault)) serves writes = absurd serves.0
served_unread left sfaults held ofaults number s s' o o' (Err Read) serves writes = absurd serves.2
served_unread left sfaults held ofaults number s s' o o' (Err Write) serves writes = absurd (writes serves.0)
served_unread left sfaults held ofaults number s s' o o' (Err Memory) serves writes = inr refl

module _ {S O : Type 0} (left : S → Option (List ℕ)) (sfaults : S → ℕ) (held : O → Option (List ℕ))
    (ofaults : O → ℕ) (form : Form) (s s' : S) (o o' : O) (bytes : List ℕ) (rest : Option (List ℕ))
    (told : left s ≡ Some bytes) where
  -- where a text was printed the told bytes are the form's input
  was_read : (text : List ℕ) → Prints form (left s) (left s') text → HasInput form (Some bytes) (left s')
  was_read text printed =
      subst (λ l. HasInput form l (left s')) told (HasInput-printed form (left s) (left s') text printed)

  pub served_whole : (served : Result (Unit {0}) Failure)
      → Serves left sfaults held ofaults form s s' o o' served
      → HasInput form (Some bytes) rest
      → (Rose (sfaults s) (sfaults s') → ⊥) → (Rose (ofaults o) (ofaults o') → ⊥)
      → (status_of (ending_of served) ≡ 0) ⊎ (status_of (ending_of served) ≡ 5)
  served_whole (Ok all) serves input reads writes = inl refl
  served_whole (Err (Fault fault)) serves input reads writes =
      absurd (not_both form bytes rest (left s') fault input
      (subst (λ l. IsFaultOf form l (left s') fault) told serves.0))
  served_whole (Err Read) serves input reads writes = absurd (reads serves.0)
  served_whole (Err Write) serves input reads writes = absurd (writes serves.0)
  served_whole (Err Memory) serves input reads writes = inr refl

  pub refused_fault : (served : Result (Unit {0}) Failure)
      → Serves left sfaults held ofaults form s s' o o' served
      → (fault : ScriptFault) → IsFaultOf form (Some bytes) rest fault
      → (Rose (sfaults s) (sfaults s') → ⊥)
      → ((status_of (ending_of served) ≡ 2) × (ending_line (ending_of served) ≡ fault_line fault))
      ⊎ (status_of (ending_of served) ≡ 5)
  refused_fault (Ok all) serves fault refused reads =
      absurd (not_both form bytes (left s') rest fault (was_read serves.text serves.printed) refused)
  refused_fault (Err (Fault named)) serves fault refused reads =
      let same = one_fault form bytes rest (left s') fault named refused
      (subst (λ l. IsFaultOf form l (left s') named) told serves.0) in
      inl (refl, ap fault_line same)
  refused_fault (Err Read) serves fault refused reads = absurd (reads serves.0)
  refused_fault (Err Write) serves fault refused reads =
      absurd (not_both form bytes (left s') rest fault (was_read serves.1.text serves.1.printed) refused)
  refused_fault (Err Memory) serves fault refused reads = inr refl
