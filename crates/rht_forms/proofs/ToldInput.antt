-- Reading told input: what was read to its end is all of it, and what was read of longer input shows that it
-- is too long. So told input says one thing or has one first fault, and never both.
-- That is so of each reading for which one byte more than a script can have decides (`IsBounded`).
-- Here alone it is looked at what reading a form's input means.
use Rattle.std.proofs.Common.{◌≡◌, ℕ, ◌<◌, List, [], ◌++◌, length, take, drop, Option, None, Some, Result, Ok, Err, refl, sym, ap, ◌∙◌, subst, inl, inr, arith, append-nil, take-append-drop}
use Rattle.std.specs.Io.KnownBytes.{Consumes, IsAtEnd}
use Rattle.std.proofs.lemmas.Bool.{cases_lt}
use Rattle.std.proofs.lemmas.List.{length-take-le}
use Rattle.rht_script.specs.declared.script.ScriptFault.{ScriptFault}
use Rattle.rht_script.specs.Dealt.{dealt_of, dealing_of}
use Rattle.rht_script.specs.Grammar.{Said, most_bytes, script_by, reading_of}
use Rattle.rht_script.proofs.ReadingLemmas.{reading_by-front, reading_by-long, reading_of-front, reading_of-long}
use Rattle.rht_lease.specs.Reading.{SaidLeases, leases_from, lease_reading_of}
use Rattle.rht_resume.specs.Reading.{SaidResume, resume_from, resume_reading_of}
use Rattle.rht_check.specs.Reading.{SaidClaim, claimed_from, claim_reading_of}
use Rattle.rht_forms.specs.declared.form.Form.{Form}
use Rattle.rht_forms.specs.declared.form.Form.TheVariants.{Run, Replay, Gen, Deal, Lease, Check, Resume}
use Rattle.rht_forms.specs.Input.{IsRead, IsReadAs, IsAtFault, IsScriptRead, IsDealRead, IsLeaseRead, IsResumeRead, IsClaimRead}
use Rattle.rht_forms.specs.Forms.{ReadsScript, Prints, HasInput, IsFaultOf}

-- what was read of told bytes, to their end, is all of them
all_read : (bytes piece : List ℕ) (left_after : Option (List ℕ))
    → Consumes (Some bytes) left_after piece
    → IsAtEnd left_after → piece ≡ bytes
all_read bytes piece None taken ended = absurd taken
all_read bytes piece (Some rest) taken ended =
    sym (append-nil piece) ∙ ap (λ l. piece ++ l) (sym ended) ∙ sym taken

-- what was read of told bytes begins them
begins : (bytes piece : List ℕ) (left_after : Option (List ℕ)) → Consumes (Some bytes) left_after piece
    → (rest : List ℕ) × (bytes ≡ piece ++ rest)
begins bytes piece None taken = absurd taken
begins bytes piece (Some rest) taken = (rest, taken)

-- One byte more than a script can have decides such a reading: what stands behind it changes nothing, and the bytes are at fault.
pub record IsBounded {X : Type 0} (reading : List ℕ → Result X ScriptFault) : Type 0 where
  pub front : (bytes front behind : List ℕ) → bytes ≡ front ++ behind → most_bytes < length front
      → reading bytes ≡ reading front
  pub long : (bytes : List ℕ) (said : X) → most_bytes < length bytes → reading bytes ≡ Ok said → ⊥

pub script_bounded : IsBounded reading_of
script_bounded = record {
  front = reading_of-front;
  long = λ bytes said long says. (let fault = reading_of-long bytes long in cc);
}

pub deal_bounded : IsBounded dealing_of
unfolding dealing_of
deal_bounded = record {
  front = reading_by-front (script_by dealt_of);
  long = λ bytes said long says. (let fault = reading_by-long (script_by dealt_of) bytes long in cc);
}

pub lease_bounded : IsBounded lease_reading_of
unfolding lease_reading_of
lease_bounded = record {
  front = reading_by-front leases_from;
  long = λ bytes said long says. (let fault = reading_by-long leases_from bytes long in cc);
}

pub resume_bounded : IsBounded resume_reading_of
unfolding resume_reading_of
resume_bounded = record {
  front = reading_by-front resume_from;
  long = λ bytes said long says. (let fault = reading_by-long resume_from bytes long in cc);
}

pub claim_bounded : IsBounded claim_reading_of
unfolding claim_reading_of
claim_bounded = record {
  front = reading_by-front claimed_from;
  long = λ bytes said long says. (let fault = reading_by-long claimed_from bytes long in cc);
}

module _ {X : Type 0} (reading : List ℕ → Result X ScriptFault) (bounded : IsBounded reading) where
  -- what was read of told bytes is what they say
  said_told : (bytes : List ℕ) (left_after : Option (List ℕ)) (said : X) → IsReadAs reading (Some bytes) left_after said
      → reading bytes ≡ Ok said
  said_told bytes left_after said read =
      subst (λ l. reading l ≡ Ok said) (all_read bytes read.bytes left_after read.taken read.to_end) read.says

  -- the first fault of what was read of told bytes is their own
  fault_told : (bytes : List ℕ) (left_after : Option (List ℕ)) (fault : ScriptFault) → IsAtFault reading (Some bytes) left_after fault
      → reading bytes ≡ Err fault
  fault_told bytes left_after fault refused = elim refused.read.enough [
    | inl whole ↦ subst (λ l. reading l ≡ Err fault) (all_read bytes refused.bytes left_after
        refused.read.taken whole.0) refused.first
    | inr long ↦
        let front = begins bytes refused.bytes left_after refused.read.taken in
        bounded.front bytes refused.bytes front.0 front.1 (omega (arith, long)) ∙ refused.first
  ]

  -- told bytes don't both say something and have a fault
  said_or_fault : (bytes : List ℕ) (rest left_after : Option (List ℕ)) (said : X) (fault : ScriptFault)
      → IsReadAs reading (Some bytes) rest said → IsAtFault reading (Some bytes) left_after fault → ⊥
  said_or_fault bytes rest left_after said fault input refused =
      let says = said_told bytes rest said input in
      let faulty = fault_told bytes left_after fault refused in cc

  -- and they have one first fault
  one_first : (bytes : List ℕ) (rest left_after : Option (List ℕ)) (first second : ScriptFault)
      → IsAtFault reading (Some bytes) rest first → IsAtFault reading (Some bytes) left_after second → second ≡ first
  one_first bytes rest left_after first second one other =
      let is_first = fault_told bytes rest first one in
      let is_second = fault_told bytes left_after second other in cc

  -- told bytes that say something can be read
  pub IsReadAs-told : (bytes : List ℕ) (said : X) → reading bytes ≡ Ok said → IsReadAs reading (Some bytes) (Some []) said
  IsReadAs-told bytes said says = record {
    bytes = bytes;
    taken = sym (append-nil bytes);
    to_end = refl;
    says = says;
  }

  -- and so can told bytes with a first fault
  pub IsAtFault-told : (bytes : List ℕ) (fault : ScriptFault) → reading bytes ≡ Err fault
      → (rest : Option (List ℕ)) × IsAtFault reading (Some bytes) rest fault
  IsAtFault-told bytes fault first = elim (cases_lt (length bytes) 16777217) [
    | inl few ↦ (
      Some [],
      record {
        bytes = bytes;
        read = record { taken = sym (append-nil bytes); enough = inl (refl, omega (arith, few)) };
        first = first;
      },
    )
    | inr many ↦
        let front = take 16777217 bytes in
        let parts : bytes ≡ front ++ drop 16777217 bytes = sym (take-append-drop 16777217 bytes) in
        let long : length front ≡ 16777217 = length-take-le 16777217 bytes many in (
          Some (drop 16777217 bytes),
          record {
            bytes = front;
            read = record { taken = parts; enough = inr long };
            first = sym (bounded.front bytes front (drop 16777217 bytes) parts (omega (arith, long)))
                ∙ first;
          },
        )
  ]

  -- bytes that say something were the whole input
  to_end : (left left_after : Option (List ℕ)) (bytes : List ℕ) (said : X) → IsRead left left_after bytes
      → reading bytes ≡ Ok said → IsAtEnd left_after
  to_end left left_after bytes said read says = elim read.enough [
    | inl whole ↦ whole.0
    | inr long ↦ absurd (bounded.long bytes said (omega (arith, long)) says)
  ]

  -- so they were read to its end
  pub IsReadAs-read : (left left_after : Option (List ℕ)) (bytes : List ℕ) (said : X) → IsRead left left_after bytes
      → reading bytes ≡ Ok said → IsReadAs reading left left_after said
  IsReadAs-read left left_after bytes said read says = record {
    bytes = bytes;
    taken = read.taken;
    to_end = to_end left left_after bytes said read says;
    says = says;
  }

-- ---- forms

-- told input isn't both whole and at fault
pub not_both : (form : Form) (bytes : List ℕ) (rest left_after : Option (List ℕ)) (fault : ScriptFault)
    → HasInput form (Some bytes) rest → IsFaultOf form (Some bytes) left_after fault → ⊥
unfolding HasInput IsFaultOf
not_both Run bytes rest left_after fault input refused =
    said_or_fault reading_of script_bounded bytes rest left_after input.said fault input.read refused
not_both Replay bytes rest left_after fault input refused =
    said_or_fault reading_of script_bounded bytes rest left_after input.said fault input.read refused
not_both (Gen number) bytes rest left_after fault input refused = absurd refused
not_both Deal bytes rest left_after fault input refused =
    said_or_fault dealing_of deal_bounded bytes rest left_after input.said fault input.read refused
not_both Lease bytes rest left_after fault input refused =
    said_or_fault lease_reading_of lease_bounded bytes rest left_after input.said fault input.read refused
not_both Check bytes rest left_after fault input refused =
    said_or_fault claim_reading_of claim_bounded bytes rest left_after input.said fault input.read refused
not_both Resume bytes rest left_after fault input refused =
    said_or_fault resume_reading_of resume_bounded bytes rest left_after input.said fault input.read refused

-- where a form prints a text its input was read
pub HasInput-printed : (form : Form) (left left_after : Option (List ℕ)) (text : List ℕ) → Prints form left left_after text
    → HasInput form left left_after
unfolding HasInput Prints
HasInput-printed Run left left_after text printed = record { said = printed.said; read = printed.read }
HasInput-printed Replay left left_after text printed = record { said = printed.said; read = printed.read }
HasInput-printed (Gen number) left left_after text printed = printed.0
HasInput-printed Deal left left_after text printed = record { said = printed.said; read = printed.read }
HasInput-printed Lease left left_after text printed = record { said = printed.said; read = printed.read }
HasInput-printed Check left left_after text printed = record { said = printed.said; read = printed.read }
HasInput-printed Resume left left_after text printed = record { said = printed.said; read = printed.read }

-- told input has one first fault
pub one_fault : (form : Form) (bytes : List ℕ) (rest left_after : Option (List ℕ))
    (first second : ScriptFault)
    → IsFaultOf form (Some bytes) rest first → IsFaultOf form (Some bytes) left_after second
    → second ≡ first
unfolding IsFaultOf
one_fault Run bytes rest left_after first second one other =
    one_first reading_of script_bounded bytes rest left_after first second one other
one_fault Replay bytes rest left_after first second one other =
    one_first reading_of script_bounded bytes rest left_after first second one other
one_fault (Gen number) bytes rest left_after first second one other = absurd one
one_fault Deal bytes rest left_after first second one other =
    one_first dealing_of deal_bounded bytes rest left_after first second one other
one_fault Lease bytes rest left_after first second one other =
    one_first lease_reading_of lease_bounded bytes rest left_after first second one other
one_fault Check bytes rest left_after first second one other =
    one_first claim_reading_of claim_bounded bytes rest left_after first second one other
one_fault Resume bytes rest left_after first second one other =
    one_first resume_reading_of resume_bounded bytes rest left_after first second one other

-- a script that was read is the input of a form that reads one
pub HasInput-script : (form : Form) → ReadsScript form → (left left_after : Option (List ℕ)) (said : Said)
    → IsScriptRead left left_after said → HasInput form left left_after
unfolding HasInput
HasInput-script Run reads left left_after said read = record { said = said; read = read }
HasInput-script Replay reads left left_after said read = record { said = said; read = read }
HasInput-script (Gen number) reads left left_after said read = absurd reads
HasInput-script Deal reads left left_after said read = absurd reads
HasInput-script Lease reads left left_after said read = absurd reads
HasInput-script Check reads left left_after said read = absurd reads
HasInput-script Resume reads left left_after said read = absurd reads

-- and other bytes that were read are input that is at fault
pub IsFaultOf-script : (form : Form) → ReadsScript form → (left left_after : Option (List ℕ)) (fault : ScriptFault)
    → IsAtFault reading_of left left_after fault → IsFaultOf form left left_after fault
unfolding IsFaultOf
IsFaultOf-script Run reads left left_after fault read = read
IsFaultOf-script Replay reads left left_after fault read = read
IsFaultOf-script (Gen number) reads left left_after fault read = absurd reads
IsFaultOf-script Deal reads left left_after fault read = absurd reads
IsFaultOf-script Lease reads left left_after fault read = absurd reads
IsFaultOf-script Check reads left left_after fault read = absurd reads
IsFaultOf-script Resume reads left left_after fault read = absurd reads

-- a dealt script that was read is the input of `deal`, and other bytes are input that is at fault
pub HasInput-deal : (left left_after : Option (List ℕ)) (said : Said) → IsDealRead left left_after said
    → HasInput Deal left left_after
unfolding HasInput
HasInput-deal left left_after said read = record { said = said; read = read }

pub IsFaultOf-deal : (left left_after : Option (List ℕ)) (fault : ScriptFault) → IsAtFault dealing_of left left_after fault
    → IsFaultOf Deal left left_after fault
unfolding IsFaultOf
IsFaultOf-deal left left_after fault read = read

-- a lease script that was read is the input of `lease`, and other bytes are input that is at fault
pub HasInput-leases : (left left_after : Option (List ℕ)) (said : SaidLeases) → IsLeaseRead left left_after said
    → HasInput Lease left left_after
unfolding HasInput
HasInput-leases left left_after said read = record { said = said; read = read }

pub IsFaultOf-leases : (left left_after : Option (List ℕ)) (fault : ScriptFault) → IsAtFault lease_reading_of left left_after fault
    → IsFaultOf Lease left left_after fault
unfolding IsFaultOf
IsFaultOf-leases left left_after fault read = read

-- a resume script that was read is the input of `resume`, and other bytes are input that is at fault
pub HasInput-resume : (left left_after : Option (List ℕ)) (said : SaidResume) → IsResumeRead left left_after said
    → HasInput Resume left left_after
unfolding HasInput
HasInput-resume left left_after said read = record { said = said; read = read }

pub IsFaultOf-resume : (left left_after : Option (List ℕ)) (fault : ScriptFault) → IsAtFault resume_reading_of left left_after fault
    → IsFaultOf Resume left left_after fault
unfolding IsFaultOf
IsFaultOf-resume left left_after fault read = read

-- a claimed history that was read is the input of `check`, and other bytes are input that is at fault
pub HasInput-claim : (left left_after : Option (List ℕ)) (said : SaidClaim) → IsClaimRead left left_after said
    → HasInput Check left left_after
unfolding HasInput
HasInput-claim left left_after said read = record { said = said; read = read }

pub IsFaultOf-claim : (left left_after : Option (List ℕ)) (fault : ScriptFault) → IsAtFault claim_reading_of left left_after fault
    → IsFaultOf Check left left_after fault
unfolding IsFaultOf
IsFaultOf-claim left left_after fault read = read

-- input that is left as it is is that of `gen`
pub HasInput-gen : (number : ℕ) (left : Option (List ℕ)) → HasInput (Gen number) left left
unfolding HasInput
HasInput-gen number left = refl
