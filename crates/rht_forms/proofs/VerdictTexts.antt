-- The text of the verdict on a claimed history is what the form `check` prints.
use Rattle.std.proofs.Common.{List, ℕ, Option, refl}
use Rattle.rht_check.specs.declared.claim.Claim.{Claim}
use Rattle.rht_check.specs.declared.claim.Verdict.{Verdict}
use Rattle.rht_check.specs.Reading.{said_by_claim}
use Rattle.rht_check.specs.Text.{verdict_text}
use Rattle.rht_check.specs.Verdicts.{IsVerdict}
use Rattle.rht_forms.specs.declared.form.Form.TheVariants.{Check}
use Rattle.rht_forms.specs.Input.{IsClaimRead}
use Rattle.rht_forms.specs.Forms.{Prints}

-- where the claimed history was read
pub Prints-judged : (left left_after : Option (List ℕ)) (claim : Claim) (verdict : Verdict)
    → IsClaimRead left left_after (said_by_claim claim) → IsVerdict claim verdict
    → Prints Check left left_after (verdict_text verdict)
unfolding Prints
Prints-judged left left_after claim verdict read judged = record {
  said = said_by_claim claim;
  read = read;
  is_text = record {
    claim = claim;
    says = refl;
    verdict = verdict;
    judged = judged;
    written = refl;
  };
}
