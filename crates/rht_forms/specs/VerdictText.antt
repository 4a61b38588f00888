-- The text that `check` prints for what a claimed history says: the verdict on it.
use Rattle.std.specs.Prelude.{◌≡◌, ℕ, List}
use Rattle.rht_check.specs.declared.claim.Claim.{Claim}
use Rattle.rht_check.specs.declared.claim.Verdict.{Verdict}
use Rattle.rht_check.specs.Reading.{SaidClaim, said_by_claim}
use Rattle.rht_check.specs.Text.{verdict_text}
use Rattle.rht_check.specs.Verdicts.{IsVerdict}

-- The text is that of the verdict on a claimed history which says this.
pub record IsVerdictText (said : SaidClaim) (text : List ℕ) : Type 0 where
  pub claim : Claim
  pub says : said_by_claim claim ≡ said
  pub verdict : Verdict
  pub judged : IsVerdict claim verdict
  pub written : text ≡ verdict_text verdict
