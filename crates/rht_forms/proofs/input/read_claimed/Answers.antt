use Rattle.std.proofs.Common.{◌≡◌, ℕ, List, Ok, subst}
use Rattle.rht_check.specs.Reading.{claim_reading_of, said_by_claim}
use Rattle.rht_forms.proofs.ToldInput.{claim_bounded, IsReadAs-read}
use Rattle.rht_forms.proofs.input.read_claimed.Goals as goal

pub returns-clause-read : goal.returns-clause-read
returns-clause-read g c =
    let left = g.S.Source.left in
    let bytes = c.in_ok-bytes.bytes.items in
    let said = said_by_claim c.in_ok-read_claim.field-0 in
    let is_claim : claim_reading_of bytes ≡ Ok said =
    subst (λ (l : List ℕ). claim_reading_of l ≡ Ok said) c.deref.ensures.value c.in_ok-read_claim.ensures.claim in
    IsReadAs-read claim_reading_of claim_bounded (left c.args.source.now) (left c.read_all.new.source) bytes said c.in_ok-bytes.ensures.read is_claim
