use Rattle.std.proofs.Common.{◌≡◌, ℕ, List, Ok, subst}
use Rattle.rht_lease.specs.Reading.{lease_reading_of, said_by_leases}
use Rattle.rht_forms.proofs.ToldInput.{lease_bounded, IsReadAs-read}
use Rattle.rht_forms.proofs.input.read_leasing.Goals as goal

pub returns-clause-read : goal.returns-clause-read
returns-clause-read g c =
    let left = g.S.Source.left in
    let bytes = c.in_ok-bytes.bytes.items in
    let said = said_by_leases c.in_ok-read_leases.field-0 in
    let is_script : lease_reading_of bytes ≡ Ok said =
    subst (λ (l : List ℕ). lease_reading_of l ≡ Ok said) c.deref.ensures.value c.in_ok-read_leases.ensures.script in
    IsReadAs-read lease_reading_of lease_bounded (left c.args.source.now) (left c.read_all.new.source) bytes said c.in_ok-bytes.ensures.read is_script
