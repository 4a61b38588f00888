use Rattle.std.proofs.Common.{◌≡◌, ℕ, List, Ok, subst}
use Rattle.rht_resume.specs.Reading.{resume_reading_of, said_by_resume}
use Rattle.rht_forms.proofs.ToldInput.{resume_bounded, IsReadAs-read}
use Rattle.rht_forms.proofs.input.read_resuming.Goals as goal

pub returns-clause-read : goal.returns-clause-read
returns-clause-read g c =
    let left = g.S.Source.left in
    let bytes = c.in_ok-bytes.bytes.items in
    let said = said_by_resume c.in_ok-read_resume.field-0 in
    let is_script : resume_reading_of bytes ≡ Ok said =
    subst (λ (l : List ℕ). resume_reading_of l ≡ Ok said) c.deref.ensures.value c.in_ok-read_resume.ensures.script in
    IsReadAs-read resume_reading_of resume_bounded (left c.args.source.now) (left c.read_all.new.source) bytes said c.in_ok-bytes.ensures.read is_script
