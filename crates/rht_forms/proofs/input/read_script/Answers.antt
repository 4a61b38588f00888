use Rattle.std.proofs.Common.{◌≡◌, ℕ, List, Ok, subst}
use Rattle.rht_script.specs.Grammar.{reading_of}
use Rattle.rht_script.specs.Reading.{said_by}
use Rattle.rht_forms.proofs.ToldInput.{script_bounded, IsReadAs-read}
use Rattle.rht_forms.proofs.input.read_script.Goals as goal

pub returns-clause-read : goal.returns-clause-read
returns-clause-read g c =
    let left = g.S.Source.left in
    let bytes = c.in_ok-bytes.bytes.items in
    let said = said_by c.in_ok-read.field-0 in
    let is_script : reading_of bytes ≡ Ok said =
    subst (λ (l : List ℕ). reading_of l ≡ Ok said) c.deref.ensures.value c.in_ok-read.ensures.script in
    IsReadAs-read reading_of script_bounded (left c.args.source.now) (left c.read_all.new.source) bytes said c.in_ok-bytes.ensures.read is_script
