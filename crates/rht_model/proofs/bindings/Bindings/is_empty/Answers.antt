use Rattle.std.proofs.Common.{◌≡◌, length, vec_len, arith, ap, ◌∙◌, sym}
use Rattle.std.proofs.lemmas.Bool.{eqb-true, eq-eqb}
use Rattle.std.proofs.lemmas.List.{nil_from_length}
use Rattle.rht_model.proofs.FlatPairs.{length-pairs_of}
use Rattle.rht_model.proofs.bindings.Bindings.is_empty.Goals as goal

pub returns : goal.returns
returns c =
    let heads = c.self.inside.heads in
    let count = length-pairs_of heads.items c.self.inside.owners.items in
    let pairs = ap (λ l. length l.pairs) (sym c.self.view_is) ∙ count in
    let says = sym c.is_empty.ensures in
    let none_from = λ (zero : vec_len heads ≡ 0). nil_from_length c.args.self.now.pairs
    (omega (arith, heads.ok.0)) in
    let zero_from = λ (none : length c.args.self.now.pairs ≡ 0). eq-eqb (vec_len heads) 0
    (omega (arith, heads.ok.0)) in
    (λ yes. none_from (eqb-true _ _ (says ∙ yes)), λ none. sym says ∙ zero_from (ap (λ l. length l) none))
