-- Entries whose calls speak of different ports may change places.
-- Neither changes the owners that the other's call reads, so each is answered as before; and of a port
-- that one of them speaks of the other changes nothing, so both orders leave it the same owners.
use Rattle.std.proofs.Common.{◌≡◌, ◌≢◌, ℕ, ◌⊎◌, Option, Some, None, List, ◌∷◌, sym, ◌∙◌, ap, inl, inr}
use Rattle.std.proofs.lemmas.Bool.{cases_eq}
use Rattle.rht_words.specs.declared.config.Kind.{Kind}
use Rattle.rht_model.specs.declared.history.Entry.{Entry}
use Rattle.rht_model.specs.Multimap.{Multimap, Agree}
use Rattle.rht_model.specs.Answers.{port_of, answer_of}
use Rattle.rht_model.specs.Histories.{IsLegalAt, IsLegalFrom, left_by, bindings_left}
use Rattle.rht_model.proofs.OwnPort.{answer_of-own_port, left_by-own_port, left_by-other}
use Rattle.rht_model.proofs.Agreements.{IsLegalAt-answer_of, IsLegalFrom-Agree, bindings_left-Agree}

-- a port is some other one's or not
is_port : (maybe : Option ℕ) (port : ℕ) → (maybe ≡ Some port) ⊎ (maybe ≢ Some port)
is_port None port = inr (λ same. cc)
is_port (Some other) port =
    elim (cases_eq other port) [
      | inl same ↦ inl (ap (λ p. Some p) same)
      | inr differs ↦ inr (λ same. differs (cc))
    ]

module _ (kind : Kind) (bindings : Multimap) (first second : Entry)
    (apart : port_of first.call ≢ port_of second.call) where
  -- behind an entry of another port a call has the answer that it has without it
  answer_of-behind : answer_of kind (left_by kind bindings first) second.call ≡ answer_of kind bindings
      second.call
  answer_of-behind =
      answer_of-own_port kind (left_by kind bindings first) bindings second.call
      (λ port own. left_by-other kind bindings first port (λ same. apart (same ∙ sym own)))

  -- an entry is legal behind one of another port exactly where it is without it
  IsLegalAt-behind : IsLegalAt kind bindings second → IsLegalAt kind (left_by kind bindings first) second
  IsLegalAt-behind = IsLegalAt-answer_of kind bindings (left_by kind bindings first) second
      (sym answer_of-behind)

  IsLegalAt-before : IsLegalAt kind (left_by kind bindings first) second → IsLegalAt kind bindings second
  IsLegalAt-before = IsLegalAt-answer_of kind (left_by kind bindings first) bindings second answer_of-behind

  -- Both orders leave the same bindings: of each port at most one of the two entries speaks.
  left_by-swapped : Agree (left_by kind (left_by kind bindings first) second)
      (left_by kind (left_by kind bindings second) first)
  left_by-swapped port =
      let after_first = left_by kind bindings first in
      let after_second = left_by kind bindings second in
      let not_first = λ (differs : port_of first.call ≢ Some port).
      left_by-own_port kind after_first bindings second port (left_by-other kind bindings first port differs)
      ∙ sym (left_by-other kind after_second first port differs) in
      let not_second = λ (differs : port_of second.call ≢ Some port).
      left_by-other kind after_first second port differs
      ∙ sym (left_by-own_port kind after_second bindings first port
      (left_by-other kind bindings second port differs)) in
      elim (is_port (port_of first.call) port) [
        | inl same ↦ not_second (λ other. apart (same ∙ sym other))
        | inr differs ↦ not_first differs
      ]

-- two entries of different ports are legal in the other order too
pub IsLegalFrom-swapped : (kind : Kind) (bindings : Multimap) (first second : Entry) (behind : List Entry)
    → port_of first.call ≢ port_of second.call
    → IsLegalFrom kind bindings (first ∷ second ∷ behind)
    → IsLegalFrom kind bindings (second ∷ first ∷ behind)
IsLegalFrom-swapped kind bindings first second behind apart legal =
    let apart' = λ (same : port_of second.call ≡ port_of first.call). apart (sym same) in (
      IsLegalAt-before kind bindings first second apart legal.1.0,
      (
        IsLegalAt-behind kind bindings second first apart' legal.0,
        IsLegalFrom-Agree kind _ _ behind (left_by-swapped kind bindings first second apart) legal.1.1,
      ),
    )

-- and leave the same bindings
pub bindings_left-swapped : (kind : Kind) (bindings : Multimap) (first second : Entry) (behind : List Entry)
    → port_of first.call ≢ port_of second.call
    → Agree (bindings_left kind bindings (first ∷ second ∷ behind))
    (bindings_left kind bindings (second ∷ first ∷ behind))
bindings_left-swapped kind bindings first second behind apart =
    bindings_left-Agree kind _ _ behind (left_by-swapped kind bindings first second apart)
