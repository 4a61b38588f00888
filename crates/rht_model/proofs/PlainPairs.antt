-- A release takes the first pair of its port and its owner out of a plain list of pairs, and a rebind puts another one in its place.
-- The pairs before it have another port, or another owner of this port, so it is that of the first such owner of the port; and no other port
-- has an owner there.
use Rattle.std.proofs.Common.{◌≡◌, ◌≢◌, ℕ, ◌+◌, ◌<◌, ◌==◌, ◌&&◌, Bool, true, false, Some, None, List, [], ◌∷◌, length, get_or, set, suc, zero, refl, sym, ◌∙◌, ap, eq-eqb, arith, inl, inr}
use Rattle.std.proofs.lemmas.Bool.{ne_eqb, eqb-true, cases_eq, cases_Bool, and_parts, and_cases, both_ways}
use Rattle.std.proofs.lemmas.List.Quantifiers.{position-Some}
use Rattle.std.proofs.lemmas.Iterator.Adapters.{position_from-zero}
use Rattle.std.specs.List.{remove, position, position_from}
use Rattle.rht_model.specs.Multimap.{Multimap, Agree, with_owners}
use Rattle.rht_model.specs.Pairs.{bindings_in}
use Rattle.rht_model.specs.Answers.{owners_released, owners_rebound}
use Rattle.rht_model.proofs.FirstOwners.{IsAtFirst, IsAtFirst-released, IsAtFirst-rebound}

-- bindings that agree are one
pub same_bindings : (first second : Multimap) → Agree first second → first ≡ second
same_bindings first second agree = λ i port. agree port i

-- whether a pair has this port and this owner
abbrev pub is_pair : ℕ → ℕ → ℕ × ℕ → Bool
is_pair port owner pair = (pair.0 == port) && (pair.1 == owner)

-- An edit of the pair at a place: it makes this of the port's owners behind that pair, and gives no other port an owner.
record IsEdit (port : ℕ) (make : List ℕ → List ℕ) (edit : List (ℕ × ℕ) → ℕ → List (ℕ × ℕ)) : Type 0 where
  pub past : (pair : ℕ × ℕ) (pairs : List (ℕ × ℕ)) (place : ℕ) → edit (pair ∷ pairs) (suc place) ≡ pair ∷ edit pairs place
  pub here : (pair : ℕ × ℕ) (pairs : List (ℕ × ℕ)) → bindings_in (edit (pair ∷ pairs) 0) port ≡ make (bindings_in pairs port)
  pub elsewhere : (pair : ℕ × ℕ) (pairs : List (ℕ × ℕ)) (other : ℕ) → other ≢ port
      → bindings_in (edit (pair ∷ pairs) 0) other ≡ bindings_in pairs other

module _ (port owner : ℕ) (change make : List ℕ → List ℕ) (at_first : IsAtFirst owner change make) where
  -- a pair of another port or another owner stays before what is changed behind it
  kept : (pair : ℕ × ℕ) (pairs others : List (ℕ × ℕ)) → is_pair port owner pair ≡ false
      → bindings_in others port ≡ change (bindings_in pairs port)
      → bindings_in (pair ∷ others) port ≡ change (bindings_in (pair ∷ pairs) port)
  kept pair pairs others differs behind =
      elim (cases_Bool (pair.0 == port)) [
        | inl here ↦
            let other_owner : (pair.1 == owner) ≡ false = elim (and_cases _ _ differs) [
              | inl elsewhere ↦ absurd (both_ways _ elsewhere here)
              | inr other ↦ other
            ] in
            rw here
            (ap (λ owners. pair.1 ∷ owners) behind
            ∙ sym (at_first.past pair.1 (bindings_in pairs port) other_owner))
        | inr elsewhere ↦ rw elsewhere behind
      ]

  -- By induction over the pairs: with no pair of the port and the owner, the port has no such owner.
  none_changed : (pairs : List (ℕ × ℕ)) (start : ℕ) → position_from (is_pair port owner) start pairs ≡ None
      → bindings_in pairs port ≡ change (bindings_in pairs port)
  none_changed [] start none = sym at_first.none
  none_changed (pair ∷ pairs) start none =
      elim (cases_Bool (is_pair port owner pair)) [
        | inl same ↦
            let found : Some start ≡ None = rw same at none in
            cc
        | inr differs ↦ kept pair pairs pairs differs (none_changed pairs (start + 1) (rw differs at none))
      ]

  -- Bindings that differ by owners of one port alone.
  changed : (pairs others : List (ℕ × ℕ)) → bindings_in others port ≡ change (bindings_in pairs port)
      → ((other : ℕ) → other ≢ port → bindings_in others other ≡ bindings_in pairs other)
      → bindings_in others ≡ with_owners (bindings_in pairs) port (change (bindings_in pairs port))
  changed pairs others here elsewhere = same_bindings _ _ (λ other. elim (cases_eq other port) [
    | inl same ↦ rw (eq-eqb other port same, same) here
    | inr differs ↦ rw (ne_eqb other port differs) (elsewhere other differs)
  ])

  -- Where a list has no such pair, it stands for the changed bindings as it is.
  bindings_in-unedited : (pairs : List (ℕ × ℕ)) → position (is_pair port owner) pairs ≡ None
      → bindings_in pairs ≡ with_owners (bindings_in pairs) port (change (bindings_in pairs port))
  bindings_in-unedited pairs none =
      changed pairs pairs (none_changed pairs 0 (sym (position_from-zero (is_pair port owner) pairs) ∙ none))
      (λ other differs. refl)

  module _ (edit : List (ℕ × ℕ) → ℕ → List (ℕ × ℕ)) (is_edit : IsEdit port make edit) where
    -- By induction over the pairs, down to the first one of the port and the owner.
    edited_here : (pairs : List (ℕ × ℕ)) (place : ℕ) (d : ℕ × ℕ) → place < length pairs
        → is_pair port owner (get_or pairs place d) ≡ true
        → ((k : ℕ) → k < place → is_pair port owner (get_or pairs k d) ≡ false)
        → bindings_in (edit pairs place) port ≡ change (bindings_in pairs port)
    edited_here [] place d within here before = absurd (omega arith)
    edited_here (pair ∷ pairs) zero d within here before =
        let parts = and_parts (pair.0 == port) (pair.1 == owner) here in
        rw parts.0 (is_edit.here pair pairs ∙ sym (at_first.here pair.1 (bindings_in pairs port) parts.1))
    edited_here (pair ∷ pairs) (suc place) d within here before =
        ap (λ l. bindings_in l port) (is_edit.past pair pairs place)
        ∙ kept pair pairs (edit pairs place) (before 0 (omega arith))
        (edited_here pairs place d (omega arith) here (λ k below. before (suc k) (omega arith)))

    -- By induction over the pairs, down to the one that is edited: another port has its owners.
    edited_elsewhere : (pairs : List (ℕ × ℕ)) (place : ℕ) (d : ℕ × ℕ) (other : ℕ) → other ≢ port
        → place < length pairs
        → is_pair port owner (get_or pairs place d) ≡ true
        → bindings_in (edit pairs place) other ≡ bindings_in pairs other
    edited_elsewhere [] place d other differs within here = absurd (omega arith)
    edited_elsewhere (pair ∷ pairs) zero d other differs within here =
        let same = eqb-true pair.0 port (and_parts (pair.0 == port) (pair.1 == owner) here).0 in
        rw (ne_eqb pair.0 other (λ e. differs (sym e ∙ same))) (is_edit.elsewhere pair pairs other differs)
    edited_elsewhere (pair ∷ pairs) (suc place) d other differs within here =
        let behind = edited_elsewhere pairs place d other differs (omega arith) here in
        ap (λ l. bindings_in l other) (is_edit.past pair pairs place)
        ∙ elim (cases_Bool (pair.0 == other)) [
          | inl same ↦ rw same (ap (λ owners. pair.1 ∷ owners) behind)
          | inr not_same ↦ rw not_same behind
        ]

    -- Edited at its first pair of the port and the owner, a list stands for the changed bindings.
    bindings_in-edited : (pairs : List (ℕ × ℕ)) (place : ℕ) → position (is_pair port owner) pairs ≡ Some place
        → bindings_in (edit pairs place) ≡ with_owners (bindings_in pairs) port (change (bindings_in pairs port))
    bindings_in-edited pairs place first =
        let d : ℕ × ℕ = (0, 0) in
        let found = position-Some (is_pair port owner) pairs place d first in
        changed pairs (edit pairs place) (edited_here pairs place d found.0 found.1 found.2)
        (λ other differs. edited_elsewhere pairs place d other differs found.0 found.1)

module _ (port owner : ℕ) where
  abbrev released : Multimap → Multimap
  released bindings = with_owners bindings port (owners_released owner (bindings port))

  -- Without its first pair of the port and the owner, a list stands for the bindings after the release.
  pub bindings_in-remove : (pairs : List (ℕ × ℕ)) (place : ℕ) → position (is_pair port owner) pairs ≡ Some place
      → bindings_in (remove pairs place) ≡ released (bindings_in pairs)
  bindings_in-remove =
      bindings_in-edited port owner (owners_released owner) (λ others. others) (IsAtFirst-released owner) remove
      (record {
        past = λ pair pairs place. refl;
        here = λ pair pairs. refl;
        elsewhere = λ pair pairs other differs. refl;
      })

  -- Where it has no such pair, it stands for the bindings after the release as it is.
  pub bindings_in-unreleased : (pairs : List (ℕ × ℕ)) → position (is_pair port owner) pairs ≡ None
      → bindings_in pairs ≡ released (bindings_in pairs)
  bindings_in-unreleased =
      bindings_in-unedited port owner (owners_released owner) (λ others. others) (IsAtFirst-released owner)

module _ (port owner new : ℕ) where
  abbrev rebound : Multimap → Multimap
  rebound bindings = with_owners bindings port (owners_rebound owner new (bindings port))

  -- With a pair of the new owner in the place of its first one, a list stands for the bindings after the rebind.
  pub bindings_in-set : (pairs : List (ℕ × ℕ)) (place : ℕ) → position (is_pair port owner) pairs ≡ Some place
      → bindings_in (set pairs place (port, new)) ≡ rebound (bindings_in pairs)
  bindings_in-set =
      bindings_in-edited port owner (owners_rebound owner new) (λ others. new ∷ others) (IsAtFirst-rebound owner new)
      (λ pairs place. set pairs place (port, new))
      (record {
        past = λ pair pairs place. refl;
        here = λ pair pairs. rw (eq-eqb port port refl) refl;
        elsewhere = λ pair pairs other differs. rw (ne_eqb port other (λ e. differs (sym e))) refl;
      })

  -- Where it has no such pair, it stands for the bindings after the rebind as it is.
  pub bindings_in-unrebound : (pairs : List (ℕ × ℕ)) → position (is_pair port owner) pairs ≡ None
      → bindings_in pairs ≡ rebound (bindings_in pairs)
  bindings_in-unrebound =
      bindings_in-unedited port owner (owners_rebound owner new) (λ others. new ∷ others) (IsAtFirst-rebound owner new)
