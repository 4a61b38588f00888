-- An ordered map as bindings: what a look-up finds is what its entries say of the port, and what changes one key changes one port.
use Rattle.std.proofs.Common.{◌≡◌, ℕ, ◌==◌, Option, None, Some, List, [], ◌∷◌, refl, sym, ◌∙◌, ap, inl, inr, unwrap_or, arith}
use Rattle.std.proofs.lemmas.Bool.{cases_Bool, cases_eq, cases_order, eq-eqb, ne_eqb}
use Rattle.std.specs.declared.cmp.Ordering.TheVariants.{Less, Equal, Greater}
use Rattle.std.specs.Ordering.{nat_cmp, is_eq}
use Rattle.std.specs.Cmp.{nat_cmp_is}
use Rattle.std.specs.BTreeMap.{is_at}
use Rattle.rht_model.specs.Multimap.{Port, with_owners}
use Rattle.rht_model.specs.Listing.{listed_at}
use Rattle.rht_check.specs.Updates.{found_at, IsUpdated}
use Rattle.rht_model.proofs.PlainPairs.{same_bindings}

-- a key is at a port where it is that port
is_at-port : (port key : ℕ) → is_at (nat_cmp port) key ≡ (port == key)
is_at-port port key =
    elim (cases_order port key) [
      | inl same ↦ ap is_eq (sym (nat_cmp_is port key Equal same)) ∙ sym (eq-eqb port key same)
      | inr (inl below) ↦
          ap is_eq (sym (nat_cmp_is port key Less below)) ∙ sym (ne_eqb port key (λ same. omega arith))
      | inr (inr above) ↦
          ap is_eq (sym (nat_cmp_is port key Greater above)) ∙ sym (ne_eqb port key (λ same. omega arith))
    ]

-- By induction over the entries: they say of a port what a look-up finds.
pub listed_at-found : (entries : List (Port × List ℕ)) (port : Port) → listed_at entries port ≡ unwrap_or (found_at entries port) []
listed_at-found [] port = refl
listed_at-found (entry ∷ entries) port = rw (is_at-port port entry.0) (elim (cases_Bool (port == entry.0)) [
  | inl same ↦ rw same refl
  | inr other ↦ rw other (listed_at-found entries port)
])

-- an update of one key changes the owners of one port
pub listed_at-updated : (old new : List (Port × List ℕ)) (port : Port) (owners : Option (List ℕ))
    → IsUpdated old new port owners → listed_at new ≡ with_owners (listed_at old) port (unwrap_or owners [])
listed_at-updated old new port owners updated = same_bindings _ _ (λ other.
    listed_at-found new other ∙ ap (λ found. unwrap_or found []) (updated other) ∙ elim (cases_eq other port) [
      | inl same ↦ rw (is_at-port port other, eq-eqb port other (sym same), eq-eqb other port same) refl
      | inr differs ↦
          rw (is_at-port port other, ne_eqb port other (λ e. differs (sym e)), ne_eqb other port differs)
          (sym (listed_at-found old other))
    ])

-- the same with the owners that are told
pub listed_at-changed : (old new : List (Port × List ℕ)) (port : Port) (owners : Option (List ℕ)) (list : List ℕ)
    → IsUpdated old new port owners → unwrap_or owners [] ≡ list → listed_at new ≡ with_owners (listed_at old) port list
listed_at-changed old new port owners list updated are =
    listed_at-updated old new port owners updated ∙ ap (with_owners (listed_at old) port) are

-- the owners of a port that was found, and of one that wasn't
pub listed_at-there : (entries : List (Port × List ℕ)) (port : Port) (list : List ℕ)
    → found_at entries port ≡ Some list → listed_at entries port ≡ list
listed_at-there entries port list found = listed_at-found entries port ∙ ap (λ o. unwrap_or o []) found

pub listed_at-missing : (entries : List (Port × List ℕ)) (port : Port)
    → found_at entries port ≡ None → listed_at entries port ≡ []
listed_at-missing entries port none = listed_at-found entries port ∙ ap (λ o. unwrap_or o []) none
