-- What is bound at the end has one list: that of what the words stand for. Each port that is bound has a node among those that are met,
-- whose key word is the port; so the ports among these key words, each with its owners, are all that is bound.
use Rattle.std.proofs.Common.{◌≡◌, ◌≢◌, ℕ, zero, suc, Option, Some, None, List, [], ◌∷◌, ◌++◌, map, Contains, refl, sym, ◌∙◌, ap, inl, inr, arith}
use Rattle.std.specs.List.{flat_map}
use Rattle.std.proofs.lemmas.Bool.{eqb-true}
use Rattle.rht_words.specs.declared.geometry.Geometry.{Geometry}
use Rattle.rht_words.specs.Members.{In}
use Rattle.rht_words.proofs.Members.{find-Some}
use Rattle.rht_words.specs.Places.{Node, KeyWord, word_at}
use Rattle.rht_model.specs.declared.bindings.Closed.{Closed}
use Rattle.rht_model.proofs.OneListing.{Lists-unique, Lists-listing_of}
use Rattle.rht_core.specs.StandsFor.{has_key, first_node, list_from, owners_at, stands_for}
use Rattle.rht_core.specs.Closing.{current_size, nodes_met, IsClosedOf}
use Rattle.rht_script.specs.Text.{port_line, last_line, bound_text, closed_text}
use Rattle.rht_registry.specs.Replays.{bound_in}

-- By induction over the members: what one of them is mapped to is in the list of what all are.
Contains-map : (f : ℕ → ℕ) (xs : List ℕ) (x y : ℕ) → In x xs → f x ≡ y → Contains (map f xs) y
Contains-map f [] x y i is = absurd i
Contains-map f (head ∷ xs) x y (inl same) is = (0, omega arith, ap f (sym same) ∙ is)
Contains-map f (head ∷ xs) x y (inr later) is =
    let place = Contains-map f xs x y later is in
    (suc place.0, omega (arith, place.1), place.2)

module _ (g : Geometry) (words : List ℕ) where
  abbrev key : ℕ → ℕ
  key node = word_at g words (Node node KeyWord)

  -- no node comes behind none
  none_behind : (left : ℕ) → list_from g words left None ≡ []
  none_behind zero = refl
  none_behind (suc left) = refl

  -- the owners behind a first node
  abbrev owners_behind : Option ℕ → List ℕ
  owners_behind first = owners_at g words (list_from g words g.nodes first)

  found_among : (port : ℕ) (first : Option ℕ) → first_node g words port ≡ first → owners_behind first ≢ []
      → Contains (map key (nodes_met g words)) port
  found_among port None is bound = absurd (bound (ap (owners_at g words) (none_behind g.nodes)))
  found_among port (Some node) is bound =
      let found = find-Some (has_key g words port) (nodes_met g words) node is in
      Contains-map key (nodes_met g words) node port found.0 (eqb-true (key node) port found.1)

  bound_among : (port : ℕ) → stands_for g words port ≢ [] → Contains (map key (nodes_met g words)) port
  bound_among port = found_among port (first_node g words port) refl

  -- so the lines of what was closed are those of what the words stand for
  pub closed_text-bound_in : (closed : Closed) → IsClosedOf g words closed
      → closed_text closed ≡ bound_text (bound_in g words) (current_size g words)
  closed_text-bound_in closed is =
      let pairs = closed.bindings.pairs in
      let same : pairs ≡ bound_in g words =
      Lists-unique pairs (bound_in g words) (stands_for g words) (stands_for g words) is.bound
      (Lists-listing_of (map key (nodes_met g words)) (stands_for g words) bound_among) (λ port. refl) in
      ap (λ keys. flat_map port_line pairs ++ last_line closed.size keys) is.keys
      ∙ ap (λ size. bound_text pairs size) is.size
      ∙ ap (λ list. bound_text list (current_size g words)) same
