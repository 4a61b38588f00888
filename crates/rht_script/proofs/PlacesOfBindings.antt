-- The port and the owners at a place of bindings are the pair there.
use Rattle.std.proofs.Common.{◌≡◌, ℕ, zero, suc, List, [], ◌∷◌, Some, ap, ◌∙◌}
use Rattle.std.specs.List.{slice_get}
use Rattle.rht_model.specs.Listing.{ports_of, owners_of}

-- by induction over the pairs
pub pair_at : (pairs : List (ℕ × List ℕ)) (i port : ℕ) (owners : List ℕ)
    → slice_get (ports_of pairs) i ≡ Some port → slice_get (owners_of pairs) i ≡ Some owners
    → slice_get pairs i ≡ Some (port, owners)
pair_at [] i port owners port_here owners_here = absurd (cc)
pair_at (pair ∷ pairs) zero port owners port_here owners_here =
    let same_port : pair.0 ≡ port = cc in
    let same_owners : pair.1 ≡ owners = cc in
    ap (λ p. Some (p, pair.1)) same_port ∙ ap (λ o. Some (port, o)) same_owners
pair_at (pair ∷ pairs) (suc i) port owners port_here owners_here =
    pair_at pairs i port owners port_here owners_here
