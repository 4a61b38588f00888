-- What the model makes of some commands, as the definitions compute it.
-- They are examples to read beside the definitions; nothing cites them.
use Rattle.std.proofs.Common.{◌≡◌, false, List, [], ◌∷◌, refl}
use Rattle.rht_words.specs.declared.config.Kind.TheVariants.{Single, Listed}
use Rattle.rht_model.specs.declared.history.Call.{Call}
use Rattle.rht_model.specs.declared.history.Call.TheVariants.{Bind, Find, Release}
use Rattle.rht_lease.specs.declared.lease.Lease.{Lease}
use Rattle.rht_lease.specs.declared.lease.LeaseCall.{LeaseCall}
use Rattle.rht_lease.specs.declared.lease.LeaseCall.TheVariants as asks
use Rattle.rht_lease.specs.Books.{lease_of}
use Rattle.rht_lease.specs.Modelled.{nothing_leased, behind_commands, modelled_calls}

-- Two leases and a bind; a lease whose last tick is the moment of the sweep hasn't ended; the second one is renewed, and ends later.
abbrev two_leases : List LeaseCall
two_leases =
    asks.Lease (lease_of 80 1 10) ∷ asks.Lease (lease_of 81 1 20) ∷ asks.Plain (Bind 82 1 false) ∷ asks.Sweep 10 ∷ asks.Renew (lease_of 81 1 30)
    ∷ asks.Sweep 25 ∷ asks.Sweep 31 ∷ asks.Plain (Find 82) ∷ asks.Renew (lease_of 80 1 40) ∷ []

pub two_leases-calls : modelled_calls Single nothing_leased two_leases
    ≡ Bind 80 1 false ∷ Bind 81 1 false ∷ Bind 82 1 false ∷ Release 80 1 ∷ Release 81 1 ∷ Find 82 ∷ []
two_leases-calls = refl

pub two_leases-left : (behind_commands Single nothing_leased two_leases).leases ≡ []
two_leases-left = refl

-- A lease of a port that is bound isn't kept where each port has one owner. So its cancel finds none, and a sweep releases nothing. In a table of
-- lists it is kept, and the cancel releases it.
abbrev bound_before : List LeaseCall
bound_before = asks.Plain (Bind 80 5 false) ∷ asks.Lease (lease_of 80 1 10) ∷ asks.Cancel 80 1 ∷ asks.Sweep 99 ∷ []

pub bound_before-calls : modelled_calls Single nothing_leased bound_before ≡ Bind 80 5 false ∷ Bind 80 1 false ∷ []
bound_before-calls = refl

pub bound_before-bound : (behind_commands Single nothing_leased bound_before).bindings 80 ≡ 5 ∷ []
bound_before-bound = refl

pub bound_before-listed_calls : modelled_calls Listed nothing_leased bound_before ≡ Bind 80 5 false ∷ Bind 80 1 false ∷ Release 80 1 ∷ []
bound_before-listed_calls = refl

pub bound_before-listed : (behind_commands Listed nothing_leased bound_before).bindings 80 ≡ 5 ∷ []
bound_before-listed = refl
