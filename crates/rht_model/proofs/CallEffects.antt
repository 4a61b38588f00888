-- A call changes its own port alone, and in a table of one owner each it leaves each port at most one.
-- Every call that changes bindings gives one port other owners.
use Rattle.std.proofs.Common.{◌≡◌, ◌≢◌, ℕ, ◌≤◌, ◌==◌, List, [], ◌∷◌, length, suc, refl, sym, ap, eq-eqb, arith, Some}
use Rattle.std.proofs.lemmas.Bool.{ne_eqb, cond_both}
use Rattle.rht_words.specs.declared.config.Kind.{Kind}
use Rattle.rht_words.specs.declared.config.Kind.TheVariants as kinds
use Rattle.rht_model.specs.declared.history.Call.{Call}
use Rattle.rht_model.specs.declared.history.Call.TheVariants.{Bind, Find, All, Release, Rebind, Walk, Work, Tidy, Count}
use Rattle.rht_model.specs.declared.history.Entry.{Entry}
use Rattle.rht_model.specs.Multimap.{Multimap, IsSingle, unbound, with_owners}
use Rattle.rht_model.specs.Answers.{port_of, bindings_after, owners_bound, owners_released, owners_rebound, is_refusal}
use Rattle.rht_model.specs.Histories.{left_by, bindings_left}

-- the port has the owners that it was given
pub with_owners-same : (bindings : Multimap) (port : ℕ) (owners : List ℕ)
    → with_owners bindings port owners port ≡ owners
with_owners-same bindings port owners = rw (eq-eqb port port refl) refl

-- every other port has the owners that it had
pub with_owners-other : (bindings : Multimap) (port other : ℕ) (owners : List ℕ) → other ≢ port
    → with_owners bindings port owners other ≡ bindings other
with_owners-other bindings port other owners differs = rw (ne_eqb other port differs) refl

-- a call changes the owners of no other port than its own
pub bindings_after-other : (kind : Kind) (bindings : Multimap) (call : Call) (other : ℕ)
    → port_of call ≢ Some other
    → bindings_after kind bindings call other ≡ bindings other
bindings_after-other kind bindings (Bind port owner once) other differs =
    with_owners-other bindings port other _ (λ same. differs (ap (λ p. Some p) (sym same)))
bindings_after-other kind bindings (Release port owner) other differs =
    with_owners-other bindings port other _ (λ same. differs (ap (λ p. Some p) (sym same)))
bindings_after-other kind bindings (Rebind port owner new) other differs =
    with_owners-other bindings port other _ (λ same. differs (ap (λ p. Some p) (sym same)))
bindings_after-other kind bindings (Find port) other differs = refl
bindings_after-other kind bindings (All port) other differs = refl
bindings_after-other kind bindings (Walk from limit) other differs = refl
bindings_after-other kind bindings Work other differs = refl
bindings_after-other kind bindings Tidy other differs = refl
bindings_after-other kind bindings Count other differs = refl

-- where nothing is bound, no port has two owners
pub IsSingle-unbound : IsSingle unbound
IsSingle-unbound port = omega arith

-- with at most one owner of one port, no port has two
pub IsSingle-with_owners : (bindings : Multimap) (port : ℕ) (owners : List ℕ) → length owners ≤ 1
    → IsSingle bindings
    → IsSingle (with_owners bindings port owners)
IsSingle-with_owners bindings port owners one single other =
    cond_both (other == port) owners (bindings other) (λ list. length list ≤ 1) (λ here. one)
    (λ elsewhere. single other)

-- where a port has at most one owner, a bind in a table of one owner each leaves it one
pub length-owners_bound : (owner : ℕ) (owners : List ℕ) → length owners ≤ 1
    → length (owners_bound kinds.Single owner owners) ≤ 1
length-owners_bound owner [] one = omega arith
length-owners_bound owner (first ∷ others) one = one

-- By induction over the owners: a release adds none.
pub length-owners_released : (owner : ℕ) (owners : List ℕ)
    → length (owners_released owner owners) ≤ length owners
length-owners_released owner [] = omega arith
length-owners_released owner (first ∷ others) =
    cond_both (first == owner) others (first ∷ owners_released owner others)
    (λ list. length list ≤ length (first ∷ others))
    (λ here. omega arith)
    (λ elsewhere. omega (arith, length-owners_released owner others))

-- By induction over the owners: a rebind leaves as many.
pub length-owners_rebound : (owner new : ℕ) (owners : List ℕ)
    → length (owners_rebound owner new owners) ≡ length owners
length-owners_rebound owner new [] = refl
length-owners_rebound owner new (first ∷ others) =
    cond_both (first == owner) (new ∷ others) (first ∷ owners_rebound owner new others)
    (λ list. length list ≡ length (first ∷ others))
    (λ here. refl)
    (λ elsewhere. ap suc (length-owners_rebound owner new others))

-- In a table of one owner each, no call gives a port two.
pub IsSingle-bindings_after : (bindings : Multimap) (call : Call) → IsSingle bindings
    → IsSingle (bindings_after kinds.Single bindings call)
IsSingle-bindings_after bindings (Bind port owner once) single =
    IsSingle-with_owners bindings port _ (length-owners_bound owner (bindings port) (single port)) single
IsSingle-bindings_after bindings (Release port owner) single =
    let fewer = length-owners_released owner (bindings port) in
    IsSingle-with_owners bindings port _ (omega (arith, fewer, single port)) single
IsSingle-bindings_after bindings (Rebind port owner new) single =
    let as_many = length-owners_rebound owner new (bindings port) in
    IsSingle-with_owners bindings port _ (omega (arith, as_many, single port)) single
IsSingle-bindings_after bindings (Find port) single = single
IsSingle-bindings_after bindings (All port) single = single
IsSingle-bindings_after bindings (Walk from limit) single = single
IsSingle-bindings_after bindings Work single = single
IsSingle-bindings_after bindings Tidy single = single
IsSingle-bindings_after bindings Count single = single

-- By induction over the history: in a table of one owner each, it gives no port two.
pub IsSingle-bindings_left : (bindings : Multimap) (history : List Entry) → IsSingle bindings
    → IsSingle (bindings_left kinds.Single bindings history)
IsSingle-bindings_left bindings [] single = single
IsSingle-bindings_left bindings (entry ∷ history) single =
    IsSingle-bindings_left (left_by kinds.Single bindings entry) history
    (cond_both (is_refusal entry.reply) bindings (bindings_after kinds.Single bindings entry.call) IsSingle
    (λ refused. single)
    (λ answered. IsSingle-bindings_after bindings entry.call single))
