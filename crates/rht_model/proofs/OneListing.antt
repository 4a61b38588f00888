-- Bindings have one listing, and it is that of any ports among which are the bound ones.
-- Two listings of the same bindings are compared port by port from the lowest on: a port that one of
-- them has and the other doesn't would be bound in one and unbound in the other.
-- A listing of ports gives each of them its owners; ports in another order, twice or without an owner
-- change nothing in that.
use Rattle.std.proofs.Common.{◌≡◌, ◌≢◌, ℕ, get_or, ◌<◌, ◌≤◌, ◌==◌, nat_lt, if◌then◌else◌, Bool, true, false, List, [], ◌∷◌, length, map, filter, All, Contains, suc, zero, refl, sym, ◌∙◌, ap, subst, eq-eqb, arith, inl, inr}
use Rattle.std.proofs.lemmas.Bool.{ne_eqb, cond_both, cond-false, cases_eq, cases_order, eqb-true, ltb-true, ltb-false}
use Rattle.std.proofs.lemmas.List.{nil_from_length}
use Rattle.std.proofs.lemmas.List.Elements.{All-head, All-tail, All-map, All-weaker, filter_passes}
use Rattle.std.proofs.lemmas.List.Kept.{IsStrictlyIncreasing-filter}
use Rattle.std.specs.List.Sorted.{IsStrictlyIncreasing}
use Rattle.rht_model.specs.Multimap.{Multimap, Agree, is_bound}
use Rattle.rht_model.specs.Listing.{ports_of, listed_at, Lists, inserted, rising, listing_of}
use Rattle.rht_model.proofs.RisingPorts.{RisesFrom, RisesFrom-from_increasing, RisesFrom-rising, IsStrictlyIncreasing-from_rises}

-- each pair has an owner
abbrev AllBound : List (ℕ × List ℕ) → Type 0
AllBound pairs = All (λ pair. pair.1 ≢ []) pairs

-- By induction over the pairs: a port below all of them isn't listed.
listed_at-below : (low : ℕ) (pairs : List (ℕ × List ℕ)) (port : ℕ) → RisesFrom low (ports_of pairs)
    → port < low
    → listed_at pairs port ≡ []
listed_at-below low [] port rises below = refl
listed_at-below low (pair ∷ pairs) port rises below =
    rw (ne_eqb port pair.0 (omega (arith, rises.0)))
    (listed_at-below (suc pair.0) pairs port rises.1 (omega (arith, rises.0)))

-- the first pair's port has the first pair's owners
listed_at-first : (pair : ℕ × List ℕ) (pairs : List (ℕ × List ℕ)) → listed_at (pair ∷ pairs) pair.0 ≡ pair.1
listed_at-first pair pairs = rw (eq-eqb pair.0 pair.0 refl) refl

-- the first pair's port can't be listed without owners
first_is_listed : (pair : ℕ × List ℕ) (pairs : List (ℕ × List ℕ)) → AllBound (pair ∷ pairs)
    → listed_at (pair ∷ pairs) pair.0 ≡ [] → ⊥
first_is_listed pair pairs bound unlisted =
    All-head (λ p. p.1 ≢ []) pair pairs bound (sym (listed_at-first pair pairs) ∙ unlisted)

-- listings that agree agree without their first pairs, where these have the same port
Agree-tails : (first second : ℕ × List ℕ) (firsts seconds : List (ℕ × List ℕ)) → first.0 ≡ second.0
    → RisesFrom (suc first.0) (ports_of firsts) → RisesFrom (suc second.0) (ports_of seconds)
    → Agree (listed_at (first ∷ firsts)) (listed_at (second ∷ seconds))
    → Agree (listed_at firsts) (listed_at seconds)
Agree-tails first second firsts seconds same rises others agree port =
    elim (cases_eq port first.0) [
      | inl here ↦
          listed_at-below (suc first.0) firsts port rises (omega arith)
          ∙ sym (listed_at-below (suc second.0) seconds port others (omega arith))
      | inr elsewhere ↦
          let not_first = ne_eqb port first.0 elsewhere in
          let not_second = ne_eqb port second.0 (λ e. elsewhere (e ∙ sym same)) in
          sym (cond-false _ first.1 (listed_at firsts port) not_first)
          ∙ agree port
          ∙ cond-false _ second.1 (listed_at seconds port) not_second
    ]

-- pairs of the same port and the same owners are the same
same_pair : (first second : ℕ × List ℕ) → first.0 ≡ second.0 → first.1 ≡ second.1 → first ≡ second
same_pair first second port owners = ap (λ p. (p, first.1)) port ∙ ap (λ o. (second.0, o)) owners

-- By induction over both lists of pairs: the lower of two first ports would be listed in one alone.
same_pairs : (low : ℕ) (firsts seconds : List (ℕ × List ℕ))
    → RisesFrom low (ports_of firsts) → RisesFrom low (ports_of seconds) → AllBound firsts → AllBound seconds
    → Agree (listed_at firsts) (listed_at seconds) → firsts ≡ seconds
same_pairs low [] [] rises others bound others_bound agree = refl
same_pairs low [] (second ∷ seconds) rises others bound others_bound agree =
    absurd (first_is_listed second seconds others_bound (sym (agree second.0)))
same_pairs low (first ∷ firsts) [] rises others bound others_bound agree =
    absurd (first_is_listed first firsts bound (agree first.0))
same_pairs low (first ∷ firsts) (second ∷ seconds) rises others bound others_bound agree =
    elim (cases_order first.0 second.0) [
      | inl same ↦
          let listed = ap (listed_at (second ∷ seconds)) same ∙ listed_at-first second seconds in
          let owners : first.1 ≡ second.1 = sym (listed_at-first first firsts) ∙ agree first.0 ∙ listed in
          let rises_too = subst (λ port. RisesFrom (suc port) (ports_of seconds)) (sym same) others.1 in
          let bound_behind = All-tail (λ pair. pair.1 ≢ []) first firsts bound in
          let bound_behind_too = All-tail (λ pair. pair.1 ≢ []) second seconds others_bound in
          let agree_behind = Agree-tails first second firsts seconds same rises.1 others.1 agree in
          let tails =
          same_pairs (suc first.0) firsts seconds rises.1 rises_too bound_behind bound_behind_too
          agree_behind in
          ap (λ pair. pair ∷ firsts) (same_pair first second same owners) ∙ ap (λ pairs. second ∷ pairs) tails
      | inr (inl below) ↦
          let unlisted = listed_at-below second.0 (second ∷ seconds) first.0 (omega arith, others.1) below in
          absurd (first_is_listed first firsts bound (agree first.0 ∙ unlisted))
      | inr (inr above) ↦
          let unlisted = listed_at-below first.0 (first ∷ firsts) second.0 (omega arith, rises.1) above in
          absurd (first_is_listed second seconds others_bound (sym (agree second.0) ∙ unlisted))
    ]

-- Two listings of the same bindings are the same list.
pub Lists-unique : (pairs others : List (ℕ × List ℕ)) (bindings same : Multimap)
    → Lists pairs bindings → Lists others same → Agree bindings same → pairs ≡ others
Lists-unique pairs others bindings same lists too agree =
    same_pairs 0 pairs others
    (RisesFrom-from_increasing 0 (ports_of pairs) (λ some. omega arith) lists.rising)
    (RisesFrom-from_increasing 0 (ports_of others) (λ some. omega arith) too.rising)
    lists.bound too.bound
    (λ port. lists.agree port ∙ agree port ∙ sym (too.agree port))

-- a choice made twice is made once
if_once : {X : Type 0} (test : Bool) (one other : X)
    → (if test then one else if test then one else other) ≡ (if test then one else other)
if_once true one other = refl
if_once false one other = refl

-- two choices can be made in either order where they agree if both are made
if_swapped : {X : Type 0} (test test' : Bool) (one one' other : X) → (test ≡ true → test' ≡ true → one ≡ one')
    → (if test then one else if test' then one' else other) ≡ (if test' then one' else if test then one
    else other)
if_swapped true true one one' other same = same refl refl
if_swapped true false one one' other same = refl
if_swapped false true one one' other same = refl
if_swapped false false one one' other same = refl

module _ (bindings : Multimap) where
  -- a port that passes the test has owners
  is_bound-nonempty : (port : ℕ) → is_bound bindings port ≡ true → bindings port ≢ []
  is_bound-nonempty port bound none =
      absurd (omega (arith, ltb-true 0 (length (bindings port)) bound, ap (λ owners. length owners) none))

  -- these ports, each with its owners
  abbrev with_bindings : List ℕ → List (ℕ × List ℕ)
  with_bindings ports = map (λ port. (port, bindings port)) ports

  ports_of-with_bindings : (ports : List ℕ) → ports_of (with_bindings ports) ≡ ports
  ports_of-with_bindings [] = refl
  ports_of-with_bindings (port ∷ ports) = ap (λ others. port ∷ others) (ports_of-with_bindings ports)

  -- By induction over the ports: a port without owners is listed without any.
  listed_at-unbound : (ports : List ℕ) (port : ℕ) → bindings port ≡ []
      → listed_at (with_bindings ports) port ≡ []
  listed_at-unbound [] port unbound = refl
  listed_at-unbound (first ∷ ports) port unbound =
      cond_both (port == first) (bindings first) (listed_at (with_bindings ports) port)
      (λ owners. owners ≡ [])
      (λ here. ap bindings (sym (eqb-true port first here)) ∙ unbound)
      (λ elsewhere. listed_at-unbound ports port unbound)

  -- By induction over the ports: a port among them is listed with its owners.
  listed_at-contained : (ports : List ℕ) (port k : ℕ) → k < length ports → get_or ports k port ≡ port
      → listed_at (with_bindings ports) port ≡ bindings port
  listed_at-contained [] port k within is = absurd (omega arith)
  listed_at-contained (first ∷ ports) port zero within is = rw (eq-eqb port first (sym is)) (ap bindings is)
  listed_at-contained (first ∷ ports) port (suc k) within is =
      cond_both (port == first) (bindings first) (listed_at (with_bindings ports) port)
      (λ owners. owners ≡ bindings port)
      (λ here. ap bindings (sym (eqb-true port first here)))
      (λ elsewhere. listed_at-contained ports port k (omega arith) is)

  -- a port that is given twice running is listed as if given once
  listed_at-again : (number first : ℕ) (ports : List ℕ) (port : ℕ) → number ≡ first
      → listed_at (with_bindings (first ∷ ports)) port ≡ listed_at
      (with_bindings (number ∷ first ∷ ports)) port
  listed_at-again number first ports port same =
      let rest = listed_at (with_bindings ports) port in
      let once = if port == first then bindings first else rest in
      subst (λ n. once ≡ (if port == n then bindings n else once)) (sym same)
      (sym (if_once (port == first) (bindings first) rest))

  -- two ports are listed alike in either order
  listed_at-swapped : (number first : ℕ) (ports : List ℕ) (port : ℕ)
      → listed_at (with_bindings (first ∷ number ∷ ports)) port ≡ listed_at
      (with_bindings (number ∷ first ∷ ports)) port
  listed_at-swapped number first ports port =
      let rest = listed_at (with_bindings ports) port in
      if_swapped (port == first) (port == number) (bindings first) (bindings number) rest
      (λ here there. ap bindings (sym (eqb-true port first here) ∙ eqb-true port number there))

  -- By induction over the ports: the place at which a number goes in makes no difference.
  listed_at-inserted : (number : ℕ) (ports : List ℕ) (port : ℕ)
      → listed_at (with_bindings (inserted number ports)) port ≡ listed_at
      (with_bindings (number ∷ ports)) port
  listed_at-inserted number [] port = refl
  listed_at-inserted number (first ∷ ports) port =
      let all = listed_at (with_bindings (number ∷ first ∷ ports)) port in
      let Same : List ℕ → Type 0 = λ list. listed_at (with_bindings list) port ≡ all in
      let behind : Same (first ∷ inserted number ports) =
      ap (λ others. if port == first then bindings first else others) (listed_at-inserted number ports port)
      ∙ listed_at-swapped number first ports port in
      let at_or_behind = cond_both (number == first) (first ∷ ports) (first ∷ inserted number ports) Same
      (λ same. listed_at-again number first ports port (eqb-true number first same)) (λ other. behind) in
      cond_both (nat_lt number first) (number ∷ first ∷ ports) _ Same (λ before. refl)
      (λ not_before. at_or_behind)

  -- By induction over the ports: each is listed alike wherever it goes in.
  listed_at-rising : (ports : List ℕ) (port : ℕ)
      → listed_at (with_bindings (rising ports)) port ≡ listed_at (with_bindings ports) port
  listed_at-rising [] port = refl
  listed_at-rising (first ∷ ports) port =
      listed_at-inserted first (rising ports) port
      ∙ ap (λ others. if port == first then bindings first else others) (listed_at-rising ports port)

  -- a port without owners can be left out
  listed_at-without : (first : ℕ) (ports : List ℕ) (port : ℕ) → bindings first ≡ []
      → listed_at (with_bindings ports) port ≡ listed_at (with_bindings (first ∷ ports)) port
  listed_at-without first ports port none =
      let rest = listed_at (with_bindings ports) port in
      let unbound = λ (here : port ≡ first). listed_at-unbound ports port (ap bindings here ∙ none)
      ∙ sym none in
      cond_both (port == first) (bindings first) rest (λ owners. rest ≡ owners)
      (λ here. unbound (eqb-true port first here))
      (λ elsewhere. refl)

  -- By induction over the ports: those that are left out have no owners.
  listed_at-filter : (ports : List ℕ) (port : ℕ)
      → listed_at (with_bindings (filter (is_bound bindings) ports)) port ≡ listed_at
      (with_bindings ports) port
  listed_at-filter [] port = refl
  listed_at-filter (first ∷ ports) port =
      let kept = ap (λ others. if port == first then bindings first else others)
      (listed_at-filter ports port) in
      let none = λ (few : length (bindings first) ≤ 0). nil_from_length (bindings first) (omega arith) in
      let left_out = λ (few : length (bindings first) ≤ 0).
      listed_at-filter ports port ∙ listed_at-without first ports port (none few) in
      cond_both (is_bound bindings first) _ _
      (λ list. listed_at (with_bindings list) port ≡ listed_at (with_bindings (first ∷ ports)) port)
      (λ bound. kept)
      (λ unbound. left_out (ltb-false 0 (length (bindings first)) unbound))

  -- the listing says of a port among the given ones, and of an unbound one, what the bindings say
  listed_at-listing_of : (ports : List ℕ) (port : ℕ) (owners : List ℕ) → bindings port ≡ owners
      → (bindings port ≢ [] → Contains ports port)
      → listed_at (listing_of ports bindings) port ≡ bindings port
  listed_at-listing_of ports port [] is among =
      listed_at-filter (rising ports) port ∙ listed_at-rising ports port
      ∙ listed_at-unbound ports port is ∙ sym is
  listed_at-listing_of ports port (owner ∷ owners) is among =
      let place = among (λ none. cc) in
      listed_at-filter (rising ports) port
      ∙ listed_at-rising ports port
      ∙ listed_at-contained ports port place.0 place.1 place.2

-- Where the bound ports are among the given ones, their listing is one of the bindings.
pub Lists-listing_of : (ports : List ℕ) (bindings : Multimap)
    → ((port : ℕ) → bindings port ≢ [] → Contains ports port)
    → Lists (listing_of ports bindings) bindings
Lists-listing_of ports bindings among =
    let kept = filter (is_bound bindings) (rising ports) in
    let all_rise = IsStrictlyIncreasing-from_rises 0 (rising ports) (RisesFrom-rising ports) in
    let rises = IsStrictlyIncreasing-filter (is_bound bindings) (rising ports) all_rise in
    let IsBound : ℕ → Type 0 = λ port. bindings port ≢ [] in
    let each_bound = All-weaker (λ port. is_bound bindings port ≡ true) IsBound
    (is_bound-nonempty bindings) kept
    (filter_passes (is_bound bindings) (rising ports)) in
    record {
      rising = subst IsStrictlyIncreasing (sym (ports_of-with_bindings bindings kept)) rises;
      bound = All-map (λ pair. pair.1 ≢ []) (λ port. (port, bindings port)) kept each_bound;
      agree = λ port. listed_at-listing_of bindings ports port (bindings port) refl (among port);
    }
