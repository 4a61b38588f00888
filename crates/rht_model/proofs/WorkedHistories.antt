-- Histories that are legal, and two that aren't, as the definitions compute them.
-- They are examples to read beside the definitions; nothing cites them.
use Rattle.std.proofs.Common.{◌≡◌, ℕ, List, [], ◌∷◌, true, false, refl, ap, unwrap_or, inl, inr}
use Rattle.rht_words.specs.declared.config.Kind.TheVariants.{Single, Listed as listed}
use Rattle.rht_model.specs.declared.history.Call.{Call}
use Rattle.rht_model.specs.declared.history.Call.TheVariants.{Bind, Find, All as all, Release, Count}
use Rattle.rht_model.specs.declared.history.Reply.{Reply}
use Rattle.rht_model.specs.declared.history.Reply.TheVariants.{Bound, Exists, Found, Missing, Listed, Released, Absent, NoNode, Counted}
use Rattle.rht_model.specs.declared.history.Entry.{Entry}
use Rattle.rht_model.specs.Multimap.{unbound}
use Rattle.rht_model.specs.Answers.{plain}
use Rattle.rht_model.specs.Listing.{listing_of}
use Rattle.rht_model.specs.Histories.{IsLegal, bindings_left}

-- an entry of the first caller that comes with no list
abbrev entry : Call → Reply → Entry
entry call reply = record { caller = 0; call = call; reply = reply; owners = [] }

-- an entry of the first caller that lists a port
abbrev list_of : ℕ → ℕ → List ℕ → Entry
list_of port len owners = record { caller = 0; call = all port; reply = Listed len; owners = owners }

-- a port is bound, found, released and missed
abbrev bound_and_released : List Entry
bound_and_released =
    entry (Bind 80 100 false) (Bound true)
    ∷ entry (Find 80) (Found 100)
    ∷ entry (Release 80 100) (Released false)
    ∷ entry (Find 80) Missing
    ∷ []

pub IsLegal-bound_and_released : IsLegal Single bound_and_released
IsLegal-bound_and_released = (inl refl, (inl refl, (inl refl, (inl refl, tt))))

-- in a table of one owner each, the second owner is told the first and can't release it
abbrev bound_twice : List Entry
bound_twice =
    entry (Bind 80 100 false) (Bound false) ∷ entry (Bind 80 7 false) (Exists 100) ∷ entry (Release 80 7)
    Absent ∷ []

pub IsLegal-bound_twice : IsLegal Single bound_twice
IsLegal-bound_twice = (inl refl, (inl refl, (inl refl, tt)))

pub listing_of-bound_twice : listing_of (80 ∷ []) (bindings_left Single unbound bound_twice) ≡ (
  80,
  100 ∷ [],
) ∷ []
listing_of-bound_twice = refl

-- in a table of lists the last owner is the first
abbrev three_owners : List Entry
three_owners =
    entry (Bind 80 1 false) (Bound false)
    ∷ entry (Bind 80 2 false) (Bound false)
    ∷ entry (Bind 80 3 false) (Bound false)
    ∷ list_of 80 3 (3 ∷ 2 ∷ 1 ∷ [])
    ∷ entry (Release 80 3) (Released false)
    ∷ entry (Find 80) (Found 2)
    ∷ entry (Release 80 1) (Released true)
    ∷ list_of 80 1 (2 ∷ [])
    ∷ list_of 81 0 []
    ∷ []

pub IsLegal-three_owners : IsLegal listed three_owners
IsLegal-three_owners = (
  inl refl,
  (inl refl, (inl refl, (inl refl, (inl refl, (inl refl, (inl refl, (inl refl, (inl refl, tt)))))))),
)

pub listing_of-three_owners : listing_of (81 ∷ 80 ∷ 80 ∷ [])
    (bindings_left listed unbound three_owners) ≡ (80, 2 ∷ []) ∷ []
listing_of-three_owners = refl

-- a refusal changes nothing
abbrev refused_then_bound : List Entry
refused_then_bound =
    entry (Bind 80 1 false) NoNode ∷ entry (Find 80) Missing ∷ entry (Bind 80 1 false) (Bound false) ∷ []

pub IsLegal-refused_then_bound : IsLegal Single refused_then_bound
IsLegal-refused_then_bound = (inr (tt, refl), (inl refl, (inl refl, tt)))

-- a bound port can't be missed
pub IsLegal-missed : IsLegal Single (entry (Bind 80 100 false) (Bound false) ∷ entry (Find 80) Missing ∷ [])
    → ⊥
IsLegal-missed legal =
    elim legal.1.0 [
      | inl answered ↦
          let same : Found 100 ≡ Missing = ap (λ answer. (unwrap_or answer (plain Missing)).reply) answered in
          cc
      | inr refused ↦ refused.0
    ]

-- a count is no call on bindings
pub IsLegal-counted : IsLegal Single (entry Count (Counted 0) ∷ []) → ⊥
IsLegal-counted legal = elim legal.0 [ inl answered ↦ cc | inr refused ↦ refused.0 ]
