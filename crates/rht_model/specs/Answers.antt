-- What a call answers on bindings, and what it changes.
-- Calls that aren't about bindings have no answer here: walks, work, tidying and counting.
use Rattle.std.specs.Prelude.{ℕ, ◌==◌, if◌then◌else◌, true, false, Bool, Option, Some, None, List, [], ◌∷◌, length}
use Rattle.std.specs.List.{list_any}
use Rattle.rht_words.specs.declared.config.Kind.{Kind}
use Rattle.rht_words.specs.declared.config.Kind.TheVariants as kinds
use Rattle.rht_model.specs.declared.history.Call.{Call}
use Rattle.rht_model.specs.declared.history.Call.TheVariants.{Bind, Find, All, Release, Rebind}
use Rattle.rht_model.specs.declared.history.Reply.{Reply}
use Rattle.rht_model.specs.declared.history.Reply.TheVariants.{Bound, Exists, Found, Missing, Listed, Released, Absent, Rebound, TooBig, Again, Busy, NoTable, NoNode, Pending, Elsewhere}
use Rattle.rht_model.specs.Multimap.{Port, Multimap, with_owners}

-- an answer: the reply, and the list that comes with it, which is empty but for Listed
pub record Answer : Type 0 where
  pub reply : Reply
  pub owners : List ℕ

-- the answer without a list
abbrev pub plain : Reply → Answer
plain reply = record { reply = reply; owners = [] }

-- a bind where the port has these owners
abbrev pub bind_reply : Kind → List ℕ → Reply
bind_reply kinds.Single [] = Bound false
bind_reply kinds.Single (first ∷ others) = Exists first
bind_reply kinds.Listed owners = Bound false

-- the owners after a bind
abbrev pub owners_bound : Kind → ℕ → List ℕ → List ℕ
owners_bound kinds.Single owner [] = owner ∷ []
owners_bound kinds.Single owner (first ∷ others) = first ∷ others
owners_bound kinds.Listed owner owners = owner ∷ owners

-- a look-up where the port has these owners
abbrev pub find_reply : List ℕ → Reply
find_reply [] = Missing
find_reply (first ∷ others) = Found first

-- a release where the port has these owners
abbrev pub release_reply : ℕ → List ℕ → Reply
release_reply owner owners = if list_any (λ o. o == owner) owners then Released false else Absent

-- the owners without the first that is this one
abbrev pub owners_released : ℕ → List ℕ → List ℕ
owners_released owner [] = []
owners_released owner (first ∷ others) = if first == owner then others else first ∷ owners_released owner
    others

-- a rebind where the port has these owners
abbrev pub rebind_reply : ℕ → List ℕ → Reply
rebind_reply owner owners = if list_any (λ o. o == owner) owners then Rebound else Absent

-- the owners with another one in the place of the first that is this one
abbrev pub owners_rebound : ℕ → ℕ → List ℕ → List ℕ
owners_rebound owner new [] = []
owners_rebound owner new (first ∷ others) = if first == owner then new ∷ others else first ∷ owners_rebound owner new
    others

-- the answer of a call on bindings; none for a call that isn't about them
abbrev pub answer_of : Kind → Multimap → Call → Option Answer
answer_of kind bindings (Bind port owner once) = Some (plain (bind_reply kind (bindings port)))
answer_of kind bindings (Find port) = Some (plain (find_reply (bindings port)))
answer_of kind bindings (All port) = Some (record {
  reply = Listed (length (bindings port));
  owners =
      bindings port;
})
answer_of kind bindings (Release port owner) = Some (plain (release_reply owner (bindings port)))
answer_of kind bindings (Rebind port owner new) = Some (plain (rebind_reply owner (bindings port)))
answer_of kind bindings _ = None

-- the port that a call speaks of; none for a call that isn't about bindings
abbrev pub port_of : Call → Option Port
port_of (Bind port owner once) = Some port
port_of (Find port) = Some port
port_of (All port) = Some port
port_of (Release port owner) = Some port
port_of (Rebind port owner new) = Some port
port_of _ = None

-- the bindings after a call that was answered
abbrev pub bindings_after : Kind → Multimap → Call → Multimap
bindings_after kind bindings (Bind port owner once) =
    with_owners bindings port (owners_bound kind owner (bindings port))
bindings_after kind bindings (Release port owner) = with_owners bindings port
    (owners_released owner (bindings port))
bindings_after kind bindings (Rebind port owner new) =
    with_owners bindings port (owners_rebound owner new (bindings port))
bindings_after kind bindings _ = bindings

-- a refusal changes no bindings
abbrev pub is_refusal : Reply → Bool
is_refusal (TooBig count) = true
is_refusal (Again table) = true
is_refusal (Busy root last) = true
is_refusal (NoTable size) = true
is_refusal NoNode = true
is_refusal (Pending caller section) = true
is_refusal Elsewhere = true
is_refusal _ = false

-- only these replies say that a call has changed bindings
abbrev pub is_change : Reply → Bool
is_change (Bound kick) = true
is_change (Released kick) = true
is_change Rebound = true
is_change _ = false

-- the refusals of a bind
abbrev pub IsBindRefusal : Reply → Type 0
IsBindRefusal (TooBig count) = Unit {0}
IsBindRefusal (Again table) = Unit {0}
IsBindRefusal (Busy root last) = Unit {0}
IsBindRefusal (NoTable size) = Unit {0}
IsBindRefusal NoNode = Unit {0}
IsBindRefusal _ = ⊥

-- the refusals of a rebind
abbrev pub IsRebindRefusal : Reply → Type 0
IsRebindRefusal NoNode = Unit {0}
IsRebindRefusal _ = ⊥

-- the refusals that a call may give, on any bindings; a look-up, a list and a release have none
abbrev pub MayRefuse : Call → Reply → Type 0
MayRefuse (Bind port owner once) reply = IsBindRefusal reply
MayRefuse (Rebind port owner new) reply = IsRebindRefusal reply
MayRefuse _ reply = ⊥
