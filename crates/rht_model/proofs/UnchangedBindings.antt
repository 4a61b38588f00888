-- A legal entry changes bindings only if it is answered Bound, Released or Rebound; one that changes
-- nothing may be put into a legal history where it is legal, and taken out of it.
-- By the call: where its reply is another one, the owners that it gives its port are those that the port has.
use Rattle.std.proofs.Common.{◌≡◌, ℕ, ◌↔◌, if◌then◌else◌, Bool, true, false, Option, List, [], ◌∷◌, ◌++◌, refl, ◌∙◌, ap, eq-eqb, inl, inr}
use Rattle.std.proofs.lemmas.Bool.{ne_eqb, cases_eq, cases_Bool, both_ways}
use Rattle.std.specs.Option.{option_map_or}
use Rattle.rht_words.specs.declared.config.Kind.{Kind}
use Rattle.rht_words.specs.declared.config.Kind.TheVariants as kinds
use Rattle.rht_model.specs.declared.history.Call.{Call}
use Rattle.rht_model.specs.declared.history.Call.TheVariants.{Bind, Find, All, Release, Rebind, Walk, Work, Tidy, Count}
use Rattle.rht_model.specs.declared.history.Entry.{Entry}
use Rattle.rht_model.specs.declared.history.Reply.{Reply}
use Rattle.rht_model.specs.declared.history.Reply.TheVariants.{Bound, Released, Rebound, Absent}
use Rattle.rht_model.specs.Multimap.{Multimap, Agree, with_owners}
use Rattle.rht_model.specs.Answers.{Answer, answer_of, bindings_after, owners_bound, owners_released, owners_rebound, bind_reply, release_reply, rebind_reply, is_change}
use Rattle.rht_model.specs.Histories.{without_kick, IsLegalAt, IsLegalFrom, left_by, bindings_left}
use Rattle.rht_model.proofs.Agreements.{Agree-refl, Agree-sym, IsLegalFrom-Agree, bindings_left-Agree}
use Rattle.rht_model.proofs.FirstOwners.{IsAtFirst-released, IsAtFirst-rebound, has_owner, changed-none}
use Rattle.rht_model.proofs.LongerHistories.{IsLegalFrom-behind, bindings_left-behind}
use Rattle.rht_model.proofs.Refusals.{left_by-IsAnswered, left_by-IsRefused}

-- a port that is given the owners that it has is not changed
with_owners-unchanged : (bindings : Multimap) (port : ℕ) (owners : List ℕ) → owners ≡ bindings port
    → Agree (with_owners bindings port owners) bindings
with_owners-unchanged bindings port owners same other =
    elim (cases_eq other port) [
      | inl here ↦ rw (eq-eqb other port here, here) same
      | inr elsewhere ↦ rw (ne_eqb other port elsewhere) refl
    ]

owners_bound-unchanged : (kind : Kind) (owner : ℕ) (owners : List ℕ)
    → is_change (bind_reply kind owners) ≡ false
    → owners_bound kind owner owners ≡ owners
owners_bound-unchanged kinds.Single owner [] unchanged = cc
owners_bound-unchanged kinds.Single owner (first ∷ others) unchanged = refl
owners_bound-unchanged kinds.Listed owner owners unchanged = cc

-- where a reply of a call that names an owner is no change, that owner is none of the port's
none_among : (owner : ℕ) (owners : List ℕ) (reply : Reply) → is_change reply ≡ true
    → is_change (if has_owner owner owners then reply else Absent) ≡ false → has_owner owner owners ≡ false
none_among owner owners reply change unchanged =
    elim (cases_Bool (has_owner owner owners)) [
      | inl bound ↦
          let no_change : is_change reply ≡ false = rw bound at unchanged in
          absurd (both_ways _ no_change change)
      | inr absent ↦ absent
    ]

owners_released-unchanged : (owner : ℕ) (owners : List ℕ) → is_change (release_reply owner owners) ≡ false
    → owners_released owner owners ≡ owners
owners_released-unchanged owner owners unchanged =
    changed-none owner (owners_released owner) (λ others. others) (IsAtFirst-released owner) owners
    (none_among owner owners (Released false) refl unchanged)

owners_rebound-unchanged : (owner new : ℕ) (owners : List ℕ) → is_change (rebind_reply owner owners) ≡ false
    → owners_rebound owner new owners ≡ owners
owners_rebound-unchanged owner new owners unchanged =
    changed-none owner (owners_rebound owner new) (λ others. new ∷ others) (IsAtFirst-rebound owner new) owners
    (none_among owner owners Rebound refl unchanged)

-- whether a call's answer, if it has one, is a change
abbrev answers_change : Option Answer → Bool
answers_change answer = option_map_or (λ a. is_change a.reply) answer false

-- By the call: without a change in its answer, it leaves the bindings as they were.
pub bindings_after-unchanged : (kind : Kind) (bindings : Multimap) (call : Call)
    → answers_change (answer_of kind bindings call) ≡ false
    → Agree (bindings_after kind bindings call) bindings
bindings_after-unchanged kind bindings (Bind port owner once) unchanged =
    with_owners-unchanged bindings port _ (owners_bound-unchanged kind owner (bindings port) unchanged)
bindings_after-unchanged kind bindings (Release port owner) unchanged =
    with_owners-unchanged bindings port _ (owners_released-unchanged owner (bindings port) unchanged)
bindings_after-unchanged kind bindings (Rebind port owner new) unchanged =
    with_owners-unchanged bindings port _ (owners_rebound-unchanged owner new (bindings port) unchanged)
bindings_after-unchanged kind bindings (Find port) unchanged = Agree-refl bindings
bindings_after-unchanged kind bindings (All port) unchanged = Agree-refl bindings
bindings_after-unchanged kind bindings (Walk from limit) unchanged = Agree-refl bindings
bindings_after-unchanged kind bindings Work unchanged = Agree-refl bindings
bindings_after-unchanged kind bindings Tidy unchanged = Agree-refl bindings
bindings_after-unchanged kind bindings Count unchanged = Agree-refl bindings

-- a kick makes no change
is_change-without_kick : (reply : Reply) → is_change (without_kick reply) ≡ is_change reply
is_change-without_kick (Bound kick) = refl
is_change-without_kick (Released kick) = refl
is_change-without_kick reply = refl

-- A legal entry whose reply is no change leaves the bindings as they were.
pub left_by-unchanged : (kind : Kind) (bindings : Multimap) (entry : Entry) → IsLegalAt kind bindings entry
    → is_change entry.reply ≡ false → Agree (left_by kind bindings entry) bindings
left_by-unchanged kind bindings entry legal unchanged =
    elim legal as (λ _. Agree (left_by kind bindings entry) bindings) [
      | inl answered ↦
          let no_change = ap answers_change answered ∙ is_change-without_kick entry.reply ∙ unchanged in
          rw (left_by-IsAnswered kind bindings entry answered)
          (bindings_after-unchanged kind bindings entry.call no_change)
      | inr refused ↦ rw (left_by-IsRefused kind bindings entry refused) (Agree-refl bindings)
    ]

module _ (kind : Kind) (bindings : Multimap) (before behind : List Entry) (entry : Entry) where
  -- the bindings where the entry stands
  abbrev here : Multimap
  here = bindings_left kind bindings before

  -- A history is legal with an entry that is legal and changes nothing exactly if it is without it.
  pub IsLegalFrom-added : IsLegalAt kind here entry → Agree (left_by kind here entry) here
      → IsLegalFrom kind bindings (before ++ entry ∷ behind) ↔ IsLegalFrom kind bindings (before ++ behind)
  IsLegalFrom-added legal unchanged = (
    IsLegalFrom-behind kind bindings before (entry ∷ behind) behind
        (λ with_it. IsLegalFrom-Agree kind (left_by kind here entry) here behind unchanged with_it.1),
    IsLegalFrom-behind kind bindings before behind (entry ∷ behind)
        (λ without. (
          legal,
          IsLegalFrom-Agree kind here (left_by kind here entry) behind
              (Agree-sym (left_by kind here entry) here unchanged) without,
        )),
  )

  -- and leaves the same bindings
  pub bindings_left-added : Agree (left_by kind here entry) here
      → Agree (bindings_left kind bindings (before ++ entry ∷ behind))
      (bindings_left kind bindings (before ++ behind))
  bindings_left-added unchanged =
      bindings_left-behind kind bindings before (entry ∷ behind) behind
      (bindings_left-Agree kind (left_by kind here entry) here behind unchanged)
