-- What an entry answers and leaves of a port depends on the owners of that port alone.
-- Every call reads the owners of the one port that it speaks of, and gives that port others, so it can
-- tell two bindings apart only at its port, and what it leaves of a port it makes of that port's owners.
use Rattle.std.proofs.Common.{◌≡◌, ◌≢◌, ℕ, if◌then◌else◌, true, false, Some, List, refl, ap, subst, eq-eqb, inl, inr}
use Rattle.std.proofs.lemmas.Bool.{ne_eqb, cases_eq}
use Rattle.rht_words.specs.declared.config.Kind.{Kind}
use Rattle.rht_model.specs.declared.history.Call.{Call}
use Rattle.rht_model.specs.declared.history.Call.TheVariants.{Bind, Find, All, Release, Rebind, Walk, Work, Tidy, Count}
use Rattle.rht_model.specs.declared.history.Entry.{Entry}
use Rattle.rht_model.specs.Multimap.{Multimap, with_owners}
use Rattle.rht_model.specs.Answers.{port_of, answer_of, bindings_after, owners_bound, owners_released, owners_rebound, plain, bind_reply, find_reply, release_reply, rebind_reply, is_refusal}
use Rattle.rht_model.specs.Histories.{left_by}
use Rattle.rht_model.proofs.CallEffects.{bindings_after-other}

-- a call has one answer on bindings with the same owners of its port
pub answer_of-own_port : (kind : Kind) (first second : Multimap) (call : Call)
    → ((port : ℕ) → port_of call ≡ Some port → first port ≡ second port)
    → answer_of kind first call ≡ answer_of kind second call
answer_of-own_port kind first second (Bind port owner once) same =
    ap (λ owners. Some (plain (bind_reply kind owners))) (same port refl)
answer_of-own_port kind first second (Find port) same = ap (λ owners. Some (plain (find_reply owners)))
    (same port refl)
answer_of-own_port kind first second (All port) same = rw (same port refl) refl
answer_of-own_port kind first second (Release port owner) same =
    ap (λ owners. Some (plain (release_reply owner owners))) (same port refl)
answer_of-own_port kind first second (Rebind port owner new) same =
    ap (λ owners. Some (plain (rebind_reply owner owners))) (same port refl)
answer_of-own_port kind first second (Walk from limit) same = refl
answer_of-own_port kind first second Work same = refl
answer_of-own_port kind first second Tidy same = refl
answer_of-own_port kind first second Count same = refl

-- owners that are made of those of the port are the same where the port has the same
with_owners-own_port : (first second : Multimap) (port other : ℕ) (change : List ℕ → List ℕ)
    → first other ≡ second other
    → with_owners first port (change (first port)) other ≡ with_owners second port (change (second port))
    other
with_owners-own_port first second port other change agree =
    elim (cases_eq other port) [
      | inl same ↦
          let here : first port ≡ second port = subst (λ p. first p ≡ second p) same agree in
          rw (eq-eqb other port same) (ap change here)
      | inr differs ↦ rw (ne_eqb other port differs) agree
    ]

-- a call leaves a port the same owners on bindings with the same owners of that port
pub bindings_after-own_port : (kind : Kind) (first second : Multimap) (call : Call) (port : ℕ)
    → first port ≡ second port
    → bindings_after kind first call port ≡ bindings_after kind second call port
bindings_after-own_port kind first second (Bind bound owner once) port same =
    with_owners-own_port first second bound port (owners_bound kind owner) same
bindings_after-own_port kind first second (Release bound owner) port same =
    with_owners-own_port first second bound port (owners_released owner) same
bindings_after-own_port kind first second (Rebind bound owner new) port same =
    with_owners-own_port first second bound port (owners_rebound owner new) same
bindings_after-own_port kind first second (Find bound) port same = same
bindings_after-own_port kind first second (All bound) port same = same
bindings_after-own_port kind first second (Walk from limit) port same = same
bindings_after-own_port kind first second Work port same = same
bindings_after-own_port kind first second Tidy port same = same
bindings_after-own_port kind first second Count port same = same

-- and so does an entry
pub left_by-own_port : (kind : Kind) (first second : Multimap) (entry : Entry) (port : ℕ)
    → first port ≡ second port
    → left_by kind first entry port ≡ left_by kind second entry port
left_by-own_port kind first second entry port same =
    elim (is_refusal entry.reply) as (λ refused.
    (if refused then first else bindings_after kind first entry.call) port
    ≡ (if refused then second else bindings_after kind second entry.call) port) [
      | true ↦ same
      | false ↦ bindings_after-own_port kind first second entry.call port same
    ]

-- an entry changes the owners of no other port than its call's
pub left_by-other : (kind : Kind) (bindings : Multimap) (entry : Entry) (port : ℕ)
    → port_of entry.call ≢ Some port
    → left_by kind bindings entry port ≡ bindings port
left_by-other kind bindings entry port differs =
    elim (is_refusal entry.reply) as (λ refused.
    (if refused then bindings else bindings_after kind bindings entry.call) port ≡ bindings port) [
      | true ↦ refl
      | false ↦ bindings_after-other kind bindings entry.call port differs
    ]
