-- What the words stand for after so many events of a run: one more event leaves what they stood for before.
use Rattle.std.proofs.Common.{◌≡◌, ◌⊎◌, ℕ, ◌+◌, ◌<◌, ◌≤◌, List, [], ◌∷◌, ◌++◌, length, get_or, sym, ap, ◌∙◌, subst, inl, inr, arith}
use Rattle.std.specs.List.{AllByRecursion, Any}
use Rattle.std.proofs.Math.Seq.{take-length}
use Rattle.std.proofs.lemmas.List.{length_push, take_all}
use Rattle.std.proofs.lemmas.Bool.{cases_lt}
use Rattle.std.proofs.lemmas.Grind.{common_steps}
use Rattle.std.proofs.lemmas.List.Elements.{All-from_recursion}
use Rattle.rht_words.specs.declared.env.Env.{Env}
use Rattle.rht_model.specs.Multimap.{Multimap}
use Rattle.rht_core.specs.declared.event.Event.{Event}
use Rattle.rht_core.specs.Traces.{Did}
use Rattle.rht_core.specs.Alone.{bindings_at}
use Rattle.rht_core.specs.RunHistories.{bindings_behind, ChangesBindings}
use Rattle.rht_core.proofs.Events.Worlds.{take-push}

-- one of a list with one more is one of the list, or the one more
pub Any-push_cases : {X : Type 0} (P : X → Type 0) (xs : List X) (y : X) → Any P (xs ++ y ∷ [])
    → Any P xs ⊎ P y
Any-push_cases P xs y (k, x, within, is, p) = elim (cases_lt k (length xs)) [
  | inl low ↦
      let same : get_or (xs ++ y ∷ []) k x ≡ get_or xs k x = grind (arith, common_steps) in
      inl (k, x, low, sym same ∙ is, p)
  | inr high ↦
      let last : get_or (xs ++ y ∷ []) k x ≡ y = grind (arith, common_steps) in
      inr (subst P (sym is ∙ last) p)
]

-- nothing is so of one of none
pub Any-none : {X : Type 0} (P : X → Type 0) → Any P [] → ⊥
Any-none P (k, x, within, is, p) = absurd (omega (arith, within))

module _ (M : Type 0) (mix : ℕ → ℕ → ℕ → ℕ) (env : Env) where
  abbrev behind : List Event → ℕ → Multimap
  behind events count = bindings_behind M mix env events count

  -- behind all events is at the run's end
  pub behind-all : (events : List Event) → behind events (length events) ≡ bindings_at M mix env events
  behind-all events = ap (bindings_at M mix env) (take-length events)

  pub behind-more : (events : List Event) (event : Event) (count : ℕ) → count ≤ length events
      → behind (events ++ event ∷ []) count ≡ behind events count
  behind-more events event count l = ap (bindings_at M mix env) (take-push events event count l)

  pub behind-last : (events : List Event) (event : Event)
      → behind (events ++ event ∷ []) (length events + 1) ≡ bindings_at M mix env (events ++ event ∷ [])
  behind-last events event =
      ap (bindings_at M mix env) (take_all (length events + 1) (events ++ event ∷ [])
      (omega (arith, length_push events event)))

  -- an operation that was made by then has changed what it had changed
  module _ (events : List Event) (event : Event) (did : Did) (l : did.index < length events) where
    before-same : (port : ℕ) → behind (events ++ event ∷ []) did.index port ≡ behind events did.index port
    before-same port = ap (λ (b : Multimap). b port) (behind-more events event did.index (omega (arith, l)))

    after-same : (port : ℕ) → behind (events ++ event ∷ []) (did.index + 1) port ≡ behind events
        (did.index + 1) port
    after-same port = ap (λ (b : Multimap). b port) (behind-more events event (did.index + 1)
        (omega (arith, l)))

    changes-more : ChangesBindings M mix env events did → ChangesBindings M mix env (events ++ event ∷ []) did
    changes-more (port, differ) = (port, λ same. differ (sym (before-same port) ∙ same ∙ after-same port))

    changes-fewer : ChangesBindings M mix env (events ++ event ∷ []) did
        → ChangesBindings M mix env events did
    changes-fewer (port, differ) = (port, λ same. differ (before-same port ∙ same ∙ sym (after-same port)))

  abbrev pub Changed : List Event → List Did → Type 0
  Changed events steps = Any (ChangesBindings M mix env events) steps

  module _ (events : List Event) (event : Event) (steps : List Did)
      (made : AllByRecursion (λ did. did.index < length events) steps) where
    index_below : (k : ℕ) (did : Did) → k < length steps → get_or steps k did ≡ did
        → did.index < length events
    index_below k did within is =
        subst (λ (d : Did). d.index < length events) is
        (All-from_recursion (λ (d : Did). d.index < length events) steps made k did within)

    pub Changed-more : Changed events steps → Changed (events ++ event ∷ []) steps
    Changed-more (k, did, within, is, changes) =
        (k, did, within, is, changes-more events event did (index_below k did within is) changes)

    pub Changed-fewer : Changed (events ++ event ∷ []) steps → Changed events steps
    Changed-fewer (k, did, within, is, changes) =
        (k, did, within, is, changes-fewer events event did (index_below k did within is) changes)
