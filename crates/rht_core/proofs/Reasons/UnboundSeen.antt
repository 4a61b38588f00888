-- At which operations of a bind its port has no owner: at the load of the last table's future as none, and at that of the count behind it.
--
-- Where the bind has locked the port's bucket in that table and has walked it in vain, the port is bound nowhere then, since it isn't bound in
-- the tables before. Where entries lead to the bucket, it loads the future before it looks at them. If the bucket is missing then, the port is
-- bound nowhere as well. Else it is there, and stays so while the section stays open: a bind that misses a page behind that can't have loaded
-- the future then.
use Rattle.std.proofs.Common.{◌≡◌, ◌≢◌, ◌⊎◌, ℕ, ◌+◌, true, List, [], refl, sym, ap, ◌∙◌, subst, inl, inr, cond}
use Rattle.std.specs.Prelude.{Option, Some, None}
use Rattle.rht_words.specs.declared.env.Env.{Env}
use Rattle.rht_words.specs.declared.geometry.Geometry.{Geometry}
use Rattle.rht_words.specs.Links.{slot_of}
use Rattle.rht_words.specs.Places.{Slot, SeedWord, FutureWord, word_at}
use Rattle.rht_words.proofs.Memory.{Memory}
use Rattle.rht_policy.specs.Mix.{bucket_of}
use Rattle.rht_nest.specs.Place.{PlaceModel, flat_place, nested_place, read_place}
use Rattle.rht_nest.specs.Tables.{is_nested}
use Rattle.rht_nest.proofs.MissingEntries.{place_or_missing}
use Rattle.rht_core.specs.Traces.{Did}
use Rattle.rht_core.specs.ResizeCauses.{IsUnboundAt, SawNoneBehind, Loaded, MissesPage}
use Rattle.rht_stands.specs.StandsFor.{page_word, bucket_in, stands_for}
use Rattle.rht_ghost.proofs.Theory.Ghosts.{Ghost, none-some}
use Rattle.rht_ghost.proofs.Theory.Wholes.{place_at, hash_in, home, word_index, Whole, IsAt, at-there}
use Rattle.rht_ghost.proofs.Theory.Passed.{hash-below, unbound_at_last, unbound_missing}
use Rattle.rht_ghost.proofs.Theory.Knowledge.{IsOnWay, IsAtHome, IsMissed}
use Rattle.rht_ghost.proofs.Theory.Steps.{owners_in, mem}
use Rattle.rht_core.proofs.Events.BucketsThere.{BucketsStay}
use Rattle.rht_core.proofs.Events.UnturnedSections.{IsUnturned}
use Rattle.rht_core.proofs.Meaning.BoundPorts.{stands_for_bound}
use Rattle.rht_core.proofs.Reasons.LastTables.{none_last}

module _ (g : Geometry) (words_at : ℕ → List ℕ) (mix : ℕ → ℕ → ℕ → ℕ) (c port table shape : ℕ) where
  -- by the words before each event from this one on, while the caller's section word stays, the port's bucket in the table is there
  abbrev pub IsThereFrom : ℕ → Type 0
  IsThereFrom from =
      (i : ℕ) → IsUnturned g words_at c from i
      → bucket_in g (words_at i) shape (bucket_of mix port shape (word_at g (words_at i) (Slot table SeedWord))) ≢ None

  -- the operation loaded the table's future as none; the port has no owner then, or its bucket is there
  pub record SeesNoFuture (did : Did) : Type 0 where
    pub none : Loaded g (Slot table FutureWord) 0 did
    pub unbound : IsUnboundAt g words_at port did ⊎ IsThereFrom did.index

  -- so it had none where a page was missed behind that
  pub unbound-missed : (entry : ℕ) (early at : Did) → is_nested shape ≡ true → IsUnturned g words_at c early.index at.index
      → MissesPage g words_at mix port table shape entry at → SeesNoFuture early → SawNoneBehind g words_at port table early
  unbound-missed entry early at nested calm misses sees = elim sees.unbound [
    | inl unbound ↦ record { none = sees.none; unbound = unbound }
    | inr there ↦
        let read = page_word g (words_at at.index) in
        let begins = nested_place g shape misses.bucket in
        let gone : bucket_in g (words_at at.index) shape misses.bucket ≡ None = elim (place_or_missing read begins) [
          | inl found ↦ absurd (let both = sym found.2 ∙ misses.ends in cc)
          | inr missed ↦ ap (λ t. cond t (read_place read begins) (Some (flat_place g shape misses.bucket))) nested ∙ missed.2
        ] in
        absurd (there at.index calm
        (ap (bucket_in g (words_at at.index) shape) (sym misses.bucket_is) ∙ gone))
  ]

module _ (env : Env) (mix : ℕ → ℕ → ℕ → ℕ) (words : List ℕ) (G : Ghost) (whole : Whole env mix (mem env mix words) G) where
  abbrev M : Memory
  M = mem env mix words

  -- a port that is bound nowhere has no owner by the words
  pub no_owner : (port : ℕ) → G.bound port ≡ [] → stands_for env.geometry words port ≡ []
  no_owner port none = stands_for_bound env mix words G whole port ∙ ap (owners_in env mix M) none

  -- a table whose future is none is the last one
  no_future : (slot : ℕ) (at : IsAt G slot) → slot_of (M (Slot slot FutureWord)) ≡ None → at.table + 1 ≡ G.attached
  no_future slot at none =
      none_last env mix M G whole at.table at.on at.attached
      (ap (λ s. slot_of (M (Slot s FutureWord))) at.slot_is ∙ none)

  -- behind a walk of the port's bucket in vain
  pub unbound-walked : (c port slot place word : ℕ) (shape : Option ℕ) → IsAtHome env mix c G port slot shape place
      → IsMissed env mix c M G place word port → slot_of (M (Slot slot FutureWord)) ≡ None → stands_for env.geometry words port ≡ []
  unbound-walked c port slot place word shape at missed none =
      no_owner port (unbound_at_last env mix M G whole port at.passing.at.table (word_index env mix place) at.passing.passed at.here
      missed.none missed.lock.still (no_future slot at.passing.at none))

  -- before the entries are looked at
  pub unbound-early : (c : ℕ) (words_at : ℕ → List ℕ) (from port slot shape : ℕ) (place : PlaceModel) (early : Option ℕ)
      → IsOnWay env mix c G port slot shape place early → words ≡ words_at from → BucketsStay env mix words_at c G from
      → slot_of (M (Slot slot FutureWord)) ≡ None
      → (stands_for env.geometry (words_at from) port ≡ []) ⊎ IsThereFrom env.geometry words_at mix c port slot shape from
  unbound-early c words_at from port slot shape place early on now stay none = go (home env mix G port τ) refl
    where
      at : IsAt G slot
      at = on.shaped.passing.at

      τ : ℕ
      τ = at.table

      go : (word : Option ℕ) → home env mix G port τ ≡ word
          → (stands_for env.geometry (words_at from) port ≡ []) ⊎ IsThereFrom env.geometry words_at mix c port slot shape from
      go None here =
          inl (subst (λ ws. stands_for env.geometry ws port ≡ []) now
          (no_owner port (unbound_missing env mix M G whole port τ on.shaped.passing.passed here (no_future slot at none))))
      go (Some j) here =
          let number = hash_in env mix G port τ in
          let stays = stay τ number j (at-there at) on.shaped.passing.since (hash-below env mix M G whole port τ) here in
          inr (λ i calm gone.
          let seed : word_at env.geometry (words_at i) (Slot slot SeedWord) ≡ (G.table τ).seed =
          ap (λ s. word_at env.geometry (words_at i) (Slot s SeedWord)) (sym at.slot_is) ∙ stays.1 i calm in
          let number_is : bucket_of mix port shape (word_at env.geometry (words_at i) (Slot slot SeedWord)) ≡ number =
          ap (bucket_of mix port shape) seed ∙ ap (λ s. bucket_of mix port s (G.table τ).seed) (sym on.shaped.shape_is) in
          let there : bucket_in env.geometry (words_at i) shape number ≡ Some (place_at env mix j) =
          subst (λ s. bucket_in env.geometry (words_at i) s number ≡ Some (place_at env mix j)) on.shaped.shape_is
          (stays.0.there i calm) in
          none-some (sym (ap (bucket_in env.geometry (words_at i) shape) number_is) ∙ gone) there)
