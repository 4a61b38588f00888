-- A bind that raises the count though it had to be refused, or to attach a table: each count that it loaded behind the last table's shape is as
-- many ports as the table may hold, or above that table's size, which may grow. One that loaded none is such a bind too. And so is one whose
-- bucket has 16 nodes or more at each of its operations, of which it looks at a few.
use Rattle.std.proofs.Common.{◌≡◌, ◌⊎◌, ℕ, ◌≤◌, length, Some, true, List, ◌∷◌, sym, ap, ◌∙◌, subst, inl, inr, arith}
use Rattle.std.specs.List.{AllByRecursion, Any}
use Rattle.std.proofs.lemmas.List.Elements.{All-from_recursion}
use Rattle.rht_words.specs.declared.env.Env.{Env}
use Rattle.rht_words.specs.declared.op.Op.TheVariants.{Load}
use Rattle.rht_words.specs.Places.{PortCount, place_of}
use Rattle.rht_words.specs.Shapes.{unpacked, size_of}
use Rattle.rht_words.proofs.EachElement.{AllByRecursion-cut}
use Rattle.rht_policy.specs.Sizes.{most_ports}
use Rattle.rht_policy.specs.Thresholds.{is_above_100}
use Rattle.rht_core.specs.declared.event.Event.{Event}
use Rattle.rht_core.specs.Traces.{Did}
use Rattle.rht_core.specs.RoomCauses.{SawRoom, RaisedInRoom}
use Rattle.rht_core.specs.ResizeCauses.{HasBucketAt, IsWhole}
use Rattle.rht_core.specs.Seen.{words_before}
use Rattle.rht_stands.specs.StandsFor.{bucket_nodes}

module _ (M : Type 0) (mix : ℕ → ℕ → ℕ → ℕ) (env : Env) (events : List Event) (c port table shape : ℕ) where
  -- a count that the operation loads leaves no room
  abbrev FindsFull : Did → Type 0
  FindsFull did =
      did.op ≡ Load (place_of env.geometry PortCount)
      → (most_ports env.config.max ≤ did.old) ⊎ (is_above_100 did.old (size_of (unpacked shape)) env.config.max ≡ true)

  no_room : (did : Did) → FindsFull did → SawRoom M mix env events c port shape did → ⊥
  no_room did full room =
      let same = room.saw.found in
      let below = room.below in
      elim (full room.saw.loaded) [
        | inl many ↦ absurd (omega (arith, many, below, same))
        | inr above ↦
            let both = sym above ∙ ap (λ n. is_above_100 n (size_of (unpacked shape)) env.config.max) same ∙ room.within in cc
      ]

  pub full-refused : (behind : List Did) → AllByRecursion FindsFull behind → RaisedInRoom M mix env events c port table shape behind → ⊥
  full-refused behind all raised = go raised.room
    where
      before : AllByRecursion FindsFull raised.before
      before =
          (AllByRecursion-cut FindsFull raised.before (raised.at ∷ raised.rest) (subst (AllByRecursion FindsFull) raised.split all)).0

      go : Any (SawRoom M mix env events c port shape) raised.before → ⊥
      go (k, did, low, at_k, room) =
          no_room did (subst FindsFull at_k (All-from_recursion FindsFull raised.before before k did low)) room

  -- wherever the port's bucket is at the event of the operation, it has many nodes
  abbrev FindsCrowd : Did → Type 0
  FindsCrowd did =
      (bucket place : ℕ) → HasBucketAt env.geometry (words_before M mix env events) mix port table shape bucket place did
      → 16 ≤ length (bucket_nodes env.geometry (words_before M mix env events did.index) (Some place))

  pub crowded-refused : (behind : List Did) → AllByRecursion FindsCrowd behind → RaisedInRoom M mix env events c port table shape behind
      → ⊥
  crowded-refused behind all raised = go raised.chain.whole
    where
      before : AllByRecursion FindsCrowd raised.before
      before =
          (AllByRecursion-cut FindsCrowd raised.before (raised.at ∷ raised.rest) (subst (AllByRecursion FindsCrowd) raised.split all)).0

      go : Any (IsWhole env.geometry (words_before M mix env events) mix port table shape raised.chain.chain.place
          (length raised.chain.chain.nodes)) raised.before → ⊥
      go (k, did, low, at_k, whole) =
          let finds = subst FindsCrowd at_k (All-from_recursion FindsCrowd raised.before before k did low) in
          let crowd = finds whole.bucket raised.chain.chain.place whole.has in
          let many = whole.many in
          let few = raised.chain.chain.many in
          absurd (omega (arith, crowd, many, few))
