-- Each node of a table in force lies in the bucket of its own key.
-- A bucket whose word is even is locked by nobody, so no entry is on its way out of it, and what is met in it is its chain. Each node of
-- that has a seat there, which is the bucket to which its key belongs. And no two buckets of a table have one word.
use Rattle.std.proofs.Common.{◌≡◌, ℕ, ◌+◌, ◌*◌, ◌%◌, ◌<◌, slice_index, false, List, Option, Some, None, refl, ◌∙◌, ap, subst, arith}
use Rattle.rht_words.specs.declared.env.Env.{Env}
use Rattle.rht_words.specs.Members.{In}
use Rattle.rht_words.specs.Places.{Slot, ShapeWord, SeedWord, PageWord}
use Rattle.rht_words.specs.Shapes.{unpacked, size_of}
use Rattle.rht_words.proofs.Memory.{Memory}
use Rattle.rht_policy.specs.Mix.{bucket_of}
use Rattle.rht_core.specs.Runs.{run_of}
use Rattle.rht_core.specs.Placed.{AreNodesPlaced, Placed}
use Rattle.rht_stands.specs.StandsFor.{in_force, bucket_nodes}
use Rattle.rht_ghost.proofs.Theory.Ghosts.{Ghost, lock_bit, is_entry}
use Rattle.rht_ghost.proofs.Theory.Wholes.{key_of, hash_in, home, place_at, Whole, force-there, IsThere}
use Rattle.rht_ghost.proofs.Theory.Passed.{hash-below, place-word, place-table, place-bucket}
use Rattle.rht_ghost.proofs.Theory.Entries.{one_bucket, bucket-no_entry}
use Rattle.rht_ghost.proofs.Theory.Steps.{mem}
use Rattle.rht_core.proofs.Events.InvariantRuns.{has_inv}
use Rattle.rht_core.proofs.Meaning.TablesInForce.{in_force_is}
use Rattle.rht_core.proofs.Meaning.BoundPorts.{still_met}
use Rattle.rht_core.proofs.Counting.RestingBuckets.{word_in}

module _ (env : Env) (mix : ℕ → ℕ → ℕ → ℕ) (words : List ℕ) (G : Ghost) (whole : Whole env mix (mem env mix words) G) where
  abbrev M : Memory
  M = mem env mix words

  -- no entry is on its way out of a bucket whose word is even
  even_still : (j : ℕ) → j < 64 * env.geometry.pages → is_entry G j ≡ false → slice_index words (place_at env mix j) % 2 ≡ 0
      → (G.bucket j).out ≡ None
  even_still j l plain even = go (G.bucket j).out refl
    where
      go : (out : Option ℕ) → (G.bucket j).out ≡ out → (G.bucket j).out ≡ None
      go None is = is
      go (Some entry) is =
          let right = (whole.buckets j l plain).locked in
          let held = (whole.moving.out j entry is).holder in
          let odd : M (PageWord j) ≡ (G.bucket j).plain + 1 = right.word_is ∙ ap (λ h. (G.bucket j).plain + lock_bit h) held in
          let free : M (PageWord j) % 2 ≡ 0 = even in
          let pair = right.even in
          absurd (omega (arith, odd, free, pair))

  -- a node of the chain of the word of a bucket has that bucket's number, by its key
  home_number : (τ bucket j node : ℕ) → IsThere G τ → bucket < size_of (unpacked (G.table τ).shape)
      → (G.table τ).place bucket ≡ Some j → In node (G.bucket j).nodes → hash_in env mix G (key_of M node) τ ≡ bucket
  home_number τ bucket j node is_there below here member =
      let at = (whole.owned.first_at node j (whole.owned.member j node member)).at_home in
      let there : home env mix G (key_of M node) τ ≡ Some j =
      subst (λ σ. home env mix G (key_of M node) σ ≡ Some j) (place-table env mix M G whole τ bucket j is_there below here) at.here in
      one_bucket env mix (G.table τ) G.page τ (whole.tables.each τ is_there).placed (hash_in env mix G (key_of M node) τ) bucket j
      (hash-below env mix M G whole (key_of M node) τ) below there here

  nodes_placed : (slot : ℕ) → In slot (in_force env.geometry words) → AreNodesPlaced mix env.geometry words slot
  nodes_placed slot i bucket place node within there even met =
      let is = in_force_is env mix words G whole slot i in
      let τ = is.table in
      let is_there = force-there env mix whole.tables τ is.current is.attached in
      let right = whole.tables.each τ is_there in
      let key = key_of M node in
      let word = word_in env mix words G whole slot place
      (record { table = τ; attached = is.attached; there = is_there; slot_is = is.slot_is }) (record { bucket = bucket; within = within; there = there }) in
      let j = word.1.index in
      let at = place-word env mix M G whole τ bucket j is_there word.0 word.1.here in
      let plain = bucket-no_entry env mix G j (place-bucket env mix M G whole τ bucket j is_there word.0 word.1.here) in
      let still = even_still j at.within plain (subst (λ p. slice_index words p % 2 ≡ 0) word.1.place_is even) in
      let member : In node (G.bucket j).nodes =
      subst (In node)
      (ap (λ p. bucket_nodes env.geometry words (Some p)) word.1.place_is ∙ still_met env mix words G whole j at.within plain still)
      met in
      ap (λ s. bucket_of mix key (M (Slot s ShapeWord)) (M (Slot s SeedWord))) is.slot_is
      ∙ ap (λ shape. bucket_of mix key shape (M (Slot (G.table τ).slot SeedWord))) right.shape_is
      ∙ ap (bucket_of mix key (G.table τ).shape) right.seed_is
      ∙ home_number τ bucket j node is_there word.0 word.1.here member

pub placed : (M : Type 0) (mix : ℕ → ℕ → ℕ → ℕ) → Placed M mix
placed M mix env events admitted =
    let has = has_inv env mix M events admitted in
    nodes_placed env mix (run_of {M = M} mix env events).core.words has.ghost has.inv.whole
