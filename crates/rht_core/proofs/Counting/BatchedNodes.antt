-- While nobody is in a call the nodes that are out are those in the callers' batches, each in one.
use Rattle.std.proofs.Common.{◌≡◌, ℕ, zero, suc, ◌+◌, ◌<◌, ◌≤◌, Bool, true, List, [], ◌∷◌, length, refl, sym, ap, ◌∙◌, subst, inl, inr, arith, Option, Some, None}
use Rattle.std.specs.List.{AllByRecursion, flat_map, range_with_len}
use Rattle.rht_words.specs.declared.env.Env.{Env}
use Rattle.rht_words.specs.Members.{In, IsDistinct}
use Rattle.rht_words.proofs.EachElement.{AllByRecursion-append}
use Rattle.rht_words.proofs.Members.{in_or_not, flat_map-In, In-flat_map, In-range_with_len, not_in_from, length-count_below}
use Rattle.rht_callers.specs.Batches.{IsSoundBatch, AreNodesIn, nodes_in, nodes_held, batch_room}
use Rattle.rht_grace.specs.Batch.{BatchModel}
use Rattle.rht_callers.specs.Locals.{is_idle}
use Rattle.std.proofs.lemmas.Bool.{eq-eqb}
use Rattle.rht_core.specs.Counts.{IsPlaced, ExactlyOne, in_batch, in_batches, AreBatched}
use Rattle.rht_core.specs.Runs.{Core, local_of}
use Rattle.rht_ghost.proofs.Theory.Ghosts.{Owner, Taken, Ghost, is_taken_by}
use Rattle.rht_ghost.proofs.Theory.Wholes.{IsBuilt}
use Rattle.rht_core.proofs.Events.OwnBatches.{BatchRight, held-idle}
use Rattle.rht_core.proofs.Events.SaidOfNodes.{outs-idle}
use Rattle.rht_core.proofs.Counting.NodesOut.{is_out}
use Rattle.rht_core.proofs.Meaning.ListableWords.{IsDistinct-flat_map}

-- who took a node out
abbrev taker : Owner → ℕ
taker (Taken c) = c
taker _ = 0

-- a sound batch has none of its nodes twice
distinct_in : (env : Env) (nodes : ℕ) (batch : Option BatchModel) → IsSoundBatch batch → IsDistinct (nodes_in batch)
distinct_in env nodes None sound = absurd sound
distinct_in env nodes (Some batch) sound = sound.distinct

below_in : (nodes : ℕ) (batch : Option BatchModel) → AreNodesIn nodes batch → AllByRecursion (λ n. n < nodes) (nodes_in batch)
below_in nodes None is = absurd is
below_in nodes (Some batch) is = is

all_flat : (P : ℕ → Type 0) (f : ℕ → List ℕ) (xs : List ℕ) → ((x : ℕ) → AllByRecursion P (f x)) → AllByRecursion P (flat_map f xs)
all_flat P f [] each = tt
all_flat P f (x ∷ xs) each = AllByRecursion-append P (f x) (flat_map f xs) (each x) (all_flat P f xs each)

range-low : (from n x : ℕ) → In x (range_with_len from n) → from ≤ x
range-low from zero x i = absurd i
range-low from (suc n) x (inl same) = omega (arith, same)
range-low from (suc n) x (inr later) = let low = range-low (from + 1) n x later in omega (arith, low)

-- no number of a range stands there twice
range-distinct : (from n : ℕ) → IsDistinct (range_with_len from n)
range-distinct from zero = tt
range-distinct from (suc n) = (
  not_in_from from (range_with_len (from + 1) n)
      (λ there. let low = range-low (from + 1) n from there in absurd (omega (arith, low))),
  range-distinct (from + 1) n,
)

-- one of three stays so where the third is said otherwise
exactly : (A B C D : Type 0) → (C → D) → (D → C) → ExactlyOne A B C → ExactlyOne A B D
exactly A B C D to from (inl (a, nb, nc)) = inl (a, nb, (λ d. nc (from d)))
exactly A B C D to from (inr (inl (b, na, nc))) = inr (inl (b, na, (λ d. nc (from d))))
exactly A B C D to from (inr (inr (c, na, nb))) = inr (inr (to c, na, nb))

module _ (env : Env) (mix : ℕ → ℕ → ℕ → ℕ) (M : Type 0) (core : Core M) (G : Ghost)
    (built : (n : ℕ) → IsBuilt env mix (G.node n))
    (right : (c : ℕ) → BatchRight env mix M G c (local_of core c))
    (among : (c : ℕ) → AreNodesIn env.geometry.nodes (batch_room (local_of core c).doing (local_of core c).batch))
    (quiet : (c : ℕ) → is_idle (local_of core c) ≡ true)
  where
    -- in no call it has all of them
    held_is : (c : ℕ) → nodes_held (local_of core c).doing (local_of core c).batch ≡ in_batch core c
    held_is c = held-idle M (local_of core c).doing (local_of core c).batch (quiet c)

    taken_by : (c n : ℕ) → In n (in_batch core c) → G.node n ≡ Taken c
    taken_by c n there = (right c).out n (subst (In n) (sym (held_is c)) there)

    -- all that the caller took out are in its batch
    all_in : (c n : ℕ) → n < env.geometry.nodes → G.node n ≡ Taken c → In n (in_batch core c)
    all_in c n l taken = elim (in_or_not n (in_batch core c)) [
      | inl there ↦ there
      | inr out ↦
          let mine : ℕ → Bool = λ m. is_taken_by c (G.node m) in
          let few = length-count_below mine env.geometry.nodes (n ∷ in_batch core c)
          (out, distinct_in env env.geometry.nodes _ (right c).sound) (l, below_in env.geometry.nodes _ (among c))
          (λ m there. elim there [
            | inl e ↦ ap mine e ∙ ap (is_taken_by c) taken ∙ eq-eqb c c refl
            | inr i ↦ ap (is_taken_by c) (taken_by c m i) ∙ eq-eqb c c refl
          ]) in
          let many = (right c).many in
          let held = ap length (held_is c) in
          let idle = outs-idle (local_of core c).doing (quiet c) in
          absurd (omega (arith, few, many, held, idle))
    ]

    abbrev all : List ℕ
    all = in_batches env core

    out_in : (n : ℕ) → n < env.geometry.nodes → is_out (G.node n) ≡ true → In n all
    out_in n l is = go (G.node n) refl (built n) is
      where
        go : (o : Owner) → G.node n ≡ o → IsBuilt env mix o → is_out o ≡ true → In n all
        go (Taken c) e b is =
            In-flat_map (in_batch core) n c (range_with_len 0 env.geometry.callers)
            (In-range_with_len 0 env.geometry.callers c (omega arith) (omega (arith, b))) (all_in c n l e)
        go _ e b is = absurd (cc)

    in_out : (n : ℕ) → In n all → is_out (G.node n) ≡ true
    in_out n there =
        let from = flat_map-In (in_batch core) n (range_with_len 0 env.geometry.callers) there in
        ap is_out (taken_by from.0 n from.2)

    pub are_batched : (out : List ℕ) → ((n : ℕ) → n < env.geometry.nodes → is_out (G.node n) ≡ true → In n out)
        → ((n : ℕ) → In n out → is_out (G.node n) ≡ true)
        → ((n : ℕ) → n < env.geometry.nodes → IsPlaced env.geometry core.words out n) → AreBatched env core
    are_batched out out_of of_out placed = record {
      distinct = IsDistinct-flat_map (in_batch core) (λ n. taker (G.node n)) (λ c n there. ap taker (taken_by c n there))
          (λ c. distinct_in env env.geometry.nodes _ (right c).sound) (range_with_len 0 env.geometry.callers)
          (range-distinct 0 env.geometry.callers);
      among = all_flat (λ n. n < env.geometry.nodes) (in_batch core) (range_with_len 0 env.geometry.callers)
          (λ c. below_in env.geometry.nodes _ (among c));
      placed = λ n l. exactly _ _ (In n out) (In n all) (λ there. out_in n l (of_out n there))
          (λ there. out_of n l (in_out n there)) (placed n l);
    }
