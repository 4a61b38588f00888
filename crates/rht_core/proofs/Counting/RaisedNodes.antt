-- The nodes in chains, and the callers that have raised the count, are at most the nodes.
-- Each such caller has a node of its own, which is in no chain: one that it links next, or one that it has taken out, for which
-- it lowers the count next.
use Rattle.std.proofs.Common.{◌≡◌, ◌⊎◌, ℕ, zero, suc, ◌+◌, ◌<◌, ◌≤◌, nat_lt, Bool, true, false, inl, inr, refl, ◌∙◌, ap, arith}
use Rattle.std.proofs.lemmas.Bool.Decides.{nat_tests}
use Rattle.rht_words.proofs.Members.{count_below, one_if, count_below-same, count_below-more, count_below-le, count_below-most}
use Rattle.rht_words.specs.declared.env.Env.{Env}
use Rattle.rht_ghost.proofs.Theory.Ghosts.{put, put-same, put-other, put-all, Owner, Free, NodeHeld, First, Leaving, Behind, Taken, Ghost, is_first}
use Rattle.rht_ghost.proofs.Theory.Wholes.{firsts, raisers}

-- the node is in a chain, or a caller below this one has it
abbrev is_used_below : ℕ → Owner → Bool
is_used_below bound Free = false
is_used_below bound (NodeHeld c) = nat_lt c bound
is_used_below bound (First j) = true
is_used_below bound (Leaving j) = true
is_used_below bound (Behind k) = false
is_used_below bound (Taken c) = nat_lt c bound

-- a node that this caller has, or has taken out
pub record OwnNode (env : Env) (G : Ghost) (c : ℕ) : Type 0 where
  pub node : ℕ
  pub among : node < env.geometry.nodes
  pub mine : (G.node node ≡ NodeHeld c) ⊎ (G.node node ≡ Taken c)

module _ (env : Env) (mix : ℕ → ℕ → ℕ → ℕ) (G : Ghost) (own : (c : ℕ) → G.raised c ≡ true
    → OwnNode env G c) where
  abbrev N : ℕ
  N = env.geometry.nodes

  -- the nodes that callers below this one have, and those in chains
  abbrev used : ℕ → ℕ
  used bound = count_below (λ n. is_used_below bound (G.node n)) N

  -- one caller more has a node more where it has raised the count
  rises : (bound : ℕ) (o : Owner) → is_used_below bound o ≡ true → is_used_below (suc bound) o ≡ true
  rises bound Free is = absurd (cc)
  rises bound (NodeHeld c) is = grind (arith, nat_tests)
  rises bound (First j) is = refl
  rises bound (Leaving j) is = refl
  rises bound (Behind k) is = absurd (cc)
  rises bound (Taken c) is = grind (arith, nat_tests)

  -- a node of this caller is used by it, and by none below
  unused_below : (bound : ℕ) (o : Owner) → (o ≡ NodeHeld bound) ⊎ (o ≡ Taken bound) → is_used_below bound o ≡ false
  unused_below bound o (inl is) = ap (is_used_below bound) is ∙ grind (arith, nat_tests)
  unused_below bound o (inr is) = ap (is_used_below bound) is ∙ grind (arith, nat_tests)

  used_here : (bound : ℕ) (o : Owner) → (o ≡ NodeHeld bound) ⊎ (o ≡ Taken bound) → is_used_below (suc bound) o ≡ true
  used_here bound o (inl is) = ap (is_used_below (suc bound)) is ∙ grind (arith, nat_tests)
  used_here bound o (inr is) = ap (is_used_below (suc bound)) is ∙ grind (arith, nat_tests)

  used-raised : (bound : ℕ) → G.raised bound ≡ true → used bound + 1 ≤ used (suc bound)
  used-raised bound raised =
      let mine = own bound raised in
      let was : ℕ → Bool = λ n. is_used_below bound (G.node n) in
      let now : ℕ → Bool = λ n. is_used_below (suc bound) (G.node n) in
      let one = count_below-more was (put was mine.node true) mine.node N mine.among
      (unused_below bound (G.node mine.node) mine.mine) (put-same was mine.node true)
      (λ n ne. put-other was mine.node true n ne) in
      let rest = count_below-le (put was mine.node true) now N
      (put-all (λ n b. b ≡ true → now n ≡ true) was mine.node true
      (λ is. used_here bound (G.node mine.node) mine.mine) (λ n ne is. rises bound (G.node n) is)) in
      omega (arith, one, rest)

  used-rises : (bound : ℕ) → used bound ≤ used (suc bound)
  used-rises bound = count_below-le (λ n. is_used_below bound (G.node n))
      (λ n. is_used_below (suc bound) (G.node n)) N (λ n. rises bound (G.node n))

  -- by induction over the callers
  raisers-used : (bound : ℕ) → firsts env mix G + count_below G.raised bound ≤ used bound
  raisers-used zero =
      let same : used zero ≡ firsts env mix G = count_below-same (λ n. is_first (G.node n))
      (λ n. is_used_below zero (G.node n)) N (λ n l. first_or_none (G.node n)) in
      omega (arith, same)
    where
      first_or_none : (o : Owner) → is_used_below zero o ≡ is_first o
      first_or_none Free = refl
      first_or_none (NodeHeld c) = grind (arith, nat_tests)
      first_or_none (First j) = refl
      first_or_none (Leaving j) = refl
      first_or_none (Behind k) = refl
      first_or_none (Taken c) = grind (arith, nat_tests)
  raisers-used (suc bound) = go (G.raised bound) refl (raisers-used bound)
    where
      go : (t : Bool) → G.raised bound ≡ t → firsts env mix G + count_below G.raised bound ≤ used bound
          → firsts env mix G + (count_below G.raised bound + one_if (G.raised bound)) ≤ used (suc bound)
      go true is below = let more = used-raised bound is in let one : one_if (G.raised bound) ≡ 1 = ap
          one_if is in omega (arith, below, more, one)
      go false is below = let more = used-rises bound in let none : one_if (G.raised bound) ≡ 0 = ap
          one_if is in omega (arith, below, more, none)

  pub few_used : firsts env mix G + raisers env mix G ≤ N
  few_used =
      let counted = raisers-used env.geometry.callers in
      let most = count_below-most (λ n. is_used_below env.geometry.callers (G.node n)) N in
      omega (arith, counted, most)
