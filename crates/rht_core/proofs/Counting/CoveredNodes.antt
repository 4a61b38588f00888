-- The nodes that calls took are no more than the calls: a list of no more nodes than calls has each of them.
--
-- A call takes one node at most, and none where it needs none or was answered that there is none.
use Rattle.std.proofs.Common.{◌≡◌, ◌≢◌, ℕ, zero, suc, ◌+◌, ◌<◌, ◌≤◌, ◌&&◌, not, false, cond, List, [], ◌∷◌, ◌++◌, length, map, ◌⊎◌, inl, inr, refl, sym, ap, ◌∙◌, subst, arith}
use Rattle.std.specs.Prelude.{Some, sum_by, count_by}
use Rattle.std.specs.List.{AllByRecursion, Contains, slice_get}
use Rattle.std.proofs.lemmas.Bool.{cases_eq}
use Rattle.std.proofs.lemmas.List.{length-append}
use Rattle.std.proofs.lemmas.List.Elements.{All-from_recursion, All-contains}
use Rattle.std.proofs.lemmas.List.Sums.{sum_by-cons}
use Rattle.rht_words.specs.declared.geometry.Geometry.{Geometry}
use Rattle.rht_words.specs.Members.{In}
use Rattle.rht_words.proofs.Members.{In-append_left, In-append_right, In-append_cases}
use Rattle.rht_model.specs.declared.history.Call.{Call}
use Rattle.rht_model.specs.declared.history.Call.TheVariants.{Bind, Rebind}
use Rattle.rht_model.specs.declared.history.Reply.{Reply}
use Rattle.rht_model.specs.declared.history.Reply.TheVariants.{NoNode}
use Rattle.rht_arena.specs.Laws.{map_place, map_bit}
use Rattle.rht_core.specs.declared.book.Book.{Book}
use Rattle.rht_core.specs.Traces.{Did, Past, Trace}
use Rattle.rht_core.specs.Laws.{ClearsBitOf, IsNoTake, IsTakeOf, TakesNone, TakesOne, IsTakenBy, IsTakenIn}
use Rattle.rht_core.specs.NodesUsed.{needs_node, is_no_node, took_node, takers_of}

-- ---- as many numbers as a list has, and no more

-- a list with a member is what stands before it, and what stands behind it
record IsSplitAt (x : ℕ) (xs : List ℕ) : Type 0 where
  front : List ℕ
  rear : List ℕ
  split : xs ≡ front ++ x ∷ rear

split_at : (x : ℕ) (xs : List ℕ) → In x xs → IsSplitAt x xs
split_at x [] i = absurd i
split_at x (y ∷ xs) (inl same) = record { front = []; rear = xs; split = ap (λ z. z ∷ xs) (sym same) }
split_at x (y ∷ xs) (inr later) =
    let rest = split_at x xs later in
    record { front = y ∷ rest.front; rear = rest.rear; split = ap (λ zs. y ∷ zs) rest.split }

-- a list that has all numbers below a bound is no shorter
few_below : (bound : ℕ) (xs : List ℕ) → ((n : ℕ) → n < bound → In n xs) → bound ≤ length xs
few_below zero xs all = omega arith
few_below (suc n) xs all =
    let here = split_at n xs (all n (omega arith)) in
    let rest = few_below n (here.front ++ here.rear) (λ m l. others here.front here.rear m l
    (subst (In m) here.split (all m (omega arith)))) in
    let long = ap length here.split ∙ length-append here.front (n ∷ here.rear) in
    let short = length-append here.front here.rear in
    omega (arith, rest, long, short)
  where
    others : (front rear : List ℕ) (m : ℕ) → m < n → In m (front ++ n ∷ rear) → In m (front ++ rear)
    others front rear m l i = elim (In-append_cases m front (n ∷ rear) i) [
      | inl before ↦ In-append_left m front rear before
      | inr (inl same) ↦ absurd (omega (arith, l, same))
      | inr (inr behind) ↦ In-append_right m front rear behind
    ]

-- of so many numbers it holds, and of no others
pub record Covers (count : ℕ) (So : ℕ → Type 0) : Type 0 where
  pub nodes : List ℕ
  pub few : length nodes ≤ count
  pub all : (n : ℕ) → So n → In n nodes

pub covers_none : (count : ℕ) (So : ℕ → Type 0) → ((n : ℕ) → So n → ⊥) → Covers count So
covers_none count So none = record { nodes = []; few = omega arith; all = λ n so. absurd (none n so) }

pub covers_one : (node : ℕ) (So : ℕ → Type 0) → ((n : ℕ) → So n → n ≡ node) → Covers 1 So
covers_one node So only = record { nodes = node ∷ []; few = omega arith; all = λ n so. inl (only n so) }

pub covers_both : (a b : ℕ) (A B : ℕ → Type 0) → Covers a A → Covers b B → Covers (a + b) (λ n. A n ⊎ B n)
covers_both a b A B first second = record {
  nodes = first.nodes ++ second.nodes;
  few = (let long = length-append first.nodes second.nodes in let f = first.few in let s = second.few in
      omega (arith, long, f, s));
  all = λ n so. elim so [
    | inl is ↦ In-append_left n first.nodes second.nodes (first.all n is)
    | inr is ↦ In-append_right n first.nodes second.nodes (second.all n is)
  ];
}

pub covers_all : (count bound : ℕ) (So : ℕ → Type 0) → Covers count So → ((n : ℕ) → n < bound → So n) → bound ≤ count
covers_all count bound So covers every =
    let few = few_below bound covers.nodes (λ n l. covers.all n (every n l)) in
    let most = covers.few in
    omega (arith, few, most)

-- ---- the nodes that a call took

module _ (g : Geometry) where
  -- one of these operations took the node
  abbrev pub TookBit : List Did → ℕ → Type 0
  TookBit steps n = (did : Did) × Contains steps did × ClearsBitOf g n did

  pub no_take : (steps : List Did) → TakesNone g steps → (n : ℕ) → TookBit steps n → ⊥
  no_take steps none n (did, stands, clears) =
      All-contains (IsNoTake g) steps did (All-from_recursion (IsNoTake g) steps none) stands n clears

  -- whoever clears the bit of a node in a step that takes one takes that one
  same_node : (node n : ℕ) (did : Did) → IsTakeOf g node did → ClearsBitOf g n did → n ≡ node
  same_node node n did takes clears =
      let places : map_place g n ≡ map_place g node = sym clears.place ∙ takes.clears.place in
      elim (cases_eq (map_bit n) (map_bit node)) [
        | inl same ↦ omega (arith, places, same)
        | inr differ ↦
            let kept = takes.clears.others (map_bit n) (omega arith) differ in
            let free = clears.free in let taken = clears.taken in
            absurd (omega (arith, kept, free, taken))
      ]

  abbrev IsOnlyOf : ℕ → Did → Type 0
  IsOnlyOf node did = (n : ℕ) → ClearsBitOf g n did → n ≡ node

  none_only : (node : ℕ) (steps : List Did) → TakesNone g steps → AllByRecursion (IsOnlyOf node) steps
  none_only node [] none = tt
  none_only node (did ∷ steps) none = ((λ n clears. absurd (none.0 n clears)), none_only node steps none.1)

  one_only : (node : ℕ) (steps : List Did) → TakesOne g node steps → AllByRecursion (IsOnlyOf node) steps
  one_only node [] one = absurd one
  one_only node (did ∷ steps) (inl now) = ((λ n clears. same_node node n did now.0 clears), none_only node steps now.1)
  one_only node (did ∷ steps) (inr later) = ((λ n clears. absurd (later.0 n clears)), one_only node steps later.1)

  pub one_take : (node : ℕ) (steps : List Did) → TakesOne g node steps → (n : ℕ) → TookBit steps n → n ≡ node
  one_take node steps one n (did, stands, clears) =
      All-contains (IsOnlyOf node) steps did (All-from_recursion (IsOnlyOf node) steps (one_only node steps one)) stands n clears

  -- a call that has ended
  not_none : (reply : Reply) → reply ≢ NoNode → is_no_node reply ≡ false
  not_none NoNode ne = absurd (ne refl)
  not_none _ ne = refl

  took_by : (reply : Reply) (steps : List Did) → IsTakenBy g reply steps
      → Covers (cond (not (is_no_node reply)) 1 0) (TookBit steps)
  took_by reply steps (inl (no_node, none)) = covers_none _ (TookBit steps) (no_take steps none)
  took_by reply steps (inr (some, (node, one))) =
      subst (λ b. Covers (cond (not b) 1 0) (TookBit steps)) (sym (not_none reply some))
      (covers_one node (TookBit steps) (one_take node steps one))

  took_in : (call : Call) (reply : Reply) (steps : List Did) → IsTakenIn g call reply steps
      → Covers (cond (needs_node call && not (is_no_node reply)) 1 0) (TookBit steps)
  took_in (Bind port owner once) reply steps taken = took_by reply steps taken
  took_in (Rebind port owner new) reply steps taken = took_by reply steps taken
  took_in _ reply steps none = covers_none _ (TookBit steps) (no_take steps none)

  -- one of the calls took the node
  abbrev pub TookPast : List Past → ℕ → Type 0
  TookPast [] n = ⊥
  TookPast (past ∷ calls) n = TookBit past.steps n ⊎ TookPast calls n

  pub pasts_took : (calls : List Past)
      → AllByRecursion (λ past. IsTakenIn g past.done.call past.done.reply past.steps) calls
      → Covers (count_by took_node (map (λ past. past.done) calls)) (TookPast calls)
  pasts_took [] all = covers_none _ (TookPast []) (λ n so. so)
  pasts_took (past ∷ calls) all =
      subst (λ count. Covers count (TookPast (past ∷ calls)))
      (sym (sum_by-cons (λ done. cond (took_node done) 1 0) past.done (map (λ p. p.done) calls)))
      (covers_both _ _ (TookBit past.steps) (TookPast calls)
      (took_in past.done.call past.done.reply past.steps all.0) (pasts_took calls all.1))

  -- a caller's calls, with the one in progress
  abbrev pub TookCaller : Trace → ℕ → Type 0
  TookCaller trace n = TookPast trace.past n ⊎ TookBit trace.steps n

  -- whichever call an operation stands in
  pub of_call : (calls : List Past) (last : List Did) (number : ℕ) (steps : List Did) (n : ℕ)
      → slice_get (map (λ past. past.steps) calls ++ last ∷ []) number ≡ Some steps → TookBit steps n
      → TookPast calls n ⊎ TookBit last n
  of_call [] last zero steps n is took = inr (subst (λ s. TookBit s n) (let same : last ≡ steps = cc in sym same) took)
  of_call [] last (suc number) steps n is took = absurd (cc)
  of_call (past ∷ calls) last zero steps n is took =
      inl (inl (subst (λ s. TookBit s n) (let same : past.steps ≡ steps = cc in sym same) took))
  of_call (past ∷ calls) last (suc number) steps n is took = elim (of_call calls last number steps n is took) [
    | inl in_past ↦ inl (inr in_past)
    | inr in_last ↦ inr in_last
  ]

  -- all callers
  abbrev pub TookAny : (ℕ → Trace) → List ℕ → ℕ → Type 0
  TookAny traces [] n = ⊥
  TookAny traces (c ∷ callers) n = TookCaller (traces c) n ⊎ TookAny traces callers n

  pub of_caller : (traces : ℕ → Trace) (callers : List ℕ) (c n : ℕ) → In c callers → TookCaller (traces c) n
      → TookAny traces callers n
  of_caller traces [] c n i took = absurd i
  of_caller traces (d ∷ callers) c n (inl same) took = inl (subst (λ k. TookCaller (traces k) n) same took)
  of_caller traces (d ∷ callers) c n (inr later) took = inr (of_caller traces callers c n later took)

  pub any_took : (traces : ℕ → Trace) (books : ℕ → Book) (callers : List ℕ)
      → ((c : ℕ) → Covers (takers_of (books c)) (TookCaller (traces c)))
      → Covers (sum_by (λ c. takers_of (books c)) callers) (TookAny traces callers)
  any_took traces books [] each = covers_none _ (TookAny traces []) (λ n so. so)
  any_took traces books (c ∷ callers) each =
      subst (λ count. Covers count (TookAny traces (c ∷ callers)))
      (sym (sum_by-cons (λ d. takers_of (books d)) c callers))
      (covers_both _ _ (TookCaller (traces c)) (TookAny traces callers) (each c) (any_took traces books callers each))
