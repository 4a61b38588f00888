-- Going along links node by node, or bucket by bucket, marks each node that is met; and a node is marked in the end where it was met.
use Rattle.std.proofs.Common.{◌≡◌, ℕ, zero, suc, ◌+◌, ◌-◌, ◌<◌, ◌⊎◌, Bool, true, false, Option, None, Some, List, [], ◌∷◌, ◌++◌, length, set, length-set, get_or-set_same, get_or-set_other, refl, sym, ◌∙◌, ap, subst, inl, inr, arith}
use Rattle.std.specs.List.{range_with_len}
use Rattle.std.proofs.lemmas.Bool.{cases_eq}
use Rattle.rht_words.specs.Members.{In}
use Rattle.rht_stands.specs.Closing.{marked, is_marked}

-- ---- ways

-- a way along links: it ends where a link leads to none, and goes on behind each node
pub record IsWay (step : ℕ → Option ℕ) (way : ℕ → Option ℕ → List ℕ) : Type 0 where
  pub spent : (next : Option ℕ) → way 0 next ≡ []
  pub none : (left : ℕ) → way (suc left) None ≡ []
  pub some : (left node : ℕ) → way (suc left) (Some node) ≡ node ∷ way left (step node)

module _ (step : ℕ → Option ℕ) (way : ℕ → Option ℕ → List ℕ) (is_way : IsWay step way) where
  -- a node stands before those behind it
  pub way-more : (count walked : ℕ) (next : Option ℕ) (node : ℕ) (following : Option ℕ)
      → next ≡ Some node → walked < count → following ≡ step node
      → way (count - walked) next ≡ node ∷ way (count - (walked + 1)) following
  way-more count walked next node following is within leads =
      let left = count - (walked + 1) in
      let enough : count - walked ≡ suc left = omega arith in
      rw (enough, is, leads) (is_way.some left node)

  pub way-none : (left : ℕ) (next : Option ℕ) → next ≡ None → way left next ≡ []
  way-none zero next none = is_way.spent next
  way-none (suc left) next none = ap (way (suc left)) none ∙ is_way.none left

  pub way-spent : (left : ℕ) (next : Option ℕ) → left ≡ 0 → way left next ≡ []
  way-spent left next spent = ap (λ n. way n next) spent ∙ is_way.spent next

-- a bucket stands before those behind it
pub range-more : (count from : ℕ) → from < count → range_with_len from (count - from) ≡ from ∷ range_with_len (from + 1) (count - (from + 1))
range-more count from within =
    let left = count - (from + 1) in
    let enough : count - from ≡ suc left = omega arith in
    rw enough refl

pub range-spent : (count from : ℕ) → count - from ≡ 0 → range_with_len from (count - from) ≡ []
range-spent count from spent = ap (range_with_len from) spent

-- ---- marks

pub marked-append : (marks : List Bool) (xs ys : List ℕ) → marked marks (xs ++ ys) ≡ marked (marked marks xs) ys
marked-append marks [] ys = refl
marked-append marks (x ∷ xs) ys = marked-append (set marks x true) xs ys

pub length-marked : (marks : List Bool) (nodes : List ℕ) → length (marked marks nodes) ≡ length marks
length-marked marks [] = refl
length-marked marks (node ∷ nodes) = length-marked (set marks node true) nodes ∙ length-set marks node true

-- what is marked stays so
marked-kept : (marks : List Bool) (nodes : List ℕ) (n : ℕ) → n < length marks → is_marked marks n ≡ true
    → is_marked (marked marks nodes) n ≡ true
marked-kept marks [] n below is = is
marked-kept marks (node ∷ nodes) n below is =
    marked-kept (set marks node true) nodes n (subst (λ l. n < l) (sym (length-set marks node true)) below)
    (elim (cases_eq n node) [
      | inl same ↦ rw same (get_or-set_same marks node true false (subst (λ m. m < length marks) same below))
      | inr other ↦ get_or-set_other marks node n true false other ∙ is
    ])

-- a node that was met is marked
pub met-marked : (marks : List Bool) (nodes : List ℕ) (n : ℕ) → n < length marks → In n nodes → is_marked (marked marks nodes) n ≡ true
met-marked marks [] n below i = absurd i
met-marked marks (node ∷ nodes) n below (inl same) =
    marked-kept (set marks node true) nodes n (subst (λ l. n < l) (sym (length-set marks node true)) below)
    (rw same (get_or-set_same marks node true false (subst (λ m. m < length marks) same below)))
met-marked marks (node ∷ nodes) n below (inr i) =
    met-marked (set marks node true) nodes n (subst (λ l. n < l) (sym (length-set marks node true)) below) i

-- and one that is marked was met, or was marked before
pub marked-met : (marks : List Bool) (nodes : List ℕ) (n : ℕ) → is_marked (marked marks nodes) n ≡ true
    → In n nodes ⊎ (is_marked marks n ≡ true)
marked-met marks [] n is = inr is
marked-met marks (node ∷ nodes) n is = elim (marked-met (set marks node true) nodes n is) [
  | inl i ↦ inl (inr i)
  | inr before ↦ elim (cases_eq n node) [
    | inl same ↦ inl (inl same)
    | inr other ↦ inr (sym (get_or-set_other marks node n true false other) ∙ before)
  ]
]
