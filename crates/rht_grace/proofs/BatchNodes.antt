-- The nodes of a batch are the table's, and none of them stands there twice. So it has room for each node that it lacks, and it
-- stays so whatever is done to it.
use Rattle.std.proofs.Common.{◌≡◌, ℕ, ◌<◌, ◌≤◌, List, [], ◌∷◌, ◌++◌, length, length-append, append-nil, append_assoc, get_or, length-set, Bool, true, false, ◌==◌, refl, sym, ◌∙◌, subst, arith}
use Rattle.std.specs.Prelude.{◌||◌, ◌↔◌, not}
use Rattle.std.specs.List.{AllByRecursion, list_any}
use Rattle.std.proofs.lemmas.Bool.{eqb-false, ne_eqb}
use Rattle.rht_words.specs.Members.{NotIn, IsDistinct}
use Rattle.rht_words.proofs.Members.{IsDistinct-left, IsDistinct-with, NotIn-append, length-count_below, count_below-most}
use Rattle.rht_words.proofs.EachElement.{AllByRecursion-append, AllByRecursion-cut, AllByRecursion-get_or}
use Rattle.rht_grace.specs.Batch.{BatchModel, IsBatch, with_fresh, turned, with_word, cleared}

-- numbers below a bound, none of them twice, are no more than there are
length-distinct : (bound : ℕ) (xs : List ℕ) → IsDistinct xs → AllByRecursion (λ x. x < bound) xs → length xs ≤ bound
length-distinct bound xs distinct below =
    let few = length-count_below (λ x. true) bound xs distinct below (λ x i. refl) in
    let most = count_below-most (λ x. true) bound in
    omega (arith, few, most)

-- what is none of two lists joined is none of either, and the other way round
NotIn-parts : (x : ℕ) (xs ys : List ℕ) → NotIn x (xs ++ ys) → NotIn x xs × NotIn x ys
NotIn-parts x [] ys out = (tt, out)
NotIn-parts x (y ∷ xs) ys out = let rest = NotIn-parts x xs ys out.1 in ((out.0, rest.0), rest.1)

pub NotIn-left : (x : ℕ) (xs ys : List ℕ) → NotIn x (xs ++ ys) → NotIn x xs
NotIn-left x xs ys out = (NotIn-parts x xs ys out).0

pub NotIn-right : (x : ℕ) (xs ys : List ℕ) → NotIn x (xs ++ ys) → NotIn x ys
NotIn-right x xs ys out = (NotIn-parts x xs ys out).1

-- a search that finds nothing says so, and where the number is none of these it finds nothing
pub list_any-NotIn : (x : ℕ) (xs : List ℕ) → list_any (λ y. y == x) xs ≡ false → NotIn x xs
list_any-NotIn x [] none = tt
list_any-NotIn x (y ∷ ys) none = go (list_any-NotIn x ys) (y == x) refl none
  where
    go : (list_any (λ z. z == x) ys ≡ false → NotIn x ys) → (b : Bool) → (y == x) ≡ b
        → (b || list_any (λ z. z == x) ys) ≡ false
        → NotIn x (y ∷ ys)
    go rest true is none = absurd (cc)
    go rest false is none = ((λ same. eqb-false y x is (sym same)), rest none)

pub NotIn-list_any : (x : ℕ) (xs : List ℕ) → NotIn x xs → list_any (λ y. y == x) xs ≡ false
NotIn-list_any x [] out = refl
NotIn-list_any x (y ∷ ys) out = rw (ne_eqb y x (λ same. out.0 (sym same))) (NotIn-list_any x ys out.1)

-- so it says of one list
pub none_of-NotIn : (x : ℕ) (xs : List ℕ) (found : Bool) → found ≡ list_any (λ y. y == x) xs
    → (not found ≡ true) ↔ NotIn x xs
none_of-NotIn x xs true is =
    ((λ none. absurd (cc)), (λ out. let e : true ≡ false = is ∙ NotIn-list_any x xs out in absurd (cc)))
none_of-NotIn x xs false is = ((λ none. list_any-NotIn x xs (sym is)), (λ out. refl))

-- and of two, where it says so of the first one, or doesn't
pub none_of-both : (x : ℕ) (xs ys left right : List ℕ) (here there : Bool) → left ≡ xs → right ≡ ys → here ≡ true
    → (here ≡ true) ↔ NotIn x left
    → (there ≡ true) ↔ NotIn x right
    → (there ≡ true) ↔ NotIn x (xs ++ ys)
none_of-both x xs ys left right here there same_left same_right is first second = (
  (λ none. NotIn-append x xs ys (subst (NotIn x) same_left (first.0 is)) (subst (NotIn x) same_right (second.0 none))),
  (λ out. second.1 (subst (NotIn x) (sym same_right) (NotIn-right x xs ys out))),
)

pub none_of-first : (x : ℕ) (xs ys left : List ℕ) (here : Bool) → left ≡ xs → here ≡ false
    → (here ≡ true) ↔ NotIn x left
    → (here ≡ true) ↔ NotIn x (xs ++ ys)
none_of-first x xs ys left here same is first = (
  (λ none. let e : true ≡ false = sym none ∙ is in absurd (cc)),
  (λ out. first.1 (subst (NotIn x) (sym same) (NotIn-left x xs ys out))),
)

module _ (batch : BatchModel) (sound : IsBatch batch) where
  abbrev Below : ℕ → Type 0
  Below node = node < batch.geometry.nodes

  -- a node that is in neither list finds room
  pub fresh_room : (node : ℕ) → Below node → NotIn node (batch.fresh ++ batch.waiting)
      → length batch.fresh < batch.geometry.nodes
  fresh_room node below apart =
      let few =
      length-distinct batch.geometry.nodes (node ∷ (batch.fresh ++ batch.waiting)) (apart, sound.distinct)
      (below, sound.among) in
      omega (arith, few, length-append batch.fresh batch.waiting)

  pub fresh-below : AllByRecursion Below batch.fresh
  fresh-below = (AllByRecursion-cut Below batch.fresh batch.waiting sound.among).0

  pub waiting-below : AllByRecursion Below batch.waiting
  waiting-below = (AllByRecursion-cut Below batch.fresh batch.waiting sound.among).1

  pub waiting-node : (index : ℕ) → Below (get_or batch.waiting index 0)
  waiting-node index =
      let within = batch.geometry.within.nodes_within in
      AllByRecursion-get_or Below batch.waiting index 0 (omega (arith, within.0)) waiting-below

  -- no more wait, and no more are fresh, than there are nodes
  pub waiting-most : length batch.waiting ≤ batch.geometry.nodes
  waiting-most =
      let few = length-distinct batch.geometry.nodes (batch.fresh ++ batch.waiting) sound.distinct sound.among in
      omega (arith, few, length-append batch.fresh batch.waiting)

  pub IsBatch-with_fresh : (node : ℕ) → Below node → NotIn node (batch.fresh ++ batch.waiting)
      → IsBatch (with_fresh batch node)
  IsBatch-with_fresh node below apart =
      let parts = NotIn-parts node batch.fresh batch.waiting apart in
      let same = append_assoc batch.fresh (node ∷ []) batch.waiting in
      record {
        among = subst (AllByRecursion Below) (sym same)
            (AllByRecursion-append Below batch.fresh (node ∷ batch.waiting) fresh-below (below, waiting-below));
        distinct = subst IsDistinct (sym same)
            (IsDistinct-with batch.fresh node batch.waiting sound.distinct parts.0 parts.1);
        callers = sound.callers;
      }

  pub IsBatch-cleared : IsBatch (cleared batch)
  IsBatch-cleared =
      let same = append-nil batch.fresh in
      record {
        among = subst (AllByRecursion Below) (sym same) fresh-below;
        distinct = subst IsDistinct (sym same) (IsDistinct-left batch.fresh batch.waiting sound.distinct);
        callers = sound.callers;
      }

  pub IsBatch-with_word : (caller word : ℕ) → IsBatch (with_word batch caller word)
  IsBatch-with_word caller word = record {
    among = sound.among;
    distinct = sound.distinct;
    callers = length-set batch.kept caller word ∙ sound.callers;
  }

  pub IsBatch-turned : batch.waiting ≡ [] → IsBatch (turned batch)
  IsBatch-turned none =
      let same : batch.fresh ++ batch.waiting ≡ batch.fresh = rw none (append-nil batch.fresh) in
      record {
        among = subst (AllByRecursion Below) same sound.among;
        distinct = subst IsDistinct same sound.distinct;
        callers = sound.callers;
      }
