-- The nodes that are out: those that calls have taken out of ports' lists. There are as many of them as calls that have ended say,
-- while nobody is in a call.
use Rattle.std.proofs.Common.{◌≡◌, ℕ, zero, suc, ◌+◌, ◌<◌, ◌==◌, Bool, true, false, List, [], ◌∷◌, length, refl, sym, ◌∙◌, arith, Some}
use Rattle.std.specs.Prelude.{sum_by}
use Rattle.std.specs.List.{AllByRecursion, range_with_len}
use Rattle.std.proofs.lemmas.Bool.{eq-eqb, ne_eqb}
use Rattle.std.proofs.lemmas.List.Sums.{sum_by-cons}
use Rattle.rht_words.specs.declared.env.Env.{Env}
use Rattle.rht_words.specs.Members.{In, IsDistinct}
use Rattle.rht_words.proofs.Members.{one_if, count_below, count_below-more, count_below-none, count_by-range}
use Rattle.rht_ghost.proofs.Theory.Ghosts.{Owner, Free, NodeHeld, First, Leaving, Behind, Taken, Ghost, is_taken_by, seat_of}
use Rattle.rht_ghost.proofs.Theory.Wholes.{IsBuilt, outs}
use Rattle.rht_core.proofs.Counting.NumbersBelow.{having, having-length, having-among, having-distinct, having-in, having-out}

-- somebody has taken the node out
abbrev pub is_out : Owner → Bool
is_out Free = false
is_out (NodeHeld c) = false
is_out (First j) = false
is_out (Leaving j) = false
is_out (Behind k) = false
is_out (Taken c) = true

-- a node with a seat isn't
pub seat-is_out : (o : Owner) (j : ℕ) → seat_of o ≡ Some j → is_out o ≡ false
seat-is_out (First i) j is = refl
seat-is_out (Leaving i) j is = refl
seat-is_out _ j is = absurd (cc)

-- ---- sums over callers

pub sum_by-same : (f g : ℕ → ℕ) → ((c : ℕ) → f c ≡ g c) → (callers : List ℕ)
    → sum_by f callers ≡ sum_by g callers
sum_by-same f g same [] = refl
sum_by-same f g same (c ∷ callers) =
    let first = same c in let rest = sum_by-same f g same callers in
    sum_by-cons f c callers ∙ omega (arith, first, rest) ∙ sym (sum_by-cons g c callers)

pub sum_by-plus : (f g : ℕ → ℕ) (callers : List ℕ) → sum_by (λ c. f c + g c) callers ≡ sum_by f
    callers + sum_by g callers
sum_by-plus f g [] = refl
sum_by-plus f g (c ∷ callers) =
    let both = sum_by-cons (λ c. f c + g c) c callers in
    let left = sum_by-cons f c callers in
    let right = sum_by-cons g c callers in
    let rest = sum_by-plus f g callers in
    omega (arith, both, left, right, rest)

sum_by-zero : (callers : List ℕ) → sum_by (λ (c : ℕ). 0) callers ≡ 0
sum_by-zero [] = refl
sum_by-zero (c ∷ callers) =
    let all = sum_by-cons (λ (c : ℕ). 0) c callers in let rest = sum_by-zero callers in omega
    (arith, all, rest)

-- one caller of so many is this one
one_caller : (d callers : ℕ) → d < callers → sum_by (λ c. one_if (d == c)) (range_with_len 0 callers) ≡ 1
one_caller d callers l =
    let none = count_below-none (λ c. false) callers (λ c below. refl) in
    let more = count_below-more (λ c. false) (λ c. d == c) d callers l refl (eq-eqb d d refl)
    (λ c ne. ne_eqb d c (λ e. ne (sym e))) in
    count_by-range (λ c. d == c) callers ∙ omega (arith, none, more)

module _ (env : Env) (mix : ℕ → ℕ → ℕ → ℕ) (G : Ghost) (built : (n : ℕ) → IsBuilt env mix (G.node n)) where
  abbrev callers : List ℕ
  callers = range_with_len 0 env.geometry.callers

  -- each node that is out was taken by one of the callers
  taken_once : (owner : Owner) → IsBuilt env mix owner
      → one_if (is_out owner) ≡ sum_by (λ c. one_if (is_taken_by c owner)) callers
  taken_once (Taken d) is = sym (one_caller d env.geometry.callers is)
  taken_once _ is = sym (sum_by-zero callers)

  counted_below : (bound : ℕ)
      → count_below (λ n. is_out (G.node n)) bound ≡ sum_by
      (λ c. count_below (λ n. is_taken_by c (G.node n)) bound) callers
  counted_below zero = sym (sum_by-zero callers)
  counted_below (suc n) =
      let before = counted_below n in
      let here = taken_once (G.node n) (built n) in
      let both = sum_by-plus (λ c. count_below (λ n. is_taken_by c (G.node n)) n)
      (λ c. one_if (is_taken_by c (G.node n))) callers in
      omega (arith, before, here, both)

  -- as many are out as all callers have taken
  pub outs-all : count_below (λ n. is_out (G.node n)) env.geometry.nodes ≡ sum_by (outs env mix G) callers
  outs-all = counted_below env.geometry.nodes

  -- ---- which they are

  -- the nodes that are out
  abbrev pub out_nodes : List ℕ
  out_nodes = having (λ n. is_out (G.node n)) env.geometry.nodes

  pub out_nodes-distinct : IsDistinct out_nodes
  out_nodes-distinct = having-distinct (λ n. is_out (G.node n)) env.geometry.nodes

  pub out_nodes-among : AllByRecursion (λ m. m < env.geometry.nodes) out_nodes
  out_nodes-among = having-among (λ n. is_out (G.node n)) env.geometry.nodes

  pub out_nodes-many : length out_nodes ≡ sum_by (outs env mix G) callers
  out_nodes-many = having-length (λ n. is_out (G.node n)) env.geometry.nodes ∙ outs-all

  pub out_nodes-in : (m : ℕ) → m < env.geometry.nodes → is_out (G.node m) ≡ true → In m out_nodes
  out_nodes-in m l is = having-in (λ n. is_out (G.node n)) env.geometry.nodes m l is

  pub out_nodes-out : (m : ℕ) → In m out_nodes → is_out (G.node m) ≡ true
  out_nodes-out m i = having-out (λ n. is_out (G.node n)) env.geometry.nodes m i
