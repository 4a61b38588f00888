-- The nodes that a walk has shown: their keys are the ports, and so there are fewer of them than nodes where one more is another.
use Rattle.std.proofs.Common.{◌≡◌, ℕ, ◌<◌, Bool, true, List, [], ◌∷◌, length, map, refl, sym, ap, subst, inl, inr, arith}
use Rattle.std.proofs.lemmas.List.{length-map}
use Rattle.rht_words.specs.Members.{In, IsDistinct}
use Rattle.rht_words.proofs.Members.{not_in_from, in_and_not, In-AllByRecursion, count_below-most, length-count_below}

-- a value of a function on a list is that of one of its elements
pub record IsKeyOf (key : ℕ → ℕ) (nodes : List ℕ) (port : ℕ) : Type 0 where
  pub node : ℕ
  pub there : In node nodes
  pub is : port ≡ key node

pub map-In : (key : ℕ → ℕ) (nodes : List ℕ) (port : ℕ) → In port (map key nodes) → IsKeyOf key nodes port
map-In key [] port i = absurd i
map-In key (n ∷ nodes) port (inl e) = record { node = n; there = inl refl; is = e }
map-In key (n ∷ nodes) port (inr i) =
    let of = map-In key nodes port i in record { node = of.node; there = inr of.there; is = of.is }

pub In-map : (key : ℕ → ℕ) (nodes : List ℕ) (n : ℕ) → In n nodes → In (key n) (map key nodes)
In-map key (m ∷ nodes) n (inl e) = inl (ap key e)
In-map key (m ∷ nodes) n (inr i) = inr (In-map key nodes n i)
In-map key [] n i = absurd i

-- functions that agree on a list give one list of values
pub map-agree : (key other : ℕ → ℕ) (nodes : List ℕ) → ((n : ℕ) → In n nodes → other n ≡ key n) → map other nodes ≡ map key nodes
map-agree key other [] same = refl
map-agree key other (n ∷ nodes) same =
    let head = same n (inl refl) in
    let tail = map-agree key other nodes (λ m i. same m (inr i)) in
    cc

-- where the values are distinct, so are the elements
pub distinct-elements : (key : ℕ → ℕ) (nodes : List ℕ) → IsDistinct (map key nodes) → IsDistinct nodes
distinct-elements key [] distinct = tt
distinct-elements key (n ∷ nodes) distinct = (
  not_in_from n nodes (λ i. in_and_not (key n) (map key nodes) (In-map key nodes n i) distinct.0),
  distinct-elements key nodes distinct.1,
)

-- Distinct nodes are fewer than there are, where one more is another.
pub fewer : (all : ℕ) (nodes : List ℕ) (n : ℕ) → n < all → ((m : ℕ) → In m nodes → m < all) → IsDistinct nodes → (In n nodes → ⊥)
    → length nodes < all
fewer all nodes n low among distinct apart =
    let each : ℕ → Bool = λ m. true in
    let within : (x : ℕ) → In x (n ∷ nodes) → x < all = λ x i. elim i [
      | inl e ↦ subst (λ m. m < all) (sym e) low
      | inr k ↦ among x k
    ] in
    let short = length-count_below each all (n ∷ nodes) (not_in_from n nodes apart, distinct)
    (In-AllByRecursion (λ x. x < all) (n ∷ nodes) within) (λ x i. refl) in
    let most = count_below-most each all in
    omega (arith, short, most)

-- So they are, where it has a key that none of them has.
pub few-nodes : (all : ℕ) (key : ℕ → ℕ) (nodes : List ℕ) (n : ℕ) → n < all → ((m : ℕ) → In m nodes → m < all)
    → IsDistinct (map key nodes) → (In (key n) (map key nodes) → ⊥) → length (map key nodes) < all
few-nodes all key nodes n low among distinct apart =
    let less = fewer all nodes n low among (distinct-elements key nodes distinct) (λ i. apart (In-map key nodes n i)) in
    let count = length-map nodes key in
    omega (arith, less, count)
