-- Ports rise exactly where each is at least a bound that the one before it sets.
-- That bound goes along in an induction over the ports, which a fact by places doesn't.
use Rattle.std.proofs.Common.{◌≡◌, ℕ, ◌+◌, ◌<◌, ◌≤◌, ◌==◌, nat_lt, List, [], ◌∷◌, length, slice_index, suc, zero, arith}
use Rattle.std.proofs.lemmas.Bool.{cond_both, ltb-true, ltb-false, eqb-false}
use Rattle.std.specs.List.Sorted.{IsStrictlyIncreasing}
use Rattle.rht_model.specs.Listing.{inserted, rising}

-- the ports rise, and the first of them is no less than this number
abbrev pub RisesFrom : ℕ → List ℕ → Type 0
RisesFrom low [] = Unit {0}
RisesFrom low (port ∷ ports) = (low ≤ port) × RisesFrom (suc port) ports

-- without its first port, a rising list rises
IsStrictlyIncreasing-tail : (port : ℕ) (ports : List ℕ) → IsStrictlyIncreasing (port ∷ ports)
    → IsStrictlyIncreasing ports
IsStrictlyIncreasing-tail port ports rises k within =
    let place : suc k + 1 ≡ suc (k + 1) = omega arith in
    rw place at (rises (suc k) (omega arith))

-- By induction over the ports: the first is at least the bound, and the second is above the first.
pub RisesFrom-from_increasing : (low : ℕ) (ports : List ℕ) → (0 < length ports → low ≤ slice_index ports 0)
    → IsStrictlyIncreasing ports → RisesFrom low ports
RisesFrom-from_increasing low [] first rises = tt
RisesFrom-from_increasing low (port ∷ ports) first rises = (
  first (omega arith),
  RisesFrom-from_increasing (suc port) ports (λ some. rises 0 (omega arith))
      (IsStrictlyIncreasing-tail port ports rises),
)

-- By induction over the ports: at the first place the bound says it, and behind it the tail.
pub IsStrictlyIncreasing-from_rises : (low : ℕ) (ports : List ℕ) → RisesFrom low ports
    → IsStrictlyIncreasing ports
IsStrictlyIncreasing-from_rises low [] rises k within = absurd (omega arith)
IsStrictlyIncreasing-from_rises low (port ∷ []) rises k within = absurd (omega arith)
IsStrictlyIncreasing-from_rises low (port ∷ next ∷ ports) rises zero within = rises.1.0
IsStrictlyIncreasing-from_rises low (port ∷ next ∷ ports) rises (suc k) within =
    let place : suc k + 1 ≡ suc (k + 1) = omega arith in
    rw place (IsStrictlyIncreasing-from_rises (suc port) (next ∷ ports) rises.1 k (omega arith))

-- By induction over the ports: a number that is at least the bound finds its place among them.
pub RisesFrom-inserted : (low number : ℕ) (ports : List ℕ) → low ≤ number → RisesFrom low ports
    → RisesFrom low (inserted number ports)
RisesFrom-inserted low number [] above rises = (above, tt)
RisesFrom-inserted low number (port ∷ ports) above rises =
    let later = λ (past : suc port ≤ number). RisesFrom-inserted (suc port) number ports past rises.1 in
    let at_or_behind = λ (reaches : port ≤ number). cond_both (number == port) (port ∷ ports)
    (port ∷ inserted number ports) (RisesFrom low)
    (λ same. rises)
    (λ other. (rises.0, later (omega (arith, eqb-false number port other)))) in
    cond_both (nat_lt number port) (number ∷ port ∷ ports) _ (RisesFrom low)
    (λ before. (above, (ltb-true number port before, rises.1)))
    (λ not_before. at_or_behind (ltb-false number port not_before))

-- By induction over the numbers: each finds its place among the others.
pub RisesFrom-rising : (numbers : List ℕ) → RisesFrom 0 (rising numbers)
RisesFrom-rising [] = tt
RisesFrom-rising (number ∷ numbers) =
    RisesFrom-inserted 0 number (rising numbers) (omega arith) (RisesFrom-rising numbers)
