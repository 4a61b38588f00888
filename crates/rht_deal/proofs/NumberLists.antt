-- Lists of numbers and what they weigh, and sums over the views of all passes.
use Rattle.std.proofs.Common.{◌≡◌, ◌≢◌, ℕ, zero, suc, ◌+◌, ◌<◌, ◌≤◌, Bool, true, false, List, [], ◌∷◌, ◌++◌, length, set, refl, sym, ◌∙◌, ap, arith}
use Rattle.std.specs.Prelude.{sum_by, nat_lt, ◌||◌}
use Rattle.std.specs.List.{AllByRecursion, range_with_len}
use Rattle.std.proofs.lemmas.Bool.{le-ltb, ltb-false}
use Rattle.std.proofs.lemmas.List.Sums.{sum_by-cons}
use mathlib.Core.Option.{some, some-injective, some-ne-none}
use lib.ListN.{get_elem?}
use Rattle.rht_deal.specs.Numbers.{numbers_to, weight}

-- ---- the numbers from 1 on

range-push : (first count : ℕ) → range_with_len first (suc count) ≡ range_with_len first count ++ (first + count) ∷ []
range-push first zero = let same : first ≡ first + 0 = omega arith in ap (λ (n : ℕ). n ∷ []) same
range-push first (suc count) =
    let same : first + 1 + count ≡ first + suc count = omega arith in
    ap (λ l. first ∷ l) (range-push (first + 1) count ∙ ap (λ (n : ℕ). range_with_len (first + 1) count ++ n ∷ []) same)

pub numbers_to-push : (count : ℕ) → numbers_to (count + 1) ≡ numbers_to count ++ (count + 1) ∷ []
numbers_to-push count =
    let more : count + 1 ≡ suc count = omega arith in
    let last : 1 + count ≡ count + 1 = omega arith in
    ap (range_with_len 1) more ∙ range-push 1 count ∙ ap (λ (n : ℕ). range_with_len 1 count ++ n ∷ []) last

-- ---- sums over passes

module _ {V : Type 0} (f : V → ℕ) where
  -- a view that is one of them counts, and another one in its place counts instead
  pub sum_by-set_at : (views : List V) (pass : ℕ) (v w : V) → get_elem? views pass ≡ some v
      → sum_by f (set views pass w) + f v ≡ sum_by f views + f w
  sum_by-set_at [] pass v w at = absurd (some-ne-none v (sym at))
  sum_by-set_at (u ∷ views) zero v w at =
      let same : f u ≡ f v = ap f (some-injective u v at) in
      omega (arith, sum_by-cons f u views, sum_by-cons f w views, same)
  sum_by-set_at (u ∷ views) (suc pass) v w at =
      omega (arith, sum_by-cons f u views, sum_by-cons f u (set views pass w), sum_by-set_at views pass v w at)

  pub sum_by-at : (views : List V) (pass : ℕ) (v : V) → get_elem? views pass ≡ some v → f v ≤ sum_by f views
  sum_by-at [] pass v at = absurd (some-ne-none v (sym at))
  sum_by-at (u ∷ views) zero v at =
      let same : f u ≡ f v = ap f (some-injective u v at) in
      omega (arith, sum_by-cons f u views, same)
  sum_by-at (u ∷ views) (suc pass) v at = omega (arith, sum_by-cons f u views, sum_by-at views pass v at)

  -- two of them count both
  pub sum_by-two : (views : List V) (pass other : ℕ) (v w : V) → get_elem? views pass ≡ some v
      → get_elem? views other ≡ some w → other ≢ pass → f v + f w ≤ sum_by f views
  sum_by-two [] pass other v w at at' apart = absurd (some-ne-none v (sym at))
  sum_by-two (u ∷ views) zero zero v w at at' apart = absurd (apart refl)
  sum_by-two (u ∷ views) zero (suc other) v w at at' apart =
      let same : f u ≡ f v = ap f (some-injective u v at) in
      omega (arith, sum_by-cons f u views, same, sum_by-at views other w at')
  sum_by-two (u ∷ views) (suc pass) zero v w at at' apart =
      let same : f u ≡ f w = ap f (some-injective u w at') in
      omega (arith, sum_by-cons f u views, same, sum_by-at views pass v at)
  sum_by-two (u ∷ views) (suc pass) (suc other) v w at at' apart =
      omega (arith, sum_by-cons f u views, sum_by-two views pass other v w at at' (λ same. apart (ap suc same)))

  -- where all of them count nothing, the sum is nothing
  sum_by-none : (views : List V) → ((pass : ℕ) (v : V) → get_elem? views pass ≡ some v → f v ≡ 0) → sum_by f views ≡ 0
  sum_by-none [] none = refl
  sum_by-none (u ∷ views) none =
      omega (arith, sum_by-cons f u views, none 0 u refl, sum_by-none views (λ pass v at. none (suc pass) v at))

  -- and where all but one count nothing it is that one's
  pub sum_by-only : (views : List V) (pass : ℕ) (v : V) → get_elem? views pass ≡ some v
      → ((other : ℕ) (w : V) → other ≢ pass → get_elem? views other ≡ some w → f w ≡ 0) → sum_by f views ≡ f v
  sum_by-only [] pass v at others = absurd (some-ne-none v (sym at))
  sum_by-only (u ∷ views) zero v at others =
      let same : f u ≡ f v = ap f (some-injective u v at) in
      let none : sum_by f views ≡ 0 =
      sum_by-none views (λ other w there. others (suc other) w (λ is. absurd (omega (arith, is))) there) in
      omega (arith, sum_by-cons f u views, same, none)
  sum_by-only (u ∷ views) (suc pass) v at others =
      let first : f u ≡ 0 = others 0 u (λ is. absurd (omega (arith, is))) refl in
      let rest = sum_by-only views pass v at
      (λ other w apart there. others (suc other) w (λ is. apart (omega (arith, is))) there) in
      omega (arith, sum_by-cons f u views, first, rest)

-- ---- numbers by what they weigh

-- where each weighs 1 they weigh as much as there are
pub weight-ones : (numbers : List ℕ) → weight (λ n. 1) numbers ≡ length numbers
weight-ones [] = refl
weight-ones (number ∷ numbers) = omega (arith, sum_by-cons (λ (n : ℕ). 1) number numbers, weight-ones numbers)

-- what is so weighs 1, what isn't nothing
abbrev pub mark : Bool → ℕ
mark true = 1
mark false = 0

-- so does a number that isn't one of those from the first to the last
abbrev outside : ℕ → ℕ → ℕ → ℕ
outside first last number = mark (nat_lt number first || nat_lt last number)

is_within : (first last number : ℕ) → outside first last number ≡ 0 → (first ≤ number) × (number ≤ last)
is_within first last number none = by_tests (nat_lt number first) (nat_lt last number) refl refl none
  where
    by_tests : (below above : Bool) → nat_lt number first ≡ below → nat_lt last number ≡ above → mark (below || above) ≡ 0
        → (first ≤ number) × (number ≤ last)
    by_tests true above low high none = absurd (omega (arith, none))
    by_tests false true low high none = absurd (omega (arith, none))
    by_tests false false low high none = (ltb-false number first low, ltb-false last number high)

within-outside : (first last number : ℕ) → first ≤ number → number ≤ last → outside first last number ≡ 0
within-outside first last number low high =
    rw (le-ltb number first low, le-ltb last number high) refl

-- those in a range are none of those outside
weight-range : (first last start count : ℕ) → first ≤ start → start + count ≤ last + 1
    → weight (outside first last) (range_with_len start count) ≡ 0
weight-range first last start zero low high = refl
weight-range first last start (suc count) low high =
    let here = within-outside first last start low (omega (arith, high)) in
    let rest = weight-range first last (start + 1) count (omega (arith, low)) (omega (arith, high)) in
    omega (arith, sum_by-cons (outside first last) start (range_with_len (start + 1) count), here, rest)

-- and numbers that are none of those outside are in the range
weight-within : (first last : ℕ) (numbers : List ℕ) → weight (outside first last) numbers ≡ 0
    → AllByRecursion (λ number. (first ≤ number) × (number ≤ last)) numbers
weight-within first last [] none = tt
weight-within first last (number ∷ numbers) none =
    let parts = sum_by-cons (outside first last) number numbers in (
      is_within first last number (omega (arith, parts, none)),
      weight-within first last numbers (omega (arith, parts, none)),
    )

-- numbers that weigh no more than those of a range, however that is done, are in the range
pub AllByRecursion-range : (first count : ℕ) (numbers : List ℕ)
    → ((h : ℕ → ℕ) → weight h numbers ≤ weight h (range_with_len first count))
    → AllByRecursion (λ number. (first ≤ number) × (number < first + count)) numbers
AllByRecursion-range first zero [] less = tt
AllByRecursion-range first zero (number ∷ numbers) less =
    let most : weight (λ n. 1) (number ∷ numbers) ≤ 0 = less (λ n. 1) in
    absurd (omega (arith, most, sum_by-cons (λ (n : ℕ). 1) number numbers))
AllByRecursion-range first (suc count) numbers less =
    let last : ℕ = first + count in
    let none : weight (outside first last) (range_with_len first (suc count)) ≡ 0 =
    weight-range first last first (suc count) (omega arith) (omega arith) in
    below numbers (weight-within first last numbers (omega (arith, none, less (outside first last))))
  where
    below : (numbers : List ℕ) → AllByRecursion (λ number. (first ≤ number) × (number ≤ first + count)) numbers
        → AllByRecursion (λ number. (first ≤ number) × (number < first + suc count)) numbers
    below [] all = tt
    below (number ∷ numbers) all = ((all.0.0, (let most = all.0.1 in omega (arith, most))), below numbers all.1)

-- ---- numbers among others

-- a number that isn't below this one weighs 1
abbrev from_on : ℕ → ℕ → ℕ
from_on number n = mark (nat_lt number (n + 1))

weight-below : (number : ℕ) (numbers : List ℕ) → AllByRecursion (λ n. n < number) numbers → weight (from_on number) numbers ≡ 0
weight-below number [] below = refl
weight-below number (n ∷ numbers) below =
    let here : from_on number n ≡ 0 = ap mark (le-ltb number (n + 1) (let least = below.0 in omega (arith, least))) in
    let rest = weight-below number numbers below.1 in
    omega (arith, sum_by-cons (from_on number) n numbers, here, rest)

below-weight : (number : ℕ) (numbers : List ℕ) → weight (from_on number) numbers ≡ 0 → AllByRecursion (λ n. n < number) numbers
below-weight number [] none = tt
below-weight number (n ∷ numbers) none =
    let parts = sum_by-cons (from_on number) n numbers in (
      by_test (nat_lt number (n + 1)) refl (omega (arith, parts, none)),
      below-weight number numbers (omega (arith, parts, none)),
    )
  where
    by_test : (over : Bool) → nat_lt number (n + 1) ≡ over → mark over ≡ 0 → n < number
    by_test true is none = absurd (omega (arith, none))
    by_test false is none = let least = ltb-false number (n + 1) is in omega (arith, least)

-- numbers that are among those below a number are below it
pub AllByRecursion-among : (number : ℕ) (these those : List ℕ) → ((h : ℕ → ℕ) → weight h these ≤ weight h those)
    → AllByRecursion (λ n. n < number) those → AllByRecursion (λ n. n < number) these
AllByRecursion-among number these those among below =
    let none = weight-below number those below in
    below-weight number these (omega (arith, none, among (from_on number)))
