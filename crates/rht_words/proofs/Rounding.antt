-- Rounding gives the power of two that lies next.
use Rattle.std.proofs.Common.{◌≡◌, ◌≢◌, ℕ, zero, suc, ◌+◌, ◌-◌, ◌*◌, ◌^◌, ◌<◌, ◌≤◌, map, Some, unwrap_or, refl, sym, ap, inl, inr, arith}
use Rattle.std.proofs.Math.Nat.{pow-suc, pow-le-pow_right}
use Rattle.std.proofs.lemmas.Bool.{cases_lt, le-leb, lt-leb}
use Rattle.std.proofs.lemmas.Nat.{pow_pos}
use Rattle.std.specs.Prelude.{nat_le}
use Rattle.std.specs.Int.{IsNextPowerOfTwo, IsPowerOfTwo}
use Rattle.std.specs.List.{find, range_with_len}
use Rattle.rht_words.specs.Sizes.{powers, rounded_up, rounded_down, IsLeastPower, IsGreatestPower, IsGreatestSize}

before : {e : ℕ} → e ≢ 0 → e ≡ suc (e - 1)
before h = omega arith

lower : (i : ℕ) {e : ℕ} → e ≡ suc (e - 1) → i < e → i ≤ e - 1
lower i h l = omega arith

-- a power of two at a smaller exponent is no greater
pub powers-rise : (i k : ℕ) → i ≤ k → 2 ^ i ≤ 2 ^ k
powers-rise i k l = pow-le-pow_right (omega arith) l

-- an exponent of which the power is smaller is smaller
pub powers-fall : (i k : ℕ) → 2 ^ i < 2 ^ k → i < k
powers-fall i k l =
    elim (cases_lt i k) [ inl below ↦ below | inr above ↦ absurd (omega (arith, powers-rise k i above)) ]

-- the exponent of the first power from a on that is at or above n
record IsFirst (count a n : ℕ) : Type 0 where
  exponent : ℕ
  is : find (λ power. nat_le n power) (map (λ e. 2 ^ e) (range_with_len a count)) ≡ Some (2 ^ exponent)
  above : n ≤ 2 ^ exponent
  before : (i : ℕ) → a ≤ i → i < exponent → 2 ^ i < n

-- where the last of the powers is at or above n, there is a first one
first_power : (count a n : ℕ) → n ≤ 2 ^ (a + count) → IsFirst (suc count) a n
first_power zero a n high =
    let end : n ≤ 2 ^ a = omega (arith, powers-rise (a + zero) a (omega arith)) in
    record {
      exponent = a;
      is = rw (le-leb n (2 ^ a) end) refl;
      above = end;
      before = λ i low l. absurd
          (omega arith);
    }
first_power (suc count) a n high = elim (cases_lt (2 ^ a) n) [
  | inl below ↦
      let rest =
      first_power count (a + 1) n (omega (
        arith,
        powers-rise (a + suc count) (a + 1 + count)
            (omega arith),
      )) in
      record {
        exponent = rest.exponent;
        is = rw (lt-leb n (2 ^ a) below) rest.is;
        above = rest.above;
        before =
            λ i low l. elim (cases_lt a i) [
              | inl later ↦ rest.before i (omega arith) l
              | inr same ↦ omega
                  (arith, powers-rise i a same)
            ];
      }
  | inr above ↦ record {
    exponent = a;
    is = rw (le-leb n (2 ^ a) above) refl;
    above = above;
    before =
        λ i low l. absurd (omega arith);
  }
]

-- rounding up gives the least power of two at or above
pub rounded_up-least : (n : ℕ) → n ≤ 2 ^ 32 → IsLeastPower n (rounded_up n)
unfolding rounded_up powers
rounded_up-least n high =
    let first = first_power 32 0 n high in
    let is : rounded_up n ≡ 2 ^ first.exponent = ap (λ o. unwrap_or o 0) first.is in
    rw is record {
      power = (first.exponent, refl);
      above = first.above;
      least = λ q power above. rw power.1 (powers-rise first.exponent power.0
          (elim (cases_lt power.0 first.exponent) [
            | inl earlier ↦ absurd (omega (arith, first.before power.0 (omega arith) earlier, power.1))
            | inr later ↦ later
          ]));
    }

-- there is one least power of two at or above a number
pub IsLeastPower-unique : (n p q : ℕ) → IsLeastPower n p → IsLeastPower n q → p ≡ q
IsLeastPower-unique n p q a b = omega (arith, a.least q b.power b.above, b.least p a.power a.above)

-- no power of two lies at or above n and below one of which the half is below n or below 1
half_below : (n p q : ℕ) → IsNextPowerOfTwo n p → IsPowerOfTwo q → n ≤ q → q < p → ⊥
half_below n p q next power above low =
    let exponents : power.0 < next.0.0 = powers-fall power.0 next.0.0 (omega (arith, power.1, next.0.1)) in
    let rise = powers-rise (suc power.0) next.0.0 (omega arith) in
    omega (arith, pow-suc 2 power.0, rise, power.1, next.0.1, pow_pos power.0, next.2)

-- a power of two at or above n, of which the half is below n or below 1, is the least one
pub IsLeastPower-next : (n p : ℕ) → IsNextPowerOfTwo n p → IsLeastPower n p
IsLeastPower-next n p next = record {
  power = next.0;
  above = next.1;
  least =
      λ q power above. elim (cases_lt q p) [
        | inr high ↦ high
        | inl low ↦ absurd
            (half_below n p q next power above low)
      ];
}

-- what `next_power_of_two` answers is the rounded number
pub rounded_up-next : (n p : ℕ) → n ≤ 2 ^ 32 → IsNextPowerOfTwo n p → p ≡ rounded_up n
rounded_up-next n p high next =
    IsLeastPower-unique n p (rounded_up n) (IsLeastPower-next n p next) (rounded_up-least n high)

-- the power of two at or below n, of which the double is above n, is n rounded down
pub rounded_down-power : (n e : ℕ) → n < 2 ^ 32 → 2 ^ e ≤ n → n < 2 * 2 ^ e → 2 ^ e ≡ rounded_down n
rounded_down-power n e high low above =
    let double : 2 ^ e * 2 ≡ 2 ^ suc e = sym (pow-suc 2 e) in
    let up = rounded_up-next (n + 1) (2 ^ e * 2) (omega arith) ((suc e, double), omega arith, omega arith) in
    omega arith

-- rounding down gives the greatest power of two at or below
pub rounded_down-greatest : (n : ℕ) → 1 ≤ n → n < 2 ^ 32 → IsGreatestPower n (rounded_down n)
rounded_down-greatest n low high =
    let up = rounded_up-least (n + 1) (omega arith) in
    let e = up.power.0 in
    let above : e ≢ 0 = λ zero. absurd (omega (arith, up.above, up.power.1, ap (λ i. 2 ^ i) zero)) in
    let half : rounded_down n ≡ 2 ^ (e - 1) =
    omega (arith, up.power.1, ap (λ i. 2 ^ i) (before above), pow-suc 2 (e - 1)) in
    rw half record {
      power = (e - 1, refl);
      below = elim (cases_lt n (2 ^ (e - 1))) [
        | inr at ↦ at
        | inl past ↦ absurd (omega (
          arith,
          up.least (2 ^ (e - 1)) (e - 1, refl) (omega arith),
          half,
          up.above,
        ))
      ];
      greatest =
          λ q power below. rw power.1 (powers-rise power.0 (e - 1)
          (lower power.0 (before above) (powers-fall power.0 e
          (omega (arith, power.1, up.power.1, up.above, below)))));
    }

-- 0 rounded down is 0
pub rounded_down-zero : rounded_down 0 ≡ 0
unfolding rounded_up powers
rounded_down-zero = refl

-- 0 says that there is no greatest size
pub IsGreatestSize-zero : IsGreatestSize 0
IsGreatestSize-zero = record { within = λ not_zero. absurd (not_zero refl); rounded = rounded_down-zero }
