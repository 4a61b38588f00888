-- Which numbers are sizes of tables: powers of two from 4 to a bound. The least and the greatest size of a config are,
-- and so are the greater and the lesser of two powers, where one of them is. So the first table has such a size.
use Rattle.std.proofs.Common.{◌≡◌, ◌≢◌, ℕ, ◌*◌, ◌/◌, ◌≤◌, min, max, refl, subst, inl, inr, arith}
use Rattle.std.specs.Prelude.{◌==◌}
use Rattle.std.specs.Int.{IsPowerOfTwo}
use Rattle.std.proofs.lemmas.Bool.{cases_lt, cond_both, eqb-false}
use Rattle.rht_words.specs.Sizes.{rounded_up, wished_size, cut_size, starting_size, IsLeastSize, IsGreatestSize, IsSizeUpTo}
use Rattle.rht_words.specs.Laws.{TablesStartWithin}
use Rattle.rht_words.proofs.Rounding.{rounded_up-least, rounded_down-greatest}

-- ---- sizes that callers have

-- a least size is rounded, so it is a power of two
pub IsSizeUpTo-least : (size : ℕ) → IsLeastSize size → IsSizeUpTo 65536 size
IsSizeUpTo-least size least = record {
  power = subst IsPowerOfTwo least.rounded (rounded_up-least size (omega arith)).power;
  least = omega arith;
  greatest = omega arith;
}

-- and so is a greatest size, where there is one
pub IsSizeUpTo-greatest : (size : ℕ) → size ≢ 0 → IsGreatestSize size → IsSizeUpTo 131072 size
IsSizeUpTo-greatest size some greatest =
    let within = greatest.within some in
    record {
      power = subst IsPowerOfTwo greatest.rounded (rounded_down-greatest size (omega arith)
          (omega arith)).power;
      least = within.0;
      greatest = within.1;
    }

-- ---- the greater and the lesser of two

-- a power beside a size: the greater of them is a size, though the power may be too small for one
IsSizeUpTo-max : (bound power size : ℕ) → IsPowerOfTwo power → power ≤ bound → IsSizeUpTo bound size
    → IsSizeUpTo bound (max power size)
IsSizeUpTo-max bound power size is_power within size_is = elim (cases_lt power size) [
  | inl below ↦ let is : max power size ≡ size = omega arith in rw is size_is
  | inr above ↦ let is : max power size ≡ power = omega arith in rw is
      record { power = is_power; least = omega arith; greatest = within }
]

IsSizeUpTo-min : (bound m n : ℕ) → IsSizeUpTo bound m → IsSizeUpTo bound n → IsSizeUpTo bound (min m n)
IsSizeUpTo-min bound m n m_is n_is = elim (cases_lt m n) [
  | inl below ↦ let is : min m n ≡ m = omega arith in rw is m_is
  | inr above ↦ let is : min m n ≡ n = omega arith in rw is n_is
]

-- a power of two from 1 to this bound
pub record IsPowerUpTo (bound power : ℕ) : Type 0 where
  pub is : IsPowerOfTwo power
  pub within : power ≤ bound

-- a number of up to 2^17 is rounded to such a power
pub IsPowerUpTo-rounded_up : (n : ℕ) → n ≤ 131072 → IsPowerUpTo 131072 (rounded_up n)
IsPowerUpTo-rounded_up n few =
    let rounded = rounded_up-least n (omega arith) in
    record { is = rounded.power; within = rounded.least 131072 (17, refl) few }

-- the greater of a power and the least size
pub IsSizeUpTo-at_least : (power least : ℕ) → IsPowerUpTo 131072 power → IsLeastSize least
    → IsSizeUpTo 131072 (max power least)
IsSizeUpTo-at_least power least is_power is_least =
    let size = IsSizeUpTo-least least is_least in
    IsSizeUpTo-max 131072 power least is_power.is is_power.within
    (record { power = size.power; least = size.least; greatest = omega arith })

-- ---- the first table

-- a hint within its limits wishes for no size that is too large
IsPowerUpTo-wished_size : (hint : ℕ) → hint ≤ 65536 → IsPowerUpTo 131072 (wished_size hint)
IsPowerUpTo-wished_size hint few = cond_both (hint == 0) 64 (rounded_up (hint * 4 / 3)) (IsPowerUpTo 131072)
    (λ none. record { is = (6, refl); within = omega arith })
    (λ some. IsPowerUpTo-rounded_up (hint * 4 / 3) (omega arith))

IsSizeUpTo-cut_size : (greatest size : ℕ) → IsGreatestSize greatest → IsSizeUpTo 131072 size
    → IsSizeUpTo 131072 (cut_size greatest size)
IsSizeUpTo-cut_size greatest size is size_is = cond_both (greatest == 0) size (min size greatest)
    (IsSizeUpTo 131072)
    (λ none. size_is)
    (λ some. IsSizeUpTo-min 131072 size greatest size_is
    (IsSizeUpTo-greatest greatest (eqb-false greatest 0 some) is))

pub IsSizeUpTo-starting_size : (hint least greatest : ℕ) → hint ≤ 65536 → IsLeastSize least
    → IsGreatestSize greatest
    → IsSizeUpTo 131072 (starting_size hint least greatest)
IsSizeUpTo-starting_size hint least greatest few is_least is_greatest =
    IsSizeUpTo-cut_size greatest (max (wished_size hint) least) is_greatest
    (IsSizeUpTo-at_least (wished_size hint) least (IsPowerUpTo-wished_size hint few) is_least)

pub tables_start_within : TablesStartWithin
tables_start_within config settled =
    IsSizeUpTo-starting_size config.hint config.min config.max settled.hint settled.least settled.greatest
