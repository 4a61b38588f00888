-- The size of a smaller table is one of tables: it is a rounded number, or the least size where that is greater.
use Rattle.std.proofs.Common.{◌≡◌, ℕ, ◌*◌, ◌/◌, ◌≤◌, max, inl, inr, refl, ap, ◌∙◌, subst, arith}
use Rattle.std.proofs.lemmas.Bool.{cases_eq, eq-eqb, ne_eqb}
use Rattle.rht_words.specs.Sizes.{rounded_up, powers, IsLeastSize, IsSizeUpTo}
use Rattle.rht_words.proofs.StartingSizes.{IsPowerUpTo-rounded_up, IsSizeUpTo-at_least}
use Rattle.rht_policy.specs.Sizes.{shrunk_size}

rounded_up-zero : rounded_up 0 ≡ 1
unfolding rounded_up powers
rounded_up-zero = refl

-- rounding gives 1 where there are no ports, and the least size hides that
pub rounded-shrunk_size : (count least : ℕ) → IsLeastSize least
    → max (rounded_up (count * 3 / 2)) least ≡ shrunk_size count least
rounded-shrunk_size count least is_least = elim (cases_eq count 0) [
  | inl none ↦
      let nothing : count * 3 / 2 ≡ 0 = omega arith in
      let rounded : rounded_up (count * 3 / 2) ≡ 1 = ap rounded_up nothing ∙ rounded_up-zero in
      rw (eq-eqb count 0 none) (omega arith)
  | inr some ↦ rw (ne_eqb count 0 some) refl
]

pub IsSizeUpTo-shrunk_size : (count least : ℕ) → count ≤ 65536 → IsLeastSize least
    → IsSizeUpTo 131072 (shrunk_size count least)
IsSizeUpTo-shrunk_size count least few is_least =
    let rounded = IsPowerUpTo-rounded_up (count * 3 / 2) (omega arith) in
    subst (IsSizeUpTo 131072) (rounded-shrunk_size count least is_least)
    (IsSizeUpTo-at_least (rounded_up (count * 3 / 2)) least rounded is_least)
