-- A word rotated to the left is the sum of its two parts: the part that moves up leaves the low
-- bits free, and the part that comes in below fits into them, so `|` joins the two as `+` does.
use Rattle.std.proofs.Common.{◌≡◌, ℕ, ◌+◌, ◌-◌, ◌*◌, ◌/◌, ◌%◌, ◌^◌, ◌<◌, bit_or, ◌∙◌, subst, add-zero, arith, w32}
use Rattle.std.proofs.lemmas.Nat.{mod-pow-add, shl-shr, or_shifted, shr_below}
use Rattle.std.proofs.Math.Nat.{mul-mod_left}
use Rattle.std.specs.Int.{rotate_left}
use Rattle.rht_policy.specs.Mix.{rotated_left}

-- a number moved up by k bits, of which w = j + k are kept: its low j bits are left
shl_low : (n j k w : ℕ) → j + k ≡ w → n * 2 ^ k % 2 ^ w ≡ n % 2 ^ j * 2 ^ k
shl_low n j k w sum =
    rw (← sum) (mod-pow-add (n * 2 ^ k) j k ∙ simp (shl-shr n k, mul-mod_left n (2 ^ k), add-zero))

-- the two parts of a number of w = j + k bits share no bit
or_of_parts : (n j k w : ℕ) → j + k ≡ w → n < 2 ^ w
    → bit_or (n * 2 ^ k % 2 ^ w) (n / 2 ^ j) ≡ n * 2 ^ k % 2 ^ w + n / 2 ^ j
or_of_parts n j k w sum fits =
    let turned : w ≡ k + j = omega arith in
    let fits_below : n / 2 ^ j < 2 ^ k = shr_below n k j (subst (λ v. n < 2 ^ v) turned fits) in
    rw (shl_low n j k w sum) (or_shifted (n % 2 ^ j) k (n / 2 ^ j) fits_below)

pub rotate_left-sum : (word by : ℕ) → word < 2 ^ 32 → 0 < by → by < 32
    → rotate_left w32 word by ≡ rotated_left word by
rotate_left-sum word by fits some few =
    let up : by % 32 ≡ by = omega arith in
    let down : (32 - by) % 32 ≡ 32 - by = omega arith in
    rw (up, down) (or_of_parts word (32 - by) by 32 (omega arith) fits)
