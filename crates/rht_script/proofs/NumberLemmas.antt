-- A number that has grown too big before its last digit is too big as a whole: no digit makes the
-- value smaller.
use Rattle.std.proofs.Common.{◌≡◌, ℕ, ◌+◌, ◌-◌, ◌*◌, ◌<◌, ◌≤◌, List, [], ◌∷◌, length, get_or, drop, fold, ap, arith}
use Rattle.std.proofs.lemmas.List.{drop_more}
use Rattle.rht_script.specs.Spelling.{value_of}

-- the value with one more digit
abbrev pub with_digit : ℕ → ℕ → ℕ
with_digit value digit = value * 10 + (digit - 48)

pub fold-with_digit : (digits : List ℕ) (value : ℕ) → value ≤ fold with_digit value digits
fold-with_digit [] value = omega arith
fold-with_digit (digit ∷ digits) value =
    omega (arith, fold-with_digit digits (with_digit value digit))

-- the value of all digits is at least that of the digits up to the next one
pub value_of-more : (word : List ℕ) (place value : ℕ) → place < length word
    → fold with_digit value (drop place word) ≡ value_of word
    → with_digit value (get_or word place 0) ≤ value_of word
value_of-more word place value within so_far =
    let next = get_or word place 0 in
    let more = ap (fold with_digit value) (drop_more word place 0 within) in
    omega (arith, so_far, more, fold-with_digit (drop (place + 1) word) (with_digit value next))
