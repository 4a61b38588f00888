-- A number cut in low bits and the bits above them, of which the six lowest may be cut off in turn.
use Rattle.std.proofs.Common.{◌≡◌, ℕ, ◌+◌, ◌*◌, ◌/◌, ◌%◌, ◌<◌, sym, ap, ◌∙◌, arith}
use Rattle.std.proofs.lemmas.Nat.{div-add-mod', div-mul-add, mod-mul-add, mul-add-lt, mod_below}

-- the low bits and those above them are the number
pub whole_of : (n b : ℕ) → b % n + n * (b / n) ≡ b
whole_of n b = omega (arith, div-add-mod' b n)

module _ (n : ℕ) (some : 0 < n) where
  -- a number of which this is the low part, and this the part above
  pub low_of : (low high : ℕ) → low < n → (low + n * high) % n ≡ low
  low_of low high l = ap (λ k. k % n) (omega arith) ∙ mod-mul-add high n low l

  pub high_of : (low high : ℕ) → low < n → (low + n * high) / n ≡ high
  high_of low high l = ap (λ k. k / n) (omega arith) ∙ div-mul-add high n low l

  pub low_alone : (low : ℕ) → low < n → low % n ≡ low
  low_alone low l = ap (λ k. k % n) (omega arith) ∙ low_of low 0 l

  pub below_of : (low high count : ℕ) → low < n → high < count → low + n * high < n * count
  below_of low high count l h = omega (arith, mul-add-lt high n low count h l)

  -- six bits more
  rest_below : (b : ℕ) → b / n % 64 * n + b % n < 64 * n
  rest_below b = omega (arith, mul-add-lt (b / n % 64) n (b % n) 64 (omega arith) (mod_below b n some))

  regrouped : (s t r : ℕ) → (s * 64 + t) * n + r ≡ s * (64 * n) + (t * n + r)
  regrouped s t r = omega arith

  cut : (b : ℕ) → b ≡ b / n / 64 * (64 * n) + (b / n % 64 * n + b % n)
  cut b = sym (div-add-mod' b n) ∙ ap (λ q. q * n + b % n) (sym (div-add-mod' (b / n) 64))
      ∙ regrouped (b / n / 64) (b / n % 64) (b % n)

  pub high_bits : (b : ℕ) → b / (64 * n) ≡ b / n / 64
  high_bits b = ap (λ k. k / (64 * n)) (cut b)
      ∙ div-mul-add (b / n / 64) (64 * n) (b / n % 64 * n + b % n) (rest_below b)

  more_bits : (b : ℕ) → b % (64 * n) ≡ b / n % 64 * n + b % n
  more_bits b = ap (λ k. k % (64 * n)) (cut b)
      ∙ mod-mul-add (b / n / 64) (64 * n) (b / n % 64 * n + b % n) (rest_below b)

  pub low_bits : (b : ℕ) → b % (64 * n) % n ≡ b % n
  low_bits b = ap (λ k. k % n) (more_bits b) ∙ mod-mul-add (b / n % 64) n (b % n) (mod_below b n some)

  pub middle_bits : (b : ℕ) → b % (64 * n) / n ≡ b / n % 64
  middle_bits b = ap (λ k. k / n) (more_bits b) ∙ div-mul-add (b / n % 64) n (b % n) (mod_below b n some)
