-- Ports and their key words: a net and a number in one word, by arithmetic.
use Rattle.std.proofs.Common.{◌≡◌, ℕ, ◌<◌, ◌⊎◌, inl, inr, arith}
use Rattle.std.proofs.lemmas.Bool.{cases_lt}
use Rattle.rht_words.specs.Ports.{net_of, number_of}
use Rattle.rht_words.specs.Laws.{PortsComeBack}

-- what comes first has the lower net, or the lower number in the same net
before : (port other : ℕ) → port < other
    → (net_of port < net_of other) ⊎ ((net_of port ≡ net_of other) × (number_of port < number_of other))
before port other less = elim (cases_lt (net_of port) (net_of other)) [
  | inl lower ↦ inl lower
  | inr above ↦ inr (omega (arith, less, above), omega (arith, less, above))
]

after : (port other : ℕ)
    → (net_of port < net_of other) ⊎ ((net_of port ≡ net_of other) × (number_of port < number_of other)) → port < other
after port other (inl lower) = omega (arith, lower)
after port other (inr same) = omega (arith, same.0, same.1)

pub ports_come_back : PortsComeBack
ports_come_back = record {
  from_word = λ port within. omega (arith, within);
  from_both = λ port. omega arith;
  within = λ net number low small. omega (arith, low, small);
  net_back = λ net number small. omega (arith, small);
  number_back = λ net number small. omega (arith, small);
  one_word = λ port other same. (omega (arith, same), omega (arith, same));
  in_order = λ port other. (before port other, after port other);
}
