-- The words of a state that is being opened, place by place.
use Rattle.std.proofs.Common.{◌≡◌, ℕ, ◌+◌, List, [], ◌∷◌, ◌++◌, map, sym, arith}
use Rattle.std.specs.List.{range_with_len}
use Rattle.std.proofs.lemmas.List.FromFn.{map-range_with_len_more}
use Rattle.rht_words.specs.Opening.{opening_word}
use Rattle.rht_words.specs.Places.{address_at}
use Rattle.rht_words.specs.declared.env.Env.{Env}

-- the words before a place, with the one at it, are the words before the next place
pub opening_words-more : (env : Env) (place word : ℕ) (words : List ℕ)
    → words ≡ map (λ p. opening_word env (address_at env.geometry p)) (range_with_len 0 place)
    → word ≡ opening_word env (address_at env.geometry place)
    → words ++ word ∷ [] ≡ map (λ p. opening_word env (address_at env.geometry p))
    (range_with_len 0 (place + 1))
opening_words-more env place word words before here =
    let opening = λ (p : ℕ). opening_word env (address_at env.geometry p) in
    rw (before, here) (sym (map-range_with_len_more opening 0 place place (omega arith)))
