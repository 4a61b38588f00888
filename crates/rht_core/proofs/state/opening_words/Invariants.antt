use Rattle.std.proofs.Common.{◌≡◌, map}
use Rattle.std.specs.List.{range_with_len}
use Rattle.rht_words.specs.Opening.{opening_word}
use Rattle.rht_words.specs.Places.{address_at}
use Rattle.rht_core.proofs.state.opening_words.Given as goal

-- the words before this place stand there
abbrev pub invariant-loop-place : goal.invariant-loop-place
invariant-loop-place l =
    l.words.items ≡ map (λ place. opening_word l.env (address_at l.env.geometry place))
    (range_with_len 0 l.place)
