-- What is worked out from the list of a chain's nodes is what is to be seen of it.
use Rattle.std.proofs.Common.{◌≡◌, ℕ, ◌+◌, ◌<◌, ◌≤◌, List, take, length, get_or, ltb, Some, None, Bool, sym, ap, ◌∙◌, subst, arith}
use Rattle.std.proofs.lemmas.Bool.{cond_both, ltb-true, ltb-false}
use Rattle.std.proofs.lemmas.List.{length-take-le, take_all}
use Rattle.std.proofs.lemmas.List.Folds.{find_at}
use Rattle.std.proofs.lemmas.Option.{slice_get-get_or, slice_get_past}
use Rattle.std.specs.List.{find, position, before_first, position_or_len, last_or}
use Rattle.rht_words.specs.Links.{link_of}
use Rattle.rht_chain.specs.declared.locked_walk.Seen.{Seen}
use Rattle.rht_chain.specs.LockedWalk.{not_found}
use Rattle.rht_chain.specs.Laws.{has_key, seen_in, seen_behind}

module _ (key_of : ℕ → ℕ) (key : ℕ) (nodes : List ℕ) (stop : ℕ) where
  abbrev test : ℕ → Bool
  test node = has_key key_of key node

  -- what is seen where the first node with the key has this place
  abbrev seen_at : ℕ → Seen
  seen_at place =
      record {
        found = Some (get_or nodes place 0);
        before = last_or None (take place nodes);
        length =
            place + 1;
        end = link_of (get_or nodes place 0);
      }

  pub at_first : (first : ℕ) → position test nodes ≡ Some first
      → seen_at first ≡ seen_in key_of key nodes stop
  at_first first =
      let place = position_or_len test nodes in
      cond_both (ltb place (length nodes)) (Some place) None
      (λ o. o ≡ Some first → seen_at first ≡ seen_in key_of key nodes stop)
      (λ inside is.
      let same : place ≡ first = cc in
      let low : place < length nodes = ltb-true place (length nodes) inside in
      let found : find test nodes ≡ Some (get_or nodes place 0) =
      find_at test nodes ∙ slice_get-get_or nodes place 0 low in
      let count : length (take place nodes) ≡ place = length-take-le place nodes (omega (arith, low)) in
      let counted : seen_at place ≡ seen_behind (before_first test nodes) stop (Some (get_or nodes place 0)) =
      ap (λ n. record (seen_at place) { length = n + 1 }) (sym count) in
      subst (λ p. seen_at p ≡ seen_in key_of key nodes stop) same (counted
      ∙ ap (λ f. seen_behind (before_first test nodes) stop f) (sym found)))
      (λ past is. absurd (cc))

  pub at_end : position test nodes ≡ None
      → not_found (last_or None nodes) (length nodes) stop ≡ seen_in key_of key nodes stop
  at_end =
      let place = position_or_len test nodes in
      cond_both (ltb place (length nodes)) (Some place) None
      (λ o. o ≡ None → not_found (last_or None nodes) (length nodes) stop ≡ seen_in key_of key nodes stop)
      (λ inside is. absurd (cc))
      (λ past is.
      let high : length nodes ≤ place = ltb-false place (length nodes) past in
      let found : find test nodes ≡ None = find_at test nodes ∙ slice_get_past nodes place high in
      let passed : before_first test nodes ≡ nodes = take_all place nodes high in
      ap (λ p. seen_behind p stop None) (sym passed)
      ∙ ap (λ f. seen_behind (before_first test nodes) stop f) (sym found))
