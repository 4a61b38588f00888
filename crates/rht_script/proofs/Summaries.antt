-- The sums of the summary line while they are made: with each item of a list a sum over it grows by the item's part.
use Rattle.std.proofs.Common.{◌≡◌, ℕ, zero, suc, ◌+◌, ◌<◌, cond, List, [], ◌∷◌, ◌++◌, length, take, Some, refl, sym, ap, ◌∙◌, arith}
use Rattle.std.specs.Prelude.{IfSome, sum_by}
use Rattle.std.specs.List.{slice_get}
use Rattle.std.proofs.lemmas.List.{take_more}
use Rattle.std.proofs.lemmas.List.Sums.{sum_by-append}
use Rattle.std.proofs.lemmas.Option.{slice_get_within, get_or_from_slice_get}
use Rattle.rht_words.specs.Ports.{number_of}
use Rattle.rht_model.specs.declared.history.Reply.{Reply}
use Rattle.rht_model.specs.Endings.{Ending}
use Rattle.rht_model.specs.Listing.{ports_of}
use Rattle.rht_script.specs.declared.writer.summary.Sort.{Sort}
use Rattle.rht_script.specs.SummaryText.{is_of, count_of, sum_of_ports}

-- by cutting the list behind the item
pub sum_by-more : {X : Type 0} (f : X → ℕ) (items : List X) (i : ℕ) (item : X) → slice_get items i ≡ Some item
    → sum_by f (take (i + 1) items) ≡ sum_by f (take i items) + f item
sum_by-more f items i item here =
    let next : take (i + 1) items ≡ take i items ++ item ∷ [] =
    take_more items i item (slice_get_within items i item here)
    ∙ ap (λ x. take i items ++ x ∷ []) (get_or_from_slice_get items i item item here) in
    let one : sum_by f (item ∷ []) ≡ f item = omega arith in
    ap (sum_by f) next ∙ sum_by-append f (take i items) (item ∷ [])
    ∙ ap (λ n. sum_by f (take i items) + n) one

-- the reply at a place is that of the ending there, by induction over the endings
reply_at : (endings : List Ending) (i : ℕ) (reply : Reply) → i < length endings
    → IfSome (slice_get endings i) (λ ending. reply ≡ ending.answer.reply)
    → (ending : Ending) × (slice_get endings i ≡ Some ending) × (reply ≡ ending.answer.reply)
reply_at [] i reply within same = absurd (omega arith)
reply_at (ending ∷ endings) zero reply within same = (ending, refl, same)
reply_at (ending ∷ endings) (suc i) reply within same = reply_at endings i reply (omega arith) same

-- one reply more was looked at
pub count_of-more : (sort : Sort) (endings : List Ending) (i : ℕ) (reply : Reply) → i < length endings
    → IfSome (slice_get endings i) (λ ending. reply ≡ ending.answer.reply)
    → count_of sort (take (i + 1) endings) ≡ count_of sort (take i endings) + cond (is_of sort reply) 1 0
count_of-more sort endings i reply within same =
    let at = reply_at endings i reply within same in
    sum_by-more (λ ending. cond (is_of sort ending.answer.reply) 1 0) endings i at.0 at.1
    ∙ ap (λ r. count_of sort (take i endings) + cond (is_of sort r) 1 0) (sym at.2)

-- the port at a place is that of the pair there, by induction over the pairs
port_at : (pairs : List (ℕ × List ℕ)) (i port : ℕ) → slice_get (ports_of pairs) i ≡ Some port
    → (owners : List ℕ) × (slice_get pairs i ≡ Some (port, owners))
port_at [] i port here = absurd (cc)
port_at (pair ∷ pairs) zero port here =
    let same : pair.0 ≡ port = cc in
    (pair.1, ap (λ p. Some (p, pair.1)) same)
port_at (pair ∷ pairs) (suc i) port here = port_at pairs i port here

-- one port more was looked at
pub sum_of_ports-more : (pairs : List (ℕ × List ℕ)) (i port : ℕ) → slice_get (ports_of pairs) i ≡ Some port
    → sum_of_ports (take (i + 1) pairs) ≡ sum_of_ports (take i pairs) + number_of port
sum_of_ports-more pairs i port here =
    let at = port_at pairs i port here in
    sum_by-more (λ pair. number_of pair.0) pairs i (port, at.0) at.1
