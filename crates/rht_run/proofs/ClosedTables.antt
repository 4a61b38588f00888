-- How a table is closed: the last words are those of a run in which all that the last seat has is so, and it has what all passes
-- had.
use Rattle.std.proofs.Common.{◌≡◌, ℕ, zero, suc, ◌+◌, ◌<◌, ◌⊎◌, inl, inr, ⊎_elim, List, [], ◌∷◌, ◌++◌, length, drop, take, add-one, get_or, refl, sym, ap, ◌∙◌, subst, arith}
use mathlib.Core.Option.{some, some-injective, some-ne-none}
use lib.ListN.{get_elem?}
use Rattle.atomic_table.specs.Table.{Joins, Final, Seen}
use Rattle.atomic_table.specs.declared.shared.Seat.{Seat}
use Rattle.rht_words.specs.declared.env.Env.{Env}
use Rattle.rht_core.specs.Runs.{World, run_of}
use Rattle.rht_core.proofs.Events.SoundRuns.{runs-in}
use Rattle.rht_run.specs.declared.seats.Held.{Held}
use Rattle.rht_run.specs.declared.seats.SeatView.{SeatView}
use Rattle.rht_run.specs.declared.table.Table.{Table}
use Rattle.rht_run.specs.declared.pass.Pass.{Pass}
use Rattle.rht_run.specs.Layout.{physical, IsLaidOut}
use Rattle.rht_run.specs.Rule.{In, Holds, held_at, joined, spent_view}
use Rattle.rht_run.specs.Passes.{IsFit, IsPassOf, Among, HasTaken, IsLaidEnd, seen_by}
use Rattle.rht_run.proofs.ViewLists.{in_last}
use Rattle.rht_run.proofs.SeatMoves.{joins}

-- ---- which passes there are

module _ {M : Type 0} where
  pub among_push : (p q : Pass M) (xs : List (Pass M)) → Among p (xs ++ q ∷ []) → Among p xs ⊎ (p ≡ q)
  among_push p q [] i = ⊎_elim inr absurd i
  among_push p q (x ∷ xs) i =
      ⊎_elim (λ e. inl (inl e)) (λ j. ⊎_elim (λ a. inl (inr a)) inr (among_push p q xs j)) i

  pub among_left : (p : Pass M) (xs ys : List (Pass M)) → Among p xs → Among p (xs ++ ys)
  among_left p [] ys i = absurd i
  among_left p (x ∷ xs) ys i = ⊎_elim inl (λ j. inr (among_left p xs ys j)) i

  pub among_last : (p : Pass M) (xs : List (Pass M)) → Among p (xs ++ p ∷ [])
  among_last p [] = inl refl
  among_last p (x ∷ xs) = inr (among_last p xs)

  pub none_among : (p : Pass M) (xs : List (Pass M)) → length xs ≡ 0 → Among p xs → ⊥
  none_among p [] e i = i
  none_among p (x ∷ xs) e i = absurd (omega arith)

  -- the first of them and the others
  pub first_split : (xs : List (Pass M)) (p : Pass M) → 0 < length xs → p ≡ get_or xs 0 p → xs ≡ p ∷ drop 1 xs
  first_split [] p one e = absurd (omega arith)
  first_split (x ∷ xs) p one e = λ i. sym e i ∷ xs

  pub first_is : (mix : ℕ → ℕ → ℕ → ℕ) (t : Table M) (xs : List (Pass M)) (p : Pass M) → 0 < length xs
      → p ≡ get_or xs 0 p → ((q : Pass M) → Among q xs → IsPassOf mix t q) → IsPassOf mix t p
  first_is mix t xs p one e all = all p (subst (Among p) (sym (first_split xs p one e)) (inl refl))

  pub all_taken : (xs : List (Pass M)) (p : Pass M) (seat : Seat (Unit {0}) (SeatView M)) → 0 < length xs
      → p ≡ get_or xs 0 p → In (held_at p.number (seen_by p)) seat.me.0.held → HasTaken (drop 1 xs) seat
      → HasTaken xs seat
  all_taken xs p seat one e mine others q a = ⊎_elim
      (λ (same : q ≡ p). subst (λ (r : Pass M). In (held_at r.number (seen_by r)) seat.me.0.held) (sym same) mine)
      (others q) (subst (Among q) (first_split xs p one e) a)

  pub in_joined : (p q : Pass M) (xs ys : List (Held M)) → p ≡ q → ys ≡ held_at q.number (seen_by q) ∷ []
      → In (held_at p.number (seen_by p)) (xs ++ ys)
  in_joined p q xs ys e one =
      let h : Held M = held_at q.number (seen_by q) in
      subst (λ (r : Pass M). In (held_at r.number (seen_by r)) (xs ++ ys)) (sym e)
      (subst (λ (zs : List (Held M)). In h (xs ++ zs)) (sym one) (in_last h xs))

  -- ---- joining, and the end

  module _ (mix : ℕ → ℕ → ℕ → ℕ) (t : Table M) where
    abbrev Z : Type 0
    Z = Seat (Unit {0}) (SeatView M)

    pub joining : (seat : Z) (p : Pass M) → seat.table_id ≡ t.words.shared.table_id → seat.me.0.env ≡ t.env
        → IsPassOf mix t p
        → (seat.table_id ≡ t.words.shared.table_id) × (p.seat.table_id ≡ t.words.shared.table_id)
        × (p.seat.me.1 ≡ []) × (0 < t.words.shared.table_id.words)
        × Joins (Holds mix t.words.shared.key) seat.id seat.me.0 p.seat.id p.seat.me.0 (joined seat.me.0 p.seat.me.0) (spent_view M)
    joining seat p table same_env is = (
      table,
      is.table,
      is.slots,
      omega (arith, is.fit.count),
      joins M mix t.words.shared.key seat.id p.seat.id seat.me.0 p.seat.me.0 (same_env ∙ sym is.fit.key),
    )

    pub closes : (seat : Z) (passes : List (Pass M)) (laid : List ℕ) (xs : List (Unit {0})) → IsFit t
        → HasTaken passes seat
        → Final (Seen (Holds mix t.words.shared.key) seat.id seat.me.0) laid xs
        → IsLaidEnd mix t.env passes laid
    closes seat passes laid xs fit taken end =
        let r = end.1.0 in
        let key : Env = t.words.shared.key in
        let w : World M = run_of mix key r.events in
        subst (λ (e : Env). IsLaidEnd mix e passes laid) fit.key record {
          words = w.core.words;
          lie = subst (λ (l : List ℕ). IsLaidOut l w.core.words) end.2 r.words;
          count = (runs-in M mix key r.events).all_words;
          end = record {
            events = r.events;
            admitted = r.admitted;
            words_are = refl;
            shows = λ p a. (r.shows seat.id seat.me.0 end.1.1 (held_at p.number (seen_by p)) (taken p a)).shows;
          };
        }

-- ---- reading the words

-- what stands at a place where something stands
read_at : (ws : List ℕ) (i n : ℕ) → get_elem? ws i ≡ some n → get_or ws i 0 ≡ n
read_at [] i n e = absurd (some-ne-none n (sym e))
read_at (x ∷ xs) zero n e = some-injective x n e
read_at (x ∷ xs) (suc i) n e = read_at xs i n e

take_push : (ws : List ℕ) (i n : ℕ) → i < length ws → get_or ws i 0 ≡ n → take i ws ++ n ∷ [] ≡ take (suc i) ws
take_push [] i n below e = absurd (omega arith)
take_push (x ∷ xs) zero n below e = λ k. sym e k ∷ []
take_push (x ∷ xs) (suc i) n below e = ap (λ (ys : List ℕ). x ∷ ys) (take_push xs i n (omega arith) e)

-- the word that lies at a place is the next one
pub read_more : (laid words : List ℕ) (place at word : ℕ) → IsLaidOut laid words → place < length words
    → at ≡ physical place → get_elem? laid at ≡ some word
    → take place words ++ word ∷ [] ≡ take (place + 1) words
read_more laid words place at word lie below lies is =
    let here : get_elem? laid (physical place) ≡ some word =
    subst (λ (p : ℕ). get_elem? laid p ≡ some word) lies is in
    take_push words place word below (sym (lie.at place below) ∙ read_at laid (physical place) word here)
    ∙ ap (λ (k : ℕ). take k words) (sym (add-one place))
