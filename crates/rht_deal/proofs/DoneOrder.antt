-- What all workers have done, put in order. The next number is the first that somebody has left: it is somebody's, since all are somebody's
-- once, and none of its worker's stands before it, since these rise and all that are left are no less. So what is in order grows by one
-- command, and what its worker has left goes on behind it; at the end nobody has any left.
use Rattle.std.proofs.Common.{◌≡◌, ◌≢◌, ℕ, zero, suc, ◌+◌, ◌-◌, ◌<◌, ◌≤◌, Bool, true, false, cond, List, [], ◌∷◌, ◌++◌, length, length-set, get_or, set, refl, sym, ◌∙◌, ap, subst, append_assoc, arith}
use Rattle.std.specs.Prelude.{sum_by, ◌==◌}
use Rattle.std.specs.List.{AllByRecursion, range_with_len}
use Rattle.std.proofs.lemmas.Bool.{eq-eqb, ne_eqb, eqb-true, eqb-false}
use Rattle.std.proofs.lemmas.List.{append-nil, get_or-set_same, get_or-set_other, map_push}
use Rattle.std.proofs.lemmas.List.Elements.{filter-append}
use Rattle.std.proofs.lemmas.List.Sums.{sum_by-cons, sum_by-set, get_or-le-sum_by}
use Rattle.rht_words.proofs.EachElement.{AllByRecursion-push, AllByRecursion-weaker}
use Rattle.rht_script.specs.declared.done.Done.{Done}
use Rattle.rht_deal.specs.DoneCommands.{numbers_of, done_by}
use Rattle.rht_deal.specs.Numbers.{numbers_to, weight, AreRising}
use Rattle.rht_deal.specs.Ordering.{BeginsWith, TakesFrom, AreOwn, AreEachOnce}
use Rattle.rht_deal.proofs.NumberLists.{numbers_to-push, weight-ones, mark, AllByRecursion-range}

-- what a worker's numbers weigh
abbrev own_weight : (ℕ → ℕ) → List Done → ℕ
own_weight h own = weight h (numbers_of own)

-- this number weighs 1, and no other one anything
abbrev pub here : ℕ → ℕ → ℕ
here n number = mark (number == n)

-- ---- somebody has the next one first

-- where they weigh something together, one of them does
one_weighs : (f : List Done → ℕ) (kept : List (List Done)) → 0 < sum_by f kept
    → (place : ℕ) × (place < length kept) × (0 < f (get_or kept place []))
one_weighs f [] some = absurd (omega (arith, some))
one_weighs f (own ∷ kept) some = by_first (f own) refl (one_weighs f kept)
  where
    by_first : (n : ℕ) → f own ≡ n → (0 < sum_by f kept → (place : ℕ) × (place < length kept) × (0 < f (get_or kept place [])))
        → (place : ℕ) × (place < length (own ∷ kept)) × (0 < f (get_or (own ∷ kept) place []))
    by_first zero is others =
        let behind = others (omega (arith, some, is, sum_by-cons f own kept)) in
        (suc behind.0, (let within = behind.1 in omega (arith, within)), behind.2)
    by_first (suc n) is others = (0, omega arith, omega (arith, is))

-- numbers that are all greater than one don't weigh what it does
pub none_above : (n : ℕ) (numbers : List ℕ) → AllByRecursion (λ number. n < number) numbers → weight (here n) numbers ≡ 0
none_above n [] above = refl
none_above n (number ∷ numbers) above =
    let other : here n number ≡ 0 = ap mark (ne_eqb number n (λ same. let more = above.0 in absurd (omega (arith, same, more)))) in
    omega (arith, sum_by-cons (here n) number numbers, other, none_above n numbers above.1)

-- where a number is among rising ones, and none is less, it is the first
begins_with : (n : ℕ) (own : List Done) → AllByRecursion (λ number. n ≤ number) (numbers_of own) → AreRising (numbers_of own)
    → 0 < own_weight (here n) own → BeginsWith own n
begins_with n [] least rising some = absurd (omega (arith, some))
begins_with n (done ∷ own) least rising some = by_test (done.number == n) refl
  where
    by_test : (same : Bool) → (done.number == n) ≡ same → done.number ≡ n
    by_test true is = eqb-true done.number n is
    by_test false is =
        let apart : done.number ≢ n = eqb-false done.number n is in
        let more : n < done.number = (let low = least.0 in omega (arith, low, apart)) in
        let behind = none_above n (numbers_of own)
        (AllByRecursion-weaker (λ number. done.number < number) (λ number. n < number)
        (λ number over. omega (arith, over, more)) (numbers_of own) rising.0) in
        let first : here n done.number ≡ 0 = ap mark is in
        absurd (omega (arith, some, sum_by-cons (here n) done.number (numbers_of own), first, behind))

-- what each has left rises
AreOwn-rising : (worker : ℕ) (kept : List (List Done)) (place : ℕ) → AreOwn worker kept → AreRising (numbers_of (get_or kept place []))
AreOwn-rising worker [] place own = tt
AreOwn-rising worker (these ∷ kept) zero own = own.1
AreOwn-rising worker (these ∷ kept) (suc place) own = AreOwn-rising (worker + 1) kept place own.2

-- so of those from the next one on that are left, each once, somebody has the next one first
pub somebody : (next count : ℕ) (kept : List (List Done)) → 0 < count → AreOwn 1 kept
    → ((h : ℕ → ℕ) → weight h (range_with_len next count) ≡ sum_by (own_weight h) kept)
    → (place : ℕ) × (place < length kept) × BeginsWith (get_or kept place []) next
somebody next zero kept some own once = absurd (omega (arith, some))
somebody next (suc count) kept some own once =
    let first : here next next ≡ 1 = ap mark (eq-eqb next next refl) in
    let weighs : 0 < sum_by (own_weight (here next)) kept =
    (let all = once (here next) in omega (arith, all, first, sum_by-cons (here next) next (range_with_len (next + 1) count))) in
    let one = one_weighs (own_weight (here next)) kept weighs in
    let mine = get_or kept one.0 [] in
    let least = AllByRecursion-weaker (λ number. (next ≤ number) × (number < next + suc count)) (λ number. next ≤ number)
    (λ number both. both.0) (numbers_of mine)
    (AllByRecursion-range next (suc count) (numbers_of mine)
    (λ h. let all = once h in omega (arith, all, get_or-le-sum_by (own_weight h) kept one.0 [] one.1))) in
    (one.0, one.1, begins_with next mine least (AreOwn-rising 1 kept one.0 own) one.2)

-- ---- one command more

-- who has the command first did it, and what is left of all is still theirs
pub AreOwn-taken : (worker : ℕ) (kept : List (List Done)) (place : ℕ) (done : Done) (rest : List Done) → AreOwn worker kept
    → place < length kept → get_or kept place [] ≡ done ∷ rest
    → (done.worker ≡ worker + place) × AreOwn worker (set kept place rest)
AreOwn-taken worker [] place done rest own within first = absurd (omega (arith, within))
AreOwn-taken worker (these ∷ kept) zero done rest own within first =
    let all = subst (λ l. AllByRecursion (λ (d : Done). d.worker ≡ worker) l) first own.0 in
    let rising = subst (λ l. AreRising (numbers_of l)) first own.1 in
    ((let is = all.0 in omega (arith, is)), (all.1, rising.1, own.2))
AreOwn-taken worker (these ∷ kept) (suc place) done rest own within first =
    let behind = AreOwn-taken (worker + 1) kept place done rest own.2 (omega (arith, within)) first in
    ((let is = behind.0 in omega (arith, is)), (own.0, own.1, behind.1))

-- how far it has come: so many of all commands stand in order, and the others are left, each once
pub record InOrder (count : ℕ) (all kept : List (List Done)) (dones : List Done) (i : ℕ) : Type 0 where
  pub numbers : numbers_of dones ≡ numbers_to i
  pub few : i ≤ count
  pub once : (h : ℕ → ℕ) → weight h (range_with_len (i + 1) (count - i)) ≡ sum_by (own_weight h) kept
  pub own : AreOwn 1 kept
  pub many : length kept ≡ length all
  pub workers : AllByRecursion (λ (done : Done). (1 ≤ done.worker) × (done.worker ≤ length all)) dones
  pub whole : (j : ℕ) → j < length all → done_by (j + 1) dones ++ get_or kept j [] ≡ get_or all j []

pub InOrder-none : (count : ℕ) (all : List (List Done)) → AreOwn 1 all → AreEachOnce count all → InOrder count all all [] 0
InOrder-none count all own once = record {
  numbers = refl;
  few = omega arith;
  once = λ h. (let all_left : count ≡ count - 0 = omega arith in
      ap (λ n. weight h (range_with_len 1 n)) (sym all_left) ∙ once h);
  own = own;
  many = refl;
  workers = tt;
  whole = λ j below. refl;
}

module _ (count : ℕ) (all kept after : List (List Done)) (dones : List Done) (i : ℕ) (so : InOrder count all kept dones i)
    (done : Done) (takes : TakesFrom kept after (i + 1) done) (more : i < count) where
  abbrev place : ℕ
  place = takes.place

  its_worker : done.worker ≡ 1 + place
  its_worker = (AreOwn-taken 1 kept place done takes.rest so.own takes.within takes.first).0

  -- what stands in order of a worker, with one command more
  with_done : (j : ℕ) (mine : Bool) → (done.worker == j + 1) ≡ mine
      → done_by (j + 1) (dones ++ done ∷ []) ≡ done_by (j + 1) dones ++ cond mine (done ∷ []) []
  with_done j mine is =
      filter-append (λ (d : Done). d.worker == j + 1) dones (done ∷ []) ∙ ap (λ b. done_by (j + 1) dones ++ cond b (done ∷ []) []) is

  each : (j : ℕ) → j < length all → done_by (j + 1) (dones ++ done ∷ []) ++ get_or after j [] ≡ get_or all j []
  each j below = by_test (done.worker == j + 1) refl
    where
      by_test : (mine : Bool) → (done.worker == j + 1) ≡ mine
          → done_by (j + 1) (dones ++ done ∷ []) ++ get_or after j [] ≡ get_or all j []
      by_test true is =
          let same : j ≡ place = (let worker = eqb-true done.worker (j + 1) is in omega (arith, worker, its_worker)) in
          let left : get_or after j [] ≡ takes.rest =
          ap (λ l. get_or l j []) takes.after_is ∙ ap (λ k. get_or (set kept place takes.rest) k []) same
          ∙ get_or-set_same kept place takes.rest [] takes.within in
          let first : get_or kept j [] ≡ done ∷ takes.rest = ap (λ k. get_or kept k []) same ∙ takes.first in
          ap (λ l. l ++ get_or after j []) (with_done j true is)
          ∙ append_assoc (done_by (j + 1) dones) (done ∷ []) (get_or after j [])
          ∙ ap (λ l. done_by (j + 1) dones ++ done ∷ l) left
          ∙ ap (λ l. done_by (j + 1) dones ++ l) (sym first)
          ∙ so.whole j below
      by_test false is =
          let apart : j ≢ place = λ same. (let worker = eqb-false done.worker (j + 1) is in worker (omega (arith, same, its_worker))) in
          let left : get_or after j [] ≡ get_or kept j [] =
          ap (λ l. get_or l j []) takes.after_is ∙ get_or-set_other kept place j takes.rest [] apart in
          ap (λ l. l ++ get_or after j []) (with_done j false is)
          ∙ ap (λ l. l ++ get_or after j []) (append-nil (done_by (j + 1) dones))
          ∙ ap (λ l. done_by (j + 1) dones ++ l) left
          ∙ so.whole j below

  pub InOrder-more : InOrder count all after (dones ++ done ∷ []) (i + 1)
  InOrder-more = record {
    numbers =
        map_push (λ (d : Done). d.number) dones done ∙ ap (λ l. l ++ done.number ∷ []) so.numbers
        ∙ ap (λ n. numbers_to i ++ n ∷ []) takes.is ∙ sym (numbers_to-push i);
    few = omega (arith, more);
    once = λ h.
        let before = so.once h in
        let left : count - i ≡ suc (count - (i + 1)) = omega (arith, more) in
        let range : weight h (range_with_len (i + 1) (count - i)) ≡ h (i + 1) + weight h (range_with_len (i + 1 + 1) (count - (i + 1))) =
        ap (λ n. weight h (range_with_len (i + 1) n)) left ∙ sum_by-cons h (i + 1) (range_with_len (i + 1 + 1) (count - (i + 1))) in
        let changed = sum_by-set (own_weight h) kept place takes.rest [] takes.within in
        let first : own_weight h (get_or kept place []) ≡ h (i + 1) + own_weight h takes.rest =
        ap (own_weight h) takes.first ∙ sum_by-cons h done.number (numbers_of takes.rest)
        ∙ ap (λ n. h n + own_weight h takes.rest) takes.is in
        let same : sum_by (own_weight h) after ≡ sum_by (own_weight h) (set kept place takes.rest) = ap (sum_by (own_weight h)) takes.after_is in
        omega (arith, before, range, changed, first, same);
    own = subst (AreOwn 1) (sym takes.after_is) (AreOwn-taken 1 kept place done takes.rest so.own takes.within takes.first).1;
    many = ap length takes.after_is ∙ length-set kept place takes.rest ∙ so.many;
    workers =
        AllByRecursion-push (λ (d : Done). (1 ≤ d.worker) × (d.worker ≤ length all)) dones done so.workers
        (let within = takes.within in let many = so.many in (omega (arith, its_worker), omega (arith, its_worker, within, many)));
    whole = each;
  }

-- ---- the end

module _ (count : ℕ) (all kept : List (List Done)) (dones : List Done) (i : ℕ) (so : InOrder count all kept dones i) (end : count ≤ i) where
  -- it has come to the end
  all_in : i ≡ count
  all_in = (let few = so.few in omega (arith, few, end))

  pub InOrder-numbers : numbers_of dones ≡ numbers_to count
  InOrder-numbers = so.numbers ∙ ap numbers_to all_in

  empty : (own : List Done) → length (numbers_of own) ≡ 0 → own ≡ []
  empty [] none = refl
  empty (done ∷ own) none = absurd (omega (arith, none))

  pub InOrder-own : (j : ℕ) → j < length all → done_by (j + 1) dones ≡ get_or all j []
  InOrder-own j below =
      let ones : ℕ → ℕ = λ n. 1 in
      let none : count - i ≡ 0 = omega (arith, end) in
      let nothing : weight ones (range_with_len (i + 1) (count - i)) ≡ 0 = ap (λ n. weight ones (range_with_len (i + 1) n)) none in
      let left = get_or kept j [] in
      let within : j < length kept = (let many = so.many in omega (arith, below, many)) in
      let few = get_or-le-sum_by (own_weight ones) kept j [] within in
      let all_left = so.once ones in
      let is : left ≡ [] = empty left (omega (arith, nothing, few, all_left, weight-ones (numbers_of left))) in
      sym (append-nil (done_by (j + 1) dones)) ∙ ap (λ l. done_by (j + 1) dones ++ l) (sym is) ∙ so.whole j below
