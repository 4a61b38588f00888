-- Each step keeps the rule of the queue.
-- A push adds the next number, which only a pass with all parts knows: no other one has taken any. A pop moves a number from the queue to its
-- pass; it is above all that were taken, since it was in the queue. What passes have taken weighs the same before and after they are made
-- of one another, or brought together. And what a pass with all parts has taken is all that was taken.
use Rattle.std.proofs.Common.{◌≡◌, ◌≢◌, ℕ, zero, suc, ◌+◌, ◌<◌, ◌≤◌, List, [], ◌∷◌, ◌++◌, length, set, refl, sym, ◌∙◌, ap, subst, ⊎_elim, arith}
use Rattle.std.specs.List.{AllByRecursion}
use Rattle.std.proofs.lemmas.List.Sums.{sum_by-cons, sum_by-append, sum_by_push}
use mathlib.Core.Option.{some, some-ne-none}
use lib.ListN.{get_elem?}
use Rattle.crossbeam_queue.specs.Fifo.{Pushes, Pops, Forks, Merges, Learns, Held}
use Rattle.crossbeam_queue.proofs.Lists.{at_set, at_snoc}
use Rattle.rht_words.proofs.EachElement.{AllByRecursion-append, AllByRecursion-push, AllByRecursion-weaker}
use Rattle.rht_deal.specs.declared.numbers.Hand.{Hand}
use Rattle.rht_deal.specs.Numbers.{hand, all_parts, numbers_to, weight, AreRising, AreAbove, IsHand, AreDealt, Pushed, Took, KnowsAll, HasAll, sharing, shared, joined}
use Rattle.std.proofs.lemmas.List.FromFn.{length-range_with_len}
use Rattle.rht_deal.proofs.NumberLists.{numbers_to-push, weight-ones, sum_by-set_at, sum_by-at, sum_by-two, sum_by-only, AllByRecursion-range}

-- ---- views

-- so it is of each pass and its view
abbrev EachView : (ℕ → Hand → Type 0) → List Hand → Type 0
EachView P views = (pass : ℕ) (v : Hand) → get_elem? views pass ≡ some v → P pass v

-- of a new view of one pass, and of the others as they are
EachView-set : (P : ℕ → Hand → Type 0) (views : List Hand) (pass : ℕ) (w : Hand) → P pass w
    → ((other : ℕ) (v : Hand) → other ≢ pass → get_elem? views other ≡ some v → P other v) → EachView P (set views pass w)
EachView-set P views pass w here others other v at = ⊎_elim
    (λ (is : (other ≡ pass) × (w ≡ v)). subst (λ (y : ℕ × Hand). P y.0 y.1) (λ i. (sym is.0 i, is.1 i)) here)
    (λ (is : (other ≢ pass) × (get_elem? views other ≡ some v)). others other v is.0 is.1) (at_set views pass other w v at)

-- what numbers a view has taken weighs so much
abbrev taken_weight : (ℕ → ℕ) → Hand → ℕ
taken_weight h v = weight h v.taken

abbrev parts_of : Hand → ℕ
parts_of v = v.parts

-- ---- what the rule says of numbers

module _ (items : List ℕ) (views : List Hand) (rule : AreDealt items views) where
  -- those there are from 1 to the number pushed
  items_within : AllByRecursion (λ number. (1 ≤ number) × (number < 1 + rule.pushed)) items
  items_within = AllByRecursion-range 1 rule.pushed items (λ h. let all = rule.together h in omega (arith, all))

  -- and so are those taken
  taken_within : (pass : ℕ) (v : Hand) → get_elem? views pass ≡ some v
      → AllByRecursion (λ number. (1 ≤ number) × (number < 1 + rule.pushed)) v.taken
  taken_within pass v at =
      AllByRecursion-range 1 rule.pushed v.taken
      (λ h. let all = rule.together h in omega (arith, all, sum_by-at (taken_weight h) views pass v at))

  -- where a pass has all parts, no other has any
  others_idle : (pass other : ℕ) (v w : Hand) → get_elem? views pass ≡ some v → v.parts ≡ all_parts → other ≢ pass
      → get_elem? views other ≡ some w → w.parts ≡ 0
  others_idle pass other v w at all apart there =
      let both = sum_by-two parts_of views pass other v w at there apart in
      let parts = rule.parts in
      omega (arith, both, parts, all)

-- ---- the beginning

pub begins : AreDealt [] (hand all_parts 0 [] ∷ [])
begins = record {
  pushed = 0;
  together = λ h. refl;
  rising = tt;
  above = λ pass v at. tt;
  parts = refl;
  hands =
      EachView-set (λ pass v. IsHand 0 v) (hand all_parts 0 [] ∷ []) 0 (hand all_parts 0 [])
      record { knows = λ some. refl; idle = λ none. refl }
      (λ other v apart at. absurd (apart (only other v at)));
}
  where
    only : (other : ℕ) (v : Hand) → get_elem? (hand all_parts 0 [] ∷ []) other ≡ some v → other ≡ 0
    only zero v at = refl
    only (suc other) v at = absurd (some-ne-none v (sym at))

-- ---- a push

pub rising-push : (items : List ℕ) (number : ℕ) → AreRising items → AllByRecursion (λ item. item < number) items
    → AreRising (items ++ number ∷ [])
rising-push [] number rising below = (tt, tt)
rising-push (item ∷ items) number rising below =
    (AllByRecursion-push (λ behind. item < behind) items number rising.0 below.0, rising-push items number rising.1 below.1)

-- numbers up to the last one are below the next
below_next : (last next : ℕ) (numbers : List ℕ) → next ≡ last + 1
    → AllByRecursion (λ number. (1 ≤ number) × (number < 1 + last)) numbers → AllByRecursion (λ number. number < next) numbers
below_next last next numbers is within =
    AllByRecursion-weaker (λ number. (1 ≤ number) × (number < 1 + last)) (λ number. number < next)
    (λ number both. let most = both.1 in omega (arith, most, is)) numbers within

pub pushes : (cap pass : ℕ) (v : Hand) (number : ℕ) → v.parts ≡ all_parts → v.pushed + 1 ≡ number
    → Pushes AreDealt cap pass v number (Pushed v number)
pushes cap pass v number all next items views room rule at =
    let w : Hand = hand v.parts number v.taken in
    let knows : v.pushed ≡ rule.pushed = (rule.hands pass v at).knows (omega (arith, all)) in
    let is : number ≡ rule.pushed + 1 = omega (arith, knows, next) in
    let new = set views pass w in (
      w,
      record {
        pushed = number;
        together = λ h.
            let before = rule.together h in
            let same = sum_by-set_at (taken_weight h) views pass v w at in
            let numbers : weight h (numbers_to number) ≡ weight h (numbers_to rule.pushed) + h number =
            ap (λ n. weight h (numbers_to n)) is ∙ ap (weight h) (numbers_to-push rule.pushed)
            ∙ sum_by_push h (numbers_to rule.pushed) (rule.pushed + 1)
            ∙ ap (λ n. weight h (numbers_to rule.pushed) + h n) (sym is) in
            omega (arith, before, same, numbers, sum_by_push h items number);
        rising = rising-push items number rule.rising (below_next rule.pushed number items is (items_within items views rule));
        above = EachView-set (λ other u. AreAbove (items ++ number ∷ []) u.taken) views pass w
            (more pass v at) (λ other u apart there. more other u there);
        parts = (let same = sum_by-set_at parts_of views pass v w at in let parts = rule.parts in omega (arith, same, parts));
        hands = EachView-set (λ other u. IsHand number u) views pass w
            record { knows = λ some. refl; idle = (rule.hands pass v at).idle }
            (λ other u apart there.
            let none = others_idle items views rule pass other v u at all apart there in
            record { knows = λ some. absurd (omega (arith, some, none)); idle = (rule.hands other u there).idle });
      },
      refl,
    )
  where
    more : (other : ℕ) (u : Hand) → get_elem? views other ≡ some u → AreAbove (items ++ number ∷ []) u.taken
    more other u there =
        let knows : v.pushed ≡ rule.pushed = (rule.hands pass v at).knows (omega (arith, all)) in
        let is : number ≡ rule.pushed + 1 = omega (arith, knows, next) in
        AllByRecursion-push (λ this. AllByRecursion (λ that. that < this) u.taken) items number (rule.above other u there)
        (below_next rule.pushed number u.taken is (taken_within items views rule other u there))

-- ---- a pop

pub pops : (pass : ℕ) (v : Hand) → 0 < v.parts → Pops AreDealt pass v (Took v)
pops pass v part number items views rule at =
    let w : Hand = hand v.parts v.pushed (v.taken ++ number ∷ []) in
    let knows : v.pushed ≡ rule.pushed = (rule.hands pass v at).knows part in
    let within = (items_within (number ∷ items) views rule).0 in
    let over = rule.above pass v at in (
      w,
      record {
        pushed = rule.pushed;
        together = λ h.
            let before = rule.together h in
            let same = sum_by-set_at (taken_weight h) views pass v w at in
            omega (arith, before, same, sum_by-cons h number items, sum_by_push h v.taken number);
        rising = rule.rising.1;
        above = EachView-set (λ other u. AreAbove items u.taken) views pass w
            (above_both items v.taken number over.1 rule.rising.0)
            (λ other u apart there. (rule.above other u there).1);
        parts = (let same = sum_by-set_at parts_of views pass v w at in let parts = rule.parts in omega (arith, same, parts));
        hands = EachView-set (λ other u. IsHand rule.pushed u) views pass w
            record { knows = λ some. knows; idle = λ none. absurd (omega (arith, none, part)) }
            (λ other u apart there. rule.hands other u there);
      },
      record {
        after_is = refl;
        first = within.0;
        last = (let most = within.1 in omega (arith, most, knows));
        rises = over.0;
      },
    )
  where
    above_both : (items taken : List ℕ) (number : ℕ) → AreAbove items taken → AllByRecursion (λ item. number < item) items
        → AreAbove items (taken ++ number ∷ [])
    above_both [] taken number above over = tt
    above_both (item ∷ items) taken number above over =
        (AllByRecursion-push (λ that. that < item) taken number above.0 over.0, above_both items taken number above.1 over.1)

-- ---- passes made of one another

above_none : (items : List ℕ) → AreAbove items []
above_none [] = tt
above_none (item ∷ items) = (tt, above_none items)

pub forks : (pass : ℕ) (v : Hand) → 1 < v.parts → Forks AreDealt pass v (sharing v) (shared v)
forks pass v parts items views rule at =
    let left = sharing v in
    let right = shared v in
    let old = set views pass left in
    let knows : v.pushed ≡ rule.pushed = (rule.hands pass v at).knows (omega (arith, parts)) in
    record {
      pushed = rule.pushed;
      together = λ h.
          let before = rule.together h in
          let same = sum_by-set_at (taken_weight h) views pass v left at in
          omega (arith, before, same, sum_by_push (taken_weight h) old right);
      rising = rule.rising;
      above = λ other u there. ⊎_elim
          (EachView-set (λ other u. AreAbove items u.taken) views pass left (rule.above pass v at)
          (λ other u apart there. rule.above other u there) other u)
          (λ (is : right ≡ u). subst (λ (y : Hand). AreAbove items y.taken) is (above_none items)) (at_snoc old right u other there);
      parts =
          (let same = sum_by-set_at parts_of views pass v left at in
          let all = rule.parts in
          omega (arith, same, all, parts, sum_by_push parts_of old right));
      hands = λ other u there. ⊎_elim
          (EachView-set (λ other u. IsHand rule.pushed u) views pass left
          record { knows = λ some. knows; idle = λ none. absurd (omega (arith, none, parts)) }
          (λ other u apart there. rule.hands other u there) other u)
          (λ (is : right ≡ u). subst (λ (y : Hand). IsHand rule.pushed y) is
          record { knows = λ some. knows; idle = λ none. refl }) (at_snoc old right u other there);
    }

-- ---- and brought together

above_joined : (items taken others : List ℕ) → AreAbove items taken → AreAbove items others → AreAbove items (taken ++ others)
above_joined [] taken others these those = tt
above_joined (item ∷ items) taken others these those =
    (AllByRecursion-append (λ that. that < item) taken others these.0 those.0, above_joined items taken others these.1 those.1)

pub merges : (pass : ℕ) (v : Hand) (other : ℕ) (w : Hand) → 0 < v.parts → Merges AreDealt pass v other w (joined v w) (hand 0 0 [])
merges pass v other w part items views rule at apart there =
    let both = joined v w in
    let one = set views pass both in
    let was : get_elem? views other ≡ some w = ⊎_elim (λ (x : (other ≡ pass) × (both ≡ w)). absurd (apart x.0))
    (λ (x : (other ≢ pass) × (get_elem? views other ≡ some w)). x.1) (at_set views pass other both w there) in
    let knows : v.pushed ≡ rule.pushed = (rule.hands pass v at).knows part in
    record {
      pushed = rule.pushed;
      together = λ h.
          let before = rule.together h in
          let first = sum_by-set_at (taken_weight h) views pass v both at in
          let second = sum_by-set_at (taken_weight h) one other w (hand 0 0 []) there in
          omega (arith, before, first, second, sum_by-append h v.taken w.taken);
      rising = rule.rising;
      above = EachView-set (λ port u. AreAbove items u.taken) one other (hand 0 0 []) (above_none items)
          (λ port u away at'. EachView-set (λ port u. AreAbove items u.taken) views pass both
          (above_joined items v.taken w.taken (rule.above pass v at) (rule.above other w was))
          (λ port u away at''. rule.above port u at'') port u at');
      parts =
          (let first = sum_by-set_at parts_of views pass v both at in
          let second = sum_by-set_at parts_of one other w (hand 0 0 []) there in
          let all = rule.parts in
          omega (arith, first, second, all));
      hands = EachView-set (λ port u. IsHand rule.pushed u) one other (hand 0 0 [])
          record { knows = λ some. absurd (omega (arith, some)); idle = λ none. refl }
          (λ port u away at'. EachView-set (λ port u. IsHand rule.pushed u) views pass both
          record { knows = λ some. knows; idle = λ none. absurd (omega (arith, none, part)) }
          (λ port u away at''. rule.hands port u at'') port u at');
    }

-- ---- what a pass with all parts knows

pub learns : (pass : ℕ) (v : Hand) → Learns AreDealt pass v (KnowsAll v)
learns pass v items views rule at all h =
    let knows : v.pushed ≡ rule.pushed = (rule.hands pass v at).knows (omega (arith, all)) in
    let only = sum_by-only (taken_weight h) views pass v at
    (λ other w apart there. ap (weight h) ((rule.hands other w there).idle (others_idle items views rule pass other v w at all apart there))) in
    ap (λ n. weight h (numbers_to n)) knows ∙ rule.together h ∙ ap (λ n. n + weight h items) only

-- so where it pushes the next number there is room for it, if the queue has room for so many
pub never_full : (cap number : ℕ) (v : Hand) → v.parts ≡ all_parts → v.pushed + 1 ≡ number → number ≤ cap → Held cap (KnowsAll v) → ⊥
never_full cap number v all next room held =
    let items : List ℕ = held.0 in
    let knows = held.2 all (λ n. 1) in
    let ones = weight-ones items in
    let pushed = weight-ones (numbers_to v.pushed) in
    let count = length-range_with_len 1 v.pushed in
    let full = held.1 in
    omega (arith, knows, ones, pushed, count, full, next, room)

-- and a pass that found the queue empty with all parts has taken all numbers
pub HasAll-empty : (v : Hand) → Held 0 (KnowsAll v) → HasAll v
HasAll-empty v held all h =
    let knows = held.2 all h in
    let none : weight h held.0 ≡ 0 = nothing held.0 held.1 in
    omega (arith, knows, none)
  where
    nothing : (items : List ℕ) → length items ≡ 0 → weight h items ≡ 0
    nothing [] empty = refl
    nothing (item ∷ items) empty = absurd (omega (arith, empty))
