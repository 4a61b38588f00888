-- Which caller is asked first: the first one from a place on of whom an odd word is kept.
use Rattle.std.proofs.Common.{◌≡◌, ◌≢◌, ℕ, zero, suc, ◌+◌, ◌-◌, ◌%◌, ◌<◌, ◌≤◌, List, [], ◌∷◌, length, drop, get_or, length-drop, Bool, true, false, cond, ◌==◌, Some, None, refl, sym, arith}
use Rattle.std.proofs.lemmas.Bool.{eq-eqb, ne_eqb, eqb-true, eqb-false}
use Rattle.std.proofs.lemmas.List.{drop_more, drop_all, get_or-drop}
use Rattle.rht_grace.specs.Batch.{odd_among, first_odd}

-- ---- step by step

pub first_odd-here : (kept : List ℕ) (caller : ℕ) → caller < length kept → get_or kept caller 0 % 2 ≡ 1
    → first_odd kept caller ≡ Some caller
first_odd-here kept caller there odd = rw (drop_more kept caller 0 there) (rw (eq-eqb (get_or kept caller 0 % 2) 1 odd) refl)

pub first_odd-next : (kept : List ℕ) (caller : ℕ) → caller < length kept → get_or kept caller 0 % 2 ≢ 1
    → first_odd kept caller ≡ first_odd kept (caller + 1)
first_odd-next kept caller there even = rw (drop_more kept caller 0 there) (rw (ne_eqb (get_or kept caller 0 % 2) 1 even) refl)

pub first_odd-past : (kept : List ℕ) (caller : ℕ) → length kept ≤ caller → first_odd kept caller ≡ None
first_odd-past kept caller past = rw (drop_all caller kept past) refl

-- ---- what it says

-- the word at this place is the first odd one of these
record IsFirstOdd (first : ℕ) (words : List ℕ) (found : ℕ) : Type 0 where
  index : ℕ
  is : found ≡ first + index
  there : index < length words
  odd : get_or words index 0 % 2 ≡ 1
  before : (sooner : ℕ) → sooner < index → get_or words sooner 0 % 2 ≡ 0

even_word : (word : ℕ) → word % 2 ≢ 1 → word % 2 ≡ 0
even_word word not = omega (arith, not)

-- By induction over the words.
odd_among-Some : (first : ℕ) (words : List ℕ) (found : ℕ) → odd_among first words ≡ Some found
    → IsFirstOdd first words found
odd_among-Some first [] found is = absurd (cc)
odd_among-Some first (word ∷ words) found is =
    go (word % 2 == 1) refl (odd_among-Some (first + 1) words found) is
  where
    later : word % 2 ≢ 1 → IsFirstOdd (first + 1) words found → IsFirstOdd first (word ∷ words) found
    later even rest = record {
      index = suc rest.index;
      is = omega (arith, rest.is);
      there = omega (arith, rest.there);
      odd = rest.odd;
      before = λ sooner low. sooner-even even rest sooner low;
    }
      where
        sooner-even : word % 2 ≢ 1 → (rest : IsFirstOdd (first + 1) words found) → (sooner : ℕ)
            → sooner < suc rest.index
            → get_or (word ∷ words) sooner 0 % 2 ≡ 0
        sooner-even even rest zero low = even_word word even
        sooner-even even rest (suc sooner) low = rest.before sooner (omega (arith, low))

    go : (odd : Bool) → (word % 2 == 1) ≡ odd
        → (odd_among (first + 1) words ≡ Some found → IsFirstOdd (first + 1) words found)
        → cond odd (Some first) (odd_among (first + 1) words) ≡ Some found
        → IsFirstOdd first (word ∷ words) found
    go true odd rest is =
        let same : first ≡ found = (cc) in
        record {
          index = 0;
          is = omega (arith, same);
          there = omega arith;
          odd = eqb-true (word % 2) 1 odd;
          before = λ sooner low. absurd (omega (arith, low));
        }
    go false even rest is = later (eqb-false (word % 2) 1 even) (rest is)

odd_among-None : (first : ℕ) (words : List ℕ) → odd_among first words ≡ None → (index : ℕ)
    → get_or words index 0 % 2 ≡ 0
odd_among-None first [] is index = refl
odd_among-None first (word ∷ words) is index =
    go (word % 2 == 1) refl (odd_among-None (first + 1) words) is index
  where
    go : (odd : Bool) → (word % 2 == 1) ≡ odd
        → (odd_among (first + 1) words ≡ None → (later : ℕ) → get_or words later 0 % 2 ≡ 0)
        → cond odd (Some first) (odd_among (first + 1) words) ≡ None
        → (at : ℕ)
        → get_or (word ∷ words) at 0 % 2 ≡ 0
    go true odd rest is at = absurd (cc)
    go false even rest is zero = even_word word (eqb-false (word % 2) 1 even)
    go false even rest is (suc at) = rest is at

-- it is there, from the given one on, its word is odd, and the words of those between are even
pub record IsFirstFrom (kept : List ℕ) (from caller : ℕ) : Type 0 where
  pub from_on : from ≤ caller
  pub there : caller < length kept
  pub odd : get_or kept caller 0 % 2 ≡ 1
  pub before : (other : ℕ) → from ≤ other → other < caller → get_or kept other 0 % 2 ≡ 0

pub first_odd-Some : (kept : List ℕ) (from caller : ℕ) → first_odd kept from ≡ Some caller
    → IsFirstFrom kept from caller
first_odd-Some kept from caller is =
    let first = odd_among-Some from (drop from kept) caller is in
    let there : first.index < length kept - from = rw (sym (length-drop from kept)) first.there in
    record {
      from_on = omega (arith, first.is);
      there = omega (arith, first.is, there);
      odd = rw (first.is) (rw (sym (get_or-drop from kept first.index 0)) first.odd);
      before = λ other low high.
          let e : other ≡ from + (other - from) = omega (arith, low) in
          rw e (rw (sym (get_or-drop from kept (other - from) 0)) (first.before (other - from) (omega (arith, low, high, first.is))));
    }

pub first_odd-None : (kept : List ℕ) (from : ℕ) → first_odd kept from ≡ None → (other : ℕ) → from ≤ other
    → get_or kept other 0 % 2 ≡ 0
first_odd-None kept from is other low =
    let e : other ≡ from + (other - from) = omega (arith, low) in
    rw e (rw (sym (get_or-drop from kept (other - from) 0)) (odd_among-None from (drop from kept) is (other - from)))
