-- Words that lie apart are still words, one by one: no two places lie together, so what is set at one physical place is set at
-- that place of the words, and nowhere else.
use Rattle.std.proofs.Common.{◌≡◌, ◌≢◌, ℕ, ◌+◌, ◌*◌, ◌<◌, ◌≤◌, cond, List, length, get_or, set, replicate, sym, ap, ◌∙◌, subst, arith, length-set, get_or-set_same, get_or-set_other}
use Rattle.std.proofs.lemmas.Bool.{lt-ltb, le-ltb}
use Rattle.std.proofs.lemmas.List.{length-replicate}
use Rattle.std.proofs.lemmas.List.FromFn.{get_or-map-range_with_len}
use native.Mathlib.Decide.{ℕ_discrete, dec_lt}
use mathlib.Core.Logic.{dite}
use Rattle.rht_words.specs.declared.env.Env.{Env}
use Rattle.rht_words.specs.Opening.{opening_word, opening_words}
use Rattle.rht_words.specs.Places.{address_at, words_in}
use Rattle.rht_words.proofs.OpeningLaws.{stand_in_place}
use Rattle.rht_run.specs.Layout.{physical, IsLaidOut}

low : (p : ℕ) → p < 24 → physical p ≡ 8 * p
unfolding physical
low p below = ap (λ b. cond b (8 * p) (p + 168)) (lt-ltb p 24 below)

high : (p : ℕ) → 24 ≤ p → physical p ≡ p + 168
unfolding physical
high p from = ap (λ b. cond b (8 * p) (p + 168)) (le-ltb p 24 from)

-- no two places lie together
pub physical_apart : (p q : ℕ) → p ≢ q → physical p ≢ physical q
physical_apart p q ne = dite (dec_lt p 24)
    (λ a. dite (dec_lt q 24)
    (λ b. let e = low p a in let f = low q b in λ same. omega arith)
    (λ b. let c : 24 ≤ q = omega arith in let e = low p a in let f = high q c in λ same. omega arith))
    (λ a. let d : 24 ≤ p = omega arith in dite (dec_lt q 24)
    (λ b. let e = high p d in let f = low q b in λ same. omega arith)
    (λ b. let c : 24 ≤ q = omega arith in let e = high p d in let f = high q c in λ same. omega arith))

-- a place of the words lies among the physical ones
pub physical_below : (p n : ℕ) → p < n → physical p < n + 168
physical_below p n below = dite (dec_lt p 24)
    (λ a. let e = low p a in omega arith)
    (λ a. let d : 24 ≤ p = omega arith in let e = high p d in omega arith)

-- the word of the enrolled callers lies here
pub physical_enrolled : physical 4 ≡ 32
physical_enrolled = low 4 (omega arith)

-- what is set at a physical place is set at the place
pub laid-set : (laid words : List ℕ) (p x : ℕ) → IsLaidOut laid words → p < length words
    → IsLaidOut (set laid (physical p) x) (set words p x)
laid-set laid words p x is below = record {
  count = length-set laid (physical p) x ∙ is.count ∙ ap (λ n. n + 168) (sym (length-set words p x));
  at = λ q b. dite (ℕ_discrete q p)
      (λ e. subst (λ (k : ℕ). get_or (set laid (physical p) x) (physical k) 0 ≡ get_or (set words p x) k 0) (sym e)
      (get_or-set_same laid (physical p) x 0
      (let l = is.count in let m = physical_below p (length words) below in omega arith)
      ∙ sym (get_or-set_same words p x 0 below)))
      (λ n. get_or-set_other laid (physical p) (physical q) x 0 (physical_apart q p n)
      ∙ is.at q (let l = length-set words p x in omega arith)
      ∙ sym (get_or-set_other words p q x 0 n));
}

-- ---- laying the words at opening, place by place

-- those before this place lie there
pub record IsLaidUpTo (env : Env) (place : ℕ) (laid : List ℕ) : Type 0 where
  pub count : length laid ≡ words_in env.geometry + 168
  pub at : (p : ℕ) → p < place → get_or laid (physical p) 0 ≡ opening_word env (address_at env.geometry p)

pub nothing_laid : (env : Env) (laid : List ℕ) → laid ≡ replicate (words_in env.geometry + 168) 0
    → IsLaidUpTo env 0 laid
nothing_laid env laid is = record {
  count = ap (λ (l : List ℕ). length l) is ∙ length-replicate (words_in env.geometry + 168) 0;
  at = λ p none. absurd (omega arith);
}

pub one_more_laid : (env : Env) (place word : ℕ) (laid : List ℕ) → place < words_in env.geometry
    → word ≡ opening_word env (address_at env.geometry place)
    → IsLaidUpTo env place laid → IsLaidUpTo env (place + 1) (set laid (physical place) word)
one_more_laid env place word laid below is so_far = record {
  count = length-set laid (physical place) word ∙ so_far.count;
  at = λ p b. dite (ℕ_discrete p place)
      (λ e. subst (λ (k : ℕ). get_or (set laid (physical place) word) (physical k) 0
      ≡ opening_word env (address_at env.geometry k)) (sym e)
      (get_or-set_same laid (physical place) word 0
      (let l = so_far.count in let m = physical_below place (words_in env.geometry) below in omega arith) ∙ is))
      (λ n. get_or-set_other laid (physical place) (physical p) word 0 (physical_apart p place n)
      ∙ so_far.at p (omega arith));
}

pub all_laid : (env : Env) (laid : List ℕ) → IsLaidUpTo env (words_in env.geometry) laid
    → IsLaidOut laid (opening_words env)
all_laid env laid so_far =
    let all = (stand_in_place env).count in
    record {
      count = so_far.count ∙ ap (λ n. n + 168) (sym all);
      at = λ p b.
          let below : p < words_in env.geometry = omega arith in
          so_far.at p below ∙ sym (get_or-map-range_with_len
          (λ place. opening_word env (address_at env.geometry place)) 0 (words_in env.geometry) p p 0 below
          (omega arith));
    }
