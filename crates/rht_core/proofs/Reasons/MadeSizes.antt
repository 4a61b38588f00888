-- The table that a resizing makes has the size that is due: this is one of the sizes of tables, where a nested last table has one.
use Rattle.std.proofs.Common.{◌≡◌, ℕ, ◌+◌, ◌*◌, ◌/◌, ◌%◌, ◌^◌, ◌<◌, ◌≤◌, refl, inl, inr, sym, ap, subst, ◌∙◌, arith, w32}
use Rattle.std.specs.Prelude.{true, false, ◌&&◌, Bool, nat_le, nat_lt, min, max}
use Rattle.std.specs.Int.{trailing_zeros}
use Rattle.std.proofs.Math.Pow.{pow-lt}
use Rattle.std.proofs.lemmas.Nat.{pow_pos, pow-add}
use Rattle.std.proofs.lemmas.Bool.{cases_eq, cases_lt, cond_both, and_parts, ltb-true, le-leb, lt-leb}
use Rattle.std.proofs.lemmas.Nat.Bits.{bit_at-trailing_zeros, bit_at-pow_other}
use Rattle.rht_words.specs.declared.env.Env.{Env}
use Rattle.rht_words.specs.Shapes.{unpacked, size_of, exponent_of}
use Rattle.rht_words.specs.Sizes.{IsSizeUpTo}
use Rattle.rht_words.proofs.Rounding.{powers-rise, powers-fall}
use Rattle.rht_policy.specs.Sizes.{shrunk_size}
use Rattle.rht_policy.specs.Thresholds.{is_above_75, may_grow}
use Rattle.rht_policy.proofs.TableSizes.{IsSizeUpTo-shrunk_size}
use Rattle.rht_nest.specs.Tables.{exponent_made, is_nested}
use Rattle.rht_nest.specs.Make.{IsKind, made_shape}
use Rattle.rht_nest.specs.MakeLaws.{pages_for}
use Rattle.rht_core.specs.Due.{pages_due}
use Rattle.rht_core.specs.ResizeCauses.{wanted_size}
use Rattle.rht_move.specs.Choice.{choice_of, is_sparse}
use Rattle.rht_move.specs.Laws.{IsOfASize}
use Rattle.rht_move.specs.declared.work.choice.Choice.TheVariants.{Attach, Later, Nothing}
use Rattle.rht_move.proofs.DueSizes.{tables_due_have_sizes}

-- the greatest table that a shape can have is never too full
pub due_size : (env : Env) (count shape : ℕ) (alone : Bool)
    → (is_nested shape ≡ true → size_of (unpacked shape) ≤ 2 ^ 17) → IsOfASize (choice_of env count shape alone)
due_size env count shape alone bound =
    let ports = min count 65536 in
    let size = size_of (unpacked shape) in
    let smaller = shrunk_size ports env.config.min in
    let sparse = is_sparse env ports size in
    elim (cases_lt (2 ^ 17) size) [
      | inl large ↦
          cond_both (is_above_75 ports size env.config.max) (Attach (2 * size)) _ IsOfASize
          (λ t.
          let parts = and_parts (nat_lt (size / 4 * 3) ports) (may_grow size env.config.max) t in
          let crowded : size / 4 * 3 < ports = ltb-true (size / 4 * 3) ports parts.0 in
          absurd (omega (arith, large, crowded)))
          (λ f. cond_both (sparse && alone) (Attach smaller) _ IsOfASize
          (λ t. IsSizeUpTo-shrunk_size ports env.config.min (omega arith) env.settled.least)
          (λ f. cond_both (is_nested shape) (Attach size) _ IsOfASize
          (λ t. let small = bound t in absurd (omega (arith, large, small)))
          (λ f. cond_both sparse Later Nothing IsOfASize (λ t. tt) (λ f. tt))))
      | inr small ↦ tables_due_have_sizes env count shape alone small
    ]

-- the exponent of a power of two
pub exponent_of-pow : (e : ℕ) → e < 32 → exponent_of (2 ^ e) ≡ e
exponent_of-pow e l =
    let lowest = bit_at-trailing_zeros w32 (2 ^ e) (pow_pos e) (pow-lt l) in
    elim (cases_eq (trailing_zeros w32 (2 ^ e)) e) [
      | inl same ↦ same
      | inr differ ↦ absurd (omega (arith, lowest.1, bit_at-pow_other e (trailing_zeros w32 (2 ^ e)) differ))
    ]

-- the tables that may be nested are those of 128 buckets or more
pub nests-pow : (e : ℕ) → e < 32 → nat_le 7 (exponent_made (2 ^ e)) ≡ nat_le 128 (2 ^ e)
nests-pow e l =
    let exponent = exponent_of-pow e l in
    elim (cases_lt e 7) [
      | inl small ↦
          lt-leb 7 (exponent_made (2 ^ e)) (omega (arith, exponent, small))
          ∙ sym (lt-leb 128 (2 ^ e) (omega (arith, powers-rise e 6 (omega (arith, small)))))
      | inr large ↦
          le-leb 7 (exponent_made (2 ^ e)) (omega (arith, exponent, large))
          ∙ sym (le-leb 128 (2 ^ e) (omega (arith, powers-rise 7 e large)))
    ]

-- so it is for the size that a table of some shape is to have behind it
pub nests-wanted : (env : Env) (shape count : ℕ)
    → nat_le 7 (exponent_made (wanted_size env shape count)) ≡ nat_le 128 (wanted_size env shape count)
nests-wanted env shape count =
    let e = max 2 (min (unpacked shape).exponent 18) in
    cond_both (is_above_75 count (size_of (unpacked shape)) env.config.max) (2 * size_of (unpacked shape))
    (size_of (unpacked shape)) (λ size. nat_le 7 (exponent_made size) ≡ nat_le 128 size)
    (λ t. subst (λ size. nat_le 7 (exponent_made size) ≡ nat_le 128 size) (pow-add 2 1 e) (nests-pow (1 + e) (omega arith)))
    (λ f. nests-pow e (omega arith))

-- a flat table takes as many pages as are due for its size
pub pages-pow : (e : ℕ) → e < 32 → pages_for (2 ^ e) ≡ pages_due (2 ^ e)
pages-pow e l =
    let exponent = exponent_of-pow e l in
    let made : max 2 (min (exponent_made (2 ^ e)) 18) ≡ max 2 (min e 17) = omega (arith, exponent) in
    let pages : pages_for (2 ^ e) ≡ max 1 (2 ^ max 2 (min e 17) / 64) = ap (λ n. max 1 (2 ^ n / 64)) made in
    pages ∙ elim (cases_lt e 6) [
      | inl small ↦
          let inside : max 2 (min e 17) ≤ 5 = omega (arith, small) in
          omega (arith, powers-rise (max 2 (min e 17)) 5 inside, powers-rise e 5 (omega (arith, small)))
      | inr some ↦ elim (cases_lt e 18) [
        | inl few ↦
            let same : max 2 (min e 17) ≡ e = omega (arith, some, few) in
            ap (λ n. max 1 (2 ^ n / 64)) same ∙ omega (arith, powers-rise e 17 (omega (arith, few)))
        | inr large ↦
            let same : max 2 (min e 17) ≡ 17 = omega (arith, large) in
            ap (λ n. max 1 (2 ^ n / 64)) same ∙ omega (arith, powers-rise 17 e (omega (arith, large)))
      ]
    ]

-- so it is for the size that is wanted, and for each of the sizes of tables
pub pages-wanted : (env : Env) (shape count : ℕ) → pages_for (wanted_size env shape count) ≡ pages_due (wanted_size env shape count)
pages-wanted env shape count =
    let e = max 2 (min (unpacked shape).exponent 18) in
    cond_both (is_above_75 count (size_of (unpacked shape)) env.config.max) (2 * size_of (unpacked shape))
    (size_of (unpacked shape)) (λ size. pages_for size ≡ pages_due size)
    (λ t. subst (λ size. pages_for size ≡ pages_due size) (pow-add 2 1 e) (pages-pow (1 + e) (omega arith)))
    (λ f. pages-pow e (omega arith))

pub pages-sized : (size : ℕ) → IsSizeUpTo (2 ^ 17) size → pages_for size ≡ pages_due size
pages-sized size is =
    let e = is.power.0 in
    let high : e < 18 = powers-fall e 18 (omega (arith, is.power.1, is.greatest)) in
    subst (λ n. pages_for n ≡ pages_due n) (sym is.power.1) (pages-pow e (omega (arith, high)))

-- the word of a shape tells its exponent, whether the table is nested or not
pub exponent_read : (exponent page : ℕ) (nested : Bool) → exponent < 32 → made_shape exponent nested page % 32 ≡ exponent
exponent_read exponent page false few = omega (arith, few)
exponent_read exponent page true few = omega (arith, few)

-- one that may not be nested is flat
pub made_flat : (exponent page : ℕ) (nested : Bool) → exponent ≤ 17 → IsKind exponent false nested
    → is_nested (made_shape exponent nested page) ≡ false
made_flat exponent page true few kind = absurd (cc)
made_flat exponent page false few kind =
    let none : (unpacked (made_shape exponent false page)).nest ≡ 0 = omega (arith, few) in
    ap (nat_lt 0) none

-- nor is one that isn't to be nested
pub shaped_flat : (exponent page : ℕ) (nested : Bool) → exponent ≤ 17 → (nested ≡ true → false ≡ true)
    → is_nested (made_shape exponent nested page) ≡ false
shaped_flat exponent page true few kind = absurd (let is = kind refl in cc)
shaped_flat exponent page false few kind = made_flat exponent page false few tt

-- the table that is made for a size has it
pub size_of-made : (size page : ℕ) (nested : Bool) → IsSizeUpTo (2 ^ 17) size
    → size_of (unpacked (made_shape (exponent_made size) nested page)) ≡ size
size_of-made size page nested is =
    let e = is.power.0 in
    let low : 1 < e = powers-fall 1 e (omega (arith, is.power.1, is.least)) in
    let high : e < 18 = powers-fall e 18 (omega (arith, is.power.1, is.greatest)) in
    let exponent : exponent_of size ≡ e = ap exponent_of is.power.1 ∙ exponent_of-pow e (omega arith) in
    let made : exponent_made size ≡ e = omega (arith, exponent, low, high) in
    let read : made_shape (exponent_made size) nested page % 32 ≡ exponent_made size =
    exponent_read (exponent_made size) page nested (omega (arith, made, high)) in
    let same : max 2 (min (made_shape (exponent_made size) nested page % 32) 18) ≡ e =
    ap (λ n. max 2 (min n 18)) read ∙ omega (arith, made, low, high) in
    ap (λ n. 2 ^ n) same ∙ sym is.power.1

-- and so has the table that is made for a wanted size, or the greatest one
size_of-pow : (e page : ℕ) (nested : Bool) → 2 ≤ e → e < 32
    → size_of (unpacked (made_shape (exponent_made (2 ^ e)) nested page)) ≡ min (2 ^ e) (2 ^ 17)
size_of-pow e page nested low few =
    let made : exponent_made (2 ^ e) ≡ min e 17 = omega (arith, exponent_of-pow e few, low) in
    let read = exponent_read (exponent_made (2 ^ e)) page nested (omega (arith, made)) in
    let same : max 2 (min (made_shape (exponent_made (2 ^ e)) nested page % 32) 18) ≡ min e 17 = omega (arith, read, made, low) in
    ap (λ n. 2 ^ n) same
    ∙ elim (cases_lt e 17) [
      | inl small ↦
          let less : min e 17 ≡ e = omega (arith, small) in
          ap (λ n. 2 ^ n) less ∙ omega (arith, powers-rise e 17 (omega (arith, small)))
      | inr large ↦
          let most : min e 17 ≡ 17 = omega (arith, large) in
          ap (λ n. 2 ^ n) most ∙ omega (arith, powers-rise 17 e large)
    ]

pub size_of-wanted : (env : Env) (shape count page : ℕ) (nested : Bool)
    → size_of (unpacked (made_shape (exponent_made (wanted_size env shape count)) nested page))
    ≡ min (wanted_size env shape count) (2 ^ 17)
size_of-wanted env shape count page nested =
    let e = max 2 (min (unpacked shape).exponent 18) in
    let So : ℕ → Type 0 = λ size. size_of (unpacked (made_shape (exponent_made size) nested page)) ≡ min size (2 ^ 17) in
    cond_both (is_above_75 count (size_of (unpacked shape)) env.config.max) (2 * size_of (unpacked shape)) (size_of (unpacked shape)) So
    (λ t. subst So (pow-add 2 1 e) (size_of-pow (1 + e) page nested (omega arith) (omega arith)))
    (λ f. size_of-pow e page nested (omega arith) (omega arith))

-- By a count that ports can have, behind a table that isn't too large no larger one is wanted: a table of 2^17 buckets is never above three
-- quarters.
pub wanted-most : (env : Env) (shape count : ℕ) → count ≤ 65536 → size_of (unpacked shape) ≤ 2 ^ 17
    → min (wanted_size env shape count) (2 ^ 17) ≡ wanted_size env shape count
wanted-most env shape count few most =
    let size = size_of (unpacked shape) in
    let e = max 2 (min (unpacked shape).exponent 18) in
    cond_both (is_above_75 count size env.config.max) (2 * size) size (λ wanted. min wanted (2 ^ 17) ≡ wanted)
    (λ t.
    let parts = and_parts (nat_lt (size / 4 * 3) count) (may_grow size env.config.max) t in
    let crowded : size / 4 * 3 < count = ltb-true (size / 4 * 3) count parts.0 in
    elim (cases_lt e 17) [
      | inl small ↦ omega (arith, powers-rise e 16 (omega (arith, small)))
      | inr large ↦ absurd (omega (arith, few, crowded, powers-rise 17 e large))
    ])
    (λ f. omega (arith, most))

-- one whose shape is nested was made so
pub made_nested : (exponent page : ℕ) (nested : Bool) → exponent ≤ 17 → is_nested (made_shape exponent nested page) ≡ true → nested ≡ true
made_nested exponent page true few is = refl
made_nested exponent page false few is = sym (made_flat exponent page false few tt) ∙ is
