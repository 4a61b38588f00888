-- While shrinking is off and binds attach nothing, no table is smaller than a bound that the first one keeps, and none is nested.
--
-- A resizing chooses a table of twice the size of the last one, or of its size, and makes a flat one of the size that it has chosen. So what
-- it attaches is no smaller than the last table was, and no other move attaches any.
use Rattle.std.proofs.Common.{◌≡◌, ℕ, ◌+◌, ◌*◌, ◌^◌, ◌<◌, ◌≤◌, Bool, true, false, min, max, ap, ◌∙◌, subst, arith}
use Rattle.std.specs.Prelude.{◌&&◌}
use Rattle.rht_words.specs.declared.env.Env.{Env}
use Rattle.rht_words.specs.Shapes.{unpacked, size_of}
use Rattle.rht_core.proofs.Reasons.MadeSizes.{exponent_of-pow, exponent_read, made_flat}
use Rattle.rht_words.proofs.Rounding.{powers-rise, powers-fall}
use Rattle.std.proofs.lemmas.Nat.{pow-add}
use Rattle.rht_policy.specs.Sizes.{shrunk_size}
use Rattle.rht_policy.specs.Thresholds.{is_above_75, is_below_30}
use Rattle.rht_nest.specs.Make.{IsKind, made_shape}
use Rattle.rht_nest.specs.Tables.{exponent_made, is_nested}
use Rattle.rht_move.specs.declared.last_table.LastTableAt.TheVariants as last_tables
use Rattle.rht_move.specs.LastTable.{LastTableModel}
use Rattle.rht_move.specs.Choice.{choice_of, chosen, is_sparse}
use Rattle.rht_move.specs.declared.work.choice.Choice.TheVariants as choices
use Rattle.rht_move.specs.declared.work.WorkAt.{WorkAt}
use Rattle.rht_move.specs.declared.work.WorkAt.TheVariants as at
use Rattle.rht_move.specs.Work.{after_at, IsWorkAtIn}
use Rattle.rht_ghost.proofs.Theory.Ghosts.{Ghost}
use Rattle.rht_core.proofs.Counting.GoodShapes.{AreAll, AreMadeGood, GoodWork, good-work}

-- a table of this shape is flat, and has 16 buckets or more
pub record IsSized (shape : ℕ) : Type 0 where
  pub many : 16 ≤ size_of (unpacked shape)
  pub flat : is_nested shape ≡ false

-- so is each table that was attached
abbrev pub AreSized : Ghost → Type 0
AreSized G = AreAll IsSized G

-- ---- sizes that are made

-- the exponent with which a table of a size from 16 on is made
sized-exponent : (e : ℕ) → 16 ≤ 2 ^ e → e < 32 → 4 ≤ exponent_made (2 ^ e)
sized-exponent e many low =
    let four : 3 < e = powers-fall 3 e (omega (arith, many)) in
    omega (arith, four, exponent_of-pow e low)

-- a choice by a table of 16 buckets or more is of one of them
sized-choice : (env : Env) (count shape size : ℕ) (alone : Bool) → env.config.shrink ≡ false → IsSized shape
    → choice_of env count shape alone ≡ choices.Attach size → 4 ≤ exponent_made size
sized-choice env count shape size alone keeps sized is =
    go (is_above_75 ports buckets env.config.max) (is_nested shape)
    (subst (λ s. chosen buckets smaller (is_above_75 ports buckets env.config.max) s alone (is_nested shape) ≡ choices.Attach size)
    sparse is)
  where
    ports : ℕ
    ports = min count 65536

    exponent : ℕ
    exponent = max 2 (min (unpacked shape).exponent 18)

    buckets : ℕ
    buckets = size_of (unpacked shape)

    smaller : ℕ
    smaller = shrunk_size ports env.config.min

    sparse : is_sparse env ports buckets ≡ false
    sparse = ap (λ b. b && is_below_30 ports buckets env.config.min) keeps

    go : (full nested : Bool) → chosen buckets smaller full false alone nested ≡ choices.Attach size → 4 ≤ exponent_made size
    go true nested is =
        let same : 2 * buckets ≡ size = cc in
        let twice : 2 ^ (exponent + 1) ≡ size = omega (arith, same, pow-add 2 exponent 1) in
        subst (λ n. 4 ≤ exponent_made n) twice (sized-exponent (exponent + 1) (omega (arith, sized.many)) (omega arith))
    go false true is =
        let same : buckets ≡ size = cc in
        subst (λ n. 4 ≤ exponent_made n) same (sized-exponent exponent sized.many (omega arith))
    go false false is = absurd (cc)

-- a flat table of such an exponent is so
sized-made : (exponent page : ℕ) (nested : Bool) → 4 ≤ exponent → exponent ≤ 17 → IsKind exponent false nested
    → IsSized (made_shape exponent nested page)
sized-made exponent page nested low high kind =
    let size : size_of (unpacked (made_shape exponent nested page)) ≡ 2 ^ exponent =
    ap (λ e. 2 ^ max 2 (min e 18)) (exponent_read exponent page nested (omega (arith, high)))
    ∙ ap (λ e. 2 ^ e) inside in
    record {
      many = omega (arith, size, powers-rise 4 exponent low);
      flat = made_flat exponent page nested high kind;
    }
  where
    inside : max 2 (min exponent 18) ≡ exponent
    inside = omega (arith, low, high)

-- ---- a resizing

-- what it has chosen, makes or attaches has 16 buckets or more
abbrev pub SizedWork : WorkAt → Type 0
SizedWork state = GoodWork IsSized (λ exponent. 4 ≤ exponent) state

module _ (env : Env) (keeps : env.config.shrink ≡ false) where
  sized-tables : AreMadeGood env IsSized (λ exponent. 4 ≤ exponent)
  sized-tables = record {
    chooses = λ count shape size alone sized is. sized-choice env count shape size alone keeps sized is;
    makes = λ exponent page nested fit low high kind. sized-made exponent page nested fit high kind;
  }

  -- it stays so where the shape of the last table does
  pub sized-work : (mix : ℕ → ℕ → ℕ → ℕ) (state : WorkAt) (old : ℕ) → IsWorkAtIn env state → SizedWork state
      → ((root : ℕ) (seek : LastTableModel) (slot : ℕ) → state ≡ at.LastTable root seek → seek.at ≡ last_tables.Shape slot → IsSized old)
      → SizedWork (after_at mix env state old).0
  sized-work mix state old within sized shape =
      good-work env IsSized (λ exponent. 4 ≤ exponent) sized-tables mix state old within sized shape
