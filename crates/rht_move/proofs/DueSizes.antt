-- A table that is due has one of the sizes of tables, where the last one has.
-- Only a table of at most 65,536 buckets is ever too full, since there are at most as many ports; so twice its size is at most
-- the greatest size. A shrunk size is one of the sizes whatever the last table has.
use Rattle.std.proofs.Common.{◌≡◌, ℕ, suc, ◌*◌, ◌/◌, ◌^◌, ◌<◌, ◌≤◌, inl, inr, arith}
use Rattle.std.specs.Prelude.{true, ◌&&◌, nat_lt, min, max}
use Rattle.std.proofs.Math.Nat.{pow-suc}
use Rattle.std.proofs.lemmas.Bool.{cases_lt, cond_both, and_parts, ltb-true}
use Rattle.rht_words.specs.Shapes.{size_of, unpacked}
use Rattle.rht_words.specs.Sizes.{IsSizeUpTo}
use Rattle.rht_words.proofs.Rounding.{powers-rise}
use Rattle.rht_words.proofs.ShapeSizes.{IsSizeUpTo-size_of}
use Rattle.rht_policy.specs.Sizes.{shrunk_size}
use Rattle.rht_policy.specs.Thresholds.{is_above_75, may_grow}
use Rattle.rht_policy.proofs.TableSizes.{IsSizeUpTo-shrunk_size}
use Rattle.rht_nest.specs.Tables.{is_nested}
use Rattle.rht_move.specs.Choice.{is_sparse}
use Rattle.rht_move.specs.Laws.{IsOfASize, TablesDueHaveSizes}
use Rattle.rht_move.specs.declared.work.choice.Choice.TheVariants.{Attach, Later, Nothing}

-- twice the size of a table that is too full
double-in : (exponent ports greatest : ℕ) → 2 ≤ exponent → ports ≤ 65536
    → is_above_75 ports (2 ^ exponent) greatest ≡ true → IsSizeUpTo (2 ^ 17) (2 * 2 ^ exponent)
double-in exponent ports greatest some few full =
    let size = 2 ^ exponent in
    let parts = and_parts (nat_lt (size / 4 * 3) ports) (may_grow size greatest) full in
    let crowded : size / 4 * 3 < ports = ltb-true (size / 4 * 3) ports parts.0 in
    let low : 2 ^ 2 ≤ size = powers-rise 2 exponent some in
    elim (cases_lt exponent 17) [
      | inl below ↦
          let high : size ≤ 2 ^ 16 = powers-rise exponent 16 (omega (arith, below)) in
          record {
            power = (suc exponent, omega (arith, pow-suc 2 exponent));
            least = omega (arith, low);
            greatest = omega (arith, high);
          }
      | inr above ↦
          let high : 2 ^ 17 ≤ size = powers-rise 17 exponent above in
          absurd (omega (arith, high, crowded, few))
    ]

pub tables_due_have_sizes : TablesDueHaveSizes
tables_due_have_sizes env count shape alone small =
    let ports = min count 65536 in
    let few : ports ≤ 65536 = omega arith in
    let exponent = max 2 (min (unpacked shape).exponent 18) in
    let size = size_of (unpacked shape) in
    let smaller = shrunk_size ports env.config.min in
    let sparse = is_sparse env ports size in
    let is_size = IsSizeUpTo-size_of (unpacked shape) in
    cond_both (is_above_75 ports size env.config.max) (Attach (2 * size)) _ IsOfASize
    (λ full. double-in exponent ports env.config.max (omega arith) few full)
    (λ f. cond_both (sparse && alone) (Attach smaller) _ IsOfASize
    (λ t. IsSizeUpTo-shrunk_size ports env.config.min few env.settled.least)
    (λ f. cond_both (is_nested shape) (Attach size) _ IsOfASize
    (λ t. record { power = is_size.power; least = is_size.least; greatest = small })
    (λ f. cond_both sparse Later Nothing IsOfASize (λ t. tt) (λ f. tt))))
