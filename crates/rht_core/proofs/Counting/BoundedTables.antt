-- No table is smaller than the config's least size or greater than its greatest one, or than 2^17 buckets: a table that is made has twice
-- the size of the last one where that may grow, or its size, or a smaller one that is due where few ports are bound.
use Rattle.std.proofs.Common.{◌≡◌, ◌≢◌, ℕ, ◌+◌, ◌*◌, ◌/◌, ◌^◌, ◌<◌, ◌≤◌, Bool, true, false, cond, min, max, nat_lt, refl, sym, ap, ◌∙◌, subst, inl, inr, arith}
use Rattle.std.specs.Prelude.{◌||◌}
use Rattle.std.proofs.lemmas.Nat.{pow-add}
use Rattle.std.proofs.lemmas.Bool.{cases_eq, cases_lt, and_parts, ltb-true, ne_eqb}
use Rattle.rht_words.specs.declared.env.Env.{Env}
use Rattle.rht_words.specs.Shapes.{unpacked, size_of}
use Rattle.rht_words.specs.Sizes.{rounded_up}
use Rattle.rht_words.proofs.Rounding.{powers-rise, powers-fall, rounded_up-least, rounded_down-greatest}
use Rattle.rht_policy.specs.Sizes.{shrunk_size}
use Rattle.rht_policy.specs.Thresholds.{is_above_75, is_below_30, may_grow}
use Rattle.rht_policy.proofs.TableSizes.{IsSizeUpTo-shrunk_size}
use Rattle.rht_nest.specs.Make.{made_shape}
use Rattle.rht_nest.specs.Tables.{exponent_made, is_nested}
use Rattle.rht_move.specs.Choice.{choice_of, chosen, is_sparse}
use Rattle.rht_move.specs.declared.work.choice.Choice.TheVariants as choices
use Rattle.rht_core.proofs.Reasons.MadeSizes.{exponent_of-pow, exponent_read}
use Rattle.rht_core.proofs.Counting.GoodShapes.{AreMadeGood, AreGrownGood}

module _ (env : Env) where
  -- a table may have so many buckets
  pub record IsSizeIn (size : ℕ) : Type 0 where
    pub least : env.config.min ≤ size
    pub most : size ≤ 131072
    pub greatest : env.config.max ≢ 0 → size ≤ env.config.max

  -- a table of this shape has a size that it may have, which its exponent says; and so has one that is made with this exponent
  pub record IsBounded (shape : ℕ) : Type 0 where
    pub size : IsSizeIn (size_of (unpacked shape))
    pub low : 2 ≤ (unpacked shape).exponent
    pub high : (unpacked shape).exponent ≤ 17

  abbrev pub Fits : ℕ → Type 0
  Fits exponent = IsSizeIn (2 ^ exponent)

  -- the exponent of a table that is made
  exponent_made-pow : (e : ℕ) → 2 ≤ e → e ≤ 17 → exponent_made (2 ^ e) ≡ e
  exponent_made-pow e low high = omega (arith, exponent_of-pow e (omega (arith, high)), low, high)

  few-pow : (e : ℕ) → 2 ^ e ≤ 131072 → e ≤ 17
  few-pow e few = let low = powers-fall e 18 (omega (arith, few)) in omega (arith, low)

  -- a greatest size is a power of two
  max-power : env.config.max ≢ 0 → (k : ℕ) × (env.config.max ≡ 2 ^ k)
  max-power some =
      let is = env.settled.greatest in
      let within = is.within some in
      let down = rounded_down-greatest env.config.max (omega (arith, within.0)) (omega (arith, within.1)) in
      (down.power.0, sym is.rounded ∙ down.power.1)

  renewed : (shape : ℕ) → IsBounded shape → Fits (exponent_made (size_of (unpacked shape)))
  renewed shape bounded =
      let e = max 2 (min (unpacked shape).exponent 18) in
      subst Fits (sym (exponent_made-pow e (omega arith) (few-pow e bounded.size.most))) bounded.size

  doubled : (count shape : ℕ) → IsBounded shape → is_above_75 count (size_of (unpacked shape)) env.config.max ≡ true
      → Fits (exponent_made (2 * size_of (unpacked shape)))
  doubled count shape bounded above = elim (cases_lt e 17) [
    | inl less ↦
        subst (λ size. Fits (exponent_made size)) (twice e)
        (subst Fits (sym (exponent_made-pow (e + 1) (omega arith) (omega (arith, less)))) (record {
          least = omega (arith, bounded.size.least, powers-rise e (e + 1) (omega arith));
          most = omega (arith, powers-rise (e + 1) 17 (omega (arith, less)));
          greatest = λ some.
              let power = max-power some in
              let below = powers-fall e power.0 (omega (arith, power.1, room some)) in
              omega (arith, power.1, powers-rise (e + 1) power.0 (omega (arith, below)));
        }))
    | inr more ↦
        let same : e ≡ 17 = omega (arith, more, few-pow e bounded.size.most) in
        let made : exponent_made (2 * 2 ^ e) ≡ e =
        ap (λ i. exponent_made (2 * 2 ^ i)) same ∙ great ∙ sym same in
        subst Fits (sym made) bounded.size
  ]
    where
      e : ℕ
      e = max 2 (min (unpacked shape).exponent 18)

      twice : (i : ℕ) → 2 ^ (i + 1) ≡ 2 * 2 ^ i
      twice i = omega (arith, pow-add 2 i 1)

      great : exponent_made (2 * 2 ^ 17) ≡ 17
      great = omega (arith, exponent_of-pow 18 (omega arith))

      room : env.config.max ≢ 0 → 2 ^ e < env.config.max
      room some =
          let parts = and_parts (nat_lt (2 ^ e / 4 * 3) count) (may_grow (2 ^ e) env.config.max) above in
          ltb-true (2 ^ e) env.config.max (sym (ap (λ b. b || nat_lt (2 ^ e) env.config.max) (ne_eqb env.config.max 0 some)) ∙ parts.1)

  shrunk : (ports shape : ℕ) → ports ≤ 65536 → IsBounded shape → is_below_30 ports (size_of (unpacked shape)) env.config.min ≡ true
      → Fits (exponent_made (shrunk_size ports env.config.min))
  shrunk ports shape few bounded below =
      let is = IsSizeUpTo-shrunk_size ports env.config.min few env.settled.least in
      let e = is.power.0 in
      let low : 1 < e = powers-fall 1 e (omega (arith, is.power.1, is.least)) in
      let high : e ≤ 17 = few-pow e (omega (arith, is.power.1, is.greatest)) in
      let made : exponent_made (shrunk_size ports env.config.min) ≡ e =
      ap exponent_made is.power.1 ∙ exponent_made-pow e (omega (arith, low)) high in
      subst Fits (sym made) (subst IsSizeIn is.power.1 (record {
        least = omega arith;
        most = is.greatest;
        greatest = λ some. omega (arith, smaller, bounded.size.greatest some);
      }))
    where
      size : ℕ
      size = size_of (unpacked shape)

      parts : (nat_lt ports (size * 3 / 10) ≡ true) × (nat_lt env.config.min size ≡ true)
      parts = and_parts (nat_lt ports (size * 3 / 10)) (nat_lt env.config.min size) below

      smaller : shrunk_size ports env.config.min ≤ size
      smaller =
          let ports_few = ltb-true ports (size * 3 / 10) parts.0 in
          let min_low = ltb-true env.config.min size parts.1 in
          elim (cases_eq ports 0) [
            | inl none ↦
                let zero : shrunk_size ports env.config.min ≡ max 0 env.config.min =
                ap (λ n. shrunk_size n env.config.min) none in
                omega (arith, zero, min_low)
            | inr some ↦
                let up = rounded_up-least (ports * 3 / 2) (omega (arith, few)) in
                let least = up.least size (max 2 (min (unpacked shape).exponent 18), refl) (omega (arith, ports_few)) in
                let rounded : shrunk_size ports env.config.min ≡ max (rounded_up (ports * 3 / 2)) env.config.min =
                ap (λ b. max (cond b 0 (rounded_up (ports * 3 / 2))) env.config.min) (ne_eqb ports 0 some) in
                omega (arith, rounded, least, min_low)
          ]

  -- a table that is made has the size of its exponent
  made-bounded : (exponent page : ℕ) (nested : Bool) → Fits exponent → 2 ≤ exponent → exponent ≤ 17
      → IsBounded (made_shape exponent nested page)
  made-bounded exponent page nested fits low high =
      let inside : max 2 (min exponent 18) ≡ exponent = omega (arith, low, high) in
      let read : (unpacked (made_shape exponent nested page)).exponent ≡ exponent = exponent_read exponent page nested (omega (arith, high)) in
      record {
        size = subst IsSizeIn (sym (ap (λ e. 2 ^ max 2 (min e 18)) read ∙ ap (λ e. 2 ^ e) inside)) fits;
        low = omega (arith, read, low);
        high = omega (arith, read, high);
      }

  chosen-fits : (count shape size : ℕ) (alone : Bool) → IsBounded shape
      → choice_of env count shape alone ≡ choices.Attach size → Fits (exponent_made size)
  chosen-fits count shape size alone bounded =
      go (is_above_75 ports buckets env.config.max) (is_sparse env ports buckets) alone (is_nested shape) refl refl
    where
      ports : ℕ
      ports = min count 65536

      buckets : ℕ
      buckets = size_of (unpacked shape)

      smaller : ℕ
      smaller = shrunk_size ports env.config.min

      by_size : (made : ℕ) → choices.Attach made ≡ choices.Attach size → Fits (exponent_made made) → Fits (exponent_made size)
      by_size made is fits = subst (λ n. Fits (exponent_made n)) (let same : made ≡ size = cc in same) fits

      go : (full sparse alone nested : Bool) → is_above_75 ports buckets env.config.max ≡ full → is_sparse env ports buckets ≡ sparse
          → chosen buckets smaller full sparse alone nested ≡ choices.Attach size → Fits (exponent_made size)
      go true sparse alone nested above below is = by_size (2 * buckets) is (doubled ports shape bounded above)
      go false true true nested above below is =
          let due = and_parts env.config.shrink (is_below_30 ports buckets env.config.min) below in
          by_size smaller is (shrunk ports shape (omega arith) bounded due.1)
      go false true false true above below is = by_size buckets is (renewed shape bounded)
      go false true false false above below is = absurd (cc)
      go false false alone true above below is = by_size buckets is (renewed shape bounded)
      go false false alone false above below is = absurd (cc)

  pub works_bounded : AreMadeGood env IsBounded Fits
  works_bounded = record {
    chooses = chosen-fits;
    makes = λ exponent page nested fits low high kind. made-bounded exponent page nested fits low high;
  }

  pub binds_bounded : AreGrownGood env IsBounded Fits
  binds_bounded = record {
    grows = λ count shape bounded above. doubled (min count 65536) shape bounded above;
    renews = renewed;
    makes = made-bounded;
  }
