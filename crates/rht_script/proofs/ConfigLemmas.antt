-- What a table is opened with is settled, where its sizes agree and its first buckets have room: each number that is set
-- is within its limits, and so is each that isn't; and the least size and the greatest are rounded, so that rounding them
-- again changes nothing.
use Rattle.std.proofs.Common.{◌≡◌, ℕ, ◌*◌, ◌^◌, ◌<◌, ◌≤◌, ◌≢◌, true, ◌||◌, Bool, Option, Some, None, unwrap_or, refl, sym, ap, ◌∙◌, subst, inl, inr, arith}
use Rattle.std.specs.Prelude.{IfSome, nat_le}
use Rattle.std.specs.Int.{IsPowerOfTwo}
use Rattle.std.proofs.lemmas.Bool.{cases_lt, leb-true, ne_eqb}
use Rattle.rht_words.specs.Limits.{IsWithinLimits, node_limits, hint_limits, min_limits, max_limits, page_limits, caller_limits, seed_limits, rewalk_limits, page_words}
use Rattle.rht_words.specs.declared.config.Config.{Config}
use Rattle.rht_words.specs.declared.config.Kind.{Kind}
use Rattle.rht_words.specs.declared.limits.Limits.{Limits}
use Rattle.rht_words.specs.Sizes.{rounded_up, rounded_down, first_size, IsLeastSize, IsGreatestSize}
use Rattle.rht_words.specs.Settled.{IsSettled}
use Rattle.rht_words.proofs.Rounding.{rounded_up-least, rounded_down-greatest, rounded_down-zero, IsLeastPower-unique, IsGreatestSize-zero}
use Rattle.rht_script.specs.declared.options.Options.{Options}
use Rattle.rht_script.specs.TableLines.{rounded_min, sizes_agree, configured}
use Rattle.rht_script.specs.Allowed.{AreAllowed}

-- what is set, or else the default
either_way : (P : ℕ → Type 0) (set : Option ℕ) (default : ℕ) → IfSome set P → P default
    → P (unwrap_or set default)
either_way P None default holds at_default = at_default
either_way P (Some number) default holds at_default = holds

-- what is within limits, or none, isn't above the greatest
at_most : (limits : Limits) (set : Option ℕ) → IfSome set (IsWithinLimits limits)
    → IfSome set (λ number. number ≤ limits.greatest)
at_most limits None within = tt
at_most limits (Some number) within = within.1

-- a power of two is rounded
rounded_up-power : (size : ℕ) → size ≤ 2 ^ 32 → IsPowerOfTwo size → rounded_up size ≡ size
rounded_up-power size high power =
    IsLeastPower-unique size (rounded_up size) size (rounded_up-least size high)
    (record { power = power; above = omega arith; least = λ other other_power above. above })

pub IsLeastSize-rounded_min : (number : ℕ) → IsWithinLimits min_limits number
    → IsLeastSize (rounded_min number)
IsLeastSize-rounded_min number within =
    let up = rounded_up-least number (omega arith) in
    let high : rounded_up number ≤ 65536 = up.least 65536 (16, refl) (omega arith) in
    elim (cases_lt 4 (rounded_up number)) [
      | inl above ↦
          let is : rounded_min number ≡ rounded_up number = omega arith in
          rw is (record {
            within = (omega arith, high);
            rounded = rounded_up-power (rounded_up number)
                (omega arith) up.power;
          })
      | inr below ↦
          let is : rounded_min number ≡ 4 = omega arith in
          rw is (record {
            within = (omega arith, omega arith);
            rounded = rounded_up-power 4 (omega arith)
                (2, refl);
          })
    ]

-- a number that is rounded down is rounded
rounded_down-rounded : (number : ℕ) → 1 ≤ number → number < 2 ^ 32
    → rounded_down (rounded_down number) ≡ rounded_down number
rounded_down-rounded number low high =
    let once = rounded_down-greatest number low high in
    let some : 1 ≤ rounded_down number = once.greatest 1 (0, refl) low in
    let twice = rounded_down-greatest (rounded_down number) some (omega (arith, once.below)) in
    omega (arith, twice.below, twice.greatest (rounded_down number) once.power (omega arith))

-- by cases: none is no greatest size, and a number is rounded down, to 4 at least
pub IsGreatestSize-rounded_down : (set : Option ℕ) → IfSome set (IsWithinLimits max_limits)
    → IsGreatestSize (rounded_down (unwrap_or set 0))
IsGreatestSize-rounded_down None within =
    subst IsGreatestSize (sym rounded_down-zero) IsGreatestSize-zero
IsGreatestSize-rounded_down (Some number) within =
    let once = rounded_down-greatest number (omega (arith, within)) (omega (arith, within)) in
    record {
      within = λ some. (once.greatest 4 (2, refl) within.0, omega (arith, once.below, within));
      rounded = rounded_down-rounded number (omega (arith, within)) (omega (arith, within));
    }

-- sizes that agree do so where there is a greatest one
sizes_agree-some : (config : Config) → sizes_agree config ≡ true → config.max ≢ 0 → config.min ≤ config.max
sizes_agree-some config agree some =
    let no_none = ne_eqb config.max 0 some in
    leb-true config.min config.max
    (sym (ap (λ (none : Bool). none || nat_le config.min config.max) no_none) ∙ agree)

module _ (kind : Kind) (options : Options) (allowed : AreAllowed options) where
  pub hint_within : (configured kind options).hint ≤ hint_limits.greatest
  unfolding configured
  hint_within = either_way (λ hint. hint ≤ hint_limits.greatest) options.hint 0
      (at_most hint_limits options.hint allowed.hint) (omega arith)

  pub pages_within : IsWithinLimits page_limits (configured kind options).pages
  unfolding configured
  pages_within = either_way (IsWithinLimits page_limits) options.pages 256 allowed.pages
      (omega arith, omega arith)

  pub IsSettled-configured : sizes_agree (configured kind options) ≡ true
      → first_size (configured kind options) ≤ page_words * (configured kind options).pages
      → IsSettled (configured kind options)
  unfolding configured
  IsSettled-configured agree room = record {
    geometry = record {
      nodes_within =
          either_way (IsWithinLimits node_limits) options.nodes 4096 allowed.nodes (omega arith, omega arith);
      pages_within = pages_within;
      callers_within =
          either_way (IsWithinLimits caller_limits) options.workers 1 allowed.workers (omega arith, omega arith);
    };
    hint = hint_within;
    least =
        IsLeastSize-rounded_min (unwrap_or options.min 4)
        (either_way (IsWithinLimits min_limits) options.min 4 allowed.min (omega arith, omega arith));
    greatest = IsGreatestSize-rounded_down options.max allowed.max;
    agree = sizes_agree-some (configured kind options) agree;
    seed = either_way (λ seed. seed ≤ seed_limits.greatest) options.seed 1
        (at_most seed_limits options.seed allowed.seed) (omega arith);
    rewalks = either_way (λ rewalks. rewalks ≤ rewalk_limits.greatest) options.rewalks 8
        (at_most rewalk_limits options.rewalks allowed.rewalks) (omega arith);
    starts = room;
  }
