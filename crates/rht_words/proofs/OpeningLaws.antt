-- What a table finds in its words when it has just been opened: each word in its place, a flat
-- first table that fits its pages, and maps in which all is free but that table's pages.
use Rattle.std.proofs.Common.{◌≡◌, ℕ, ◌+◌, ◌-◌, ◌*◌, ◌/◌, ◌%◌, ◌^◌, ◌<◌, ◌≤◌, min, max, refl, sym, ◌∙◌, ap, subst, inl, inr, arith}
use Rattle.std.specs.Int.{bit_at, trailing_zeros, w32}
use Rattle.std.proofs.Math.Pow.{pow-lt}
use Rattle.std.proofs.lemmas.Bool.{cases_lt, cases_eq}
use Rattle.std.proofs.lemmas.List.FromFn.{length-map-range_with_len, get_or-map-range_with_len}
use Rattle.std.proofs.lemmas.Nat.{pow_pos, pow-add}
use Rattle.std.proofs.lemmas.Nat.Bits.{bit_at-pow_other, bit_at-trailing_zeros, bit_at_ones, bit_at_ones_above, bit_at_mask_inside, bit_at_mask_below, bit_at_mask_above}
use Rattle.rht_words.specs.Laws.{StandInPlace, OpensFlat, OpensFree}
use Rattle.rht_words.specs.Maps.{map_bits}
use Rattle.rht_words.specs.Opening.{first_pages, opening_word}
use Rattle.rht_words.specs.Places.{PageMap, words_in, place_of, address_at}
use Rattle.rht_words.specs.Sizes.{first_size}
use Rattle.rht_words.specs.Shapes.{packed, unpacked, exponent_of}
use Rattle.rht_words.specs.declared.env.Env.{Env}
use Rattle.rht_words.specs.declared.shape.Shape.{Shape}
use Rattle.rht_words.proofs.OpenedWords.{opening_word-at, first_pages-fit}
use Rattle.rht_words.proofs.PlacesApart.{place_of-below}
use Rattle.rht_words.proofs.Rounding.{powers-fall}
use Rattle.rht_words.proofs.StartingSizes.{tables_start_within}

-- ---- the words in their places

pub stand_in_place : (env : Env) → StandInPlace env
stand_in_place env =
    let f : ℕ → ℕ = λ place. opening_word env (address_at env.geometry place) in
    let count = words_in env.geometry in
    record {
      count = length-map-range_with_len f 0 count;
      each = λ a there.
          let place = place_of env.geometry a in
          get_or-map-range_with_len f 0 count place place 0 (place_of-below env.geometry a there)
          (omega arith) ∙ sym (opening_word-at env place a there refl);
    }

-- ---- the first table

-- the lowest set bit of a power of two is its exponent
trailing_zeros-pow : (e : ℕ) → e < 32 → trailing_zeros w32 (2 ^ e) ≡ e
trailing_zeros-pow e l =
    let lowest = bit_at-trailing_zeros w32 (2 ^ e) (pow_pos e) (pow-lt l) in
    elim (cases_eq (trailing_zeros w32 (2 ^ e)) e) [
      | inl same ↦ same
      | inr differ ↦ absurd (omega (arith, lowest.1, bit_at-pow_other e (trailing_zeros w32 (2 ^ e)) differ))
    ]

-- the size is the power of its exponent, which is from 2 to 17
record IsSizeOf (e size : ℕ) : Type 0 where
  exponent : exponent_of size ≡ e
  power : size ≡ 2 ^ e
  low : 2 ≤ e
  high : e ≤ 17

first_exponent : (env : Env) → (e : ℕ) × IsSizeOf e (first_size env.config)
first_exponent env =
    let starts = tables_start_within env.config env.settled in
    let e = starts.power.0 in
    let low : 1 < e = powers-fall 1 e (omega (arith, starts.power.1, starts.least)) in
    let high : e < 18 = powers-fall e 18 (omega (arith, starts.power.1, starts.greatest)) in (
      e,
      record {
        exponent = ap exponent_of starts.power.1 ∙ trailing_zeros-pow e (omega arith);
        power = starts.power.1;
        low = omega arith;
        high = omega arith;
      },
    )

-- a flat shape from the first page on comes back from its word
abbrev flat : ℕ → Shape
flat e = record { exponent = e; nest = 0; page = 0 }

unpacked-packed : (e : ℕ) → e < 32 → unpacked (packed (flat e)) ≡ flat e
unpacked-packed e l = grind arith

-- from 64 buckets on the size is a multiple of a page's 64 words
held : (e : ℕ) → 2 ^ e ≤ 64 * max 1 (2 ^ e / 64)
held e = elim (cases_lt e 6) [
  | inl small ↦ omega (arith, pow-lt small)
  | inr large ↦
      let split : e ≡ (e - 6) + 6 = omega arith in
      omega (arith, ap (λ i. 2 ^ i) split, pow-add 2 (e - 6) 6)
]

pub opens_flat : (env : Env) → OpensFlat env
opens_flat env =
    let e = (first_exponent env).0 in
    let is = (first_exponent env).1 in
    record {
      shape = unpacked-packed (exponent_of (first_size env.config)) (omega (arith, is.exponent, is.high));
      flat = refl;
      size = ap (λ n. 2 ^ max 2 (min n 18)) is.exponent ∙ ap (λ n. 2 ^ n) (inside e is.low is.high)
          ∙ sym is.power;
      holds = subst (λ size. size ≤ 64 * max 1 (size / 64)) (sym is.power) (held e);
      fits = first_pages-fit env;
    }
  where
    inside : (e : ℕ) → 2 ≤ e → e ≤ 17 → max 2 (min e 18) ≡ e
    inside e low high = omega arith

-- ---- the maps

-- the bits of a map's words are set for as many as it has
map_bits-set : (count number : ℕ) → number < count → bit_at (map_bits count (number / 64)) (number % 64) ≡ 1
map_bits-set count number l = bit_at_ones (min 64 (count - 64 * (number / 64))) (number % 64) (omega arith)

map_bits-clear : (count number : ℕ) → count ≤ number → bit_at (map_bits count (number / 64)) (number % 64) ≡ 0
map_bits-clear count number l = bit_at_ones_above (min 64 (count - 64 * (number / 64))) (number % 64)
    (omega arith)

-- a bit is 0 or 1, and not both
not_set : (bit : ℕ) → bit ≡ 0 → bit ≡ 1 → ⊥
not_set bit zero one = omega arith

-- the word of the page map has the bits from the first table's end to the map's
page_bits : (env : Env) (index : ℕ)
    → opening_word env (PageMap index) ≡ 2 ^ min 64 (env.geometry.pages - 64 * index) - 2 ^ min 64
    (first_pages env - 64 * index)
page_bits env index =
    omega (
      arith,
      pow_pos (min 64 (first_pages env - 64 * index)),
      pow_pos
          (min 64 (env.geometry.pages - 64 * index)),
    )

page_set : (env : Env) (page : ℕ) → first_pages env ≤ page → page < env.geometry.pages
    → bit_at (opening_word env (PageMap (page / 64))) (page % 64) ≡ 1
page_set env page low high =
    let index = page / 64 in
    rw (page_bits env index) (bit_at_mask_inside (min 64 (first_pages env - 64 * index))
    (min 64 (env.geometry.pages - 64 * index)) (page % 64) (omega arith) (omega arith))

page_taken : (env : Env) (page : ℕ) → page < first_pages env
    → bit_at (opening_word env (PageMap (page / 64))) (page % 64) ≡ 0
page_taken env page l =
    let index = page / 64 in
    rw (page_bits env index) (bit_at_mask_below (min 64 (first_pages env - 64 * index))
    (min 64 (env.geometry.pages - 64 * index)) (page % 64) (omega arith))

page_past : (env : Env) (page : ℕ) → env.geometry.pages ≤ page
    → bit_at (opening_word env (PageMap (page / 64))) (page % 64) ≡ 0
page_past env page l =
    let index = page / 64 in
    rw (page_bits env index) (bit_at_mask_above (min 64 (first_pages env - 64 * index))
    (min 64 (env.geometry.pages - 64 * index)) (page % 64) (omega arith))

pub opens_free : (env : Env) → OpensFree env
opens_free env = record {
  nodes = λ node. (
    λ set. elim (cases_lt node env.geometry.nodes) [
      | inl below ↦ below
      | inr past ↦ absurd (not_set _ (map_bits-clear env.geometry.nodes node past) set)
    ],
    λ below. map_bits-set env.geometry.nodes node below,
  );
  pages = λ page. (
    λ set. elim (cases_lt page (first_pages env)) [
      | inl taken ↦ absurd (not_set _ (page_taken env page taken) set)
      | inr free ↦ elim (cases_lt page env.geometry.pages) [
        | inl below ↦ (free, below)
        | inr past ↦ absurd (not_set _ (page_past env page past) set)
      ]
    ],
    λ free. page_set env page free.0 free.1,
  );
}
