-- Which bits of words the operations of a call turn, and which ones it has turned an odd number of times by what it holds: the bit of
-- its node, the lowest bit of the word of the bucket that it has locked, those of the work lock and of the state word of its slot, the bits
-- of its pages, and while its read section is open the lowest bit of its caller's section word.
use Rattle.std.proofs.Common.{◌≡◌, ◌≢◌, ◌⊎◌, ℕ, zero, suc, ◌+◌, ◌/◌, ◌%◌, ◌^◌, ◌<◌, ◌==◌, ◌&&◌, ◌||◌, Bool, true, false, cond, List, [], ◌∷◌, ◌++◌, Option, Some, None, refl, sym, ap, ◌∙◌, inl, inr, arith}
use Rattle.std.specs.Int.{bit_at}
use Rattle.std.proofs.lemmas.Bool.{cases_eq, eq-eqb, ne_eqb, or_right}
use Rattle.std.proofs.lemmas.Nat.Bits.{bit_at-suc, bit_at_lowest}
use Rattle.rht_words.specs.declared.geometry.Geometry.{Geometry}
use Rattle.rht_words.specs.declared.op.Op.TheVariants.{Add}
use Rattle.rht_words.specs.Members.{In}
use Rattle.rht_words.specs.Operations.{op_place, word_after}
use Rattle.rht_words.specs.Places.{WorkLock, Section, Slot, StateWord, PageMap, place_of}
use Rattle.rht_words.proofs.Members.{one_if}
use Rattle.rht_arena.specs.Laws.{map_place, map_bit}
use Rattle.rht_core.specs.Traces.{Did}
use Rattle.rht_core.specs.Refused.{turned, turns}
use Rattle.rht_core.proofs.Events.SectionsInRuns.{odd_by}
use Rattle.rht_ghost.proofs.Theory.Steps.{Holding, LeavesBits}

-- ---- one bit

-- 1 at this bit of the word at this place, and 0 elsewhere
abbrev pub one_bit : ℕ → ℕ → ℕ → ℕ → ℕ
one_bit there mine place bit = one_if ((there == place) && (mine == bit))

pub one_bit-here : (there mine place bit : ℕ) → there ≡ place → mine ≡ bit → one_bit there mine place bit ≡ 1
one_bit-here there mine place bit at same =
    ap (λ t. one_if (t && (mine == bit))) (eq-eqb there place at) ∙ ap one_if (eq-eqb mine bit same)

pub one_bit-far : (there mine place bit : ℕ) → there ≢ place → one_bit there mine place bit ≡ 0
one_bit-far there mine place bit far = ap (λ t. one_if (t && (mine == bit))) (ne_eqb there place far)

pub one_bit-other : (there mine place bit : ℕ) → mine ≢ bit → one_bit there mine place bit ≡ 0
one_bit-other there mine place bit other = elim (cases_eq there place) [
  | inl at ↦ ap (λ t. one_if (t && (mine == bit))) (eq-eqb there place at) ∙ ap one_if (ne_eqb mine bit other)
  | inr far ↦ one_bit-far there mine place bit far
]

-- where it isn't 0, the place is that one
pub one_bit-there : (there mine place bit : ℕ) → (place ≡ there) ⊎ (one_bit there mine place bit ≡ 0)
one_bit-there there mine place bit = elim (cases_eq there place) [
  | inl at ↦ inl (sym at)
  | inr far ↦ inr (one_bit-far there mine place bit far)
]

-- ---- what an operation turns

pub turned-far : (place bit : ℕ) (did : Did) → op_place did.op ≢ place → turned place bit did ≡ 0
turned-far place bit did far =
    ap (λ t. cond t ((bit_at did.old bit + bit_at (word_after did.old did.op) bit) % 2) 0)
    (ne_eqb (op_place did.op) place far)

pub turned-here : (place bit : ℕ) (did : Did) → op_place did.op ≡ place
    → turned place bit did ≡ (bit_at did.old bit + bit_at (word_after did.old did.op) bit) % 2
turned-here place bit did at =
    ap (λ t. cond t ((bit_at did.old bit + bit_at (word_after did.old did.op) bit) % 2) 0)
    (eq-eqb (op_place did.op) place at)

-- a bit that stays isn't turned
same_twice : (a b : ℕ) → a ≡ b → (b + a) % 2 ≡ 0
same_twice a b same = omega (arith, same)

pub turned-same : (place bit : ℕ) (did : Did)
    → (op_place did.op ≡ place → bit_at (word_after did.old did.op) bit ≡ bit_at did.old bit) → turned place bit did ≡ 0
turned-same place bit did same = elim (cases_eq (op_place did.op) place) [
  | inl at ↦ turned-here place bit did at ∙ same_twice _ _ (same at)
  | inr far ↦ turned-far place bit did far
]

pub turned-none : (place bit : ℕ) (did : Did) → bit < 64 → LeavesBits did.op did.old → turned place bit did ≡ 0
turned-none place bit did low leaves = turned-same place bit did (λ at. leaves bit low)

-- the operation turns this bit of the word at this place, and no other bit
pub record TurnsOne (there mine : ℕ) (did : Did) : Type 0 where
  pub on : op_place did.op ≡ there
  pub turns : bit_at did.old mine + bit_at (word_after did.old did.op) mine ≡ 1
  pub others : (bit : ℕ) → bit < 64 → bit ≢ mine → bit_at (word_after did.old did.op) bit ≡ bit_at did.old bit

pub turned-one : (there mine place bit : ℕ) (did : Did) → bit < 64 → TurnsOne there mine did
    → turned place bit did ≡ one_bit there mine place bit
turned-one there mine place bit did low one = elim (cases_eq there place) [
  | inl at ↦ elim (cases_eq bit mine) [
    | inl same ↦
        turned-here place bit did (one.on ∙ at)
        ∙ ap (λ b. (bit_at did.old b + bit_at (word_after did.old did.op) b) % 2) same
        ∙ ap (λ n. n % 2) one.turns ∙ sym (one_bit-here there mine place bit at (sym same))
    | inr other ↦
        turned-same place bit did (λ here. one.others bit low other)
        ∙ sym (one_bit-other there mine place bit (λ same. other (sym same)))
  ]
  | inr far ↦
      turned-far place bit did (λ here. far (sym one.on ∙ here)) ∙ sym (one_bit-far there mine place bit far)
]

-- a word without its lowest bit, and with it
module _ (even : ℕ) (is : even % 2 ≡ 0) where
  pub lowest_differs : bit_at even 0 + bit_at (even + 1) 0 ≡ 1
  lowest_differs = omega (arith, is, bit_at_lowest even, bit_at_lowest (even + 1))

  half : (even + 1) / 2 ≡ even / 2
  half = omega (arith, is)

  pub others_same : (bit : ℕ) → bit ≢ 0 → bit_at (even + 1) bit ≡ bit_at even bit
  others_same zero other = absurd (other refl)
  others_same (suc bit) other =
      bit_at-suc (even + 1) bit ∙ ap (λ n. bit_at n bit) half ∙ sym (bit_at-suc even bit)

-- an operation that sets it, and one that clears it
pub sets_lowest : (there : ℕ) (did : Did) → op_place did.op ≡ there → did.old % 2 ≡ 0
    → word_after did.old did.op ≡ did.old + 1 → TurnsOne there 0 did
sets_lowest there did on even after = record {
  on = on;
  turns = ap (λ w. bit_at did.old 0 + bit_at w 0) after ∙ lowest_differs did.old even;
  others = λ bit low other. ap (λ w. bit_at w bit) after ∙ others_same did.old even bit other;
}

sum_swapped : (a b : ℕ) → a + b ≡ 1 → b + a ≡ 1
sum_swapped a b sum = omega (arith, sum)

pub clears_lowest : (there : ℕ) (did : Did) → op_place did.op ≡ there → word_after did.old did.op % 2 ≡ 0
    → did.old ≡ word_after did.old did.op + 1 → TurnsOne there 0 did
clears_lowest there did on even before =
    let after = word_after did.old did.op in
    record {
      on = on;
      turns =
          ap (λ w. bit_at w 0 + bit_at after 0) before
          ∙ sum_swapped (bit_at after 0) (bit_at (after + 1) 0) (lowest_differs after even);
      others = λ bit low other.
          sym (ap (λ w. bit_at w bit) before ∙ others_same after even bit other);
    }

-- an addition of 1 turns the lowest bit
adds_one : (old new : ℕ) → new ≡ (old + 1) % 2 ^ 64 → (bit_at old 0 + bit_at new 0) % 2 ≡ 1
adds_one old new is = omega (arith, is, bit_at_lowest old, bit_at_lowest new)

pub turned-adds : (there place : ℕ) (did : Did) → did.op ≡ Add there 1 → there ≡ place → turned place 0 did ≡ 1
turned-adds there place did adds here =
    turned-here place 0 did (ap op_place adds ∙ here) ∙ adds_one did.old _ (ap (word_after did.old) adds)

-- ---- how often a list of operations turns a bit

pub turns-push : (place bit : ℕ) (steps : List Did) (did : Did)
    → turns place bit (steps ++ did ∷ []) ≡ turns place bit steps + turned place bit did
turns-push place bit [] did = omega arith
turns-push place bit (first ∷ steps) did =
    let rest = turns-push place bit steps did in omega (arith, rest)

-- ---- the bits of what a call holds

module _ (g : Geometry) where
  abbrev pub node_bit : Option ℕ → ℕ → ℕ → ℕ
  node_bit None place bit = 0
  node_bit (Some node) place bit = one_bit (map_place g node) (map_bit node) place bit

  abbrev pub locked_bit : Option ℕ → ℕ → ℕ → ℕ
  locked_bit None place bit = 0
  locked_bit (Some there) place bit = one_bit there 0 place bit

  abbrev pub work_bit : Bool → ℕ → ℕ → ℕ
  work_bit false place bit = 0
  work_bit true place bit = one_bit (place_of g WorkLock) 0 place bit

  abbrev pub slot_bit : Option ℕ → ℕ → ℕ → ℕ
  slot_bit None place bit = 0
  slot_bit (Some slot) place bit = one_bit (place_of g (Slot slot StateWord)) 0 place bit

  -- the caller's section is open
  abbrev pub section_bit : ℕ → Bool → ℕ → ℕ → ℕ
  section_bit c false place bit = 0
  section_bit c true place bit = one_bit (place_of g (Section c)) 0 place bit

  -- the bit is that of one of these pages
  abbrev pub is_of_page : ℕ → ℕ → ℕ → Bool
  is_of_page page place bit = (place_of g (PageMap (page / 64)) == place) && (page % 64 == bit)

  abbrev pub is_of_pages : List ℕ → ℕ → ℕ → Bool
  is_of_pages [] place bit = false
  is_of_pages (page ∷ pages) place bit = is_of_page page place bit || is_of_pages pages place bit

  abbrev pub pages_bit : List ℕ → ℕ → ℕ → ℕ
  pages_bit pages place bit = one_if (is_of_pages pages place bit)

  -- of all that this caller's call holds
  abbrev pub held_bits : ℕ → Holding → ℕ → ℕ → ℕ
  held_bits c h place bit =
      node_bit h.node place bit + locked_bit h.lock place bit + work_bit h.worker place bit
      + slot_bit h.slot place bit + pages_bit h.pages place bit + section_bit c h.section place bit

  -- so the lowest bit of its word is 1 just where it is open
  pub section_bit-here : (c : ℕ) (open_now : Bool) (place : ℕ) → place_of g (Section c) ≡ place
      → section_bit c open_now place 0 ≡ odd_by open_now
  section_bit-here c false place here = refl
  section_bit-here c true place here = one_bit-here (place_of g (Section c)) 0 place 0 here refl

  pub section_bit-far : (c : ℕ) (open_now : Bool) (place bit : ℕ) → place_of g (Section c) ≢ place
      → section_bit c open_now place bit ≡ 0
  section_bit-far c false place bit far = refl
  section_bit-far c true place bit far = one_bit-far (place_of g (Section c)) 0 place bit far

  -- the bit of a page of the list
  pub record IsPageAt (pages : List ℕ) (place bit : ℕ) : Type 0 where
    pub page : ℕ
    pub has : In page pages
    pub there : place ≡ place_of g (PageMap (page / 64))
    pub bit_is : bit ≡ page % 64

  further : (first : ℕ) (pages : List ℕ) (place bit : ℕ) → IsPageAt pages place bit → IsPageAt (first ∷ pages) place bit
  further first pages place bit is =
      record { page = is.page; has = inr is.has; there = is.there; bit_is = is.bit_is }

  first_or : (first : ℕ) (pages : List ℕ) (place bit : ℕ)
      → ((is_of_pages pages place bit ≡ false) ⊎ IsPageAt pages place bit)
      → (is_of_pages (first ∷ pages) place bit ≡ false) ⊎ IsPageAt (first ∷ pages) place bit
  first_or first pages place bit rest =
      let there = place_of g (PageMap (first / 64)) in
      elim (cases_eq there place) [
        | inl at ↦ elim (cases_eq (first % 64) bit) [
          | inl same ↦ inr (record { page = first; has = inl refl; there = sym at; bit_is = sym same })
          | inr other ↦ behind rest
              (ap (λ t. t && (first % 64 == bit)) (eq-eqb there place at) ∙ ne_eqb (first % 64) bit other)
        ]
        | inr far ↦ behind rest (ap (λ t. t && (first % 64 == bit)) (ne_eqb there place far))
      ]
    where
      behind : ((is_of_pages pages place bit ≡ false) ⊎ IsPageAt pages place bit) → is_of_page first place bit ≡ false
          → (is_of_pages (first ∷ pages) place bit ≡ false) ⊎ IsPageAt (first ∷ pages) place bit
      behind (inl none) off = inl (ap (λ t. t || is_of_pages pages place bit) off ∙ none)
      behind (inr is) off = inr (further first pages place bit is)

  -- it is none of theirs, or it is
  pub page_or_none : (pages : List ℕ) (place bit : ℕ)
      → (is_of_pages pages place bit ≡ false) ⊎ IsPageAt pages place bit
  page_or_none [] place bit = inl refl
  page_or_none (first ∷ pages) place bit = first_or first pages place bit (page_or_none pages place bit)

  pub page_there : (pages : List ℕ) (page : ℕ) → In page pages
      → is_of_pages pages (place_of g (PageMap (page / 64))) (page % 64) ≡ true
  page_there [] page i = absurd i
  page_there (first ∷ pages) page (inl same) =
      let there = place_of g (PageMap (page / 64)) in
      ap (λ p. is_of_page p there (page % 64) || is_of_pages pages there (page % 64)) (sym same)
      ∙ ap (λ t. (t && (page % 64 == page % 64)) || is_of_pages pages there (page % 64)) (eq-eqb there there refl)
      ∙ ap (λ t. t || is_of_pages pages there (page % 64)) (eq-eqb (page % 64) (page % 64) refl)
  page_there (first ∷ pages) page (inr later) =
      let there = place_of g (PageMap (page / 64)) in
      or_right (is_of_page first there (page % 64)) (is_of_pages pages there (page % 64)) (page_there pages page later)

  pub page_at : (pages : List ℕ) (page place bit : ℕ) → In page pages → place ≡ place_of g (PageMap (page / 64))
      → bit ≡ page % 64 → is_of_pages pages place bit ≡ true
  page_at pages page place bit i there is = rw (there, is) (page_there pages page i)
