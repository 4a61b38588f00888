-- What a word of a future says where it was loaded: it is 0, or names the slot of the table behind.
use Rattle.std.proofs.Common.{◌≡◌, ℕ, ◌≤◌, ◌+◌, false, cond, ◌≢◌, ◌<◌, ◌-◌, nat_le, List, refl, ap, inl, inr, arith}
use Rattle.std.specs.Prelude.{Some, None, ◌&&◌}
use Rattle.std.proofs.lemmas.Bool.{cases_lt, lt-ltb, le-ltb, leb-true, and_parts, leb-false}
use Rattle.rht_words.specs.declared.env.Env.{Env}
use Rattle.rht_words.specs.Places.{Slot, FutureWord}
use Rattle.rht_words.specs.Links.{slot_of, table_of, future_of}
use Rattle.rht_ghost.proofs.Theory.Ghosts.{Ghost}
use Rattle.rht_ghost.proofs.Theory.Wholes.{Whole, IsAt}
use Rattle.rht_ghost.proofs.Theory.Steps.{mem, by_test}
use Rattle.rht_ghost.proofs.Pieces.TableLoads.{future_word}

-- a word of a future that names no slot is 0
pub no_slot : (word : ℕ) → word ≤ 8 → slot_of word ≡ None → word ≡ 0
no_slot word few is =
    by_test (λ t. cond t (Some (word - 1)) None ≡ None → word ≡ 0) (nat_le 1 word && nat_le word 8)
    (λ t same. absurd (cc))
    (λ f same. none f) is
  where
    none : (nat_le 1 word && nat_le word 8) ≡ false → word ≡ 0
    none f =
        by_test (λ t. (t && nat_le word 8) ≡ false → nat_le 1 word ≡ t → word ≡ 0) (nat_le 1 word)
        (λ t other same.
        let past = leb-false word 8 other in
        absurd (omega (arith, past, few)))
        (λ f other same. let low = leb-false 1 word f in omega (arith, low)) f refl

-- a future word that names a slot leads to it
pub slot_named : (word slot : ℕ) → slot_of word ≡ Some slot → (slot < 8) × (word ≡ future_of slot)
slot_named word slot is =
    by_test (λ t. cond t (Some (word - 1)) None ≡ Some slot → (slot < 8) × (word ≡ future_of slot))
    (nat_le 1 word && nat_le word 8)
    (λ t same.
    let parts = and_parts (nat_le 1 word) (nat_le word 8) t in
    let low = leb-true 1 word parts.0 in
    let high = leb-true word 8 parts.1 in
    let here : word - 1 ≡ slot = cc in
    (omega (arith, low, high, here), omega (arith, low, here)))
    (λ f same. absurd (cc)) is

pub nonzero_named : (word : ℕ) → word ≤ 8 → word ≢ 0 → word ≡ future_of (table_of (word - 1))
nonzero_named word few some =
    elim (cases_lt 0 word) [
      | inl low ↦ omega (arith, few, low)
      | inr none ↦ absurd (some (omega (arith, none)))
    ]

-- a table's future is none, or one of the slots
pub future_few : (env : Env) (mix : ℕ → ℕ → ℕ → ℕ) (words : List ℕ) (G : Ghost) (slot : ℕ)
    → Whole env mix (mem env mix words) G
    → IsAt G slot → mem env mix words (Slot slot FutureWord) ≤ 8
future_few env mix words G slot whole at =
    let τ = at.table in
    let here = future_word env mix (mem env mix words) G whole slot at in
    elim (cases_lt (τ + 1) G.attached) [
      | inl more ↦
          let low = (whole.tables.each (τ + 1) (at.on (τ + 1) (omega arith) more)).slot_in in
          let next = ap (λ t. cond t (future_of (G.table (τ + 1)).slot) 0) (lt-ltb (τ + 1) G.attached more) in
          omega (arith, here, next, low)
      | inr last ↦
          let none = ap (λ t. cond t (future_of (G.table (τ + 1)).slot) 0) (le-ltb (τ + 1) G.attached last) in
          omega (arith, here, none)
    ]
