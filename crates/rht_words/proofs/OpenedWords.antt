-- What stands in each word of a table that has just been opened.
-- A word is looked at by its address. At most places that is 0; the few others are in slot 0, the
-- next serial and the maps.
use Rattle.std.proofs.Common.{◌≡◌, ◌≢◌, ℕ, ◌-◌, ◌*◌, ◌<◌, ◌≤◌, min, refl, sym, ◌∙◌, ap, arith}
use Rattle.std.specs.Prelude.{◌==◌}
use Rattle.std.proofs.Math.Pow.{pow_mono}
use Rattle.std.proofs.lemmas.Bool.{cond_both, eqb-true}
use Rattle.rht_words.specs.Maps.{map_bits}
use Rattle.rht_words.specs.Opening.{first_pages, first_slot, opening_word}
use Rattle.rht_words.specs.Places.{Address, NextSerial, Slot, NodeMap, PageMap, SlotWord, ShapeWord, SeedWord, FutureWord, SerialWord, StateWord, LoadedSection, nodes_at, words_in, slot_offset, place_of, address_at, IsAddress}
use Rattle.rht_words.specs.declared.env.Env.{Env}
use Rattle.rht_words.proofs.PlacesApart.{parts_in_order, address_at-place_of, found_at}

-- the word at the place of a thing is the opening word of that thing
pub opening_word-at : (env : Env) (place : ℕ) (a : Address) → IsAddress env.geometry a
    → place_of env.geometry a ≡ place
    → opening_word env a ≡ opening_word env (address_at env.geometry place)
opening_word-at env place a there is =
    ap (opening_word env) (sym (address_at-place_of env.geometry a there) ∙ ap (address_at env.geometry) is)

-- the words of slot 0 that are 0
first_slot-zero : (env : Env) (word : SlotWord) → slot_offset word ≢ 0 → slot_offset word ≢ 1
    → slot_offset word ≢ 4 → first_slot env word ≡ 0
first_slot-zero env ShapeWord shape seed state = absurd (shape refl)
first_slot-zero env SeedWord shape seed state = absurd (seed refl)
first_slot-zero env FutureWord shape seed state = refl
first_slot-zero env SerialWord shape seed state = refl
first_slot-zero env StateWord shape seed state = absurd (state refl)
first_slot-zero env (LoadedSection caller) shape seed state = refl

-- neither the next serial, nor the shape, the seed or the state of slot 0, nor a word of a map stands at this place
pub record IsZeroAtOpening (env : Env) (place : ℕ) : Type 0 where
  pub serial : place ≢ 3
  pub shape : place ≢ 24
  pub seed : place ≢ 25
  pub state : place ≢ 28
  pub maps : 280 ≤ place → place < nodes_at env.geometry → ⊥

-- at such a place stands 0
zero_by_address : (env : Env) (a : Address) → IsAddress env.geometry a
    → IsZeroAtOpening env (place_of env.geometry a) → opening_word env a ≡ 0
zero_by_address env NextSerial there off = absurd (off.serial refl)
zero_by_address env (Slot slot word) there off = cond_both (slot == 0) (first_slot env word) 0 (λ w. w ≡ 0)
    (λ first.
    let is : slot ≡ 0 = eqb-true slot 0 first in
    first_slot-zero env word (λ e. off.shape (omega arith)) (λ e. off.seed (omega arith))
    (λ e. off.state (omega arith)))
    (λ later. refl)
zero_by_address env (NodeMap index) there off =
    let parts = parts_in_order env.geometry in
    absurd (off.maps (omega arith) (omega arith))
zero_by_address env (PageMap index) there off =
    let parts = parts_in_order env.geometry in
    absurd (off.maps (omega arith) (omega arith))
zero_by_address env _ there off = refl

pub opening_word-zero : (env : Env) (place : ℕ) → place < words_in env.geometry → IsZeroAtOpening env place
    → 0 ≡ opening_word env (address_at env.geometry place)
opening_word-zero env place below off =
    let found = found_at env.geometry place below in
    sym (zero_by_address env (address_at env.geometry place) found.address (rw found.place_is off))

-- the first table's pages are among the table's
pub first_pages-fit : (env : Env) → first_pages env ≤ env.geometry.pages
first_pages-fit env =
    let starts = env.settled.starts in
    let within = env.settled.geometry in
    let same = env.agrees in
    omega arith

-- a map of more bits has more of them in each word
pub map_bits-rise : (few many index : ℕ) → few ≤ many → map_bits few index ≤ map_bits many index
map_bits-rise few many index l =
    omega (arith, pow_mono {i = min 64 (few - 64 * index)} {j = min 64 (many - 64 * index)} (omega arith))
