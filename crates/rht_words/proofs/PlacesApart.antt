-- The places of different things are different, and all are below the number of words.
use Rattle.std.proofs.Common.{◌≡◌, ℕ, ◌+◌, ◌-◌, ◌*◌, ◌/◌, ◌%◌, ◌<◌, ◌≤◌, inl, inr, true, false, cond, refl, sym, ◌∙◌, ap, arith}
use Rattle.std.specs.Prelude.{nat_lt, nat_le, ◌==◌}
use Rattle.std.proofs.lemmas.Bool.{cases_lt, cond_both, eqb-true, eqb-false}
use Rattle.std.proofs.lemmas.Bool.Decides.{nat_tests}
use Rattle.rht_words.specs.Places.{Address, CurrentTable, WorkLock, PortCount, NextSerial, EnrolledCallers, Spare, Section, Slot, NodeMap, PageMap, Node, PageWord, SlotWord, ShapeWord, SeedWord, FutureWord, SerialWord, StateWord, LoadedSection, NodeWord, ChainLink, KeyWord, OwnerWord, ListLink, map_words, page_map_at, nodes_at, pages_at, words_in, slot_offset, node_offset, place_of, address_at, first_address, slot_address, node_word, IsAddress, IsSlotWord, IsSpareOffset}
use Rattle.rht_words.specs.Laws.{PlacesStandApart}
use Rattle.rht_words.specs.declared.geometry.Geometry.{Geometry}

-- the parts of the words stand in this order
pub record PartsInOrder (g : Geometry) : Type 0 where
  pub page_map : page_map_at g ≡ 280 + map_words g.nodes
  pub nodes : nodes_at g ≡ page_map_at g + map_words g.pages
  pub pages : pages_at g ≡ nodes_at g + 4 * g.nodes

pub parts_in_order : (g : Geometry) → PartsInOrder g
unfolding page_map_at nodes_at pages_at
parts_in_order g = record { page_map = refl; nodes = refl; pages = refl }

below : (a b : ℕ) → a < b → nat_lt a b ≡ true
below a b l = grind (arith, nat_tests)

above : (a b : ℕ) → b ≤ a → nat_lt a b ≡ false
above a b l = grind (arith, nat_tests)

at_most : (a b : ℕ) → a ≤ b → nat_le a b ≡ true
at_most a b l = grind (arith, nat_tests)

less : (a b : ℕ) → a < b → nat_le b a ≡ false
less a b l = grind (arith, nat_tests)

differ : (a b : ℕ) → (a ≡ b → ⊥) → (a == b) ≡ false
differ a b h = grind (arith, nat_tests)

-- a choice by whether two numbers are equal
by_equal : {A : Type 0} (P : A → Type 0) (a b : ℕ) (x y : A) → (a ≡ b → P x) → ((a ≡ b → ⊥) → P y)
    → P (cond (a == b) x y)
by_equal P a b x y same other = cond_both (a == b) x y P (λ t. same (eqb-true a b t))
    (λ f. other (eqb-false a b f))

-- each part of `address_at`, where the place lies in it
at_first : (g : Geometry) (p : ℕ) → p < 8 → address_at g p ≡ first_address p
unfolding address_at
at_first g p l = rw (below p 8 l) refl

at_section : (g : Geometry) (p : ℕ) → 8 ≤ p → p < 24 → address_at g p ≡ Section (p - 8)
unfolding address_at
at_section g p low l = rw (above p 8 low, below p 24 l) refl

at_slot : (g : Geometry) (p : ℕ) → 24 ≤ p → p < 280
    → address_at g p ≡ slot_address p ((p - 24) / 32) ((p - 24) % 32)
unfolding address_at
at_slot g p low l = rw (above p 8 (omega arith), above p 24 low, below p 280 l) refl

at_node_map : (g : Geometry) (p : ℕ) → 280 ≤ p → p < page_map_at g → address_at g p ≡ NodeMap (p - 280)
unfolding address_at
at_node_map g p low l =
    rw (above p 8 (omega arith), above p 24 (omega arith), above p 280 low, below p (page_map_at g) l) refl

at_page_map : (g : Geometry) (p : ℕ) → page_map_at g ≤ p → p < nodes_at g
    → address_at g p ≡ PageMap (p - page_map_at g)
unfolding address_at
at_page_map g p low l =
    let parts = parts_in_order g in
    rw (
      above p 8 (omega arith),
      above p 24 (omega arith),
      above p 280 (omega arith),
      above p
          (page_map_at g) low,
      below p (nodes_at g) l,
    ) refl

at_node : (g : Geometry) (p : ℕ) → nodes_at g ≤ p → p < pages_at g
    → address_at g p ≡ Node ((p - nodes_at g) / 4) (node_word ((p - nodes_at g) % 4))
unfolding address_at
at_node g p low l =
    let parts = parts_in_order g in
    rw (
      above p 8 (omega arith),
      above p 24 (omega arith),
      above p 280 (omega arith),
      above p
          (page_map_at g) (omega arith),
      above p (nodes_at g) low,
      below p (pages_at g) l,
    ) refl

at_page : (g : Geometry) (p : ℕ) → pages_at g ≤ p → address_at g p ≡ PageWord (p - pages_at g)
unfolding address_at
at_page g p low =
    let parts = parts_in_order g in
    rw (
      above p 8 (omega arith),
      above p 24 (omega arith),
      above p 280 (omega arith),
      above p
          (page_map_at g) (omega arith),
      above p (nodes_at g) (omega arith),
      above p (pages_at g) low,
    ) refl

-- a word of a slot comes back from its distance behind the slot's first
slot_address-slot_offset : (p slot : ℕ) (word : SlotWord) → IsSlotWord word
    → slot_address p slot (slot_offset word) ≡ Slot slot word
unfolding slot_address
slot_address-slot_offset p slot ShapeWord v = refl
slot_address-slot_offset p slot SeedWord v = refl
slot_address-slot_offset p slot FutureWord v = refl
slot_address-slot_offset p slot SerialWord v = refl
slot_address-slot_offset p slot StateWord v = refl
slot_address-slot_offset p slot (LoadedSection caller) v =
    let o = 8 + caller in
    rw (
      differ o 0 (omega arith),
      differ o 1 (omega arith),
      differ o 2 (omega arith),
      differ o 3
          (omega arith),
      differ o 4 (omega arith),
      at_most 8 o (omega arith),
      below o 24 (omega arith),
    )
    (ap (λ c. Slot slot (LoadedSection c)) (omega arith))

-- a word of a node comes back from its distance behind the node's first
node_word-node_offset : (word : NodeWord) → node_word (node_offset word) ≡ word
unfolding node_word
node_word-node_offset ChainLink = refl
node_word-node_offset KeyWord = refl
node_word-node_offset OwnerWord = refl
node_word-node_offset ListLink = refl

node_offset-below : (word : NodeWord) → node_offset word < 4
node_offset-below ChainLink = omega arith
node_offset-below KeyWord = omega arith
node_offset-below OwnerWord = omega arith
node_offset-below ListLink = omega arith

slot_offset-below : (word : SlotWord) → IsSlotWord word → slot_offset word < 32
slot_offset-below ShapeWord v = omega arith
slot_offset-below SeedWord v = omega arith
slot_offset-below FutureWord v = omega arith
slot_offset-below SerialWord v = omega arith
slot_offset-below StateWord v = omega arith
slot_offset-below (LoadedSection caller) v = omega arith

-- a spare place is found spare
first_spare : (p : ℕ) → 5 ≤ p → first_address p ≡ Spare p
unfolding first_address
first_spare p low =
    rw (
      differ p 0 (omega arith),
      differ p 1 (omega arith),
      differ p 2 (omega arith),
      differ p 3
          (omega arith),
      differ p 4 (omega arith),
    ) refl

slot_spare : (p slot offset : ℕ) → IsSpareOffset offset → slot_address p slot offset ≡ Spare p
unfolding slot_address
slot_spare p slot offset (inl v) =
    rw (
      differ offset 0 (omega arith),
      differ offset 1 (omega arith),
      differ offset 2 (omega arith),
      differ offset 3 (omega arith),
      differ offset 4 (omega arith),
      less offset 8 v.1,
    ) refl
slot_spare p slot offset (inr v) =
    rw (
      differ offset 0 (omega arith),
      differ offset 1 (omega arith),
      differ offset 2 (omega arith),
      differ offset 3 (omega arith),
      differ offset 4 (omega arith),
      at_most 8 offset (omega arith),
      above offset 24 v,
    ) refl

-- what stands at the place of a thing is that thing
pub address_at-place_of : (g : Geometry) (a : Address) → IsAddress g a → address_at g (place_of g a) ≡ a
unfolding first_address
address_at-place_of g CurrentTable v = at_first g 0 (omega arith)
address_at-place_of g WorkLock v = at_first g 1 (omega arith)
address_at-place_of g PortCount v = at_first g 2 (omega arith)
address_at-place_of g NextSerial v = at_first g 3 (omega arith)
address_at-place_of g EnrolledCallers v = at_first g 4 (omega arith)
address_at-place_of g (Spare p) (inl v) = at_first g p v.1 ∙ first_spare p v.0
address_at-place_of g (Spare p) (inr v) = at_slot g p v.0 v.1
    ∙ slot_spare p ((p - 24) / 32) ((p - 24) % 32) v.2
address_at-place_of g (Section caller) v =
    at_section g (8 + caller) (omega arith) (omega arith) ∙ ap Section (omega arith)
address_at-place_of g (Slot slot word) v =
    let o = slot_offset word in
    let short = slot_offset-below word v.1 in
    let p = 24 + 32 * slot + o in
    let slot_is : (p - 24) / 32 ≡ slot = omega arith in
    let offset_is : (p - 24) % 32 ≡ o = omega arith in
    at_slot g p (omega arith) (omega arith) ∙ rw (slot_is, offset_is)
    (slot_address-slot_offset p slot word v.1)
address_at-place_of g (NodeMap i) v =
    let parts = parts_in_order g in
    at_node_map g (280 + i) (omega arith) (omega arith) ∙ ap NodeMap (omega arith)
address_at-place_of g (PageMap i) v =
    let parts = parts_in_order g in
    at_page_map g (page_map_at g + i) (omega arith) (omega arith) ∙ ap PageMap (omega arith)
address_at-place_of g (Node n word) v =
    let parts = parts_in_order g in
    let o = node_offset word in
    let short = node_offset-below word in
    let p = nodes_at g + 4 * n + o in
    let node_is : (p - nodes_at g) / 4 ≡ n = omega arith in
    let offset_is : (p - nodes_at g) % 4 ≡ o = omega arith in
    at_node g p (omega arith) (omega arith) ∙ rw (node_is, offset_is)
    (ap (Node n) (node_word-node_offset word))
address_at-place_of g (PageWord j) v = at_page g (pages_at g + j) (omega arith) ∙ ap PageWord (omega arith)

-- one place is not the place of two things
pub place_of-apart : (g : Geometry) (a b : Address) → IsAddress g a → IsAddress g b
    → place_of g a ≡ place_of g b → a ≡ b
place_of-apart g a b va vb e = sym (address_at-place_of g a va) ∙ ap (address_at g) e
    ∙ address_at-place_of g b vb

-- each place is below the number of words
pub place_of-below : (g : Geometry) (a : Address) → IsAddress g a → place_of g a < words_in g
place_of-below g CurrentTable v = let parts = parts_in_order g in omega arith
place_of-below g WorkLock v = let parts = parts_in_order g in omega arith
place_of-below g PortCount v = let parts = parts_in_order g in omega arith
place_of-below g NextSerial v = let parts = parts_in_order g in omega arith
place_of-below g EnrolledCallers v = let parts = parts_in_order g in omega arith
place_of-below g (Spare p) (inl v) = let parts = parts_in_order g in omega arith
place_of-below g (Spare p) (inr v) = let parts = parts_in_order g in omega arith
place_of-below g (Section caller) v = let parts = parts_in_order g in omega arith
place_of-below g (Slot slot word) v =
    let parts = parts_in_order g in let short = slot_offset-below word v.1 in omega arith
place_of-below g (NodeMap i) v = let parts = parts_in_order g in omega arith
place_of-below g (PageMap i) v = let parts = parts_in_order g in omega arith
place_of-below g (Node n word) v = let parts = parts_in_order g in let short = node_offset-below word in
    omega arith
place_of-below g (PageWord j) v = omega arith

-- there are at most 525,656 words
pub words_in-few : (g : Geometry) → words_in g ≤ 525656
words_in-few g = let parts = parts_in_order g in let within = g.within in omega arith

-- a thing stands at this place, and it is the one that is found there
pub record IsFound (g : Geometry) (place : ℕ) (a : Address) : Type 0 where
  pub address : IsAddress g a
  pub place_is : place_of g a ≡ place

IsFound-at : (g : Geometry) (p : ℕ) (a b : Address) → a ≡ b → IsFound g p b → IsFound g p a
IsFound-at g p a b e h = rw e h

found_first : (g : Geometry) (p : ℕ) → p < 8 → IsFound g p (first_address p)
unfolding first_address
found_first g p l =
    by_equal P p 0 CurrentTable _ (λ e. record { address = tt; place_is = sym e }) (λ n0.
    by_equal P p 1 WorkLock _ (λ e. record { address = tt; place_is = sym e }) (λ n1.
    by_equal P p 2 PortCount _ (λ e. record { address = tt; place_is = sym e }) (λ n2.
    by_equal P p 3 NextSerial _ (λ e. record { address = tt; place_is = sym e }) (λ n3.
    by_equal P p 4 EnrolledCallers _ (λ e. record { address = tt; place_is = sym e }) (λ n4.
    record { address = inl (omega arith, l); place_is = refl })))))
  where
    P : Address → Type 0
    P = IsFound g p

found_slot : (g : Geometry) (p slot offset : ℕ) → slot < 8 → offset < 32 → p ≡ 24 + 32 * slot + offset
    → IsFound g p (slot_address p slot offset)
unfolding slot_address
found_slot g p slot offset s o e =
    by_equal P offset 0 (Slot slot ShapeWord) _ (λ h.
    record { address = (s, tt); place_is = omega arith }) (λ n0.
    by_equal P offset 1 (Slot slot SeedWord) _ (λ h. record {
      address = (s, tt);
      place_is = omega arith;
    }) (λ n1.
    by_equal P offset 2 (Slot slot FutureWord) _ (λ h.
    record { address = (s, tt); place_is = omega arith }) (λ n2.
    by_equal P offset 3 (Slot slot SerialWord) _ (λ h.
    record { address = (s, tt); place_is = omega arith }) (λ n3.
    by_equal P offset 4 (Slot slot StateWord) _ (λ h.
    record { address = (s, tt); place_is = omega arith }) (λ n4.
    elim (cases_lt offset 8) [
      | inl low ↦ rw (less offset 8 low) (spare (inl (omega arith, low)))
      | inr high ↦ elim (cases_lt offset 24) [
        | inl kept ↦ rw (at_most 8 offset high, below offset 24 kept)
            record { address = (s, omega arith); place_is = omega arith }
        | inr past ↦ rw (at_most 8 offset high, above offset 24 past) (spare (inr past))
      ]
    ])))))
  where
    P : Address → Type 0
    P = IsFound g p

    within : (p - 24) % 32 ≡ offset
    within = omega arith

    spare : IsSpareOffset offset → IsFound g p (Spare p)
    spare v = record { address = inr (omega arith, omega arith, rw within v); place_is = refl }

node_offset-node_word : (offset : ℕ) → offset < 4 → node_offset (node_word offset) ≡ offset
unfolding node_word
node_offset-node_word offset l =
    by_equal P offset 0 ChainLink _ (λ e. sym e) (λ n0.
    by_equal P offset 1 KeyWord _ (λ e. sym e) (λ n1.
    by_equal P offset 2 OwnerWord ListLink (λ e. sym e) (λ n2. omega arith)))
  where
    P : NodeWord → Type 0
    P word = node_offset word ≡ offset

found_node : (g : Geometry) (p : ℕ) → nodes_at g ≤ p → p < pages_at g
    → IsFound g p (Node ((p - nodes_at g) / 4) (node_word ((p - nodes_at g) % 4)))
found_node g p low l =
    let parts = parts_in_order g in
    let offset = node_offset-node_word ((p - nodes_at g) % 4) (omega arith) in
    record { address = omega arith; place_is = omega arith }

-- each place below the number of words is the place of a thing
pub found_at : (g : Geometry) (p : ℕ) → p < words_in g → IsFound g p (address_at g p)
found_at g p l =
    let parts = parts_in_order g in
    elim (cases_lt p 8) [
      | inl first ↦ IsFound-at g p _ _ (at_first g p first) (found_first g p first)
      | inr after8 ↦
          elim (cases_lt p 24) [
            | inl section ↦ IsFound-at g p _ _ (at_section g p after8 section)
                record { address = omega arith; place_is = omega arith }
            | inr after24 ↦
                elim (cases_lt p 280) [
                  | inl slot ↦ IsFound-at g p _ _ (at_slot g p after24 slot)
                      (found_slot g p ((p - 24) / 32) ((p - 24) % 32) (omega arith) (omega arith)
                      (omega arith))
                  | inr after280 ↦
                      elim (cases_lt p (page_map_at g)) [
                        | inl map ↦ IsFound-at g p _ _ (at_node_map g p after280 map)
                            record { address = omega arith; place_is = omega arith }
                        | inr after_map ↦
                            elim (cases_lt p (nodes_at g)) [
                              | inl map ↦ IsFound-at g p _ _ (at_page_map g p after_map map)
                                  record { address = omega arith; place_is = omega arith }
                              | inr after_maps ↦
                                  elim (cases_lt p (pages_at g)) [
                                    | inl node ↦ IsFound-at g p _ _ (at_node g p after_maps node)
                                        (found_node g p after_maps node)
                                    | inr page ↦ IsFound-at g p _ _ (at_page g p page)
                                        record { address = omega arith; place_is = omega arith }
                                  ]
                            ]
                      ]
                ]
          ]
    ]

pub places_stand_apart : (g : Geometry) → PlacesStandApart g
places_stand_apart g = record {
  apart = place_of-apart g;
  within = place_of-below g;
  found = address_at-place_of g;
  each = λ place l. let found = found_at g place l in (found.address, found.place_is);
  few = words_in-few g;
}
