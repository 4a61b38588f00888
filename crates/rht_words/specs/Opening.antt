-- The words of a table that has just been opened: its first table stands in slot 0 and is empty, and no caller has enrolled.
use Rattle.std.specs.Prelude.{ℕ, ◌-◌, ◌/◌, ◌==◌, max, List, map, if◌then◌else◌}
use Rattle.std.specs.List.{range_with_len}
use Rattle.rht_words.specs.Sizes.{first_size}
use Rattle.rht_words.specs.Maps.{map_bits}
use Rattle.rht_words.specs.Shapes.{packed, exponent_of}
use Rattle.rht_words.specs.Places.{Address, NextSerial, Slot, NodeMap, PageMap, SlotWord, ShapeWord, SeedWord, StateWord, words_in, address_at}
use Rattle.rht_words.specs.declared.env.Env.{Env}
use Rattle.rht_words.specs.declared.shape.Shape.{Shape}

-- the pages that the first table takes, from the first page on
abbrev pub first_pages : Env → ℕ
first_pages env = max 1 (first_size env.config / 64)

-- its shape, which is flat
abbrev pub first_shape : Env → Shape
first_shape env = record { exponent = exponent_of (first_size env.config); nest = 0; page = 0 }

-- the words of its slot, which is taken
abbrev pub first_slot : Env → SlotWord → ℕ
first_slot env ShapeWord = packed (first_shape env)
first_slot env SeedWord = env.config.seed
first_slot env StateWord = 1
first_slot env _ = 0

-- the word of an address at opening: all nodes are free, and all pages but those of the first table
abbrev pub opening_word : Env → Address → ℕ
opening_word env NextSerial = 1
opening_word env (Slot slot word) = if slot == 0 then first_slot env word else 0
opening_word env (NodeMap index) = map_bits env.geometry.nodes index
opening_word env (PageMap index) = map_bits env.geometry.pages index - map_bits (first_pages env) index
opening_word env _ = 0

-- all words at opening, in the order of their places
abbrev pub opening_words : Env → List ℕ
opening_words env =
    map (λ place. opening_word env (address_at env.geometry place)) (range_with_len 0 (words_in env.geometry))
