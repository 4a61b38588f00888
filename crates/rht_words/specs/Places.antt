-- Where each thing stands in the list of words.
use Rattle.std.specs.Prelude.{ℕ, ◌+◌, ◌-◌, ◌*◌, ◌/◌, ◌%◌, ◌<◌, ◌≤◌, ◌⊎◌, ◌==◌, ◌&&◌, nat_lt, nat_le, List, slice_index, if◌then◌else◌}
use Rattle.rht_words.specs.declared.geometry.Geometry.{Geometry}

-- the words of a slot. The last kind keeps the section word of a caller that was loaded when the slot's table was retired
pub data SlotWord : Type 0 where
  ShapeWord : SlotWord
  SeedWord : SlotWord
  FutureWord : SlotWord
  SerialWord : SlotWord
  StateWord : SlotWord
  LoadedSection : ℕ → SlotWord

-- the words of a node
pub data NodeWord : Type 0 where
  ChainLink : NodeWord
  KeyWord : NodeWord
  OwnerWord : NodeWord
  ListLink : NodeWord

-- What a word is there for. The maps' words and those of all pages are numbered in a row from 0, a spare word by its place
pub data Address : Type 0 where
  CurrentTable : Address
  WorkLock : Address
  PortCount : Address
  NextSerial : Address
  EnrolledCallers : Address
  Spare : ℕ → Address
  Section : ℕ → Address
  Slot : ℕ → SlotWord → Address
  NodeMap : ℕ → Address
  PageMap : ℕ → Address
  Node : ℕ → NodeWord → Address
  PageWord : ℕ → Address

-- the words that a map of so many bits takes
abbrev pub map_words : ℕ → ℕ
map_words count = (count + 63) / 64

-- the place at which the node map begins, behind the single words, the section words and the slots
abbrev pub node_map_at : ℕ
node_map_at = 280

-- the places at which the page map, the nodes and the pages begin
unfoldable pub page_map_at : Geometry → ℕ
page_map_at g = node_map_at + map_words g.nodes

unfoldable pub nodes_at : Geometry → ℕ
nodes_at g = page_map_at g + map_words g.pages

unfoldable pub pages_at : Geometry → ℕ
pages_at g = nodes_at g + 4 * g.nodes

-- how many words there are
abbrev pub words_in : Geometry → ℕ
words_in g = pages_at g + 64 * g.pages

-- the word at this place is one of the pages', where the words of buckets stand
abbrev pub IsBucketPlace : Geometry → ℕ → Type 0
IsBucketPlace g place = (pages_at g ≤ place) × (place < words_in g)

-- how far behind the first word of a slot or a node the word stands
abbrev pub slot_offset : SlotWord → ℕ
slot_offset ShapeWord = 0
slot_offset SeedWord = 1
slot_offset FutureWord = 2
slot_offset SerialWord = 3
slot_offset StateWord = 4
slot_offset (LoadedSection caller) = 8 + caller

abbrev pub node_offset : NodeWord → ℕ
node_offset ChainLink = 0
node_offset KeyWord = 1
node_offset OwnerWord = 2
node_offset ListLink = 3

-- the places of the section words and the slots, which no geometry moves
abbrev pub section_place : ℕ → ℕ
section_place caller = 8 + caller

abbrev pub slot_place : ℕ → SlotWord → ℕ
slot_place slot word = 24 + 32 * slot + slot_offset word

-- the place of the word
abbrev pub place_of : Geometry → Address → ℕ
place_of g CurrentTable = 0
place_of g WorkLock = 1
place_of g PortCount = 2
place_of g NextSerial = 3
place_of g EnrolledCallers = 4
place_of g (Spare place) = place
place_of g (Section caller) = section_place caller
place_of g (Slot slot word) = slot_place slot word
place_of g (NodeMap index) = node_map_at + index
place_of g (PageMap index) = page_map_at g + index
place_of g (Node node word) = nodes_at g + 4 * node + node_offset word
place_of g (PageWord index) = pages_at g + index

-- the word at an address
abbrev pub word_at : Geometry → List ℕ → Address → ℕ
word_at g words address = slice_index words (place_of g address)

-- no word at this distance behind the first word of a slot is in use
abbrev pub IsSpareOffset : ℕ → Type 0
IsSpareOffset offset = ((5 ≤ offset) × (offset < 8)) ⊎ (24 ≤ offset)

-- the word at this place is in no use
abbrev pub IsSpare : ℕ → Type 0
IsSpare place = ((5 ≤ place) × (place < 8)) ⊎ ((24 ≤ place) × (place < node_map_at)
    × IsSpareOffset ((place - 24) % 32))

-- the word is one of a slot
abbrev pub IsSlotWord : SlotWord → Type 0
IsSlotWord (LoadedSection caller) = caller < 16
IsSlotWord _ = Unit {0}

-- there is such a word
abbrev pub IsAddress : Geometry → Address → Type 0
IsAddress g (Spare place) = IsSpare place
IsAddress g (Section caller) = caller < 16
IsAddress g (Slot slot word) = (slot < 8) × IsSlotWord word
IsAddress g (NodeMap index) = index < map_words g.nodes
IsAddress g (PageMap index) = index < map_words g.pages
IsAddress g (Node node word) = node < g.nodes
IsAddress g (PageWord index) = index < 64 * g.pages
IsAddress g _ = Unit {0}

-- the address of one of the first eight places, of a distance within a slot, and of one within a node
unfoldable pub first_address : ℕ → Address
first_address place =
    if place == 0 then CurrentTable
    else if place == 1 then WorkLock
    else if place == 2 then PortCount
    else if place == 3 then NextSerial
    else if place == 4 then EnrolledCallers
    else Spare place

unfoldable pub slot_address : ℕ → ℕ → ℕ → Address
slot_address place slot offset =
    if offset == 0 then Slot slot ShapeWord
    else if offset == 1 then Slot slot SeedWord
    else if offset == 2 then Slot slot FutureWord
    else if offset == 3 then Slot slot SerialWord
    else if offset == 4 then Slot slot StateWord
    else if nat_le 8 offset && nat_lt offset 24 then Slot slot (LoadedSection (offset - 8))
    else Spare place

unfoldable pub node_word : ℕ → NodeWord
node_word offset =
    if offset == 0 then ChainLink
    else if offset == 1 then KeyWord
    else if offset == 2 then OwnerWord
    else ListLink

-- what the word at this place is there for
unfoldable pub address_at : Geometry → ℕ → Address
address_at g place =
    if nat_lt place 8 then first_address place
    else if nat_lt place 24 then Section (place - 8)
    else if nat_lt place node_map_at then slot_address place ((place - 24) / 32) ((place - 24) % 32)
    else if nat_lt place (page_map_at g) then NodeMap (place - node_map_at)
    else if nat_lt place (nodes_at g) then PageMap (place - page_map_at g)
    else if nat_lt place (pages_at g) then Node ((place - nodes_at g) / 4)
    (node_word ((place - nodes_at g) % 4))
    else PageWord (place - pages_at g)
