-- What follows from the definitions alone.
use Rattle.std.specs.Prelude.{◌≡◌, ◌≢◌, ◌↔◌, ◌⊎◌, ℕ, true, ◌*◌, ◌/◌, ◌%◌, ◌^◌, ◌<◌, ◌≤◌, bit_and, bit_or, List, length, Some, None}
use Rattle.std.specs.Int.{bit_at, bit_not, w64}
use Rattle.rht_words.specs.Ports.{port_at, net_of, number_of, IsPort, word_of, port_of}
use Rattle.rht_words.specs.Sizes.{rounded_up, rounded_down, first_size, IsSizeUpTo, IsLeastPower, IsGreatestPower}
use Rattle.rht_words.specs.Limits.{max_limits}
use Rattle.rht_words.specs.Settled.{IsSettled, plain_ways}
use Rattle.rht_words.specs.Operations.{op_place, word_after, applied}
use Rattle.rht_words.specs.Places.{Address, Slot, NodeMap, PageMap, ShapeWord, IsAddress, map_words, place_of, address_at, words_in, word_at}
use Rattle.rht_words.specs.Links.{link_of, marker_of, node_of, unlocked, head_of, plain_of, future_of, slot_of, entry_of, page_of}
use Rattle.rht_words.specs.Shapes.{packed, unpacked, IsPackable, size_of}
use Rattle.rht_words.specs.Maps.{bit_of}
use Rattle.rht_words.specs.Opening.{first_pages, first_shape, opening_word, opening_words}
use Rattle.rht_words.specs.Ways.{start_in}
use Rattle.rht_words.specs.declared.config.Config.{Config}
use Rattle.rht_words.specs.declared.env.Env.{Env}
use Rattle.rht_words.specs.declared.op.Op.{Op}
use Rattle.rht_words.specs.declared.geometry.Geometry.{Geometry}
use Rattle.rht_words.specs.declared.shape.Shape.{Shape}

-- A port comes back from its key word, and from its net and its number. Two ports have one key word only if they are one. Key words
-- stand in the order of nets, and of numbers in one net.
pub record PortsComeBack : Type 0 where
  pub from_word : (port : ℕ) → IsPort port → port_of (word_of port) ≡ port
  pub from_both : (port : ℕ) → port_at (net_of port) (number_of port) ≡ port
  pub within : (net number : ℕ) → net < 2 ^ 16 → number < 2 ^ 32 → IsPort (port_at net number)
  pub net_back : (net number : ℕ) → number < 2 ^ 32 → net_of (port_at net number) ≡ net
  pub number_back : (net number : ℕ) → number < 2 ^ 32 → number_of (port_at net number) ≡ number
  pub one_word : (port other : ℕ) → word_of port ≡ word_of other → (net_of port ≡ net_of other) × (number_of port ≡ number_of other)
  pub in_order : (port other : ℕ)
      → word_of port < word_of other
      ↔ (net_of port < net_of other) ⊎ ((net_of port ≡ net_of other) × (number_of port < number_of other))

-- rounding gives the power of two that lies next, up or down
pub record RoundsToNext : Type 0 where
  pub up : (n : ℕ) → n ≤ 2 ^ 32 → IsLeastPower n (rounded_up n)
  pub down : (n : ℕ) → 1 ≤ n → n < 2 ^ 32 → IsGreatestPower n (rounded_down n)

-- the first table of each settled config has a power of two from 4 to 131,072 for its size
abbrev pub TablesStartWithin : Type 0
TablesStartWithin =
    (config : Config) → IsSettled config → IsSizeUpTo max_limits.greatest (first_size config)

-- the places of different things are different, all are below the number of words, and no place is without a thing
pub record PlacesStandApart (g : Geometry) : Type 0 where
  pub apart : (a b : Address) → IsAddress g a → IsAddress g b → place_of g a ≡ place_of g b → a ≡ b
  pub within : (a : Address) → IsAddress g a → place_of g a < words_in g
  pub found : (a : Address) → IsAddress g a → address_at g (place_of g a) ≡ a
  pub each : (place : ℕ) → place < words_in g
      → IsAddress g (address_at g place) × (place_of g (address_at g place) ≡ place)
  pub few : words_in g ≤ 525656

-- in no geometry do two things share a place
abbrev pub PlacesNeverMeet : Type 0
PlacesNeverMeet = (g : Geometry) → PlacesStandApart g

-- the operation on the word of an address changes that word alone, and keeps the number of words
pub record ChangesOneWord (g : Geometry) (words : List ℕ) (address : Address) (op : Op) : Type 0 where
  pub count : length (applied words op) ≡ length words
  pub changed : word_at g (applied words op) address ≡ word_after (word_at g words address) op
  pub others : (other : Address) → IsAddress g other → other ≢ address
      → word_at g (applied words op) other ≡ word_at g words other

-- each operation changes one word alone
abbrev pub OperationsChangeOneWord : Type 0
OperationsChangeOneWord =
    (g : Geometry) (words : List ℕ) (address : Address) (op : Op)
    → length words ≡ words_in g → IsAddress g address → op_place op ≡ place_of g address
    → ChangesOneWord g words address op

-- a link names its node and a marker its place, and neither is taken for the other
pub record LinksTellApart : Type 0 where
  pub link_even : (node : ℕ) → link_of node % 2 ≡ 0
  pub marker_odd : (place : ℕ) → marker_of place % 2 ≡ 1
  pub never_meet : (node place : ℕ) → link_of node ≢ marker_of place
  pub link_names : (nodes node : ℕ) → node < nodes → node_of nodes (link_of node) ≡ Some node
  pub marker_names_no_node : (nodes place : ℕ) → node_of nodes (marker_of place) ≡ None
  pub named_by_link : (nodes link node : ℕ) → node_of nodes link ≡ Some node
      → (link ≡ link_of node) × (node < nodes)
  pub marker_names : (place other : ℕ) → place < 2 ^ 63 → other < 2 ^ 63
      → marker_of place ≡ marker_of other → place ≡ other

-- `plain_of` undoes `head_of`, but for the lock, and `head_of` undoes `plain_of`
pub record HeadsComeBack : Type 0 where
  pub plain_head : (place word : ℕ) → plain_of place (head_of place word) ≡ unlocked word
  pub head_link : (place node : ℕ) → head_of place (plain_of place (link_of node)) ≡ link_of node
  pub head_marker : (place : ℕ) → head_of place (plain_of place (marker_of place)) ≡ marker_of place

-- a future word names its slot and an entry its page, and 0 names neither
pub record EntriesComeBack : Type 0 where
  pub future_names : (slot : ℕ) → slot < 8 → slot_of (future_of slot) ≡ Some slot
  pub no_future : slot_of 0 ≡ None
  pub entry_names : (pages page : ℕ) → page < pages → page_of pages (entry_of page) ≡ Some page
  pub no_entry : (pages : ℕ) → page_of pages 0 ≡ None

-- a shape comes back from its word, and a word from its shape
pub record ShapesComeBack : Type 0 where
  pub unpacked_packed : (shape : Shape) → IsPackable shape → unpacked (packed shape) ≡ shape
  pub packed_unpacked : (word : ℕ) → word < 2 ^ 42 → packed (unpacked word) ≡ word

-- the words at opening are as many as there are places, and at each address stands its opening word
pub record StandInPlace (env : Env) : Type 0 where
  pub count : length (opening_words env) ≡ words_in env.geometry
  pub each : (a : Address) → IsAddress env.geometry a
      → word_at env.geometry (opening_words env) a ≡ opening_word env a

-- in no table does a word at opening stand elsewhere than at its address
abbrev pub WordsOpen : Type 0
WordsOpen = (env : Env) → StandInPlace env

-- the shape in slot 0 is flat and has the first size; the first table's pages hold its buckets, and there are so many pages
pub record OpensFlat (env : Env) : Type 0 where
  pub shape : unpacked (opening_word env (Slot 0 ShapeWord)) ≡ first_shape env
  pub flat : (first_shape env).nest ≡ 0
  pub size : size_of (first_shape env) ≡ first_size env.config
  pub holds : first_size env.config ≤ 64 * first_pages env
  pub fits : first_pages env ≤ env.geometry.pages

-- each first table is flat and fits the pages
abbrev pub TablesOpenFlat : Type 0
TablesOpenFlat = (env : Env) → OpensFlat env

-- a node's bit is set exactly where there is such a node, and a page's where there is such a page behind the first table's
pub record OpensFree (env : Env) : Type 0 where
  pub nodes : (node : ℕ)
      → (bit_at (opening_word env (NodeMap (node / 64))) (node % 64) ≡ 1) ↔ (node < env.geometry.nodes)
  pub pages : (page : ℕ)
      → (bit_at (opening_word env (PageMap (page / 64))) (page % 64) ≡ 1) ↔ ((first_pages env ≤ page)
      × (page < env.geometry.pages))

-- at opening all nodes are free, and all pages but those of the first table
abbrev pub MapsOpenFree : Type 0
MapsOpenFree = (env : Env) → OpensFree env

-- the mask that sets a bit of a word, and the one that clears it, change that bit alone
pub record ChangesOneBit (word bit : ℕ) : Type 0 where
  pub set : bit_at (bit_or word (bit_of bit)) bit ≡ 1
  pub set_others : (other : ℕ) → other ≢ bit → bit_at (bit_or word (bit_of bit)) other ≡ bit_at word other
  pub set_fits : bit_or word (bit_of bit) < 2 ^ 64
  pub cleared : bit_at (bit_and word (bit_not w64 (bit_of bit))) bit ≡ 0
  pub cleared_others : (other : ℕ) → other ≢ bit
      → bit_at (bit_and word (bit_not w64 (bit_of bit))) other ≡ bit_at word other
  pub cleared_fits : bit_and word (bit_not w64 (bit_of bit)) < 2 ^ 64

-- each mask of a bit changes one bit alone
abbrev pub MasksChangeOneBit : Type 0
MasksChangeOneBit = (word bit : ℕ) → word < 2 ^ 64 → bit < 64 → ChangesOneBit word bit

-- the word at which a search begins is one of the map: the first in the plain ways, and the given one where searches may begin at any
-- word and the map has it
pub record BeginsAtWord (env : Env) (start : ℕ) : Type 0 where
  pub within : start_in env start < map_words env.geometry.nodes
  pub plain : env.ways ≡ plain_ways → start_in env start ≡ 0
  pub given : env.ways.spread ≡ true → start < map_words env.geometry.nodes → start_in env start ≡ start

abbrev pub CallersBeginWithin : Type 0
CallersBeginWithin = (env : Env) (start : ℕ) → BeginsAtWord env start
