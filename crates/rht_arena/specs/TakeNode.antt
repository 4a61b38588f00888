-- How a free node is taken: what each state performs, and what comes after it.
use Rattle.std.specs.Prelude.{◌≡◌, ℕ, ◌+◌, ◌*◌, ◌<◌, ◌==◌, nat_lt, bit_and, Option, None, Some, if◌then◌else◌}
use Rattle.std.specs.Int.{bit_at, bit_not, w64}
use Rattle.rht_words.specs.declared.op.Op.{Op}
use Rattle.rht_words.specs.declared.op.Op.TheVariants.{Load, And}
use Rattle.rht_words.specs.declared.machine.Next.{Next}
use Rattle.rht_words.specs.declared.machine.Next.TheVariants.{Go, Done}
use Rattle.rht_words.specs.declared.geometry.Geometry.{Geometry}
use Rattle.rht_words.specs.Maps.{bit_of, bits_above, lowest_free, IsBitIn}
use Rattle.rht_words.specs.Places.{NodeMap, map_words, place_of}
use Rattle.rht_arena.specs.declared.take_node.TakeNodeAt.{TakeNodeAt}
use Rattle.rht_arena.specs.declared.take_node.TakeNodeAt.TheVariants.{MapWord, Claim}

-- what contracts see of the machine
pub record TakeNodeModel : Type 0 where
  pub geometry : Geometry
  pub start : ℕ
  pub at : TakeNodeAt

-- it begins with word `start` of the map
abbrev pub take_node_from : Geometry → ℕ → TakeNodeModel
take_node_from g start = record { geometry = g; start = start; at = MapWord start }

-- or with the first one
abbrev pub take_node_new : Geometry → TakeNodeModel
take_node_new g = take_node_from g 0

-- the state's one operation
abbrev pub plan_at : Geometry → TakeNodeAt → Op
plan_at g (MapWord index) = Load (place_of g (NodeMap index))
plan_at g (Claim index bit) = And (place_of g (NodeMap index)) (bit_not w64 (bit_of bit))

abbrev pub take_node_plan : TakeNodeModel → Op
take_node_plan m = plan_at m.geometry m.at

-- the word after this one in the search's order: the first after the last
abbrev pub word_behind : Geometry → ℕ → ℕ
word_behind g index = if nat_lt (index + 1) (map_words g.nodes) then index + 1 else 0

-- a word without a free node is followed by the next one; where that is the search's first word, no node was free
abbrev pub next_word : TakeNodeModel → ℕ → TakeNodeModel × Next (Option ℕ)
next_word m index =
    if word_behind m.geometry index == m.start then (m, Done None)
    else (record m { at = MapWord (word_behind m.geometry index) }, Go)

-- the lowest node of the map's word that is free there is claimed; where there is none, the next word is looked at
abbrev pub claim_in : TakeNodeModel → ℕ → Option ℕ → TakeNodeModel × Next (Option ℕ)
claim_in m index None = next_word m index
claim_in m index (Some bit) = (record m { at = Claim index bit }, Go)

abbrev pub claim_among : TakeNodeModel → ℕ → ℕ → TakeNodeModel × Next (Option ℕ)
claim_among m index word = claim_in m index (lowest_free m.geometry.nodes index word)

-- what comes after a state that found this value
abbrev pub after_at : TakeNodeModel → TakeNodeAt → ℕ → TakeNodeModel × Next (Option ℕ)
after_at m (MapWord index) word = claim_among m index word
after_at m (Claim index bit) word =
    if bit_at word bit == 1 then (m, Done (Some (64 * index + bit)))
    else claim_among m index (bit_and word (bits_above bit))

abbrev pub take_node_after : TakeNodeModel → ℕ → TakeNodeModel × Next (Option ℕ)
take_node_after m old = after_at m m.at old

-- the word of the map is one of those that there are, and the claimed node is one of the nodes
abbrev pub IsTakeAtIn : Geometry → TakeNodeAt → Type 0
IsTakeAtIn g (MapWord index) = index < map_words g.nodes
IsTakeAtIn g (Claim index bit) = IsBitIn g.nodes index bit

-- the machine takes a node of this table
pub record IsTakeIn (g : Geometry) (m : TakeNodeModel) : Type 0 where
  pub geometry_same : m.geometry ≡ g
  pub at_in : IsTakeAtIn g m.at

-- a node that is answered is one of the nodes
abbrev pub IsNodeIn : Geometry → Next (Option ℕ) → Type 0
IsNodeIn g Go = Unit {0}
IsNodeIn g (Done None) = Unit {0}
IsNodeIn g (Done (Some node)) = node < g.nodes
