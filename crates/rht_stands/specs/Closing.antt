-- What the words of a table say at its closing: what is bound, the size of the current table, and how many ports are bound.
-- It is said of any words. Below it stand the lists from which the bindings are made.
use Rattle.std.specs.Prelude.{◌≡◌, ℕ, ◌<◌, ◌≤◌, ◌==◌, Bool, true, false, Option, Some, List, [], ◌∷◌, map, filter, length, replicate, All, slice_index_or, slice_set, vec_capacity}
use Rattle.std.specs.Option.{option_map}
use Rattle.std.specs.List.{find, flat_map, range_with_len}
use Rattle.std.specs.List.Sorted.{IsStrictlyIncreasing}
use Rattle.rht_words.specs.declared.geometry.Geometry.{Geometry}
use Rattle.rht_words.specs.Members.{In, IsDistinct}
use Rattle.rht_words.specs.Links.{table_of}
use Rattle.rht_words.specs.Ports.{IsPort, port_of}
use Rattle.rht_words.specs.Shapes.{size_of, unpacked}
use Rattle.rht_words.specs.Places.{CurrentTable, Slot, ShapeWord, Node, KeyWord, word_at}
use Rattle.rht_model.specs.Multimap.{Port}
use Rattle.rht_model.specs.Listing.{Lists, added}
use Rattle.rht_model.specs.declared.bindings.Closed.{Closed}
use Rattle.rht_stands.specs.declared.closing.ClosingRoom.{ClosingRoom}
use Rattle.rht_stands.specs.StandsFor.{in_force, table_nodes, first_node, nodes_of, owners_from, stands_for}

module _ (g : Geometry) (words : List ℕ) where
  -- the size of the current table
  abbrev pub current_size : ℕ
  current_size = size_of (unpacked (word_at g words (Slot (table_of (word_at g words CurrentTable)) ShapeWord)))

  -- what was closed lists what the words stand for, with the size of the current table and the number of ports bound
  pub record IsClosedOf (closed : Closed) : Type 0 where
    pub bound : Lists closed.bindings.pairs (stands_for g words)
    pub size : closed.size ≡ current_size
    pub keys : closed.keys ≡ length closed.bindings.pairs

  -- ---- from nodes to bindings

  -- the nodes met in the tables in force
  abbrev pub nodes_met : List ℕ
  nodes_met = flat_map (table_nodes g words) (in_force g words)

  -- each node that is met is the first one of a port; and in the lists of different ports there are no more nodes than there are
  pub record IsListable : Type 0 where
    pub port : (node : ℕ) → In node nodes_met → IsPort (word_at g words (Node node KeyWord))
    pub first : (node : ℕ) → In node nodes_met → first_node g words (word_at g words (Node node KeyWord)) ≡ Some node
    pub few : (ports : List ℕ) → IsDistinct ports → length (flat_map (nodes_of g words) ports) ≤ g.nodes

  -- the node, behind its port
  abbrev pub with_port : ℕ → Port × ℕ
  with_port node = (port_of (word_at g words (Node node KeyWord)), node)

  -- the node that stands behind a port, where one does
  abbrev pub node_behind : List (Port × ℕ) → Port → Option ℕ
  node_behind firsts port = option_map (λ first. first.1) (find (λ first. first.0 == port) firsts)

  -- the first node of each port that is bound, behind its port, in rising order of ports
  pub record AreFirsts (firsts : List (Port × ℕ)) : Type 0 where
    pub rising : IsStrictlyIncreasing (map (λ first. first.0) firsts)
    pub each : (port : Port) → node_behind firsts port ≡ first_node g words port
    pub own : All (λ first. (first.1 < g.nodes) × (first_node g words first.0 ≡ Some first.1)) firsts
    pub few : length firsts ≤ g.nodes

  -- the owners of a port with this first node, each behind the port
  abbrev pub owned : Port × ℕ → List (Port × ℕ)
  owned first = map (λ owner. (first.0, owner)) (owners_from g words g.nodes (Some first.1))

-- the listing with all of these owners more, one after another
abbrev pub all_added : List (Port × List ℕ) → List (Port × ℕ) → List (Port × List ℕ)
all_added pairs [] = pairs
all_added pairs (owner ∷ owners) = all_added (added pairs owner.0 owner.1) owners

-- these marks, with those of the nodes set
abbrev pub marked : List Bool → List ℕ → List Bool
marked marks [] = marks
marked marks (node ∷ nodes) = marked (slice_set marks node true) nodes

-- the nodes below a bound that are marked, in rising order
abbrev pub is_marked : List Bool → ℕ → Bool
is_marked marks node = slice_index_or marks node false

abbrev pub marked_below : List Bool → ℕ → List ℕ
marked_below marks bound = filter (is_marked marks) (range_with_len 0 bound)

-- nothing is in the room yet, and there is enough for all nodes
pub record IsRoomFor (g : Geometry) (room : ClosingRoom) : Type 0 where
  pub met : room.met.items ≡ replicate g.nodes false
  pub firsts : (room.firsts.items ≡ []) × (g.nodes ≤ vec_capacity room.firsts)
  pub pairs : room.bindings.pairs ≡ []
  pub room_left : room.bindings.room ≡ g.nodes
