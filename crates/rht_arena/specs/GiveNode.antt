-- Giving a node back.
use Rattle.std.specs.Prelude.{◌≡◌, ℕ, ◌/◌, ◌%◌, ◌<◌}
use Rattle.rht_words.specs.declared.op.Op.{Op}
use Rattle.rht_words.specs.declared.op.Op.TheVariants.{Or}
use Rattle.rht_words.specs.declared.geometry.Geometry.{Geometry}
use Rattle.rht_words.specs.Maps.{bit_of}
use Rattle.rht_words.specs.Places.{NodeMap, place_of}

-- what contracts see of the machine
pub record GiveNodeModel : Type 0 where
  pub geometry : Geometry
  pub node : ℕ

-- the machine gives back a node of this table
pub record IsGiveIn (g : Geometry) (m : GiveNodeModel) : Type 0 where
  pub geometry_same : m.geometry ≡ g
  pub node_in : m.node < g.nodes

-- its one operation sets the node's bit
abbrev pub give_node_plan : GiveNodeModel → Op
give_node_plan m = Or (place_of m.geometry (NodeMap (m.node / 64))) (bit_of (m.node % 64))
