-- Taking a node and storing its words: what each state performs, and what comes after it.
use Rattle.std.specs.Prelude.{◌≡◌, ℕ, ◌<◌, Option, None, Some}
use Rattle.rht_words.specs.declared.op.Op.{Op}
use Rattle.rht_words.specs.declared.op.Op.TheVariants.{Store}
use Rattle.rht_words.specs.declared.machine.Next.{Next}
use Rattle.rht_words.specs.declared.machine.Next.TheVariants.{Go, Done}
use Rattle.rht_words.specs.declared.geometry.Geometry.{Geometry}
use Rattle.rht_words.specs.Places.{Node, KeyWord, OwnerWord, ListLink, place_of}
use Rattle.rht_words.specs.Planned.{IsWord}
use Rattle.rht_arena.specs.TakeNode.{TakeNodeModel, take_node_from, take_node_plan, take_node_after, IsTakeIn}
use Rattle.rht_arena.specs.declared.new_node.NewNodeAt.{NewNodeAt}
use Rattle.rht_arena.specs.declared.new_node.NewNodeAt.TheVariants as at

-- what contracts see of the machine
pub record NewNodeModel : Type 0 where
  pub geometry : Geometry
  pub key : ℕ
  pub owner : ℕ
  pub at : NewNodeAt

-- it begins by taking a node, with a search from word `start` of the map on
abbrev pub new_node_from : Geometry → ℕ → ℕ → ℕ → NewNodeModel
new_node_from g key owner start = record { geometry = g; key = key; owner = owner; at = at.Taking (take_node_from g start) }

-- or from the first one on
abbrev pub new_node_new : Geometry → ℕ → ℕ → NewNodeModel
new_node_new g key owner = new_node_from g key owner 0

-- the state's one operation
abbrev pub new_node_plan_at : Geometry → ℕ → ℕ → NewNodeAt → Op
new_node_plan_at g key owner (at.Taking take) = take_node_plan take
new_node_plan_at g key owner (at.Key node) = Store (place_of g (Node node KeyWord)) key
new_node_plan_at g key owner (at.Owner node) = Store (place_of g (Node node OwnerWord)) owner
new_node_plan_at g key owner (at.ListLink node) = Store (place_of g (Node node ListLink)) 0

abbrev pub new_node_plan : NewNodeModel → Op
new_node_plan m = new_node_plan_at m.geometry m.key m.owner m.at

-- where a node was taken its words are stored; where none was free there is no new one
abbrev pub node_taken : TakeNodeModel → Next (Option ℕ) → NewNodeAt × Next (Option ℕ)
node_taken take Go = (at.Taking take, Go)
node_taken take (Done None) = (at.Taking take, Done None)
node_taken take (Done (Some node)) = (at.Key node, Go)

-- what comes after a state that found this word
abbrev pub new_node_after_at : NewNodeAt → ℕ → NewNodeAt × Next (Option ℕ)
new_node_after_at (at.Taking take) word = node_taken (take_node_after take word).0
    (take_node_after take word).1
new_node_after_at (at.Key node) word = (at.Owner node, Go)
new_node_after_at (at.Owner node) word = (at.ListLink node, Go)
new_node_after_at (at.ListLink node) word = (at.ListLink node, Done (Some node))

abbrev pub new_node_after : NewNodeModel → ℕ → NewNodeModel × Next (Option ℕ)
new_node_after m word = (record m { at = (new_node_after_at m.at word).0 }, (new_node_after_at m.at word).1)

-- the node that the machine has taken
abbrev pub node_of_new : NewNodeAt → Option ℕ
node_of_new (at.Taking take) = None
node_of_new (at.Key node) = Some node
node_of_new (at.Owner node) = Some node
node_of_new (at.ListLink node) = Some node

-- the node that the state names is one of the nodes
abbrev pub IsNewNodeAtIn : Geometry → NewNodeAt → Type 0
IsNewNodeAtIn g (at.Taking take) = IsTakeIn g take
IsNewNodeAtIn g (at.Key node) = node < g.nodes
IsNewNodeAtIn g (at.Owner node) = node < g.nodes
IsNewNodeAtIn g (at.ListLink node) = node < g.nodes

-- the machine takes a node of this table, and what it stores in it are words
pub record IsNewNodeIn (g : Geometry) (m : NewNodeModel) : Type 0 where
  pub geometry_same : m.geometry ≡ g
  pub key_in : IsWord m.key
  pub owner_in : IsWord m.owner
  pub at_in : IsNewNodeAtIn g m.at
