-- Whatever words it is told, a new node is one of the table's.
use Rattle.std.proofs.Common.{◌≡◌, ℕ, sym, subst, ◌∙◌}
use Rattle.std.specs.Prelude.{Option, Some, None}
use Rattle.rht_words.specs.declared.geometry.Geometry.{Geometry}
use Rattle.rht_words.specs.declared.machine.Next.{Next}
use Rattle.rht_words.specs.declared.machine.Next.TheVariants.{Go, Done}
use Rattle.rht_arena.specs.TakeNode.{TakeNodeModel, take_node_after, IsTakeAtIn, IsTakeIn, IsNodeIn}
use Rattle.rht_arena.specs.NewNode.{NewNodeModel, new_node_after, new_node_after_at, node_taken, IsNewNodeAtIn, IsNewNodeIn}
use Rattle.rht_arena.specs.declared.new_node.NewNodeAt.{NewNodeAt}
use Rattle.rht_arena.specs.declared.new_node.NewNodeAt.TheVariants as at
use Rattle.rht_arena.proofs.TakingStays.{take_after-in}

-- the taking stays in this table
pub record TakeIsIn (g : Geometry) (next : TakeNodeModel × Next (Option ℕ)) : Type 0 where
  pub take_in : IsTakeIn g next.0
  pub node_in : IsNodeIn g next.1

pub take_stays : (g : Geometry) (take : TakeNodeModel) (word : ℕ) → IsTakeIn g take
    → TakeIsIn g (take_node_after take word)
take_stays g take word within =
    let here : IsTakeAtIn take.geometry take.at =
    subst (λ h. IsTakeAtIn h take.at) (sym within.geometry_same) within.at_in in
    let stays = take_after-in take word here in
    let same : (take_node_after take word).0.geometry ≡ g = stays.geometry_same ∙ within.geometry_same in
    record {
      take_in = record {
        geometry_same = same;
        at_in = subst (λ h. IsTakeAtIn h (take_node_after take word).0.at) same stays.range;
      };
      node_in = subst (λ h. IsNodeIn h (take_node_after take word).1) within.geometry_same stays.node;
    }

-- the state stays in this table, and a node that is answered is one of its nodes
pub record NewNodeStays (g : Geometry) (next : NewNodeAt × Next (Option ℕ)) : Type 0 where
  pub at_in : IsNewNodeAtIn g next.0
  pub node_in : IsNodeIn g next.1

module _ (g : Geometry) where
  node_taken-in : (take : TakeNodeModel) (next : Next (Option ℕ)) → TakeIsIn g (take, next)
      → NewNodeStays g (node_taken take next)
  node_taken-in take Go stays = record { at_in = stays.take_in; node_in = tt }
  node_taken-in take (Done None) stays = record { at_in = stays.take_in; node_in = tt }
  node_taken-in take (Done (Some node)) stays = record { at_in = stays.node_in; node_in = tt }

  pub new_node_stays_at : (at : NewNodeAt) (word : ℕ) → IsNewNodeAtIn g at
      → NewNodeStays g (new_node_after_at at word)
  new_node_stays_at (at.Taking take) word within =
      node_taken-in (take_node_after take word).0 (take_node_after take word).1
      (take_stays g take word within)
  new_node_stays_at (at.Key node) word within = record { at_in = within; node_in = tt }
  new_node_stays_at (at.Owner node) word within = record { at_in = within; node_in = tt }
  new_node_stays_at (at.ListLink node) word within = record { at_in = within; node_in = within }

-- and so does the machine
pub record NewNodeIsIn (g : Geometry) (next : NewNodeModel × Next (Option ℕ)) : Type 0 where
  pub new_in : IsNewNodeIn g next.0
  pub node_in : IsNodeIn g next.1

pub new_node_stays : (g : Geometry) (m : NewNodeModel) (word : ℕ) → IsNewNodeIn g m
    → NewNodeIsIn g (new_node_after m word)
new_node_stays g m word within =
    let stays = new_node_stays_at g m.at word within.at_in in
    record {
      new_in = record {
        geometry_same = within.geometry_same;
        key_in = within.key_in;
        owner_in = within.owner_in;
        at_in = stays.at_in;
      };
      node_in = stays.node_in;
    }
