-- On which words the taking, filling and giving back of nodes work: those of the map of nodes, and those of the node.
use Rattle.std.proofs.Common.{ℕ, ◌/◌, ◌%◌, refl, sym, subst, arith}
use Rattle.rht_words.specs.declared.geometry.Geometry.{Geometry}
use Rattle.rht_words.specs.Maps.{bit_of}
use Rattle.rht_words.specs.Places.{NodeMap, Node, KeyWord, OwnerWord, ListLink}
use Rattle.rht_words.specs.Planned.{IsWord, IsPlannedIn}
use Rattle.rht_words.proofs.PlannedWords.{planned-at, planned_load, bit_of-fits, bit_not-fits}
use Rattle.rht_arena.specs.TakeNode.{TakeNodeModel, take_node_plan, plan_at, IsTakeAtIn, IsTakeIn}
use Rattle.rht_arena.specs.declared.take_node.TakeNodeAt.{TakeNodeAt}
use Rattle.rht_arena.specs.declared.take_node.TakeNodeAt.TheVariants.{MapWord, Claim}
use Rattle.rht_arena.specs.GiveNode.{GiveNodeModel, give_node_plan, IsGiveIn}
use Rattle.rht_arena.specs.NewNode.{NewNodeModel, new_node_plan, new_node_plan_at, IsNewNodeAtIn, IsNewNodeIn}
use Rattle.rht_arena.specs.declared.new_node.NewNodeAt.{NewNodeAt}
use Rattle.rht_arena.specs.declared.new_node.NewNodeAt.TheVariants as at

module _ (g : Geometry) where
  planned_take_at : (state : TakeNodeAt) → IsTakeAtIn g state → IsPlannedIn g (plan_at g state)
  planned_take_at (MapWord index) range = planned_load g (NodeMap index) range tt
  planned_take_at (Claim index bit) range =
      let below = range.below in
      planned-at g _ (NodeMap index) (omega arith) tt refl (bit_not-fits (bit_of bit))

  -- what the taking of a node performs is on a word of the map of nodes
  pub planned_take : (take : TakeNodeModel) → IsTakeIn g take → IsPlannedIn g (take_node_plan take)
  planned_take take within =
      subst (λ (h : Geometry). IsPlannedIn g (plan_at h take.at)) (sym within.geometry_same)
      (planned_take_at take.at within.at_in)

  -- and so is what the giving back performs
  pub planned_give : (give : GiveNodeModel) → IsGiveIn g give → IsPlannedIn g (give_node_plan give)
  planned_give give within =
      let below = within.node_in in
      subst (λ (h : Geometry). IsPlannedIn g (give_node_plan
      (record { geometry = h; node = give.node }))) (sym within.geometry_same)
      (planned-at g _ (NodeMap (give.node / 64)) (omega arith) tt refl
      (bit_of-fits (give.node % 64) (omega arith)))

  pub planned_new_node_at : (key owner : ℕ) (at : NewNodeAt) → IsWord key → IsWord owner → IsNewNodeAtIn g at
      → IsPlannedIn g (new_node_plan_at g key owner at)
  planned_new_node_at key owner (at.Taking take) key_in owner_in within = planned_take take within
  planned_new_node_at key owner (at.Key node) key_in owner_in within =
      planned-at g _ (Node node KeyWord) within tt refl key_in
  planned_new_node_at key owner (at.Owner node) key_in owner_in within =
      planned-at g _ (Node node OwnerWord) within tt refl owner_in
  planned_new_node_at key owner (at.ListLink node) key_in owner_in within =
      planned-at g _ (Node node ListLink) within tt refl (omega arith)

  -- a new node's words are stored in it
  pub planned_new_node : (m : NewNodeModel) → IsNewNodeIn g m → IsPlannedIn g (new_node_plan m)
  planned_new_node m within =
      subst (λ (h : Geometry). IsPlannedIn g (new_node_plan_at h m.key m.owner m.at))
      (sym within.geometry_same)
      (planned_new_node_at m.key m.owner m.at within.key_in within.owner_in within.at_in)
