-- What whoever makes a new node has seen: while it looks for a free one, that each node that it has come past
-- was taken. So where it finds none, each was.
use Rattle.std.proofs.Common.{◌≡◌, ℕ, List, [], ◌∷◌, ◌++◌, map, sym, ap, ◌∙◌, subst}
use Rattle.std.specs.Prelude.{Option, Some, None}
use Rattle.std.proofs.lemmas.List.{map-append}
use Rattle.rht_words.specs.Machines.{Performed}
use Rattle.rht_words.specs.declared.env.Env.{Env}
use Rattle.rht_words.specs.declared.geometry.Geometry.{Geometry}
use Rattle.rht_words.specs.declared.machine.Next.{Next}
use Rattle.rht_words.specs.declared.machine.Next.TheVariants.{Go, Done}
use Rattle.rht_arena.specs.TakeNode.{TakeNodeModel, take_node_after, IsTakeAtIn, IsTakeIn}
use Rattle.rht_arena.specs.NewNode.{NewNodeModel, new_node_plan, new_node_plan_at, new_node_after_at, node_taken, IsNewNodeAtIn, IsNewNodeIn}
use Rattle.rht_arena.specs.declared.new_node.NewNodeAt.{NewNodeAt}
use Rattle.rht_arena.specs.declared.new_node.NewNodeAt.TheVariants as news
use Rattle.rht_arena.proofs.NodesSeen.{first_unseen, SawAllBelow, SawPassed, SawSoFar, take_after-saw}
use Rattle.rht_core.specs.Traces.{Did, performed_of}

module _ (env : Env) where
  -- while it looks for a node; later that is of no use
  abbrev pub SawNew : NewNodeAt → List Did → Type 0
  SawNew (news.Taking take) steps =
      SawPassed env.geometry take.start (first_unseen take.at) (map performed_of steps)
  SawNew (news.Key node) steps = Unit {0}
  SawNew (news.Owner node) steps = Unit {0}
  SawNew (news.ListLink node) steps = Unit {0}

  -- what whoever makes a new node has seen after an operation
  abbrev pub SawMade : List Did → NewNodeAt × Next (Option ℕ) → Type 0
  SawMade all (state, Go) = SawNew state all
  SawMade all (state, Done None) = SawAllBelow env.geometry env.geometry.nodes (map performed_of all)
  SawMade all (state, Done (Some node)) = Unit {0}

  taking-saw : (take : TakeNodeModel) (next : Next (Option ℕ)) (all : List Did)
      → SawSoFar env.geometry (map performed_of all) (take, next) → SawMade all (node_taken take next)
  taking-saw take Go all saw = saw
  taking-saw take (Done None) all saw = saw
  taking-saw take (Done (Some node)) all saw = tt

  pub new-saw : (new : NewNodeModel) (state : NewNodeAt) (steps : List Did) (did : Did) → new.at ≡ state
      → IsNewNodeIn env.geometry new → did.op ≡ new_node_plan new → SawNew state steps
      → SawMade (steps ++ did ∷ []) (new_node_after_at state did.old)
  new-saw new (news.Taking take) steps did is within plan saw =
      let all = steps ++ did ∷ [] in
      let fits : IsTakeIn env.geometry take = subst (IsNewNodeAtIn env.geometry) is within.at_in in
      let before = map performed_of steps in
      let planned = plan ∙ ap (new_node_plan_at new.geometry new.key new.owner) is in
      let range = subst (λ (h : Geometry). IsTakeAtIn h take.at) (sym fits.geometry_same) fits.at_in in
      let saw_below = subst (λ (h : Geometry). SawPassed h take.start (first_unseen take.at) before)
      (sym fits.geometry_same) saw in
      let after = take_after-saw take take.at before (performed_of did) planned range saw_below in
      let here =
      subst (λ (h : Geometry). SawSoFar h (before ++ performed_of did ∷ []) (take_node_after take did.old))
      fits.geometry_same after in
      taking-saw (take_node_after take did.old).0 (take_node_after take did.old).1 all
      (subst (λ (list : List Performed). SawSoFar env.geometry list (take_node_after take did.old))
      (sym (map-append performed_of steps (did ∷ []))) here)
  new-saw new _ steps did is within plan saw = tt
