-- What a rebind has seen, while it makes a new node and for want of one; of its other replies nothing is
-- shown.
use Rattle.std.proofs.Common.{ℕ, List, [], ◌∷◌, ◌++◌, map, refl}
use Rattle.std.specs.Prelude.{Option, Some, None}
use Rattle.rht_words.specs.declared.env.Env.{Env}
use Rattle.rht_words.specs.declared.machine.Next.{Next}
use Rattle.rht_words.specs.declared.machine.Next.TheVariants.{Go, Done}
use Rattle.rht_model.specs.declared.history.Reply.{Reply}
use Rattle.rht_model.specs.declared.history.Reply.TheVariants.{NoNode}
use Rattle.rht_arena.specs.NewNode.{NewNodeModel, new_node_after_at}
use Rattle.rht_arena.specs.declared.new_node.NewNodeAt.{NewNodeAt}
use Rattle.rht_chain.specs.Relink.{RelinkModel, relink_after}
use Rattle.rht_arena.proofs.NodesSeen.{SawAllBelow}
use Rattle.rht_bind.specs.Growing.{made}
use Rattle.rht_release.specs.Seek.{SeekModel, seek_after}
use Rattle.rht_release.specs.ListSearch.{search_after}
use Rattle.rht_release.specs.declared.list_search.ListPlace.{ListPlace}
use Rattle.rht_release.specs.declared.list_search.ListSearch.{ListSearch}
use Rattle.rht_core.specs.Jobs.{rebinds}
use Rattle.rht_core.specs.Traces.{Did, performed_of}
use Rattle.rht_release.specs.declared.found_port.FoundPort.{FoundPort}
use Rattle.rht_release.specs.Rebind as rebind
use Rattle.rht_release.specs.declared.rebind.RebindAt.{RebindAt}
use Rattle.rht_release.specs.declared.rebind.RebindAt.TheVariants as rebinds_at
use Rattle.rht_release.specs.declared.rebind.RebindEnd.{RebindEnd}
use Rattle.rht_release.specs.declared.rebind.RebindEnd.TheVariants as ends
use Rattle.rht_words.specs.Machines.{GoesOrEnds}
use Rattle.rht_core.proofs.Tracing.TracedJobs.{hard, Performs}
use Rattle.rht_core.proofs.Reasons.NewNodesSeen.{SawNew, SawMade, new-saw}

module _ (env : Env) where
  -- what the operations of a rebind saw for want of a node
  abbrev pub SawForRebind : Reply → List Did → Type 0
  SawForRebind NoNode steps = SawAllBelow env.geometry env.geometry.nodes (map performed_of steps)
  SawForRebind _ steps = Unit {0}

  -- of a rebind only what it has seen while it makes a new node
  abbrev pub SawAtRebind : RebindAt → List Did → Type 0
  SawAtRebind (rebinds_at.Filling new) steps = SawNew env new.at steps
  SawAtRebind (rebinds_at.Opening node) steps = Unit {0}
  SawAtRebind (rebinds_at.Seeking node seek) steps = Unit {0}
  SawAtRebind (rebinds_at.Searching node found search) steps = Unit {0}
  SawAtRebind (rebinds_at.LinkBehind node found old before) steps = Unit {0}
  SawAtRebind (rebinds_at.OwnListLink node found old before link) steps = Unit {0}
  SawAtRebind (rebinds_at.Swapping node found old before) steps = Unit {0}
  SawAtRebind (rebinds_at.ChainLink node found) steps = Unit {0}
  SawAtRebind (rebinds_at.Link node found link) steps = Unit {0}
  SawAtRebind (rebinds_at.Replacing node found relink) steps = Unit {0}
  SawAtRebind (rebinds_at.Unlocking table unlock end) steps = Unit {0}
  SawAtRebind (rebinds_at.Closing end) steps = Unit {0}
  SawAtRebind (rebinds_at.Giving give) steps = Unit {0}

  abbrev SawNextRebind : List Did → RebindAt × Next (Reply × Option ℕ) → Type 0
  SawNextRebind all next = GoesOrEnds (λ state. SawAtRebind state all) (λ end. SawForRebind end.0 all) next

  rebind_made-saw : (new : NewNodeModel) (r : NewNodeAt × Next (Option ℕ)) (all : List Did)
      → SawMade env all r
      → SawNextRebind all (rebind.filled (record new { at = r.0 }) r.1)
  rebind_made-saw new (state, Go) all saw = saw
  rebind_made-saw new (state, Done None) all saw = saw
  rebind_made-saw new (state, Done (Some node)) all saw = tt

  rebind_sought-saw : (node : ℕ) (seek : SeekModel) (next : Next (Option FoundPort)) (all : List Did)
      → SawAtRebind (rebind.sought node seek next) all
  rebind_sought-saw node seek Go all = tt
  rebind_sought-saw node seek (Done None) all = tt
  rebind_sought-saw node seek (Done (Some found)) all = tt

  rebind_searched-saw : (node : ℕ) (found : FoundPort) (search : ListSearch) (next : Next (Option ListPlace)) (all : List Did)
      → SawAtRebind (rebind.searched node found search next) all
  rebind_searched-saw node found search Go all = tt
  rebind_searched-saw node found search (Done None) all = tt
  rebind_searched-saw node found search (Done (Some place)) all = tt

  rebind_swapped-saw : (node : ℕ) (found : FoundPort) (old : ℕ) (before : Option ℕ) (all : List Did)
      → SawAtRebind (rebind.swap_or_chain node found old before) all
  rebind_swapped-saw node found old None all = tt
  rebind_swapped-saw node found old (Some before) all = tt

  rebind_replaced-saw : (node : ℕ) (found : FoundPort) (relink : RelinkModel) (next : Next (Unit {0}))
      (all : List Did)
      → SawAtRebind (rebind.replaced node found relink next) all
  rebind_replaced-saw node found relink Go all = tt
  rebind_replaced-saw node found relink (Done done) all = tt

  rebind_closed-saw : (end : RebindEnd) (all : List Did) → SawNextRebind all (rebind.closed env.geometry end)
  rebind_closed-saw (ends.Rebound removed) all = tt
  rebind_closed-saw (ends.Absent node) all = tt

  pub rebind-saw : (mix : ℕ → ℕ → ℕ → ℕ) (port owner new : ℕ) (state : RebindAt) (steps : List Did)
      (did : Did)
      → Performs mix env (rebinds port owner new state) did → SawAtRebind state steps
      → SawNextRebind (steps ++ did ∷ []) (rebind.after_at mix env port owner state did.old)
  rebind-saw mix port owner new (rebinds_at.Filling made) steps did does saw =
      rebind_made-saw made (new_node_after_at made.at did.old) (steps ++ did ∷ [])
      (new-saw env made made.at steps did refl does.within.at_in (hard mix env refl does) saw)
  rebind-saw mix port owner new (rebinds_at.Seeking node seek) steps did does saw =
      rebind_sought-saw node (seek_after mix port seek did.old).0 (seek_after mix port seek did.old).1
      (steps ++ did ∷ [])
  rebind-saw mix port owner new (rebinds_at.Searching node found search) steps did does saw =
      let next = search_after env.geometry owner search did.old in rebind_searched-saw node found next.0 next.1 (steps ++ did ∷ [])
  rebind-saw mix port owner new (rebinds_at.OwnListLink node found old before link) steps did does saw =
      rebind_swapped-saw node found old before (steps ++ did ∷ [])
  rebind-saw mix port owner new (rebinds_at.Replacing node found relink) steps did does saw =
      rebind_replaced-saw node found (relink_after relink).0 (relink_after relink).1 (steps ++ did ∷ [])
  rebind-saw mix port owner new (rebinds_at.Closing end) steps did does saw = rebind_closed-saw end (steps ++ did ∷ [])
  rebind-saw mix port owner new _ steps did does saw = tt
