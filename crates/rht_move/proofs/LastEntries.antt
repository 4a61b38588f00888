-- Whatever words it is told, the walk to a chain's last node stays at the table's nodes. It works on words of nodes.
use Rattle.std.proofs.Common.{ℕ, sym, subst}
use Rattle.std.specs.Prelude.{Option, Some, None}
use Rattle.rht_words.specs.declared.geometry.Geometry.{Geometry}
use Rattle.rht_words.specs.declared.machine.Next.{Next}
use Rattle.rht_words.specs.Links.{node_of}
use Rattle.rht_words.specs.Places.{Node, ChainLink, place_of}
use Rattle.rht_words.specs.Planned.{IsPlannedIn}
use Rattle.rht_words.specs.declared.op.Op.TheVariants.{Load}
use Rattle.rht_words.proofs.LinksRead.{node_of-in}
use Rattle.rht_words.proofs.PlannedWords.{planned_load}
use Rattle.rht_chain.specs.LockedWalk.{IsNodeOrNone}
use Rattle.rht_move.specs.LastEntry.{LastEntryModel, last_entry_plan, last_entry_after, followed, IsLastEntryIn, IsEntryEndIn}
use Rattle.rht_move.specs.declared.last_entry.Entry.{Entry}

-- the walk stays at nodes of this table, and so does what it has found
pub record LastEntryStays (g : Geometry) (next : LastEntryModel × Next Entry) : Type 0 where
  pub walk_in : IsLastEntryIn g next.0
  pub end_in : IsEntryEndIn g next.1

module _ (g : Geometry) where
  followed-in : (m : LastEntryModel) (next : Option ℕ) → IsLastEntryIn g m → IsNodeOrNone g next
      → LastEntryStays g (followed m next)
  followed-in m None within next_in =
      record { walk_in = within; end_in = record { node_in = within.node_in; before_in = within.before_in } }
  followed-in m (Some next) within next_in = record {
    walk_in = record { geometry_same = within.geometry_same; node_in = next_in; before_in = within.node_in };
    end_in = tt;
  }

  pub last_entry_stays : (m : LastEntryModel) (word : ℕ) → IsLastEntryIn g m
      → LastEntryStays g (last_entry_after m word)
  last_entry_stays m word within =
      subst (λ (h : Geometry). LastEntryStays g (followed m (node_of h.nodes word))) (sym within.geometry_same)
      (followed-in m (node_of g.nodes word) within (node_of-in g word))

  -- what it performs is on a word of a node
  pub planned_last_entry : (m : LastEntryModel) → IsLastEntryIn g m → IsPlannedIn g (last_entry_plan m)
  planned_last_entry m within =
      subst (λ (h : Geometry). IsPlannedIn g (Load (place_of h (Node m.node ChainLink)))) (sym within.geometry_same)
      (planned_load g (Node m.node ChainLink) within.node_in tt)
