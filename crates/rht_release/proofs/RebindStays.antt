-- Whatever words it is told, a rebind stays in its table: a case a state.
-- Links and the node map are read totally, so what they name is there or is none.
use Rattle.std.proofs.Common.{ℕ, ◌<◌, refl}
use Rattle.std.specs.Prelude.{Option, Some, None}
use Rattle.rht_words.specs.declared.env.Env.{Env}
use Rattle.rht_words.specs.declared.geometry.Geometry.{Geometry}
use Rattle.rht_words.specs.declared.machine.Next.{Next}
use Rattle.rht_words.specs.declared.machine.Next.TheVariants.{Go, Done}
use Rattle.rht_words.specs.Links.{link_of}
use Rattle.rht_words.specs.Planned.{IsWord}
use Rattle.rht_words.proofs.PlannedWords.{link_of-fits}
use Rattle.rht_arena.specs.NewNode.{NewNodeModel, new_node_after}
use Rattle.rht_arena.proofs.NewNodesStay.{NewNodeIsIn, new_node_stays}
use Rattle.rht_chain.specs.Relink.{RelinkModel, relink_after}
use Rattle.rht_chain.proofs.PiecesStay.{relink_stays}
use Rattle.rht_release.specs.Seek.{SeekModel, seek_after}
use Rattle.rht_release.specs.FoundPort.{IsFoundPortIn}
use Rattle.rht_release.specs.ListSearch.{search_after}
use Rattle.rht_release.specs.Rebind.{after_at, filled, sought, searched, swap_or_chain, unlocking, replaced, closed, IsAtOldIn, IsReplacingIn, IsRebindEndIn, IsRebindAtIn}
use Rattle.rht_release.specs.declared.found_port.FoundPort.{FoundPort}
use Rattle.rht_release.specs.declared.list_search.ListPlace.{ListPlace}
use Rattle.rht_release.specs.declared.list_search.ListSearch.{ListSearch}
use Rattle.rht_release.specs.declared.rebind.RebindEnd.{RebindEnd}
use Rattle.rht_release.specs.declared.rebind.RebindEnd.TheVariants as ends
use Rattle.rht_release.specs.declared.rebind.RebindAt.{RebindAt}
use Rattle.rht_release.specs.declared.rebind.RebindAt.TheVariants as at
use Rattle.rht_release.proofs.FoundPortsStay.{relink_of-in, unlock_of-in}
use Rattle.rht_release.proofs.ListSearchStays.{SearchStays, search_stays}
use Rattle.rht_release.proofs.SeekStays.{SeekIsIn, seek_stays}

module _ (mix : ℕ → ℕ → ℕ → ℕ) (env : Env) (port owner : ℕ) where
  abbrev g : Geometry
  g = env.geometry

  filled-in : (new : NewNodeModel) (next : Next (Option ℕ)) → NewNodeIsIn g (new, next)
      → IsRebindAtIn env (filled new next).0
  filled-in new Go stays = stays.new_in
  filled-in new (Done None) stays = stays.new_in
  filled-in new (Done (Some node)) stays = stays.node_in

  sought-in : (node : ℕ) (seek : SeekModel) (next : Next (Option FoundPort)) → node < g.nodes
      → SeekIsIn g (seek, next) → IsRebindAtIn env (sought node seek next)
  sought-in node seek Go node_in stays = record { node_in = node_in; seek_in = stays.seek_in }
  sought-in node seek (Done None) node_in stays = node_in
  sought-in node seek (Done (Some found)) node_in stays = record {
    node_in = node_in;
    found_in = stays.end_in;
    search_in = record { node_in = stays.end_in.node_in; before_in = tt };
  }

  unlocking-in : (found : FoundPort) (end : RebindEnd) → IsFoundPortIn g found → IsRebindEndIn g end
      → IsRebindAtIn env (unlocking found end)
  unlocking-in found end found_in end_in =
      record { table_in = found_in.table_in; unlock_in = unlock_of-in g found found_in; end_in = end_in }

  searched-in : (node : ℕ) (found : FoundPort) (search : ListSearch) (next : Next (Option ListPlace)) → node < g.nodes
      → IsFoundPortIn g found → SearchStays g (search, next) → IsRebindAtIn env (searched node found search next)
  searched-in node found search Go node_in found_in stays =
      record { node_in = node_in; found_in = found_in; search_in = stays.search_in }
  searched-in node found search (Done None) node_in found_in stays =
      unlocking-in found (ends.Absent node) found_in node_in
  searched-in node found search (Done (Some place)) node_in found_in stays = record {
    node_in = node_in;
    found_in = found_in;
    old_in = stays.end_in.node_in;
    before_in = stays.end_in.before_in;
  }

  swap_or_chain-in : (node : ℕ) (found : FoundPort) (old : ℕ) (before : Option ℕ) → IsAtOldIn g node found old before
      → IsRebindAtIn env (swap_or_chain node found old before)
  swap_or_chain-in node found old None within = record { node_in = within.node_in; found_in = within.found_in }
  swap_or_chain-in node found old (Some before) within = within

  replaced-in : (node : ℕ) (found : FoundPort) (relink : RelinkModel) (next : Next (Unit {0}))
      → IsReplacingIn g node found relink → IsRebindAtIn env (replaced node found relink next)
  replaced-in node found relink Go within = within
  replaced-in node found relink (Done done) within = within.found_in.node_in

  closed-in : (end : RebindEnd) → IsRebindEndIn g end → IsRebindAtIn env (closed g end).0
  closed-in (ends.Rebound removed) within = within
  closed-in (ends.Absent node) within = record { geometry_same = refl; node_in = within }

  pub rebind_stays : (state : RebindAt) (word : ℕ) → IsRebindAtIn env state → IsWord word
      → IsRebindAtIn env (after_at mix env port owner state word).0
  rebind_stays (at.Filling new) word within told =
      filled-in (new_node_after new word).0 (new_node_after new word).1 (new_node_stays g new word within)
  rebind_stays (at.Opening node) word within told =
      record { node_in = within; seek_in = record { geometry_same = refl; at_in = tt } }
  rebind_stays (at.Seeking node seek) word within told =
      sought-in node (seek_after mix port seek word).0 (seek_after mix port seek word).1 within.node_in
      (seek_stays g mix port seek word within.seek_in told)
  rebind_stays (at.Searching node found search) word within told =
      searched-in node found (search_after g owner search word).0 (search_after g owner search word).1
      within.node_in within.found_in (search_stays g owner search word within.search_in)
  rebind_stays (at.LinkBehind node found old before) word within told =
      record { at_old = within; link_in = told }
  rebind_stays (at.OwnListLink node found old before link) word within told =
      swap_or_chain-in node found old before within.at_old
  rebind_stays (at.Swapping node found old before) word within told =
      unlocking-in found (ends.Rebound old) within.found_in within.old_in
  rebind_stays (at.ChainLink node found) word within told =
      record { node_in = within.node_in; found_in = within.found_in; link_in = told }
  rebind_stays (at.Link node found link) word within told = record {
    node_in = within.node_in;
    found_in = within.found_in;
    relink_in = relink_of-in g found within.found_in (link_of node) (link_of-fits g node within.node_in);
  }
  rebind_stays (at.Replacing node found relink) word within told =
      replaced-in node found (relink_after relink).0 (relink_after relink).1
      record {
        node_in = within.node_in;
        found_in = within.found_in;
        relink_in = relink_stays g relink within.relink_in;
      }
  rebind_stays (at.Unlocking table unlock end) word within told = within.end_in
  rebind_stays (at.Closing end) word within told = closed-in end within
  rebind_stays (at.Giving give) word within told = within
