-- On which words a rebind works, a case a state: those of the map of nodes, of slots, nodes and buckets, and the section word of its
-- caller. What it stores are words.
use Rattle.std.proofs.Common.{ℕ, ◌<◌, refl}
use Rattle.rht_words.specs.declared.env.Env.{Env}
use Rattle.rht_words.specs.Places.{Node, ChainLink, ListLink}
use Rattle.rht_words.specs.Planned.{IsPlannedIn}
use Rattle.rht_words.proofs.PlannedWords.{planned-at, planned_load, link_of-fits}
use Rattle.rht_arena.proofs.NodesPlanned.{planned_new_node, planned_give}
use Rattle.rht_chain.proofs.PiecesPlanned.{planned_relink, planned_unlock}
use Rattle.rht_grace.proofs.SectionsPlanned.{planned_enter, planned_leave}
use Rattle.rht_release.specs.Rebind.{plan_at, IsRebindAtIn}
use Rattle.rht_release.specs.declared.rebind.RebindAt.{RebindAt}
use Rattle.rht_release.specs.declared.rebind.RebindAt.TheVariants as at
use Rattle.rht_release.proofs.ListSearchStays.{planned_search}
use Rattle.rht_release.proofs.SeekStays.{planned_seek}

pub planned_rebind : (env : Env) (caller : ℕ) (state : RebindAt) → caller < 16 → IsRebindAtIn env state
    → IsPlannedIn env.geometry (plan_at env caller state)
planned_rebind env caller (at.Filling new) few within = planned_new_node env.geometry new within
planned_rebind env caller (at.Opening node) few within =
    planned_enter env.geometry caller (record { caller = caller }) (record { own = refl; within = few })
planned_rebind env caller (at.Seeking node seek) few within = planned_seek env.geometry seek within.seek_in
planned_rebind env caller (at.Searching node found search) few within =
    planned_search env.geometry search within.search_in
planned_rebind env caller (at.LinkBehind node found old before) few within =
    planned_load env.geometry (Node old ListLink) within.old_in tt
planned_rebind env caller (at.OwnListLink node found old before link) few within =
    planned-at env.geometry _ (Node node ListLink) within.at_old.node_in tt refl within.link_in
planned_rebind env caller (at.Swapping node found old before) few within =
    planned-at env.geometry _ (Node before ListLink) within.before_in tt refl
    (link_of-fits env.geometry node within.node_in)
planned_rebind env caller (at.ChainLink node found) few within =
    planned_load env.geometry (Node found.node ChainLink) within.found_in.node_in tt
planned_rebind env caller (at.Link node found link) few within =
    planned-at env.geometry _ (Node node ChainLink) within.node_in tt refl within.link_in
planned_rebind env caller (at.Replacing node found relink) few within =
    planned_relink env.geometry relink within.relink_in
planned_rebind env caller (at.Unlocking table unlock end) few within =
    planned_unlock env.geometry unlock within.unlock_in
planned_rebind env caller (at.Closing end) few within =
    planned_leave env.geometry caller (record { caller = caller }) (record { own = refl; within = few })
planned_rebind env caller (at.Giving give) few within = planned_give env.geometry give within
