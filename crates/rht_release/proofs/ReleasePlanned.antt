-- On which words a release works, a case a state: those of slots, nodes and buckets, the count of ports, and the section word of its
-- caller. What it stores are words.
use Rattle.std.proofs.Common.{ℕ, ◌<◌, refl, arith}
use Rattle.rht_words.specs.declared.env.Env.{Env}
use Rattle.rht_words.specs.Places.{PortCount, Node, ChainLink, ListLink}
use Rattle.rht_words.specs.Planned.{IsPlannedIn}
use Rattle.rht_words.proofs.PlannedWords.{planned-at, planned_load}
use Rattle.rht_chain.proofs.PiecesPlanned.{planned_relink, planned_unlock}
use Rattle.rht_grace.proofs.SectionsPlanned.{planned_enter, planned_leave}
use Rattle.rht_release.specs.Release.{plan_at, IsReleaseAtIn}
use Rattle.rht_release.specs.declared.release.ReleaseAt.{ReleaseAt}
use Rattle.rht_release.specs.declared.release.ReleaseAt.TheVariants as at
use Rattle.rht_release.proofs.ListSearchStays.{planned_search}
use Rattle.rht_release.proofs.SeekStays.{planned_seek}

pub planned_release : (env : Env) (caller : ℕ) (state : ReleaseAt) → caller < 16 → IsReleaseAtIn env state
    → IsPlannedIn env.geometry (plan_at env caller state)
planned_release env caller at.Opening few within =
    planned_enter env.geometry caller (record { caller = caller }) (record { own = refl; within = few })
planned_release env caller (at.Seeking seek) few within = planned_seek env.geometry seek within
planned_release env caller (at.Searching found search) few within =
    planned_search env.geometry search within.search_in
planned_release env caller (at.LinkBehind found node before) few within =
    planned_load env.geometry (Node node ListLink) within.node_in tt
planned_release env caller (at.CuttingOut found node before link) few within =
    planned-at env.geometry _ (Node before ListLink) within.before_in tt refl within.link_in
planned_release env caller (at.ChainLink found second) few within =
    planned_load env.geometry (Node found.node ChainLink) within.found_in.node_in tt
planned_release env caller (at.SecondLink found second link) few within =
    planned-at env.geometry _ (Node second ChainLink) within.second_in tt refl within.link_in
planned_release env caller (at.Promoting found relink) few within = planned_relink env.geometry relink within.relink_in
planned_release env caller (at.Unlinking found relink) few within = planned_relink env.geometry relink within.relink_in
planned_release env caller (at.Lowering node shape) few within =
    planned-at env.geometry _ PortCount tt tt refl (omega arith)
planned_release env caller (at.Unlocking table unlock removed) few within =
    planned_unlock env.geometry unlock within.unlock_in
planned_release env caller (at.Closing reply removed) few within =
    planned_leave env.geometry caller (record { caller = caller }) (record { own = refl; within = few })
