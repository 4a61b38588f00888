-- On which words a bind works, a case a state: those of the maps of nodes and pages, of slots, nodes, entries and buckets, the
-- count of ports, the next serial and the section word of its caller. What it stores are words.
use Rattle.std.proofs.Common.{ℕ, ◌<◌, refl, arith}
use Rattle.rht_words.specs.declared.env.Env.{Env}
use Rattle.rht_words.specs.Places.{CurrentTable, PortCount, Slot, FutureWord, Node, ChainLink, OwnerWord, ListLink}
use Rattle.rht_words.specs.Planned.{IsPlannedIn}
use Rattle.rht_words.proofs.PlannedWords.{planned-at, planned_load, head_of-fits, link_of-fits}
use Rattle.rht_grace.proofs.SectionsPlanned.{planned_enter, planned_leave}
use Rattle.rht_nest.proofs.Locates.{planned_locate}
use Rattle.rht_nest.proofs.Grows.{planned_grow}
use Rattle.rht_nest.proofs.MakesPlanned.{planned_make, planned_unmake}
use Rattle.rht_arena.proofs.NodesPlanned.{planned_new_node, planned_give}
use Rattle.rht_chain.proofs.PiecesPlanned.{planned_probe, planned_relink, planned_unlock}
use Rattle.rht_bind.specs.Bind.{plan_at, IsBindAtIn}
use Rattle.rht_bind.specs.declared.bind.BindAt.{BindAt}
use Rattle.rht_bind.specs.declared.bind.BindAt.TheVariants as at

pub planned_bind : (env : Env) (caller : ℕ) (state : BindAt) → caller < 16 → IsBindAtIn env state
    → IsPlannedIn env.geometry (plan_at env caller state)
planned_bind env caller (at.Filling new) few within = planned_new_node env.geometry new within
planned_bind env caller (at.Opening attempt) few within =
    planned_enter env.geometry caller (record { caller = caller }) (record { own = refl; within = few })
planned_bind env caller (at.CurrentTable attempt) few within = planned_load env.geometry CurrentTable tt tt
planned_bind env caller (at.Locating attempt locate) few within = planned_locate env.geometry locate within.locate_in
planned_bind env caller (at.Entering attempt table shape place grow) few within = planned_grow env.geometry grow within.grow_in
planned_bind env caller (at.Probing attempt table shape probe) few within = planned_probe env.geometry probe within.probe_in
planned_bind env caller (at.FoundOwner claimed found) few within =
    planned_load env.geometry (Node found OwnerWord) within.found_in tt
planned_bind env caller (at.ListLink list) few within =
    planned-at env.geometry _ (Node list.claimed.attempt.node ListLink) within.claimed_in.node_in tt refl
    (link_of-fits env.geometry list.first within.first_in)
planned_bind env caller (at.ChainLink list) few within =
    planned_load env.geometry (Node list.first ChainLink) within.first_in tt
planned_bind env caller (at.LinkBehind list link) few within =
    planned-at env.geometry _ (Node list.claimed.attempt.node ChainLink) within.list_in.claimed_in.node_in tt refl
    within.link_in
planned_bind env caller (at.Replacing list relink) few within = planned_relink env.geometry relink within.relink_in
planned_bind env caller (at.Future claimed length) few within =
    planned_load env.geometry (Slot claimed.table FutureWord) (within.table_in, tt) tt
planned_bind env caller (at.Count claimed) few within = planned_load env.geometry PortCount tt tt
planned_bind env caller (at.Link claimed) few within =
    planned-at env.geometry _ (Node claimed.attempt.node ChainLink) within.node_in tt refl
    (head_of-fits claimed.bucket.place claimed.bucket.word within.bucket_in.word_in)
planned_bind env caller (at.Raise claimed) few within = planned-at env.geometry _ PortCount tt tt refl (omega arith)
planned_bind env caller (at.Publish node table relink kick) few within = planned_relink env.geometry relink within.relink_in
planned_bind env caller (at.Unlocking attempt table unlock next) few within = planned_unlock env.geometry unlock within.unlock_in
planned_bind env caller (at.UnlockingFull growing unlock) few within = planned_unlock env.geometry unlock within.unlock_in
planned_bind env caller (at.Root growing) few within = planned_load env.geometry CurrentTable tt tt
planned_bind env caller (at.GrowthCount growing root) few within = planned_load env.geometry PortCount tt tt
planned_bind env caller (at.Making growing size make) few within = planned_make env.geometry make within.make_in
planned_bind env caller (at.FutureAgain growing refusal) few within =
    planned_load env.geometry (Slot growing.table FutureWord) (within.growing_in.table_in, tt) tt
planned_bind env caller (at.Attaching growing slot shape) few within =
    planned-at env.geometry _ (Slot growing.table FutureWord) (within.growing_in.table_in, tt) tt refl
    (omega (arith, within.slot_in))
planned_bind env caller (at.Unmaking attempt unmake answer) few within = planned_unmake env.geometry unmake within.unmake_in
planned_bind env caller (at.Closing ending) few within =
    planned_leave env.geometry caller (record { caller = caller }) (record { own = refl; within = few })
planned_bind env caller (at.Giving give reply) few within = planned_give env.geometry give within
