-- On which words a look-up works, a case a state: those of slots, nodes and buckets, and the section word of its caller.
use Rattle.std.proofs.Common.{ℕ, ◌<◌, refl, arith}
use Rattle.rht_words.specs.declared.env.Env.{Env}
use Rattle.rht_words.specs.Places.{CurrentTable, Slot, FutureWord, Node, KeyWord, ChainLink, OwnerWord}
use Rattle.rht_words.specs.Planned.{IsPlannedIn}
use Rattle.rht_words.proofs.PlannedWords.{planned_load, planned_bucket}
use Rattle.rht_nest.proofs.Reaches.{planned_reach}
use Rattle.rht_grace.proofs.SectionsPlanned.{planned_enter, planned_leave}
use Rattle.rht_find.specs.Find.{plan_at, IsFindAtIn}
use Rattle.rht_find.specs.declared.find.FindAt.{FindAt}
use Rattle.rht_find.specs.declared.find.FindAt.TheVariants as at

pub planned_find : (env : Env) (caller : ℕ) (state : FindAt) → caller < 16 → IsFindAtIn env state
    → IsPlannedIn env.geometry (plan_at env caller state)
planned_find env caller at.Opening few within =
    planned_enter env.geometry caller (record { caller = caller }) (record { own = refl; within = few })
planned_find env caller at.CurrentTable few within = planned_load env.geometry CurrentTable tt tt
planned_find env caller (at.Locating reach) few within = planned_reach env.geometry reach within
planned_find env caller (at.Heading head) few within = planned_bucket env.geometry _ within.place_in (omega arith)
planned_find env caller (at.Key head node visited) few within =
    planned_load env.geometry (Node node KeyWord) within.node_in tt
planned_find env caller (at.Link head node visited) few within =
    planned_load env.geometry (Node node ChainLink) within.node_in tt
planned_find env caller (at.Future table) few within =
    planned_load env.geometry (Slot table FutureWord) (within, tt) tt
planned_find env caller (at.Owner node) few within = planned_load env.geometry (Node node OwnerWord) within tt
planned_find env caller (at.Closing reply) few within =
    planned_leave env.geometry caller (record { caller = caller }) (record { own = refl; within = few })
