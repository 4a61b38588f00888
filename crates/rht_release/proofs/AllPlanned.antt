-- On which words a listing works, a case a state: those of slots, nodes and buckets, and the section word of its caller. What it stores is
-- a word.
use Rattle.std.proofs.Common.{ℕ, ◌<◌, refl}
use Rattle.rht_words.specs.declared.env.Env.{Env}
use Rattle.rht_words.specs.Places.{Node, OwnerWord, ListLink}
use Rattle.rht_words.specs.Planned.{IsPlannedIn}
use Rattle.rht_words.proofs.PlannedWords.{planned_load}
use Rattle.rht_chain.proofs.PiecesPlanned.{planned_unlock}
use Rattle.rht_grace.proofs.SectionsPlanned.{planned_enter, planned_leave}
use Rattle.rht_release.specs.All.{plan_at, IsAllAtIn}
use Rattle.rht_release.specs.declared.all.AllAt.{AllAt}
use Rattle.rht_release.specs.declared.all.AllAt.TheVariants as at
use Rattle.rht_release.proofs.SeekStays.{planned_seek}

pub planned_all : (env : Env) (caller : ℕ) (state : AllAt) → caller < 16 → IsAllAtIn env state
    → IsPlannedIn env.geometry (plan_at env caller state)
planned_all env caller at.Opening few within =
    planned_enter env.geometry caller (record { caller = caller }) (record { own = refl; within = few })
planned_all env caller (at.Seeking seek) few within = planned_seek env.geometry seek within
planned_all env caller (at.Owner found node) few within =
    planned_load env.geometry (Node node OwnerWord) within.node_in tt
planned_all env caller (at.ListLink found node) few within =
    planned_load env.geometry (Node node ListLink) within.node_in tt
planned_all env caller (at.Unlocking table unlock) few within = planned_unlock env.geometry unlock within.unlock_in
planned_all env caller at.Closing few within =
    planned_leave env.geometry caller (record { caller = caller }) (record { own = refl; within = few })
