-- On which words the pieces work: a lock, an unlocking and a relinking on their bucket's, and a walk and a relinking on those of
-- nodes. None of them works on the word of the enrolled callers, and what they store are words.
use Rattle.std.proofs.Common.{ℕ, refl, sym, subst, arith}
use Rattle.std.specs.Prelude.{Option}
use Rattle.rht_words.specs.declared.geometry.Geometry.{Geometry}
use Rattle.rht_words.specs.Places.{Node, ChainLink, KeyWord, IsBucketPlace}
use Rattle.rht_words.specs.Planned.{IsPlannedIn}
use Rattle.rht_words.proofs.PlannedWords.{planned-at, planned_load, planned_bucket}
use Rattle.rht_chain.specs.Lock.{LockModel, lock_plan, lock_plan_at, IsEven, IsLockWord, IsLockIn}
use Rattle.rht_chain.specs.declared.lock.LockAt.{LockAt}
use Rattle.rht_chain.specs.declared.lock.LockAt.TheVariants as lock_at
use Rattle.rht_chain.specs.LockedWalk.{LockedWalkModel, locked_walk_plan, walk_plan_at, IsWalkAtIn, IsWalkIn}
use Rattle.rht_chain.specs.declared.locked_walk.LockedWalkAt.{LockedWalkAt}
use Rattle.rht_chain.specs.declared.locked_walk.LockedWalkAt.TheVariants as walk_at
use Rattle.rht_chain.specs.Unlock.{unlock_plan, IsUnlockIn}
use Rattle.rht_chain.specs.declared.unlock.Unlock.{Unlock}
use Rattle.rht_chain.specs.Relink.{RelinkModel, relink_plan, relink_plan_at, IsRelinkAtIn, IsRelinkWord, IsRelinkIn}
use Rattle.rht_chain.specs.declared.relink.RelinkAt.{RelinkAt}
use Rattle.rht_chain.specs.declared.relink.RelinkAt.TheVariants as relink_at
use Rattle.rht_chain.specs.Probe.{ProbeModel, probe_plan, probe_plan_at, IsProbeAtIn, IsProbeIn}
use Rattle.rht_chain.specs.declared.probe.ProbeAt.{ProbeAt}
use Rattle.rht_chain.specs.declared.probe.ProbeAt.TheVariants as probe_at

module _ (g : Geometry) where
  planned_lock_at : (place : ℕ) (at : LockAt) → IsBucketPlace g place → IsEven at → IsLockWord at
      → IsPlannedIn g (lock_plan_at place at)
  planned_lock_at place lock_at.Word place_in even word_in = planned_bucket g _ place_in (omega arith)
  planned_lock_at place (lock_at.Exchange word) place_in even word_in =
      planned_bucket g _ place_in (omega (arith, word_in, even))

  -- what a lock performs is on its bucket's word
  pub planned_lock : (lock : LockModel) → IsLockIn g lock → IsPlannedIn g (lock_plan lock)
  planned_lock lock within = planned_lock_at lock.place lock.at within.place_in within.even within.word_in

  planned_walk_at : (before : Option ℕ) (at : LockedWalkAt) → IsWalkAtIn g before at
      → IsPlannedIn g (walk_plan_at g at)
  planned_walk_at before (walk_at.Key node) range = planned_load g (Node node KeyWord) range.0 tt
  planned_walk_at before (walk_at.ChainLink node) range = planned_load g (Node node ChainLink) range.0 tt

  -- what a walk performs is on a word of a node
  pub planned_walk : (walk : LockedWalkModel) → IsWalkIn g walk → IsPlannedIn g (locked_walk_plan walk)
  planned_walk walk within =
      subst (λ (h : Geometry). IsPlannedIn g (walk_plan_at h walk.at)) (sym within.geometry_same)
      (planned_walk_at walk.before walk.at within.at_in)

  -- what a probe performs is what its lock and its walk perform
  pub planned_probe_at : (at : ProbeAt) → IsProbeAtIn g at → IsPlannedIn g (probe_plan_at at)
  planned_probe_at (probe_at.Locking lock) within = planned_lock lock within
  planned_probe_at (probe_at.Walking bucket walk) within = planned_walk walk within.walk_in

  pub planned_probe : (probe : ProbeModel) → IsProbeIn g probe → IsPlannedIn g (probe_plan probe)
  planned_probe probe within = planned_probe_at probe.at within.at_in

  -- what an unlocking performs is on its bucket's word
  pub planned_unlock : (unlock : Unlock) → IsUnlockIn g unlock → IsPlannedIn g (unlock_plan unlock)
  planned_unlock unlock within = planned_bucket g _ within.place_in within.word_in

  planned_relink_at : (relink : RelinkModel) (at : RelinkAt) → IsRelinkIn g relink → IsRelinkAtIn g at
      → IsRelinkWord at → IsPlannedIn g (relink_plan_at relink at)
  planned_relink_at relink (relink_at.ChainLink before) within here store =
      subst (λ (h : Geometry). IsPlannedIn g (relink_plan_at (record relink { geometry = h })
      (relink_at.ChainLink before)))
      (sym within.geometry_same) (planned-at g _ (Node before ChainLink) here tt refl within.link_in)
  planned_relink_at relink (relink_at.Word word) within here store = planned_bucket g _ within.place_in store

  -- what a relinking performs is on a node's word or its bucket's
  pub planned_relink : (relink : RelinkModel) → IsRelinkIn g relink → IsPlannedIn g (relink_plan relink)
  planned_relink relink within = planned_relink_at relink relink.at within within.at_in within.store_in
