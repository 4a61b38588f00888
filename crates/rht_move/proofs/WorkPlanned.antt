-- On which words a worker works, a case a state: the work lock, the section word of its caller, the current table and the count of
-- ports, words of slots and of the map of pages, the next serial, and words of nodes and buckets. What it stores are words.
use Rattle.std.proofs.Common.{ℕ, ◌<◌, refl, arith}
use Rattle.std.specs.Prelude.{Option, Some, None}
use Rattle.rht_words.specs.declared.env.Env.{Env}
use Rattle.rht_words.specs.declared.geometry.Geometry.{Geometry}
use Rattle.rht_words.specs.Places.{CurrentTable, WorkLock, PortCount, Slot, ShapeWord, SeedWord, FutureWord, StateWord, Node, ChainLink, KeyWord, IsBucketPlace}
use Rattle.rht_words.specs.Planned.{IsPlannedIn}
use Rattle.rht_words.proofs.PlannedWords.{planned-at, planned_load, planned_bucket, head_of-fits, link_of-fits}
use Rattle.rht_grace.proofs.SectionsPlanned.{planned_enter, planned_leave}
use Rattle.rht_nest.proofs.Places.{planned_place}
use Rattle.rht_nest.proofs.MakesPlanned.{planned_make, planned_unmake}
use Rattle.rht_chain.specs.LockedWalk.{IsNodeOrNone}
use Rattle.rht_chain.proofs.PiecesPlanned.{planned_lock, planned_unlock}
use Rattle.rht_reclaim.proofs.KeepsSections.{planned_keep_sections}
use Rattle.rht_reclaim.proofs.ReturnsStay.{planned_return_tables}
use Rattle.rht_move.specs.Work.{plan_at, cut_plan, IsWorkAtIn}
use Rattle.rht_move.specs.declared.work.WorkAt.{WorkAt}
use Rattle.rht_move.specs.declared.work.WorkAt.TheVariants as at
use Rattle.rht_move.proofs.LastTables.{planned_last_table}
use Rattle.rht_move.proofs.LastEntries.{planned_last_entry}

-- a chain is ended in a node or in its bucket's word
planned_cut : (g : Geometry) (place : ℕ) (before : Option ℕ) → IsBucketPlace g place → IsNodeOrNone g before
    → IsPlannedIn g (cut_plan g place before)
planned_cut g place None place_in before_in = planned_bucket g _ place_in (omega arith)
planned_cut g place (Some before) place_in before_in =
    planned-at g _ (Node before ChainLink) before_in tt refl (omega arith)

pub planned_work : (env : Env) (caller : ℕ) (state : WorkAt) → caller < 16 → IsWorkAtIn env state
    → IsPlannedIn env.geometry (plan_at env caller state)
planned_work env caller at.WorkLock few within = planned-at env.geometry _ WorkLock tt tt refl (omega arith)
planned_work env caller (at.Returning returns) few within = planned_return_tables env.geometry returns within
planned_work env caller at.Opening few within =
    planned_enter env.geometry caller (record { caller = caller }) (record { own = refl; within = few })
planned_work env caller at.CurrentTable few within = planned_load env.geometry CurrentTable tt tt
planned_work env caller (at.LastTable root seek) few within = planned_last_table env.geometry seek within.seek_in
planned_work env caller (at.Count root last) few within = planned_load env.geometry PortCount tt tt
planned_work env caller (at.Making wanted make) few within = planned_make env.geometry make within.make_in
planned_work env caller (at.Attaching root last slot shape) few within =
    let slot_in = within.made_in.slot_in in
    planned-at env.geometry _ (Slot last FutureWord) (within.last_in, tt) tt refl (omega (arith, slot_in))
planned_work env caller (at.Unmaking root unmake) few within = planned_unmake env.geometry unmake within.unmake_in
planned_work env caller (at.RootFuture root due) few within = planned_load env.geometry (Slot root FutureWord) (within, tt) tt
planned_work env caller (at.RootShape root future again) few within =
    planned_load env.geometry (Slot root ShapeWord) (within.root_in, tt) tt
planned_work env caller (at.Entry rehash number place) few within = planned_place env.geometry place within.place_in
planned_work env caller (at.Locking rehash number lock) few within = planned_lock env.geometry lock within.lock_in
planned_work env caller (at.EntryTable emptying seek) few within = planned_last_table env.geometry seek within.seek_in
planned_work env caller (at.Seed emptying last) few within =
    planned_load env.geometry (Slot last.table SeedWord) (within.last_in.table_in, tt) tt
planned_work env caller (at.BucketWord emptying target) few within =
    planned_bucket env.geometry _ within.emptying_in.locked_in.place_in (omega arith)
planned_work env caller (at.Walking emptying target walk) few within = planned_last_entry env.geometry walk within.walk_in
planned_work env caller (at.Key emptying target entry) few within =
    planned_load env.geometry (Node entry.node KeyWord) within.entry_in.node_in tt
planned_work env caller (at.LockingSecond emptying entry table lock) few within = planned_lock env.geometry lock within.lock_in
planned_work env caller (at.EntryLink emptying entry second) few within =
    planned-at env.geometry _ (Node entry.node ChainLink) within.entry_in.node_in tt refl
    (head_of-fits second.bucket.place second.bucket.word within.second_in.bucket_in.word_in)
planned_work env caller (at.Linking emptying entry second) few within =
    planned_bucket env.geometry _ within.second_in.bucket_in.place_in
    (link_of-fits env.geometry entry.node within.entry_in.node_in)
planned_work env caller (at.CuttingOff emptying entry) few within =
    planned_cut env.geometry emptying.bucket.place entry.before within.emptying_in.locked_in.place_in
    within.entry_in.before_in
planned_work env caller (at.Unlocking rehash number unlock stop) few within = planned_unlock env.geometry unlock within.unlock_in
planned_work env caller (at.Publishing rehash) few within =
    let future_in = within.tables_in.future_in in
    planned-at env.geometry _ CurrentTable tt tt refl (omega (arith, future_in))
planned_work env caller (at.NewFuture rehash) few within =
    planned_load env.geometry (Slot rehash.future FutureWord) (within.tables_in.future_in, tt) tt
planned_work env caller (at.Closing ending) few within =
    planned_leave env.geometry caller (record { caller = caller }) (record { own = refl; within = few })
planned_work env caller (at.Retiring root again) few within =
    planned-at env.geometry _ (Slot root StateWord) (within, tt) tt refl (omega arith)
planned_work env caller (at.KeepingSections keep again) few within =
    planned_keep_sections env.geometry keep within
planned_work env caller (at.LettingGo outcome) few within = planned-at env.geometry _ WorkLock tt tt refl (omega arith)
