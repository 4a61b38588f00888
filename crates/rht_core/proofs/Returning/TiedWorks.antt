-- While a worker takes down a nested table, the entry of the top page at which it is is one of those in use.
use Rattle.std.proofs.Common.{ℕ, ◌+◌, ◌%◌, ◌<◌, min, Bool, Option, Some, None, nat_lt}
use Rattle.std.specs.Prelude.{◌==◌, ◌||◌}
use Rattle.std.proofs.lemmas.Bool.{cond_both, ltb-true}
use Rattle.std.proofs.lemmas.Nat.{pow_pos}
use Rattle.rht_words.specs.declared.env.Env.{Env}
use Rattle.rht_words.specs.declared.geometry.Geometry.{Geometry}
use Rattle.rht_words.specs.declared.machine.Next.{Next}
use Rattle.rht_words.specs.declared.machine.Next.TheVariants.{Go, Done}
use Rattle.rht_words.specs.Links.{node_of, page_of, slot_of, head_of, unlocked}
use Rattle.rht_words.specs.Shapes.{size_of, unpacked}
use Rattle.rht_arena.specs.GiveRun.{GiveRunModel, give_run_after}
use Rattle.rht_chain.specs.Lock.{LockModel, lock_after}
use Rattle.rht_model.specs.declared.history.Reply.{Reply}
use Rattle.rht_nest.specs.Make.{MakeModel, make_after}
use Rattle.rht_nest.specs.Place.{PlaceModel, place_after, top_entries, is_deep}
use Rattle.rht_nest.specs.Tables.{is_nested}
use Rattle.rht_nest.specs.Unmake.{UnmakeModel, unmake_after}
use Rattle.rht_nest.specs.declared.place.Bucket.{Bucket}
use Rattle.rht_nest.specs.declared.place.Bucket.TheVariants.{At, Absent}
use Rattle.rht_reclaim.specs.GiveTable.{GiveTableModel, give_table_after, give_table_after_at, shape_seen, run_returned, next_top, next_leaf, top_seen, leaf_seen}
use Rattle.rht_reclaim.specs.KeepSections.{KeepSectionsModel, keep_sections_after}
use Rattle.rht_reclaim.specs.ReturnTables.{return_tables_after_at, next_slot, next_caller, given_back}
use Rattle.rht_reclaim.specs.declared.give_table.GiveTableAt.{GiveTableAt}
use Rattle.rht_reclaim.specs.declared.give_table.GiveTableAt.TheVariants as gives
use Rattle.rht_reclaim.specs.declared.return_tables.ReturnTablesAt.{ReturnTablesAt}
use Rattle.rht_reclaim.specs.declared.return_tables.ReturnTablesAt.TheVariants as returns_at
use Rattle.rht_move.specs.Choice.{choice_of}
use Rattle.rht_move.specs.LastEntry.{LastEntryModel, last_entry_after}
use Rattle.rht_move.specs.LastTable.{LastTableModel, last_table_after}
use Rattle.rht_move.specs.Work.{after_at, lock_seen, returned, last_seen, begun, made, unmade, future_or_idle, bucket_of_root, next_bucket, entry_passed, locked, entry_table_seen, with_word, entry_or_empty, walked, second_locked, cut_off, unlocked_bucket, retiring, closed, kept}
use Rattle.rht_move.specs.declared.last_entry.Entry.{Entry}
use Rattle.rht_move.specs.declared.last_table.Last.{Last}
use Rattle.rht_move.specs.declared.rehash.Emptying.{Emptying}
use Rattle.rht_move.specs.declared.rehash.Rehash.{Rehash}
use Rattle.rht_move.specs.declared.rehash.Target.{Target}
use Rattle.rht_move.specs.declared.work.Due.{Due}
use Rattle.rht_move.specs.declared.work.Wanted.{Wanted}
use Rattle.rht_move.specs.declared.work.choice.Choice.{Choice}
use Rattle.rht_move.specs.declared.work.choice.Choice.TheVariants.{Attach, Later, Nothing}
use Rattle.rht_move.specs.declared.work.ending.Ending.{Ending}
use Rattle.rht_move.specs.declared.work.ending.Ending.TheVariants as endings
use Rattle.rht_move.specs.declared.work.WorkAt.{WorkAt}
use Rattle.rht_move.specs.declared.work.WorkAt.TheVariants as at

-- ---- what is so in a state

-- the entry of the top page that is to be loaded is in use
abbrev pub tied_of_giving : GiveTableAt → Type 0
tied_of_giving (gives.TopEntry shape top) = top < top_entries shape
tied_of_giving _ = Unit {0}

-- so it is while the slots are gone through
abbrev pub tied_of_returning : ReturnTablesAt → Type 0
tied_of_returning (returns_at.Giving give) = tied_of_giving give.at
tied_of_returning _ = Unit {0}

-- and in a worker's state
abbrev pub tied_of_work : WorkAt → Type 0
tied_of_work (at.Returning returns) = tied_of_returning returns.at
tied_of_work _ = Unit {0}

-- ---- a table is given back

top_ties : (shape top : ℕ) → tied_of_giving (next_top shape top)
top_ties shape top =
    cond_both (nat_lt (top + 1) (top_entries shape)) _ _ tied_of_giving (λ t. ltb-true (top + 1) (top_entries shape) t) (λ f. tt)

leaf_ties : (shape top page leaf : ℕ) → tied_of_giving (next_leaf shape top page leaf)
leaf_ties shape top page leaf = cond_both (nat_lt (leaf + 1) 64) _ _ tied_of_giving (λ t. tt) (λ f. tt)

top_seen_ties : (shape top : ℕ) (page : Option ℕ) → tied_of_giving (top_seen shape top page)
top_seen_ties shape top None = top_ties shape top
top_seen_ties shape top (Some page) = cond_both (is_deep shape) _ _ tied_of_giving (λ t. tt) (λ f. tt)

leaf_seen_ties : (shape top page leaf : ℕ) (below : Option ℕ) → tied_of_giving (leaf_seen shape top page leaf below)
leaf_seen_ties shape top page leaf None = leaf_ties shape top page leaf
leaf_seen_ties shape top page leaf (Some below) = tt

run_ties : (give : GiveRunModel) (next : Next (Unit {0})) → tied_of_giving (run_returned give next)
run_ties give Go = tt
run_ties give (Done answer) = tt

-- a nested table has entries
has_entries : (shape : ℕ) → 0 < top_entries shape
has_entries shape = pow_pos (min (unpacked shape).nest 6)

shape_ties : (g : Geometry) (shape : ℕ) → tied_of_giving (shape_seen g shape)
shape_ties g shape = cond_both (is_nested shape) _ _ tied_of_giving (λ t. has_entries shape) (λ f. tt)

giving_ties : (g : Geometry) (state : GiveTableAt) (word : ℕ) → tied_of_giving (give_table_after_at g state word).0
giving_ties g gives.Shape word = shape_ties g word
giving_ties g (gives.Run give) word = run_ties (give_run_after give word).0 (give_run_after give word).1
giving_ties g (gives.TopEntry shape top) word = top_seen_ties shape top (page_of g.pages word)
giving_ties g (gives.LeafEntry shape top page leaf) word = leaf_seen_ties shape top page leaf (page_of g.pages word)
giving_ties g (gives.ClearLeaf shape top page leaf below) word = tt
giving_ties g (gives.GiveLeaf shape top page leaf below) word = leaf_ties shape top page leaf
giving_ties g (gives.ClearTop shape top page) word = tt
giving_ties g (gives.GivePage shape top page) word = top_ties shape top
giving_ties g (gives.GiveTop shape) word = tt
giving_ties g gives.FreeSlot word = tt

-- ---- the slots are gone through

-- where it goes on, and is at such an entry then
abbrev Goes : ReturnTablesAt × Next (Unit {0}) → Type 0
Goes (state, Go) = tied_of_returning state
Goes (state, Done answer) = Unit {0}

slot_ties : (state : ReturnTablesAt) (slot : ℕ) → Goes (next_slot state slot)
slot_ties state slot = cond_both {A = ReturnTablesAt × Next (Unit {0})} (nat_lt (slot + 1) 8) _ _ Goes (λ t. tt) (λ f. tt)

caller_ties : (g : Geometry) (slot caller : ℕ) → Goes (next_caller g slot caller)
caller_ties g slot caller =
    cond_both {A = ReturnTablesAt × Next (Unit {0})} (nat_lt (caller + 1) g.callers) _ _ Goes (λ t. tt) (λ f. tt)

given_ties : (give : GiveTableModel) (next : Next (Unit {0})) → tied_of_giving give.at → Goes (given_back give next)
given_ties give Go tied = tied
given_ties give (Done answer) tied = slot_ties (returns_at.Giving give) give.slot

returns_ties : (g : Geometry) (state : ReturnTablesAt) (old : ℕ) → Goes (return_tables_after_at g state old)
returns_ties g (returns_at.State slot) old =
    cond_both {A = ReturnTablesAt × Next (Unit {0})} (old == 2) _ _ Goes (λ t. tt) (λ f. slot_ties (returns_at.State slot) slot)
returns_ties g (returns_at.KeptWord slot caller) old =
    cond_both {A = ReturnTablesAt × Next (Unit {0})} (old % 2 == 1) _ _ Goes (λ t. tt) (λ f. caller_ties g slot caller)
returns_ties g (returns_at.SectionWord slot caller kept) old =
    cond_both {A = ReturnTablesAt × Next (Unit {0})} (old == kept) _ _ Goes
    (λ t. slot_ties (returns_at.SectionWord slot caller kept) slot) (λ f. caller_ties g slot caller)
returns_ties g (returns_at.Giving give) old =
    given_ties (give_table_after give old).0 (give_table_after give old).1 (giving_ties give.geometry give.at old)

returned_ties : (g : Geometry) (next : ReturnTablesAt × Next (Unit {0})) → Goes next
    → tied_of_work (returned (record { geometry = g; at = next.0 }) next.1)
returned_ties g (state, Go) goes = goes
returned_ties g (state, Done answer) goes = tt

-- ---- all other states lead elsewhere

lock_ties : (g : Geometry) (lock : ℕ) → tied_of_work (lock_seen g lock).0
lock_ties g lock = cond_both {A = WorkAt × Next Reply} (lock == 0) _ _ (λ next. tied_of_work next.0) (λ t. tt) (λ f. tt)

last_ties : (root : ℕ) (seek : LastTableModel) (next : Next Last) → tied_of_work (last_seen root seek next)
last_ties root seek Go = tt
last_ties root seek (Done last) = tt

begun_ties : (env : Env) (root : ℕ) (last : Last) (choice : Choice) → tied_of_work (begun env root last choice)
begun_ties env root last (Attach size) = tt
begun_ties env root last Later = tt
begun_ties env root last Nothing = tt

made_ties : (wanted : Wanted) (make : MakeModel) (next : Next (Option (ℕ × ℕ))) → tied_of_work (made wanted make next)
made_ties wanted make Go = tt
made_ties wanted make (Done None) =
    cond_both ((wanted.root == wanted.last.table) || is_nested wanted.last.shape) _ _ tied_of_work (λ t. tt) (λ f. tt)
made_ties wanted make (Done (Some (slot, shape))) = tt

unmade_ties : (root : ℕ) (unmake : UnmakeModel) (next : Next (Unit {0})) → tied_of_work (unmade root unmake next)
unmade_ties root unmake Go = tt
unmade_ties root unmake (Done done) = tt

future_ties : (root : ℕ) (due : Due) (future : Option ℕ) → tied_of_work (future_or_idle root due future)
future_ties root due None = tt
future_ties root due (Some future) = tt

closed_ties : (ending : Ending) → tied_of_work (closed ending)
closed_ties (endings.Retiring root again) = tt
closed_ties (endings.LettingGo outcome) = tt

retiring_ties : (rehash : Rehash) (next : Option ℕ) → tied_of_work (retiring rehash next)
retiring_ties rehash None = tt
retiring_ties rehash (Some next) = tt

kept_ties : (keep : KeepSectionsModel) (again : Bool) (next : Next (Unit {0})) → tied_of_work (kept keep again next)
kept_ties keep again Go = tt
kept_ties keep again (Done done) = tt

module _ (g : Geometry) where
  root_ties : (rehash : Rehash) (number : ℕ) → tied_of_work (bucket_of_root g rehash number)
  root_ties rehash number = cond_both (is_nested rehash.shape) _ _ tied_of_work (λ t. tt) (λ f. tt)

  bucket_ties : (rehash : Rehash) (number : ℕ) → tied_of_work (next_bucket g rehash number)
  bucket_ties rehash number =
      cond_both (nat_lt (number + 1) (size_of (unpacked rehash.shape))) _ _ tied_of_work (λ t. root_ties rehash (number + 1)) (λ f. tt)

  entry_ties : (rehash : Rehash) (number : ℕ) (place : PlaceModel) (next : Next Bucket)
      → tied_of_work (entry_passed g rehash number place next)
  entry_ties rehash number place Go = tt
  entry_ties rehash number place (Done (At word)) = tt
  entry_ties rehash number place (Done (Absent entry)) = bucket_ties rehash number

  locked_ties : (rehash : Rehash) (number : ℕ) (lock : LockModel) (next : Next ℕ) → tied_of_work (locked g rehash number lock next)
  locked_ties rehash number lock Go = tt
  locked_ties rehash number lock (Done word) = tt

  seen_ties : (emptying : Emptying) (seek : LastTableModel) (next : Next Last) → tied_of_work (entry_table_seen emptying seek next)
  seen_ties emptying seek Go = tt
  seen_ties emptying seek (Done last) = cond_both (is_nested last.shape) _ _ tied_of_work (λ t. tt) (λ f. tt)

  first_ties : (emptying : Emptying) (target : Target) (node : Option ℕ) → tied_of_work (entry_or_empty g emptying target node)
  first_ties emptying target None = tt
  first_ties emptying target (Some first) = tt

  walked_ties : (emptying : Emptying) (target : Target) (walk : LastEntryModel) (next : Next Entry)
      → tied_of_work (walked emptying target walk next)
  walked_ties emptying target walk Go = tt
  walked_ties emptying target walk (Done entry) = tt

  second_ties : (emptying : Emptying) (entry : Entry) (table : ℕ) (lock : LockModel) (next : Next ℕ)
      → tied_of_work (second_locked emptying entry table lock next)
  second_ties emptying entry table lock Go = tt
  second_ties emptying entry table lock (Done word) = tt

  cut_ties : (emptying : Emptying) (before : Option ℕ) → tied_of_work (cut_off g emptying before)
  cut_ties emptying None = tt
  cut_ties emptying (Some before) = tt

  unlocked_ties : (rehash : Rehash) (number : ℕ) (stop : Bool) → tied_of_work (unlocked_bucket g rehash number stop)
  unlocked_ties rehash number stop = cond_both stop _ _ tied_of_work (λ t. tt) (λ f. bucket_ties rehash number)

-- ---- all states

pub work_ties : (mix : ℕ → ℕ → ℕ → ℕ) (env : Env) (state : WorkAt) (old : ℕ) → tied_of_work (after_at mix env state old).0
work_ties mix env at.WorkLock old = lock_ties env.geometry old
work_ties mix env (at.Returning returns) old =
    returned_ties returns.geometry (return_tables_after_at returns.geometry returns.at old)
    (returns_ties returns.geometry returns.at old)
work_ties mix env (at.LastTable root seek) old = last_ties root (last_table_after seek old).0 (last_table_after seek old).1
work_ties mix env (at.Count root last) old = begun_ties env root last (choice_of env old last.shape (root == last.table))
work_ties mix env (at.Making wanted make) old = made_ties wanted (make_after make old).0 (make_after make old).1
work_ties mix env (at.Attaching root last slot shape) old =
    cond_both (old == 0) _ _ tied_of_work (λ t. tt) (λ f. tt)
work_ties mix env (at.Unmaking root unmake) old = unmade_ties root (unmake_after unmake old).0 (unmake_after unmake old).1
work_ties mix env (at.RootFuture root due) old = future_ties root due (slot_of old)
work_ties mix env (at.RootShape root future again) old = root_ties env.geometry _ 0
work_ties mix env (at.Entry rehash number place) old =
    entry_ties env.geometry rehash number (place_after place old).0 (place_after place old).1
work_ties mix env (at.Locking rehash number lock) old =
    locked_ties env.geometry rehash number (lock_after lock old).0 (lock_after lock old).1
work_ties mix env (at.EntryTable emptying seek) old =
    seen_ties env.geometry emptying (last_table_after seek old).0 (last_table_after seek old).1
work_ties mix env (at.BucketWord emptying target) old =
    first_ties env.geometry (with_word emptying (unlocked old)) target
    (node_of env.geometry.nodes (head_of emptying.bucket.place (unlocked old)))
work_ties mix env (at.Walking emptying target walk) old =
    walked_ties env.geometry emptying target (last_entry_after walk old).0 (last_entry_after walk old).1
work_ties mix env (at.LockingSecond emptying entry table lock) old =
    second_ties env.geometry emptying entry table (lock_after lock old).0 (lock_after lock old).1
work_ties mix env (at.CuttingOff emptying entry) old = cut_ties env.geometry emptying entry.before
work_ties mix env (at.Unlocking rehash number unlock stop) old = unlocked_ties env.geometry rehash number stop
work_ties mix env (at.NewFuture rehash) old = retiring_ties rehash (slot_of old)
work_ties mix env (at.Closing ending) old = closed_ties ending
work_ties mix env (at.KeepingSections keep again) old =
    kept_ties (keep_sections_after keep old).0 again (keep_sections_after keep old).1
work_ties mix env _ old = tt
