-- Where a work stands: it takes the work lock, gives retired tables back, or has done so, and doesn't begin with that anew. While it gives tables
-- back the work is its own.
use Rattle.std.proofs.Common.{◌≡◌, ℕ, ◌+◌, Bool, true, false, cond, nat_lt, Option, Some, None, refl}
use Rattle.std.specs.Prelude.{◌==◌, ◌||◌}
use Rattle.rht_words.specs.declared.env.Env.{Env}
use Rattle.rht_words.specs.declared.geometry.Geometry.{Geometry}
use Rattle.rht_words.specs.declared.machine.Next.{Next}
use Rattle.rht_words.specs.declared.machine.Next.TheVariants.{Go, Done}
use Rattle.rht_words.specs.Shapes.{unpacked, size_of}
use Rattle.rht_words.proofs.Memory.{Memory}
use Rattle.rht_chain.specs.Lock.{LockModel}
use Rattle.rht_nest.specs.Place.{PlaceModel}
use Rattle.rht_nest.specs.Tables.{is_nested}
use Rattle.rht_nest.specs.declared.place.Bucket.{Bucket}
use Rattle.rht_nest.specs.declared.place.Bucket.TheVariants.{At, Absent}
use Rattle.rht_nest.specs.Make.{MakeModel}
use Rattle.rht_nest.specs.Unmake.{UnmakeModel}
use Rattle.rht_reclaim.specs.KeepSections.{KeepSectionsModel}
use Rattle.rht_reclaim.specs.declared.return_tables.ReturnTablesAt.{ReturnTablesAt}
use Rattle.rht_reclaim.specs.declared.return_tables.ReturnTablesAt.TheVariants as at
use Rattle.rht_reclaim.specs.ReturnHeld.{is_first_word}
use Rattle.rht_reclaim.specs.declared.give_table.GiveTableAt.{GiveTableAt}
use Rattle.rht_reclaim.specs.declared.give_table.GiveTableAt.TheVariants as gives
use Rattle.rht_move.specs.LastTable.{LastTableModel, last_table_after}
use Rattle.rht_move.specs.LastEntry.{LastEntryModel}
use Rattle.rht_move.specs.declared.last_table.Last.{Last}
use Rattle.rht_move.specs.declared.last_entry.Entry.{Entry}
use Rattle.rht_move.specs.declared.rehash.Rehash.{Rehash}
use Rattle.rht_move.specs.declared.rehash.Emptying.{Emptying}
use Rattle.rht_move.specs.declared.rehash.Target.{Target}
use Rattle.rht_move.specs.declared.work.choice.Choice.{Choice}
use Rattle.rht_move.specs.declared.work.choice.Choice.TheVariants.{Attach, Later, Nothing}
use Rattle.rht_move.specs.declared.work.Wanted.{Wanted}
use Rattle.rht_move.specs.declared.work.Due.{Due}
use Rattle.rht_move.specs.declared.work.ending.Ending.{Ending as WorkEnding}
use Rattle.rht_move.specs.declared.work.ending.Ending.TheVariants as endings
use Rattle.rht_move.specs.declared.work.WorkAt.{WorkAt}
use Rattle.rht_move.specs.declared.work.WorkAt.TheVariants as work_at
use Rattle.rht_move.specs.Work as work
use Rattle.rht_move.proofs.WorkKnowledge.{known_giving, known_returning}
use Rattle.rht_ghost.proofs.Theory.Ghosts.{Ghost}
use Rattle.rht_ghost.proofs.Theory.Knowledge.{WorkMeans}
use Rattle.rht_ghost.proofs.Theory.Knowns.{GivesBack, InRun, Works}

-- ---- where a work stands

-- It takes the work lock, gives retired tables back, or has done so.
pub data Phase : Type 0 where
  Locks : Phase
  Returns : ReturnTablesAt → Phase
  Goes_on : Phase

abbrev pub phase_of : WorkAt → Phase
phase_of work_at.WorkLock = Locks
phase_of (work_at.Returning returns) = Returns returns.at
phase_of work_at.Opening = Goes_on
phase_of work_at.CurrentTable = Goes_on
phase_of (work_at.LastTable root seek) = Goes_on
phase_of (work_at.Count root last) = Goes_on
phase_of (work_at.Making wanted make) = Goes_on
phase_of (work_at.Attaching root last slot shape) = Goes_on
phase_of (work_at.Unmaking root unmake) = Goes_on
phase_of (work_at.RootFuture root due) = Goes_on
phase_of (work_at.RootShape root future again) = Goes_on
phase_of (work_at.Entry rehash number place) = Goes_on
phase_of (work_at.Locking rehash number lock) = Goes_on
phase_of (work_at.EntryTable emptying seek) = Goes_on
phase_of (work_at.Seed emptying last) = Goes_on
phase_of (work_at.BucketWord emptying target) = Goes_on
phase_of (work_at.Walking emptying target walk) = Goes_on
phase_of (work_at.Key emptying target entry) = Goes_on
phase_of (work_at.LockingSecond emptying entry table lock) = Goes_on
phase_of (work_at.EntryLink emptying entry second) = Goes_on
phase_of (work_at.Linking emptying entry second) = Goes_on
phase_of (work_at.CuttingOff emptying entry) = Goes_on
phase_of (work_at.Unlocking rehash number unlock stop) = Goes_on
phase_of (work_at.Publishing rehash) = Goes_on
phase_of (work_at.NewFuture rehash) = Goes_on
phase_of (work_at.Closing ending) = Goes_on
phase_of (work_at.Retiring root again) = Goes_on
phase_of (work_at.KeepingSections keep again) = Goes_on
phase_of (work_at.LettingGo outcome) = Goes_on

-- it doesn't give tables back anew
abbrev pub IsBehind : WorkAt → Type 0
IsBehind state = phase_of state ≡ Goes_on

one_of : (t : Bool) (one other : WorkAt) → IsBehind one → IsBehind other → IsBehind (cond t one other)
one_of true one other first second = first
one_of false one other first second = second

seen-behind : (root : ℕ) (seek : LastTableModel) (next : Next Last) → IsBehind (work.last_seen root seek next)
seen-behind root seek Go = refl
seen-behind root seek (Done last) = refl

begun-behind : (env : Env) (root : ℕ) (last : Last) (choice : Choice) → IsBehind (work.begun env root last choice)
begun-behind env root last (Attach size) = refl
begun-behind env root last Later = refl
begun-behind env root last Nothing = refl

made-behind : (wanted : Wanted) (make : MakeModel) (next : Next (Option (ℕ × ℕ))) → IsBehind (work.made wanted make next)
made-behind wanted make Go = refl
made-behind wanted make (Done None) = one_of ((wanted.root == wanted.last.table) || is_nested wanted.last.shape) _ _ refl refl
made-behind wanted make (Done (Some table)) = refl

unmade-behind : (root : ℕ) (unmake : UnmakeModel) (next : Next (Unit {0})) → IsBehind (work.unmade root unmake next)
unmade-behind root unmake Go = refl
unmade-behind root unmake (Done done) = refl

future-behind : (root : ℕ) (due : Due) (next : Option ℕ) → IsBehind (work.future_or_idle root due next)
future-behind root due None = refl
future-behind root due (Some future) = refl

root-behind : (g : Geometry) (rehash : Rehash) (number : ℕ) → IsBehind (work.bucket_of_root g rehash number)
root-behind g rehash number = one_of (is_nested rehash.shape) _ _ refl refl

next-behind : (g : Geometry) (rehash : Rehash) (number : ℕ) → IsBehind (work.next_bucket g rehash number)
next-behind g rehash number =
    one_of (nat_lt (number + 1) (size_of (unpacked rehash.shape))) _ _ (root-behind g rehash (number + 1)) refl

passed-behind : (g : Geometry) (rehash : Rehash) (number : ℕ) (place : PlaceModel) (next : Next Bucket)
    → IsBehind (work.entry_passed g rehash number place next)
passed-behind g rehash number place Go = refl
passed-behind g rehash number place (Done (At word)) = refl
passed-behind g rehash number place (Done (Absent entry)) = next-behind g rehash number

locked-behind : (g : Geometry) (rehash : Rehash) (number : ℕ) (lock : LockModel) (next : Next ℕ)
    → IsBehind (work.locked g rehash number lock next)
locked-behind g rehash number lock Go = refl
locked-behind g rehash number lock (Done word) = refl

table-behind : (emptying : Emptying) (seek : LastTableModel) (next : Next Last) → IsBehind (work.entry_table_seen emptying seek next)
table-behind emptying seek Go = refl
table-behind emptying seek (Done last) = one_of (is_nested last.shape) _ _ refl refl

entry-behind : (g : Geometry) (emptying : Emptying) (target : Target) (first : Option ℕ)
    → IsBehind (work.entry_or_empty g emptying target first)
entry-behind g emptying target None = refl
entry-behind g emptying target (Some first) = refl

walked-behind : (emptying : Emptying) (target : Target) (walk : LastEntryModel) (next : Next Entry)
    → IsBehind (work.walked emptying target walk next)
walked-behind emptying target walk Go = refl
walked-behind emptying target walk (Done entry) = refl

second-behind : (emptying : Emptying) (entry : Entry) (table : ℕ) (lock : LockModel) (next : Next ℕ)
    → IsBehind (work.second_locked emptying entry table lock next)
second-behind emptying entry table lock Go = refl
second-behind emptying entry table lock (Done word) = refl

cut-behind : (g : Geometry) (emptying : Emptying) (before : Option ℕ) → IsBehind (work.cut_off g emptying before)
cut-behind g emptying None = refl
cut-behind g emptying (Some before) = refl

retiring-behind : (rehash : Rehash) (next : Option ℕ) → IsBehind (work.retiring rehash next)
retiring-behind rehash None = refl
retiring-behind rehash (Some next) = refl

closed-behind : (ending : WorkEnding) → IsBehind (work.closed ending)
closed-behind (endings.Retiring root again) = refl
closed-behind (endings.LettingGo outcome) = refl

kept-behind : (keep : KeepSectionsModel) (again : Bool) (next : Next (Unit {0})) → IsBehind (work.kept keep again next)
kept-behind keep again Go = refl
kept-behind keep again (Done done) = refl

-- so it is of each state that comes behind one of these
pub stays-behind : (mix : ℕ → ℕ → ℕ → ℕ) (env : Env) (state : WorkAt) (word : ℕ) → IsBehind state → IsBehind (work.after_at mix env state word).0
stays-behind mix env work_at.WorkLock word is = absurd (cc)
stays-behind mix env (work_at.Returning returns) word is = absurd (cc)
stays-behind mix env work_at.Opening word is = refl
stays-behind mix env work_at.CurrentTable word is = refl
stays-behind mix env (work_at.LastTable root seek) word is = seen-behind root _ _
stays-behind mix env (work_at.Count root last) word is = begun-behind env root last _
stays-behind mix env (work_at.Making wanted make) word is = made-behind wanted _ _
stays-behind mix env (work_at.Attaching root last slot shape) word is = one_of (word == 0) _ _ refl refl
stays-behind mix env (work_at.Unmaking root unmake) word is = unmade-behind root _ _
stays-behind mix env (work_at.RootFuture root due) word is = future-behind root due _
stays-behind mix env (work_at.RootShape root future again) word is = root-behind env.geometry _ 0
stays-behind mix env (work_at.Entry rehash number place) word is = passed-behind env.geometry rehash number _ _
stays-behind mix env (work_at.Locking rehash number lock) word is = locked-behind env.geometry rehash number _ _
stays-behind mix env (work_at.EntryTable emptying seek) word is =
    table-behind emptying (last_table_after seek word).0 (last_table_after seek word).1
stays-behind mix env (work_at.Seed emptying last) word is = refl
stays-behind mix env (work_at.BucketWord emptying target) word is = entry-behind env.geometry _ target _
stays-behind mix env (work_at.Walking emptying target walk) word is = walked-behind emptying target _ _
stays-behind mix env (work_at.Key emptying target entry) word is = refl
stays-behind mix env (work_at.LockingSecond emptying entry table lock) word is = second-behind emptying entry table _ _
stays-behind mix env (work_at.EntryLink emptying entry second) word is = refl
stays-behind mix env (work_at.Linking emptying entry second) word is = refl
stays-behind mix env (work_at.CuttingOff emptying entry) word is = cut-behind env.geometry emptying entry.before
stays-behind mix env (work_at.Unlocking rehash number unlock stop) word is =
    one_of stop _ _ refl (next-behind env.geometry rehash number)
stays-behind mix env (work_at.Publishing rehash) word is = refl
stays-behind mix env (work_at.NewFuture rehash) word is = retiring-behind rehash _
stays-behind mix env (work_at.Closing ending) word is = closed-behind ending
stays-behind mix env (work_at.Retiring root again) word is = refl
stays-behind mix env (work_at.KeepingSections keep again) word is = kept-behind _ again _
stays-behind mix env (work_at.LettingGo outcome) word is = refl

-- ---- whoever gives tables back does the work

module _ (env : Env) (mix : ℕ → ℕ → ℕ → ℕ) (c : ℕ) (Mem : Memory) (G : Ghost) where
  giving-works : (slot : ℕ) (state : GiveTableAt) → WorkMeans env mix c Mem G (known_giving slot state) → G.worker ≡ Some c
  giving-works slot (gives.Run give) means = go (is_first_word give) means
    where
      go : (t : Bool) → WorkMeans env mix c Mem G (cond t (GivesBack slot (InRun give.first give.pages)) Works) → G.worker ≡ Some c
      go true means = means.works.0
      go false means = means.works.0
  giving-works slot _ means = means.works.0

  pub returning-works : (state : ReturnTablesAt) → WorkMeans env mix c Mem G (known_returning state) → G.worker ≡ Some c
  returning-works (at.Giving give) means = giving-works give.slot give.at means
  returning-works _ means = means.works.0
