-- The resizing of a table: what each state performs, and what comes after it.
use Rattle.std.specs.Prelude.{◌≡◌, ℕ, ◌+◌, ◌<◌, ◌≤◌, ◌==◌, ◌||◌, nat_lt, Bool, true, false, Option, None, Some, if◌then◌else◌}
use Rattle.rht_words.specs.declared.op.Op.{Op}
use Rattle.rht_words.specs.declared.op.Op.TheVariants.{Load, Store, Exchange}
use Rattle.rht_words.specs.declared.machine.Next.{Next}
use Rattle.rht_words.specs.declared.machine.Next.TheVariants.{Go, Done}
use Rattle.rht_words.specs.declared.env.Env.{Env}
use Rattle.rht_words.specs.declared.geometry.Geometry.{Geometry}
use Rattle.rht_words.specs.Links.{table_of, slot_of, future_of, node_of, link_of, head_of, marker_of, unlocked}
use Rattle.rht_words.specs.Planned.{IsWord}
use Rattle.rht_words.specs.Ports.{port_of}
use Rattle.rht_words.specs.Shapes.{size_of, unpacked}
use Rattle.rht_words.specs.Places.{CurrentTable, WorkLock, PortCount, Slot, ShapeWord, SeedWord, FutureWord, StateWord, Node, ChainLink, KeyWord, place_of}
use Rattle.rht_policy.specs.Mix.{bucket_of}
use Rattle.rht_grace.specs.Sections.{turning}
use Rattle.rht_nest.specs.Place.{PlaceModel, flat_place, nested_place, place_plan, place_after, IsPlaceIn}
use Rattle.rht_nest.specs.Tables.{exponent_made, is_nested}
use Rattle.rht_nest.specs.declared.place.Bucket.{Bucket}
use Rattle.rht_nest.specs.declared.place.Bucket.TheVariants.{At, Absent}
use Rattle.rht_nest.specs.Make.{MakeModel, make_new, make_plan, make_after, IsMakeIn, IsMadeIn}
use Rattle.rht_nest.specs.Unmake.{UnmakeModel, unmake_new, unmake_plan, unmake_after, IsUnmakeIn}
use Rattle.rht_chain.specs.Lock.{LockModel, lock_new, lock_plan, lock_after, IsLockIn}
use Rattle.rht_chain.specs.Locked.{IsLockedIn}
use Rattle.rht_chain.specs.Unlock.{unlock_plan, IsUnlockIn}
use Rattle.rht_chain.specs.declared.unlock.Unlock.{Unlock}
use Rattle.rht_model.specs.declared.history.Reply.{Reply}
use Rattle.rht_model.specs.declared.history.Reply.TheVariants as replies
use Rattle.rht_reclaim.specs.KeepSections.{KeepSectionsModel, keep_sections_new, keep_sections_plan, keep_sections_after, IsKeepSectionsIn}
use Rattle.rht_reclaim.specs.ReturnTables.{ReturnTablesModel, return_tables_new, return_tables_plan, return_tables_after, IsReturnTablesIn}
use Rattle.rht_move.specs.LastTable.{LastTableModel, last_table_new, last_table_plan, last_table_after, IsLastTableIn, IsLastIn}
use Rattle.rht_move.specs.LastEntry.{LastEntryModel, last_entry_new, last_entry_plan, last_entry_after, IsLastEntryIn, IsEntryIn}
use Rattle.rht_move.specs.declared.last_table.Last.{Last}
use Rattle.rht_move.specs.declared.last_entry.Entry.{Entry}
use Rattle.rht_move.specs.declared.rehash.Rehash.{Rehash}
use Rattle.rht_move.specs.declared.rehash.Emptying.{Emptying}
use Rattle.rht_move.specs.declared.rehash.Target.{Target}
use Rattle.rht_move.specs.declared.rehash.Second.{Second}
use Rattle.rht_move.specs.Choice.{choice_of}
use Rattle.rht_move.specs.declared.work.choice.Choice.{Choice}
use Rattle.rht_move.specs.declared.work.choice.Choice.TheVariants.{Attach, Later, Nothing}
use Rattle.rht_move.specs.declared.work.Wanted.{Wanted}
use Rattle.rht_move.specs.declared.work.Due.{Due}
use Rattle.rht_move.specs.declared.work.Due.TheVariants as dues
use Rattle.rht_move.specs.declared.work.Outcome.{Outcome}
use Rattle.rht_move.specs.declared.work.Outcome.TheVariants.{Idle, NoTable, Moved}
use Rattle.rht_move.specs.declared.work.ending.Ending.{Ending}
use Rattle.rht_move.specs.declared.work.ending.Ending.TheVariants as endings
use Rattle.rht_move.specs.declared.work.WorkAt.{WorkAt}
use Rattle.rht_move.specs.declared.work.WorkAt.TheVariants as at

-- what contracts see of the machine
pub record WorkModel : Type 0 where
  pub env : Env
  pub caller : ℕ
  pub at : WorkAt

-- it begins with the work lock
abbrev pub work_new : Env → ℕ → WorkModel
work_new env caller = record { env = env; caller = caller; at = at.WorkLock }

-- the chain of the bucket at this place is ended before its last entry: in the node before that one, or in the bucket's word,
-- which stays locked
abbrev pub cut_plan : Geometry → ℕ → Option ℕ → Op
cut_plan g place None = Store place 1
cut_plan g place (Some before) = Store (place_of g (Node before ChainLink)) (marker_of place)

-- the state's one operation
abbrev pub plan_at : Env → ℕ → WorkAt → Op
plan_at env caller at.WorkLock = Exchange (place_of env.geometry WorkLock) 0 1
plan_at env caller (at.Returning returns) = return_tables_plan returns
plan_at env caller at.Opening = turning caller
plan_at env caller at.CurrentTable = Load (place_of env.geometry CurrentTable)
plan_at env caller (at.LastTable root seek) = last_table_plan seek
plan_at env caller (at.Count root last) = Load (place_of env.geometry PortCount)
plan_at env caller (at.Making wanted make) = make_plan make
plan_at env caller (at.Attaching root last slot shape) =
    Exchange (place_of env.geometry (Slot last FutureWord)) 0 (future_of slot)
plan_at env caller (at.Unmaking root unmake) = unmake_plan unmake
plan_at env caller (at.RootFuture root due) = Load (place_of env.geometry (Slot root FutureWord))
plan_at env caller (at.RootShape root future again) = Load (place_of env.geometry (Slot root ShapeWord))
plan_at env caller (at.Entry rehash number place) = place_plan place
plan_at env caller (at.Locking rehash number lock) = lock_plan lock
plan_at env caller (at.EntryTable emptying seek) = last_table_plan seek
plan_at env caller (at.Seed emptying last) = Load (place_of env.geometry (Slot last.table SeedWord))
plan_at env caller (at.BucketWord emptying target) = Load emptying.bucket.place
plan_at env caller (at.Walking emptying target walk) = last_entry_plan walk
plan_at env caller (at.Key emptying target entry) = Load (place_of env.geometry (Node entry.node KeyWord))
plan_at env caller (at.LockingSecond emptying entry table lock) = lock_plan lock
plan_at env caller (at.EntryLink emptying entry second) =
    Store (place_of env.geometry (Node entry.node ChainLink)) (head_of second.bucket.place second.bucket.word)
plan_at env caller (at.Linking emptying entry second) = Store second.bucket.place (link_of entry.node)
plan_at env caller (at.CuttingOff emptying entry) = cut_plan env.geometry emptying.bucket.place entry.before
plan_at env caller (at.Unlocking rehash number unlock stop) = unlock_plan unlock
plan_at env caller (at.Publishing rehash) = Store (place_of env.geometry CurrentTable) rehash.future
plan_at env caller (at.NewFuture rehash) = Load (place_of env.geometry (Slot rehash.future FutureWord))
plan_at env caller (at.Closing ending) = turning caller
plan_at env caller (at.Retiring root again) = Store (place_of env.geometry (Slot root StateWord)) 2
plan_at env caller (at.KeepingSections keep again) = keep_sections_plan keep
plan_at env caller (at.LettingGo outcome) = Store (place_of env.geometry WorkLock) 0

abbrev pub work_plan : WorkModel → Op
work_plan m = plan_at m.env m.caller m.at

-- ---- the work lock, and a table that is due

-- the slots are gone through, and then the section is opened
abbrev pub returning : Geometry → WorkAt
returning g = at.Returning (return_tables_new g)

abbrev pub returned : ReturnTablesModel → Next (Unit {0}) → WorkAt
returned returns Go = at.Returning returns
returned returns (Done done) = at.Opening

-- where the work lock was free it is taken, and retired tables are given back; else another caller is at work
abbrev pub lock_seen : Geometry → ℕ → WorkAt × Next Reply
lock_seen g lock = if lock == 0 then (returning g, Go) else (at.WorkLock, Done replies.Elsewhere)

-- the section is closed, and then the work lock let go of by a call that ends so
abbrev pub letting_go : Outcome → WorkAt
letting_go outcome = at.Closing (endings.LettingGo outcome)

-- the last table is looked for, from the current one on
abbrev pub seeking : Geometry → ℕ → WorkAt
seeking g root = at.LastTable root (last_table_new g root)

-- once it is known the ports are counted
abbrev pub last_seen : ℕ → LastTableModel → Next Last → WorkAt
last_seen root seek Go = at.LastTable root seek
last_seen root seek (Done last) = at.Count root last

-- a table that is due is made, and else the current table is looked at
abbrev pub begun : Env → ℕ → Last → Choice → WorkAt
begun env root last (Attach size) =
    at.Making (record { root = root; last = last; size = size }) (make_new env.geometry size env.config.seed false)
begun env root last Later = at.RootFuture root dues.Later
begun env root last Nothing = at.RootFuture root dues.Nothing

abbrev pub counted : Env → ℕ → Last → ℕ → WorkAt
counted env root last count = begun env root last (choice_of env count last.shape (root == last.table))

-- where it can't be had the call is refused, if the last table is the current one or nested, and else the current one is moved
abbrev pub not_made : Wanted → WorkAt
not_made wanted =
    if (wanted.root == wanted.last.table) || is_nested wanted.last.shape then letting_go (NoTable wanted.size)
    else at.RootFuture wanted.root dues.Later

-- once it is made it is attached
abbrev pub made : Wanted → MakeModel → Next (Option (ℕ × ℕ)) → WorkAt
made wanted make Go = at.Making wanted make
made wanted make (Done None) = not_made wanted
made wanted make (Done (Some (slot, shape))) = at.Attaching wanted.root wanted.last.table slot shape

-- where another one was attached behind the last table before, the new one is given back
abbrev pub attached : Geometry → ℕ → ℕ → ℕ → ℕ → WorkAt
attached g root slot shape future =
    if future == 0 then at.RootFuture root dues.Attached else at.Unmaking root (unmake_new g slot shape)

-- and the table that was due isn't attached in this call
abbrev pub unmade : ℕ → UnmakeModel → Next (Unit {0}) → WorkAt
unmade root unmake Go = at.Unmaking root unmake
unmade root unmake (Done done) = at.RootFuture root dues.Later

-- a table is due that isn't attached in this call, so that a further one has something to do
abbrev pub is_later : Due → Bool
is_later dues.Nothing = false
is_later dues.Attached = false
is_later dues.Later = true

-- a current table with a future is emptied; where it has none, nothing is to be done
abbrev pub future_or_idle : ℕ → Due → Option ℕ → WorkAt
future_or_idle root due None = letting_go Idle
future_or_idle root due (Some future) = at.RootShape root future (is_later due)

-- ---- the move of the current table

-- a bucket of a flat table is locked; in a nested one the way to it leads over entries
abbrev pub bucket_of_root : Geometry → Rehash → ℕ → WorkAt
bucket_of_root g rehash number =
    if is_nested rehash.shape then at.Entry rehash number (nested_place g rehash.shape number)
    else at.Locking rehash number (lock_new (flat_place g rehash.shape number))

-- behind a bucket comes the next one, and behind the last one the table is empty
abbrev pub next_bucket : Geometry → Rehash → ℕ → WorkAt
next_bucket g rehash number =
    if nat_lt (number + 1) (size_of (unpacked rehash.shape)) then bucket_of_root g rehash (number + 1)
    else at.Publishing rehash

-- after an entry comes the next one, or the bucket, which is locked; one that is missing is empty, and is passed by
abbrev pub entry_passed : Geometry → Rehash → ℕ → PlaceModel → Next Bucket → WorkAt
entry_passed g rehash number place Go = at.Entry rehash number place
entry_passed g rehash number place (Done (At word)) = at.Locking rehash number (lock_new word)
entry_passed g rehash number place (Done (Absent entry)) = next_bucket g rehash number

-- the last table is looked for anew for each entry
abbrev pub entry_table : Geometry → Emptying → WorkAt
entry_table g emptying = at.EntryTable emptying (last_table_new g emptying.rehash.root)

-- a bucket that is locked is emptied, entry by entry
abbrev pub locked : Geometry → Rehash → ℕ → LockModel → Next ℕ → WorkAt
locked g rehash number lock Go = at.Locking rehash number lock
locked g rehash number lock (Done word) =
    entry_table g (record { rehash = rehash; number = number; bucket = record { place = lock.place; word = word } })

-- the bucket is unlocked, and then the move goes on or stops
abbrev pub unlocking : Emptying → Bool → WorkAt
unlocking emptying stop =
    at.Unlocking emptying.rehash emptying.number
    (record { place = emptying.bucket.place; word = emptying.bucket.word }) stop

-- nothing is moved to a nested table
abbrev pub entry_table_seen : Emptying → LastTableModel → Next Last → WorkAt
entry_table_seen emptying seek Go = at.EntryTable emptying seek
entry_table_seen emptying seek (Done last) =
    if is_nested last.shape then unlocking emptying true else at.Seed emptying last

-- the bucket's word, without its lock, is now this
abbrev pub with_word : Emptying → ℕ → Emptying
with_word emptying word = record emptying { bucket = record { place = emptying.bucket.place; word = word } }

-- from the bucket's first entry on the last one is looked for; a bucket without an entry is unlocked
abbrev pub entry_or_empty : Geometry → Emptying → Target → Option ℕ → WorkAt
entry_or_empty g emptying target None = unlocking emptying false
entry_or_empty g emptying target (Some first) = at.Walking emptying target (last_entry_new g first)

abbrev pub first_entry : Geometry → Emptying → Target → ℕ → WorkAt
first_entry g emptying target word =
    entry_or_empty g (with_word emptying (unlocked word)) target
    (node_of g.nodes (head_of emptying.bucket.place (unlocked word)))

-- once it is known its key is loaded
abbrev pub walked : Emptying → Target → LastEntryModel → Next Entry → WorkAt
walked emptying target walk Go = at.Walking emptying target walk
walked emptying target walk (Done entry) = at.Key emptying target entry

-- its bucket in the last table, which is flat, is locked too
abbrev pub keyed : (ℕ → ℕ → ℕ → ℕ) → Geometry → Emptying → Target → Entry → ℕ → WorkAt
keyed mix g emptying target entry key =
    let bucket = bucket_of mix (port_of key) target.shape target.seed in
    at.LockingSecond emptying entry target.table (lock_new (flat_place g target.shape bucket))

-- with both buckets locked the entry is linked anew
abbrev pub second_locked : Emptying → Entry → ℕ → LockModel → Next ℕ → WorkAt
second_locked emptying entry table lock Go = at.LockingSecond emptying entry table lock
second_locked emptying entry table lock (Done word) =
    at.EntryLink emptying entry (record { table = table; bucket = record { place = lock.place; word = word } })

-- an entry that was cut off leaves the bucket empty where none was before it
abbrev pub cut_off : Geometry → Emptying → Option ℕ → WorkAt
cut_off g emptying None = entry_table g (with_word emptying 0)
cut_off g emptying (Some before) = entry_table g emptying

-- behind the unlocking the next bucket is emptied, or the move has stopped
abbrev pub unlocked_bucket : Geometry → Rehash → ℕ → Bool → WorkAt
unlocked_bucket g rehash number stop =
    if stop then letting_go (Moved true) else next_bucket g rehash number

-- the section is closed, and then the table before retired; where the new current one has a future, there is more to do
abbrev pub retiring : Rehash → Option ℕ → WorkAt
retiring rehash None = at.Closing (endings.Retiring rehash.root rehash.again)
retiring rehash (Some next) = at.Closing (endings.Retiring rehash.root true)

-- what comes behind the closing
abbrev pub closed : Ending → WorkAt
closed (endings.Retiring root again) = at.Retiring root again
closed (endings.LettingGo outcome) = at.LettingGo outcome

-- behind the retiring the section words are kept in the table's slot, and then the work lock is let go of
abbrev pub keeping : Geometry → ℕ → Bool → WorkAt
keeping g root again = at.KeepingSections (keep_sections_new g root) again

abbrev pub kept : KeepSectionsModel → Bool → Next (Unit {0}) → WorkAt
kept keep again Go = at.KeepingSections keep again
kept keep again (Done done) = at.LettingGo (Moved again)

-- and how the call ends then
abbrev pub outcome_of : Ending → Outcome
outcome_of (endings.Retiring root again) = Moved again
outcome_of (endings.LettingGo outcome) = outcome

-- what a call answers that has let go of the work lock
abbrev pub reply_of : Outcome → Reply
reply_of Idle = replies.Idle
reply_of (NoTable size) = replies.NoTable size
reply_of (Moved again) = replies.Moved again

-- ---- all states

-- where the worker stands after a state that found this word, and what it says
abbrev pub after_at : (ℕ → ℕ → ℕ → ℕ) → Env → WorkAt → ℕ → WorkAt × Next Reply
after_at mix env at.WorkLock word = lock_seen env.geometry word
after_at mix env (at.Returning returns) word =
    (returned (return_tables_after returns word).0 (return_tables_after returns word).1, Go)
after_at mix env at.Opening word = (at.CurrentTable, Go)
after_at mix env at.CurrentTable word = (seeking env.geometry (table_of word), Go)
after_at mix env (at.LastTable root seek) word =
    (last_seen root (last_table_after seek word).0 (last_table_after seek word).1, Go)
after_at mix env (at.Count root last) word = (counted env root last word, Go)
after_at mix env (at.Making wanted make) word = (made wanted (make_after make word).0 (make_after make word).1, Go)
after_at mix env (at.Attaching root last slot shape) word = (attached env.geometry root slot shape word, Go)
after_at mix env (at.Unmaking root unmake) word =
    (unmade root (unmake_after unmake word).0 (unmake_after unmake word).1, Go)
after_at mix env (at.RootFuture root due) word = (future_or_idle root due (slot_of word), Go)
after_at mix env (at.RootShape root future again) word =
    (bucket_of_root env.geometry (record { root = root; future = future; shape = word; again = again }) 0, Go)
after_at mix env (at.Entry rehash number place) word =
    (entry_passed env.geometry rehash number (place_after place word).0 (place_after place word).1, Go)
after_at mix env (at.Locking rehash number lock) word =
    (locked env.geometry rehash number (lock_after lock word).0 (lock_after lock word).1, Go)
after_at mix env (at.EntryTable emptying seek) word =
    (entry_table_seen emptying (last_table_after seek word).0 (last_table_after seek word).1, Go)
after_at mix env (at.Seed emptying last) word =
    (at.BucketWord emptying (record { table = last.table; shape = last.shape; seed = word }), Go)
after_at mix env (at.BucketWord emptying target) word = (first_entry env.geometry emptying target word, Go)
after_at mix env (at.Walking emptying target walk) word =
    (walked emptying target (last_entry_after walk word).0 (last_entry_after walk word).1, Go)
after_at mix env (at.Key emptying target entry) word = (keyed mix env.geometry emptying target entry word, Go)
after_at mix env (at.LockingSecond emptying entry table lock) word =
    (second_locked emptying entry table (lock_after lock word).0 (lock_after lock word).1, Go)
after_at mix env (at.EntryLink emptying entry second) word = (at.Linking emptying entry second, Go)
after_at mix env (at.Linking emptying entry second) word = (at.CuttingOff emptying entry, Go)
after_at mix env (at.CuttingOff emptying entry) word = (cut_off env.geometry emptying entry.before, Go)
after_at mix env (at.Unlocking rehash number unlock stop) word =
    (unlocked_bucket env.geometry rehash number stop, Go)
after_at mix env (at.Publishing rehash) word = (at.NewFuture rehash, Go)
after_at mix env (at.NewFuture rehash) word = (retiring rehash (slot_of word), Go)
after_at mix env (at.Closing ending) word = (closed ending, Go)
after_at mix env (at.Retiring root again) word = (keeping env.geometry root again, Go)
after_at mix env (at.KeepingSections keep again) word =
    (kept (keep_sections_after keep word).0 again (keep_sections_after keep word).1, Go)
after_at mix env (at.LettingGo outcome) word = (at.LettingGo outcome, Done (reply_of outcome))

abbrev pub went_on : WorkModel → WorkAt × Next Reply → WorkModel × Next Reply
went_on m next = (record m { at = next.0 }, next.1)

abbrev pub work_after : (ℕ → ℕ → ℕ → ℕ) → WorkModel → ℕ → WorkModel × Next Reply
work_after mix m word = went_on m (after_at mix m.env m.at word)

-- ---- what a worker names

-- the current table, with which it looks for the last one
pub record IsSeekingIn (g : Geometry) (root : ℕ) (seek : LastTableModel) : Type 0 where
  pub root_in : root < 8
  pub seek_in : IsLastTableIn g seek

-- the current table and the last one
pub record IsCountingIn (root : ℕ) (last : Last) : Type 0 where
  pub root_in : root < 8
  pub last_in : IsLastIn last

-- it makes a flat table of the size that is due, with the config's seed
pub record IsMakingIn (env : Env) (wanted : Wanted) (make : MakeModel) : Type 0 where
  pub wanted_in : IsCountingIn wanted.root wanted.last
  pub size_same : make.exponent ≡ exponent_made wanted.size
  pub seed_same : make.seed ≡ env.config.seed
  pub flat : make.nested ≡ false
  pub make_in : IsMakeIn env.geometry make

-- it attaches a table that was made
pub record IsAttachingIn (g : Geometry) (root last slot shape : ℕ) : Type 0 where
  pub root_in : root < 8
  pub last_in : last < 8
  pub exponent : ℕ
  pub least : 2 ≤ exponent
  pub greatest : exponent ≤ 17
  pub made_in : IsMadeIn g exponent false slot shape

-- it gives that table back
pub record IsUnmakingIn (g : Geometry) (root : ℕ) (unmake : UnmakeModel) : Type 0 where
  pub root_in : root < 8
  pub unmake_in : IsUnmakeIn g unmake

-- the current table and its future one
pub record IsFutureIn (root future : ℕ) : Type 0 where
  pub root_in : root < 8
  pub future_in : future < 8

-- a move of the current table
pub record IsRehashIn (rehash : Rehash) : Type 0 where
  pub tables_in : IsFutureIn rehash.root rehash.future
  pub shape_in : IsWord rehash.shape

-- and a bucket of that table
pub record IsBucketIn (rehash : Rehash) (number : ℕ) : Type 0 where
  pub rehash_in : IsRehashIn rehash
  pub number_in : number < size_of (unpacked rehash.shape)

-- to which it is on the way
pub record IsEntryAtIn (g : Geometry) (rehash : Rehash) (number : ℕ) (place : PlaceModel) : Type 0 where
  pub bucket_in : IsBucketIn rehash number
  pub place_in : IsPlaceIn g place

-- or which it locks
pub record IsLockingIn (g : Geometry) (rehash : Rehash) (number : ℕ) (lock : LockModel) : Type 0 where
  pub bucket_in : IsBucketIn rehash number
  pub lock_in : IsLockIn g lock

-- or unlocks
pub record IsUnlockingIn (g : Geometry) (rehash : Rehash) (number : ℕ) (unlock : Unlock) : Type 0 where
  pub bucket_in : IsBucketIn rehash number
  pub unlock_in : IsUnlockIn g unlock

-- or has locked
pub record IsEmptyingIn (g : Geometry) (emptying : Emptying) : Type 0 where
  pub bucket_in : IsBucketIn emptying.rehash emptying.number
  pub locked_in : IsLockedIn g emptying.bucket

-- and for which it looks for the last table
pub record IsEntryTableIn (g : Geometry) (emptying : Emptying) (seek : LastTableModel) : Type 0 where
  pub emptying_in : IsEmptyingIn g emptying
  pub seek_in : IsLastTableIn g seek

-- and has found it
pub record IsSeedIn (g : Geometry) (emptying : Emptying) (last : Last) : Type 0 where
  pub emptying_in : IsEmptyingIn g emptying
  pub last_in : IsLastIn last

-- and its seed
pub record IsTargetIn (target : Target) : Type 0 where
  pub table_in : target.table < 8
  pub shape_in : IsWord target.shape
  pub seed_in : IsWord target.seed

pub record IsBucketWordIn (g : Geometry) (emptying : Emptying) (target : Target) : Type 0 where
  pub emptying_in : IsEmptyingIn g emptying
  pub target_in : IsTargetIn target

-- and in which it looks for the last entry
pub record IsWalkingIn (g : Geometry) (emptying : Emptying) (target : Target) (walk : LastEntryModel) : Type 0 where
  pub emptying_in : IsEmptyingIn g emptying
  pub target_in : IsTargetIn target
  pub walk_in : IsLastEntryIn g walk

-- and has found it
pub record IsKeyIn (g : Geometry) (emptying : Emptying) (target : Target) (entry : Entry) : Type 0 where
  pub emptying_in : IsEmptyingIn g emptying
  pub target_in : IsTargetIn target
  pub entry_in : IsEntryIn g entry

-- and locks the bucket to which it is to go
pub record IsSecondLockIn (g : Geometry) (emptying : Emptying) (entry : Entry) (table : ℕ) (lock : LockModel) : Type 0
  where
    pub emptying_in : IsEmptyingIn g emptying
    pub entry_in : IsEntryIn g entry
    pub table_in : table < 8
    pub lock_in : IsLockIn g lock

-- and has locked it
pub record IsSecondIn (g : Geometry) (second : Second) : Type 0 where
  pub table_in : second.table < 8
  pub bucket_in : IsLockedIn g second.bucket

pub record IsMovingIn (g : Geometry) (emptying : Emptying) (entry : Entry) (second : Second) : Type 0 where
  pub emptying_in : IsEmptyingIn g emptying
  pub entry_in : IsEntryIn g entry
  pub second_in : IsSecondIn g second

-- and cuts the entry off
pub record IsCuttingIn (g : Geometry) (emptying : Emptying) (entry : Entry) : Type 0 where
  pub emptying_in : IsEmptyingIn g emptying
  pub entry_in : IsEntryIn g entry

-- and behind the closing of its section the table that it retires
abbrev pub IsEndingIn : Ending → Type 0
IsEndingIn (endings.Retiring root again) = root < 8
IsEndingIn (endings.LettingGo outcome) = Unit {0}

-- all that the state names is the table's: slots, nodes and buckets; and the words that it keeps are words
abbrev pub IsWorkAtIn : Env → WorkAt → Type 0
IsWorkAtIn env at.WorkLock = Unit {0}
IsWorkAtIn env (at.Returning returns) = IsReturnTablesIn env.geometry returns
IsWorkAtIn env at.Opening = Unit {0}
IsWorkAtIn env at.CurrentTable = Unit {0}
IsWorkAtIn env (at.LastTable root seek) = IsSeekingIn env.geometry root seek
IsWorkAtIn env (at.Count root last) = IsCountingIn root last
IsWorkAtIn env (at.Making wanted make) = IsMakingIn env wanted make
IsWorkAtIn env (at.Attaching root last slot shape) = IsAttachingIn env.geometry root last slot shape
IsWorkAtIn env (at.Unmaking root unmake) = IsUnmakingIn env.geometry root unmake
IsWorkAtIn env (at.RootFuture root due) = root < 8
IsWorkAtIn env (at.RootShape root future again) = IsFutureIn root future
IsWorkAtIn env (at.Entry rehash number place) = IsEntryAtIn env.geometry rehash number place
IsWorkAtIn env (at.Locking rehash number lock) = IsLockingIn env.geometry rehash number lock
IsWorkAtIn env (at.EntryTable emptying seek) = IsEntryTableIn env.geometry emptying seek
IsWorkAtIn env (at.Seed emptying last) = IsSeedIn env.geometry emptying last
IsWorkAtIn env (at.BucketWord emptying target) = IsBucketWordIn env.geometry emptying target
IsWorkAtIn env (at.Walking emptying target walk) = IsWalkingIn env.geometry emptying target walk
IsWorkAtIn env (at.Key emptying target entry) = IsKeyIn env.geometry emptying target entry
IsWorkAtIn env (at.LockingSecond emptying entry table lock) = IsSecondLockIn env.geometry emptying entry table lock
IsWorkAtIn env (at.EntryLink emptying entry second) = IsMovingIn env.geometry emptying entry second
IsWorkAtIn env (at.Linking emptying entry second) = IsMovingIn env.geometry emptying entry second
IsWorkAtIn env (at.CuttingOff emptying entry) = IsCuttingIn env.geometry emptying entry
IsWorkAtIn env (at.Unlocking rehash number unlock stop) = IsUnlockingIn env.geometry rehash number unlock
IsWorkAtIn env (at.Publishing rehash) = IsRehashIn rehash
IsWorkAtIn env (at.NewFuture rehash) = IsRehashIn rehash
IsWorkAtIn env (at.Closing ending) = IsEndingIn ending
IsWorkAtIn env (at.Retiring root again) = root < 8
IsWorkAtIn env (at.KeepingSections keep again) = IsKeepSectionsIn env.geometry keep
IsWorkAtIn env (at.LettingGo outcome) = Unit {0}

-- a worker of this caller in this table, all that its state names being the table's
pub record IsWorkIn (env : Env) (caller : ℕ) (m : WorkModel) : Type 0 where
  pub same_env : m.env ≡ env
  pub same_caller : m.caller ≡ caller
  pub at_in : IsWorkAtIn env m.at
