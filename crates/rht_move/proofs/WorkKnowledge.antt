-- What a resizing knows in each state: what it holds of the work, and of the table that it makes.
use Rattle.std.proofs.Common.{ℕ, ◌+◌, Bool, true, false, List, [], ◌∷◌, Some, None}
use Rattle.std.specs.Prelude.{if◌then◌else◌}
use Rattle.rht_words.specs.declared.env.Env.{Env}
use Rattle.rht_words.specs.declared.machine.Next.{Next}
use Rattle.rht_words.specs.declared.machine.Next.TheVariants.{Go, Done}
use Rattle.rht_words.specs.Held as held
use Rattle.rht_words.specs.Shapes.{unpacked, size_of}
use Rattle.rht_words.specs.Operations.{old_of}
use Rattle.rht_words.proofs.Memory.{Memory}
use Rattle.rht_nest.specs.Unmake.{pages_of_unmake}
use Rattle.rht_arena.specs.GiveRun.{pages_of_give_run}
use Rattle.rht_reclaim.specs.ReturnHeld.{is_first_word}
use Rattle.rht_reclaim.specs.declared.keep_sections.KeepSectionsAt.{KeepSectionsAt}
use Rattle.rht_reclaim.specs.declared.keep_sections.KeepSectionsAt.TheVariants as keeps
use Rattle.rht_reclaim.specs.declared.give_table.GiveTableAt.{GiveTableAt}
use Rattle.rht_reclaim.specs.declared.give_table.GiveTableAt.TheVariants as gives
use Rattle.rht_reclaim.specs.declared.return_tables.ReturnTablesAt.{ReturnTablesAt}
use Rattle.rht_reclaim.specs.declared.return_tables.ReturnTablesAt.TheVariants as returns
use Rattle.rht_model.specs.declared.history.Call.TheVariants as calls
use Rattle.rht_model.specs.declared.history.Reply.{Reply}
use Rattle.rht_model.specs.Answers.{plain}
use Rattle.rht_move.specs.declared.last_table.LastTableAt.{LastTableAt}
use Rattle.rht_move.specs.declared.last_table.LastTableAt.TheVariants as seeks
use Rattle.rht_move.specs.declared.last_entry.Entry.{Entry}
use Rattle.rht_move.specs.declared.rehash.Rehash.{Rehash}
use Rattle.rht_move.specs.declared.rehash.Emptying.{Emptying}
use Rattle.rht_move.specs.declared.rehash.Target.{Target}
use Rattle.rht_move.specs.declared.work.Due.{Due}
use Rattle.rht_move.specs.declared.work.Due.TheVariants as dues
use Rattle.rht_move.specs.declared.work.ending.Ending.{Ending}
use Rattle.rht_move.specs.declared.work.ending.Ending.TheVariants as endings
use Rattle.rht_move.specs.declared.work.WorkAt.{WorkAt}
use Rattle.rht_move.specs.declared.work.WorkAt.TheVariants as at
use Rattle.rht_move.specs.Work.{plan_at, after_at}
use Rattle.rht_move.specs.WorkHeld.{held_of_work}
use Rattle.rht_ghost.proofs.Theory.Ghosts.{Ghost}
use Rattle.rht_ghost.proofs.Theory.Knowns.{Known, KnownMaking, MakesNothing, HasPages, HasTaken, HasMade, HasBack, KnownAim, NoAim, Onward, From, Beyond, KnownRehash, KnownPlace, KnownEntry, KnownWork, NoWork, Works, Rooted, Follows, Empties, LeavesBehind, Nears, Faces, InBucket, Bare, AtEntry, AtTail, Aims, Brings, TakesOut, HasBrought, HasKept, HasLoadedWord, Asks, Compares, GivesBack, Over, InRun, AtTop, AtLeaf, ClearsLeaf, ClearsTop}
use Rattle.rht_ghost.proofs.Theory.Knowledge.{Knowing}
use Rattle.rht_ghost.proofs.Theory.Steps.{Holding, Step}
use Rattle.rht_ghost.proofs.Pieces.Holdings.{bare_slot}
use Rattle.rht_ghost.proofs.Pieces.Makes.{known_of_make}
use Rattle.rht_ghost.proofs.Pieces.WorkSteps.{knows_work}
use Rattle.rht_ghost.proofs.Theory.Knowns.{known_nothing}

-- a move of the current table, a bucket that is emptied, and an entry, as they are known
abbrev pub known_rehash : Rehash → KnownRehash
known_rehash rehash = record { root = rehash.root; future = rehash.future; shape = rehash.shape }

abbrev pub known_place : Emptying → KnownPlace
known_place emptying =
    record { number = emptying.number; place = emptying.bucket.place; word = emptying.bucket.word }

abbrev pub known_entry : Entry → KnownEntry
known_entry entry = record { node = entry.node; before = entry.before }

-- the search for the last table from the current one on, and for the table to which an entry goes
abbrev pub last_aim : LastTableAt → KnownAim
last_aim (seeks.Future slot) = From slot
last_aim (seeks.Shape slot) = From slot

abbrev pub entry_aim : LastTableAt → KnownAim
entry_aim (seeks.Future slot) = From slot
entry_aim (seeks.Shape slot) = Beyond slot None None

-- that table, once its shape and its seed are known
abbrev pub target_aim : Target → KnownAim
target_aim target = Beyond target.table (Some target.shape) (Some target.seed)

-- a bucket that is unlocked has no entry, unless the move stops there
abbrev pub known_unlocking : Rehash → KnownPlace → Bool → KnownWork
known_unlocking rehash place true = InBucket (known_rehash rehash) place NoAim
known_unlocking rehash place false = Bare (known_rehash rehash) place

abbrev pub in_bucket : Emptying → KnownAim → KnownWork
in_bucket emptying aim = InBucket (known_rehash emptying.rehash) (known_place emptying) aim

-- where a table was due, one is behind the current one before it is moved
abbrev pub due_aim : Due → KnownAim
due_aim dues.Nothing = NoAim
due_aim dues.Attached = Onward
due_aim dues.Later = Onward

-- behind the closing of its section a table that is left behind is still to be retired
abbrev pub known_ending : Ending → KnownWork
known_ending (endings.Retiring root again) = LeavesBehind root
known_ending (endings.LettingGo outcome) = Works

-- while section words are kept: of how many callers, and which word was loaded of the next one
abbrev pub known_keeping : ℕ → KeepSectionsAt → KnownWork
known_keeping slot (keeps.Section caller) = HasKept slot caller
known_keeping slot (keeps.Word caller word) = HasLoadedWord slot caller word

-- Of a table that is given back: its run, or to which pages its entries lead still. From the first pages of its run on, or its top page,
-- it is no table any more.
abbrev pub known_giving : ℕ → GiveTableAt → KnownWork
known_giving slot gives.Shape = GivesBack slot Over
known_giving slot (gives.Run give) = if is_first_word give then GivesBack slot (InRun give.first give.pages) else Works
known_giving slot (gives.TopEntry shape top) = GivesBack slot (AtTop shape top)
known_giving slot (gives.LeafEntry shape top page leaf) = GivesBack slot (AtLeaf shape top page leaf)
known_giving slot (gives.ClearLeaf shape top page leaf below) = GivesBack slot (ClearsLeaf shape top page leaf below)
known_giving slot (gives.GiveLeaf shape top page leaf below) = GivesBack slot (AtLeaf shape top page (leaf + 1))
known_giving slot (gives.ClearTop shape top page) = GivesBack slot (ClearsTop shape top page)
known_giving slot (gives.GivePage shape top page) = GivesBack slot (AtTop shape (top + 1))
known_giving slot (gives.GiveTop shape) = GivesBack slot (AtTop shape 64)
known_giving slot gives.FreeSlot = Works

-- and of what was its own
abbrev pub made_giving : ℕ → GiveTableAt → KnownMaking
made_giving slot gives.Shape = MakesNothing
made_giving slot (gives.Run give) = if is_first_word give then MakesNothing else HasBack slot (pages_of_give_run give)
made_giving slot (gives.TopEntry shape top) = MakesNothing
made_giving slot (gives.LeafEntry shape top page leaf) = MakesNothing
made_giving slot (gives.ClearLeaf shape top page leaf below) = MakesNothing
made_giving slot (gives.GiveLeaf shape top page leaf below) = HasPages (below ∷ [])
made_giving slot (gives.ClearTop shape top page) = MakesNothing
made_giving slot (gives.GivePage shape top page) = HasPages (page ∷ [])
made_giving slot (gives.GiveTop shape) = MakesNothing
made_giving slot gives.FreeSlot = HasBack slot []

-- while retired tables are given back
abbrev pub known_returning : ReturnTablesAt → KnownWork
known_returning (returns.State slot) = Works
known_returning (returns.KeptWord slot caller) = Asks slot caller
known_returning (returns.SectionWord slot caller kept) = Compares slot caller kept
known_returning (returns.Giving give) = known_giving give.slot give.at

abbrev pub made_returning : ReturnTablesAt → KnownMaking
made_returning (returns.State slot) = MakesNothing
made_returning (returns.KeptWord slot caller) = MakesNothing
made_returning (returns.SectionWord slot caller kept) = MakesNothing
made_returning (returns.Giving give) = made_giving give.slot give.at

-- what is known of the work in a state
abbrev pub known_at_work : WorkAt → KnownWork
known_at_work at.WorkLock = NoWork
known_at_work (at.Returning returns) = known_returning returns.at
known_at_work at.Opening = Works
known_at_work at.CurrentTable = Works
known_at_work (at.LastTable root seek) = Rooted root (last_aim seek.at)
known_at_work (at.Count root last) = Rooted root (From last.table)
known_at_work (at.Making wanted make) = Rooted wanted.root (From wanted.last.table)
known_at_work (at.Attaching root last slot shape) = Rooted root (From last)
known_at_work (at.Unmaking root unmake) = Rooted root Onward
known_at_work (at.RootFuture root due) = Rooted root (due_aim due)
known_at_work (at.RootShape root future again) = Follows root future
known_at_work (at.Entry rehash number place) = Nears (known_rehash rehash) number place
known_at_work (at.Locking rehash number lock) = Faces (known_rehash rehash) number lock.place
known_at_work (at.EntryTable emptying seek) = in_bucket emptying (entry_aim seek.at)
known_at_work (at.Seed emptying last) = in_bucket emptying (Beyond last.table (Some last.shape) None)
known_at_work (at.BucketWord emptying target) = in_bucket emptying (target_aim target)
known_at_work (at.Walking emptying target walk) =
    AtEntry (known_rehash emptying.rehash) (known_place emptying)
    (record { node = walk.node; before = walk.before }) (target_aim target)
known_at_work (at.Key emptying target entry) =
    AtTail (known_rehash emptying.rehash) (known_place emptying) (known_entry entry) (target_aim target)
known_at_work (at.LockingSecond emptying entry table lock) =
    Aims (known_rehash emptying.rehash) (known_place emptying) (known_entry entry) lock.place
known_at_work (at.EntryLink emptying entry second) =
    Brings (known_rehash emptying.rehash) (known_place emptying) (known_entry entry) second.bucket.place
    second.bucket.word
known_at_work (at.Linking emptying entry second) =
    TakesOut (known_rehash emptying.rehash) (known_place emptying) (known_entry entry) second.bucket.place
    second.bucket.word
known_at_work (at.CuttingOff emptying entry) =
    HasBrought (known_rehash emptying.rehash) (known_place emptying) (known_entry entry)
known_at_work (at.Unlocking rehash number unlock stop) =
    known_unlocking rehash (record { number = number; place = unlock.place; word = unlock.word }) stop
known_at_work (at.Publishing rehash) = Empties (known_rehash rehash) (size_of (unpacked rehash.shape))
known_at_work (at.NewFuture rehash) = LeavesBehind rehash.root
known_at_work (at.Closing ending) = known_ending ending
known_at_work (at.Retiring root again) = LeavesBehind root
known_at_work (at.KeepingSections keep again) = known_keeping keep.slot keep.at
known_at_work (at.LettingGo outcome) = Works

-- and of a table that is made, or that was one
abbrev pub made_at_work : WorkAt → KnownMaking
made_at_work at.WorkLock = MakesNothing
made_at_work (at.Returning returns) = made_returning returns.at
made_at_work at.Opening = MakesNothing
made_at_work at.CurrentTable = MakesNothing
made_at_work (at.LastTable root seek) = MakesNothing
made_at_work (at.Count root last) = MakesNothing
made_at_work (at.Making wanted make) = known_of_make make.exponent make.seed make.at
made_at_work (at.Attaching root last slot shape) = HasMade slot shape
made_at_work (at.Unmaking root unmake) = HasTaken (bare_slot unmake.slot) (pages_of_unmake unmake.at)
made_at_work (at.RootFuture root due) = MakesNothing
made_at_work (at.RootShape root future again) = MakesNothing
made_at_work (at.Entry rehash number place) = MakesNothing
made_at_work (at.Locking rehash number lock) = MakesNothing
made_at_work (at.EntryTable emptying seek) = MakesNothing
made_at_work (at.Seed emptying last) = MakesNothing
made_at_work (at.BucketWord emptying target) = MakesNothing
made_at_work (at.Walking emptying target walk) = MakesNothing
made_at_work (at.Key emptying target entry) = MakesNothing
made_at_work (at.LockingSecond emptying entry table lock) = MakesNothing
made_at_work (at.EntryLink emptying entry second) = MakesNothing
made_at_work (at.Linking emptying entry second) = MakesNothing
made_at_work (at.CuttingOff emptying entry) = MakesNothing
made_at_work (at.Unlocking rehash number unlock stop) = MakesNothing
made_at_work (at.Publishing rehash) = MakesNothing
made_at_work (at.NewFuture rehash) = MakesNothing
made_at_work (at.Closing ending) = MakesNothing
made_at_work (at.Retiring root again) = MakesNothing
made_at_work (at.KeepingSections keep again) = MakesNothing
made_at_work (at.LettingGo outcome) = MakesNothing

abbrev pub known_of_work : WorkAt → Known
known_of_work state = knows_work (made_at_work state) (known_at_work state)

-- what the call holds behind an operation
abbrev pub work_holds : WorkAt × Next Reply → Holding
work_holds (state, Go) = held_of_work state
work_holds (state, Done reply) = held.ended_with (plain reply)

module _ (env : Env) (mix : ℕ → ℕ → ℕ → ℕ) (c : ℕ) where
  abbrev pub WorkKnows : WorkAt → Memory → Ghost → Type 0
  WorkKnows state M G = Knowing env mix c (held_of_work state) (known_of_work state) M G

  abbrev pub WorkNext : WorkAt × Next Reply → Memory → Ghost → Type 0
  WorkNext (state, Go) M G = WorkKnows state M G
  WorkNext (state, Done reply) M G = Knowing env mix c (held.ended_with (plain reply)) known_nothing M G

  module _ (words : List ℕ) (G : Ghost) where
    -- what an operation leads to from a state
    abbrev pub WorkMoved : WorkAt → WorkAt × Next Reply → Type 0
    WorkMoved state r =
        Step env mix c calls.Work words G (plan_at env c state) (held_of_work state) (work_holds r)
        (WorkNext r)

    abbrev pub WorkStep : WorkAt → Type 0
    WorkStep state = WorkMoved state (after_at mix env state (old_of words (plan_at env c state)))
