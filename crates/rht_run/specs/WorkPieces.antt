-- A resizing: its states that hold a piece, and what comes behind that.
use Rattle.std.specs.Prelude.{◌≡◌, ℕ, nat_lt, Bool, true, false, refl, Option, None, if◌then◌else◌}
use Rattle.rht_words.specs.declared.env.Env.{Env}
use Rattle.rht_words.specs.declared.geometry.Geometry.{Geometry}
use Rattle.rht_words.specs.Shapes.{size_of, unpacked}
use Rattle.rht_words.specs.declared.machine.Next.{Next}
use Rattle.rht_words.specs.declared.machine.Next.TheVariants.{Go, Done}
use Rattle.rht_chain.specs.Lock.{LockModel}
use Rattle.rht_chain.specs.declared.locked.Locked.{Locked}
use Rattle.rht_nest.specs.Tables.{is_nested}
use Rattle.rht_nest.specs.Make.{make_new}
use Rattle.rht_model.specs.declared.history.Reply.{Reply}
use Rattle.rht_move.specs.LastTable.{LastTableModel}
use Rattle.rht_move.specs.Work.{bucket_of_root, last_seen, letting_go, locked, entry_table, entry_table_seen, unlocking, second_locked}
use Rattle.rht_move.specs.declared.last_table.Last.{Last}
use Rattle.rht_move.specs.declared.last_entry.Entry.{Entry}
use Rattle.rht_move.specs.declared.rehash.Rehash.{Rehash}
use Rattle.rht_move.specs.declared.rehash.Emptying.{Emptying}
use Rattle.rht_move.specs.declared.work.Wanted.{Wanted}
use Rattle.rht_move.specs.declared.work.Outcome.TheVariants.{Moved}
use Rattle.rht_move.specs.declared.work.WorkAt.{WorkAt}
use Rattle.rht_move.specs.declared.work.WorkAt.TheVariants as works
use Rattle.rht_callers.specs.declared.local.Doing.{Doing}
use Rattle.rht_callers.specs.declared.local.Doing.TheVariants.{Working}
use Rattle.rht_run.specs.Rides.{piece_next}
use Rattle.rht_run.specs.Pieces.{locked_of}

-- a table of this size is due behind the last one, which has this slot and this shape
abbrev pub wanted_of : ℕ → ℕ → ℕ → ℕ → Wanted
wanted_of root table shape size =
    record { root = root; last = record { table = table; shape = shape }; size = size }

-- it begins to make that table
abbrev pub making : Env → Wanted → WorkAt
making env wanted = works.Making wanted (make_new env.geometry wanted.size env.config.seed false)

-- a move of all entries of the current table
abbrev pub rehash_of : ℕ → ℕ → ℕ → Bool → Rehash
rehash_of root future shape again = record { root = root; future = future; shape = shape; again = again }

-- the bucket of this number comes next, and behind the last one the table is empty
abbrev pub bucket_or_end : Geometry → Rehash → ℕ → WorkAt
bucket_or_end g rehash number =
    if nat_lt number (size_of (unpacked rehash.shape)) then bucket_of_root g rehash number
    else works.Publishing rehash

-- it has stopped, or all buckets are empty
abbrev pub move_ended : Rehash → Bool → WorkAt
move_ended rehash true = letting_go (Moved true)
move_ended rehash false = works.Publishing rehash

-- an entry goes to the last table, where that is flat, and else the bucket keeps it
abbrev pub entry_sought : Emptying → Last → WorkAt
entry_sought emptying last = if is_nested last.shape then unlocking emptying true else works.Seed emptying last

-- a bucket that is locked is emptied
abbrev pub bucket_locked : Env → Rehash → ℕ → Locked → WorkAt
bucket_locked env rehash number bucket =
    entry_table env.geometry (record { rehash = rehash; number = number; bucket = bucket })

-- the entry goes to this bucket of that table, which is locked too
abbrev pub entry_linked : Emptying → Entry → ℕ → Locked → WorkAt
entry_linked emptying entry table bucket = works.EntryLink emptying entry (record { table = table; bucket = bucket })

module _ {M : Type 0} where
  -- it resizes the table, and stands here
  abbrev pub work_at : Env → ℕ → WorkAt → Doing M
  work_at env caller at = Working (record { env = env; caller = caller; at = at })

  -- and goes on
  abbrev pub work_on : Env → ℕ → WorkAt → Doing M × Option (Reply × Option ℕ)
  work_on env caller at = (work_at env caller at, None)

  pub work_seeking : (env : Env) (caller root : ℕ) (next : LastTableModel × Next Last)
      → ◌≡◌ {A = Doing M × Option (Reply × Option ℕ)} (work_on env caller (last_seen root next.0 next.1))
      (piece_next (λ seek. work_at env caller (works.LastTable root seek)) (λ last. work_on env caller (works.Count root last)) next)
  work_seeking env caller root (seek, Go) = refl
  work_seeking env caller root (seek, Done last) = refl

  pub entry_seeking : (env : Env) (caller : ℕ) (emptying : Emptying) (next : LastTableModel × Next Last)
      → ◌≡◌ {A = Doing M × Option (Reply × Option ℕ)} (work_on env caller (entry_table_seen emptying next.0 next.1))
      (piece_next (λ seek. work_at env caller (works.EntryTable emptying seek)) (λ last. work_on env caller (entry_sought emptying last)) next)
  entry_seeking env caller emptying (seek, Go) = refl
  entry_seeking env caller emptying (seek, Done last) = refl

  pub bucket_locking : (env : Env) (caller : ℕ) (rehash : Rehash) (number : ℕ) (next : LockModel × Next ℕ)
      → ◌≡◌ {A = Doing M × Option (Reply × Option ℕ)} (work_on env caller (locked env.geometry rehash number next.0 next.1))
      (piece_next (λ lock. work_at env caller (works.Locking rehash number lock)) (λ bucket. work_on env caller (bucket_locked env rehash number bucket)) (locked_of next))
  bucket_locking env caller rehash number (lock, Go) = refl
  bucket_locking env caller rehash number (lock, Done word) = refl

  pub second_locking : (env : Env) (caller : ℕ) (emptying : Emptying) (entry : Entry) (table : ℕ) (next : LockModel × Next ℕ)
      → ◌≡◌ {A = Doing M × Option (Reply × Option ℕ)} (work_on env caller (second_locked emptying entry table next.0 next.1))
      (piece_next (λ lock. work_at env caller (works.LockingSecond emptying entry table lock)) (λ bucket. work_on env caller (entry_linked emptying entry table bucket)) (locked_of next))
  second_locking env caller emptying entry table (lock, Go) = refl
  second_locking env caller emptying entry table (lock, Done word) = refl
