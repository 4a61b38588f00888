-- What a worker holds in each of its states: the work lock, from the operation that takes it to the one that lets go of it; its read
-- section, while it looks at tables; a slot and pages, until the table is attached or given back; the locks of one bucket or two; and
-- its answer once it is known. It moves entries from the first bucket on, and won't refuse any more.
use Rattle.std.specs.Prelude.{ℕ, Bool, true, false, Option, None, Some, List, if◌then◌else◌}
use Rattle.rht_words.specs.Held.{Held, holds_nothing, ended_with}
use Rattle.rht_words.specs.declared.machine.Next.{Next}
use Rattle.rht_words.specs.declared.machine.Next.TheVariants.{Go, Done}
use Rattle.rht_nest.specs.Tables.{pages_of_shape}
use Rattle.rht_nest.specs.Make.{slot_of_make, pages_of_make}
use Rattle.rht_nest.specs.Unmake.{pages_of_unmake}
use Rattle.rht_reclaim.specs.ReturnHeld.{slot_of_returning, pages_of_returning}
use Rattle.rht_model.specs.Answers.{Answer, plain}
use Rattle.rht_model.specs.declared.history.Reply.{Reply}
use Rattle.rht_model.specs.declared.history.Reply.TheVariants as replies
use Rattle.rht_move.specs.Work.{WorkModel, outcome_of, reply_of}
use Rattle.rht_move.specs.declared.rehash.Emptying.{Emptying}
use Rattle.rht_move.specs.declared.work.Outcome.{Outcome}
use Rattle.rht_move.specs.declared.work.Outcome.TheVariants.{Idle, NoTable, Moved}
use Rattle.rht_move.specs.declared.work.WorkAt.{WorkAt}
use Rattle.rht_move.specs.declared.work.WorkAt.TheVariants as at

-- the work lock alone
abbrev pub holds_work_lock : Held Answer
holds_work_lock = record holds_nothing { worker = true }

-- and the section
abbrev pub holds_work : Held Answer
holds_work = record holds_work_lock { section = true }

-- and a slot, where it has one, and these pages
abbrev pub holds_table : Option ℕ → List ℕ → Held Answer
holds_table slot pages = record holds_work { slot = slot; pages = pages }

-- while entries are moved: the locks of the buckets at these places, where there are any
abbrev pub holds_moving : Option ℕ → Option ℕ → Held Answer
holds_moving lock second = record holds_work { moving = true; lock = lock; second = second }

-- the lock of the bucket that is emptied
abbrev pub holds_bucket : Emptying → Held Answer
holds_bucket emptying = holds_moving (Some emptying.bucket.place) None

-- the answer of a move that stops at this bucket
abbrev pub answer_of_stop : Bool → Option Answer
answer_of_stop stop = if stop then Some (plain (replies.Moved true)) else None

-- a call that ends so has moved entries
abbrev pub has_moved : Outcome → Bool
has_moved Idle = false
has_moved (NoTable size) = false
has_moved (Moved again) = true

-- of a call that ends so: the work lock, and its answer
abbrev pub holds_outcome : Outcome → Held Answer
holds_outcome outcome = record holds_work_lock { moving = has_moved outcome; answer = Some (plain (reply_of outcome)) }

-- what it holds in a state
abbrev pub held_of_work : WorkAt → Held Answer
held_of_work at.WorkLock = holds_nothing
held_of_work (at.Returning returns) =
    record holds_work_lock { slot = slot_of_returning returns.at; pages = pages_of_returning returns.at }
held_of_work at.Opening = holds_work_lock
held_of_work at.CurrentTable = holds_work
held_of_work (at.LastTable root seek) = holds_work
held_of_work (at.Count root last) = holds_work
held_of_work (at.Making wanted make) = holds_table (slot_of_make make.at) (pages_of_make make.exponent make.at)
held_of_work (at.Attaching root last slot shape) = holds_table (Some slot) (pages_of_shape shape)
held_of_work (at.Unmaking root unmake) = holds_table (Some unmake.slot) (pages_of_unmake unmake.at)
held_of_work (at.RootFuture root due) = holds_work
held_of_work (at.RootShape root future again) = holds_work
held_of_work (at.Entry rehash number place) = holds_moving None None
held_of_work (at.Locking rehash number lock) = holds_moving None None
held_of_work (at.EntryTable emptying seek) = holds_bucket emptying
held_of_work (at.Seed emptying last) = holds_bucket emptying
held_of_work (at.BucketWord emptying target) = holds_bucket emptying
held_of_work (at.Walking emptying target walk) = holds_bucket emptying
held_of_work (at.Key emptying target entry) = holds_bucket emptying
held_of_work (at.LockingSecond emptying entry table lock) = holds_bucket emptying
held_of_work (at.EntryLink emptying entry second) =
    holds_moving (Some emptying.bucket.place) (Some second.bucket.place)
held_of_work (at.Linking emptying entry second) =
    holds_moving (Some emptying.bucket.place) (Some second.bucket.place)
held_of_work (at.CuttingOff emptying entry) = holds_bucket emptying
held_of_work (at.Unlocking rehash number unlock stop) =
    record (holds_moving (Some unlock.place) None) { answer = answer_of_stop stop }
held_of_work (at.Publishing rehash) = holds_moving None None
held_of_work (at.NewFuture rehash) = holds_moving None None
held_of_work (at.Closing ending) = record (holds_outcome (outcome_of ending)) { section = true }
held_of_work (at.Retiring root again) = holds_outcome (Moved again)
held_of_work (at.KeepingSections keep again) = holds_outcome (Moved again)
held_of_work (at.LettingGo outcome) = holds_outcome outcome

-- and after an operation; once it has ended it holds nothing, and its answer is known
abbrev pub held_next : WorkModel × Next Reply → Held Answer
held_next (m, Go) = held_of_work m.at
held_next (m, Done reply) = ended_with (plain reply)
