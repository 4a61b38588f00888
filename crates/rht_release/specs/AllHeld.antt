-- What a listing holds in each of its states: its read section, the lock of a bucket, and its answer. The answer is held once it is known,
-- or early, should the bucket be missing. A listing is answered without owners from the load of a future on that leads nowhere. With the
-- owners that it has kept it is answered from the load of the list link behind the last one on: the bucket has been locked since before
-- the first, so these are all.
use Rattle.std.specs.Prelude.{ℕ, Some, List, length}
use Rattle.rht_words.specs.Held.{Held, holds_nothing, ended_with}
use Rattle.rht_words.specs.declared.machine.Next.{Next}
use Rattle.rht_words.specs.declared.machine.Next.TheVariants.{Go, Done}
use Rattle.rht_model.specs.Answers.{Answer}
use Rattle.rht_model.specs.declared.history.Reply.{Reply}
use Rattle.rht_model.specs.declared.history.Reply.TheVariants.{Listed}
use Rattle.rht_release.specs.Seek.{holds_section, lock_of_seek, answer_of_seek, early_of_seek}
use Rattle.rht_release.specs.All.{AllModel}
use Rattle.rht_release.specs.declared.all.AllAt.{AllAt}
use Rattle.rht_release.specs.declared.all.AllAt.TheVariants as at

-- the answer with these owners
abbrev pub listing_of : List ℕ → Answer
listing_of owners = record { reply = Listed (length owners); owners = owners }

-- the lock of the bucket at this place
abbrev pub holds_lock : ℕ → Held Answer
holds_lock place = record holds_section { lock = Some place }

-- what it holds in a state, with these owners kept
abbrev pub held_of_all : List ℕ → AllAt → Held Answer
held_of_all owners at.Opening = holds_nothing
held_of_all owners (at.Seeking seek) =
    record holds_section {
      lock = lock_of_seek seek.at;
      answer = answer_of_seek (listing_of owners) seek.at;
      early = early_of_seek (listing_of owners) seek.at;
    }
held_of_all owners (at.Owner found node) = holds_lock found.bucket.place
held_of_all owners (at.ListLink found node) = holds_lock found.bucket.place
held_of_all owners (at.Unlocking table unlock) =
    record holds_section { lock = Some unlock.place; answer = Some (listing_of owners) }
held_of_all owners at.Closing = record holds_section { answer = Some (listing_of owners) }

-- and after an operation; once it has ended it holds nothing, and its answer is known
abbrev pub held_next : AllModel × Next Reply → Held Answer
held_next (m, Go) = held_of_all m.room.items m.at
held_next (m, Done reply) = ended_with (record { reply = reply; owners = m.room.items })
