-- What a release holds in each of its states: its read section, the lock of a bucket, the raised count, and its answer. The count it has
-- from the store that unlinks a port's only node to the lowering. The answer is held once it is known, or early, should the bucket be
-- missing. A release is answered Absent from the load of a future on that leads nowhere, or of the list link behind the last owner. It
-- takes a binding out with one store: into the list link before a later node, or with the first store of a relinking.
use Rattle.std.specs.Prelude.{ℕ, Bool, true, false, Option, Some, if◌then◌else◌}
use Rattle.rht_words.specs.Held.{Held, holds_nothing, ended_with}
use Rattle.rht_words.specs.declared.machine.Next.{Next}
use Rattle.rht_words.specs.declared.machine.Next.TheVariants.{Go, Done}
use Rattle.rht_model.specs.Answers.{Answer, plain}
use Rattle.rht_model.specs.declared.history.Reply.{Reply}
use Rattle.rht_model.specs.declared.history.Reply.TheVariants.{Released, Absent}
use Rattle.rht_chain.specs.Relink.{has_relinked}
use Rattle.rht_release.specs.Seek.{holds_section, lock_of_seek, answer_of_seek, early_of_seek}
use Rattle.rht_release.specs.Release.{ReleaseModel, removed_reply}
use Rattle.rht_release.specs.declared.found_port.FoundPort.{FoundPort}
use Rattle.rht_release.specs.declared.release.ReleaseAt.{ReleaseAt}
use Rattle.rht_release.specs.declared.release.ReleaseAt.TheVariants as at

-- the lock of the port's bucket
abbrev pub holds_bucket : FoundPort → Held Answer
holds_bucket found = record holds_section { lock = Some found.bucket.place }

-- the answer, once it is known, while nothing else is held
abbrev pub holds_answer : Reply → Held Answer
holds_answer reply = record holds_section { answer = Some (plain reply) }

-- the answer, once a node was taken out; whether a resize is due isn't known yet, and here it is no. The node is in no list any
-- more, and isn't one that the call would link or give back.
abbrev pub holds_removed : Held Answer
holds_removed = holds_answer (Released false)

-- while the chain is changed: from the store of the link on it has the answer, and the count is still to be lowered, or not
abbrev pub holds_relinking : FoundPort → Bool → Bool → Held Answer
holds_relinking found raised stored =
    if stored then record holds_removed { lock = Some found.bucket.place; raised = raised }
    else holds_bucket found

-- what it holds in a state
abbrev pub held_of_release : ReleaseAt → Held Answer
held_of_release at.Opening = holds_nothing
held_of_release (at.Seeking seek) =
    record holds_section {
      lock = lock_of_seek seek.at;
      answer = answer_of_seek (plain Absent) seek.at;
      early = early_of_seek (plain Absent) seek.at;
    }
held_of_release (at.Searching found search) = holds_bucket found
held_of_release (at.LinkBehind found node before) = holds_bucket found
held_of_release (at.CuttingOut found node before link) = holds_bucket found
held_of_release (at.ChainLink found second) = holds_bucket found
held_of_release (at.SecondLink found second link) = holds_bucket found
held_of_release (at.Promoting found relink) =
    holds_relinking found false (has_relinked found.before relink.at)
held_of_release (at.Unlinking found relink) =
    holds_relinking found true (has_relinked found.before relink.at)
held_of_release (at.Lowering node shape) = record holds_removed { raised = true }
held_of_release (at.Unlocking table unlock removed) =
    record (holds_answer (removed_reply removed)) { lock = Some unlock.place }
held_of_release (at.Closing reply removed) = holds_answer reply

-- and after an operation; once it has ended it holds nothing, and its answer is known
abbrev pub held_next : ReleaseModel × Next (Reply × Option ℕ) → Held Answer
held_next (m, Go) = held_of_release m.at
held_next (m, Done end) = ended_with (plain end.0)
