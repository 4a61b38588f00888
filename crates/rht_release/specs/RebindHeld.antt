-- What a rebind holds in each of its states: its node, its read section, the lock of a bucket, and its answer. It has its node up to the
-- store that puts it in the old one's place. The answer is held once it is known, or early, should the bucket be missing. A rebind is
-- answered Absent from the load of a future on that leads nowhere, or of the list link behind the last owner. The new owner has the old
-- one's place by one store: into the list link before a later node, or with the first store of the relinking.
use Rattle.std.specs.Prelude.{ℕ, Bool, true, Option, None, Some, if◌then◌else◌}
use Rattle.rht_words.specs.Held.{Held, holds_nothing, ended_with}
use Rattle.rht_words.specs.declared.machine.Next.{Next}
use Rattle.rht_words.specs.declared.machine.Next.TheVariants.{Go, Done}
use Rattle.rht_arena.specs.NewNode.{node_of_new}
use Rattle.rht_model.specs.Answers.{Answer, plain}
use Rattle.rht_model.specs.declared.history.Reply.{Reply}
use Rattle.rht_model.specs.declared.history.Reply.TheVariants.{Rebound, Absent}
use Rattle.rht_chain.specs.Relink.{has_relinked}
use Rattle.rht_release.specs.Seek.{holds_section, lock_of_seek, answer_of_seek, early_of_seek}
use Rattle.rht_release.specs.Rebind.{RebindModel}
use Rattle.rht_release.specs.declared.found_port.FoundPort.{FoundPort}
use Rattle.rht_release.specs.declared.rebind.RebindEnd.{RebindEnd}
use Rattle.rht_release.specs.declared.rebind.RebindEnd.TheVariants as ends
use Rattle.rht_release.specs.declared.rebind.RebindAt.{RebindAt}
use Rattle.rht_release.specs.declared.rebind.RebindAt.TheVariants as at

-- a node, and the answer, where it is known, out of its read section
abbrev pub holds_outside : ℕ → Option Answer → Held Answer
holds_outside node answer = record holds_nothing { node = Some node; answer = answer }

-- and in it, with the lock of the bucket at this place, where there is one
abbrev pub holds_node : ℕ → Option ℕ → Option Answer → Held Answer
holds_node node lock answer = record (holds_outside node answer) { lock = lock; section = true }

-- its node, and the lock of the port's bucket
abbrev pub holds_found : ℕ → FoundPort → Held Answer
holds_found node found = holds_node node (Some found.bucket.place) None

-- while the chain is changed: its node before the store of the link, and the answer behind it
abbrev pub holds_replacing : ℕ → FoundPort → Bool → Held Answer
holds_replacing node found stored =
    if stored then record holds_section { lock = Some found.bucket.place; answer = Some (plain Rebound) }
    else holds_found node found

-- once its end is known: the answer, with its node where that is to be given back
abbrev pub holds_end : Option ℕ → RebindEnd → Held Answer
holds_end lock (ends.Rebound removed) = record holds_section { lock = lock; answer = Some (plain Rebound) }
holds_end lock (ends.Absent node) = holds_node node lock (Some (plain Absent))

-- what it holds in a state
abbrev pub held_of_rebind : RebindAt → Held Answer
held_of_rebind (at.Filling new) = record holds_nothing { node = node_of_new new.at }
held_of_rebind (at.Opening node) = holds_outside node None
held_of_rebind (at.Seeking node seek) =
    record (holds_node node (lock_of_seek seek.at) (answer_of_seek (plain Absent) seek.at))
    { early = early_of_seek (plain Absent) seek.at }
held_of_rebind (at.Searching node found search) = holds_found node found
held_of_rebind (at.LinkBehind node found old before) = holds_found node found
held_of_rebind (at.OwnListLink node found old before link) = holds_found node found
held_of_rebind (at.Swapping node found old before) = holds_found node found
held_of_rebind (at.ChainLink node found) = holds_found node found
held_of_rebind (at.Link node found link) = holds_found node found
held_of_rebind (at.Replacing node found relink) =
    holds_replacing node found (has_relinked found.before relink.at)
held_of_rebind (at.Unlocking table unlock end) = holds_end (Some unlock.place) end
held_of_rebind (at.Closing end) = holds_end None end
held_of_rebind (at.Giving give) = holds_outside give.node (Some (plain Absent))

-- and after an operation; once it has ended it holds nothing, and its answer is known
abbrev pub held_next : RebindModel × Next (Reply × Option ℕ) → Held Answer
held_next (m, Go) = held_of_rebind m.at
held_next (m, Done end) = ended_with (plain end.0)
