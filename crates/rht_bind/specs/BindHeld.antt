-- What a bind holds in each of its states: its node until it is linked, put in front of a list or given
-- back, its read section through each attempt, the lock of a bucket, the count once it is raised, the slot and the
-- pages of a table that it makes until it is attached or given back, a page until it is entered or given back, and
-- its answer once it is known.
use Rattle.std.specs.Prelude.{ℕ, Bool, true, Option, None, Some, List, option_map, if◌then◌else◌}
use Rattle.rht_words.specs.Held.{Held, holds_nothing, ended_with}
use Rattle.rht_words.specs.declared.machine.Next.{Next}
use Rattle.rht_words.specs.declared.machine.Next.TheVariants.{Go, Done}
use Rattle.rht_arena.specs.NewNode.{node_of_new}
use Rattle.rht_nest.specs.Tables.{pages_of_shape}
use Rattle.rht_nest.specs.Grow.{pages_of_grow}
use Rattle.rht_nest.specs.Make.{slot_of_make, pages_of_make}
use Rattle.rht_nest.specs.Unmake.{pages_of_unmake}
use Rattle.rht_chain.specs.Locked.{answer_behind}
use Rattle.rht_chain.specs.Probe.{lock_of_probe}
use Rattle.rht_model.specs.Answers.{Answer, plain}
use Rattle.rht_chain.specs.Relink.{has_relinked}
use Rattle.rht_model.specs.declared.history.Reply.{Reply}
use Rattle.rht_model.specs.declared.history.Reply.TheVariants.{Bound}
use Rattle.rht_bind.specs.Bind.{BindModel}
use Rattle.rht_bind.specs.declared.bind.ending.Ending.{Ending}
use Rattle.rht_bind.specs.declared.bind.ending.Ending.TheVariants as endings
use Rattle.rht_bind.specs.declared.bind.Claimed.{Claimed}
use Rattle.rht_bind.specs.declared.bind.BindAt.{BindAt}
use Rattle.rht_bind.specs.declared.bind.BindAt.TheVariants as at

-- a node, where it has one, outside its section
abbrev pub holds_outside : Option ℕ → Held Answer
holds_outside node = record holds_nothing { node = node }

-- its section, and what is known of its answer
abbrev pub holds_section : Option Answer → Held Answer
holds_section answer = record holds_nothing { section = true; answer = answer }

-- in it a node, where it has one, and the lock of the bucket at this place, where there is one
abbrev pub holds_node : Option ℕ → Option ℕ → Held Answer
holds_node node lock = record (holds_section None) { node = node; lock = lock }

abbrev pub holds_claimed : Claimed → Held Answer
holds_claimed claimed = holds_node (Some claimed.attempt.node) (Some claimed.bucket.place)

-- while it puts its node in front of a list: the node before the store of the link, the answer behind it
abbrev pub holds_replacing : Claimed → Bool → Held Answer
holds_replacing claimed stored =
    let bound = Some (plain (Bound claimed.attempt.attached)) in
    if stored then record (holds_section bound) { lock = Some claimed.bucket.place }
    else holds_claimed claimed

-- its node, and pages, with the slot of the table that they are taken for where there is one yet
abbrev pub holds_table : ℕ → Option ℕ → List ℕ → Held Answer
holds_table node slot pages = record (holds_section None) { node = Some node; slot = slot; pages = pages }

-- at the end of an attempt the node, unless it was linked, and the answer, where there is one
abbrev pub node_of_ending : Ending → Option ℕ
node_of_ending (endings.Bound kick) = None
node_of_ending (endings.Answered node reply) = Some node
node_of_ending (endings.Anew attempt) = Some attempt.node

abbrev pub answer_of_ending : Ending → Option Reply
answer_of_ending (endings.Bound kick) = Some (Bound kick)
answer_of_ending (endings.Answered node reply) = Some reply
answer_of_ending (endings.Anew attempt) = None

-- what it holds in a state
abbrev pub held_of_bind : BindAt → Held Answer
held_of_bind (at.Filling new) = holds_outside (node_of_new new.at)
held_of_bind (at.Opening attempt) = holds_outside (Some attempt.node)
held_of_bind (at.CurrentTable attempt) = holds_node (Some attempt.node) None
held_of_bind (at.Locating attempt locate) = holds_node (Some attempt.node) None
held_of_bind (at.Entering attempt table shape place grow) = holds_table attempt.node None (pages_of_grow grow.at)
held_of_bind (at.Probing attempt table shape probe) = holds_node (Some attempt.node) (lock_of_probe probe.at)
held_of_bind (at.FoundOwner claimed found) = holds_claimed claimed
held_of_bind (at.ListLink list) = holds_claimed list.claimed
held_of_bind (at.ChainLink list) = holds_claimed list.claimed
held_of_bind (at.LinkBehind list link) = holds_claimed list.claimed
held_of_bind (at.Replacing list relink) = holds_replacing list.claimed (has_relinked list.before relink.at)
held_of_bind (at.Future claimed length) = holds_claimed claimed
held_of_bind (at.Count claimed) = holds_claimed claimed
held_of_bind (at.Link claimed) = holds_claimed claimed
held_of_bind (at.Raise claimed) = holds_claimed claimed
held_of_bind (at.Publish node table relink kick) =
    record (holds_node (Some node) (Some relink.place)) { raised = true }
held_of_bind (at.Unlocking attempt table unlock next) =
    record (holds_node (Some attempt.node) (Some unlock.place)) { answer = option_map plain (answer_behind next) }
held_of_bind (at.UnlockingFull growing unlock) = holds_node (Some growing.attempt.node) (Some unlock.place)
held_of_bind (at.Root growing) = holds_node (Some growing.attempt.node) None
held_of_bind (at.GrowthCount growing root) = holds_node (Some growing.attempt.node) None
held_of_bind (at.Making growing size make) =
    holds_table growing.attempt.node (slot_of_make make.at) (pages_of_make make.exponent make.at)
held_of_bind (at.FutureAgain growing refusal) = holds_node (Some growing.attempt.node) None
held_of_bind (at.Attaching growing slot shape) = holds_table growing.attempt.node (Some slot) (pages_of_shape shape)
held_of_bind (at.Unmaking attempt unmake answer) =
    record (holds_table attempt.node (Some unmake.slot) (pages_of_unmake unmake.at)) { answer = option_map plain answer }
held_of_bind (at.Closing ending) =
    record (holds_section (option_map plain (answer_of_ending ending))) { node = node_of_ending ending }
held_of_bind (at.Giving give reply) = record (holds_outside (Some give.node)) { answer = Some (plain reply) }

-- and after an operation; once it has ended it holds nothing, and its answer is known
abbrev pub held_next : BindModel × Next Reply → Held Answer
held_next (m, Go) = held_of_bind m.at
held_next (m, Done reply) = ended_with (plain reply)
