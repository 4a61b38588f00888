-- What a walk holds in each of its states: its read section, but for the first state, and its answer while it closes it.
use Rattle.std.specs.Prelude.{true, Some}
use Rattle.rht_words.specs.Held.{Held, holds_nothing, ended_with}
use Rattle.rht_words.specs.declared.machine.Next.{Next}
use Rattle.rht_words.specs.declared.machine.Next.TheVariants.{Go, Done}
use Rattle.rht_model.specs.Answers.{Answer, plain}
use Rattle.rht_model.specs.declared.history.Reply.{Reply}
use Rattle.rht_walk.specs.Walk.{Pairs, WalkModel, reply_of}
use Rattle.rht_walk.specs.declared.walk.WalkAt.{WalkAt}
use Rattle.rht_walk.specs.declared.walk.WalkAt.TheVariants as at

-- it is in its read section
abbrev pub in_section : Held Answer
in_section = record holds_nothing { section = true }

-- what it holds in a state, with these pairs kept
abbrev pub held_of_walk : Pairs → WalkAt → Held Answer
held_of_walk room at.Opening = holds_nothing
held_of_walk room at.CurrentTable = in_section
held_of_walk room (at.Serial table) = in_section
held_of_walk room (at.Shape table serial) = in_section
held_of_walk room (at.Entry visit way) = in_section
held_of_walk room (at.Heading visit place) = in_section
held_of_walk room (at.Key chain node) = in_section
held_of_walk room (at.Owner chain node port) = in_section
held_of_walk room (at.Link chain node) = in_section
held_of_walk room (at.StrangeEnd visit) = in_section
held_of_walk room (at.TableEnd table) = in_section
held_of_walk room (at.Closing end) =
    record holds_nothing { section = true; answer = Some (plain (reply_of room end)) }

-- and after an operation; once it has ended it holds nothing, and its answer is known
abbrev pub held_next : WalkModel × Next Reply → Held Answer
held_next (m, Go) = held_of_walk m.room m.at
held_next (m, Done reply) = ended_with (plain reply)
