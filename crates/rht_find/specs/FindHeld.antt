-- What a look-up holds in each of its states: its read section, but for the first state, and its answer while it closes it.
use Rattle.std.specs.Prelude.{true, Some}
use Rattle.rht_words.specs.Held.{Held, holds_nothing, ended_with}
use Rattle.rht_words.specs.declared.machine.Next.{Next}
use Rattle.rht_words.specs.declared.machine.Next.TheVariants.{Go, Done}
use Rattle.rht_model.specs.Answers.{Answer, plain}
use Rattle.rht_model.specs.declared.history.Reply.{Reply}
use Rattle.rht_find.specs.Find.{FindModel}
use Rattle.rht_find.specs.declared.find.FindAt.{FindAt}
use Rattle.rht_find.specs.declared.find.FindAt.TheVariants as at

-- it is in its read section
abbrev pub in_section : Held Answer
in_section = record holds_nothing { section = true }

-- what it holds in a state
abbrev pub held_of_find : FindAt → Held Answer
held_of_find at.Opening = holds_nothing
held_of_find at.CurrentTable = in_section
held_of_find (at.Locating reach) = in_section
held_of_find (at.Heading head) = in_section
held_of_find (at.Key head node visited) = in_section
held_of_find (at.Link head node visited) = in_section
held_of_find (at.Future table) = in_section
held_of_find (at.Owner node) = in_section
held_of_find (at.Closing reply) = record holds_nothing { section = true; answer = Some (plain reply) }

-- and after an operation; once it has ended it holds nothing, and its answer is known
abbrev pub held_next : FindModel × Next Reply → Held Answer
held_next (m, Go) = held_of_find m.at
held_next (m, Done reply) = ended_with (plain reply)
