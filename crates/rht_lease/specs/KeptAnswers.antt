-- How `LeaseReplies` keeps an answer: the replies to calls apart, and the others by themselves.
use Rattle.std.specs.Prelude.{◌<◌, List, [], Option, None, Some, length, slice_get}
use Rattle.rht_model.specs.Endings.{Ending}
use Rattle.rht_lease.specs.declared.lease.LeaseReply.TheVariants as answers
use Rattle.rht_lease.specs.declared.replies.Kept.{Kept}
use Rattle.rht_lease.specs.declared.replies.Kept.TheVariants.{Plain, Renewed, NoLease, Swept}
use Rattle.rht_lease.specs.Answers.{Answer}

-- the answer that is a reply to a call: there is one, and none would be read as that there is no lease
abbrev pub plain_answer : Option Ending → Answer
plain_answer (Some ending) = (answers.Plain ending.answer.reply, ending.answer.owners)
plain_answer None = (answers.NoLease, [])

-- the answer that is kept so, where these are the replies to calls
abbrev pub answer_of : List Ending → Kept → Answer
answer_of plain (Plain place) = plain_answer (slice_get plain place)
answer_of plain Renewed = (answers.Renewed, [])
answer_of plain NoLease = (answers.NoLease, [])
answer_of plain (Swept swept) = (answers.Swept swept, [])

-- where the reply is one to a call, there is one at its place
abbrev pub IsKept : List Ending → Kept → Type 0
IsKept plain (Plain place) = place < length plain
IsKept plain Renewed = Unit {0}
IsKept plain NoLease = Unit {0}
IsKept plain (Swept swept) = Unit {0}
