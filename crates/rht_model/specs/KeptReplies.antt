-- How `Replies` keeps a reply: most by themselves, and the others apart, with their lists.
use Rattle.std.specs.Prelude.{◌<◌, List, [], Option, None, Some, length, slice_get}
use Rattle.rht_model.specs.declared.history.Reply.TheVariants as replies
use Rattle.rht_model.specs.declared.replies.Kept.{Kept}
use Rattle.rht_model.specs.declared.replies.Kept.TheVariants.{Bound, Exists, Found, Missing, Released, Absent, Apart}
use Rattle.rht_model.specs.declared.replies.Whole.{Whole}
use Rattle.rht_model.specs.Endings.{Ending, replied}

-- the ending at a place among those kept apart: there is one, and none would be read as `Absent`
abbrev pub ending_apart : Option Whole → Ending
ending_apart (Some whole) = replied whole.reply whole.owners.items whole.pairs.items
ending_apart None = replied replies.Absent [] []

-- the ending that is kept so, where these are kept apart
abbrev pub ending_of : List Whole → Kept → Ending
ending_of apart (Bound kick) = replied (replies.Bound kick) [] []
ending_of apart (Exists owner) = replied (replies.Exists owner) [] []
ending_of apart (Found owner) = replied (replies.Found owner) [] []
ending_of apart Missing = replied replies.Missing [] []
ending_of apart (Released kick) = replied (replies.Released kick) [] []
ending_of apart Absent = replied replies.Absent [] []
ending_of apart (Apart place) = ending_apart (slice_get apart place)

-- where the reply is kept apart, there is one at its place
abbrev pub IsKept : List Whole → Kept → Type 0
IsKept apart (Bound _) = Unit {0}
IsKept apart (Exists _) = Unit {0}
IsKept apart (Found _) = Unit {0}
IsKept apart Missing = Unit {0}
IsKept apart (Released _) = Unit {0}
IsKept apart Absent = Unit {0}
IsKept apart (Apart place) = place < length apart
