-- How `ResumeReplies` keeps an answer: the replies to calls apart, and the pieces by themselves.
use Rattle.std.specs.Prelude.{◌<◌, List, [], Option, None, Some, length, slice_get}
use Rattle.rht_model.specs.Endings.{Ending}
use Rattle.rht_resume.specs.declared.resume.Piece.TheVariants.{Part}
use Rattle.rht_resume.specs.declared.resume.ResumeReply.TheVariants as answers
use Rattle.rht_resume.specs.declared.replies.Kept.{Kept}
use Rattle.rht_resume.specs.declared.replies.Kept.TheVariants.{Plain, Next}
use Rattle.rht_resume.specs.declared.replies.Shown.{Shown}
use Rattle.rht_resume.specs.Answers.{Answer, plain_answer}

-- the piece with its pairs, and a piece at a place: there is one, and none would be read as one without pairs
abbrev pub shown_answer : Shown → Answer
shown_answer shown = record { reply = answers.Next shown.piece; owners = []; pairs = shown.pairs.items }

abbrev pub no_answer : Answer
no_answer = record { reply = answers.Next Part; owners = []; pairs = [] }

abbrev pub plain_at : Option Ending → Answer
plain_at (Some ending) = plain_answer ending
plain_at None = no_answer

abbrev pub piece_at : Option Shown → Answer
piece_at (Some shown) = shown_answer shown
piece_at None = no_answer

-- the answer that is kept so, where these are the replies to calls, and these the pieces
abbrev pub answer_kept : List Ending → List Shown → Kept → Answer
answer_kept plain pieces (Plain place) = plain_at (slice_get plain place)
answer_kept plain pieces (Next place) = piece_at (slice_get pieces place)

-- there is one at its place
abbrev pub IsKept : List Ending → List Shown → Kept → Type 0
IsKept plain pieces (Plain place) = place < length plain
IsKept plain pieces (Next place) = place < length pieces
