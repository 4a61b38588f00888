-- The text of what a resume script leaves: the answers to the commands of each worker, the first worker's before the second's, and then what is
-- bound at the end. Every line ends with a line feed.
use Rattle.std.specs.Prelude.{ℕ, false, List, ◌++◌, codes, decimal}
use Rattle.std.specs.List.{flat_map, enumerate_from}
use Rattle.rht_model.specs.declared.bindings.Closed.{Closed}
use Rattle.rht_model.specs.Multimap.{Port}
use Rattle.rht_script.specs.Text.{named, pair_text, reply_text, closed_text}
use Rattle.rht_resume.specs.declared.resume.Piece.{Piece}
use Rattle.rht_resume.specs.declared.resume.Piece.TheVariants.{Part, End, Again}
use Rattle.rht_resume.specs.declared.resume.ResumeReply.{ResumeReply}
use Rattle.rht_resume.specs.declared.resume.ResumeReply.TheVariants.{Plain, Next}
use Rattle.rht_resume.specs.Answers.{Answer}

-- a piece without its worker: its pairs, and whether there is more
abbrev pub piece_text : Piece → List (Port × ℕ) → List ℕ
piece_text Part pairs = codes "next" ++ flat_map pair_text pairs ++ codes " more"
piece_text (End len) pairs = codes "next" ++ flat_map pair_text pairs ++ codes " end"
piece_text (Again table) pairs = named (codes "next again") table

-- an answer without its worker; a reply to a call is written as in the text of a run
abbrev pub answer_text : ResumeReply → List ℕ → List (Port × ℕ) → List ℕ
answer_text (Plain reply) owners pairs = reply_text reply owners pairs false
answer_text (Next piece) owners pairs = piece_text piece pairs

-- the line of an answer: the worker, and the answer
abbrev pub answer_line : ℕ → Answer → List ℕ
answer_line worker answer = decimal worker ++ codes ": " ++ answer_text answer.reply answer.owners answer.pairs ++ codes "\n"

-- the lines of a worker of this number, whose commands were answered so
abbrev pub worker_text : ℕ × List Answer → List ℕ
worker_text worker = flat_map (answer_line worker.0) worker.1

abbrev pub resume_text : List (List Answer) → Closed → List ℕ
resume_text answers closed = flat_map worker_text (enumerate_from 1 answers) ++ closed_text closed
