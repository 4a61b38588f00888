-- The text of what a lease script leaves: the answers to the commands of each worker, the first worker's before the second's, and then what is
-- bound at the end. Every line ends with a line feed.
use Rattle.std.specs.Prelude.{ℕ, false, List, [], ◌++◌, codes, decimal}
use Rattle.std.specs.List.{flat_map, enumerate_from}
use Rattle.rht_model.specs.declared.bindings.Closed.{Closed}
use Rattle.rht_script.specs.Text.{spaced, reply_text, closed_text}
use Rattle.rht_lease.specs.declared.lease.LeaseReply.{LeaseReply}
use Rattle.rht_lease.specs.declared.lease.LeaseReply.TheVariants.{Plain, Renewed, NoLease, Swept}
use Rattle.rht_lease.specs.Answers.{Answer}

-- an answer without its worker; a reply to a call is written as in the text of a run
abbrev pub answer_text : LeaseReply → List ℕ → List ℕ
answer_text (Plain reply) owners = reply_text reply owners [] false
answer_text Renewed owners = codes "renewed"
answer_text NoLease owners = codes "nolease"
answer_text (Swept swept) owners = codes "swept" ++ spaced swept.released ++ spaced swept.absent

-- the line of an answer: the worker, and the answer
abbrev pub answer_line : ℕ → Answer → List ℕ
answer_line worker answer = decimal worker ++ codes ": " ++ answer_text answer.0 answer.1 ++ codes "\n"

-- the lines of a worker of this number, whose commands were answered so
abbrev pub worker_text : ℕ × List Answer → List ℕ
worker_text worker = flat_map (answer_line worker.0) worker.1

abbrev pub lease_text : List (List Answer) → Closed → List ℕ
lease_text answers closed = flat_map worker_text (enumerate_from 1 answers) ++ closed_text closed
