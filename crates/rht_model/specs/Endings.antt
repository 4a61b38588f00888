-- How calls end.
use Rattle.std.specs.Prelude.{ℕ, List, []}
use Rattle.rht_model.specs.declared.history.Call.{Call}
use Rattle.rht_model.specs.declared.history.Reply.{Reply}
use Rattle.rht_model.specs.declared.finished.Finished.{Finished}
use Rattle.rht_model.specs.Multimap.{Port}
use Rattle.rht_model.specs.Answers.{Answer, plain}

-- how a call ended: its answer, and the pairs that came with it, which are empty but for Walked
pub record Ending : Type 0 where
  pub answer : Answer
  pub pairs : List (Port × ℕ)

-- this reply, with these owners and pairs beside it
abbrev pub replied : Reply → List ℕ → List (Port × ℕ) → Ending
replied reply owners pairs = record { answer = record { reply = reply; owners = owners }; pairs = pairs }

-- the call that has ended so
abbrev pub ended_with : Call → Ending → Finished
ended_with call ending =
    record { call = call; reply = ending.answer.reply; owners = ending.answer.owners; pairs = ending.pairs }

-- an ending without lists
abbrev pub plain_ending : Reply → Ending
plain_ending reply = record { answer = plain reply; pairs = [] }

-- how a call that has ended did so
abbrev pub ending_in : Finished → Ending
ending_in done = record { answer = record { reply = done.reply; owners = done.owners }; pairs = done.pairs }
