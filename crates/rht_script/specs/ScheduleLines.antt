-- What the words of a schedule line stand for: a worker, and a number of events or of calls.
-- Words are read from left to right.
use Rattle.std.specs.Prelude.{ℕ, Result, Ok, List}
use Rattle.rht_words.specs.declared.config.Config.{Config}
use Rattle.rht_words.specs.declared.limits.Limits.{Limits}
use Rattle.rht_script.specs.declared.cause.Cause.{Cause}
use Rattle.rht_script.specs.Spelling.{◌>>=◌}
use Rattle.rht_script.specs.CommandLines.{worker_limits, number_first, end_of}

-- the events of a line of a schedule, and at `finish` the calls that end
abbrev pub event_limits : Limits
event_limits = record { least = 1; greatest = 1000000 }

-- the worker and the number that a line of a schedule has behind its first word, and nothing else
unfoldable pub events_of : Config → List (List ℕ) → Result (ℕ × ℕ) Cause
events_of config words = do
  worker ← number_first (worker_limits config) words
  number ← number_first event_limits worker.1
  end ← end_of number.1
  Ok (worker.0, number.0)
