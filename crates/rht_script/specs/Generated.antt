-- The script that is made from a number: eight workers go 500 rounds of five commands each, worker by worker.
-- No two workers ask about one port, and nobody binds the port of a round's last command. Each port is of net 0.
use Rattle.std.specs.Prelude.{◌≡◌, ℕ, ◌+◌, ◌*◌, ◌%◌, ◌^◌, ◌<◌, ◌==◌, Bool, true, false, List, [], ◌∷◌, length, count_by}
use Rattle.std.specs.List.{flat_map, range_with_len}
use Rattle.rht_words.specs.declared.config.Config.{Config}
use Rattle.rht_words.specs.declared.config.Hash.TheVariants.{Low}
use Rattle.rht_words.specs.Settled.{plain_config}
use Rattle.rht_model.specs.declared.history.Call.{Call}
use Rattle.rht_model.specs.declared.history.Call.TheVariants.{Bind, Find, Release}
use Rattle.rht_script.specs.Grammar.{Said}
use Rattle.rht_script.specs.Plain.{IsSayable}
use Rattle.rht_script.specs.PortWords.{one_number}
pub use Rattle.rht_model.specs.CallKinds.{is_bind, is_find, is_release}

-- what the table is opened with
abbrev pub generated_config : ℕ → Config
generated_config number = record plain_config {
  nodes = 8192;
  pages = 256;
  callers = 8;
  hint = 1536;
  seed = number;
  hash = Low;
}

-- what a worker asks in the middle of a round: in an even one to bind the port again, in an odd one to release it
abbrev pub middle_call : ℕ → ℕ → Bool → Call
middle_call worker port true = Bind port worker false
middle_call worker port false = Release port worker

-- the commands of a worker's round about this port, whose owner it is itself
abbrev pub round_commands : ℕ → ℕ → Bool → List (ℕ × Call)
round_commands worker port even =
    (worker, Bind port worker false) ∷ (worker, Find port) ∷ (worker, middle_call worker port even)
    ∷ (worker, Find port) ∷ (worker, Find (port + 5000)) ∷ []

-- the port of a worker's round
abbrev pub round_port : ℕ → ℕ → ℕ → ℕ
round_port offset worker round = 10000 * worker + offset + round

-- the commands of a worker: those of its rounds in turn, which are counted from 0
unfoldable pub worker_commands : ℕ → ℕ → List (ℕ × Call)
worker_commands offset worker =
    flat_map (λ round. round_commands worker (round_port offset worker round) (round % 2 == 0))
    (range_with_len 0 500)

-- the commands of all workers, which are counted from 1; the number's last three digits are added to each port
unfoldable pub generated_commands : ℕ → List (ℕ × Call)
generated_commands number = flat_map (worker_commands (number % 1000)) (range_with_len 1 8)

-- what the script of this number says
abbrev pub generated_said : ℕ → Said
generated_said number = record {
  config = generated_config number;
  auto = true;
  form = one_number;
  commands = generated_commands number;
  schedule = [];
}

-- ---- what follows

-- It can be said: a table line can say its config, and a line each of its commands.
abbrev pub GeneratedSayable : Type 0
GeneratedSayable = (number : ℕ) → number < 2 ^ 32 → IsSayable (generated_said number)

-- how many of the commands ask such a call
abbrev pub how_many : (Call → Bool) → List (ℕ × Call) → ℕ
how_many is commands = count_by (λ command. is command.1) commands

-- Of the 20,000 commands 6,000 bind, 12,000 look up, and 2,000 release.
pub record AreCounted (commands : List (ℕ × Call)) : Type 0 where
  pub all : length commands ≡ 20000
  pub binds : how_many is_bind commands ≡ 6000
  pub finds : how_many is_find commands ≡ 12000
  pub releases : how_many is_release commands ≡ 2000

-- That says nothing of how they are answered, and nothing of their order.
abbrev pub GeneratedCounts : Type 0
GeneratedCounts = (number : ℕ) → AreCounted (generated_commands number)
