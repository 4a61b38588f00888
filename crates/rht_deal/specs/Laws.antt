-- What follows for a script that was dealt rightly, in the words of its commands and its workers.
use Rattle.std.specs.Prelude.{◌≡◌, ℕ, ◌+◌, ◌<◌, ◌≤◌, ◌==◌, Bool, List, length, count_by}
use Rattle.std.specs.List.{AllByRecursion}
use Rattle.rht_words.specs.declared.config.Config.{Config}
use Rattle.rht_policy.specs.Mix.{mix_named}
use Rattle.rht_model.specs.declared.bindings.Closed.{Closed}
use Rattle.rht_model.specs.declared.history.Call.{Call}
use Rattle.rht_model.specs.declared.history.Entry.{Entry}
use Rattle.rht_core.specs.Runs.{run_of}
use Rattle.rht_core.specs.Serving.{IsServing}
use Rattle.rht_core.specs.ToldHistories.{TellsOf}
use Rattle.rht_run.specs.ServedRuns.{tag_of}
use Rattle.rht_script.specs.declared.done.Done.{Done}
use Rattle.rht_deal.specs.DoneCommands.{numbers_of, done_by, endings_of, calls_at, AreAllDone}
use Rattle.rht_deal.specs.Dealing.{IsDealing}
use Rattle.rht_deal.specs.Numbers.{AreRising}

-- ---- what is told

-- of each command it is told exactly once that it was done
abbrev pub TellsEachOnce : Type 0
TellsEachOnce =
    (config : Config) (commands : List (ℕ × Call)) (dones : List Done) → AreAllDone config commands dones
    → (number : ℕ) → 1 ≤ number → number ≤ length commands
    → count_by (λ (done : Done). done.number == number) dones ≡ 1

-- and of nothing else
abbrev pub TellsNoOther : Type 0
TellsNoOther =
    (config : Config) (commands : List (ℕ × Call)) (dones : List Done) → AreAllDone config commands dones
    → AllByRecursion (λ (done : Done). (1 ≤ done.number) × (done.number ≤ length commands)) dones

-- and of each that a worker of the table did it
abbrev pub TellsWorkers : Type 0
TellsWorkers =
    (config : Config) (commands : List (ℕ × Call)) (dones : List Done) → AreAllDone config commands dones
    → AllByRecursion (λ (done : Done). (1 ≤ done.worker) × (done.worker ≤ config.callers)) dones

-- ---- what was done

-- What a worker has done in the run is just what is told of it: the calls that its caller has finished serve the commands of these numbers,
-- with these answers, and nothing else. And the numbers rise. So with the laws above each command was done exactly once in the run.
abbrev pub DoesAsTold : Type 0
DoesAsTold =
    (config : Config) (auto : Bool) (commands : List (ℕ × Call)) (dones : List Done) (closed : Closed)
    (dealing : IsDealing config auto commands dones closed) (caller : ℕ) → caller < config.callers
    → IsServing {M = tag_of config.hash} (run_of (mix_named config) dealing.run.served.env dealing.run.served.events) auto caller
    (calls_at commands (numbers_of (done_by (caller + 1) dones))) (endings_of (caller + 1) dones)
    × AreRising (numbers_of (done_by (caller + 1) dones))

-- One legal history tells of that run, and fits it (`TellsOf`).
abbrev pub HistoryFits : Type 0
HistoryFits =
    (config : Config) (auto : Bool) (commands : List (ℕ × Call)) (dones : List Done) (closed : Closed)
    (dealing : IsDealing config auto commands dones closed) → (history : List Entry) × TellsOf dealing.run.served history
