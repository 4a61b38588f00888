-- What a run tells that serves the commands of workers, in the words of ports and owners: the history of their replies, what it leaves
-- bound, and where a command may be refused (`IsTold`). There no word of a table and no event of the run is spoken of. That the
-- same history fits the run is said beside it (`TellsOf`).
use Rattle.std.specs.Prelude.{◌≡◌, ℕ, ◌+◌, ◌-◌, ◌<◌, ◌≤◌, ◌==◌, if◌then◌else◌, is_some, Bool, List, [], ◌∷◌, ◌++◌, count_by, filter, slice_index_or}
use Rattle.std.specs.List.{AllByRecursion}
use Rattle.rht_words.specs.declared.config.Config.{Config}
use Rattle.rht_policy.specs.Sizes.{most_ports}
use Rattle.rht_model.specs.declared.bindings.Closed.{Closed}
use Rattle.rht_model.specs.declared.history.Call.{Call}
use Rattle.rht_model.specs.declared.history.Entry.{Entry}
use Rattle.rht_model.specs.declared.history.Reply.TheVariants.{NoNode, TooBig}
use Rattle.rht_model.specs.declared.finished.Finished.{Finished}
use Rattle.rht_model.specs.Multimap.{unbound}
use Rattle.rht_model.specs.Answers.{port_of}
use Rattle.rht_model.specs.Endings.{Ending}
use Rattle.rht_model.specs.Histories.{IsLegal, bindings_left}
use Rattle.rht_model.specs.Listing.{Lists}
use Rattle.rht_core.specs.Alone.{entry_done}
use Rattle.rht_core.specs.NodesUsed.{needs_node}
use Rattle.rht_core.specs.Numbered.{Numbered, history_of}
use Rattle.rht_core.specs.RunHistories.{Fits}
use Rattle.rht_core.specs.Runs.{run_of}
use Rattle.rht_core.specs.Serving.{calls_of, Serves, IsServedRun}
use Rattle.rht_stands.specs.StandsFor.{AreBound}

-- the entries of these finished calls of a caller: one for each that is about bindings, in the order of the calls
abbrev pub entries_of_finished : ℕ → List Finished → List Entry
entries_of_finished caller [] = []
entries_of_finished caller (done ∷ dones) =
    if is_some (port_of done.call)
    then entry_done caller done ∷ entries_of_finished caller dones
    else entries_of_finished caller dones

-- the entries of a caller in a history
abbrev pub entries_by : ℕ → List Entry → List Entry
entries_by caller history = filter (λ entry. entry.caller == caller) history

-- how the calls of a caller ended, where these are the endings of all workers, the first one's first
abbrev pub endings_by : ℕ → List (List Ending) → List Ending
endings_by caller endings = slice_index_or endings caller []

-- more commands bind or rebind than there are nodes
abbrev pub IsOutnumbered : Config → List (ℕ × Call) → Type 0
IsOutnumbered config commands = config.nodes < count_by (λ command. needs_node command.1) commands

-- The count is as many ports as the table may hold, or more; and some first entries of the history leave so many ports bound, or
-- fewer by at most one for each worker but one.
pub record WasFull (config : Config) (history : List Entry) (count : ℕ) : Type 0 where
  pub full : most_ports config.max ≤ count
  pub before : List Entry
  pub behind : List Entry
  pub split : history ≡ before ++ behind
  pub bound : ℕ
  pub are_bound : AreBound (bindings_left config.kind unbound before) bound
  pub enough : count ≤ bound + (config.callers - 1)

-- The history tells what the commands of all workers were answered, and what is bound behind them. The second argument says whether
-- workers run `work` by themselves.
pub record IsTold (config : Config) (auto : Bool) (commands : List (ℕ × Call)) (endings : List (List Ending)) (closed : Closed)
    (history : List Entry) : Type 0 where
  -- each reply is the model's answer where it stands, or a refusal that its call may give
  pub legal : IsLegal config.kind history
  -- the calls that each caller has finished
  pub dones : ℕ → List Finished
  -- each worker, counted from 1, is the caller of the number below, whose finished calls serve its commands with these endings
  pub serves : (caller : ℕ) → caller < config.callers
      → Serves auto (calls_of (caller + 1) commands) (endings_by caller endings) (dones caller)
  -- nobody else has any
  pub no_others : (caller : ℕ) → config.callers ≤ caller → dones caller ≡ []
  -- the entries of each caller are those of its finished calls about bindings, in their order
  pub entries : (caller : ℕ) → entries_by caller history ≡ entries_of_finished caller (dones caller)
  -- so where there is one worker they are the whole history
  pub in_order : config.callers ≡ 1 → history ≡ entries_of_finished 0 (dones 0)
  -- what is bound at the end is what the history leaves
  pub leaves : Lists closed.bindings.pairs (bindings_left config.kind unbound history)
  -- a call finds no node only where there are more binds and rebinds than nodes
  pub no_node : (caller : ℕ) → AllByRecursion (λ done. done.reply ≡ NoNode → IsOutnumbered config commands) (dones caller)
  -- a call is answered `TooBig` only with a count as high as the most ports or higher, and where some first entries leave so many bound,
  -- or fewer by at most one for each worker but one
  pub full : (caller count : ℕ) → AllByRecursion (λ done. done.reply ≡ TooBig count → WasFull config history count) (dones caller)

-- The history tells what the commands of this run were answered, and fits the run: its entries have numbers of events that never
-- fall, each between its call's beginning and last operation, and after each event the entries so far leave what the words stand for.
pub record TellsOf {M : Type 0} {mix : ℕ → ℕ → ℕ → ℕ} {config : Config} {auto : Bool} {commands : List (ℕ × Call)}
    {endings : List (List Ending)} {closed : Closed} (served : IsServedRun M mix config auto commands endings closed)
    (history : List Entry) : Type 0 where
  pub told : IsTold config auto commands endings closed history
  -- the calls that serve the commands are those that the callers have finished in the run
  pub dones_are : (caller : ℕ) → told.dones caller ≡ ((run_of {M = M} mix served.env served.events).books caller).finished
  -- its entries, each with its number
  pub numbered : List Numbered
  pub without_numbers : history ≡ history_of numbered
  pub fits : Fits M mix served.env served.events numbered

module _ (M : Type 0) (mix : ℕ → ℕ → ℕ → ℕ) where
  -- of every run that serves commands there is a history that tells of it
  abbrev pub HasToldHistory : Type 0
  HasToldHistory =
      (config : Config) (auto : Bool) (commands : List (ℕ × Call)) (endings : List (List Ending)) (closed : Closed)
      (served : IsServedRun M mix config auto commands endings closed)
      → (history : List Entry) × TellsOf served history
