-- The headline. For every script, whatever the threads do, what is printed are the replies and last bindings of a run of one-word steps,
-- and one legal history of a finite multimap fits it: each caller's finished calls, each once, in its order. In every such run a port
-- bound throughout a look-up is found, and no node, page or table is given again while an open read section could reach it.
use Rattle.std.specs.Prelude.{◌≡◌, ℕ, Option, List}
use Rattle.std.specs.List.{AllByRecursion}
use Rattle.std.specs.Io.KnownBytes.{Appends}
use Rattle.rht_words.specs.declared.env.Env.{Env}
use Rattle.rht_policy.specs.Mix.{mix_named}
use Rattle.rht_model.specs.declared.bindings.Closed.{Closed}
use Rattle.rht_model.specs.Endings.{Ending}
use Rattle.rht_model.specs.Histories.{IsLegal, bindings_left}
use Rattle.rht_model.specs.Listing.{Lists}
use Rattle.rht_model.specs.Multimap.{unbound}
use Rattle.rht_core.specs.declared.event.Event.{Event}
use Rattle.rht_core.specs.Lookups.{IsFoundThroughout}
use Rattle.rht_core.specs.Numbered.{Numbered, history_of}
use Rattle.rht_core.specs.Reach.{IsSafeRun}
use Rattle.rht_core.specs.RunHistories.{Fits}
use Rattle.rht_core.specs.Runs.{run_of}
use Rattle.rht_core.specs.Serving.{IsServedRun}
use Rattle.rht_core.specs.ToldHistories.{entries_by, entries_of_finished}
use Rattle.rht_core.specs.Traces.{traced_of}
use Rattle.rht_run.specs.ServedRuns.{tag_of}
use Rattle.rht_script.specs.Grammar.{Said, reading_of}
use Rattle.rht_script.specs.Text.{run_text}
use Rattle.rht_forms.specs.Input.{IsReadAs}

-- In this run each look-up finds its port, where the words stood for an owner of it behind each event of the call. And nobody in a read
-- section could reach what an operation gives back, be it a node, a page or a table's slot.
pub record FindsAndSpares (M : Type 0) (mix : ℕ → ℕ → ℕ → ℕ) (env : Env) (events : List Event) : Type 0 where
  pub found : (caller : ℕ)
      → AllByRecursion (IsFoundThroughout M mix env events) ((traced_of {M = M} mix env events).traces caller).past
  pub safe : IsSafeRun M mix env events

-- what the form `run` read and printed: of the source what was left before and after, and of the sink what it held
pub record Headline (left left_after held held_after : Option (List ℕ)) : Type 0 where
  -- the whole input was read, and is this script
  pub script : Said
  pub read : IsReadAs reading_of left left_after script
  -- what is printed are these replies and last bindings, with the size of the last table
  pub replies : List (List Ending)
  pub last : Closed
  pub printed : Appends held held_after (run_text replies last.bindings.pairs last.size)
  -- They are those of a run of one-word steps: each worker's finished calls serve its commands with these replies, and the words at the
  -- end stand for these bindings.
  pub run : IsServedRun (tag_of script.config.hash) (mix_named script.config) script.config script.auto script.commands replies last
  -- One legal history fits it. Each entry has the number of an event of its call, and behind each event those so far leave what the words
  -- stand for.
  pub history : List Numbered
  pub legal : IsLegal script.config.kind (history_of history)
  pub fits : Fits (tag_of script.config.hash) (mix_named script.config) run.env run.events history
  -- it has each caller's finished calls about bindings, each once, in its order
  pub calls : (caller : ℕ) → entries_by caller (history_of history)
      ≡ entries_of_finished caller
      ((run_of {M = tag_of script.config.hash} (mix_named script.config) run.env run.events).books caller).finished
  -- and it leaves the last bindings
  pub leaves : Lists last.bindings.pairs (bindings_left script.config.kind unbound (history_of history))
  -- In every such run look-ups find what stays bound, and nothing comes back that a reader could reach. A run is such only with these very
  -- replies, kicks included, which the text doesn't show.
  pub every : (such : IsServedRun (tag_of script.config.hash) (mix_named script.config) script.config script.auto script.commands
      replies last)
      → FindsAndSpares (tag_of script.config.hash) (mix_named script.config) such.env such.events
