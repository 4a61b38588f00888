-- What is so of a run that serves the commands of workers (`HasRun`): what their replies mean to who knows ports and owners alone, and what
-- the operations of each call have to show for its reply.
use Rattle.std.specs.Prelude.{◌≡◌, ℕ, Bool, List, map}
use Rattle.std.specs.List.{AllByRecursion}
use Rattle.rht_words.specs.declared.config.Config.{Config}
use Rattle.rht_words.specs.declared.config.Hash.{Hash}
use Rattle.rht_words.specs.declared.config.Hash.TheVariants as hashes
use Rattle.rht_words.specs.declared.env.Env.{Env}
use Rattle.rht_policy.specs.declared.mix.Lookup3.{Lookup3}
use Rattle.rht_policy.specs.declared.mix.Low.{Low}
use Rattle.rht_policy.specs.Mix.{mix_named}
use Rattle.rht_model.specs.declared.bindings.Closed.{Closed}
use Rattle.rht_model.specs.declared.history.Call.{Call}
use Rattle.rht_model.specs.declared.history.Entry.{Entry}
use Rattle.rht_model.specs.declared.finished.Finished.{Finished}
use Rattle.rht_model.specs.Endings.{Ending}
use Rattle.rht_core.specs.declared.event.Event.{Event}
use Rattle.rht_core.specs.Causes.{HasCause}
use Rattle.rht_core.specs.Lookups.{IsFoundThroughout}
use Rattle.rht_core.specs.Reach.{IsSafeRun}
use Rattle.rht_core.specs.NeverRefused.{IsRoomyFor, AreAllTaken, IsSmallFor, AreAsModel}
use Rattle.rht_core.specs.Serving.{calls_of, IsServedRun}
use Rattle.rht_core.specs.ToldHistories.{endings_by, TellsOf}
use Rattle.rht_core.specs.Traces.{traced_of}

-- the type that names what the callers of a table do whose ports are hashed so
abbrev pub tag_of : Hash → Type 0
tag_of hashes.Mix = Lookup3
tag_of hashes.Low = Low

-- These are the calls that a caller has finished in a run, in their order, and the operations of each have what its reply has to show.
pub record AreCaused (M : Type 0) (mix : ℕ → ℕ → ℕ → ℕ) (env : Env) (events : List Event) (caller : ℕ) (dones : List Finished)
    : Type 0 where
  pub traced : map (λ past. past.done) ((traced_of {M = M} mix env events).traces caller).past ≡ dones
  pub causes : AllByRecursion (HasCause M mix env events caller) ((traced_of {M = M} mix env events).traces caller).past

-- A run of a table of this config serves the commands with these endings, and what was closed is what its last words stand for. The
-- second argument says whether workers run `work` by themselves. The rest is what follows for this run.
pub record HasRun (config : Config) (auto : Bool) (commands : List (ℕ × Call)) (endings : List (List Ending)) (closed : Closed)
    : Type 0 where
  -- the run, by the hash that the config names
  pub served : IsServedRun (tag_of config.hash) (mix_named config) config auto commands endings closed
  -- A legal history has the replies to the calls about bindings, and leaves what was closed as bound; with one worker it has them in the
  -- order of its commands. `NoNode` comes only where more commands bind or rebind than there are nodes. `TooBig` comes only where some
  -- first entries leave the table full, but for one port for each worker but one (`IsTold`).
  -- The history fits the run. Its entries have a moment each, in their order, between the call's beginning and its end. After each event
  -- those so far leave what the words stand for (`Fits`).
  pub history : List Entry
  pub tells : TellsOf served history
  -- each call that serves a command has in this run the cause of its reply
  pub caused : (caller : ℕ)
      → AreCaused (tag_of config.hash) (mix_named config) served.env served.events caller (tells.told.dones caller)
  -- each look-up among these calls found its port, where the words stood for an owner of it behind each event of the call
  pub found : (caller : ℕ)
      → AllByRecursion (IsFoundThroughout (tag_of config.hash) (mix_named config) served.env served.events)
      ((traced_of {M = tag_of config.hash} (mix_named config) served.env served.events).traces caller).past
  -- no node, page or slot was given back in this run while a caller in its read section could reach it
  pub safe : IsSafeRun (tag_of config.hash) (mix_named config) served.env served.events
  -- Where the table is roomy for the commands none about bindings is refused, no walk from the first bucket on has to begin anew, and the
  -- size that was closed is the one with which the table began.
  pub roomy : IsRoomyFor config commands → AreAllTaken config commands endings closed
  -- Where there is one worker, and the table is enough for its commands, each about bindings is answered as the model answers it, in their
  -- order, and what was closed is what the model leaves.
  pub small : IsSmallFor config (calls_of 1 commands) → AreAsModel config.kind (calls_of 1 commands) (endings_by 0 endings) closed
