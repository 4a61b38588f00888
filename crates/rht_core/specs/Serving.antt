-- When the calls that a caller has finished serve the commands of a worker with replies, and what of a run is printed: the replies,
-- and what is bound at the end.
use Rattle.std.specs.Prelude.{◌≡◌, ◌≢◌, ℕ, ◌+◌, ◌<◌, ◌==◌, ◌&&◌, if◌then◌else◌, Bool, true, false, List, [], ◌∷◌, ◌++◌, length, slice_index_or}
use Rattle.rht_words.specs.declared.config.Config.{Config}
use Rattle.rht_words.specs.declared.env.Env.{Env}
use Rattle.rht_words.specs.Settled.{plain_ways}
use Rattle.rht_model.specs.declared.bindings.Closed.{Closed}
use Rattle.rht_model.specs.declared.history.Call.{Call}
use Rattle.rht_model.specs.declared.history.Call.TheVariants.{Work, Tidy}
use Rattle.rht_model.specs.declared.history.Reply.{Reply}
use Rattle.rht_model.specs.declared.history.Reply.TheVariants.{Bound, Released, Busy, NoTable, NoNode, Moved}
use Rattle.rht_model.specs.declared.finished.Finished.{Finished}
use Rattle.rht_model.specs.Endings.{Ending, ended_with}
use Rattle.rht_core.specs.declared.event.Event.{Event}
use Rattle.rht_callers.specs.Locals.{is_idle}
use Rattle.rht_core.specs.Runs.{World, run_of, local_of, IsAdmitted}
use Rattle.rht_stands.specs.Closing.{IsClosedOf}
pub use Rattle.rht_model.specs.CallKinds.{is_bind}

-- ---- one worker

-- The reply to this call asks for `work`: it says that there is something to do, or it refuses a bind until tables have been
-- moved, or for want of a further table.
abbrev pub asks_for_work : Call → Reply → Bool
asks_for_work call (Bound kick) = kick
asks_for_work call (Released kick) = kick
asks_for_work call (Busy root last) = true
asks_for_work call (NoTable size) = is_bind call
asks_for_work call _ = false

-- these calls are `work`, at least once: each answered that it moved and is to be made again, but the last one, which answered otherwise
abbrev pub AreWorks : List Finished → Type 0
AreWorks [] = ⊥
AreWorks (done ∷ []) = (done.call ≡ Work) × (done.reply ≢ Moved true)
AreWorks (done ∷ next ∷ dones) = (done.call ≡ Work) × (done.reply ≡ Moved true) × AreWorks (next ∷ dones)

-- the calls that a worker makes by itself behind a command: `work` where that is asked for, and otherwise none
abbrev pub AreBehind : Bool → List Finished → Type 0
AreBehind true done = AreWorks done
AreBehind false done = done ≡ []

-- These calls are made until a command has its reply, and it ends so. The command's own call is the only one, where it isn't answered
-- that there is no node. Else a tidying comes behind it and then the same call again, whose reply is the command's, whatever that is.
abbrev pub AreTries : Call → Ending → List Finished → Type 0
AreTries call ending [] = ⊥
AreTries call ending (done ∷ []) = (done ≡ ended_with call ending) × (ending.answer.reply ≢ NoNode)
AreTries call ending (first ∷ tidy ∷ []) = ⊥
AreTries call ending (first ∷ tidy ∷ done ∷ []) =
    (first.call ≡ call) × (first.reply ≡ NoNode) × (tidy.call ≡ Tidy) × (done ≡ ended_with call ending)
AreTries call ending (first ∷ tidy ∷ done ∷ next ∷ dones) = ⊥

-- These calls are made for a command, which ends so: those until it has its reply, and then `work` where that asks for it, and the
-- script leaves the work to its workers.
pub record AreForCommand (auto : Bool) (call : Call) (ending : Ending) (dones : List Finished) : Type 0 where
  pub tries : List Finished
  pub behind : List Finished
  pub whole : dones ≡ tries ++ behind
  pub are_tries : AreTries call ending tries
  pub works : AreBehind (auto && asks_for_work call ending.answer.reply) behind

-- the list is two, one behind the other
pub record IsCut (First Rest : List Finished → Type 0) (done : List Finished) : Type 0 where
  pub first : List Finished
  pub rest : List Finished
  pub whole : done ≡ first ++ rest
  pub first_is : First first
  pub rest_is : Rest rest

-- the finished calls are those made for each command in turn, which ends so; nothing is left over
abbrev pub Serves : Bool → List Call → List Ending → List Finished → Type 0
Serves auto [] [] done = done ≡ []
Serves auto [] (ending ∷ endings) done = ⊥
Serves auto (call ∷ calls) [] done = ⊥
Serves auto (call ∷ calls) (ending ∷ endings) done = IsCut (AreForCommand auto call ending) (Serves auto calls endings) done

-- ---- all workers

-- the calls of a worker among the commands of all, each with its worker
abbrev pub calls_of : ℕ → List (ℕ × Call) → List Call
calls_of worker [] = []
calls_of worker (command ∷ commands) =
    if command.0 == worker then command.1 ∷ calls_of worker commands else calls_of worker commands

-- a caller is in no call, and the calls that it has finished serve these with these endings
pub record IsServing {M : Type 0} (world : World M) (auto : Bool) (caller : ℕ) (calls : List Call) (endings : List Ending) : Type 0 where
  pub idle : is_idle (local_of world.core caller) ≡ true
  pub serves : Serves auto calls endings (world.books caller).finished

-- A run of a table of this config, in the plain ways, in which each worker, counted from 1, is the caller of the number below: it is idle at the end,
-- and its finished calls serve its commands with these endings, where `auto` says whether it runs `work` by itself. What was closed
-- is what the last words stand for.
pub record IsServedRun (M : Type 0) (mix : ℕ → ℕ → ℕ → ℕ) (config : Config) (auto : Bool) (commands : List (ℕ × Call))
    (endings : List (List Ending)) (closed : Closed) : Type 0 where
  pub env : Env
  pub config_same : env.config ≡ config
  pub ways_plain : env.ways ≡ plain_ways
  pub events : List Event
  pub admitted : IsAdmitted events
  pub workers : length endings ≡ config.callers
  pub each : (caller : ℕ) → caller < config.callers
      → IsServing {M = M} (run_of mix env events) auto caller (calls_of (caller + 1) commands) (slice_index_or endings caller [])
  pub closed_is : IsClosedOf env.geometry (run_of {M = M} mix env events).core.words closed
