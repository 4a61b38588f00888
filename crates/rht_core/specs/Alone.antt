-- One call alone: its events stand together in a run whose other events are arbitrary, and no other caller is in the middle of a call.
use Rattle.std.specs.Prelude.{◌≡◌, ℕ, true, Some, List, [], ◌∷◌, ◌++◌, replicate}
use Rattle.rht_words.specs.declared.env.Env.{Env}
use Rattle.rht_words.specs.declared.config.Kind.{Kind}
use Rattle.rht_model.specs.declared.history.Call.{Call}
use Rattle.rht_model.specs.declared.history.Entry.{Entry}
use Rattle.rht_model.specs.declared.finished.Finished.{Finished}
use Rattle.rht_model.specs.Multimap.{Multimap, Agree}
use Rattle.rht_model.specs.Answers.{port_of}
use Rattle.rht_model.specs.Histories.{IsLegalAt, left_by}
use Rattle.rht_core.specs.declared.event.Event.{Event}
use Rattle.rht_core.specs.declared.event.Event.TheVariants.{Begin, Step}
use Rattle.rht_callers.specs.Locals.{is_idle}
use Rattle.rht_core.specs.Runs.{local_of, run_of, IsAdmitted}
use Rattle.rht_core.specs.Traces.{Past, traced_of}
use Rattle.rht_stands.specs.StandsFor.{stands_for}
use Rattle.rht_core.specs.Causes.{HasCause}

-- the entry of a caller's call that has ended
abbrev pub entry_done : ℕ → Finished → Entry
entry_done c done = record { caller = c; call = done.call; reply = done.reply; owners = done.owners }

-- an entry meets the model between these bindings: it is legal on the ones, and the others are those that it leaves
pub record MeetsModel (kind : Kind) (before after : Multimap) (entry : Entry) : Type 0 where
  pub legal : IsLegalAt kind before entry
  pub bindings : Agree after (left_by kind before entry)

module _ (M : Type 0) (mix : ℕ → ℕ → ℕ → ℕ) where
  -- after these events nobody is in a call
  abbrev pub IsQuiet : Env → List Event → Type 0
  IsQuiet env events = (c : ℕ) → is_idle (local_of (run_of {M = M} mix env events).core c) ≡ true

  -- what the words stand for after these events
  abbrev pub bindings_at : Env → List Event → Multimap
  bindings_at env events = stands_for env.geometry (run_of {M = M} mix env events).core.words

  -- the events of one call: its beginning and so many operations
  abbrev pub call_events : ℕ → Call → ℕ → List Event
  call_events c call count = Begin c call 0 ∷ replicate count (Step c)

  -- a call about bindings whose events stand together while nobody else is in a call, and which has ended, meets the model with its
  -- reply and its list; and its reply has its cause
  pub record MeetsAlone (env : Env) (before : List Event) (c : ℕ) (call : Call) (count : ℕ) (past : Past) : Type 0 where
    pub model : MeetsModel env.config.kind (bindings_at env before) (bindings_at env (before ++ call_events c call count)) (entry_done c past.done)
    pub cause : HasCause M mix env (before ++ call_events c call count) c past

  abbrev pub Alone : Type 0
  Alone = (env : Env) (before : List Event) (c port : ℕ) (call : Call) (count : ℕ) (past : Past)
      → port_of call ≡ Some port
      → IsAdmitted (before ++ call_events c call count)
      → IsQuiet env before
      → ((traced_of {M = M} mix env (before ++ call_events c call count)).traces c).past ≡ ((traced_of {M = M} mix env before).traces c).past ++ past ∷ []
      → MeetsAlone env before c call count past
