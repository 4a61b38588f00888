-- What the operations of a pass's call have to show, in one run.
use Rattle.std.specs.Prelude.{◌≡◌, ℕ, ◌≤◌, Option, Some, List, length}
use Rattle.std.specs.List.{slice_get}
use Rattle.rht_words.specs.declared.env.Env.{Env}
use Rattle.rht_model.specs.declared.history.Call.{Call}
use Rattle.rht_model.specs.declared.history.Call.TheVariants.{Find, Tidy}
use Rattle.rht_model.specs.declared.history.Reply.{Reply}
use Rattle.rht_model.specs.Endings.{replied, ended_with}
use Rattle.rht_core.specs.declared.event.Event.{Event}
use Rattle.rht_core.specs.Runs.{run_of, IsAdmitted}
use Rattle.rht_core.specs.Traces.{Past, traced_of, behind_call}
use Rattle.rht_core.specs.Causes.{HasCause}
use Rattle.rht_grace.specs.Batch.{BatchModel}
use Rattle.rht_core.specs.Tidied.{batch_or, batch_before}
use Rattle.rht_core.specs.Lookups.{HasRead, AnswersMoment, IsFoundThroughout}
use Rattle.rht_find.specs.FindBound.{find_bound}
use Rattle.rht_run.specs.declared.table.Table.{Table}
use Rattle.rht_run.specs.declared.pass.Pass.{Pass}
use Rattle.rht_run.specs.Rule.{Shows, held_at}
use Rattle.rht_run.specs.Passes.{book_of, seen_by}

-- In one run with the table's config the pass's number has the local and the calls of the pass. Of these one behind the calls that the
-- pass had finished before is this call. It ended with this reply, and with the lists that are in the rooms of the pass.
-- What is said of its operations is said of this run: of the events, of the pass's number and of the call with its steps. Two facts that
-- have to speak of one run are one `Fact`, since two records may have two runs.
pub record IsTracedCall {M : Type 0} (mix : ℕ → ℕ → ℕ → ℕ) (t : Table M) (call : Call) (reply : Reply) (before now : Pass M)
    (Fact : Env → List Event → ℕ → Past → Type 0)
    : Type 0 where
  pub events : List Event
  pub admitted : IsAdmitted events
  pub shows : Shows t.env (run_of mix t.env events) (held_at now.number (seen_by now))
  -- its place among all calls of the pass; which others stand behind the earlier ones is said by `HasCalled` and `HasServed`
  pub at : ℕ
  pub behind : length (book_of before).finished ≤ at
  pub past : Past
  pub place : slice_get ((traced_of {M = M} mix t.env events).traces now.number).past at ≡ Some past
  pub done : past.done ≡ ended_with call (replied reply now.local.owners.items now.local.pairs.items)
  pub fact : Fact t.env events now.number past

-- its operations have what its reply has to show
abbrev pub IsCaused : {M : Type 0} → (ℕ → ℕ → ℕ → ℕ) → Table M → Call → Reply → Pass M → Pass M → Type 0
IsCaused {M} mix t call reply before now = IsTracedCall mix t call reply before now (HasCause M mix)

-- What holds of a look-up of this port that has ended: it has no more operations than the bound; it opened and closed its caller's read
-- section, and only loaded in between; at a moment of it the words stood for its answer; and it found the port where that was bound all
-- the while.
pub record LooksUp (M : Type 0) (mix : ℕ → ℕ → ℕ → ℕ) (port : ℕ) (env : Env) (events : List Event) (c : ℕ) (past : Past)
    : Type 0 where
  pub short : length past.steps ≤ find_bound env
  pub reads : HasRead env.geometry c past.steps
  pub moment : AnswersMoment M mix env events past port
  pub throughout : IsFoundThroughout M mix env events past

-- so it is of this call, in one run
abbrev pub HasLookedUp : {M : Type 0} → (ℕ → ℕ → ℕ → ℕ) → Table M → ℕ → Reply → Pass M → Pass M → Type 0
HasLookedUp {M} mix t port reply before now = IsTracedCall mix t (Find port) reply before now (LooksUp M mix port)

-- What holds of a tidying that has ended, and whose caller has this batch now. It has its cause, which says what it gave back and what it left.
-- And this is what it left.
pub record LeavesBatch (M : Type 0) (mix : ℕ → ℕ → ℕ → ℕ) (batch : Option BatchModel) (env : Env) (events : List Event) (c : ℕ) (past : Past)
    : Type 0 where
  pub caused : HasCause M mix env events c past
  pub left : batch_or env.geometry batch ≡ batch_before M mix env events c (behind_call past)

-- so it is of this call, in one run, with the batch of the pass
abbrev pub HasLeftBatch : {M : Type 0} → (ℕ → ℕ → ℕ → ℕ) → Table M → Reply → Pass M → Pass M → Type 0
HasLeftBatch {M} mix t reply before now = IsTracedCall mix t Tidy reply before now (LeavesBatch M mix now.local.batch)
