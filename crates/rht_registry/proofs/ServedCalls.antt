-- How a worker gets on: the calls that a command has added to its pass are served behind the others, and a command of another worker
-- changes nothing.
use Rattle.std.proofs.Common.{◌≡◌, ◌≢◌, ℕ, ◌+◌, ◌<◌, ◌≤◌, Bool, List, [], ◌∷◌, ◌++◌, length, take, get_or, refl, sym, ◌∙◌, ap, subst, cond}
use Rattle.std.proofs.lemmas.Bool.{eq-eqb, ne_eqb}
use Rattle.std.proofs.lemmas.List.{append-nil, take_all, take_more}
use Rattle.rht_model.specs.declared.history.Call.{Call}
use Rattle.rht_model.specs.declared.history.Reply.{Reply}
use Rattle.rht_model.specs.Endings.{Ending, replied}
use Rattle.rht_core.specs.Serving.{calls_of}
use Rattle.rht_run.specs.declared.table.Table.{Table}
use Rattle.rht_run.specs.declared.pass.Pass.{Pass}
use Rattle.rht_run.specs.Passes.{IsNew}
use Rattle.rht_run.specs.Served.{HasServed}
use Rattle.rht_run.specs.Workers.{HasServedCalls}
use Rattle.rht_run.proofs.ServedWorkers.{HasServedCalls-new, HasServedCalls-more}
use Rattle.rht_workers.proofs.WorkerCommands.{calls_of-append}
use Rattle.rht_registry.specs.Outcomes.{HasServedWorker}

-- ---- the calls of a worker

-- a command of its own comes last among its calls
pub calls_of-own : (worker : ℕ) (commands : List (ℕ × Call)) (call : Call)
    → calls_of worker (commands ++ (worker, call) ∷ []) ≡ calls_of worker commands ++ call ∷ []
calls_of-own worker commands call =
    calls_of-append worker commands ((worker, call) ∷ [])
    ∙ ap (λ own. calls_of worker commands ++ cond own (call ∷ []) []) (eq-eqb worker worker refl)

-- and one of another worker isn't among them
pub calls_of-other : (worker : ℕ) (commands : List (ℕ × Call)) (command : ℕ × Call) → command.0 ≢ worker
    → calls_of worker (commands ++ command ∷ []) ≡ calls_of worker commands
calls_of-other worker commands command other =
    calls_of-append worker commands (command ∷ [])
    ∙ ap (λ own. calls_of worker commands ++ cond own (command.1 ∷ []) []) (ne_eqb command.0 worker other)
    ∙ append-nil (calls_of worker commands)

module _ {M : Type 0} (mix : ℕ → ℕ → ℕ → ℕ) (t : Table M) (auto : Bool) where
  -- ---- one command more

  -- where it is the worker's own, with the reply that it was answered
  HasServedWorker-own : (commands : List (ℕ × Call)) (number : ℕ) (call : Call) (reply : Reply) (before now : Pass M)
      (endings : List Ending)
      → HasServed mix t auto call reply before now → HasServedWorker mix t auto commands number before endings
      → HasServedWorker mix t auto (commands ++ (number + 1, call) ∷ []) number now
      (endings ++ replied reply now.local.owners.items now.local.pairs.items ∷ [])
  HasServedWorker-own commands number call reply before now endings has served =
      subst (λ calls. HasServedCalls mix t auto number calls now (endings ++ replied reply now.local.owners.items now.local.pairs.items ∷ []))
      (sym (calls_of-own (number + 1) commands call))
      (HasServedCalls-more mix t auto number (calls_of (number + 1) commands) call reply before now endings has served)

  -- so it is where the reply is kept with the owners and the pairs that came with it
  pub served-kept : (commands : List (ℕ × Call)) (number : ℕ) (call : Call) (reply : Reply) (before now : Pass M)
      (endings all : List Ending) (owners : List ℕ) (pairs : List (ℕ × ℕ))
      → HasServed mix t auto call reply before now → owners ≡ now.local.owners.items → pairs ≡ now.local.pairs.items
      → all ≡ endings ++ replied reply owners pairs ∷ [] → HasServedWorker mix t auto commands number before endings
      → HasServedWorker mix t auto (commands ++ (number + 1, call) ∷ []) number now all
  served-kept commands number call reply before now endings all owners pairs has owners_are pairs_are all_are served =
      let more : all ≡ endings ++ replied reply now.local.owners.items now.local.pairs.items ∷ [] =
      all_are
      ∙ ap (λ l. endings ++ replied reply l pairs ∷ []) owners_are
      ∙ ap (λ l. endings ++ replied reply now.local.owners.items l ∷ []) pairs_are in
      rw more (HasServedWorker-own commands number call reply before now endings has served)

  -- and where it is another one's
  pub HasServedWorker-other : (commands : List (ℕ × Call)) (number : ℕ) (command : ℕ × Call) (pass : Pass M) (endings : List Ending)
      → command.0 ≢ number + 1 → HasServedWorker mix t auto commands number pass endings
      → HasServedWorker mix t auto (commands ++ command ∷ []) number pass endings
  HasServedWorker-other commands number command pass endings other served =
      subst (λ calls. HasServedCalls mix t auto number calls pass endings)
      (sym (calls_of-other (number + 1) commands command other)) served

  -- ---- the commands up to a place

  -- at first there is none
  pub HasServedWorker-none : (number : ℕ) (pass : Pass M) → IsNew mix t number pass → HasServedWorker mix t auto [] number pass []
  HasServedWorker-none number pass new = HasServedCalls-new mix t auto number pass new

  -- the command at the place
  module _ (items : List (ℕ × Call)) (i : ℕ) (next default : ℕ × Call) (here : next ≡ get_or items i default) (number : ℕ)
      (pass : Pass M) (endings : List Ending) (within : i < length items) where
    one_more : take (i + 1) items ≡ take i items ++ next ∷ []
    one_more = take_more items i default within ∙ ap (λ command. take i items ++ command ∷ []) (sym here)

    pub served-own : next.0 ≡ number + 1
        → HasServedWorker mix t auto (take i items ++ (number + 1, next.1) ∷ []) number pass endings
        → HasServedWorker mix t auto (take (i + 1) items) number pass endings
    served-own own =
        subst (λ commands. HasServedWorker mix t auto commands number pass endings)
        (sym (one_more ∙ ap (λ worker. take i items ++ (worker, next.1) ∷ []) own))

    pub served-other : next.0 ≢ number + 1 → HasServedWorker mix t auto (take i items) number pass endings
        → HasServedWorker mix t auto (take (i + 1) items) number pass endings
    served-other other served =
        subst (λ commands. HasServedWorker mix t auto commands number pass endings) (sym one_more)
        (HasServedWorker-other (take i items) number next pass endings other served)

  -- the worker's pass and replies under other names
  pub served-same : (commands : List (ℕ × Call)) (number : ℕ) (pass now : Pass M) (endings all : List Ending) → pass ≡ now → endings ≡ all
      → HasServedWorker mix t auto commands number now all → HasServedWorker mix t auto commands number pass endings
  served-same commands number pass now endings all same same_endings served =
      subst (λ (p : Pass M). HasServedWorker mix t auto commands number p endings) (sym same)
      (subst (λ e. HasServedWorker mix t auto commands number now e) (sym same_endings) served)

  -- and at last all of them
  pub served-all : (items commands : List (ℕ × Call)) (i number : ℕ) (pass : Pass M) (endings : List Ending) → length items ≤ i
      → items ≡ commands → HasServedWorker mix t auto (take i items) number pass endings
      → HasServedWorker mix t auto commands number pass endings
  served-all items commands i number pass endings over same =
      subst (λ l. HasServedWorker mix t auto l number pass endings) (take_all i items over ∙ same)
