-- What a finished call was answered, and why. Both are so of every finished call of a pass.
use Rattle.std.proofs.Common.{ℕ}
use Rattle.std.specs.Prelude.{Option, Some, None}
use Rattle.rht_model.specs.declared.history.Call.{Call}
use Rattle.rht_model.specs.declared.history.Reply.{Reply}
use Rattle.rht_run.specs.declared.table.Table.{Table}
use Rattle.rht_run.specs.declared.pass.Pass.{Pass}
use Rattle.rht_run.specs.Passes.{IsPassOf, HasCalled, HasSetOut, Turned, HasGone}
use Rattle.rht_run.proofs.CallSteps.{answered}
use Rattle.rht_run.proofs.CallCauses.{called_caused}
use Rattle.rht_session.specs.Sessions.{HasEnded, HasComeTo, HasBegun, HasSetOut as HasSetOutHere}

module _ {M : Type 0} (mix : ℕ → ℕ → ℕ → ℕ) (t : Table M) (call : Call) (before now : Pass M) where
  pub ended : (reply : Reply) → HasCalled mix t call reply before now → HasEnded mix t call reply before now
  ended reply has = record {
    called = has;
    answered = answered mix t call reply before now has;
    caused = called_caused mix t call reply before now has;
  }

  -- so it is of an operation that may have ended the call
  pub come_to : (steps : ℕ) (reply : Option Reply) → Turned mix t call steps before reply now → HasComeTo mix t call steps before reply now
  come_to steps None calling = calling
  come_to steps (Some reply) has = ended reply has

  -- its pass is one of the table's
  turned_pass : (steps : ℕ) (reply : Option Reply) → Turned mix t call steps before reply now → IsPassOf mix t now
  turned_pass steps None calling = calling.pass
  turned_pass steps (Some reply) has = has.pass

  -- and of the first one
  pub begun : (reply : Option Reply) → Turned mix t call 1 before reply now → HasGone mix t (Some call) before reply now
      → HasBegun mix t call before reply now
  begun reply turned gone = record { pass = turned_pass 1 reply turned; come_to = come_to 1 reply turned; one = gone }

  -- and of operations in one go
  pub set_out : (reply : Option Reply) → HasSetOut mix t call before reply now → HasSetOutHere mix t call before reply now
  set_out reply has =
      record { pass = turned_pass has.steps reply has.turned; steps = has.steps; come_to = come_to has.steps reply has.turned }
