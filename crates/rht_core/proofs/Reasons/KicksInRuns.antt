-- In every run a call says rightly whether there is something to do for `work`, since that is part of its cause. No other call has a reply
-- that says so.
use Rattle.std.proofs.Common.{ℕ, List, [], ◌∷◌, Bool, subst}
use Rattle.std.specs.List.{AllByRecursion}
use Rattle.rht_words.specs.declared.env.Env.{Env}
use Rattle.rht_model.specs.declared.history.Call.{Call}
use Rattle.rht_model.specs.declared.history.Call.TheVariants.{Bind, Find, All, Release, Rebind, Walk, Work, Tidy, Count}
use Rattle.rht_model.specs.declared.history.Reply.TheVariants.{Bound, Released}
use Rattle.rht_core.specs.declared.event.Event.{Event}
use Rattle.rht_core.specs.Traces.{Past, traced_of}
use Rattle.rht_core.specs.Causes.{CauseOf, HasCause, KicksRightly, KicksOnRelease}
use Rattle.rht_core.specs.Kicks.{KicksWell, Kicks}
use Rattle.rht_core.proofs.Reasons.CausesInRuns.{causes}

module _ (M : Type 0) (mix : ℕ → ℕ → ℕ → ℕ) (env : Env) (events : List Event) (c : ℕ) where
  bound_well : (past : Past) (call : Call) (kick : Bool) → CauseOf M mix env events c past call (Bound kick)
      → KicksRightly env kick past.steps
  bound_well past (Bind port owner once) kick cause = cause.0
  bound_well past (Find port) kick cause = absurd cause
  bound_well past (All port) kick cause = absurd cause
  bound_well past (Release port owner) kick cause = absurd cause
  bound_well past (Rebind port owner new) kick cause = absurd cause
  bound_well past (Walk from limit) kick cause = absurd cause
  bound_well past Work kick cause = absurd cause
  bound_well past Tidy kick cause = absurd cause
  bound_well past Count kick cause = absurd cause

  released_well : (past : Past) (call : Call) (kick : Bool) → CauseOf M mix env events c past call (Released kick)
      → KicksOnRelease env kick past.steps
  released_well past (Release port owner) kick cause = cause
  released_well past (Bind port owner once) kick cause = absurd cause
  released_well past (Find port) kick cause = absurd cause
  released_well past (All port) kick cause = absurd cause
  released_well past (Rebind port owner new) kick cause = absurd cause
  released_well past (Walk from limit) kick cause = absurd cause
  released_well past Work kick cause = absurd cause
  released_well past Tidy kick cause = absurd cause
  released_well past Count kick cause = absurd cause

  each_kick : (calls : List Past) → AllByRecursion (HasCause M mix env events c) calls → AllByRecursion (KicksWell env) calls
  each_kick [] caused = tt
  each_kick (past ∷ calls) caused = (
    record {
      bound = λ kick is.
          bound_well past past.done.call kick (subst (CauseOf M mix env events c past past.done.call) is caused.0);
      released = λ kick is.
          released_well past past.done.call kick (subst (CauseOf M mix env events c past past.done.call) is caused.0);
    },
    each_kick calls caused.1,
  )

pub kicks : (M : Type 0) (mix : ℕ → ℕ → ℕ → ℕ) → Kicks M mix
kicks M mix env events c admitted =
    each_kick M mix env events c ((traced_of {M = M} mix env events).traces c).past (causes M mix env events c admitted)
