-- When a bind and a release say that there is something to do for `work`.
use Rattle.std.specs.Prelude.{◌≡◌, ℕ, Bool, List}
use Rattle.std.specs.List.{AllByRecursion}
use Rattle.rht_words.specs.declared.env.Env.{Env}
use Rattle.rht_model.specs.declared.history.Reply.TheVariants.{Bound, Released}
use Rattle.rht_core.specs.declared.event.Event.{Event}
use Rattle.rht_core.specs.Runs.{IsAdmitted}
use Rattle.rht_core.specs.Traces.{Past, traced_of}
use Rattle.rht_core.specs.Causes.{KicksRightly, KicksOnRelease}

-- Where the call's reply says whether there is something to do for `work`, it says so rightly, whichever call it is.
pub record KicksWell (env : Env) (past : Past) : Type 0 where
  pub bound : (kick : Bool) → past.done.reply ≡ Bound kick → KicksRightly env kick past.steps
  pub released : (kick : Bool) → past.done.reply ≡ Released kick → KicksOnRelease env kick past.steps

module _ (M : Type 0) (mix : ℕ → ℕ → ℕ → ℕ) where
  -- in every run it is so of each call that has ended
  abbrev pub Kicks : Type 0
  Kicks =
      (env : Env) (events : List Event) (c : ℕ) → IsAdmitted events
      → AllByRecursion (KicksWell env) ((traced_of {M = M} mix env events).traces c).past
