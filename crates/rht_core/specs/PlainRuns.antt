-- Runs of a table in the plain ways, which are those of scripts and replays: no start is looked at, and no section is held open.
use Rattle.std.specs.Prelude.{◌≡◌, ℕ, ◌&&◌, nat_lt, if◌then◌else◌, None, List}
use Rattle.rht_words.specs.declared.env.Env.{Env}
use Rattle.rht_words.specs.Settled.{plain_ways}
use Rattle.rht_model.specs.declared.history.Call.{Call}
use Rattle.rht_callers.specs.Locals.{is_idle, machine_of, plan_of, doing_plan}
use Rattle.rht_core.specs.declared.event.Event.{Event}
use Rattle.rht_core.specs.Runs.{Core, local_of, beginning_in, run_of, IsAdmitted}

-- Whatever start is named, an enrolled caller in no call begins with the machine that searches from the first word of the node map, and
-- nobody else begins. A caller's operation is the one that its machine plans.
pub record IsPlain {M : Type 0} (core : Core M) : Type 0 where
  pub begins : (c : ℕ) (call : Call) (start : ℕ)
      → beginning_in core c call start
      ≡ (if nat_lt c core.enrolled && is_idle (local_of core c) then machine_of core.env c (local_of core c).batch call else None)
  pub plans : (c : ℕ) → plan_of (local_of core c) ≡ doing_plan (local_of core c).doing

module _ (M : Type 0) (mix : ℕ → ℕ → ℕ → ℕ) where
  -- so it is at each moment of every run of such a table
  abbrev pub PlainRuns : Type 0
  PlainRuns =
      (env : Env) (events : List Event) → IsAdmitted events → env.ways ≡ plain_ways
      → IsPlain (run_of {M = M} mix env events).core
