-- Which callers have raised the count of ports for a node that they haven't linked yet, or have still to lower it for one that they have
-- taken out: what their jobs hold says so. And the count by these.
use Rattle.std.specs.Prelude.{◌≡◌, ℕ, ◌+◌, ◌≤◌, Bool, false, Option, Some, None, count_by}
use Rattle.std.specs.List.{range_with_len}
use Rattle.rht_words.specs.declared.env.Env.{Env}
use Rattle.rht_words.specs.Places.{PortCount, word_at}
use Rattle.rht_callers.specs.declared.local.Doing.{Doing}
use Rattle.rht_core.specs.Jobs.{Job, job_of, held_of}
use Rattle.rht_core.specs.Runs.{Core, local_of}
use Rattle.rht_stands.specs.StandsFor.{stands_for, AreAllBound}

-- the job has
abbrev pub raised_by : Option Job → Bool
raised_by None = false
raised_by (Some job) = (held_of job).raised

-- the caller has
abbrev pub is_raising : {M : Type 0} → Doing M → Bool
is_raising doing = raised_by (job_of doing)

-- how many callers have
abbrev pub raising : {M : Type 0} → Core M → ℕ
raising core = count_by (λ c. is_raising (local_of core c).doing) (range_with_len 0 core.env.geometry.callers)

-- the count of ports is the number of ports bound, and of these callers; and it is at most the nodes
pub record IsCountedBy {M : Type 0} (env : Env) (core : Core M) : Type 0 where
  pub bound : ℕ
  pub all_bound : AreAllBound (stands_for env.geometry core.words) bound
  pub counted : word_at env.geometry core.words PortCount ≡ bound + raising core
  pub few : word_at env.geometry core.words PortCount ≤ env.geometry.nodes
