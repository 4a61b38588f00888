-- Where each caller stands in its read section, by the job that it does.
use Rattle.std.specs.Prelude.{ℕ, Option, Some, None}
use Rattle.rht_words.specs.Standing.{Standing, stands_nowhere}
use Rattle.rht_find.specs.FindStanding.{standing_of_find}
use Rattle.rht_bind.specs.BindStanding.{standing_of_bind}
use Rattle.rht_release.specs.AllStanding.{standing_of_all}
use Rattle.rht_release.specs.ReleaseStanding.{standing_of_release}
use Rattle.rht_release.specs.RebindStanding.{standing_of_rebind}
use Rattle.rht_move.specs.WorkStanding.{standing_of_work}
use Rattle.rht_walk.specs.WalkStanding.{standing_of_walk}
use Rattle.rht_core.specs.Jobs.{Job, finds, binds, lists, releases, rebinds, works, tidies, walks, counts, job_of}
use Rattle.rht_core.specs.Runs.{Core, local_of}

abbrev pub standing_of : Job → Standing
standing_of (finds port state) = standing_of_find state
standing_of (binds port owner once state) = standing_of_bind state
standing_of (lists port room state) = standing_of_all state
standing_of (releases port owner state) = standing_of_release state
standing_of (rebinds port owner new state) = standing_of_rebind state
standing_of (works state) = standing_of_work state
standing_of (tidies batch state) = stands_nowhere
standing_of (walks from limit room state) = standing_of_walk state
standing_of counts = stands_nowhere

-- a caller in no call stands nowhere
abbrev pub standing_with : Option Job → Standing
standing_with None = stands_nowhere
standing_with (Some job) = standing_of job

abbrev pub standing : {M : Type 0} → Core M → ℕ → Standing
standing core c = standing_with (job_of (local_of core c).doing)
