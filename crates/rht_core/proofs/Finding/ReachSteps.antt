-- The way to a port's bucket serves a look-up without locks: behind each of its loads the look-up is on the way still, at the bucket's
-- word, or, where the bucket is missing, before the table's future.
use Rattle.std.proofs.Common.{◌≡◌, ℕ, ◌≤◌, Bool, List, sym, ◌∙◌}
use Rattle.rht_words.specs.declared.env.Env.{Env}
use Rattle.rht_words.specs.declared.machine.Next.{Next}
use Rattle.rht_words.specs.declared.machine.Next.TheVariants.{Go, Done}
use Rattle.rht_words.specs.Operations.{old_of}
use Rattle.rht_nest.specs.Reach.{ReachModel, reach_plan, reach_after, IsReachIn}
use Rattle.rht_nest.specs.declared.place.Bucket.{Bucket}
use Rattle.rht_nest.specs.declared.place.Bucket.TheVariants.{At, Absent}
use Rattle.rht_nest.proofs.Reaches.{reach_after-table}
use Rattle.rht_ghost.proofs.Theory.Ghosts.{Ghost}
use Rattle.rht_ghost.proofs.Theory.Wholes.{word_index, IsAt, Whole}
use Rattle.rht_ghost.proofs.Theory.Passed.{GrowsFrom}
use Rattle.rht_ghost.proofs.Theory.Steps.{mem}
use Rattle.rht_ghost.proofs.Pieces.Reaches.{IsReachingHome, IsReachingHome-from, ReachTells, reach_tells}
use Rattle.rht_core.proofs.Finding.Places.{Places, PlacesRight}
use Rattle.rht_core.proofs.Finding.Deaths.{DeathsRight}
use Rattle.rht_core.proofs.Finding.Stages.{Stage, Reaching, Heading, Ending, StageMeans}
use Rattle.rht_core.proofs.Finding.StageSteps.{reached, missed}

module _ (env : Env) (mix : ℕ → ℕ → ℕ → ℕ) where
  -- where the look-up stands behind an operation of the way
  abbrev pub stage_of_reach : ReachModel × Next Bucket → Stage
  stage_of_reach (m, Go) = Reaching m.table
  stage_of_reach (m, Done (At place)) = Heading m.table (word_index env mix place)
  stage_of_reach (m, Done (Absent entry)) = Ending m.table

  -- what is so of the way outlives an operation of anybody else
  pub reaching-stays : (low : ℕ) (G G' : Ghost) → GrowsFrom env mix low G G' → (port : ℕ) (m : ReachModel) (of : IsAt G m.table)
      → low ≤ of.table → IsReachingHome env mix G port of.table m.at → IsReachingHome env mix G' port of.table m.at
  reaching-stays low G G' grow port m of from is = IsReachingHome-from env mix low G G' grow port of.table m.at of.attached from is

  module _ (port : ℕ) (seen : ℕ → Bool) (since now : ℕ) (words : List ℕ) (G : Ghost) (P : Places) (whole : Whole env mix (mem env mix words) G)
      (right : PlacesRight env mix G P (mem env mix words) now) (deaths : DeathsRight env (mem env mix words) G P now)
      (Said : Type 0) where
    abbrev Means : Stage → Type 0
    Means = StageMeans env mix port seen since Said (mem env mix words) G P

    -- what is so on the way, or at its end
    abbrev pub ReachLeads : ReachModel × Next Bucket → Type 0
    ReachLeads (m, Go) = (means : Means (Reaching m.table)) × IsReachingHome env mix G port means.0.table m.at
    ReachLeads (m, Done bucket) = Means (stage_of_reach (m, Done bucket))

    -- what an operation tells leads to it
    leads_on : (m : ReachModel) (next : Next Bucket) (means : Means (Reaching m.table))
        → ReachTells env mix G port means.0.table (m, next) → ReachLeads (m, next)
    leads_on m Go means tells = (means, tells)
    leads_on m (Done (At place)) means tells =
        reached env mix port seen since now (mem env mix words) G P whole right deaths Said m.table (word_index env mix place) means
        tells.here
    leads_on m (Done (Absent entry)) means tells =
        missed env mix port seen since now (mem env mix words) G P whole right deaths Said m.table means tells

    -- in the same table
    at_same : (slot : ℕ) (means : Means (Reaching slot)) (next : ReachModel × Next Bucket) → next.0.table ≡ slot
        → ReachTells env mix G port means.0.table next → ReachLeads next
    at_same slot means (m, next) same tells =
        let there : Means (Reaching m.table) =
        (record { table = means.0.table; attached = means.0.attached; slot_is = means.0.slot_is ∙ sym same; on = means.0.on }, means.1) in
        leads_on m next there tells

    pub reach_leads : (m : ReachModel) → IsReachIn env.geometry m → (means : Means (Reaching m.table))
        → IsReachingHome env mix G port means.0.table m.at
        → ReachLeads (reach_after mix port m (old_of words (reach_plan m)))
    reach_leads m within means is =
        at_same m.table means (reach_after mix port m (old_of words (reach_plan m)))
        (reach_after-table mix port m (old_of words (reach_plan m)))
        (reach_tells env mix words G whole port m within means.0 is)
