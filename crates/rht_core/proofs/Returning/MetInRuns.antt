-- In every run it is known of each open section what it may meet, and where its caller stands there it may meet what it stands at.
use Rattle.std.proofs.Common.{◌≡◌, ℕ, ◌<◌, true, List, Some, subst}
use Rattle.rht_words.specs.declared.op.Op.{Op}
use Rattle.rht_words.specs.declared.env.Env.{Env}
use Rattle.rht_words.specs.Standing.{stands_nowhere}
use Rattle.rht_core.specs.declared.event.Event.{Event}
use Rattle.rht_core.specs.Jobs.{Job, job_of, held_of}
use Rattle.rht_core.specs.Reach.{IsReading, ComesTo}
use Rattle.rht_core.specs.Runs.{Core, World, run_of, local_of, planned_in, IsAdmitted}
use Rattle.rht_core.specs.Sections.{IsInNoSection}
use Rattle.rht_core.specs.Standings.{standing}
use Rattle.rht_core.proofs.Events.Invariants.{Inv, StepOf}
use Rattle.rht_core.proofs.Events.RangesInRuns.{AllIn}
use Rattle.rht_core.proofs.Events.SectionsInRuns.{section_parity}
use Rattle.rht_core.proofs.Finding.LookupsInRuns.{has_looks, comes, unmet}
use Rattle.rht_core.proofs.Finding.PlacesInRuns.{Placed}
use Rattle.rht_core.proofs.Tracing.TracedRuns.{world-traced_of}
use Rattle.rht_ghost.proofs.Theory.Ghosts.{Ghost}
use Rattle.rht_ghost.proofs.Theory.Steps.{ReturnsNode}
use Rattle.rht_core.proofs.Returning.Meeting.{MeetsRight, stands_next, opens_now, stands_outside, stays_outside}
use Rattle.rht_core.proofs.Returning.MetBySome.{IsApart}
use Rattle.rht_core.proofs.Returning.Readers.{Reader}

module _ (env : Env) (mix : ℕ → ℕ → ℕ → ℕ) (L : Type 0) where
  abbrev W : List Event → World L
  W events = run_of mix env events

  -- what is known of each section
  pub record Met (events : List Event) (core : Core L) : Type 0 where
    pub placed : Placed env mix L events core
    pub readers : ℕ → Reader
    pub each : (c : ℕ) → c < env.geometry.callers → MeetsRight env mix L core placed.ghost c (readers c)
    -- a node that is given back no section has met
    pub apart : (c : ℕ) (op : Op) (of : StepOf env mix L core placed.ghost c op) (n : ℕ) → planned_in core c ≡ Some op
        → of.step.move ≡ ReturnsNode n → IsApart env.geometry.callers readers n

  module _ (events : List Event) (admitted : IsAdmitted events) where
    abbrev core : Core L
    core = (W events).core

    pub has_met : Met events core
    has_met =
        let looking = has_looks L mix env events admitted in
        subst (λ (w : World L). Met events w.core) (world-traced_of L mix env events)
        (record {
          placed = looking.placed;
          readers = looking.readers;
          each = looking.meets;
          apart = λ c op of n planned is. (unmet L mix env events admitted looking c op of n planned is).1;
        })

    pub open_now : (c : ℕ) → c < 16 → (job : Job) → job_of (local_of core c).doing ≡ Some job → (held_of job).section ≡ true
        → IsReading env.geometry core.words c
    open_now = opens_now env mix L core (section_parity env mix L events admitted)

    pub outside_now : (c : ℕ) → c < 16 → IsInNoSection env.geometry core.words c → standing core c ≡ stands_nowhere
    outside_now = stands_outside env mix L core (section_parity env mix L events admitted)

    pub outside_next : (G : Ghost) → AllIn L mix env core → Inv env mix L core G → (c : ℕ) (op : Op) → planned_in core c ≡ Some op
        → IsInNoSection env.geometry core.words c → stands_next env mix L core c ≡ stands_nowhere
    outside_next = stays_outside env mix L core (section_parity env mix L events admitted)

    -- a caller's operation leads where it could come to
    pub comes_next : (c : ℕ) (op : Op) → planned_in core c ≡ Some op
        → ComesTo env.geometry core.words (standing core c) (stands_next env mix L core c)
    comes_next =
        subst (λ (w : World L). (c : ℕ) (op : Op) → planned_in w.core c ≡ Some op
        → ComesTo env.geometry w.core.words (standing w.core c) (stands_next env mix L w.core c)) (world-traced_of L mix env events)
        (comes L mix env events admitted (has_looks L mix env events admitted))
