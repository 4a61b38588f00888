-- What an open section may meet, where its caller stands there, and what an event makes of both.
--
-- What was met stays met while the section is open; an operation of the caller's own leads on to nothing else; and a section that has just been
-- opened stands nowhere.
use Rattle.std.proofs.Common.{◌≡◌, ◌≢◌, ◌⊎◌, ℕ, suc, ◌%◌, ◌<◌, ◌≤◌, Bool, true, false, List, Option, Some, None, refl, sym, ◌∙◌, ap, subst, inl, inr, arith}
use Rattle.std.specs.Prelude.{◌&&◌, ◌==◌, if◌then◌else◌}
use Rattle.std.specs.List.{AllByRecursion}
use Rattle.std.specs.Option.{is_some}
use Rattle.std.proofs.lemmas.Bool.{cases_eq, cond_both, eqb-true, eqb-false, eq-eqb, or_left}
use Rattle.std.proofs.lemmas.List.{get_or-set_same, get_or-set_other}
use Rattle.rht_words.specs.declared.op.Op.{Op}
use Rattle.rht_words.specs.declared.env.Env.{Env}
use Rattle.rht_ghost.proofs.Pieces.HeldSections.{is_in}
use Rattle.rht_core.proofs.Machines.HeldSteps.{is_in-true, not_in, soft-old}
use Rattle.rht_words.specs.Operations.{old_of}
use Rattle.rht_words.specs.Places.{Section, word_at}
use Rattle.rht_words.specs.Standing.{Standing, stands_nowhere}
use Rattle.rht_words.specs.Members.{In}
use Rattle.rht_words.proofs.Members.{AllByRecursion-In}
use Rattle.rht_ghost.proofs.Theory.Wholes.{AreFrom, IsTurned, one_table}
use Rattle.rht_words.proofs.EachElement.{AllByRecursion-weaker}
use Rattle.rht_model.specs.declared.history.Call.{Call}
use Rattle.rht_callers.specs.declared.local.Local.{Local}
use Rattle.rht_callers.specs.declared.local.Doing.{Doing}
use Rattle.rht_callers.specs.Locals.{fresh, begin_with, local_after}
use Rattle.rht_core.specs.declared.event.Event.{Event}
use Rattle.rht_core.specs.declared.event.Event.TheVariants.{Enroll, Begin, Step}
use Rattle.rht_core.specs.Jobs.{Job, job_of, job_plan, job_after, told, held_of, IsFirstJob}
use Rattle.rht_core.specs.Reach.{IsReading, ComesTo}
use Rattle.rht_core.specs.Runs.{Core, core_step, with_step, with_machine, local_of, beginning_in, planned_in}
use Rattle.rht_core.specs.Sections.{IsInNoSection}
use Rattle.rht_core.specs.Standings.{standing, standing_with}
use Rattle.rht_core.proofs.Events.UnturnedSections.{knows-reads}
use Rattle.rht_core.proofs.Events.Invariants.{Inv, StepOf, step_of}
use Rattle.rht_core.proofs.Events.RangesInRuns.{AllIn}
use Rattle.rht_core.proofs.Events.JobsOfCallers.{left-job, first_job-machine}
use Rattle.rht_core.proofs.Events.SectionsInRuns.{AreRight, odd_by, in_section}
use Rattle.rht_core.proofs.Events.SoundRuns.{has_place, made_in}
use Rattle.rht_core.proofs.Events.Worlds.{beginning-some, planned-some}
use Rattle.rht_core.proofs.Finding.PlacesInRuns.{Placed, EventMakes}
use Rattle.rht_ghost.proofs.Theory.Ghosts.{Ghost, is_first, is_listed}
use Rattle.rht_ghost.proofs.Theory.Passed.{GrowsFrom, at-from}
use Rattle.rht_core.proofs.Events.SectionMoves.{none_even}
use Rattle.rht_ghost.proofs.Theory.Reliance.{TablesStay}
use Rattle.rht_ghost.proofs.Theory.Frames.{GoesBack}
use Rattle.rht_ghost.proofs.Theory.Steps.{mem, ghost_after, SectionTurns, section_turns}
use Rattle.rht_core.proofs.Returning.ComingJobs.{job_outside, first_stands}
use Rattle.rht_core.proofs.Returning.Reached.{MeetsTable, StandsRight, comes-right}
use Rattle.rht_core.proofs.Returning.Readers.{Reader, is_open, IsOpen, meets_too, opens, reads_nothing, ReaderRight, reader-opens, reader-leaves}
use Rattle.rht_core.proofs.Returning.TiedJobs.{tied_with, first_ties, ties_stay, job_ties}
use Rattle.rht_core.proofs.Returning.StaleLinks.{made-keeps}

-- who stands nowhere stands rightly
nowhere_right : (G : Ghost) (r : Reader) (at : Standing) → at ≡ stands_nowhere → StandsRight G r at
nowhere_right G r at is = subst (StandsRight G r) (sym is) (record { tables = tt; nodes = tt; listed = tt })

-- a table that a section has met is not before one from which on tables stay that isn't behind the section's first one
meets-from : (low : ℕ) (G : Ghost) (r : Reader) → IsOpen r → ((first : ℕ) → r.from ≡ Some first → low ≤ first) → (slot : ℕ)
    → (meets : MeetsTable G r slot) → low ≤ meets.at.table
meets-from low G r reads begins slot meets = go r.from refl
  where
    go : (from : Option ℕ) → r.from ≡ from → low ≤ meets.at.table
    go None is = absurd (let closed = ap is_some is in cc)
    go (Some first) is =
        let since = meets.since first is in let begin = begins first is in omega (arith, since, begin)

-- what was met stays met, and more may be
stays_met : (env : Env) (mix : ℕ → ℕ → ℕ → ℕ) (low : ℕ) (G G' : Ghost) (r : Reader) → GrowsFrom env mix low G G' → IsOpen r
    → ((first : ℕ) → r.from ≡ Some first → low ≤ first) → (at : Standing) → StandsRight G r at → StandsRight G' (meets_too G' r) at
stays_met env mix low G G' r grow reads begins at stands = record {
  tables = AllByRecursion-weaker (MeetsTable G r) (MeetsTable G' (meets_too G' r)) (λ slot meets. record {
    at = at-from env mix low G G' grow slot meets.at (meets-from low G r reads begins slot meets);
    since = meets.since;
  }) at.tables stands.tables;
  nodes = AllByRecursion-weaker _ _ (λ n met. or_left (r.chains n) (is_open r && is_first (G'.node n)) met) at.nodes stands.nodes;
  listed = AllByRecursion-weaker _ _ (λ n met. or_left (r.lists n) (is_open r && is_listed (G'.node n)) met) at.listed stands.listed;
}

module _ (env : Env) (mix : ℕ → ℕ → ℕ → ℕ) (L : Type 0) where
  abbrev pub stands_next : Core L → ℕ → Standing
  stands_next core c = standing (core_step mix core (Step c)).0 c

  -- ---- where callers stand behind an event

  -- the job of what a caller does
  abbrev job_at : Core L → ℕ → Option Job
  job_at core c = job_of (local_of core c).doing

  -- a caller does what it did, or begins a call
  pub record Begins (core' : Core L) (c : ℕ) : Type 0 where
    pub call : Call
    pub job : Job
    pub first : IsFirstJob env call job
    pub is : job_of (local_of core' c).doing ≡ Some job

  abbrev pub StaysOrBegins : Core L → Core L → ℕ → Type 0
  StaysOrBegins core core' c = (job_of (local_of core' c).doing ≡ job_of (local_of core c).doing) ⊎ Begins core' c

  -- Where a caller stands as before, nowhere, or where it could come to; and nowhere where it isn't in its section. And the bucket that its
  -- call has locked is still one of the table at which it stands.
  pub record Leads (core core' : Core L) (G : Ghost) (c : ℕ) : Type 0 where
    pub ties : tied_with env mix G (job_of (local_of core c).doing) → tied_with env mix G (job_of (local_of core' c).doing)
    pub inside : IsReading env.geometry core.words c
        → (standing core' c ≡ standing core c) ⊎ (standing core' c ≡ stands_nowhere)
        ⊎ ComesTo env.geometry core.words (standing core c) (standing core' c)
    pub outside : IsInNoSection env.geometry core.words c → standing core' c ≡ stands_nowhere

  module _ (core : Core L) (G : Ghost) (all : AllIn L mix env core) (inv : Inv env mix L core G) where
    -- what a caller does behind its operation is what is left of its job
    module _ (c : ℕ) (op : Op) (plan : planned_in core c ≡ Some op) where
      abbrev pub of : StepOf env mix L core G c op
      of = step_of env mix L core G c op all inv plan

      pub next_job : job_at (core_step mix core (Step c)).0 c ≡ (told (job_after mix env of.job (old_of core.words op))).0
      next_job =
          let can = planned-some core.env core.enrolled core.locals c op plan in
          let place = has_place L mix env core c all.stays can.below in
          let old = old_of core.words op in
          let local = (local_after mix (local_of core c) old).0 in
          let left = left-job mix env (local_of core c).doing of.job old (all.stays.locals_of c).doing of.is in
          ap (λ o. job_at (with_step mix core c o).0 c) plan
          ∙ ap (λ (l : Local L). job_of l.doing) (get_or-set_same core.locals c local (fresh core.env) place)
          ∙ left

    -- another caller does what it did
    pub other_job : (c d : ℕ) → c ≢ d → (plan : Option Op) → job_at (with_step mix core d plan).0 c ≡ job_at core c
    other_job c d ne None = refl
    other_job c d ne (Some op) =
        let local = (local_after mix (local_of core d) (old_of core.words op)).0 in
        ap (λ (l : Local L). job_of l.doing) (get_or-set_other core.locals d c local (fresh core.env) ne)

    -- and one that begins a call does its first job
    pub begun_job : (c d : ℕ) (call : Call) (start : ℕ) (machine : Option (Doing L)) → beginning_in core d call start ≡ machine
        → StaysOrBegins core (record core { locals = with_machine core.env core.locals d machine }) c
    begun_job c d call start None is = inl refl
    begun_job c d call start (Some machine) is =
        let can = beginning-some core.env core.enrolled core.locals d call start machine is in
        let place = has_place L mix env core d all.stays can.below in
        let first = first_job-machine env d (local_of core d).batch start call machine (made_in L mix env core d call start machine all.stays can) in
        let local = begin_with (local_of core d) machine in
        elim (cases_eq c d) [
          | inl e ↦ inr (record {
            call = call;
            job = first.job;
            first = first.first;
            is = rw e (ap (λ (l : Local L). job_of l.doing) (get_or-set_same core.locals d local (fresh core.env) place) ∙ first.does);
          })
          | inr ne ↦ inl (ap (λ (l : Local L). job_of l.doing) (get_or-set_other core.locals d c local (fresh core.env) ne))
        ]

  -- ---- out of sections

  -- by its section's word a caller has its section open, or not
  module _ (core : Core L) (parity : AreRight env mix L core) where
    odd_no : (inside : Bool) → odd_by inside ≡ 0 → inside ≡ false
    odd_no true is = absurd (cc)
    odd_no false is = refl

    odd_yes : (inside : Bool) → odd_by inside ≡ 1 → inside ≡ true
    odd_yes true is = refl
    odd_yes false is = absurd (cc)

    closed_now : (c : ℕ) → c < 16 → IsInNoSection env.geometry core.words c → in_section (job_of (local_of core c).doing) ≡ false
    closed_now c low out = not_in (local_of core c).held _ (odd_no _ (sym (parity c low) ∙ out))

    pub opens_now : (c : ℕ) → c < 16 → (job : Job) → job_of (local_of core c).doing ≡ Some job → (held_of job).section ≡ true
        → IsReading env.geometry core.words c
    opens_now c low job is inside =
        let over = (local_of core c).held in
        parity c low ∙ ap (λ j. odd_by (is_in over (in_section j))) is ∙ ap (λ s. odd_by (is_in over s)) inside ∙ ap odd_by (is_in-true over)

    pub stands_outside : (c : ℕ) → c < 16 → IsInNoSection env.geometry core.words c → standing core c ≡ stands_nowhere
    stands_outside c low out = go (job_of (local_of core c).doing) (closed_now c low out)
      where
        go : (job : Option Job) → in_section job ≡ false → standing_with job ≡ stands_nowhere
        go None closed = refl
        go (Some job) closed = (job_outside mix env job closed).before

    pub stays_outside : (G : Ghost) → AllIn L mix env core → Inv env mix L core G → (c : ℕ) (op : Op) → planned_in core c ≡ Some op
        → IsInNoSection env.geometry core.words c → stands_next core c ≡ stands_nowhere
    stays_outside G all inv c op plan out =
        let of = step_of env mix L core G c op all inv plan in
        ap standing_with (next_job core G all inv c op plan)
        ∙ (job_outside mix env of.job (sym (ap in_section of.is) ∙ closed_now c of.few out)).behind (old_of core.words op)

    -- ---- where callers stand behind an event

    module _ (G : Ghost) (all : AllIn L mix env core) (inv : Inv env mix L core G)
        (comes : (c : ℕ) (op : Op) → planned_in core c ≡ Some op
        → ComesTo env.geometry core.words (standing core c) (stands_next core c)) where
      few : (c : ℕ) → c < env.geometry.callers → c < 16
      few c low = let callers = env.geometry.within.callers_within in omega (arith, low, callers.1)

      -- a caller that does what it did, or begins a call
      no_further : (core' : Core L) (c : ℕ) → c < env.geometry.callers → StaysOrBegins core core' c → Leads core core' G c
      no_further core' c low (inl same) = record {
        ties = subst (tied_with env mix G) (sym same);
        inside = λ reads. inl (ap standing_with same);
        outside = λ out. ap standing_with same ∙ stands_outside c (few c low) out;
      }
      no_further core' c low (inr begins) =
          let none = ap standing_with begins.is ∙ first_stands env begins.call begins.job begins.first in
          record {
            ties = λ tied. subst (tied_with env mix G) (sym begins.is) (first_ties env mix G begins.call begins.job begins.first);
            inside = λ reads. inr (inl none);
            outside = λ out. none;
          }

      -- a caller that makes an operation
      own_leads : (c : ℕ) (op : Op) → planned_in core c ≡ Some op → Leads core (core_step mix core (Step c)).0 G c
      own_leads c op plan =
          let of = step_of env mix L core G c op all inv plan in
          record {
            ties = λ tied.
                subst (tied_with env mix G) (sym (next_job core G all inv c op plan))
                (job_ties env mix core.words G inv.whole c of.job of.within of.knows (old_of core.words op)
                (ap (old_of core.words) of.plan ∙ soft-old (local_of core c).held (job_plan env c of.job) core.words)
                (subst (tied_with env mix G) of.is tied));
            inside = λ reads. inr (inr (comes c op plan));
            outside = stays_outside G all inv c op plan;
          }

      step_leads : (c d : ℕ) → c < env.geometry.callers → (plan : Option Op) → planned_in core d ≡ plan
          → Leads core (core_step mix core (Step d)).0 G c
      step_leads c d low None plan =
          no_further _ c low (inl (ap (λ o. job_of (local_of (with_step mix core d o).0 c).doing) plan))
      step_leads c d low (Some op) plan = elim (cases_eq c d) [
        | inl e ↦ rw e (own_leads d op plan)
        | inr ne ↦ no_further _ c low (inl (other_job core G all inv c d ne (planned_in core d)))
      ]

      pub event_leads : (event : Event) (c : ℕ) → c < env.geometry.callers → Leads core (core_step mix core event).0 G c
      event_leads Enroll c low = no_further _ c low (inl refl)
      event_leads (Begin d call start) c low =
          no_further _ c low (begun_job core G all inv c d call start (beginning_in core d call start) refl)
      event_leads (Step d) c low = step_leads c d low (planned_in core d) refl

  -- ---- what is known of each section

  pub record MeetsRight (core : Core L) (G : Ghost) (c : ℕ) (r : Reader) : Type 0 where
    pub right : ReaderRight env mix (mem env mix core.words) G c r
    pub from_is : r.from ≡ G.from c
    pub stands : IsOpen r → StandsRight G r (standing core c)
    pub tied : tied_with env mix G (job_of (local_of core c).doing)

  abbrev section_of : Core L → ℕ → ℕ
  section_of core c = word_at env.geometry core.words (Section c)

  -- what its section may meet behind an event, by its word before and then
  abbrev pub reader_then : Core L → Core L → ℕ → Ghost → Reader → Reader
  reader_then core core' c G' r =
      if section_of core' c % 2 == 1 then (if section_of core c % 2 == 1 then meets_too G' r else opens G') else reads_nothing

  -- it is known behind an event
  module _ (events : List Event) (core core' : Core L) (placed : Placed env mix L events core) (met : ℕ → Bool) (Apart : ℕ → Type 0)
      (makes : EventMakes env mix L events core core' placed met Apart) (c : ℕ) (r : Reader) (meets : MeetsRight core placed.ghost c r)
      (leads : Leads core core' placed.ghost c)
      (unmet : (n : ℕ) → GoesBack env mix makes.caller placed.ghost (ghost_after env mix makes.caller makes.move placed.ghost) n
      → r.lists n ≡ false) where
    abbrev G : Ghost
    G = placed.ghost

    abbrev G' : Ghost
    G' = ghost_after env mix makes.caller makes.move G

    stay : TablesStay env mix G G'
    stay = (makes.made.others (suc makes.caller) (λ e. absurd (omega arith))).tables

    even : (word : ℕ) → word % 2 ≢ 1 → word % 2 ≡ 0
    even word not = omega (arith, not)

    stands_then : IsReading env.geometry core.words c → IsOpen r → StandsRight G r (standing core' c)
    stands_then reads open_now = elim (leads.inside reads) [
      | inl same ↦ subst (StandsRight G r) (sym same) (meets.stands open_now)
      | inr (inl none) ↦ nowhere_right G r (standing core' c) none
      | inr (inr comes) ↦
          comes-right env mix core.words G placed.inv.whole c r meets.right open_now (standing core c) (meets.stands open_now)
          (standing core' c) comes
    ]

    -- where it stands now it is in no table before one that is behind no table with which a section begins
    pub stands_from : (least : ℕ) → ((d first : ℕ) → G.from d ≡ Some first → least ≤ first) → AreFrom least G (standing core' c).tables
    stands_from least begins slot there at = elim (cases_eq (section_of core c % 2) 1) [
      | inl odd ↦
          let reads = meets.right.odd.0 odd in
          let met = AllByRecursion-In (MeetsTable G r) slot (standing core' c).tables (stands_then odd reads).tables there in
          let from = meets-from least G r reads (λ first is. begins c first (sym meets.from_is ∙ is)) slot met in
          omega (arith, from, one_table at met.at)
      | inr not ↦
          absurd (subst (λ (s : Standing). In slot s.tables) (leads.outside (even (section_of core c) not)) there)
    ]

    tied_then : tied_with env mix G' (job_of (local_of core' c).doing)
    tied_then =
        ties_stay env mix stay.low G G' stay.grow (job_of (local_of core' c).doing) (stands_from stay.low stay.sections)
        (leads.ties meets.tied)

    -- by its section's word behind the event: from which table on it reads then
    module _ (parity' : AreRight env mix L core') (low : c < 16) where
      turned_then : IsTurned env mix (G'.from c) (section_of core' c)
      turned_then =
          subst (λ (K : Ghost). IsTurned env mix (K.from c) (section_of core' c)) makes.same (makes.inv.whole.sections.words c low)

      not_closed : section_of core' c % 2 ≡ 1 → G'.from c ≢ None
      not_closed odd closed =
          let even = subst (λ f. IsTurned env mix f (section_of core' c)) closed turned_then in omega (arith, even, odd)

      shut_then : section_of core' c % 2 ≡ 0 → G'.from c ≡ None
      shut_then is = none_even env mix (G'.from c) (section_of core' c) turned_then is

      turned : SectionTurns env mix c G G'
      turned = section_turns env mix makes.caller c makes.move (mem env mix core.words) G makes.ready

      -- a section that was open and is has its first table still
      still_from : section_of core c % 2 ≡ 1 → section_of core' c % 2 ≡ 1 → r.from ≡ G'.from c
      still_from was odd = elim turned [
        | inl same ↦ meets.from_is ∙ sym same
        | inr (inl opened) ↦ absurd (let none = ap is_some (meets.from_is ∙ opened.0) in let reads = meets.right.odd.0 was in cc)
        | inr (inr closed) ↦ absurd (not_closed odd closed)
      ]

      closed_before : section_of core c % 2 ≢ 1 → G.from c ≡ None
      closed_before shut = sym meets.from_is ∙ none r.from refl
        where
          none : (from : Option ℕ) → r.from ≡ from → r.from ≡ None
          none None is = is
          none (Some first) is = absurd (shut (meets.right.odd.1 (ap is_some is)))

      -- and one that is opened has the current one
      opens_from : section_of core c % 2 ≢ 1 → section_of core' c % 2 ≡ 1 → Some G'.current ≡ G'.from c
      opens_from shut odd = elim turned [
        | inl same ↦ absurd (not_closed odd (same ∙ closed_before shut))
        | inr (inl opened) ↦ sym opened.1
        | inr (inr closed) ↦ absurd (not_closed odd closed)
      ]

      opened_then : section_of core' c % 2 ≡ 1 → MeetsRight core' G' c (if section_of core c % 2 == 1 then meets_too G' r else opens G')
      opened_then odd =
          cond_both (section_of core c % 2 == 1) _ _ (MeetsRight core' G' c)
          (λ t.
          let was = eqb-true (section_of core c % 2) 1 t in
          record {
            right = made-keeps env mix makes.caller c (mem env mix core.words) (mem env mix core'.words) G G' r meets.from_is makes.made
                unmet (odd ∙ sym was) meets.right;
            from_is = still_from was odd;
            stands = λ open_then.
                stays_met env mix stay.low G G' r stay.grow open_then (λ first is. stay.sections c first (sym meets.from_is ∙ is))
                (standing core' c) (stands_then was open_then);
            tied = tied_then;
          })
          (λ f. record {
            right = reader-opens env mix (mem env mix core'.words) G' c makes.made.whole odd;
            from_is = opens_from (eqb-false (section_of core c % 2) 1 f) odd;
            stands = λ open_then.
                nowhere_right G' (opens G') (standing core' c) (leads.outside (even (section_of core c) (eqb-false (section_of core c % 2) 1 f)));
            tied = tied_then;
          })

      pub meets_then : MeetsRight core' G' c (reader_then core core' c G' r)
      meets_then =
          cond_both (section_of core' c % 2 == 1) _ _ (MeetsRight core' G' c)
          (λ t. opened_then (eqb-true (section_of core' c % 2) 1 t))
          (λ f. record {
            right = reader-leaves env mix (mem env mix core'.words) G' c (even (section_of core' c) (eqb-false (section_of core' c % 2) 1 f));
            from_is = sym (shut_then (even (section_of core' c) (eqb-false (section_of core' c % 2) 1 f)));
            stands = λ open_then. absurd (cc);
            tied = tied_then;
          })

    -- ---- where its look-up stands, it has met what it stands at

    abbrev HasMet : Standing → Type 0
    HasMet at = AllByRecursion (λ n. r.chains n ≡ true) at.nodes

    nowhere_met : (at : Standing) → at ≡ stands_nowhere → HasMet at
    nowhere_met at is = subst HasMet (sym is) tt

    pub stood : (IsInNoSection env.geometry core.words c → standing core c ≡ stands_nowhere) → HasMet (standing core c)
    stood outside = elim (cases_eq (section_of core c % 2) 1) [
      | inl odd ↦ (meets.stands (meets.right.odd.0 odd)).nodes
      | inr not ↦ nowhere_met (standing core c) (outside (even (section_of core c) not))
    ]

    pub will_stand : HasMet (standing core' c)
    will_stand = elim (cases_eq (section_of core c % 2) 1) [
      | inl odd ↦ (stands_then odd (meets.right.odd.0 odd)).nodes
      | inr not ↦ nowhere_met (standing core' c) (leads.outside (even (section_of core c) not))
    ]

    -- what it has met it has met still, or it stands nowhere
    pub turns : (IsInNoSection env.geometry core'.words c → standing core' c ≡ stands_nowhere)
        → (standing core' c ≡ stands_nowhere) ⊎ ((n : ℕ) → r.chains n ≡ true → (reader_then core core' c G' r).chains n ≡ true)
    turns outside = elim (cases_eq (section_of core' c % 2) 1) [
      | inl odd ↦ inr (λ n is. subst (λ (next : Reader). next.chains n ≡ true) (sym (still n is odd)) (or_left (r.chains n) (is_open r && is_first (G'.node n)) is))
      | inr not ↦ inl (outside (even (section_of core' c) not))
    ]
      where
        -- who has met something reads
        still : (n : ℕ) → r.chains n ≡ true → section_of core' c % 2 ≡ 1 → reader_then core core' c G' r ≡ meets_too G' r
        still n is odd =
            let was = meets.right.odd.1 (meets.right.reading n (meets.right.chained n is)) in
            ap (λ t. if t then (if section_of core c % 2 == 1 then meets_too G' r else opens G') else reads_nothing) (eq-eqb (section_of core' c % 2) 1 odd)
            ∙ ap (λ t. if t then meets_too G' r else opens G') (eq-eqb (section_of core c % 2) 1 was)
