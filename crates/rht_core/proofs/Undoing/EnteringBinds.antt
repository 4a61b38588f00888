-- Which call enters a page: a bind that has come to the table of the entry. It is known of its way that the entry is that table's, and of
-- its operations that they came to it.
use Rattle.std.proofs.Common.{◌≡◌, ℕ, ◌<◌, Bool, false, List, refl, sym, ap, ◌∙◌, subst, arith}
use Rattle.rht_words.specs.declared.env.Env.{Env}
use Rattle.rht_words.specs.declared.geometry.Geometry.{Geometry}
use Rattle.rht_words.specs.declared.op.Op.TheVariants.{Exchange}
use Rattle.rht_words.specs.Links.{entry_of, future_of}
use Rattle.rht_words.specs.Members.{In}
use Rattle.rht_words.specs.Operations.{op_place}
use Rattle.rht_words.specs.Places.{Slot, FutureWord, PageWord, place_of}
use Rattle.rht_words.proofs.Memory.{Memory}
use Rattle.rht_words.proofs.PlacesApart.{parts_in_order}
use Rattle.rht_nest.specs.Place.{PlaceModel, entry_place}
use Rattle.rht_nest.specs.Grow.{GrowModel, grow_plan_at}
use Rattle.rht_nest.specs.declared.grow.GrowAt.{GrowAt}
use Rattle.rht_nest.specs.declared.grow.GrowAt.TheVariants as grows
use Rattle.rht_bind.specs.Bind.{IsBindAtIn}
use Rattle.rht_bind.specs.BindHeld.{held_of_bind}
use Rattle.rht_bind.specs.declared.bind.Attempt.{Attempt}
use Rattle.rht_bind.specs.declared.bind.BindAt.{BindAt}
use Rattle.rht_bind.specs.declared.bind.BindAt.TheVariants as binding
use Rattle.rht_core.specs.Jobs.{Job, binds, works, job_plan, held_of}
use Rattle.rht_core.specs.Traces.{Did}
use Rattle.rht_core.specs.Seen.{CameTo}
use Rattle.rht_ghost.proofs.Theory.Ghosts.{Ghost, table_at}
use Rattle.rht_ghost.proofs.Theory.Wholes.{Whole}
use Rattle.rht_ghost.proofs.Theory.Knowledge.{TableMeans}
use Rattle.rht_ghost.proofs.Pieces.OpenEntries.{known_growing, open_in_table}
use Rattle.rht_core.proofs.Machines.JobSteps.{JobIn, JobKnows}
use Rattle.rht_core.proofs.Machines.NeverHeld.{tableless, pageless}
use Rattle.rht_core.proofs.Reasons.TablesWalked.{walked-came}
use Rattle.rht_core.proofs.Reasons.CausesInRuns.{JobSaw}
use Rattle.rht_core.proofs.Undoing.PastRefusal.{bind_is_past, is_past}
use Rattle.rht_core.proofs.Undoing.RefusableJobs.{early_work, make-enters, take-none, unmake-enters, work-enters}

-- a bind that is to enter a page has come to the table in which it is
abbrev pub CameToEnter : Geometry → Job → List Did → Type 0
CameToEnter g job steps =
    (port owner : ℕ) (once : Bool) (attempt : Attempt) (table shape : ℕ) (place : PlaceModel) (grow : GrowModel)
    → job ≡ binds port owner once (binding.Entering attempt table shape place grow) → CameTo g table steps

-- since it has walked that one last
pub saw-came : (env : Env) (c : ℕ) (words_at : ℕ → List ℕ) (mix : ℕ → ℕ → ℕ → ℕ) (job : Job) (steps : List Did)
    → JobSaw env c words_at mix job steps → CameToEnter env.geometry job steps
saw-came env c words_at mix job steps saw port owner once attempt table shape place grow is =
    let here : JobSaw env c words_at mix (binds port owner once (binding.Entering attempt table shape place grow)) steps =
    subst (λ j. JobSaw env c words_at mix j steps) is saw in
    walked-came env.geometry table shape steps here.0.walked

module _ (env : Env) (mix : ℕ → ℕ → ℕ → ℕ) (c : ℕ) (M : Memory) (G : Ghost) (did : Did) (entry page : ℕ)
    (exchanges : did.op ≡ Exchange (place_of env.geometry (PageWord entry)) 0 (entry_of page)) where
  abbrev g : Geometry
  g = env.geometry

  -- the future of a table in a slot is no word of a page
  pub attaching-none : (last slot : ℕ) → last < 8 → did.op ≡ Exchange (place_of g (Slot last FutureWord)) 0 (future_of slot) → ⊥
  attaching-none last slot low is =
      let same : place_of g (Slot last FutureWord) ≡ place_of g (PageWord entry) = ap op_place (sym is ∙ exchanges) in
      let order = parts_in_order g in
      absurd (omega (arith, low, same, order.pages, order.nodes, order.page_map))

  module _ (whole : Whole env mix M G) (steps : List Did) where
    -- the entry is one of the call's table
    abbrev CameToEntry : Type 0
    CameToEntry = CameTo g (G.table (table_at G entry)).slot steps

    grow-came : (port table shape : ℕ) (place : PlaceModel) (grow : GrowModel) (state : GrowAt)
        → place.geometry ≡ g → grow.entry ≡ entry_place place
        → TableMeans env mix c G (known_growing port table shape place state)
        → did.op ≡ grow_plan_at grow.entry state → CameTo g table steps → CameToEntry
    grow-came port table shape place grow (grows.Taking take) same there means is came =
        absurd (take-none env mix c M G did entry page exchanges take take.at (sym is ∙ exchanges))
    grow-came port table shape place grow (grows.Entering p) same there means is came =
        let on_place : grow.entry ≡ place_of g (PageWord entry) = (let both = sym is ∙ exchanges in cc) in
        let at_place : place_of g (PageWord place.entry) ≡ place_of g (PageWord entry) =
        sym (there ∙ ap (λ h. place_of h (PageWord place.entry)) same) ∙ on_place in
        let same_entry : place.entry ≡ entry = omega (arith, at_place) in
        let at = means.shaped.passing.at in
        let table_is : table_at G entry ≡ at.table =
        ap (table_at G) (sym same_entry) ∙ (open_in_table env mix M G whole port table shape place means).table in
        subst (λ slot. CameTo g slot steps) (sym (ap (λ τ. (G.table τ).slot) table_is ∙ at.slot_is)) came
    grow-came port table shape place grow (grows.Giving other give) same there means is came =
        absurd (let both = sym is ∙ exchanges in cc)

    bind-came : (port owner : ℕ) (once : Bool) (state : BindAt) → bind_is_past state ≡ false → IsBindAtIn env state
        → JobKnows env mix c (binds port owner once state) M G
        → did.op ≡ job_plan env c (binds port owner once state) → In page (held_of_bind state).pages
        → CameToEnter g (binds port owner once state) steps → CameToEntry
    bind-came port owner once (binding.Making growing size make) may within knows is i came =
        absurd (make-enters env mix c M G did entry page exchanges make.exponent make.seed make.geometry make.at is i)
    bind-came port owner once (binding.Attaching growing slot shape) may within knows is i came =
        absurd (attaching-none growing.table slot within.growing_in.table_in is)
    bind-came port owner once (binding.Unmaking attempt unmake answer) may within knows is i came =
        absurd (unmake-enters env mix c M G did entry page exchanges unmake.geometry unmake.slot unmake.at is)
    bind-came port owner once (binding.Entering attempt table shape place grow) may within knows is i came =
        grow-came port table shape place grow grow.at within.place_in.geometry_same knows.fits knows.knowing.means.table is
        (came port owner once attempt table shape place grow refl)
    bind-came port owner once (binding.Replacing list relink) may within knows is i came = absurd (cc)
    bind-came port owner once (binding.Publish node table relink kick) may within knows is i came = absurd (cc)
    bind-came port owner once _ may within knows is i came = absurd i

    -- so whoever enters a page has come to the table of the entry
    pub came_to_entry : (job : Job) → is_past job ≡ false → JobIn env mix c job → JobKnows env mix c job M G
        → did.op ≡ job_plan env c job → In page (held_of job).pages → CameToEnter g job steps → CameToEntry
    came_to_entry (binds port owner once state) may within knows is i came =
        bind-came port owner once state may within.at_in knows is i came
    came_to_entry (works state) may within knows is i came =
        absurd (work-enters env mix c M G did entry page exchanges state (early_work state may) is i)
    came_to_entry job may within knows is i came = absurd (pageless (tableless job refl) page i)
