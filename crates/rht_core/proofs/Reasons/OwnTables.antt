-- A call that has a slot has taken it by an operation of its own, and has not let it go since, unless it gives back a retired table; and an
-- exchange that attaches a table from this slot is that of a bind or a resizing which has made the table.
use Rattle.std.proofs.Common.{◌≡◌, ℕ, Bool, true, List, [], ◌∷◌, ◌++◌, ◌⊎◌, Some, None, inl, inr, refl, sym, ap, ◌∙◌, subst, arith}
use Rattle.std.proofs.lemmas.Bool.{both_ways}
use Rattle.rht_words.specs.declared.op.Op.TheVariants.{Exchange}
use Rattle.rht_words.specs.declared.env.Env.{Env}
use Rattle.rht_words.specs.declared.geometry.Geometry.{Geometry}
use Rattle.rht_words.specs.Links.{future_of}
use Rattle.rht_words.specs.Operations.{op_place}
use Rattle.rht_words.specs.Places.{Slot, FutureWord, place_of}
use Rattle.rht_words.proofs.Memory.{Memory}
use Rattle.rht_words.specs.Members.{In}
use Rattle.rht_nest.specs.Make.{slot_of_make, pages_of_make}
use Rattle.rht_nest.specs.declared.make.MakeAt.{MakeAt}
use Rattle.rht_nest.specs.declared.make.MakeAt.TheVariants as makes
use Rattle.rht_bind.specs.BindHeld.{held_of_bind}
use Rattle.rht_bind.specs.declared.bind.growth.Growing.{Growing}
use Rattle.rht_bind.specs.declared.bind.BindAt.{BindAt}
use Rattle.rht_bind.specs.declared.bind.BindAt.TheVariants as binding
use Rattle.rht_reclaim.specs.ReturnTables.{ReturnTablesModel, return_tables_after}
use Rattle.rht_words.specs.declared.machine.Next.{Next}
use Rattle.rht_words.specs.declared.machine.Next.TheVariants.{Go, Done}
use Rattle.rht_move.specs.Work as work_table
use Rattle.rht_chain.specs.Relink.{has_relinked}
use Rattle.rht_move.specs.WorkHeld.{held_of_work}
use Rattle.rht_move.specs.declared.work.WorkAt.{WorkAt}
use Rattle.rht_move.specs.declared.work.WorkAt.TheVariants as working
use Rattle.rht_model.specs.declared.history.Call.TheVariants.{Work}
use Rattle.rht_core.specs.Jobs.{Job, binds, works, call_of, job_plan, job_after, held_of, held_next}
use Rattle.rht_core.specs.Traces.{Did}
use Rattle.rht_core.specs.ResizeCauses.{Attaches}
use Rattle.rht_core.specs.Attached.{HasTakenSlot, MakesTables}
use Rattle.rht_ghost.proofs.Theory.Ghosts.{Ghost, SlotHeld, Back}
use Rattle.rht_ghost.proofs.Theory.Knowledge.{MakingMeans}
use Rattle.rht_ghost.proofs.Pieces.Makes.{known_of_make}
use Rattle.rht_core.proofs.Machines.JobSteps.{JobKnows}
use Rattle.rht_core.proofs.Machines.ReturnPlans.{returns-kind, no_exchange}
use Rattle.rht_core.proofs.Machines.NeverHeld.{tableless, front-tableless, slotless}
use Rattle.rht_core.proofs.Reasons.AttachedTables.{make-none, unmake-none}
use Rattle.rht_core.proofs.Reasons.SlotsTaken.{OwnAt, slot_taken-behind}
use Rattle.rht_core.proofs.Reasons.RefusedBinds.{Behind, SawToAttach, attach-taken}
use Rattle.rht_core.proofs.Reasons.BindsSeen.{SawAt}
use Rattle.rht_core.proofs.Reasons.WorksSeen.{SawAtWork, to_attach-taken}
use Rattle.rht_core.proofs.Reasons.CausesInRuns.{JobSaw}

-- the job gives back retired tables
pub data IsReturning : Job → Type 0 where
  by_returning : (returns : ReturnTablesModel) → IsReturning (works (working.Returning returns))

-- so it isn't one that attaches a table
returning_is : (job : Job) → IsReturning job → (returns : ReturnTablesModel) × (job ≡ works (working.Returning returns))
returning_is job (by_returning returns) = (returns, refl)

pub attaching_other : (root last slot shape : ℕ) → IsReturning (works (working.Attaching root last slot shape)) → ⊥
attaching_other root last slot shape returning =
    let same = (returning_is (works (working.Attaching root last slot shape)) returning).1 in cc

module _ (env : Env) (mix : ℕ → ℕ → ℕ → ℕ) (c : ℕ) (M : Memory) (G : Ghost) (slot : ℕ) where
  -- who makes a table in a slot holds that
  make-held : (exponent seed : ℕ) (state : MakeAt) → MakingMeans env mix c M G (known_of_make exponent seed state)
      → slot_of_make state ≡ Some slot → G.slot slot ≡ SlotHeld c
  make-held exponent seed (makes.Slot s) means has = absurd (cc)
  make-held exponent seed (makes.Taking s take) means has =
      let same : s ≡ slot = cc in subst (λ x. G.slot x ≡ SlotHeld c) same means.slot.has.mine
  make-held exponent seed (makes.TakingTop s take) means has =
      let same : s ≡ slot = cc in subst (λ x. G.slot x ≡ SlotHeld c) same means.slot.has.mine
  make-held exponent seed (makes.SlotBack s) means has =
      let same : s ≡ slot = cc in subst (λ x. G.slot x ≡ SlotHeld c) same means.slot.has.mine
  make-held exponent seed (makes.NextSerial s nested page) means has =
      let same : s ≡ slot = cc in subst (λ x. G.slot x ≡ SlotHeld c) same means.slot.has.mine
  make-held exponent seed (makes.Shape s nested page serial) means has =
      let same : s ≡ slot = cc in subst (λ x. G.slot x ≡ SlotHeld c) same means.slot.has.mine
  make-held exponent seed (makes.Seed s nested page serial) means has =
      let same : s ≡ slot = cc in subst (λ x. G.slot x ≡ SlotHeld c) same means.slot.has.mine
  make-held exponent seed (makes.Future s nested page serial) means has =
      let same : s ≡ slot = cc in subst (λ x. G.slot x ≡ SlotHeld c) same means.slot.has.mine
  make-held exponent seed (makes.Serial s nested page serial) means has =
      let same : s ≡ slot = cc in subst (λ x. G.slot x ≡ SlotHeld c) same means.slot.has.mine

module _ (env : Env) (own : ℕ) (words_at : ℕ → List ℕ) (mix : ℕ → ℕ → ℕ → ℕ) (c : ℕ) (M : Memory) (G : Ghost) (steps : List Did)
    (slot : ℕ) where
  abbrev g : Geometry
  g = env.geometry

  -- the caller has the slot, which its own operations took
  pub record IsOwnSlot : Type 0 where
    pub taken : HasTakenSlot g slot steps
    pub held : G.slot slot ≡ SlotHeld c

  -- ---- in each state

  make-own : (exponent : ℕ) (state : MakeAt) (making : List Did) → OwnAt g exponent state making → slot_of_make state ≡ Some slot
      → HasTakenSlot g slot making
  make-own exponent (makes.Slot s) making own has = absurd (cc)
  make-own exponent (makes.SlotBack s) making own has =
      let same : s ≡ slot = cc in subst (λ x. HasTakenSlot g x making) same own
  make-own exponent (makes.Taking s take) making own has =
      let same : s ≡ slot = cc in subst (λ x. HasTakenSlot g x making) same own
  make-own exponent (makes.TakingTop s take) making own has =
      let same : s ≡ slot = cc in subst (λ x. HasTakenSlot g x making) same own
  make-own exponent (makes.NextSerial s nested page) making own has =
      let same : s ≡ slot = cc in subst (λ x. HasTakenSlot g x making) same own
  make-own exponent (makes.Shape s nested page serial) making own has =
      let same : s ≡ slot = cc in subst (λ x. HasTakenSlot g x making) same own.taken
  make-own exponent (makes.Seed s nested page serial) making own has =
      let same : s ≡ slot = cc in subst (λ x. HasTakenSlot g x making) same own.has.taken
  make-own exponent (makes.Future s nested page serial) making own has =
      let same : s ≡ slot = cc in subst (λ x. HasTakenSlot g x making) same own.has.taken
  make-own exponent (makes.Serial s nested page serial) making own has =
      let same : s ≡ slot = cc in subst (λ x. HasTakenSlot g x making) same own.has.taken

  bind-own : (port owner : ℕ) (once : Bool) (state : BindAt) → JobKnows env mix c (binds port owner once state) M G
      → SawAt env words_at mix port own state steps → (held_of_bind state).slot ≡ Some slot → IsOwnSlot
  bind-own port owner once (binding.Making growing size make) knows saw has =
      let behind = saw.walked in
      let wanted = saw.saw.wanted in
      let making = make-own make.exponent make.at wanted.making saw.saw.own.slot has in
      record {
        taken =
            subst (HasTakenSlot g slot) (sym behind.split)
            (slot_taken-behind g slot behind.before behind.at behind.behind
            (subst (HasTakenSlot g slot) (sym wanted.parts)
            (slot_taken-behind g slot wanted.sooner wanted.counting wanted.making making)));
        held = make-held env mix c M G slot make.exponent make.seed make.at knows.knowing.means.making has;
      }
  bind-own port owner once (binding.Attaching growing s shape) knows saw has =
      let same : s ≡ slot = cc in
      record {
        taken =
            attach-taken env words_at mix port growing slot shape steps
            (subst (λ x. Behind g growing.table growing.shape (SawToAttach env words_at mix port growing x shape) steps) same saw);
        held = subst (λ x. G.slot x ≡ SlotHeld c) same knows.knowing.means.making.has.mine;
      }
  bind-own port owner once (binding.Unmaking attempt unmake answer) knows saw has =
      let same : unmake.slot ≡ slot = cc in
      record {
        taken = subst (λ x. HasTakenSlot g x steps) same saw.1;
        held = subst (λ x. G.slot x ≡ SlotHeld c) same knows.knowing.means.making.slot.has.mine;
      }
  bind-own port owner once (binding.Replacing list relink) knows saw has =
      absurd (slotless (front-tableless list.claimed (has_relinked list.before relink.at)) slot has)
  bind-own port owner once _ knows saw has = absurd (cc)

  -- one that gives back a retired table has that one's slot
  abbrev OwnOrReturning : Job → Type 0
  OwnOrReturning job = IsOwnSlot ⊎ IsReturning job

  work-own : (state : WorkAt) → JobKnows env mix c (works state) M G → SawAtWork env own words_at state steps
      → (held_of_work state).slot ≡ Some slot → OwnOrReturning (works state)
  work-own (working.Returning returns) knows saw has = inr (by_returning returns)
  work-own (working.Making wanted make) knows saw has =
      let chose = saw.chose in
      let making = make-own make.exponent make.at chose.behind saw.so.own.slot has in
      inl (record {
        taken =
            subst (HasTakenSlot g slot) (sym chose.split)
            (slot_taken-behind g slot ((chose.lock ∷ chose.sooner) ++ (chose.opening ∷ chose.current ∷ chose.futures)) chose.shape
            (chose.count ∷ chose.behind)
            (slot_taken-behind g slot [] chose.count chose.behind making));
        held = make-held env mix c M G slot make.exponent make.seed make.at knows.knowing.means.making has;
      })
  work-own (working.Attaching root last s shape) knows saw has =
      let same : s ≡ slot = cc in
      inl (record {
        taken =
            to_attach-taken env own root last slot shape steps
            (subst (λ x. SawAtWork env own words_at (working.Attaching root last x shape) steps) same saw);
        held = subst (λ x. G.slot x ≡ SlotHeld c) same knows.knowing.means.making.has.mine;
      })
  work-own (working.Unmaking root unmake) knows saw has =
      let same : unmake.slot ≡ slot = cc in
      inl (record {
        taken = subst (λ x. HasTakenSlot g x steps) same saw.1;
        held = subst (λ x. G.slot x ≡ SlotHeld c) same knows.knowing.means.making.slot.has.mine;
      })
  work-own _ knows saw has = absurd (cc)

  pub own_slot : (job : Job) → JobKnows env mix c job M G → JobSaw env own words_at mix job steps
      → (held_of job).slot ≡ Some slot → OwnOrReturning job
  own_slot (binds port owner once state) knows saw has = inl (bind-own port owner once state knows saw.0 has)
  own_slot (works state) knows saw has = work-own state knows saw has
  own_slot job knows saw has = absurd (slotless (tableless job refl) slot has)

-- ---- an exchange that attaches its table

module _ (env : Env) (did : Did) (slot table : ℕ) where
  -- the job attaches the table that it has made, which has this shape
  pub data AttachesNow : Job → Type 0 where
    by_bind : (port owner : ℕ) (once : Bool) (growing : Growing) (shape : ℕ) → growing.table ≡ table
        → AttachesNow (binds port owner once (binding.Attaching growing slot shape))
    by_work : (root last shape : ℕ) → last ≡ table → AttachesNow (works (working.Attaching root last slot shape))

module _ (env : Env) (c : ℕ) (did : Did) (slot table : ℕ) (attaches : Attaches env.geometry table slot did) where
  abbrev h : Geometry
  h = env.geometry

  abbrev Now : Job → Type 0
  Now = AttachesNow env did slot table

  -- the table behind which it does is this one
  same_table : (other s : ℕ) → did.op ≡ Exchange (place_of h (Slot other FutureWord)) 0 (future_of s) → other ≡ table
  same_table other s is =
      let at : place_of h (Slot other FutureWord) ≡ place_of h (Slot table FutureWord) = ap op_place (sym is ∙ attaches.exchanges) in
      omega (arith, at)

  bind-attaches : (port owner : ℕ) (once : Bool) (state : BindAt) → did.op ≡ job_plan env c (binds port owner once state)
      → (held_of_bind state).slot ≡ Some slot → Now (binds port owner once state)
  bind-attaches port owner once (binding.Making growing size make) is has =
      absurd (make-none h make.geometry make.exponent make.seed make.at table 0 (future_of slot) attaches.table_in
      (sym is ∙ attaches.exchanges))
  bind-attaches port owner once (binding.Attaching growing s shape) is has =
      let same : slot ≡ s = cc in
      subst (λ x. Now (binds port owner once (binding.Attaching growing x shape))) same
      (by_bind port owner once growing shape (same_table growing.table s is))
  bind-attaches port owner once (binding.Unmaking attempt unmake answer) is has =
      absurd (unmake-none h unmake.geometry unmake.slot unmake.at table 0 (future_of slot) attaches.table_in
      (sym is ∙ attaches.exchanges))
  bind-attaches port owner once (binding.Replacing list relink) is has =
      absurd (slotless (front-tableless list.claimed (has_relinked list.before relink.at)) slot has)
  bind-attaches port owner once _ is has = absurd (cc)

  work-attaches : (state : WorkAt) → did.op ≡ job_plan env c (works state) → (held_of_work state).slot ≡ Some slot
      → Now (works state)
  work-attaches (working.Making wanted make) is has =
      absurd (make-none h make.geometry make.exponent make.seed make.at table 0 (future_of slot) attaches.table_in
      (sym is ∙ attaches.exchanges))
  work-attaches (working.Attaching root last s shape) is has =
      let same : slot ≡ s = cc in
      subst (λ x. Now (works (working.Attaching root last x shape))) same
      (by_work root last shape (same_table last s is))
  work-attaches (working.Unmaking root unmake) is has =
      absurd (unmake-none h unmake.geometry unmake.slot unmake.at table 0 (future_of slot) attaches.table_in
      (sym is ∙ attaches.exchanges))
  work-attaches (working.Returning returns) is has =
      absurd (no_exchange (returns-kind returns.geometry returns.at) (sym is ∙ attaches.exchanges))
  work-attaches _ is has = absurd (cc)

  pub attaches_now : (job : Job) → did.op ≡ job_plan env c job → (held_of job).slot ≡ Some slot → Now job
  attaches_now (binds port owner once state) is has = bind-attaches port owner once state is has
  attaches_now (works state) is has = work-attaches state is has
  attaches_now job is has = absurd (slotless (tableless job refl) slot has)

-- ---- a call that moves tables

bind-unmoving : (state : BindAt) → (held_of_bind state).moving ≡ true → ⊥
bind-unmoving (binding.Replacing list relink) moves =
    both_ways _ (front-tableless list.claimed (has_relinked list.before relink.at)).still moves
bind-unmoving _ moves = cc

-- is a resizing
pub moving_works : (job : Job) → (held_of job).moving ≡ true → call_of job ≡ Work
moving_works (binds port owner once state) moves = absurd (bind-unmoving state moves)
moving_works (works state) moves = refl
moving_works job moves = absurd (both_ways _ (tableless job refl).still moves)

work-moving : (state : WorkAt) → (held_of_work state).moving ≡ true → (held_of_work state).worker ≡ true
work-moving working.WorkLock moves = absurd (cc)
work-moving _ moves = refl

-- and has the work lock
pub moving_has : (job : Job) → (held_of job).moving ≡ true → (held_of job).worker ≡ true
moving_has (binds port owner once state) moves = absurd (bind-unmoving state moves)
moving_has (works state) moves = work-moving state moves
moving_has job moves = absurd (both_ways _ (tableless job refl).still moves)

-- one that gives back retired tables does so behind an operation, or holds no page
pub still_returning : (mix : ℕ → ℕ → ℕ → ℕ) (env : Env) (job : Job) (old page : ℕ) → IsReturning job
    → In page (held_next (job_after mix env job old)).pages → IsReturning (job_after mix env job old).0
still_returning mix env job old page (by_returning returns) i = go (return_tables_after returns old).1 i
  where
    go : (next : Next (Unit {0})) → In page (held_of_work (work_table.returned (return_tables_after returns old).0 next)).pages
        → IsReturning (works (work_table.returned (return_tables_after returns old).0 next))
    go Go i = by_returning (return_tables_after returns old).0
    go (Done tt) i = absurd i

-- ---- what a job has that gives nothing back

module _ (env : Env) (mix : ℕ → ℕ → ℕ → ℕ) (c : ℕ) (M : Memory) (G : Ghost) where
  make-slotless : (exponent : ℕ) (state : MakeAt) (page : ℕ) → slot_of_make state ≡ None → In page (pages_of_make exponent state) → ⊥
  make-slotless exponent (makes.Slot s) page none i = i
  make-slotless exponent _ page none i = cc

  work-slotless : (state : WorkAt) (page : ℕ) → In page (held_of_work state).pages → (held_of_work state).slot ≡ None
      → IsReturning (works state)
  work-slotless (working.Returning returns) page i none = by_returning returns
  work-slotless (working.Making wanted make) page i none = absurd (make-slotless make.exponent make.at page none i)
  work-slotless (working.Attaching root last slot shape) page i none = absurd (cc)
  work-slotless (working.Unmaking root unmake) page i none = absurd (cc)
  work-slotless _ page i none = absurd i

  -- a resizing that has a page and no slot gives back retired tables
  pub slotless_returns : (job : Job) → call_of job ≡ Work → (page : ℕ) → In page (held_of job).pages → (held_of job).slot ≡ None
      → IsReturning job
  slotless_returns (works state) is page i none = work-slotless state page i none
  slotless_returns job is page i none = absurd (cc)

  work-back : (state : WorkAt) → JobKnows env mix c (works state) M G → (slot : ℕ) → (held_of_work state).slot ≡ Some slot
      → (G.slot slot ≡ SlotHeld c) ⊎ IsReturning (works state)
  work-back (working.Returning returns) knows slot has = inr (by_returning returns)
  work-back (working.Making wanted make) knows slot has =
      inl (make-held env mix c M G slot make.exponent make.seed make.at knows.knowing.means.making has)
  work-back (working.Attaching root last s shape) knows slot has =
      let same : s ≡ slot = cc in inl (subst (λ x. G.slot x ≡ SlotHeld c) same knows.knowing.means.making.has.mine)
  work-back (working.Unmaking root unmake) knows slot has =
      let same : unmake.slot ≡ slot = cc in
      inl (subst (λ x. G.slot x ≡ SlotHeld c) same knows.knowing.means.making.slot.has.mine)
  work-back _ knows slot has = absurd (cc)

  -- and so does one that has a slot that isn't held for a new table
  pub back_returns : (job : Job) → call_of job ≡ Work → JobKnows env mix c job M G → (slot : ℕ) → (held_of job).slot ≡ Some slot
      → G.slot slot ≡ Back c → IsReturning job
  back_returns (works state) is knows slot has back = elim (work-back state knows slot has) [
    | inl held ↦ absurd (let both : Back c ≡ SlotHeld c = sym back ∙ held in cc)
    | inr returning ↦ returning
  ]
  back_returns job is knows slot has back = absurd (cc)

-- ---- a call that has a slot

-- makes tables
pub slot_makes : (job : Job) (slot : ℕ) → (held_of job).slot ≡ Some slot → MakesTables (call_of job)
slot_makes (binds port owner once state) slot has = tt
slot_makes (works state) slot has = tt
slot_makes job slot has = absurd (slotless (tableless job refl) slot has)
