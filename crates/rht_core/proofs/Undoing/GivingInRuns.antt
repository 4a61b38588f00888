-- In every run a resizing that gives a table back knows of it by the words as they were when it loaded the table's shape.
--
-- Of a nested table it is kept, beside the events so far, that some ghost is right in which the table is as it was then, but for the entries
-- that are cleared.
use Rattle.rht_model.specs.declared.history.Call.TheVariants.{Work}
use Rattle.rht_core.specs.Jobs.{call_of}
use Rattle.rht_callers.specs.Locals.{soft, may_hold}
use Rattle.rht_core.proofs.Machines.HeldSteps.{no_work, soft-none}
use Rattle.std.proofs.Common.{◌≡◌, ◌≢◌, ℕ, ◌+◌, ◌*◌, Bool, true, false, List, [], ◌∷◌, ◌++◌, take, Option, Some, None, refl, sym, ap, ◌∙◌, subst, inl, inr}
use Rattle.std.specs.Prelude.{IfSome}
use Rattle.std.proofs.Math.Seq.{take-append_seam}
use Rattle.rht_words.specs.declared.env.Env.{Env}
use Rattle.rht_words.specs.declared.geometry.Geometry.{Geometry}
use Rattle.rht_words.specs.declared.machine.Next.{Next}
use Rattle.rht_words.specs.declared.machine.Next.TheVariants.{Go, Done}
use Rattle.rht_words.specs.declared.op.Op.{Op}
use Rattle.rht_words.specs.Operations.{old_of}
use Rattle.rht_words.specs.Places.{Slot, StateWord, word_at}
use Rattle.rht_model.specs.declared.history.Call.{Call}
use Rattle.rht_model.specs.declared.history.Call.TheVariants.{Tidy}
use Rattle.rht_model.specs.Endings.{Ending}
use Rattle.rht_nest.specs.Place.{top_page}
use Rattle.rht_grace.specs.Batch.{BatchModel}
use Rattle.rht_reclaim.specs.GiveTable.{shape_seen, run_returned, give_table_plan_at, give_table_after_at, IsGiveTableAtIn, IsGiveTableIn}
use Rattle.rht_arena.specs.GiveRun.{GiveRunModel, give_run_after}
use Rattle.rht_words.proofs.Memory.{Memory}
use Rattle.rht_move.proofs.WorkKnowledge.{known_giving, made_giving}
use Rattle.rht_reclaim.specs.declared.give_table.GiveTableAt.{GiveTableAt}
use Rattle.rht_reclaim.specs.declared.give_table.GiveTableAt.TheVariants as gives
use Rattle.rht_reclaim.specs.declared.return_tables.ReturnTablesAt.TheVariants as returning
use Rattle.rht_reclaim.specs.ReturnHeld.{slot_of_give_table}
use Rattle.rht_move.specs.declared.work.WorkAt.TheVariants as at
use Rattle.rht_core.specs.declared.event.Event.{Event}
use Rattle.rht_core.specs.declared.event.Event.TheVariants.{Step}
use Rattle.rht_core.specs.Jobs.{Job, works, first_job, job_of, job_plan, job_after, told, held_of, held_next, IsFirstJob}
use Rattle.rht_callers.specs.declared.local.Local.{Local}
use Rattle.rht_core.specs.Runs.{Core, World, local_of, planned_in, run_of, IsAdmitted}
use Rattle.rht_core.specs.Traces.{Did}
use Rattle.rht_ghost.proofs.Theory.Ghosts.{state_word, Ghost, some-same}
use Rattle.rht_ghost.proofs.Theory.Wholes.{Whole}
use Rattle.rht_ghost.proofs.Theory.GivingStays.{retired-within}
use Rattle.rht_ghost.proofs.Theory.Knowledge.{WorkMeans, MakingMeans}
use Rattle.rht_ghost.proofs.Theory.Steps.{mem}
use Rattle.rht_core.proofs.Machines.JobSteps.{JobIn, JobKnows}
use Rattle.rht_core.proofs.Events.JobsOfCallers.{first-of, first_tidy-so}
use Rattle.rht_core.proofs.Events.Worlds.{run_of-push}
use Rattle.rht_core.proofs.Events.RangesInRuns.{AllIn, runs-all}
use Rattle.rht_core.proofs.Events.Invariants.{Inv, Knows, kept}
use Rattle.rht_core.proofs.Tracing.TracedCallers.{IsMade}
use Rattle.rht_core.proofs.Returning.SectionWords.{IsOthers}
use Rattle.rht_core.proofs.Undoing.WorkStages.{gives_other, Stage, AtLock, Asks, Loads, Gives, Opens, Behind, stage_of, stage_now, GoesTo, takes_lock, refused, opened, stays, asks_on, to_shape, asked_all, loaded, gives_on, freed, freed_last, stage_goes, IsGiving, gives_job, loads_job}
use Rattle.rht_core.proofs.Undoing.TablesThen.{DidSo, EntryDidSo, HasLoaded, StandsInStage, loaded-now, loaded-more}
use Rattle.rht_core.proofs.Undoing.TablesTakenDown.{IsAsThen, as_now, top_did_so, leaf_did_so, TakesNone, event_then}

-- while the entries of a nested table are gone through
abbrev pub is_taken_down : GiveTableAt → Bool
is_taken_down gives.Shape = false
is_taken_down (gives.Run give) = false
is_taken_down (gives.TopEntry shape top) = true
is_taken_down (gives.LeafEntry shape top page leaf) = true
is_taken_down (gives.ClearLeaf shape top page leaf below) = true
is_taken_down (gives.GiveLeaf shape top page leaf below) = true
is_taken_down (gives.ClearTop shape top page) = true
is_taken_down (gives.GivePage shape top page) = true
is_taken_down (gives.GiveTop shape) = false
is_taken_down gives.FreeSlot = false

-- the table has its slot still
down_slotless : (slot : ℕ) (state : GiveTableAt) → is_taken_down state ≡ true → slot_of_give_table slot state ≡ None
down_slotless slot gives.Shape down = absurd (cc)
down_slotless slot (gives.Run give) down = absurd (cc)
down_slotless slot (gives.GiveTop shape) down = absurd (cc)
down_slotless slot gives.FreeSlot down = absurd (cc)
down_slotless slot _ down = refl

-- what a job that gives a table back holds
giving_slot : (job : Job) (slot : ℕ) (state : GiveTableAt) → IsGiving slot state job → (held_of job).slot ≡ slot_of_give_table slot state
giving_slot job slot state giving = ap (λ j. (held_of j).slot) giving.is

next_slotless : (r : Job × Next Ending) (slot : ℕ) (state : GiveTableAt) → stage_now (told r).0 ≡ Gives slot state
    → is_taken_down state ≡ true → (held_next r).slot ≡ None
next_slotless (job, Go) slot state is down = giving_slot job slot state (gives_job job slot state is) ∙ down_slotless slot state down
next_slotless (job, Done ending) slot state is down = absurd (cc)

module _ (env : Env) (mix : ℕ → ℕ → ℕ → ℕ) where
  abbrev g : Geometry
  g = env.geometry

  -- what a job knows that gives a table back
  pub giving_knows : (c : ℕ) (M : Memory) (G : Ghost) (job : Job) (slot : ℕ) (state : GiveTableAt) → IsGiving slot state job
      → JobKnows env mix c job M G → WorkMeans env mix c M G (known_giving slot state)
  giving_knows c M G job slot state giving knows =
      (subst (λ j. JobKnows env mix c j M G) giving.is knows).knowing.means.work

  pub giving_makes : (c : ℕ) (M : Memory) (G : Ghost) (job : Job) (slot : ℕ) (state : GiveTableAt) → IsGiving slot state job
      → JobKnows env mix c job M G → MakingMeans env mix c M G (made_giving slot state)
  giving_makes c M G job slot state giving knows =
      (subst (λ j. JobKnows env mix c j M G) giving.is knows).knowing.means.making

  -- and where it is
  pub giving_within : (c : ℕ) (job : Job) (slot : ℕ) (state : GiveTableAt) (giving : IsGiving slot state job) → JobIn env mix c job
      → IsGiveTableIn g (record { geometry = giving.inner; slot = slot; at = state })
  giving_within c job slot state giving within = (subst (JobIn env mix c) giving.is within).at_in

  -- its operation
  pub giving_plan : (c : ℕ) (job : Job) (slot : ℕ) (state : GiveTableAt) → IsGiving slot state job → JobIn env mix c job
      → job_plan env c job ≡ give_table_plan_at g slot state
  giving_plan c job slot state giving within =
      ap (job_plan env c) giving.is
      ∙ ap (λ h. job_plan env c (works (at.Returning (record {
        geometry = giving.outer;
        at = returning.Giving (record { geometry = h; slot = slot; at = state });
      })))) (giving_within c job slot state giving within).geometry_same

  -- who takes a table down does the work
  down_works : (c : ℕ) (M : Memory) (G : Ghost) (slot : ℕ) (state : GiveTableAt) → is_taken_down state ≡ true
      → WorkMeans env mix c M G (known_giving slot state) → G.worker ≡ Some c
  down_works c M G slot gives.Shape down knows = absurd (cc)
  down_works c M G slot (gives.Run give) down knows = absurd (cc)
  down_works c M G slot (gives.GiveTop shape) down knows = absurd (cc)
  down_works c M G slot gives.FreeSlot down knows = absurd (cc)
  down_works c M G slot _ down knows = knows.works.0

  -- ---- the entry that is loaded

  did_so : (c : ℕ) (words : List ℕ) (G : Ghost) (W : List ℕ) (shape slot : ℕ) (state : GiveTableAt) (old : ℕ)
      → Whole env mix (mem env mix words) G → (is_taken_down state ≡ true → IsAsThen env mix W shape G slot) → IsGiveTableAtIn g state
      → WorkMeans env mix c (mem env mix words) G (known_giving slot state) → old ≡ old_of words (give_table_plan_at g slot state)
      → EntryDidSo g W shape state old
  did_so c words G W shape slot (gives.TopEntry of top) old whole then within knows found =
      subst (DidSo g W shape (64 * top_page g of + top)) (sym found)
      (top_did_so env mix words G whole W shape slot (then refl) of top within knows.more)
  did_so c words G W shape slot (gives.LeafEntry of top page leaf) old whole then within knows found =
      subst (DidSo g W shape (64 * page + leaf)) (sym found)
      (leaf_did_so env mix words G whole W shape slot (then refl) of top page leaf within.above.top_in within.leaf_in knows.more)
  did_so c words G W shape slot _ old whole then within knows found = tt

  -- ---- where a table is taken down, and was before

  -- where a table is taken down behind an operation it was before, but for the load of its shape
  was_down : (state : GiveTableAt) (old : ℕ) → state ≢ gives.Shape → is_taken_down (give_table_after_at g state old).0 ≡ true
      → is_taken_down state ≡ true
  was_down gives.Shape old other taken = absurd (other refl)
  was_down (gives.Run give) old other taken = absurd (run_not (give_run_after give old).0 (give_run_after give old).1 taken)
    where
      run_not : (after : GiveRunModel) (next : Next (Unit {0})) → is_taken_down (run_returned after next) ≡ true → ⊥
      run_not after Go is = cc
      run_not after (Done done) is = cc
  was_down (gives.GiveTop shape) old other taken = absurd (cc)
  was_down gives.FreeSlot old other taken = absurd (cc)
  was_down _ old other taken = refl

  -- ---- what is kept of a run

  module _ (L : Type 0) (words_at : ℕ → List ℕ) where
    abbrev core_of : List Event → Core L
    core_of past = (run_of mix env past).core

    -- behind these events the table is as it was by these words, in some ghost that is right
    pub record IsGoingDown (past : List Event) (W : List ℕ) (shape slot : ℕ) : Type 0 where
      pub ghost : Ghost
      pub inv : Inv env mix L (core_of past) ghost
      pub then : IsAsThen env mix W shape ghost slot

    -- and the call has loaded the shape
    pub record KeepsGiving (past : List Event) (slot : ℕ) (state : GiveTableAt) (steps : List Did) : Type 0 where
      pub has : HasLoaded g words_at slot state steps
      pub down : is_taken_down state ≡ true → IsGoingDown past (words_at has.load.index) has.load.old slot

    -- by the stage
    abbrev pub KeepsInStage : List Event → Stage → List Did → Type 0
    KeepsInStage past AtLock steps = Unit {0}
    KeepsInStage past Asks steps = Unit {0}
    KeepsInStage past (Loads slot) steps = Unit {0}
    KeepsInStage past (Gives slot state) steps = KeepsGiving past slot state steps
    KeepsInStage past Opens steps = Unit {0}
    KeepsInStage past Behind steps = Unit {0}

    -- a call begins at the lock, or behind it
    first_stage : (past : List Event) (steps : List Did) (call : Call) (batch : Option BatchModel) (start : ℕ)
        → IfSome (first_job env batch call start) (λ job. KeepsInStage past (stage_of job) steps)
    first_stage past steps Tidy batch start = first_tidy-so (λ job. KeepsInStage past (stage_of job) steps) batch (λ own. tt)
    first_stage past steps _ batch start = tt

    pub keeps_first : (past : List Event) (steps : List Did) (call : Call) (job : Job) → IsFirstJob env call job
        → KeepsInStage past (stage_of job) steps
    keeps_first past steps call job is =
        first-of (λ j. KeepsInStage past (stage_of j) steps) env call job (first_stage past steps call) is

    module _ (past : List Event) (all : AllIn L mix env (core_of past)) (c : ℕ) (job : Job)
        (does : job_of (local_of (core_of past) c).doing ≡ Some job) where
      abbrev core : Core L
      core = core_of past

      -- what the caller knows, where this ghost is right
      knows_in : (G : Ghost) → Inv env mix L core G → JobKnows env mix c job (mem env mix core.words) G
      knows_in G inv = subst (λ j. Knows env mix c j (mem env mix core.words) G) does (inv.each c)

      -- an event leaves the table as it was
      goes_down : (event : Event) (W : List ℕ) (shape slot : ℕ) (G : Ghost) → Inv env mix L core G → IsAsThen env mix W shape G slot
          → G.worker ≡ Some c → TakesNone env mix L core c event → IsGoingDown (past ++ event ∷ []) W shape slot
      goes_down event W shape slot G inv then worker none =
          let k = kept env mix L core G event all inv in
          record {
            ghost = k.ghost;
            inv = subst (λ (w : World L). Inv env mix L w.core k.ghost) (sym (run_of-push L mix env past event)) k.inv;
            then = event_then env mix L core G all inv c W shape slot then worker event none;
          }

      -- of another caller
      others_down : (event : Event) → IsOthers env mix L core event c → (W : List ℕ) (shape slot : ℕ) (state : GiveTableAt)
          → is_taken_down state ≡ true → IsGiving slot state job → IsGoingDown past W shape slot
          → IsGoingDown (past ++ event ∷ []) W shape slot
      others_down event others W shape slot state taken giving down =
          goes_down event W shape slot down.ghost down.inv down.then
          (down_works c (mem env mix core.words) down.ghost slot state taken
          (giving_knows c (mem env mix core.words) down.ghost job slot state giving (knows_in down.ghost down.inv)))
          (λ op other same plans is. absurd (not_own op (subst (λ e. IsOthers env mix L core e c) same others) plans))
        where
          not_own : (op : Op) → IsOthers env mix L core (Step c) c → planned_in core c ≡ Some op → ⊥
          not_own op (inl other) plans = other refl
          not_own op (inr none) plans = let both = sym none ∙ plans in cc

      pub keeps_others : (event : Event) → IsOthers env mix L core event c → (steps : List Did) → KeepsInStage past (stage_of job) steps
          → KeepsInStage (past ++ event ∷ []) (stage_of job) steps
      keeps_others event others steps = go (stage_of job) refl
        where
          go : (stage : Stage) → stage_of job ≡ stage → KeepsInStage past stage steps → KeepsInStage (past ++ event ∷ []) stage steps
          go AtLock is keeps = tt
          go Asks is keeps = tt
          go (Loads slot) is keeps = tt
          go (Gives slot state) is keeps = record {
            has = keeps.has;
            down = λ taken. others_down event others (words_at keeps.has.load.index) keeps.has.load.old slot state taken
                (gives_job job slot state is) (keeps.down taken);
          }
          go Opens is keeps = tt
          go Behind is keeps = tt

      -- ---- an operation of its own

      module _ (steps : List Did) (did : Did) (within : JobIn env mix c job) (planned : call_of job ≡ Work → did.op ≡ job_plan env c job)
          (plans : planned_in core c ≡ Some did.op) (found : did.old ≡ old_of core.words did.op) where
        -- what is known before it
        stands_down : (slot : ℕ) (state : GiveTableAt) → IsGiving slot state job → (W : List ℕ) (shape : ℕ)
            → (is_taken_down state ≡ true → IsGoingDown past W shape slot) → EntryDidSo g W shape state did.old
        stands_down slot state giving W shape down = go (is_taken_down state) refl
          where
            op_is : did.old ≡ old_of core.words (give_table_plan_at g slot state)
            op_is = found ∙ ap (old_of core.words) (planned (ap call_of giving.is) ∙ giving_plan c job slot state giving within)

            go : (t : Bool) → is_taken_down state ≡ t → EntryDidSo g W shape state did.old
            go true is =
                let d = down is in
                did_so c core.words d.ghost W shape slot state did.old d.inv.whole (λ t. d.then)
                (giving_within c job slot state giving within).at_in
                (giving_knows c (mem env mix core.words) d.ghost job slot state giving (knows_in d.ghost d.inv)) op_is
            go false is = none state is
              where
                none : (s : GiveTableAt) → is_taken_down s ≡ false → EntryDidSo g W shape s did.old
                none (gives.TopEntry of top) is = absurd (cc)
                none (gives.LeafEntry of top page leaf) is = absurd (cc)
                none _ is = tt

        pub stands_so : KeepsInStage past (stage_of job) steps → StandsInStage g words_at (stage_of job) steps did.old
        stands_so = go (stage_of job) refl
          where
            go : (stage : Stage) → stage_of job ≡ stage → KeepsInStage past stage steps → StandsInStage g words_at stage steps did.old
            go AtLock is keeps = tt
            go Asks is keeps = tt
            go (Loads slot) is keeps = tt
            go (Gives slot state) is keeps = record {
              has = keeps.has;
              did_so = stands_down slot state (gives_job job slot state is) (words_at keeps.has.load.index) keeps.has.load.old keeps.down;
            }
            go Opens is keeps = tt
            go Behind is keeps = tt

        abbrev next : Job × Next Ending
        next = job_after mix env job did.old

        abbrev behind : List Event
        behind = past ++ Step c ∷ []

        -- it takes no table out of its slot where the next state says so
        takes_none : (slot : ℕ) (state : GiveTableAt) → stage_now (told next).0 ≡ Gives slot state → is_taken_down state ≡ true
            → TakesNone env mix L core c (Step c)
        takes_none slot state is taken op other same plan of =
            let one : op ≡ did.op = (let both = sym plan ∙ plans in cc) in
            let job_same : other ≡ job = (let both = sym of ∙ does in cc) in
            ap (λ o. (held_next (job_after mix env other (old_of core.words o))).slot) one
            ∙ ap (λ j. (held_next (job_after mix env j (old_of core.words did.op))).slot) job_same
            ∙ ap (λ old. (held_next (job_after mix env job old)).slot) (sym found) ∙ next_slotless next slot state is taken

        -- the load of the shape
        load_keeps : (G : Ghost) → Inv env mix L core G → core.words ≡ words_at did.index → (slot : ℕ) → stage_of job ≡ Loads slot
            → stage_now (told next).0 ≡ Gives slot (shape_seen g did.old)
            → KeepsGiving behind slot (shape_seen g did.old) (steps ++ did ∷ [])
        load_keeps G inv here slot is then =
            let M = mem env mix core.words in
            let giving = loads_job job slot is in
            let knows = giving_knows c M G job slot gives.Shape giving (knows_in G inv) in
            let over = knows.more in
            let within_it = retired-within env mix M G inv.whole slot over.table over.retired in
            record {
              has = loaded-now g words_at slot steps did (planned (ap call_of giving.is) ∙ giving_plan c job slot gives.Shape giving within)
                  (ap (λ ws. word_at g ws (Slot slot StateWord)) (sym here) ∙ inv.whole.slots.states slot within_it
                  ∙ ap state_word over.retired);
              down = λ taken. subst (λ ws. IsGoingDown behind ws did.old slot) here
                  (goes_down (Step c) core.words did.old slot G inv
                  (as_now env mix core.words did.old G inv.whole slot over.table over.retired over.over) knows.works.0
                  (takes_none slot (shape_seen g did.old) then taken));
            }

        -- and each operation behind it
        give_keeps : (slot : ℕ) (state : GiveTableAt) → state ≢ gives.Shape → stage_of job ≡ Gives slot state
            → stage_now (told next).0 ≡ Gives slot (give_table_after_at g state did.old).0 → KeepsGiving past slot state steps
            → KeepsGiving behind slot (give_table_after_at g state did.old).0 (steps ++ did ∷ [])
        give_keeps slot state other is then keeps =
            let giving = gives_job job slot state is in
            let W = words_at keeps.has.load.index in
            let shape = keeps.has.load.old in
            let after = (give_table_after_at g state did.old).0 in
            record {
              has = loaded-more g words_at slot state steps did other
                  (record { has = keeps.has; did_so = stands_down slot state giving W shape keeps.down });
              down = λ taken.
                  let was = was_down state did.old other taken in
                  let d = keeps.down was in
                  goes_down (Step c) W shape slot d.ghost d.inv d.then
                  (down_works c (mem env mix core.words) d.ghost slot state was
                  (giving_knows c (mem env mix core.words) d.ghost job slot state giving (knows_in d.ghost d.inv)))
                  (takes_none slot after then taken);
            }

        pub keeps_own : (G : Ghost) → Inv env mix L core G → core.words ≡ words_at did.index → KeepsInStage past (stage_of job) steps
            → KeepsInStage behind (stage_now (told next).0) (steps ++ did ∷ [])
        keeps_own G inv here =
            go (stage_of job) (stage_now (told next).0) (stage_goes mix env c job did.old within) refl refl
          where
            go : (from to : Stage) → GoesTo g did.old from to → stage_of job ≡ from → stage_now (told next).0 ≡ to
                → KeepsInStage past from steps → KeepsInStage behind to (steps ++ did ∷ [])
            go _ _ (takes_lock free) is then keeps = tt
            go _ _ refused is then keeps = tt
            go _ _ opened is then keeps = tt
            go _ _ stays is then keeps = tt
            go _ _ asks_on is then keeps = tt
            go _ _ (to_shape slot) is then keeps = tt
            go _ _ asked_all is then keeps = tt
            go _ _ (loaded slot) is then keeps = load_keeps G inv here slot is then
            go _ _ (gives_on slot state other) is then keeps = give_keeps slot state (gives_other job slot state is) is then keeps
            go _ _ (freed slot) is then keeps = tt
            go _ _ (freed_last slot) is then keeps = tt

    -- ---- what callers keep

    -- an event that is no operation of the caller
    pub keeps_beside : (past : List Event) → AllIn L mix env (core_of past) → (c : ℕ) (job : Option Job)
        → job_of (local_of (core_of past) c).doing ≡ job → (event : Event) → IsOthers env mix L (core_of past) event c → (steps : List Did)
        → KeepsInStage past (stage_now job) steps → KeepsInStage (past ++ event ∷ []) (stage_now job) steps
    keeps_beside past all c None does event others steps keeps = tt
    keeps_beside past all c (Some job) does event others steps keeps = keeps_others past all c job does event others steps keeps

    -- and one that is
    module _ (past : List Event) (admitted : IsAdmitted past) (c : ℕ) (local : Local L) (did : Did)
        (made : IsMade L mix env past c local did) (job : Job) (is : job_of local.doing ≡ Some job) (steps : List Did) where
      all_now : AllIn L mix env (core_of past)
      all_now = runs-all L mix env past admitted

      does_now : job_of (local_of (core_of past) c).doing ≡ Some job
      does_now =
          ap (λ (core : Core L). job_of (local_of core c).doing) (sym made.now) ∙ ap (λ (l : Local L). job_of l.doing) made.known.here ∙ is

      -- the step is that of the job
      one_job : made.known.step.job ≡ job
      one_job =
          let both = sym made.known.step.is ∙ ap (λ (l : Local L). job_of l.doing) made.known.here ∙ is in
          some-same made.known.step.job job both

      within_now : JobIn env mix c job
      within_now = subst (JobIn env mix c) one_job made.known.step.within

      planned_now : call_of job ≡ Work → did.op ≡ job_plan env c job
      planned_now work =
          let over = (local_of made.known.core c).held in
          let may : may_hold over Work ≡ true =
          subst (λ call. may_hold over call ≡ true) (ap call_of one_job ∙ work) made.known.step.may in
          made.known.step.plan ∙ ap (λ o. soft o (job_plan env c made.known.step.job)) (no_work over may)
          ∙ soft-none (job_plan env c made.known.step.job) ∙ ap (job_plan env c) one_job

      plans_now : planned_in (core_of past) c ≡ Some did.op
      plans_now =
          let more = past ++ Step c ∷ [] in
          let start : take did.index more ≡ past = ap (λ n. take n more) made.index ∙ take-append_seam past (Step c ∷ []) in
          subst (λ (es : List Event). planned_in (core_of es) c ≡ Some did.op) start made.recorded.plan

      found_now : did.old ≡ old_of (core_of past).words did.op
      found_now = made.known.found ∙ ap (λ (core : Core L). old_of core.words did.op) made.now

      pub stands_made : KeepsInStage past (stage_of job) steps → StandsInStage g words_at (stage_of job) steps did.old
      stands_made = stands_so past all_now c job does_now steps did within_now planned_now plans_now found_now

      pub keeps_made : (core_of past).words ≡ words_at did.index → KeepsInStage past (stage_of job) steps
          → KeepsInStage (past ++ Step c ∷ []) (stage_now (told (job_after mix env job did.old)).0) (steps ++ did ∷ [])
      keeps_made here =
          keeps_own past all_now c job does_now steps did within_now planned_now plans_now found_now made.known.ghost
          (subst (λ (core : Core L). Inv env mix L core made.known.ghost) made.now made.known.inv) here
