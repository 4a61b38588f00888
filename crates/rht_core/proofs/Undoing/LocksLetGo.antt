-- In every run each call that has ended has let go of the work lock, of the locks of buckets and of its read section.
--
-- Of each lock that a call holds it has turned the bit an odd number of times, and of each other one an even number; but for the entries at
-- which it entered pages, and for those that a resizing cleared in giving retired tables back, which it did before it opened its section. Once
-- it has ended it holds none. So it is with the section, whose word is its caller's.
use Rattle.std.proofs.Common.{◌≡◌, ◌⊎◌, ℕ, ◌+◌, ◌%◌, ◌<◌, Bool, true, false, List, [], ◌∷◌, ◌++◌, Some, None, refl, sym, ap, ◌∙◌, subst, inl, inr, arith}
use Rattle.std.specs.List.{AllByRecursion}
use Rattle.rht_words.specs.declared.env.Env.{Env}
use Rattle.rht_words.specs.declared.geometry.Geometry.{Geometry}
use Rattle.rht_words.specs.declared.machine.Next.{Next}
use Rattle.rht_words.specs.declared.machine.Next.TheVariants.{Go, Done}
use Rattle.rht_words.specs.declared.op.Op.TheVariants.{Exchange}
use Rattle.rht_words.specs.declared.op.Op.{Op}
use Rattle.rht_words.specs.Links.{entry_of}
use Rattle.rht_words.specs.Members.{In}
use Rattle.rht_words.specs.Operations.{old_of}
use Rattle.rht_words.specs.Places.{WorkLock, Section, PageWord, place_of}
use Rattle.rht_words.proofs.Memory.{Memory}
use Rattle.rht_words.proofs.PlacesApart.{parts_in_order}
use Rattle.rht_model.specs.declared.history.Call.{Call}
use Rattle.rht_model.specs.Endings.{Ending}
use Rattle.rht_bind.specs.BindHeld.{held_of_bind}
use Rattle.rht_bind.specs.declared.bind.BindAt.{BindAt}
use Rattle.rht_bind.specs.declared.bind.BindAt.TheVariants as binding
use Rattle.rht_chain.specs.Relink.{has_relinked}
use Rattle.rht_move.specs.WorkHeld.{held_of_work}
use Rattle.rht_move.specs.Work.{IsWorkAtIn}
use Rattle.rht_move.specs.declared.work.WorkAt.{WorkAt}
use Rattle.rht_move.specs.declared.work.WorkAt.TheVariants as working
use Rattle.rht_core.specs.declared.event.Event.{Event}
use Rattle.rht_core.specs.Jobs.{Job, binds, works, call_of, job_plan, job_after, told, first_job, held_of, held_next, IsFirstJob}
use Rattle.rht_core.specs.Traces.{Did, Past, traced_of}
use Rattle.rht_core.specs.Seen.{words_before}
use Rattle.rht_core.specs.Refused.{turned, turns, IsMissingEntry, HasTaken, IsEvenIn}
use Rattle.rht_core.specs.LetGo.{HasEnteredAt, HasLetGo, LetGo}
use Rattle.rht_ghost.proofs.Theory.Ghosts.{Ghost}
use Rattle.rht_ghost.proofs.Theory.Steps.{Holding, mem, Does, Move, TakesNode, GivesNode, Links, Rebinds, SaysChange}
use Rattle.rht_core.proofs.Machines.JobSteps.{JobIn}
use Rattle.rht_core.proofs.Machines.NeverHeld.{tableless, front-tableless, pageless}
use Rattle.rht_core.proofs.Events.JobsOfCallers.{same_call, first_holds, first_without, first-of, first_tidy-so}
use Rattle.rht_core.proofs.Events.SectionsInRuns.{SparesSections, odd_by, by_move}
use Rattle.rht_core.proofs.Tracing.TracedJobs.{hard_rests, step_rests, Performs, LeadsOn, IsEndedSo}
use Rattle.rht_core.proofs.Tracing.JobsBeside.{kept_beside}
use Rattle.rht_core.proofs.Reasons.CausesInRuns.{JobSaw, EndsSeen, job-leads, first_job-saw}
use Rattle.rht_core.proofs.Undoing.EnteringBinds.{CameToEnter, attaching-none, saw-came, came_to_entry}
use Rattle.rht_core.proofs.Undoing.TurnedBits.{turned-far, turned-none, turned-adds, turns-push, work_bit}
use Rattle.rht_core.proofs.Undoing.UndoneSoFar.{one_more, entered-more}
use Rattle.rht_core.proofs.Undoing.EnteredWords.{entering_missing}
use Rattle.rht_core.proofs.Undoing.GoingBack.{unturned}
use Rattle.rht_core.proofs.Undoing.PastRefusal.{is_past}
use Rattle.rht_core.proofs.Machines.ReturnPlans.{returns-kind, no_exchange}
use Rattle.rht_core.proofs.Undoing.RefusableJobs.{enters, unmake-enters}
use Rattle.rht_core.proofs.Undoing.RefusedCalls as refusals
use Rattle.rht_core.proofs.Undoing.WorkStages.{Stage, AtLock, Asks, Loads, Gives, Opens, Behind, stage_of, stage_now, GoesTo, takes_lock, refused, opened, stays, asks_on, to_shape, asked_all, loaded, gives_on, freed, freed_last, stage_goes, lock_job, opening_job, is_returning}
use Rattle.rht_core.proofs.Undoing.TablesThen.{StandsInStage}
use Rattle.rht_core.proofs.Undoing.GivenBack.{IsBalanced, returned-more, balanced-push, balanced-end}
use Rattle.rht_core.proofs.Undoing.ReturnedBits.{slot_now, ReturnsSoFar, returns_goes}
use Rattle.rht_core.proofs.Undoing.ReturningAlone.{withdraws_returning}
use Rattle.rht_reclaim.specs.GiveTable.{shape_seen, give_table_after_at}
use Rattle.rht_reclaim.specs.declared.give_table.GiveTableAt.TheVariants.{FreeSlot as free_slot}
use Rattle.rht_words.specs.Held as held
use Rattle.rht_grace.specs.Batch.{BatchModel}
use Rattle.std.specs.Prelude.{Option, IfSome}
use Rattle.rht_core.specs.Returned.{IsReturn}
use Rattle.rht_model.specs.declared.history.Call.TheVariants.{Work, Tidy}
use Rattle.rht_core.proofs.Undoing.LocksTurned.{IsLockPlace, lock_bits, Turning, EntersHere, turns_evenly}

-- ---- which job enters a page

-- The job may still be refused, and hasn't told an answer that says that bindings were changed.
pub record IsEarly (job : Job) : Type 0 where
  pub not_past : is_past job ≡ false
  pub untold : SaysChange (held_of job).answer → ⊥

module _ (env : Env) (mix : ℕ → ℕ → ℕ → ℕ) (c : ℕ) (M : Memory) (G : Ghost) (did : Did) (entry page : ℕ)
    (exchanges : did.op ≡ Exchange (place_of env.geometry (PageWord entry)) 0 (entry_of page)) where
  bind-early : (port owner : ℕ) (once : Bool) (state : BindAt) → did.op ≡ job_plan env c (binds port owner once state)
      → In page (held_of_bind state).pages → IsEarly (binds port owner once state)
  bind-early port owner once (binding.Making growing size make) is had = record { not_past = refl; untold = λ says. says }
  bind-early port owner once (binding.Attaching growing slot shape) is had = record { not_past = refl; untold = λ says. says }
  bind-early port owner once (binding.Entering attempt table shape place grow) is had =
      record { not_past = refl; untold = λ says. says }
  bind-early port owner once (binding.Unmaking attempt unmake answer) is had =
      absurd (unmake-enters env mix c M G did entry page exchanges unmake.geometry unmake.slot unmake.at is)
  bind-early port owner once (binding.Replacing list relink) is had =
      absurd (pageless (front-tableless list.claimed (has_relinked list.before relink.at)) page had)
  bind-early port owner once _ is had = absurd had

  work-early : (state : WorkAt) → IsWorkAtIn env state → did.op ≡ job_plan env c (works state) → In page (held_of_work state).pages
      → IsEarly (works state)
  work-early (working.Returning returns) within is had =
      absurd (no_exchange (returns-kind returns.geometry returns.at) (sym is ∙ exchanges))
  work-early (working.Making wanted make) within is had = record { not_past = refl; untold = λ says. says }
  work-early (working.Attaching root last slot shape) within is had = absurd (attaching-none env mix c M G did entry page exchanges last slot within.last_in is)
  work-early (working.Unmaking root unmake) within is had =
      absurd (unmake-enters env mix c M G did entry page exchanges unmake.geometry unmake.slot unmake.at is)
  work-early _ within is had = absurd had

  pub early : (job : Job) → JobIn env mix c job → did.op ≡ job_plan env c job → In page (held_of job).pages → IsEarly job
  early (binds port owner once state) within is had = bind-early port owner once state is had
  early (works state) within is had = work-early state within is had
  early job within is had = absurd (pageless (tableless job refl) page had)

-- ---- who gives retired tables back

-- may still be refused
returning_may : (job : Job) → is_returning (stage_of job) ≡ true → is_past job ≡ false
returning_may (works (working.Returning returns)) in_it = refl
returning_may (works state) in_it = absurd (cc)
returning_may _ in_it = absurd (cc)

-- and has told no answer
returning_untold : (job : Job) → is_returning (stage_of job) ≡ true → SaysChange (held_of job).answer → ⊥
returning_untold (works (working.Returning returns)) in_it says = says
returning_untold (works state) in_it says = absurd (cc)
returning_untold _ in_it says = absurd (cc)

-- ---- the node of a call

module _ (env : Env) (mix : ℕ → ℕ → ℕ → ℕ) (op : Op) (old : ℕ) (h h' : Holding)
    (among : (node : ℕ) → h.node ≡ Some node → node < env.geometry.nodes) where
  -- one that it has behind a move is there
  node_then : (move : Move) → Does env mix move op old h h' → (node : ℕ) → h'.node ≡ Some node → node < env.geometry.nodes
  node_then (TakesNode n) does node is =
      let same : n ≡ node = (let has : h'.node ≡ Some n = ap (λ (x : Holding). x.node) does.holds in let both = sym has ∙ is in cc) in
      subst (λ m. m < env.geometry.nodes) same does.taking.within
  node_then (GivesNode n) does node is =
      absurd (let none : h'.node ≡ None = ap (λ (x : Holding). x.node) does.holds in let both = sym none ∙ is in cc)
  node_then (Links n port j) does node is =
      absurd (let none : h'.node ≡ None = ap (λ (x : Holding). x.node) does.holds in let both = sym none ∙ is in cc)
  node_then (Rebinds change) does node is = elim does.left_node [
    | inl same ↦ among node (sym same ∙ is)
    | inr none ↦ absurd (let both = sym none ∙ is in cc)
  ]
  node_then _ does node is = among node (sym (ap (λ (x : Holding). x.node) does.holds) ∙ is)

module _ (M : Type 0) (mix : ℕ → ℕ → ℕ → ℕ) (env : Env) (events : List Event) (c : ℕ) where
  abbrev g : Geometry
  g = env.geometry

  abbrev words_at : ℕ → List ℕ
  words_at = words_before M mix env events

  -- ---- what is kept of a call

  -- a page was entered at this place
  pub record HasEntered (call : Call) (steps : List Did) (place : ℕ) : Type 0 where
    pub index : ℕ
    pub here : place ≡ place_of g (PageWord index)
    pub entered : HasEnteredAt g words_at call steps index

  abbrev pub Turned : Call → Holding → List Did → Type 0
  Turned call h steps =
      (place : ℕ) → IsLockPlace g place
      → HasEntered call steps place ⊎ IsBalanced g words_at call None place 0 steps (lock_bits g h place)

  -- up to the opening of a resizing's section that is told of all bits
  abbrev pub TurnedInStage : Stage → Job → List Did → Type 0
  TurnedInStage AtLock job steps = Unit {0}
  TurnedInStage Asks job steps = Unit {0}
  TurnedInStage (Loads slot) job steps = Unit {0}
  TurnedInStage (Gives slot state) job steps = Unit {0}
  TurnedInStage Opens job steps = Turned (call_of job) (held_of job) steps
  TurnedInStage Behind job steps = Turned (call_of job) (held_of job) steps

  -- the lowest bit of its caller's section word is turned an odd number of times just while the section is open
  abbrev pub TurnedSection : Holding → List Did → Type 0
  TurnedSection h steps = (turns (place_of g (Section c)) 0 steps + odd_by h.section) % 2 ≡ 0

  pub record HasTurned (job : Job) (steps : List Did) : Type 0 where
    pub turned : TurnedInStage (stage_of job) job steps
    pub section : TurnedSection (held_of job) steps
    pub node_in : (node : ℕ) → (held_of job).node ≡ Some node → node < g.nodes

  abbrev pub Now : Job → List Did → Type 0
  Now job steps = refusals.Going M mix env events c job steps × HasTurned job steps

  abbrev pub Gone : Call → Ending → List Did → Type 0
  Gone call ending steps =
      refusals.Undone M mix env events c call ending steps
      × ((place : ℕ) → IsLockPlace g place → HasEntered call steps place ⊎ IsEvenIn g words_at call place 0 steps)
      × (turns (place_of g (Section c)) 0 steps % 2 ≡ 0)

  -- ---- an operation

  closed_then : (n : ℕ) → (n + 0) % 2 ≡ 0 → n % 2 ≡ 0
  closed_then n even = omega (arith, even)

  -- an addition of 1 turns the bit where the section is open before it or behind it, and not both
  turns_section : (t x y : ℕ) → t ≡ 1 → x + y ≡ 1 → (t + x + y) % 2 ≡ 0
  turns_section t x y turns one = omega (arith, turns, one)

  module _ (job : Job) (steps : List Did) (did : Did) (performs : Performs mix env job did) (rests : performs.over ≡ false) (own : performs.caller ≡ c)
      (here : performs.words ≡ words_at did.index) (giving : StandsInStage g words_at (stage_of job) steps did.old)
      (came : CameToEnter g job steps) (kept : Now job steps) where
    abbrev all : List Did
    all = steps ++ did ∷ []

    abbrev next : Job × Next Ending
    next = job_after mix env job did.old

    abbrev step : Turning env mix
    step = record {
      did = did;
      before = held_of job;
      after = held_next next;
      caller = performs.caller;
      words = performs.words;
      ghost = performs.ghost;
      all = performs.all;
      whole = performs.whole;
      found = performs.found;
      node_in = kept.1.node_in;
    }

    abbrev does : Does env mix (step_rests mix env performs rests).move did.op did.old (held_of job) (held_next next)
    does = subst (λ old. Does env mix (step_rests mix env performs rests).move did.op old (held_of job) (held_next next)) (sym performs.found) (step_rests mix env performs rests).does

    -- a page that it has it has taken
    taken : is_returning (stage_of job) ≡ false → refusals.UndoesInStage M mix env events c (stage_of job) job steps → (page : ℕ)
        → In page (held_of job).pages → HasTaken g page steps
    taken out = go (stage_of job) refl out
      where
        go : (stage : Stage) → stage_of job ≡ stage → is_returning stage ≡ false
            → refusals.UndoesInStage M mix env events c stage job steps → (page : ℕ) → In page (held_of job).pages → HasTaken g page steps
        go AtLock is out was page i = absurd (subst (λ j. In page (held_of j).pages) (lock_job job is) i)
        go Asks is out was page i = absurd (cc)
        go (Loads slot) is out was page i = absurd (cc)
        go (Gives slot state) is out was page i = absurd (cc)
        go Opens is out was page i = was.took page i
        go Behind is out was page i = was.took page i

    -- what it enters it had taken
    enters_now : is_returning (stage_of job) ≡ false → (place : ℕ) → EntersHere step place → HasEntered (call_of job) all place
    enters_now out place e =
        let there = mem env mix performs.words in
        let is_early = early env mix performs.caller there performs.ghost did e.entry e.page e.does.entering job performs.within
        (hard_rests mix env performs rests) e.does.had in
        let unset : there (PageWord e.entry) ≡ 0 =
        sym (ap (old_of performs.words) e.does.entering) ∙ sym performs.found ∙ e.does.found in
        elim kept.0 [
          | inl past ↦ absurd (let both = sym is_early.not_past ∙ past in cc)
          | inr going ↦ elim going [
            | inl says ↦ absurd (is_early.untold says)
            | inr may ↦ record {
              index = e.entry;
              here = e.here;
              entered = record {
                may = enters env mix performs.caller there performs.ghost did e.entry e.page e.does.entering job is_early.not_past
                    (hard_rests mix env performs rests) e.does.had;
                page = e.page;
                entered = record {
                  before = steps;
                  at = did;
                  behind = [];
                  split = refl;
                  enters = record {
                    page_in = e.ready.among;
                    entry_in = e.ready.within;
                    exchanges = e.does.entering;
                    found = e.does.found;
                  };
                  missing = subst (λ ws. IsMissingEntry g ws e.entry steps) here
                      (entering_missing env mix performs.caller e.entry e.page performs.words performs.ghost steps performs.whole e.ready
                      unset
                      (came_to_entry env mix performs.caller there performs.ghost did e.entry e.page e.does.entering performs.whole steps
                      job is_early.not_past performs.within performs.knows (hard_rests mix env performs rests) e.does.had came));
                  took = taken out may.undoes e.page e.does.had;
                };
              };
            }
          ]
        ]

    -- where no retired table is given back
    turned_then : is_returning (stage_of job) ≡ false → Turned (call_of job) (held_of job) steps → Turned (call_of job) (held_next next) all
    turned_then out was_turned place is = elim (was_turned place is) [
      | inl was ↦ inl (record {
        index = was.index;
        here = was.here;
        entered = record {
          may = was.entered.may;
          page = was.entered.page;
          entered = entered-more g words_at was.index was.entered.page steps did was.entered.entered;
        };
      })
      | inr even ↦ elim (turns_evenly step (step_rests mix env performs rests).move
          (λ j p withdraws.
          let in_it = withdraws_returning env mix performs.caller job did.op did.old performs.within j p
          (subst (λ m. Does env mix m did.op did.old (held_of job) (held_next next)) withdraws does) in
          let both = sym in_it ∙ out in cc) (step_rests mix env performs rests).ready (step_rests mix env performs rests).made.whole does place is) [
            | inl enters_it ↦ inl (enters_now out place enters_it)
            | inr now ↦ inr (balanced-push g words_at (call_of job) None None place 0 steps did (lock_bits g (held_of job) place)
                (returned-more g words_at None place 0 steps did) (lock_bits g (held_next next) place) now even)
          ]
    ]

    -- while retired tables are given back each bit is told of
    returning_so : (stage : Stage) → stage_of job ≡ stage → is_returning stage ≡ true → ReturnsSoFar g words_at (slot_now stage) steps
    returning_so stage is in_it = elim kept.0 [
      | inl past ↦ absurd (let both = sym (returning_may job (ap is_returning is ∙ in_it)) ∙ past in cc)
      | inr going ↦ elim going [
        | inl says ↦ absurd (returning_untold job (ap is_returning is ∙ in_it) says)
        | inr may ↦ in_stage stage in_it (subst (λ s. refusals.UndoesInStage M mix env events c s job steps) is may.undoes)
      ]
    ]
      where
        in_stage : (s : Stage) → is_returning s ≡ true → refusals.UndoesInStage M mix env events c s job steps
            → ReturnsSoFar g words_at (slot_now s) steps
        in_stage AtLock in_it was = absurd (cc)
        in_stage Asks in_it was = was
        in_stage (Loads slot) in_it was = was
        in_stage (Gives slot state) in_it was = was
        in_stage Opens in_it was = absurd (cc)
        in_stage Behind in_it was = absurd (cc)

    -- at the lock none was turned
    lock_turned : stage_of job ≡ AtLock → Turned (call_of job) (held_of job) steps
    lock_turned is place at = inr (elim kept.0 [
      | inl past ↦ absurd (let none = sym past ∙ ap is_past (lock_job job is) in cc)
      | inr going ↦ elim going [
        | inl says ↦ absurd (subst (λ j. SaysChange (held_of j).answer) (lock_job job is) says)
        | inr may ↦
            let none = subst (λ s. refusals.UndoesInStage M mix env events c s job steps) is may.undoes in
            subst (λ ds. IsBalanced g words_at (call_of job) None place 0 ds (lock_bits g (held_of job) place)) (sym none)
            (subst (λ j. IsBalanced g words_at (call_of job) None place 0 [] (lock_bits g (held_of j) place)) (sym (lock_job job is))
            (inl refl))
      ]
    ])

    -- what is told of the locks behind it
    abbrev TurnedNext : Job × Next Ending → Type 0
    TurnedNext (after, Go) = TurnedInStage (stage_of after) after all
    TurnedNext (after, Done ending) = Turned (call_of job) (held_next (after, Done ending)) all

    behind_next : (r : Job × Next Ending) → call_of r.0 ≡ call_of job → stage_now (told r).0 ≡ Behind → Turned (call_of job) (held_next r) all
        → TurnedNext r
    behind_next (after, Go) same stage now =
        subst (λ s. TurnedInStage s after all) (sym stage) (subst (λ call. Turned call (held_of after) all) (sym same) now)
    behind_next (after, Done ending) same stage now = now

    untold_next : (r : Job × Next Ending) (to : Stage) → stage_now (told r).0 ≡ to → is_returning to ≡ true → TurnedNext r
    untold_next (after, Go) to stage in_it = subst (λ s. TurnedInStage s after all) (sym stage) (in_stage to in_it)
      where
        in_stage : (s : Stage) → is_returning s ≡ true → TurnedInStage s after all
        in_stage AtLock in_it = tt
        in_stage Asks in_it = tt
        in_stage (Loads slot) in_it = tt
        in_stage (Gives slot state) in_it = tt
        in_stage Opens in_it = absurd (cc)
        in_stage Behind in_it = absurd (cc)
    untold_next (after, Done ending) to stage in_it = absurd (let both = ap is_returning stage ∙ in_it in cc)

    opening_next : (r : Job × Next Ending) → stage_now (told r).0 ≡ Opens → ReturnsSoFar g words_at None all → TurnedNext r
    opening_next (after, Go) stage so_far =
        let opens = opening_job after stage in
        subst (λ s. TurnedInStage s after all) (sym stage)
        (subst (λ j. Turned (call_of j) (held_of j) all) (sym opens)
        (λ place at.
        let same : work_bit g true place 0 ≡ lock_bits g (held_of (works working.Opening)) place = omega arith in
        inr (subst (IsBalanced g words_at Work None place 0 all) same (so_far place 0 (omega arith)))))
    opening_next (after, Done ending) stage so_far = absurd (cc)

    opens_from : (from : Stage) → GoesTo g did.old from Opens → stage_of job ≡ from → is_returning from ≡ true
        → StandsInStage g words_at from steps did.old → stage_now (told next).0 ≡ Opens → TurnedNext next
    opens_from from goes is in_it stands then =
        opening_next next then
        (returns_goes mix env words_at job steps did performs rests from Opens goes is in_it stands (returning_so from is in_it))

    turned_next : (from to : Stage) → GoesTo g did.old from to → stage_of job ≡ from → stage_now (told next).0 ≡ to
        → TurnedInStage from job steps → StandsInStage g words_at from steps did.old → TurnedNext next
    turned_next _ _ (takes_lock free) is then was stands = untold_next next Asks then refl
    turned_next _ _ refused is then was stands =
        behind_next next (same_call mix env job did.old) then (turned_then (ap is_returning is) (lock_turned is))
    turned_next _ _ opened is then was stands = behind_next next (same_call mix env job did.old) then (turned_then (ap is_returning is) was)
    turned_next _ _ stays is then was stands = behind_next next (same_call mix env job did.old) then (turned_then (ap is_returning is) was)
    turned_next _ _ asks_on is then was stands = untold_next next Asks then refl
    turned_next _ _ (to_shape slot) is then was stands = untold_next next (Loads slot) then refl
    turned_next _ _ asked_all is then was stands = opens_from Asks asked_all is refl stands then
    turned_next _ _ (loaded slot) is then was stands = untold_next next (Gives slot (shape_seen g did.old)) then refl
    turned_next _ _ (gives_on slot state other) is then was stands =
        untold_next next (Gives slot (give_table_after_at g state did.old).0) then refl
    turned_next _ _ (freed slot) is then was stands = untold_next next Asks then refl
    turned_next _ _ (freed_last slot) is then was stands = opens_from (Gives slot free_slot) (freed_last slot) is refl stands then

    -- an operation on another word, or one that leaves its word, turns no bit of the section word
    spares_section : SparesSections did.op did.old → c < 16 → turned (place_of g (Section c)) 0 did ≡ 0
    spares_section (inl before) few = turned-far _ 0 did (λ at. absurd (omega (arith, at, before)))
    spares_section (inr (inl behind)) few = turned-far _ 0 did (λ at. absurd (omega (arith, at, behind, few)))
    spares_section (inr (inr leaves)) few = turned-none _ 0 did (omega arith) leaves

    section_then : TurnedSection (held_next next) all
    section_then =
        let place = place_of g (Section c) in
        let was = odd_by (held_of job).section in
        let now = odd_by (held_next next).section in
        let even : (turned place 0 did + was + now) % 2 ≡ 0 =
        elim (by_move env mix performs.caller (mem env mix performs.words) performs.ghost did.op did.old (held_of job) (held_next next)
        (step_rests mix env performs rests).move (step_rests mix env performs rests).ready does) [
          | inl kept_so ↦
              unturned _ _ _ (spares_section kept_so.spares (subst (λ k. k < 16) own performs.few)) (ap odd_by kept_so.same)
          | inr turning ↦
              turns_section _ _ _
              (turned-adds (place_of g (Section performs.caller)) place did turning.adds (ap (λ k. place_of g (Section k)) own))
              turning.turns
        ] in
        ap (λ n. (n + now) % 2) (turns-push place 0 steps did)
        ∙ one_more (turns place 0 steps) (turned place 0 did) was now kept.1.section even

    node_next : (node : ℕ) → (held_next next).node ≡ Some node → node < g.nodes
    node_next = node_then env mix did.op did.old (held_of job) (held_next next) kept.1.node_in (step_rests mix env performs rests).move does

    by_next : (r : Job × Next Ending) → TurnedNext r → TurnedSection (held_next r) all
        → ((node : ℕ) → (held_next r).node ≡ Some node → node < g.nodes)
        → LeadsOn M mix env (refusals.Going M mix env events c) (refusals.Undone M mix env events c) job all r
        → LeadsOn M mix env Now Gone job all r
    by_next (after, Go) turned section node_in leads = (leads, record { turned = turned; section = section; node_in = node_in })
    by_next (after, Done ending) turned section node_in leads = (
      leads,
      λ place is. elim (turned place is) [
        | inl entered ↦ inl entered
        | inr even ↦ inr (balanced-end g words_at (call_of job) place 0 all
            (subst (IsBalanced g words_at (call_of job) None place 0 all) (let none : 0 + 0 + 0 ≡ 0 = refl in none) even))
      ],
      closed_then (turns (place_of g (Section c)) 0 all) section,
    )

    goes_on : LeadsOn M mix env Now Gone job all next
    goes_on =
        by_next next
        (turned_next (stage_of job) (stage_now (told next).0) (stage_goes mix env performs.caller job did.old performs.within) refl refl
        kept.1.turned giving)
        section_then node_next (refusals.goes M mix env events c job steps did performs rests own here giving came kept.0)

  -- ---- the beginning

  none_turned : (call : Call) → Turned call held.holds_nothing []
  none_turned call place at = inr (inl refl)

  first-turned : (call : Call) (batch : Option BatchModel) (start : ℕ) → IfSome (first_job env batch call start) (λ job. TurnedInStage (stage_of job) job [])
  first-turned Tidy batch start = first_tidy-so (λ job. TurnedInStage (stage_of job) job []) batch (λ own. none_turned Tidy)
  first-turned Work batch start = tt
  first-turned call batch start = none_turned call

  begins : (call : Call) (job : Job) → IsFirstJob env call job → HasTurned job []
  begins call job is = record {
    turned = first-of (λ j. TurnedInStage (stage_of j) j []) env call job (first-turned call) is;
    section = subst (λ h. TurnedSection h []) (sym (first_holds env call job is)) refl;
    node_in = λ n has. absurd (let both = sym (first_without env call job is) ∙ has in cc);
  }

  -- ---- the law

  -- nothing of a table is the work lock
  no_lock : (bit : ℕ) (before : List Did) (at : Did) (behind : List Did) → IsReturn g words_at (place_of g WorkLock) bit before at behind → ⊥
  no_lock bit before at behind (inl (slot, returns, there)) = absurd (omega (arith, there))
  no_lock bit before at behind (inr (inl (slot, index, clears, there))) =
      let order = parts_in_order g in absurd (omega (arith, there, order.pages, order.nodes, order.page_map))
  no_lock bit before at behind (inr (inr (slot, page, returns, there, is))) =
      let order = parts_in_order g in absurd (omega (arith, there, order.page_map))

  let_go-ended : (past : Past) → IsEndedSo M mix env Now Gone past → HasLetGo M mix env events c past
  let_go-ended past (ended, gone, section) = record {
    work = elim (gone (place_of g WorkLock) (inl refl)) [
      | inl entered ↦
          let order = parts_in_order g in
          let at = entered.here in
          absurd (omega (arith, at, order.pages, order.nodes, order.page_map))
      | inr even ↦ elim even [
        | inl is ↦ is
        | inr but ↦ absurd (no_lock 0 but.1.before but.1.at but.1.behind but.1.returns)
      ]
    ];
    buckets = λ index low. elim (gone (place_of g (PageWord index)) (inr (index, low, refl))) [
      | inl entered ↦
          let at = entered.here in
          let same : entered.index ≡ index = omega (arith, at) in
          inl (subst (HasEnteredAt g words_at past.done.call past.steps) same entered.entered)
      | inr even ↦ inr even
    ];
    section = section;
  }

  each : (calls : List Past) → AllByRecursion (IsEndedSo M mix env Now Gone) calls → AllByRecursion (HasLetGo M mix env events c) calls
  each [] ended = tt
  each (past ∷ calls) ended = (let_go-ended past ended.0, each calls ended.1)

pub let_go : (M : Type 0) (mix : ℕ → ℕ → ℕ → ℕ) → LetGo M mix
let_go M mix env events c admitted =
    each M mix env events c ((traced_of {M = M} mix env events).traces c).past
    (kept_beside M mix env events (JobSaw env c (words_before M mix env events) mix) (Now M mix env events c)
    (EndsSeen M mix env events c) (Gone M mix env events c) c
    (record { begins = first_job-saw M mix env events c; goes = job-leads M mix env events c })
    (record {
      begins = λ call job is. (refusals.begins M mix env events c call job is, begins M mix env events c call job is);
      goes = λ job steps did performs own stands saw kept.
          goes_on M mix env events c job steps did performs stands.rests own stands.now stands.giving
          (saw-came env c (words_before M mix env events) mix job steps saw) kept;
    }) admitted)
