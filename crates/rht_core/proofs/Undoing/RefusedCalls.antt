-- In every run a call has undone what it did that was refused, or found its port bound, or found no owner to replace or to release. And so
-- has one that only looked, or had nothing to do.
--
-- While a call may still end so its operations have changed nothing that the words stand for, and the bits that they turned an odd
-- number of times are those of what it holds, but for those that may be left. An operation that changes bindings tells an answer that
-- says so, and behind that the call doesn't end so. Once it has ended it holds nothing, and its caller is in no section. What a resizing
-- gives back of retired tables it does so before it opens its section.
use Rattle.std.proofs.Common.{◌≡◌, ◌≢◌, ◌⊎◌, ℕ, suc, ◌+◌, ◌<◌, Bool, true, false, List, [], ◌∷◌, ◌++◌, take, refl, sym, ap, ◌∙◌, subst, inl, inr, arith}
use Rattle.std.specs.Prelude.{Option, Some, None, IfSome}
use Rattle.std.specs.List.{AllByRecursion}
use Rattle.rht_words.specs.declared.env.Env.{Env}
use Rattle.rht_words.specs.declared.config.Kind.{Kind}
use Rattle.rht_words.specs.declared.geometry.Geometry.{Geometry}
use Rattle.rht_words.specs.declared.machine.Next.{Next}
use Rattle.rht_words.specs.declared.machine.Next.TheVariants.{Go, Done}
use Rattle.rht_words.specs.Members.{In}
use Rattle.rht_words.specs.Machines.{GoesOrEnds}
use Rattle.rht_words.specs.Links.{slot_of}
use Rattle.rht_words.specs.Operations.{old_of, applied}
use Rattle.rht_words.specs.Places.{Slot, FutureWord}
use Rattle.rht_words.proofs.EachElement.{AllByRecursion-push}
use Rattle.rht_model.specs.declared.history.Call.{Call}
use Rattle.rht_model.specs.declared.history.Call.TheVariants.{Work, Tidy}
use Rattle.rht_model.specs.declared.history.Reply.{Reply}
use Rattle.rht_model.specs.declared.history.Reply.TheVariants as replies
use Rattle.rht_model.specs.Answers.{Answer, is_change}
use Rattle.rht_model.specs.Endings.{Ending, plain_ending}
use Rattle.rht_model.specs.Multimap.{Multimap, Agree}
use Rattle.rht_model.proofs.UnchangedBindings.{left_by-unchanged}
use Rattle.rht_bind.specs.Bind as bind_at
use Rattle.rht_release.specs.Release as release_at
use Rattle.rht_release.specs.Rebind as rebind_at
use Rattle.rht_move.specs.Work as work_at
use Rattle.rht_move.specs.declared.work.Due.{Due}
use Rattle.rht_move.specs.declared.work.Due.TheVariants as dues
use Rattle.rht_move.specs.declared.work.WorkAt.TheVariants as works_at
use Rattle.rht_core.specs.declared.event.Event.{Event}
use Rattle.rht_core.specs.declared.event.Event.TheVariants.{Step as Steps}
use Rattle.rht_grace.specs.Batch.{BatchModel}
use Rattle.rht_grace.specs.Tidy as tidy_at
use Rattle.rht_grace.specs.declared.tidy.TidyAt.TheVariants as tidy_states
use Rattle.rht_core.specs.Jobs.{Job, binds, releases, rebinds, works, tidies, tidying, tidied, told, call_of, first_job, job_plan, job_after, job_next, node_ending, held_of, held_next, IsFirstJob}
use Rattle.rht_core.specs.Runs.{World, run_of, IsAdmitted}
use Rattle.rht_core.specs.Traces.{Did, Past, traced_of}
use Rattle.rht_core.specs.Seen.{words_before}
use Rattle.rht_stands.specs.StandsFor.{stands_for}
use Rattle.rht_core.specs.RunHistories.{ChangesBindings}
use Rattle.rht_core.specs.Laws.{IsRecorded, IsPastCall}
use Rattle.rht_core.specs.Refused.{MayAttach, changes_nothing, IsExcepted, IsEvenIn, IsUndone, Refused}
use Rattle.rht_ghost.proofs.Theory.Answering.{entry_of, same_reply, known_so, unknown_before, Says, ChangesBindings as ChangesThem}
use Rattle.rht_ghost.proofs.Theory.Knowns.{Onward, Rooted}
use Rattle.rht_ghost.proofs.Theory.Knowledge.{WorkMeans}
use Rattle.rht_ghost.proofs.Pieces.WorkLoads.{has_future}
use Rattle.rht_ghost.proofs.Theory.Steps.{Holding, mem, ghost_after, Does, ReturnsNode, SaysChange}
use Rattle.rht_core.proofs.Meaning.BoundPorts.{stands_for_bound}
use Rattle.rht_core.proofs.Events.Worlds.{run_of-next, step_words}
use Rattle.rht_core.proofs.Events.JobsOfCallers.{each_goes, first_tidy-so, same_call, first-of}
use Rattle.rht_core.proofs.Tracing.TracedJobs.{found_as, hard_rests, step_rests, Performs, LeadsOn, IsEndedSo}
use Rattle.rht_core.proofs.Tracing.JobsBeside.{kept_beside}
use Rattle.rht_core.proofs.Tracing.BehindCalls.{section_left}
use Rattle.rht_core.proofs.Reasons.CausesInRuns.{JobSaw, EndsSeen, job-leads, first_job-saw}
use Rattle.rht_core.proofs.Undoing.EnteringBinds.{CameToEnter, saw-came, came_to_entry}
use Rattle.rht_core.proofs.Tracing.TracesAtEvents.{at_events}
use Rattle.rht_core.proofs.Undoing.UndoneSoFar.{Undoes, GoneWhereEntered, Undoes-push}
use Rattle.rht_core.proofs.Undoing.GoingBack.{GoesBack}
use Rattle.rht_core.proofs.Undoing.UndoneMoves.{kept_by}
use Rattle.rht_core.proofs.Undoing.PastRefusal.{due_is_past, is_past, StaysPast, bind-past, release-past, rebind-past, work-past, tidy-past}
use Rattle.rht_core.proofs.Undoing.WorkStages.{Stage, AtLock, Asks, Loads, Gives, Opens, Behind, stage_of, stage_now, GoesTo, takes_lock, refused as lock_taken, opened, stays, asks_on, to_shape, asked_all, loaded, gives_on, freed, freed_last, stage_goes, lock_job, opening_job, is_returning}
use Rattle.rht_core.proofs.Undoing.TablesThen.{StandsInStage}
use Rattle.rht_core.proofs.Undoing.GivenBack.{IsBalanced, balanced-end}
use Rattle.rht_core.proofs.Undoing.TurnedBits.{work_bit, held_bits}
use Rattle.rht_core.proofs.Undoing.ReturnedBits.{slot_now, ReturnsSoFar, takes_so, returns_goes}
use Rattle.rht_core.proofs.Undoing.ReturningAlone.{withdraws_returning, takes_back_none}
use Rattle.rht_reclaim.specs.GiveTable.{shape_seen, give_table_after_at}
use Rattle.rht_reclaim.specs.declared.give_table.GiveTableAt.TheVariants.{FreeSlot as free_slot}
use Rattle.rht_words.specs.Held as held
use Rattle.rht_core.proofs.Undoing.StoredShapes.{bind-stored}
use Rattle.rht_core.proofs.Undoing.RefusableJobs.{refusable, slot_mine, mine, JobStored, attaches, enters, gone}
use Rattle.rht_core.proofs.Undoing.LockedJobs.{locked-leaves}

-- ---- answers that say that bindings were changed

-- a call that ends with such a reply changes something
change-not_nothing : (call : Call) (reply : Reply) → is_change reply ≡ true → changes_nothing call reply ≡ true → ⊥
change-not_nothing call (replies.Bound kick) change nothing = cc
change-not_nothing call _ change nothing = cc

module _ (kind : Kind) (c : ℕ) (call : Call) (before after : Multimap) where
  -- an operation that changes bindings tells one
  changed_says : (was now : Option Answer) → ChangesThem kind c call before after was now → SaysChange now
  changed_says was now changes =
      subst SaysChange (sym changes.known) (go (is_change changes.answer.reply) refl)
    where
      go : (t : Bool) → is_change changes.answer.reply ≡ t → is_change changes.answer.reply ≡ true
      go true is = is
      go false is =
          let entry = entry_of c call changes.answer in
          let port = changes.port in
          absurd (changes.differs (changes.bindings port ∙ left_by-unchanged kind before entry (inl changes.answered) is port))

  -- one that is known stays so
  change_stays : (early : Option Answer) (There : Type 0) (was now : Option Answer)
      → Says kind c call early There before after was now → SaysChange was → SaysChange now
  change_stays early There None now says so = absurd so
  change_stays early There (Some was) None says so =
      absurd (let none = unknown_before kind c call early There before after (Some was) None says refl in cc)
  change_stays early There (Some was) (Some now) says so =
      known_so kind c call (λ answer. is_change answer.reply ≡ true)
      (λ one other same is.
      same_reply (λ reply. is_change reply ≡ true)
      (record { bound = λ kick l e. refl; released = λ kick l e. refl }) one other same is)
      early There before after (Some was) (Some now) says (λ answer none known. absurd (cc)) so

-- ---- a resizing that knows of a future

module _ (env : Env) (mix : ℕ → ℕ → ℕ → ℕ) where
  -- the current table has one, so its word leads to a slot
  onward_some : (root : ℕ) (due : Due) (did : Did) → (performs : Performs mix env (works (works_at.RootFuture root due)) did)
      → WorkMeans env mix performs.caller (mem env mix performs.words) performs.ghost (Rooted root Onward) → slot_of did.old ≢ None
  onward_some root due did performs knows none =
      let found : did.old ≡ mem env mix performs.words (Slot root FutureWord) =
      found_as mix env performs in
      has_future env mix performs.caller (mem env mix performs.words) performs.ghost performs.whole root knows
      (sym (ap slot_of found) ∙ none)

  due_some : (root : ℕ) (due : Due) (did : Did) → Performs mix env (works (works_at.RootFuture root due)) did
      → due_is_past due ≡ true → slot_of did.old ≢ None
  due_some root dues.Nothing did performs past = absurd (cc)
  due_some root dues.Attached did performs past = onward_some root dues.Attached did performs performs.knows.knowing.means.work
  due_some root dues.Later did performs past = onward_some root dues.Later did performs performs.knows.knowing.means.work

-- nothing is held
abbrev holds_none : Holding
holds_none = held.holds_nothing

module _ (M : Type 0) (mix : ℕ → ℕ → ℕ → ℕ) (env : Env) (events : List Event) (c : ℕ) where
  abbrev g : Geometry
  g = env.geometry

  -- ---- what is kept of a call

  -- the operation, performed in the words before its event, leaves what the words stand for
  abbrev LeavesBindings : Did → Type 0
  LeavesBindings did =
      let words = words_before M mix env events did.index in
      Agree (stands_for g (applied words did.op)) (stands_for g words)

  -- what was turned: nothing at the lock, the bits of what is given back of retired tables, and behind that those of what the call holds
  abbrev pub UndoesInStage : Stage → Job → List Did → Type 0
  UndoesInStage AtLock job steps = steps ≡ []
  UndoesInStage Asks job steps = ReturnsSoFar g (words_before M mix env events) None steps
  UndoesInStage (Loads slot) job steps = ReturnsSoFar g (words_before M mix env events) None steps
  UndoesInStage (Gives slot state) job steps = ReturnsSoFar g (words_before M mix env events) (Some slot) steps
  UndoesInStage Opens job steps = Undoes g (words_before M mix env events) c (call_of job) (held_of job) steps
  UndoesInStage Behind job steps = Undoes g (words_before M mix env events) c (call_of job) (held_of job) steps

  -- of one that may still be refused
  pub record MayBeRefused (job : Job) (steps : List Did) : Type 0 where
    pub undoes : UndoesInStage (stage_of job) job steps
    pub still : AllByRecursion LeavesBindings steps
    pub stored : JobStored env job steps

  -- of each one
  abbrev pub Going : Job → List Did → Type 0
  Going job steps = (is_past job ≡ true) ⊎ SaysChange (held_of job).answer ⊎ MayBeRefused job steps

  -- of one that has ended
  pub record HasUndone (call : Call) (steps : List Did) : Type 0 where
    pub even : (place bit : ℕ) → bit < 64
        → IsExcepted g (words_before M mix env events) c call steps place bit
        ⊎ IsEvenIn g (words_before M mix env events) call place bit steps
    pub still : AllByRecursion LeavesBindings steps

  abbrev pub Undone : Call → Ending → List Did → Type 0
  Undone call ending steps = changes_nothing call ending.answer.reply ≡ true → HasUndone call steps

  abbrev Leads : Job → List Did → Job × Next Ending → Type 0
  Leads job all next = LeadsOn M mix env Going Undone job all next

  -- ---- behind a refusal's last chance

  both_say : (call : Call) (reply : Reply) → changes_nothing call reply ≡ false → changes_nothing call reply ≡ true → ⊥
  both_say call reply not_so so = let both = sym not_so ∙ so in cc

  module _ (all : List Did) where
    -- a call that isn't refused any more goes on so, or ends with a reply that says that it did something
    said-leads : {S A : Type 0} (start : Job) (job : S → Job) (ending : A → Ending) (r : S × Next A)
        → StaysPast (λ state. is_past (job state)) (λ end. (ending end).answer.reply) (call_of start) r
        → Leads start all (job_next job ending r)
    said-leads start job ending (state, Go) past = inl past
    said-leads start job ending (state, Done end) past =
        λ nothing. absurd (both_say (call_of start) (ending end).answer.reply past nothing)

    past-leads : (job : Job) (did : Did) → Performs mix env job did → is_past job ≡ true
        → Leads job all (job_after mix env job did.old)
    past-leads (binds port owner once state) did performs past =
        said-leads (binds port owner once state) (binds port owner once) plain_ending
        (bind_at.after_at mix env port once state did.old) (bind-past port owner once mix env state did.old past)
    past-leads (releases port owner state) did performs past =
        said-leads (releases port owner state) (releases port owner) node_ending
        (release_at.after_at mix env port owner state did.old) (release-past port owner mix env state did.old past)
    past-leads (rebinds port owner new state) did performs past =
        said-leads (rebinds port owner new state) (rebinds port owner new) node_ending
        (rebind_at.after_at mix env port owner state did.old) (rebind-past port owner new mix env state did.old past)
    past-leads (works state) did performs past =
        said-leads (works state) works plain_ending (work_at.after_at mix env state did.old)
        (work-past mix env state did.old past
        (λ root due is. due_some env mix root due did (subst (λ s. Performs mix env (works s) did) is performs)))
    past-leads (tidies batch state) did performs past =
        said-leads (tidies batch state) tidying plain_ending (tidied (tidy_at.after_at env.geometry batch state did.old))
        (tidy-past env.geometry batch state did.old past)
    past-leads _ did performs past = absurd (cc)

    -- ---- behind an answer that says that bindings were changed

    change-leads : (job : Job) (next : Job × Next Ending) → SaysChange (held_next next).answer → Leads job all next
    change-leads job (after, Go) says = inr (inl says)
    change-leads job (after, Done ending) says =
        λ nothing. absurd (change-not_nothing (call_of job) ending.answer.reply says nothing)

  -- ---- while it may be refused

  -- who has done nothing has turned nothing
  nothing_undone : (call : Call) → Undoes g (words_before M mix env events) c call holds_none []
  nothing_undone call = record {
    even = λ place bit low. inr (inl refl);
    node_in = λ n is. absurd (cc);
    slot_in = λ s is. absurd (cc);
    pages_in = λ page i. absurd i;
    took = λ page i. absurd i;
  }

  -- what the next state has stored
  abbrev NextStored : List Did → Job × Next Ending → Type 0
  NextStored all next = GoesOrEnds (λ after. JobStored env after all) (λ ending. Unit {0}) next

  next-stored : {S A : Type 0} (all : List Did) (job : S → Job) (ending : A → Ending) (r : S × Next A)
      → JobStored env (job r.0) all → NextStored all (job_next job ending r)
  next-stored all job ending (state, Go) stored = stored
  next-stored all job ending (state, Done end) stored = tt

  -- a job of a call that attaches no table has nothing to say of it
  other-stored : (job : Job) (steps : List Did) → ¬ MayAttach (call_of job) → JobStored env job steps
  other-stored (binds port owner once state) steps other = absurd (other tt)
  other-stored _ steps other = tt

  stored_then : (c : ℕ) (job : Job) (steps : List Did) (did : Did) → is_past job ≡ false → did.op ≡ job_plan env c job
      → JobStored env job steps → NextStored (steps ++ did ∷ []) (job_after mix env job did.old)
  stored_then c (binds port owner once state) steps did may is stored =
      let r = bind_at.after_at mix env port once state did.old in
      next-stored (steps ++ did ∷ []) (binds port owner once) plain_ending r (bind-stored env mix c port once state steps did is stored)
  stored_then c job steps did may is stored =
      let all = steps ++ did ∷ [] in
      each_goes (λ after. JobStored env after all) (λ ending. Unit {0}) (call_of job) (job_after mix env job did.old)
      (same_call mix env job did.old) (λ other same. other-stored other all (λ may. subst MayAttach same may)) (λ ending. tt)

  -- a tidying that may be refused loads
  returns_none : (c : ℕ) (job : Job) (did : Did) (h h' : Holding) (n : ℕ) → is_past job ≡ false → did.op ≡ job_plan env c job
      → call_of job ≡ Tidy
      → Does env mix (ReturnsNode n) did.op did.old h h' → ⊥
  returns_none c (tidies batch (tidy_states.Keeping caller)) did h h' n may is asked does = let both = sym is ∙ does.giving in cc
  returns_none c (tidies batch (tidy_states.Asking caller)) did h h' n may is asked does = let both = sym is ∙ does.giving in cc
  returns_none c (tidies batch (tidy_states.Giving index)) did h h' n may is asked does = absurd (cc)
  returns_none c _ did h h' n may is asked does = absurd (cc)

  module _ (job : Job) (steps : List Did) (did : Did) (may : is_past job ≡ false) (kept : MayBeRefused job steps) where
    abbrev all : List Did
    all = steps ++ did ∷ []

    -- what is known of the operation, by what it leads to
    abbrev LeavesOr : Holding → Type 0
    LeavesOr after = SaysChange after.answer ⊎ LeavesBindings did

    abbrev UndoesOr : Holding → Type 0
    UndoesOr after =
        after.raised ≡ false → after.moving ≡ false
        → SaysChange after.answer ⊎ Undoes g (words_before M mix env events) c (call_of job) after all

    -- and by the job that it leads to, or once the call has ended
    abbrev UndoesNext : Job × Next Ending → Type 0
    UndoesNext (after, Go) = is_past after ≡ false → SaysChange (held_of after).answer ⊎ UndoesInStage (stage_of after) after all
    UndoesNext (after, Done ending) =
        SaysChange (held_next (after, Done ending)).answer
        ⊎ Undoes g (words_before M mix env events) c (call_of job) (held_next (after, Done ending)) all

    go_on : (after : Job) → LeavesOr (held_of after) → UndoesNext (after, Go) → JobStored env after all → (t : Bool)
        → is_past after ≡ t → Going after all
    go_on after leaves undoes stored true past = inl past
    go_on after leaves undoes stored false not_past = elim leaves [
      | inl says ↦ inr (inl says)
      | inr left ↦ elim (undoes not_past) [
        | inl says ↦ inr (inl says)
        | inr now ↦ inr (inr (record {
          undoes = now;
          still = AllByRecursion-push LeavesBindings steps did kept.still left;
          stored = stored;
        }))
      ]
    ]

    end : (after : Job) (ending : Ending) → LeavesOr (held_next (after, Done ending)) → UndoesNext (after, Done ending)
        → Leads job all (after, Done ending)
    end after ending leaves undoes = elim leaves [
      | inl says ↦ change-leads all job (after, Done ending) says
      | inr left ↦ elim undoes [
        | inl says ↦ change-leads all job (after, Done ending) says
        | inr now ↦ λ nothing. record {
          even = λ place bit low. elim (now.even place bit low) [
            | inl some ↦ elim some [
              | inl excepted ↦ inl excepted
              | inr own ↦ elim own [
                | inl node ↦ absurd (let none = node.has in cc)
                | inr slot ↦ absurd (let none = slot.has in cc)
              ]
            ]
            | inr even ↦ inr (balanced-end g (words_before M mix env events) (call_of job) place bit all even)
          ];
          still = AllByRecursion-push LeavesBindings steps did kept.still left;
        }
      ]
    ]

    by_next : (next : Job × Next Ending) → LeavesOr (held_next next) → UndoesNext next → NextStored all next → Leads job all next
    by_next (after, Go) leaves undoes stored = go_on after leaves undoes stored (is_past after) refl
    by_next (after, Done ending) leaves undoes stored = end after ending leaves undoes

    module _ (performs : Performs mix env job did) (rests : performs.over ≡ false) (own : performs.caller ≡ c)
        (here : performs.words ≡ words_before M mix env events did.index)
        (giving : StandsInStage g (words_before M mix env events) (stage_of job) steps did.old) (came : CameToEnter g job steps) where
      abbrev after : Holding
      after = held_next (job_after mix env job did.old)

      leaves : LeavesOr after
      leaves = elim performs.step.says [
        | inr changes ↦
            inl (changed_says env.config.kind performs.caller (call_of job) _ _ (held_of job).answer after.answer changes)
        | inl stills ↦ inr (subst (λ ws. Agree (stands_for g (applied ws did.op)) (stands_for g ws)) here (λ port.
            stands_for_bound env mix (applied performs.words did.op) (ghost_after env mix performs.caller performs.step.move performs.ghost)
            performs.step.made.whole port
            ∙ stills.agree port ∙ sym (stands_for_bound env mix performs.words performs.ghost performs.whole port)))
      ]

      -- where no retired table is given back
      undoes : is_returning (stage_of job) ≡ false
          → Undoes g (words_before M mix env events) c (call_of job) (held_of job) steps → UndoesOr after
      undoes out was low_then still_then =
          let gone_then : GoneWhereEntered g (words_before M mix env events) c (call_of job) steps did (held_of job) after =
          λ entry page exchanges free had i.
          gone env mix performs.caller (mem env mix performs.words) performs.ghost did entry page exchanges job may (hard_rests mix env performs rests)
          had (subst (λ old. In page (held_next (job_after mix env job old)).pages) free i) in
          let holds = refusable job may in
          let step = step_rests mix env performs rests in
          let so_far : Undoes g (words_before M mix env events) performs.caller (call_of job) (held_of job) steps =
          subst (λ k. Undoes g (words_before M mix env events) k (call_of job) (held_of job) steps) (sym own) was in
          let goes_back : GoesBack env mix (words_before M mix env events) (call_of job) = record {
            steps = steps;
            did = did;
            before = held_of job;
            after = after;
            caller = performs.caller;
            words = performs.words;
            ghost = performs.ghost;
            whole = performs.whole;
            here = sym here;
            found = performs.found;
            so_far = so_far;
            may = record {
              low = holds.low;
              low_then = low_then;
              still = holds.still;
              still_then = still_then;
              locked_leaves = locked-leaves env mix performs.caller did.op did.old job may (hard_rests mix env performs rests);
              slot_mine = slot_mine env mix performs.caller (mem env mix performs.words) performs.ghost job may out performs.knows;
              mine = mine env mix performs.caller (mem env mix performs.words) performs.ghost job may performs.knows;
              attaches = λ last slot low exchanges has.
                  attaches env mix performs.caller (mem env mix performs.words) performs.ghost steps did last slot
                  low exchanges job may performs.knows kept.stored (hard_rests mix env performs rests) has;
              enters = λ entry page exchanges has.
                  let there = mem env mix performs.words in
                  record {
                    may = enters env mix performs.caller there performs.ghost did entry page exchanges job may (hard_rests mix env performs rests) has;
                    came =
                        came_to_entry env mix performs.caller there performs.ghost did entry page exchanges performs.whole steps
                        job may performs.within performs.knows (hard_rests mix env performs rests) has came;
                  };
            };
          } in
          let does : Does env mix step.move did.op did.old (held_of job) after =
          subst (λ old. Does env mix step.move did.op old (held_of job) after) (sym performs.found) step.does in
          elim (kept_by goes_back step.move
          (λ n returns. returns_none performs.caller job did (held_of job) after n may (hard_rests mix env performs rests) (step.returning n returns)
          (subst (λ m. Does env mix m did.op did.old (held_of job) after) returns does))
          (λ j p withdraws.
          let in_it = withdraws_returning env mix performs.caller job did.op did.old performs.within j p
          (subst (λ m. Does env mix m did.op did.old (held_of job) after) withdraws does) in
          let both = sym in_it ∙ out in cc)
          (λ s index bits takes.
          takes_back_none env mix performs.caller performs.few job did.op did.old after may performs.within out (hard_rests mix env performs rests) s index bits
          (subst (λ m. Does env mix m did.op did.old (held_of job) after) takes does)) step.ready does) [
            | inl says ↦ inl says
            | inr keeps ↦ inr (
                subst (λ k. Undoes g (words_before M mix env events) k (call_of job) after all) own
                (Undoes-push g (words_before M mix env events) performs.caller (call_of job) steps did (held_of job) after so_far keeps
                gone_then))
          ]

      -- behind the lock, and behind the giving back
      behind_next : (next : Job × Next Ending) → call_of next.0 ≡ call_of job → stage_now (told next).0 ≡ Behind
          → UndoesOr (held_next next) → UndoesNext next
      behind_next (later, Go) same stage undoes_it = λ not_past.
          let may_then = refusable later not_past in
          elim (undoes_it may_then.low may_then.still) [
            | inl says ↦ inl says
            | inr now ↦ inr (
                subst (λ s. UndoesInStage s later all) (sym stage)
                (subst (λ call. Undoes g (words_before M mix env events) c call (held_of later) all) (sym same) now))
          ]
      behind_next (later, Done ending) same stage undoes_it = undoes_it refl refl

      -- while retired tables are given back
      returning_next : (next : Job × Next Ending) (to : Stage) → stage_now (told next).0 ≡ to → is_returning to ≡ true
          → ReturnsSoFar g (words_before M mix env events) (slot_now to) all → UndoesNext next
      returning_next (later, Go) to stage in_it so_far =
          λ not_past. inr (subst (λ s. UndoesInStage s later all) (sym stage) (in_stage to in_it so_far))
        where
          in_stage : (s : Stage) → is_returning s ≡ true → ReturnsSoFar g (words_before M mix env events) (slot_now s) all
              → UndoesInStage s later all
          in_stage AtLock in_it so_far = absurd (cc)
          in_stage Asks in_it so_far = so_far
          in_stage (Loads slot) in_it so_far = so_far
          in_stage (Gives slot state) in_it so_far = so_far
          in_stage Opens in_it so_far = absurd (cc)
          in_stage Behind in_it so_far = absurd (cc)
      returning_next (later, Done ending) to stage in_it so_far = absurd (let both = ap is_returning stage ∙ in_it in cc)

      -- and once that is over
      opening_next : (next : Job × Next Ending) → stage_now (told next).0 ≡ Opens
          → ReturnsSoFar g (words_before M mix env events) None all → UndoesNext next
      opening_next (later, Go) stage so_far = λ not_past.
          let opens = opening_job later stage in
          inr (subst (λ s. UndoesInStage s later all) (sym stage)
          (subst (λ j. Undoes g (words_before M mix env events) c (call_of j) (held_of j) all) (sym opens)
          (record {
            even = λ place bit low.
                let same : work_bit g true place bit ≡ held_bits g c (held_of (works works_at.Opening)) place bit = omega arith in
                inr (subst (IsBalanced g (words_before M mix env events) Work None place bit all) same (so_far place bit low));
            node_in = λ n is. absurd (cc);
            slot_in = λ s is. absurd (cc);
            pages_in = λ page i. absurd i;
            took = λ page i. absurd i;
          })))
      opening_next (later, Done ending) stage so_far = absurd (cc)

      undoes_next : (from to : Stage) → GoesTo g did.old from to → stage_of job ≡ from → stage_now (told (job_after mix env job did.old)).0 ≡ to
          → UndoesInStage from job steps → StandsInStage g (words_before M mix env events) from steps did.old
          → UndoesNext (job_after mix env job did.old)
      undoes_next _ _ (takes_lock free) is then was stands =
          returning_next (job_after mix env job did.old) Asks then refl
          (takes_so mix env (words_before M mix env events) job steps did performs rests is free was)
      undoes_next _ _ lock_taken is then was stands =
          let nothing = ap held_of (lock_job job is) in
          behind_next (job_after mix env job did.old) (same_call mix env job did.old) then
          (undoes (ap is_returning is)
          (subst (λ h. Undoes g (words_before M mix env events) c (call_of job) h steps) (sym nothing)
          (subst (λ ds. Undoes g (words_before M mix env events) c (call_of job) (held_of (works works_at.WorkLock)) ds) (sym was)
          (nothing_undone (call_of job)))))
      undoes_next _ _ opened is then was stands =
          behind_next (job_after mix env job did.old) (same_call mix env job did.old) then (undoes (ap is_returning is) was)
      undoes_next _ _ stays is then was stands =
          behind_next (job_after mix env job did.old) (same_call mix env job did.old) then (undoes (ap is_returning is) was)
      undoes_next _ _ asks_on is then was stands =
          returning_next (job_after mix env job did.old) Asks then refl
          (returns_goes mix env (words_before M mix env events) job steps did performs rests Asks Asks asks_on is refl stands was)
      undoes_next _ _ (to_shape slot) is then was stands =
          returning_next (job_after mix env job did.old) (Loads slot) then refl
          (returns_goes mix env (words_before M mix env events) job steps did performs rests Asks (Loads slot) (to_shape slot) is refl stands was)
      undoes_next _ _ asked_all is then was stands =
          opening_next (job_after mix env job did.old) then
          (returns_goes mix env (words_before M mix env events) job steps did performs rests Asks Opens asked_all is refl stands was)
      undoes_next _ _ (loaded slot) is then was stands =
          let to = Gives slot (shape_seen g did.old) in
          returning_next (job_after mix env job did.old) to then refl
          (returns_goes mix env (words_before M mix env events) job steps did performs rests (Loads slot) to (loaded slot) is refl stands was)
      undoes_next _ _ (gives_on slot state other) is then was stands =
          let to = Gives slot (give_table_after_at g state did.old).0 in
          returning_next (job_after mix env job did.old) to then refl
          (returns_goes mix env (words_before M mix env events) job steps did performs rests (Gives slot state) to (gives_on slot state other) is
          refl stands was)
      undoes_next _ _ (freed slot) is then was stands =
          returning_next (job_after mix env job did.old) Asks then refl
          (returns_goes mix env (words_before M mix env events) job steps did performs rests (Gives slot free_slot) Asks (freed slot) is refl stands
          was)
      undoes_next _ _ (freed_last slot) is then was stands =
          opening_next (job_after mix env job did.old) then
          (returns_goes mix env (words_before M mix env events) job steps did performs rests (Gives slot free_slot) Opens (freed_last slot) is refl
          stands was)

      leads_on : Leads job all (job_after mix env job did.old)
      leads_on =
          by_next (job_after mix env job did.old) leaves
          (undoes_next (stage_of job) (stage_now (told (job_after mix env job did.old)).0)
          (stage_goes mix env performs.caller job did.old performs.within) refl refl kept.undoes giving)
          (stored_then performs.caller job steps did may (hard_rests mix env performs rests) kept.stored)

  -- ---- each operation, and the beginning

  pub goes : (job : Job) (steps : List Did) (did : Did) (performs : Performs mix env job did) → performs.over ≡ false → performs.caller ≡ c
      → performs.words ≡ words_before M mix env events did.index
      → StandsInStage g (words_before M mix env events) (stage_of job) steps did.old → CameToEnter g job steps → Going job steps
      → Leads job (steps ++ did ∷ []) (job_after mix env job did.old)
  goes job steps did performs rests own here giving came (inl past) = past-leads (steps ++ did ∷ []) job did performs past
  goes job steps did performs rests own here giving came (inr (inl says)) =
      change-leads (steps ++ did ∷ []) job (job_after mix env job did.old)
      (change_stays env.config.kind performs.caller (call_of job) _ _ _ _ (held_of job).answer
      (held_next (job_after mix env job did.old)).answer performs.step.says says)
  goes job steps did performs rests own here giving came (inr (inr kept)) = by_case (is_past job) refl
    where
      by_case : (t : Bool) → is_past job ≡ t → Leads job (steps ++ did ∷ []) (job_after mix env job did.old)
      by_case true past = past-leads (steps ++ did ∷ []) job did performs past
      by_case false may = leads_on job steps did may kept performs rests own here giving came

  first-stored : (call : Call) (batch : Option BatchModel) (start : ℕ) → IfSome (first_job env batch call start) (λ job. JobStored env job [])
  first-stored Tidy batch start = first_tidy-so (λ job. JobStored env job []) batch (λ own. tt)
  first-stored _ batch start = tt

  first-undoes : (call : Call) (batch : Option BatchModel) (start : ℕ) → IfSome (first_job env batch call start) (λ job. UndoesInStage (stage_of job) job [])
  first-undoes Tidy batch start = first_tidy-so (λ job. UndoesInStage (stage_of job) job []) batch (λ own. nothing_undone Tidy)
  first-undoes Work batch start = refl
  first-undoes call batch start = nothing_undone call

  -- at first nothing is held, and nothing was turned
  pub begins : (call : Call) (job : Job) → IsFirstJob env call job → Going job []
  begins call job is = inr (inr (record {
    undoes = first-of (λ j. UndoesInStage (stage_of j) j []) env call job (first-undoes call) is;
    still = tt;
    stored = first-of (λ j. JobStored env j []) env call job (first-stored call) is;
  }))

  -- ---- the law

  -- behind an operation's event the words are as it left them
  words_behind : (did : Did) → IsRecorded M mix env events c did
      → words_before M mix env events (did.index + 1) ≡ applied (words_before M mix env events did.index) did.op
  words_behind did recorded =
      let w : World M = run_of mix env (take did.index events) in
      let next : did.index + 1 ≡ suc did.index = omega arith in
      ap (words_before M mix env events) next
      ∙ ap (λ (v : World M). v.core.words) (run_of-next M mix env events did.index (Steps c) recorded.event)
      ∙ step_words M mix w c did.op recorded.plan

  still-there : (steps : List Did) → AllByRecursion LeavesBindings steps → AllByRecursion (IsRecorded M mix env events c) steps
      → AllByRecursion (λ did. ¬ ChangesBindings M mix env events did) steps
  still-there [] leaves_all recorded = tt
  still-there (did ∷ steps) leaves_all recorded = (
    λ (port, differs).
        differs (sym (leaves_all.0 port) ∙ ap (λ ws. stands_for g ws port) (sym (words_behind did recorded.0))),
    still-there steps leaves_all.1 recorded.1,
  )

  each : IsAdmitted events → (calls : List Past) → AllByRecursion (IsEndedSo M mix env Going Undone) calls
      → AllByRecursion (IsPastCall M mix env events c) calls
      → AllByRecursion (λ past. changes_nothing past.done.call past.done.reply ≡ true → IsUndone M mix env events c past) calls
  each admitted [] ended were = tt
  each admitted (past ∷ calls) ended were = (
    λ nothing.
        let undone = ended.0 nothing in
        record {
          bindings = still-there past.steps undone.still were.0.steps;
          even = λ place bit within low. undone.even place bit low;
          section = section_left M mix env events c past were.0 admitted;
        },
    each admitted calls ended.1 were.1,
  )

pub refused : (M : Type 0) (mix : ℕ → ℕ → ℕ → ℕ) → Refused M mix
refused M mix env events c admitted =
    each M mix env events c admitted ((traced_of {M = M} mix env events).traces c).past
    (kept_beside M mix env events (JobSaw env c (words_before M mix env events) mix) (Going M mix env events c)
    (EndsSeen M mix env events c) (Undone M mix env events c) c
    (record { begins = first_job-saw M mix env events c; goes = job-leads M mix env events c })
    (record {
      begins = begins M mix env events c;
      goes = λ job steps did performs own stands saw kept.
          goes M mix env events c job steps did performs stands.rests own stands.now stands.giving
          (saw-came env c (words_before M mix env events) mix job steps saw) kept;
    }) admitted)
    (at_events M mix env events admitted c).past
