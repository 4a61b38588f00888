-- A call in progress has raised the count of ports, or is to lower it, exactly where its operations so far show that the count is ahead
-- by it.
--
-- By induction over the operations: each makes the caller one that has raised the count, or ends that, or does neither (`StepsAhead`), and
-- shows so by itself. What the caller has raised its job says, and its trace has its operations.
use Rattle.std.proofs.Common.{◌≡◌, ◌≢◌, ◌⊎◌, ℕ, ◌+◌, Bool, true, false, List, [], ◌∷◌, ◌++◌, refl, sym, ap, ◌∙◌, subst, inl, inr, append_assoc, cond}
use Rattle.std.specs.Prelude.{Option, Some, None}
use Rattle.std.specs.List.{AllByRecursion}
use Rattle.rht_words.specs.declared.env.Env.{Env}
use Rattle.rht_words.specs.declared.machine.Next.{Next}
use Rattle.rht_words.specs.declared.machine.Next.TheVariants.{Go, Done}
use Rattle.rht_words.proofs.EachElement.{AllByRecursion-push, AllByRecursion-cut}
use Rattle.rht_words.proofs.Members.{count_below, In-AllByRecursion}
use Rattle.rht_words.specs.declared.config.Kind.{Kind}
use Rattle.rht_words.specs.declared.config.Kind.TheVariants.{Single, Listed}
use Rattle.rht_words.specs.Operations.{applied}
use Rattle.rht_words.specs.Held.{Held}
use Rattle.rht_model.specs.Endings.{Ending}
use Rattle.rht_model.specs.declared.history.Call.{Call}
use Rattle.rht_model.specs.declared.history.Call.TheVariants.{Bind, Release}
use Rattle.rht_release.specs.Seek.{seek_plan_at}
use Rattle.rht_core.specs.declared.event.Event.{Event}
use Rattle.rht_core.specs.Jobs.{Job, binds, releases, job_of, call_of, job_after, held_of}
use Rattle.rht_core.specs.Runs.{World, IsAdmitted, local_of, run_of}
use Rattle.rht_core.specs.Traces.{Did, traced_of}
use Rattle.rht_core.specs.Seen.{words_before}
use Rattle.rht_core.specs.Causes.{IsRaise, IsLowering}
use Rattle.rht_core.specs.Counts.{GivesFirst, TakesLast, IsAhead, IsAheadBy, AreAhead}
use Rattle.rht_model.specs.Answers.{Answer, owners_bound, bindings_after, is_refusal}
use Rattle.rht_model.specs.Multimap.{Multimap, same_port}
use Rattle.rht_words.specs.declared.op.Op.TheVariants.{Add}
use Rattle.rht_words.specs.declared.geometry.Geometry.{Geometry}
use Rattle.rht_words.specs.Places.{PortCount, place_of}
use Rattle.rht_release.specs.Release.{plan_at}
use Rattle.rht_release.specs.declared.release.ReleaseAt.{ReleaseAt}
use Rattle.rht_release.specs.declared.release.ReleaseAt.TheVariants as at
use Rattle.rht_release.specs.ListSearch.{search_plan}
use Rattle.rht_release.specs.declared.list_search.ListSearch.{ListSearch}
use Rattle.rht_release.specs.declared.list_search.ListSearch.TheVariants as searches
use Rattle.rht_release.specs.declared.seek.SeekAt.{SeekAt}
use Rattle.rht_release.specs.declared.seek.SeekAt.TheVariants as seeks
use Rattle.rht_ghost.proofs.Theory.Answering.{Says}
use Rattle.rht_ghost.proofs.Theory.Steps.{by_test}
use Rattle.rht_core.proofs.Meaning.BoundPorts.{stands_for_bound}
use Rattle.rht_core.proofs.Events.JobsOfCallers.{same_call, first_holds}
use Rattle.rht_core.proofs.Reasons.UnraisedBinds.{turning-none, locate-none, probe-none, relink-none}
use Rattle.rht_stands.specs.StandsFor.{stands_for}
use Rattle.rht_core.proofs.Machines.JobSteps.{JobStepOf}
use Rattle.rht_core.proofs.Machines.NeverHeld.{IsUnraised, job-unraised}
use Rattle.rht_core.proofs.Tracing.TracedJobs.{step_rests, hard, Performs, StandsIn, LeadsOn, IsAtJob, jobs_keep_standing}
use Rattle.rht_core.proofs.Tracing.TracedRuns.{world-traced_of}
use Rattle.rht_core.proofs.Counting.NumbersBelow.{having, having-length, having-among, having-distinct, having-in, having-out}
use Rattle.rht_core.proofs.Counting.RaisingCallers.{raised_by, is_raising}
use Rattle.rht_core.proofs.Counting.StepsAhead.{Turns, turned}

-- ---- one more operation

-- one of some operations is the last, or stands before it
abbrev IsCutAt : List Did → Did → List Did → Did → List Did → Type 0
IsCutAt steps last before at behind =
    ((behind ≡ []) × (at ≡ last)) ⊎ ((rest : List Did) × (behind ≡ rest ++ last ∷ []) × (steps ≡ before ++ at ∷ rest))

cut_at : (steps : List Did) (last : Did) (before : List Did) (at : Did) (behind : List Did)
    → steps ++ last ∷ [] ≡ before ++ at ∷ behind → IsCutAt steps last before at behind
cut_at [] last [] at behind is = inl (cc, cc)
cut_at [] last (x ∷ []) at behind is = absurd (cc)
cut_at [] last (x ∷ y ∷ before) at behind is = absurd (cc)
cut_at (x ∷ steps) last [] at behind is = inr (steps, cc, cc)
cut_at (x ∷ steps) last (y ∷ before) at behind is =
    let head : x ≡ y = cc in
    let tail : steps ++ last ∷ [] ≡ before ++ at ∷ behind = cc in
    elim (cut_at steps last before at behind tail) [
      | inl ends ↦ inl ends
      | inr (rest, of, split) ↦ inr (rest, of, ap (λ l. x ∷ l) split ∙ ap (λ z. z ∷ before ++ at ∷ rest) head)
    ]

-- ---- what binds and releases don't do

-- a port that a bind leaves without owners had none
bound-some : (kind : Kind) (owner : ℕ) (owners : List ℕ) → owners_bound kind owner owners ≢ []
bound-some Single owner [] none = cc
bound-some Single owner (first ∷ others) none = cc
bound-some Listed owner owners none = cc

bind-keeps : (kind : Kind) (c port owner : ℕ) (once : Bool) (early : Option Answer) (There : Type 0) (before after : Multimap)
    (was now : Option Answer)
    → Says kind c (Bind port owner once) early There before after was now → (p : ℕ) → after p ≡ [] → before p ≡ []
bind-keeps kind c port owner once early There before after was now (inl still) p none = sym (still.agree p) ∙ none
bind-keeps kind c port owner once early There before after was now (inr changes) p none =
    by_test (λ t. (cond {A = Multimap} t before (bindings_after kind before (Bind port owner once))) p ≡ [] → before p ≡ [])
    (is_refusal changes.answer.reply)
    (λ t left. left)
    (λ f.
    by_test (λ t. cond t (owners_bound kind owner (before port)) (before p) ≡ [] → before p ≡ []) (same_port p port)
    (λ t left. absurd (bound-some kind owner (before port) left)) (λ other left. left))
    (sym (changes.bindings p) ∙ none)

-- no operation of a release adds to the count
release-none : (g : Geometry) (env : Env) (c : ℕ) (state : ReleaseAt) → plan_at env c state ≢ Add (place_of g PortCount) 1
release-none g env c at.Opening is = turning-none g c is
release-none g env c (at.Closing reply removed) is = turning-none g c is
release-none g env c (at.Seeking seek) is = seek-none seek.geometry seek.at is
  where
    seek-none : (h : Geometry) (state : SeekAt) → seek_plan_at h state ≢ Add (place_of g PortCount) 1
    seek-none h (seeks.Locating locate) is = locate-none g locate.geometry locate.table locate.at is
    seek-none h (seeks.Probing table shape probe) is = probe-none g probe.at is
    seek-none h _ is = cc
release-none g env c (at.Searching found search) is = search-none env.geometry search is
  where
    search-none : (h : Geometry) (search : ListSearch) → search_plan h search ≢ Add (place_of g PortCount) 1
    search-none h (searches.Owner node before) is = cc
    search-none h (searches.ListLink node) is = cc
release-none g env c (at.Promoting found relink) is = relink-none g relink relink.at is
release-none g env c (at.Unlinking found relink) is = relink-none g relink relink.at is
release-none g env c _ is = cc

module _ (M : Type 0) (mix : ℕ → ℕ → ℕ → ℕ) (env : Env) (events : List Event) where
  -- the words before the event with each number
  abbrev words_at : ℕ → List ℕ
  words_at = words_before M mix env events

  abbrev Leads : Did → Type 0
  Leads did = IsRaise env.geometry did ⊎ TakesLast M mix env events did

  abbrev Ahead : List Did → Type 0
  Ahead steps = IsAhead M mix env events Leads steps

  abbrev Falls : Did → Type 0
  Falls did = IsLowering env.geometry did ⊎ GivesFirst M mix env events did

  -- what the operations show of a caller that has raised the count, and of one that hasn't
  abbrev Shows : Bool → List Did → Type 0
  Shows true steps = Ahead steps
  Shows false steps = Ahead steps → ⊥

  -- no operations show none
  none_ahead : Ahead [] → ⊥
  none_ahead is = go is.before is.split
    where
      go : (before : List Did) → [] ≡ before ++ is.at ∷ is.behind → ⊥
      go [] split = cc
      go (x ∷ before) split = cc

  -- an operation turns the caller so, by what is bound before its event and behind it
  abbrev TurnsAt : Did → Bool → Bool → Type 0
  TurnsAt did was now =
      Turns env did.op (stands_for env.geometry (words_at did.index)) (stands_for env.geometry (words_at (did.index + 1))) was now

  module _ (steps : List Did) (did : Did) where
    abbrev all : List Did
    all = steps ++ did ∷ []

    -- where the count is ahead, it was so before, or is so by this operation
    ahead_of : Ahead all → (Leads did ⊎ (Ahead steps × (Falls did → ⊥)))
    ahead_of is = elim (cut_at steps did is.before is.at is.behind is.split) [
      | inl ends ↦ inl (subst Leads ends.1 is.leads)
      | inr (rest, of, split) ↦
          let still = AllByRecursion-cut (λ d. Falls d → ⊥) rest (did ∷ []) (subst (AllByRecursion (λ d. Falls d → ⊥)) of is.still) in
          inr (
            record { before = is.before; at = is.at; behind = rest; split = split; leads = is.leads; still = still.0 },
            still.1.0,
          )
    ]

    shows-push : (was now : Bool) → TurnsAt did was now → Shows was steps → Shows now all
    shows-push was now (inl goes) shows =
        subst (λ b. Shows b all) (sym goes.after_is)
        (record { before = steps; at = did; behind = []; split = refl; leads = goes.by; still = tt })
    shows-push was now (inr (inl falls)) shows =
        subst (λ b. Shows b all) (sym falls.after_is)
        (λ is. elim (ahead_of is) [ inl here ↦ falls.not here | inr before ↦ before.1 falls.by ])
    shows-push was now (inr (inr stays)) shows = subst (λ b. Shows b all) (sym stays.same) (go was shows)
      where
        go : (before : Bool) → Shows before steps → Shows before all
        go true is = record {
          before = is.before;
          at = is.at;
          behind = is.behind ++ did ∷ [];
          split = ap (λ l. l ++ did ∷ []) is.split ∙ append_assoc is.before (is.at ∷ is.behind) (did ∷ []);
          leads = is.leads;
          still = AllByRecursion-push (λ d. Falls d → ⊥) is.behind did is.still stays.back;
        }
        go false none = λ is. elim (ahead_of is) [ inl here ↦ stays.ahead here | inr before ↦ none before.0 ]

  -- ---- calls

  -- a bind takes no port's last owner, and a release doesn't raise the count
  abbrev Keeps : Call → Did → Type 0
  Keeps (Bind port owner once) did = TakesLast M mix env events did → ⊥
  Keeps (Release port owner) did = IsRaise env.geometry did → ⊥
  Keeps _ did = Unit {0}

  job_keeps : (job : Job) (steps : List Did) (did : Did) (performs : Performs mix env job did)
      → StandsIn mix env words_at job steps did performs
      → Keeps (call_of job) did
  job_keeps (binds port owner once state) steps did performs stands = λ last.
      let (p, some, none) = last in
      let before = stands_for_bound env mix performs.words performs.ghost performs.whole p in
      let after = stands_for_bound env mix (applied performs.words did.op) _ performs.step.made.whole p in
      some (subst (λ ws. stands_for env.geometry ws p ≡ []) stands.now
      (before ∙ bind-keeps env.config.kind performs.caller port owner once _ _ _ _ _ _ performs.step.says p
      (sym after ∙ subst (λ ws. stands_for env.geometry ws p ≡ []) (sym stands.next) none)))
  job_keeps (releases port owner state) steps did performs stands = λ raise.
      release-none env.geometry env performs.caller state (sym (hard mix env refl performs) ∙ raise)
  job_keeps _ steps did performs stands = tt

  -- ---- jobs

  record JobShows (job : Job) (steps : List Did) : Type 0 where
    shows : Shows (held_of job).raised steps
    keeps : AllByRecursion (Keeps (call_of job)) steps

  -- of a call that has ended nothing is kept
  abbrev NothingOfEnded : Call → Ending → List Did → Type 0
  NothingOfEnded call ending steps = Unit {0}

  job_goes : (job : Job) (steps : List Did) (did : Did) (performs : Performs mix env job did)
      → StandsIn mix env words_at job steps did performs → JobShows job steps
      → LeadsOn M mix env JobShows NothingOfEnded job (steps ++ did ∷ []) (job_after mix env job did.old)
  job_goes job steps did performs stands so_far =
      go (job_after mix env job did.old) (same_call mix env job did.old) (step_rests mix env performs stands.rests)
    where
      holds : performs.ghost.raised performs.caller ≡ (held_of job).raised
      holds = performs.knows.knowing.only.raising

      go : (r : Job × Next Ending) → call_of r.0 ≡ call_of job
          → JobStepOf env mix performs.caller performs.words performs.ghost did.op job r
          → LeadsOn M mix env JobShows NothingOfEnded job (steps ++ did ∷ []) r
      go (after, Done ending) same step = tt
      go (after, Go) same step =
          let turns = turned env mix performs.caller performs.words performs.ghost did.op (held_of job) (held_of after)
          performs.all performs.whole performs.low holds step.move step.ready step.made.whole step.does in
          record {
            shows =
                shows-push steps did (held_of job).raised (held_of after).raised
                (subst (λ ws. Turns env did.op (stands_for env.geometry ws) (stands_for env.geometry (words_at (did.index + 1)))
                (held_of job).raised (held_of after).raised) stands.now
                (subst (λ ws. Turns env did.op (stands_for env.geometry performs.words) (stands_for env.geometry ws)
                (held_of job).raised (held_of after).raised) stands.next
                (subst (λ b. Turns env did.op (stands_for env.geometry performs.words)
                (stands_for env.geometry (applied performs.words did.op)) b (held_of after).raised) holds
                (subst (λ b. Turns env did.op (stands_for env.geometry performs.words)
                (stands_for env.geometry (applied performs.words did.op)) (performs.ghost.raised performs.caller) b)
                step.knows.knowing.only.raising turns)))) so_far.shows;
            keeps = subst (λ asked. AllByRecursion (Keeps asked) (steps ++ did ∷ [])) (sym same)
                (AllByRecursion-push (Keeps (call_of job)) steps did so_far.keeps (job_keeps job steps did performs stands));
          }

  -- ---- callers

  module _ (admitted : IsAdmitted events) where
    abbrev w : World M
    w = run_of mix env events

    abbrev steps_of : ℕ → List Did
    steps_of c = ((traced_of {M = M} mix env events).traces c).steps

    at_job : (c : ℕ) → IsAtJob M mix env JobShows NothingOfEnded (job_of (local_of w.core c).doing) (w.books c) (steps_of c)
    at_job c =
        subst (λ (v : World M). IsAtJob M mix env JobShows NothingOfEnded (job_of (local_of v.core c).doing) (v.books c) (steps_of c))
        (world-traced_of M mix env events)
        (jobs_keep_standing M mix env JobShows NothingOfEnded events record {
          begins = λ call job is.
              record { shows = subst (λ (h : Held Answer). Shows h.raised []) (sym (first_holds env call job is)) none_ahead; keeps = tt };
          goes = job_goes;
        } c admitted).now

    -- by the same operation
    narrowed : (steps : List Did) {Wide : Did → Type 0} (Narrow : Did → Type 0) (is : IsAhead M mix env events Wide steps)
        → Narrow is.at → IsAhead M mix env events Narrow steps
    narrowed steps Narrow is leads = record {
      before = is.before;
      at = is.at;
      behind = is.behind;
      split = is.split;
      leads = leads;
      still = is.still;
    }

    kept-at : (Kept : Did → Type 0) (steps : List Did) (is : Ahead steps) → AllByRecursion Kept steps → Kept is.at
    kept-at Kept steps is keeps =
        (AllByRecursion-cut Kept is.before (is.at ∷ is.behind) (subst (AllByRecursion Kept) is.split keeps)).1.0

    -- by whoever has raised the count it is ahead, and by no other call
    raised-ahead : (c : ℕ) → is_raising (local_of w.core c).doing ≡ true → IsAheadBy M mix env events c
    raised-ahead c is = go (job_of (local_of w.core c).doing) is (at_job c)
      where
        led : (call : Call) → (w.books c).call ≡ Some call → Ahead (steps_of c) → AllByRecursion (Keeps call) (steps_of c)
            → IsUnraised call true → IsAheadBy M mix env events c
        led (Bind port owner once) is_call is keeps may =
            inl (
              port,
              owner,
              once,
              is_call,
              narrowed (steps_of c) (IsRaise env.geometry) is
                  (elim is.leads [
                    | inl raise ↦ raise
                    | inr last ↦ absurd (kept-at (λ did. TakesLast M mix env events did → ⊥) (steps_of c) is keeps last)
                  ]),
            )
        led (Release port owner) is_call is keeps may =
            inr (
              port,
              owner,
              is_call,
              narrowed (steps_of c) (TakesLast M mix env events) is
                  (elim is.leads [
                    | inl raise ↦ absurd (kept-at (λ did. IsRaise env.geometry did → ⊥) (steps_of c) is keeps raise)
                    | inr last ↦ last
                  ]),
            )
        led _ is_call is keeps may = absurd (cc)

        go : (job : Option Job) → raised_by job ≡ true → IsAtJob M mix env JobShows NothingOfEnded job (w.books c) (steps_of c)
            → IsAheadBy M mix env events c
        go None raised at = absurd (cc)
        go (Some job) raised at =
            led (call_of job) at.call (subst (λ b. Shows b (steps_of c)) raised at.now.shows) at.now.keeps
            (subst (IsUnraised (call_of job)) raised (job-unraised job))

    ahead-raised : (c : ℕ) → IsAheadBy M mix env events c → is_raising (local_of w.core c).doing ≡ true
    ahead-raised c by = go (job_of (local_of w.core c).doing) (at_job c)
      where
        shown : (raised : Bool) → Shows raised (steps_of c) → raised ≡ true
        shown true shows = refl
        shown false shows = absurd (shows (elim by [
          | inl bind ↦ narrowed (steps_of c) Leads bind.4 (inl bind.4.leads)
          | inr release ↦ narrowed (steps_of c) Leads release.3 (inr release.3.leads)
        ]))

        go : (job : Option Job) → IsAtJob M mix env JobShows NothingOfEnded job (w.books c) (steps_of c) → raised_by job ≡ true
        go None at = elim by [
          | inl bind ↦ absurd (let both = sym at.call ∙ bind.3 in cc)
          | inr release ↦ absurd (let both = sym at.call ∙ release.2 in cc)
        ]
        go (Some job) at = shown (held_of job).raised at.now.shows

    -- so they are as many
    pub are_ahead : AreAhead M mix env events (count_below (λ c. is_raising (local_of w.core c).doing) env.geometry.callers)
    are_ahead =
        let has : ℕ → Bool = λ c. is_raising (local_of w.core c).doing in
        let callers = having has env.geometry.callers in
        record {
          callers = callers;
          distinct = having-distinct has env.geometry.callers;
          among = having-among has env.geometry.callers;
          each = In-AllByRecursion (IsAheadBy M mix env events) callers (λ c i. raised-ahead c (having-out has env.geometry.callers c i));
          only = λ c low by. having-in has env.geometry.callers c low (ahead-raised c by);
          many = having-length has env.geometry.callers;
        }
