-- What look-ups know behind an event, each of its own port: a look-up's own load leads on from what it knows; and what it knows then, as what
-- it knows at an event of another caller or of none, outlives that event.
use Rattle.rht_callers.specs.Locals.{soft}
use Rattle.std.proofs.Common.{◌≡◌, ◌⊎◌, ℕ, ◌+◌, ◌<◌, ◌≤◌, Bool, true, false, List, [], ◌∷◌, ◌++◌, length, Option, Some, refl, sym, ◌∙◌, ap, subst, arith}
use Rattle.std.specs.Prelude.{IfSome}
use Rattle.std.specs.List.{AllByRecursion}
use Rattle.std.proofs.lemmas.List.{length_push}
use Rattle.rht_words.specs.declared.env.Env.{Env}
use Rattle.rht_words.specs.declared.config.Kind.{Kind}
use Rattle.rht_words.specs.declared.machine.Next.{Next}
use Rattle.rht_words.specs.declared.machine.Next.TheVariants.{Go, Done}
use Rattle.rht_words.specs.Operations.{old_of}
use Rattle.rht_words.proofs.EachElement.{AllByRecursion-push, AllByRecursion-weaker}
use Rattle.rht_words.specs.Standing.{Standing, stands_nowhere}
use Rattle.rht_model.specs.declared.history.Call.{Call}
use Rattle.rht_model.specs.declared.history.Call.TheVariants as calls
use Rattle.rht_model.specs.declared.history.Reply.{Reply}
use Rattle.rht_model.specs.Answers.{plain}
use Rattle.rht_model.specs.Endings.{Ending, ended_with, plain_ending}
use Rattle.rht_model.specs.Multimap.{Multimap}
use Rattle.rht_find.specs.Find.{plan_at, goes, says, after_at, IsFindAtIn}
use Rattle.rht_find.specs.FindBound.{find_bound}
use Rattle.rht_find.proofs.FindBounds.{within_bound}
use Rattle.rht_find.specs.FindStanding.{standing_of_find}
use Rattle.rht_find.specs.declared.find.FindAt.{FindAt}
use Rattle.rht_find.specs.declared.find.FindAt.TheVariants as at
use Rattle.rht_core.specs.declared.event.Event.{Event}
use Rattle.rht_grace.specs.Batch.{BatchModel}
use Rattle.rht_core.specs.Jobs.{Job, finds, held_of, first_job, job_of, job_plan, job_next, job_after, told, call_of}
use Rattle.rht_core.specs.Runs.{Core, local_of, world_step}
use Rattle.rht_core.specs.Standings.{standing, standing_with}
use Rattle.rht_core.specs.Traces.{Did, Past, Trace, Traced, trace_did, traces_after, traced_of, behind_call}
use Rattle.rht_core.specs.RunHistories.{bindings_behind}
use Rattle.rht_stands.specs.StandsFor.{stands_for}
use Rattle.rht_core.specs.Alone.{bindings_at}
use Rattle.rht_ghost.proofs.Theory.Reliance.{TablesStay}
use Rattle.rht_ghost.proofs.Theory.Wholes.{AreFrom}
use Rattle.rht_ghost.proofs.Theory.Ghosts.{Ghost}
use Rattle.rht_ghost.proofs.Theory.Steps.{mem, ghost_after, section_turns}
use Rattle.rht_ghost.proofs.Theory.Knowledge.{ReadsFrom}
use Rattle.rht_core.proofs.Events.Invariants.{Knows}
use Rattle.rht_core.proofs.Events.JobsOfCallers.{first_tidy-so, same_call}
use Rattle.rht_core.proofs.Machines.JobSteps.{JobIn}
use Rattle.rht_ghost.proofs.Theory.Answering.{IsSaidOn}
use Rattle.rht_core.proofs.Histories.Behind.{behind-more}
use Rattle.rht_core.proofs.Histories.CallerEntries.{IsSaid, said-more}
use Rattle.rht_core.proofs.Histories.FittingCallers.{end-is, end-next}
use Rattle.rht_core.proofs.Tracing.TracesAtEvents.{behind_steps-push}
use Rattle.rht_core.proofs.Finding.PlacesInRuns.{Placed, EventMakes, next, next_places}
use Rattle.rht_core.proofs.Finding.FoundSaid.{missing_said, missing_after, found_said}
use Rattle.rht_core.proofs.Finding.Lookups.{LookMeans, look_says, look_leads}
use Rattle.rht_core.proofs.Finding.LooksSeen.{look_seen}
use Rattle.rht_core.proofs.Finding.LookSteps.{IsSpent, spent_leads, spent_stays}
use Rattle.rht_core.proofs.Finding.ShapesOnce.{HasMet, AreOnce, met-once, met_leads, met_stays}
use Rattle.rht_core.proofs.Returning.Meeting.{MeetsRight}
use Rattle.rht_core.proofs.Returning.MetBySome.{met_by, IsApart}
use Rattle.rht_core.proofs.Returning.Readers.{Reader}
use Rattle.rht_core.proofs.Returning.WaitingEvents.{AllWait}

module _ (L : Type 0) (mix : ℕ → ℕ → ℕ → ℕ) (env : Env) where
  abbrev R : List Event → Traced L
  R events = traced_of mix env events

  abbrev kind : Kind
  kind = env.config.kind

  -- this answer of a look-up was right at an event of its call
  abbrev pub SaysOf : List Event → ℕ → ℕ → ℕ → Reply → Type 0
  SaysOf events c port begin reply = IsSaid L mix env events c (calls.Find port) begin (plain reply)

  -- A look-up that began there, has made these operations, and whose section has met these nodes, knows what it needs.
  pub record Looks (events : List Event) (core : Core L) (placed : Placed env mix L events core) (seen : ℕ → Bool) (c port begin : ℕ)
      (steps : List Did) (state : FindAt) : Type 0 where
    pub low : c < env.geometry.callers
    pub begun : begin < length events
    pub means : LookMeans env mix port seen (begin + 1) (SaysOf events c port begin) (mem env mix core.words) placed.ghost placed.places state
    pub spent : IsSpent env c placed.ghost state (length steps)
    pub met : HasMet env c placed.ghost state steps

  -- one that has ended took no more operations than the bound, loaded no slot's shape twice, and its answer was right at an event of it
  pub record HasLooked (events : List Event) (c port : ℕ) (past : Past) : Type 0 where
    pub short : length past.steps ≤ find_bound env
    pub once : AreOnce env c past.steps
    pub at : ℕ
    pub begun : past.begin ≤ at
    pub before : at < behind_call past
    pub so_far : at < length events
    pub said : IsSaidOn kind c (calls.Find port) (bindings_behind L mix env events (at + 1)) (plain past.done.reply)

  abbrev pub PastLooks : List Event → ℕ → Past → Type 0
  PastLooks events c past = (port : ℕ) → past.done.call ≡ calls.Find port → HasLooked events c port past

  module _ (events : List Event) (core : Core L) (placed : Placed env mix L events core) (seen : ℕ → Bool) (c : ℕ) where
    abbrev pub JobLooks : ℕ → List Did → Option Job → Type 0
    JobLooks begin steps (Some (finds port state)) = Looks events core placed seen c port begin steps state
    JobLooks begin steps _ = Unit {0}

    -- so it is of what the caller does, and of its calls that have ended
    pub record CallerLooks (trace : Trace) (job : Option Job) : Type 0 where
      pub past : AllByRecursion (PastLooks events c) trace.past
      pub now : JobLooks trace.begin trace.steps job

  -- the call is a look-up
  abbrev is_look : Call → Bool
  is_look (calls.Find port) = true
  is_look _ = false

  -- and of each caller, with what its section has met, and what is kept for the nodes that wait in its batch
  pub record AreLooking (events : List Event) (r : Traced L) : Type 0 where
    pub placed : Placed env mix L events r.world.core
    pub readers : ℕ → Reader
    pub meets : (c : ℕ) → c < env.geometry.callers → MeetsRight env mix L r.world.core placed.ghost c (readers c)
    pub looks : (c : ℕ) → CallerLooks events r.world.core placed (readers c).chains c (r.traces c)
        (job_of (local_of r.world.core c).doing)
    pub waits : AllWait env mix L r.world.core readers r.world.core

  -- Where a caller stands before and behind an event its section has met the node; what it has met some section has met; and it has met that
  -- still, or it stands nowhere. The tables in which it stands behind it aren't before one that is behind no table with which a section
  -- begins.
  pub record SeesOn (core core' : Core L) (G : Ghost) (met seen seen' : ℕ → Bool) (c : ℕ) : Type 0 where
    pub met_too : (n : ℕ) → seen n ≡ true → met n ≡ true
    pub stood : AllByRecursion (λ n. seen n ≡ true) (standing core c).nodes
    pub stands : AllByRecursion (λ n. seen n ≡ true) (standing core' c).nodes
    pub turns : (standing core' c ≡ stands_nowhere) ⊎ ((n : ℕ) → seen n ≡ true → seen' n ≡ true)
    pub tables : (low : ℕ) → ((d first : ℕ) → G.from d ≡ Some first → low ≤ first) → AreFrom low G (standing core' c).tables

  -- ---- one event more

  -- what some section has met, and which nodes none has met
  abbrev pub met_now : {events : List Event} {r : Traced L} → AreLooking events r → ℕ → Bool
  met_now looking = met_by looking.readers env.geometry.callers

  abbrev pub ApartNow : {events : List Event} {r : Traced L} → AreLooking events r → ℕ → Type 0
  ApartNow looking = IsApart env.geometry.callers looking.readers

  -- what an event makes, and what sections have met behind it
  pub record Turns (events : List Event) (event : Event) (looking : AreLooking events (R events)) : Type 0 where
    pub makes : EventMakes env mix L events (R events).world.core (world_step mix (R events).world event).core looking.placed
        (met_now looking) (ApartNow looking)
    pub then : ℕ → ℕ → Bool
    pub sees : (c : ℕ) → c < env.geometry.callers
        → SeesOn (R events).world.core (world_step mix (R events).world event).core looking.placed.ghost (met_now looking)
        (looking.readers c).chains (then c) c

  module _ (events : List Event) (event : Event) (looking : AreLooking events (R events)) (turn : Turns events event looking) where
    abbrev met : ℕ → Bool
    met = met_now looking

    abbrev Apart : ℕ → Type 0
    Apart = ApartNow looking

    abbrev makes : EventMakes env mix L events (R events).world.core (world_step mix (R events).world event).core looking.placed met Apart
    makes = turn.makes

    abbrev then : ℕ → ℕ → Bool
    then = turn.then

    abbrev r : Traced L
    r = R events

    abbrev core : Core L
    core = r.world.core

    abbrev core' : Core L
    core' = (world_step mix r.world event).core

    abbrev more : List Event
    more = events ++ event ∷ []

    abbrev placed : Placed env mix L events core
    placed = looking.placed

    abbrev stands : bindings_at L mix env events ≡ stands_for env.geometry core.words
    stands = end-is L mix env events

    abbrev pub placed' : Placed env mix L more core'
    placed' = next env mix L events event core core' (end-is L mix env events) placed met Apart makes

    abbrev pub LooksThen : ℕ → Trace → Option Job → Type 0
    LooksThen c trace job = CallerLooks more core' placed' (then c) c trace job

    abbrev seen : ℕ → ℕ → Bool
    seen c = (looking.readers c).chains

    longer : length more ≡ length events + 1
    longer = length_push events event

    abbrev tables : TablesStay env mix placed.ghost (ghost_after env mix makes.caller makes.move placed.ghost)
    tables = (next_places env mix L events event core core' stands placed met Apart makes).stay

    -- what a look-up knows behind the event, where it knew it before by answers as of the events with this one
    outlives : (c port begin : ℕ) (steps : List Did) → c < env.geometry.callers → begin < length events → (Says : Reply → Type 0)
        → ((reply : Reply) → Says reply → SaysOf more c port begin reply) → (state : FindAt)
        → job_of (local_of core' c).doing ≡ Some (finds port state)
        → LookMeans env mix port (seen c) (begin + 1) Says (mem env mix core.words) placed.ghost placed.places state
        → IsSpent env c placed.ghost state (length steps) → HasMet env c placed.ghost state steps
        → Looks more core' placed' (then c) c port begin steps state
    unfolding next
    outlives c port begin steps low begun Says said state does known spent met_then =
        let see = turn.sees c low in
        let turned = section_turns env mix makes.caller c makes.move (mem env mix core.words) placed.ghost makes.ready in
        let reads =
        subst (λ (K : Ghost). ReadsFrom (held_of (finds port state)).section (K.from c) K.current) makes.same
        (subst (λ job. Knows env mix c job (mem env mix core'.words) makes.ghost) does (makes.inv.each c)).knowing.only.reads in
        let is : standing core' c ≡ standing_of_find state = ap standing_with does in
        record {
          low = low;
          begun = omega (arith, longer, begun);
          means = look_seen env mix port (seen c) (then c) (begin + 1) (mem env mix core'.words) placed'.ghost placed'.places
              (SaysOf more c port begin) state
              (subst (λ at. (at ≡ stands_nowhere) ⊎ ((n : ℕ) → seen c n ≡ true → then c n ≡ true)) is see.turns)
              ((next_places env mix L events event core core' stands placed met Apart makes).looks port
              (seen c) (begin + 1) (omega (arith, begun)) Says (SaysOf more c port begin) said
              (missing_after env mix L events event core stands placed c port begin begun core'.words placed'.ghost makes.made.whole
              (end-next L mix env events event))
              see.met_too state (subst (λ at. AllByRecursion (λ n. seen c n ≡ true) at.nodes) is see.stands)
              (subst (λ (at : Standing). AreFrom tables.low placed.ghost at.tables) is (see.tables tables.low tables.sections)) known);
          spent = spent_stays env c mix port (seen c) (begin + 1) Says core.words placed.ghost placed.places placed.inv.whole placed'.ghost
              tables turned (length steps) state reads known spent;
          met = met_stays env c mix port core.words placed.ghost placed.inv.whole placed'.ghost tables turned state steps reads met_then;
        }

    said-later : (c port begin : ℕ) (reply : Reply) → SaysOf events c port begin reply → SaysOf more c port begin reply
    said-later c port begin reply said = said-more L mix env events event c (calls.Find port) begin (plain reply) said

    -- what a call that has ended was, it still was
    past-later : (c : ℕ) (past : Past) → PastLooks events c past → PastLooks more c past
    past-later c past looked port is =
        let had = looked port is in
        record {
          short = had.short;
          once = had.once;
          at = had.at;
          begun = had.begun;
          before = had.before;
          so_far = (let low = had.so_far in omega (arith, longer, low));
          said = subst (λ (b : Multimap). IsSaidOn kind c (calls.Find port) b (plain past.done.reply))
              (sym (behind-more L mix env events event (had.at + 1) (let low = had.so_far in omega (arith, low)))) had.said;
        }

    pub pasts-later : (c : ℕ) (pasts : List Past) → AllByRecursion (PastLooks events c) pasts
        → AllByRecursion (PastLooks more c) pasts
    pasts-later c pasts looked = AllByRecursion-weaker (PastLooks events c) (PastLooks more c) (past-later c) pasts looked

    -- an event of another caller, or of none
    stay : (c begin : ℕ) (steps : List Did) (job : Option Job) → job_of (local_of core' c).doing ≡ job
        → JobLooks events core placed (seen c) c begin steps job → JobLooks more core' placed' (then c) c begin steps job
    stay c begin steps (Some (finds port state)) does looks =
        outlives c port begin steps looks.low looks.begun (SaysOf events c port begin) (said-later c port begin) state does looks.means
        looks.spent looks.met
    stay c begin steps _ does looks = tt

    -- the look-up's own operation
    module _ (c port begin : ℕ) (steps : List Did) (state : FindAt) (looks : Looks events core placed (seen c) c port begin steps state)
        (within : IsFindAtIn env state) (is : job_of (local_of core c).doing ≡ Some (finds port state)) where
      abbrev old : ℕ
      old = old_of core.words (plan_at env c state)

      pub known_next : LookMeans env mix port (seen c) (begin + 1) (SaysOf more c port begin) (mem env mix core.words) placed.ghost placed.places
          (goes mix env port state old)
      known_next =
          look_leads env mix port (seen c) (begin + 1) (SaysOf more c port begin) (length events) core.words placed.ghost placed.places
          placed.inv.whole placed.right placed.deaths
          (missing_said env mix L events event core stands placed c port begin looks.begun)
          (λ m late key. found_said env mix L events event core stands placed c port begin looks.begun m key late)
          c state within
          (subst (λ at. AllByRecursion (λ n. seen c n ≡ true) at.nodes) (ap standing_with is) (turn.sees c looks.low).stood)
          (look_says env mix port (seen c) (begin + 1) (SaysOf events c port begin) (SaysOf more c port begin) (said-later c port begin)
          (mem env mix core.words) placed.ghost placed.places state looks.means)

      -- as it loads the current table its section comes to the tables that are used then
      reads_current : state ≡ at.CurrentTable → ReadsFrom true (placed.ghost.from c) placed.ghost.current
      reads_current e =
          subst (λ s. ReadsFrom (held_of (finds port s)).section (placed.ghost.from c) placed.ghost.current) e
          (subst (λ job. Knows env mix c job (mem env mix core.words) placed.ghost) is (placed.inv.each c)).knowing.only.reads

      pub goes_on : (over : Bool) (did : Did) → did.op ≡ soft over (plan_at env c state) → says state ≡ Go
          → job_of (local_of core' c).doing ≡ Some (finds port (goes mix env port state old))
          → Looks more core' placed' (then c) c port begin (steps ++ did ∷ []) (goes mix env port state old)
      goes_on over did planned still does =
          outlives c port begin (steps ++ did ∷ []) looks.low looks.begun (SaysOf more c port begin) (λ reply said. said)
          (goes mix env port state old) does known_next
          (subst (IsSpent env c placed.ghost (goes mix env port state old)) (sym (length_push steps did))
          (spent_leads env c mix port (seen c) (begin + 1) (SaysOf events c port begin) core.words placed.ghost placed.places
          placed.inv.whole c (length steps) state still within looks.means looks.spent reads_current))
          (met_leads env c mix port core.words placed.ghost placed.inv.whole c over state steps did within planned looks.met reads_current)

      -- with one operation more it has loaded no slot's shape twice still
      pub once_more : (over : Bool) (did : Did) → did.op ≡ soft over (plan_at env c state) → AreOnce env c (steps ++ did ∷ [])
      once_more over did planned =
          met-once env c placed.ghost (goes mix env port state old) (steps ++ did ∷ [])
          (met_leads env c mix port core.words placed.ghost placed.inv.whole c over state steps did within planned looks.met reads_current)

    -- behind the last one it has ended
    ends_with : (c port begin : ℕ) (steps : List Did) (state : FindAt) (reply : Reply) → says state ≡ Done reply
        → Looks events core placed (seen c) c port begin steps state
        → SaysOf events c port begin reply × (length steps + 1 ≤ find_bound env)
    ends_with c port begin steps (at.Closing told) reply is looks =
        let same : told ≡ reply = cc in (subst (SaysOf events c port begin) same looks.means, within_bound env (length steps) looks.spent)
    ends_with c port begin steps _ reply is looks = absurd (cc)

    -- a call that is no look-up goes on as none
    other-looks : (c begin : ℕ) (steps : List Did) (after : Job × Next Ending) → is_look (call_of after.0) ≡ false
        → JobLooks more core' placed' (then c) c begin steps (told after).0
    other-looks c begin steps (finds port state, Go) other = absurd (cc)
    other-looks c begin steps (_, Go) other = tt
    other-looks c begin steps (job, Done ending) other = tt

    -- the operation of a caller, which was the next event
    module _ (c : ℕ) (trace : Trace) (did : Did) (index : did.index ≡ length events) where
      abbrev trace_then : Job → Job × Next Ending → Trace
      trace_then job next = trace_did (Some (call_of job)) did (told next).1 trace

      -- the calls of another kind
      other-then : (job : Job) (after : Job × Next Ending) → is_look (call_of job) ≡ false → call_of after.0 ≡ call_of job
          → AllByRecursion (PastLooks events c) trace.past → LooksThen c (trace_then job after) (told after).0
      other-then job (next, Go) other same looked = record {
        past = pasts-later c trace.past looked;
        now = other-looks c trace.begin (trace.steps ++ did ∷ []) (next, Go) (ap is_look same ∙ other);
      }
      other-then job (next, Done ending) other same looked = record {
        past = AllByRecursion-push (PastLooks more c) trace.past _ (pasts-later c trace.past looked)
            (λ port is. absurd (let both : false ≡ true = sym other ∙ ap is_look is in cc));
        now = tt;
      }

      -- a look-up
      find-then : (port : ℕ) (state : FindAt) (after : FindAt × Next Reply) → IsFindAtIn env state
          → (looks : Looks events core placed (seen c) c port trace.begin trace.steps state)
          → (after.1 ≡ Go → Looks more core' placed' (then c) c port trace.begin (trace.steps ++ did ∷ []) after.0)
          → AreOnce env c (trace.steps ++ did ∷ []) → says state ≡ after.1 → AllByRecursion (PastLooks events c) trace.past
          → LooksThen c (trace_then (finds port state) (job_next (finds port) plain_ending after))
          (told (job_next (finds port) plain_ending after)).0
      find-then port state (next, Go) within looks goes once is looked = record {
        past = pasts-later c trace.past looked;
        now = goes refl;
      }
      find-then port state (next, Done reply) within looks goes once is looked =
          let ended = ends_with c port trace.begin trace.steps state reply is looks in
          let at = ended.0.at in
          let early = ended.0.so_far in
          record {
            past = AllByRecursion-push (PastLooks more c) trace.past _ (pasts-later c trace.past looked) (λ asked same.
                let port_is : port ≡ asked = cc in
                subst (λ k. HasLooked more c k (record {
                  done = ended_with (calls.Find port) (plain_ending reply);
                  begin = trace.begin;
                  steps = trace.steps ++ did ∷ [];
                })) port_is (record {
                  short = (let few = ended.1 in omega (arith, few, length_push trace.steps did));
                  once = once;
                  at = at;
                  begun = ended.0.begun;
                  before = omega (arith, early, index, behind_steps-push (trace.begin + 1) trace.steps did);
                  so_far = omega (arith, longer, early);
                  said = subst (λ (b : Multimap). IsSaidOn kind c (calls.Find port) b (plain reply))
                      (sym (behind-more L mix env events event (at + 1) (omega (arith, early)))) ended.0.said;
                }));
            now = tt;
          }

      pub own : (over : Bool) (job : Job) → job_of (local_of core c).doing ≡ Some job → JobIn env mix c job → AllByRecursion (PastLooks events c) trace.past
          → JobLooks events core placed (seen c) c trace.begin trace.steps (Some job) → did.op ≡ soft over (job_plan env c job)
          → let after = job_after mix env job (old_of core.words (job_plan env c job)) in
          job_of (local_of core' c).doing ≡ (told after).0
          → LooksThen c (trace_then job after) (told after).0
      own over (finds port state) is within looked looks planned does =
          let after = after_at mix env port state (old_of core.words (plan_at env c state)) in
          find-then port state after within looks
          (λ goes. goes_on c port trace.begin trace.steps state looks within is over did planned goes
          (does ∙ ap (λ next. (told (job_next (finds port) plain_ending (after.0, next))).0) goes))
          (once_more c port trace.begin trace.steps state looks within is over did planned) refl looked
      own over job is within looked looks planned does =
          let old = old_of core.words (job_plan env c job) in
          other-then job (job_after mix env job old) refl (same_call mix env job old) looked

    -- a call begins
    pub first-looks : (c : ℕ) → c < env.geometry.callers → (call : Call) (batch : Option BatchModel) (start : ℕ)
        → IfSome (first_job env batch call start) (λ job. JobLooks more core' placed' (then c) c (length events) [] (Some job))
    first-looks c low (calls.Find port) batch start =
        record { low = low; begun = omega (arith, longer); means = tt; spent = omega arith; met = λ slot within. tt }
    first-looks c low (calls.Walk from limit) batch start = tt
    first-looks c low calls.Tidy batch start =
        first_tidy-so (λ job. JobLooks more core' placed' (then c) c (length events) [] (Some job)) batch (λ own. tt)
    first-looks c low _ batch start = tt

    -- the same by the trace and the job that a caller is found with
    pub found_with : (c : ℕ) (trace trace' : Trace) (job job' : Option Job) → trace' ≡ trace → job' ≡ job
        → LooksThen c trace job → LooksThen c trace' job'
    found_with c trace trace' job job' same does looks =
        subst (λ t. LooksThen c t job') (sym same) (subst (LooksThen c trace) (sym does) looks)

    -- who is as before knows it still
    pub as_before : (c : ℕ) → job_of (local_of core' c).doing ≡ job_of (local_of core c).doing
        → traces_after mix r event c ≡ r.traces c
        → LooksThen c (traces_after mix r event c) (job_of (local_of core' c).doing)
    as_before c does same =
        let looks = looking.looks c in
        found_with c (r.traces c) (traces_after mix r event c) (job_of (local_of core c).doing) (job_of (local_of core' c).doing)
        same does (record {
          past = pasts-later c (r.traces c).past looks.past;
          now = stay c (r.traces c).begin (r.traces c).steps (job_of (local_of core c).doing) does looks.now;
        })

    abbrev pub EachLooks : Type 0
    EachLooks = (c : ℕ) → LooksThen c (traces_after mix r event c) (job_of (local_of core' c).doing)
