-- A walk that ends has walked as it answers; and what a walk that has ended did it still did behind an event.
use Rattle.rht_callers.specs.Locals.{soft}
use Rattle.std.proofs.Common.{◌≡◌, ℕ, ◌+◌, ◌<◌, ◌≤◌, nat_lt, Bool, true, false, List, [], ◌∷◌, ◌++◌, length, Option, Some, refl, sym, ◌∙◌, ap, subst, arith}
use Rattle.std.specs.Prelude.{IfSome}
use Rattle.std.specs.List.{AllByRecursion}
use Rattle.std.proofs.lemmas.Bool.{cond_both}
use Rattle.rht_words.specs.declared.env.Env.{Env}
use Rattle.rht_words.specs.declared.machine.Next.{Next}
use Rattle.rht_words.specs.declared.machine.Next.TheVariants.{Go, Done}
use Rattle.rht_words.specs.Operations.{old_of}
use Rattle.rht_words.proofs.EachElement.{AllByRecursion-push, AllByRecursion-weaker}
use Rattle.rht_model.specs.declared.history.Call.{Call}
use Rattle.rht_model.specs.declared.history.Call.TheVariants as calls
use Rattle.rht_model.specs.declared.history.Cursor.{Cursor}
use Rattle.rht_model.specs.declared.history.Reply.{Reply}
use Rattle.rht_model.specs.declared.history.Reply.TheVariants.{Walked, Again, Found, Missing}
use Rattle.rht_model.specs.Endings.{Ending, ended_with}
use Rattle.rht_grace.specs.Batch.{BatchModel}
use Rattle.rht_walk.specs.Walk.{Pairs, plan_at, says, room_after}
use Rattle.rht_walk.specs.declared.walk.WalkEnd.TheVariants as ends
use Rattle.rht_walk.specs.declared.walk.WalkAt.{WalkAt}
use Rattle.rht_walk.specs.declared.walk.WalkAt.TheVariants as at
use Rattle.rht_core.specs.declared.event.Event.{Event}
use Rattle.rht_core.specs.ListedOwners.{owners_loaded}
use Rattle.rht_core.specs.Jobs.{Job, walks, walk_ending, walk_gone, first_job, job_of, job_plan, job_next, job_after, told, call_of}
use Rattle.rht_core.specs.RunHistories.{bindings_behind}
use Rattle.rht_core.specs.Runs.{local_of, world_step}
use Rattle.rht_core.specs.Traces.{Did, Past, Trace, trace_did, behind_call}
use Rattle.rht_ghost.proofs.Theory.Steps.{mem}
use Rattle.rht_core.proofs.Events.JobsOfCallers.{first_tidy-so, same_call}
use Rattle.rht_core.proofs.Histories.Behind.{behind-more}
use Rattle.rht_core.proofs.Machines.JobSteps.{JobIn}
use Rattle.rht_core.proofs.Tracing.TracesAtEvents.{behind_steps-push}
use Rattle.rht_core.proofs.Finding.LookupsAtEvents.{AreLooking, Turns, placed'}
use Rattle.rht_core.proofs.Finding.PlacesInRuns.{Placed, next}
use Rattle.rht_core.proofs.Returning.TiedJobs.{tied_with}
use Rattle.rht_core.proofs.Finding.PortPlaces.{PortPlacesRight}
use Rattle.rht_core.proofs.Walking.LoadedOwners.{loaded_next}
use Rattle.rht_core.proofs.Walking.OwnersLead.{loaded_after}
use Rattle.rht_core.proofs.Walking.WalkFacts.{HasWalkedTo}
use Rattle.rht_core.proofs.Walking.WalkOutlives.{walked_still}
use Rattle.rht_core.proofs.Walking.WalksAtEvents.{R, MissedOf, BoundOf, WasLast, AreCounted, Walks, IsMissedIn, IsBoundIn, HasWalked, PastWalks, JobWalks, CallerWalks, same_next, is_walk, owners_said, none_found, one_found, M, M', G', longer, tables, count', count_old, count_new, last_later, missed_later, bounds_later, then_places, outlives, goes_on}

-- a walk's room has room for as many as before
pub room_limit : (state : WalkAt) (room : Pairs) (word : ℕ) → (room_after state room word).limit ≡ room.limit
room_limit (at.Owner chain node port) room word =
    cond_both (nat_lt (length room.items) room.limit) _ _ (λ (r : Pairs). r.limit ≡ room.limit) (λ t. refl) (λ f. refl)
room_limit (at.Closing (ends.Walked to)) room word = refl
room_limit (at.Closing (ends.Again table)) room word = refl
room_limit _ room word = refl

module _ (L : Type 0) (mix : ℕ → ℕ → ℕ → ℕ) (env : Env) (events : List Event) (event : Event)
    (looking : AreLooking L mix env events (R L mix env events))
    (turn : Turns L mix env events event looking)
    (of_ports : PortPlacesRight env mix (mem env mix (R L mix env events).world.core.words) looking.placed.ghost looking.placed.places
    (length events))
    (count : ℕ → ℕ) (counted : AreCounted L mix env (length events) looking.placed.ghost count) where
  abbrev all_events : List Event
  all_events = events ++ event ∷ []

  abbrev here : ℕ
  here = length events

  abbrev placed_then : Placed env mix L all_events (world_step mix (R L mix env events).world event).core
  placed_then = placed' L mix env events event looking turn

  abbrev counts : ℕ → ℕ
  counts = count' L mix env events event looking turn of_ports count counted

  long : length all_events ≡ here + 1
  long = longer L mix env events event looking turn of_ports count counted

  -- what is true of the places of each port then
  pub ports_then : PortPlacesRight env mix (mem env mix (world_step mix (R L mix env events).world event).core.words) placed_then.ghost
      placed_then.places (length all_events)
  unfolding next
  ports_then =
      subst (PortPlacesRight env mix (M' L mix env events event looking turn of_ports count counted) placed_then.ghost placed_then.places)
      (sym long)
      ((then_places L mix env events event looking turn of_ports count counted).of_ports of_ports)

  -- ---- one that had ended

  missed_in : (begin behind behind' port : ℕ) → behind ≤ here → behind ≤ behind' → IsMissedIn L mix env events begin behind port
      → IsMissedIn L mix env all_events begin behind' port
  missed_in begin behind behind' port few most was = record {
    at = was.at;
    begun = was.begun;
    before = let before = was.before in omega (arith, before, most);
    none = ap (λ b. b port) (behind-more L mix env events event was.at (let before = was.before in omega (arith, before, few))) ∙ was.none;
  }

  bound_in : (begin behind : ℕ) (pair : ℕ × ℕ) → behind ≤ here → IsBoundIn L mix env events begin behind pair
      → IsBoundIn L mix env all_events begin behind pair
  bound_in begin behind pair few was = record {
    at = was.at;
    begun = was.begun;
    before = was.before;
    rest = was.rest;
    is = ap (λ b. b pair.0) (behind-more L mix env events event was.at (let before = was.before in omega (arith, before, few))) ∙ was.is;
  }

  past_later : (past : Past) → PastWalks L mix env events looking.placed.ghost count past
      → PastWalks L mix env all_events placed_then.ghost counts past
  unfolding next
  past_later past had from limit len to call reply =
      let was = had from limit len to call reply in
      let behind = behind_call past in
      let done_by = was.done_by in
      let same = count_old L mix env events event looking turn of_ports count counted behind done_by in
      let rises = counted.rises behind here done_by (omega arith) in
      let end = counted.at_end in
      record {
        done_by = omega (arith, long, done_by);
        walked = walked_still env mix from past.begin here (IsMissedIn L mix env events past.begin behind)
            (WasLast L mix env count past.begin behind)
            (IsMissedIn L mix env all_events past.begin behind) (WasLast L mix env counts past.begin behind)
            (λ port. missed_in past.begin behind behind port done_by (omega arith))
            (λ τ. last_later L mix env events event looking turn of_ports count counted past.begin behind τ done_by behind (omega arith))
            past.done.pairs (M L mix env events event looking turn of_ports count counted) looking.placed.ghost looking.placed.places
            looking.placed.inv.whole
            (M' L mix env events event looking turn of_ports count counted) (G' L mix env events event looking turn of_ports count counted)
            (tables L mix env events event looking turn of_ports count counted).low
            (tables L mix env events event looking turn of_ports count counted).grow
            (count behind) (counts behind) (omega (arith, rises, end)) (omega (arith, same)) to was.walked;
        bound = AllByRecursion-weaker _ _ (λ pair. bound_in past.begin behind pair done_by) past.done.pairs was.bound;
        whole = was.whole;
      }

  pub pasts_later : (pasts : List Past) → AllByRecursion (PastWalks L mix env events looking.placed.ghost count) pasts
      → AllByRecursion (PastWalks L mix env all_events placed_then.ghost counts) pasts
  pasts_later pasts had = AllByRecursion-weaker _ _ past_later pasts had

  -- ---- one that ends

  module _ (c : ℕ) (from : Option Cursor) (begin : ℕ) (behind : ℕ) (ends_here : behind ≡ here + 1) where
    missed_by : (port : ℕ) → MissedOf L mix env events c begin port → IsMissedIn L mix env all_events begin behind port
    missed_by port said = record {
      at = said.at + 1;
      begun = let begun = said.begun in omega (arith, begun);
      before = let so_far = said.so_far in omega (arith, so_far, ends_here);
      none = ap (λ b. b port) (behind-more L mix env events event (said.at + 1) (let so_far = said.so_far in omega (arith, so_far)))
          ∙ none_found L mix env (bindings_behind L mix env events (said.at + 1) port)
          (owners_said L mix env events c port begin Missing said);
    }

    bound_by : (pair : ℕ × ℕ) → BoundOf L mix env events c begin pair → IsBoundIn L mix env all_events begin behind pair
    bound_by pair said =
        let had = one_found L mix env (bindings_behind L mix env events (said.at + 1) pair.0) pair.1
        (owners_said L mix env events c pair.0 begin (Found pair.1) said) in
        record {
          at = said.at + 1;
          begun = let begun = said.begun in omega (arith, begun);
          before = let so_far = said.so_far in omega (arith, so_far, ends_here);
          rest = had.0;
          is = ap (λ b. b pair.0) (behind-more L mix env events event (said.at + 1) (let so_far = said.so_far in omega (arith, so_far))) ∙
              had.1;
        }

    ended_walk : (items : List (ℕ × ℕ)) (to : Option Cursor)
        → HasWalkedTo env mix looking.placed.ghost looking.placed.ghost.attached from (MissedOf L mix env events c begin)
        (WasLast L mix env count begin here) items to
        → HasWalkedTo env mix placed_then.ghost (counts behind) from (IsMissedIn L mix env all_events begin behind)
        (WasLast L mix env counts begin behind) items to
    unfolding next
    ended_walk items to walked =
        let all = count_new L mix env events event looking turn of_ports count counted behind (omega (arith, ends_here)) in
        let grown = (tables L mix env events event looking turn of_ports count counted).grow.attached in
        walked_still env mix from begin here (MissedOf L mix env events c begin) (WasLast L mix env count begin here)
        (IsMissedIn L mix env all_events begin behind) (WasLast L mix env counts begin behind) missed_by
        (λ τ. last_later L mix env events event looking turn of_ports count counted begin here τ (omega arith) behind
        (omega (arith, ends_here)))
        items (M L mix env events event looking turn of_ports count counted) looking.placed.ghost looking.placed.places
        looking.placed.inv.whole
        (M' L mix env events event looking turn of_ports count counted) (G' L mix env events event looking turn of_ports count counted)
        (tables L mix env events event looking turn of_ports count counted).low
        (tables L mix env events event looking turn of_ports count counted).grow
        looking.placed.ghost.attached (counts behind) (omega arith) (omega (arith, all, grown)) to walked

  -- ---- the operation of a caller, which was the next event

  abbrev pub WalksThen : ℕ → Trace → Option Job → Type 0
  WalksThen c trace job =
      CallerWalks L mix env all_events (world_step mix (R L mix env events).world event).core placed_then counts (turn.then c) c trace job

  module _ (c : ℕ) (trace : Trace) (did : Did) (index : did.index ≡ here) where
    abbrev trace_then : Job → Job × Next Ending → Trace
    trace_then job after = trace_did (Some (call_of job)) did (told after).1 trace

    -- the owners that its call has loaded, and those with what this operation loads
    abbrev loaded : List ℕ
    loaded = owners_loaded env.geometry trace.steps

    abbrev loaded_then : List ℕ
    loaded_then = owners_loaded env.geometry (trace.steps ++ did ∷ [])

    -- a call that is no walk goes on as none
    other_goes : (after : Job × Next Ending) → is_walk L mix env (call_of after.0) ≡ false
        → JobWalks L mix env all_events (world_step mix (R L mix env events).world event).core placed_then counts (turn.then c) c
        trace.begin loaded_then (told after).0
    other_goes (walks from limit room state, Go) other = absurd (cc)
    other_goes (_, Go) other = tt
    other_goes (job, Done ending) other = tt

    other_then : (job : Job) (after : Job × Next Ending) → is_walk L mix env (call_of job) ≡ false → call_of after.0 ≡ call_of job
        → AllByRecursion (PastWalks L mix env events looking.placed.ghost count) trace.past
        → WalksThen c (trace_then job after) (told after).0
    other_then job (next_job, Go) other same had = record {
      past = pasts_later trace.past had;
      now = other_goes (next_job, Go) (ap (is_walk L mix env) same ∙ other);
    }
    other_then job (next_job, Done ending) other same had = record {
      past = AllByRecursion-push _ trace.past _ (pasts_later trace.past had)
          (λ from limit len to is reply. absurd (let both : false ≡ true = sym other ∙ ap (is_walk L mix env) is in cc));
      now = tt;
    }

    -- the call that has ended now
    abbrev ended_now : Option Cursor → ℕ → Pairs → Reply → Past
    ended_now from limit after reply = record {
      done = ended_with (calls.Walk from limit) (walk_ending after reply);
      begin = trace.begin;
      steps = trace.steps ++ did ∷ [];
    }

    ends_here_is : (from : Option Cursor) (limit : ℕ) (after : Pairs) (reply : Reply)
        → behind_call (ended_now from limit after reply) ≡ here + 1
    ends_here_is from limit after reply = behind_steps-push (trace.begin + 1) trace.steps did ∙ ap (λ n. n + 1) index

    ends_so : (from : Option Cursor) (limit : ℕ) (room : Pairs) (state : WalkAt) (word : ℕ) (reply : Reply)
        → says (room_after state room word) state ≡ Done reply → loaded_after state loaded word ≡ loaded_then
        → Walks L mix env events (R L mix env events).world.core looking.placed count (looking.readers c).chains c from trace.begin loaded
        room state
        → PastWalks L mix env all_events placed_then.ghost counts (ended_now from limit (room_after state room word) reply)
    ends_so from limit room (at.Closing (ends.Walked next_is)) word reply is same walking = λ start most len to call answer.
        let from_is : from ≡ start = cc in
        let said : Walked (length room.items) next_is ≡ reply = cc in
        let to_is : next_is ≡ to = same_next (length room.items) len next_is to (said ∙ answer) in
        let behind_is = ends_here_is from limit room reply in
        subst (λ s. HasWalked L mix env all_events placed_then.ghost counts s (ended_now from limit room reply) to) from_is
        (record {
          done_by = omega (arith, behind_is, long);
          walked = ended_walk c from trace.begin (behind_call (ended_now from limit room reply)) behind_is room.items to
              (subst (λ t. HasWalkedTo env mix looking.placed.ghost looking.placed.ghost.attached from
              (MissedOf L mix env events c trace.begin) (WasLast L mix env count trace.begin here) room.items t) to_is walking.known);
          bound = AllByRecursion-weaker _ _ (bound_by c from trace.begin (behind_call (ended_now from limit room reply)) behind_is) room.items
              walking.bound;
          whole = walking.keeps ∙ same;
        })
    ends_so from limit room (at.Closing (ends.Again table)) word reply is same walking = λ start most len to call answer.
        absurd (let said : Again table ≡ reply = cc in let both = said ∙ answer in cc)
    ends_so from limit room _ word reply is same walking = absurd (cc)

    -- a walk
    walk_then : (from : Option Cursor) (limit : ℕ) (room : Pairs) (state : WalkAt) (word : ℕ) (after : WalkAt × Next Reply)
        → Walks L mix env events (R L mix env events).world.core looking.placed count (looking.readers c).chains c from trace.begin loaded
        room state → loaded_after state loaded word ≡ loaded_then
        → (after.1 ≡ Go → Walks L mix env all_events (world_step mix (R L mix env events).world event).core placed_then counts
        (turn.then c) c from
        trace.begin loaded_then (room_after state room word) after.0)
        → says (room_after state room word) state ≡ after.1
        → AllByRecursion (PastWalks L mix env events looking.placed.ghost count) trace.past
        → let ended = job_next (walks from limit (room_after state room word)) (walk_ending (room_after state room word)) after in
        WalksThen c (trace_then (walks from limit room state) ended) (told ended).0
    walk_then from limit room state word (next_state, Go) walking same goes_so is had = record {
      past = pasts_later trace.past had;
      now = goes_so refl;
    }
    walk_then from limit room state word (next_state, Done reply) walking same goes_so is had = record {
      past = AllByRecursion-push _ trace.past _ (pasts_later trace.past had) (ends_so from limit room state word reply is same walking);
      now = tt;
    }

    pub own_walks : (over : Bool) (job : Job) → did.op ≡ soft over (job_plan env c job) → did.old ≡ old_of (R L mix env events).world.core.words (job_plan env c job)
        → job_of (local_of (R L mix env events).world.core c).doing ≡ Some job → JobIn env mix c job
        → AllByRecursion (PastWalks L mix env events looking.placed.ghost count) trace.past
        → JobWalks L mix env events (R L mix env events).world.core looking.placed count (looking.readers c).chains c trace.begin loaded
        (Some job)
        → let after = job_after mix env job (old_of (R L mix env events).world.core.words (job_plan env c job)) in
        job_of (local_of (world_step mix (R L mix env events).world event).core c).doing ≡ (told after).0
        → WalksThen c (trace_then job after) (told after).0
    own_walks over (walks from limit room state) planned found is within had walking does =
        let tied = subst (tied_with env mix looking.placed.ghost) is (looking.meets c walking.low).tied in
        let word = old_of (R L mix env events).world.core.words (plan_at env.geometry c state) in
        let after = room_after state room word in
        let came = walk_gone env from limit room after state word in
        let Goes = λ (more : List ℕ). Walks L mix env all_events (world_step mix (R L mix env events).world event).core placed_then counts
        (turn.then c) c from trace.begin more after came.0 in
        let same = ap (loaded_after state loaded) (sym found) ∙
        loaded_next env.geometry c trace.steps did over (let low = walking.low in let callers = env.geometry.within.callers_within in omega (arith, low, callers.1))
        state within planned in
        walk_then from limit room state word came walking same
        (λ still. subst Goes same
        (goes_on L mix env events event looking turn of_ports count counted c walking.low from trace.begin walking.begun limit loaded room
        state walking within tied is (room_limit state room word ∙ walking.roomy)
        (does ∙ ap (λ ended. (told (job_next (walks from limit after) (walk_ending after) (came.0, ended))).0) still))) refl had
    own_walks over job planned found is within had walking does =
        let old = old_of (R L mix env events).world.core.words (job_plan env c job) in
        other_then job (job_after mix env job old) refl (same_call mix env job old) had

  -- ---- an event of another caller, or of none

  pub walks_stay : (c begin : ℕ) (loaded : List ℕ) (job : Option Job)
      → job_of (local_of (world_step mix (R L mix env events).world event).core c).doing ≡ job
      → job_of (local_of (R L mix env events).world.core c).doing ≡ job
      → JobWalks L mix env events (R L mix env events).world.core looking.placed count (looking.readers c).chains c begin loaded job
      → JobWalks L mix env all_events (world_step mix (R L mix env events).world event).core placed_then counts (turn.then c) c begin loaded
      job
  walks_stay c begin loaded (Some (walks from limit room state)) does was walking =
      let tied = subst (tied_with env mix looking.placed.ghost) was (looking.meets c walking.low).tied in
      outlives L mix env events event looking turn of_ports count counted c walking.low from begin walking.begun room walking.roomy limit
      state does
      tied (MissedOf L mix env events c begin) (WasLast L mix env count begin here)
      (missed_later L mix env events event looking turn of_ports count counted c begin)
      (λ τ. last_later L mix env events event looking turn of_ports count counted begin here τ (omega arith) (length all_events)
      (omega (arith, long))) walking.known loaded walking.keeps
      (bounds_later L mix env events event looking turn of_ports count counted c begin room.items walking.bound)
  walks_stay c begin loaded _ does was walking = tt

  -- ---- a call begins

  pub first_walks : (c : ℕ) → c < env.geometry.callers → (call : Call) (batch : Option BatchModel) (start : ℕ)
      → IfSome (first_job env batch call start) (λ job.
      JobWalks L mix env all_events (world_step mix (R L mix env events).world event).core placed_then counts (turn.then c) c here []
      (Some job))
  first_walks c low (calls.Walk from limit) batch start = record {
    low = low;
    begun = omega (arith, long);
    roomy = refl;
    known = refl;
    keeps = record { none = refl; nothing = refl };
    bound = tt;
  }
  first_walks c low calls.Tidy batch start =
      first_tidy-so (λ job. JobWalks L mix env all_events (world_step mix (R L mix env events).world event).core placed_then counts
      (turn.then c) c
      here [] (Some job)) batch (λ own. tt)
  first_walks c low _ batch start = tt
