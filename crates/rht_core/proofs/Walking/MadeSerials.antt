-- In every run each serial that was drawn has an event of its own, at which a caller added one to the next serial. So where few were made
-- no two tables have one serial.
use Rattle.std.proofs.Common.{◌≡◌, ℕ, suc, ◌+◌, ◌%◌, ◌^◌, ◌<◌, List, [], ◌∷◌, ◌++◌, length, Some, refl, sym, ◌∙◌, ap, subst, inl, inr, arith}
use Rattle.std.specs.List.{AllByRecursion}
use Rattle.std.proofs.lemmas.Option.{slice_get_within}
use Rattle.rht_words.specs.declared.env.Env.{Env}
use Rattle.rht_words.specs.declared.op.Op.TheVariants.{Add}
use Rattle.rht_words.specs.Members.{IsDistinct}
use Rattle.rht_words.specs.Operations.{old_of}
use Rattle.rht_words.specs.Places.{NextSerial, place_of}
use Rattle.rht_words.proofs.EachElement.{AllByRecursion-weaker, slice_get-push_last}
use Rattle.rht_words.proofs.Members.{not_in_from, AllByRecursion-In}
use Rattle.rht_core.specs.declared.event.Event.{Event}
use Rattle.rht_core.specs.declared.event.Event.TheVariants.{Step}
use Rattle.rht_core.specs.Laws.{IsRecorded}
use Rattle.rht_core.specs.Runs.{Core, World, IsAdmitted, IsAdmittedEvent, planned_in, run_of, world_step}
use Rattle.rht_core.specs.Shown.{AreFewMade}
use Rattle.rht_core.specs.Traces.{Did, Traced, traced_of}
use Rattle.rht_ghost.proofs.Theory.Ghosts.{Ghost}
use Rattle.rht_core.proofs.Counting.DrawnRuns.{event-draws, opening-draws, DrawsOne, EventDraws}
use Rattle.rht_core.proofs.Counting.StepDraws.{HasDrawn, DrawsAt}
use Rattle.rht_core.proofs.Events.Worlds.{take-push_all}
use Rattle.rht_core.proofs.Tracing.TracedRuns.{world-traced_of}
use Rattle.rht_core.proofs.Tracing.TracesAtEvents.{recorded-more}
use Rattle.rht_core.proofs.Finding.LookupsAtEvents.{AreLooking, placed'}
use Rattle.rht_core.proofs.Finding.LookupsInRuns.{turn_at, turn-ghost, opening-looks}
use Rattle.rht_core.proofs.Finding.PlacesInRuns.{next, placed_opening}

module _ (L : Type 0) (mix : ℕ → ℕ → ℕ → ℕ) (env : Env) where
  abbrev Rs : List Event → Traced L
  Rs events = traced_of mix env events

  -- the operation that adds one to the next serial, at this event
  abbrev pub draw_at : ℕ → ℕ → Did
  draw_at index old = record { index = index; op = Add (place_of env.geometry NextSerial) 1; old = old }

  abbrev pub IsMadeAt : List Event → ℕ → Type 0
  IsMadeAt events index = (c : ℕ) × (old : ℕ) × IsRecorded L mix env events c (draw_at index old)

  -- so many serials were drawn as there are these events, and one at the opening
  pub record AreMade (events : List Event) (core : Core L) (G : Ghost) : Type 0 where
    pub made : List ℕ
    pub distinct : IsDistinct made
    pub each : AllByRecursion (IsMadeAt events) made
    pub draws : DrawsAt env mix L core G (1 + length made)

  made_low : (events : List Event) (index : ℕ) → IsMadeAt events index → index < length events
  made_low events index (c, old, is) = slice_get_within events index (Step c) is.event

  -- no two tables have one serial, where few were made
  pub apart : (events : List Event) (core : Core L) (G : Ghost) → AreMade events core G → AreFewMade L mix env events
      → (τ σ : ℕ) → τ < G.attached → σ < G.attached → (G.table τ).serial ≡ (G.table σ).serial → τ ≡ σ
  apart events core G are few τ σ low below same =
      let made = few are.made are.distinct are.each in
      let draws = are.draws.drawn_are in
      let one = draws.before τ low in
      let other = draws.before σ below in
      let serial = sym (draws.serials τ low) ∙ same ∙ draws.serials σ below in
      draws.apart τ σ low below (same_draw (length are.made) (are.draws.of_table τ) (are.draws.of_table σ) made one other serial)
    where
      same_draw : (made one other : ℕ) → made < 2 ^ 63 → one < 1 + made → other < 1 + made → one % 2 ^ 64 ≡ other % 2 ^ 64 → one ≡ other
      same_draw made one other few less below same = omega (arith, few, less, below, same)

  -- ---- one event more

  module _ (events : List Event) (event : Event) (admitted : IsAdmitted events)
      (may : IsAdmittedEvent event)
      (looking : AreLooking L mix env events (Rs events)) (are : AreMade events (Rs events).world.core looking.placed.ghost) where
    abbrev w : World L
    w = (Rs events).world

    abbrev drawn : ℕ
    drawn = 1 + length are.made

    abbrev has : HasDrawn env mix L w drawn
    has = record {
      ghost = looking.placed.ghost;
      inv = looking.placed.inv;
      all = looking.placed.all;
      of_table = are.draws.of_table;
      of_caller = are.draws.of_caller;
      drawn_are = are.draws.drawn_are;
      jobs = are.draws.jobs;
    }

    abbrev more : List Event
    more = events ++ event ∷ []

    made_later : (index : ℕ) → IsMadeAt events index → IsMadeAt more index
    made_later index (c, old, is) = (c, old, recorded-more L mix env events event c (draw_at index old) is)

    made_now : DrawsOne env mix L w drawn has event → IsMadeAt more (length events)
    made_now (c, is, plan) =
        let op = Add (place_of env.geometry NextSerial) 1 in
        let old = old_of (run_of {M = L} mix env events).core.words op in
        let behind = sym (take-push_all events event) in (
          c,
          old,
          record {
            event = slice_get-push_last events event ∙ ap Some is;
            plan = subst (λ (before : List Event). planned_in (run_of {M = L} mix env before).core c ≡ Some op) behind
                (subst (λ (v : World L). planned_in v.core c ≡ Some op) (world-traced_of L mix env events) plan);
            found = subst (λ (before : List Event). old_of (run_of {M = L} mix env before).core.words op ≡ old) behind refl;
          },
        )

    made_by : {H : Ghost} → EventDraws env mix L w drawn has event H → AreMade more (world_step mix w event).core H
    made_by {H} next_draws = elim next_draws.by [
      | inl none ↦ record {
        made = are.made;
        distinct = are.distinct;
        each = AllByRecursion-weaker _ _ made_later are.made are.each;
        draws = subst (DrawsAt env mix L (world_step mix w event).core H) none next_draws.at;
      }
      | inr one ↦ record {
        made = length events ∷ are.made;
        distinct = (
          not_in_from (length events) are.made (λ i.
              let low = made_low events (length events) (AllByRecursion-In (IsMadeAt events) (length events) are.made are.each i) in
              omega (arith, low)),
          are.distinct,
        );
        each = (made_now one.1, AllByRecursion-weaker _ _ made_later are.made are.each);
        draws = subst (DrawsAt env mix L (world_step mix w event).core H) (count_is (length are.made) next_draws.count one.0) next_draws.at;
      }
    ]
      where
        count_is : (made count : ℕ) → count ≡ 1 + made + 1 → count ≡ 1 + suc made
        count_is made count is = omega (arith, is)

    pub made_then : AreMade more (world_step mix w event).core
        (placed' L mix env events event looking (turn_at L mix env events admitted looking event may)).ghost
    unfolding next
    made_then =
        let turn = turn_at L mix env events admitted looking event may in
        subst (AreMade more (world_step mix w event).core)
        (sym (turn-ghost L mix env events admitted looking event may) ∙ turn.makes.same)
        (made_by (event-draws env mix L w drawn has event may))

  -- ---- the opening

  pub made_opening : AreMade [] (Rs []).world.core (opening-looks L mix env).placed.ghost
  unfolding opening-looks placed_opening
  made_opening = record { made = []; distinct = tt; each = tt; draws = opening-draws env mix L }
