-- An operation of the one caller that a seat has keeps the rule: the run goes on by one event, or by two where a call begins.
-- 1. The run with the event more is one, and it changes which callers are enrolled in no event but an Enroll.
-- 2. What the event makes of its caller is what the seat makes of its view, from the word that it found.
-- 3. No other caller sees anything of it, and no other seat has this caller.
use Rattle.std.proofs.Common.{◌≡◌, ◌≢◌, ℕ, ◌<◌, ⊎_elim, true, false, cond, List, [], ◌∷◌, ◌++◌, length, map, get_or, set, refl, sym, ap, ◌∙◌, subst, arith}
use Rattle.std.specs.Prelude.{Option, Some, None}
use Rattle.std.specs.Cmp.Derive.{both_true}
use Rattle.std.proofs.lemmas.Bool.{lt-ltb}
use mathlib.Core.Option.{some}
use lib.ListN.{get_elem?}
use Rattle.atomic_table.specs.Table.{State, Me, keeps, Allows, stepped as table_stepped}
use Rattle.atomic_table.proofs.Lists.{at_set}
use Rattle.rht_words.specs.declared.op.Op.{Op}
use Rattle.rht_words.specs.declared.env.Env.{Env}
use Rattle.rht_words.specs.Operations.{op_place, old_of, word_after}
use Rattle.rht_words.proofs.EachElement.{AllByRecursion-append}
use Rattle.rht_model.specs.declared.history.Call.{Call}
use Rattle.rht_core.specs.declared.event.Event.{Event}
use Rattle.rht_core.specs.declared.event.Event.TheVariants.{Begin, Step}
use Rattle.rht_callers.specs.declared.local.Doing.{Doing}
use Rattle.rht_core.specs.Locals.{is_idle, machine_of, begun_with, plan_of}
use Rattle.rht_core.specs.Runs.{World, View, view_of, local_of, beginning_in, planned_in, book_begun, run_of, world_step, IsAdmitted, IsAdmittedEvent}
use Rattle.rht_core.specs.Laws.{view_begun, view_stepped, IsOfCaller}
use Rattle.rht_core.proofs.Events.Worlds.{run_of-push, begin_self, begin_other, step_self, step_other, step_words}
use Rattle.rht_core.proofs.Events.SoundRuns.{has_place, runs-in}
use Rattle.rht_callers.specs.Locals.{may_hold}
use Rattle.rht_core.proofs.Events.BatchesInRuns.{all_in_range}
use Rattle.rht_core.proofs.Events.InvariantRuns.{has_inv}
use Rattle.rht_core.proofs.Events.RangesInRuns.{enrolled}
use Rattle.rht_run.specs.declared.seats.Held.{Held}
use Rattle.rht_run.specs.declared.seats.SeatView.{SeatView}
use Rattle.rht_run.specs.Layout.{physical_place, IsLaidOut}
use Rattle.rht_run.specs.Rule.{view_in, Shows, IsHeldIn, Holds, MayBegin, CanGo, IsInRun, held_then, held_stepped, begun, stepped, Went}
use Rattle.rht_run.proofs.LaidWords.{laid-set}
use Rattle.rht_run.proofs.ViewLists.{set_twice, set_there, only, in_one}

-- the word at an operation's physical place, and the words after it
abbrev pub laid_at : Op → List ℕ → ℕ
laid_at op laid = get_or laid (physical_place op) 0

abbrev pub laid_after : Op → List ℕ → List ℕ
laid_after op laid = set laid (physical_place op) (word_after (laid_at op laid) op)

module _ (M : Type 0) (mix : ℕ → ℕ → ℕ → ℕ) (env : Env) where
  abbrev pub S : Type 0
  S = State (Unit {0}) (SeatView M)

  -- a run with one more event is a run
  pub admitted_more : (events : List Event) (event : Event) → IsAdmitted events
      → IsAdmittedEvent event → IsAdmitted (events ++ event ∷ [])
  admitted_more events event admitted more =
      AllByRecursion-append IsAdmittedEvent events (event ∷ []) admitted (more, tt)

  -- what a view of a table says is so in one run
  pub in_run : (s : S) → Holds mix env s → (id : ℕ) (v : SeatView M) → get_elem? s.views id ≡ some v → v.env ≡ env
      → IsInRun mix v
  in_run s r id v at same = record {
    events = r.events;
    admitted = r.admitted;
    shows = λ h i. subst (λ (e : Env). Shows e (run_of mix e r.events) h) (sym same) (r.shows id v at h i).shows;
  }

  -- ---- a caller of a run

  module _ (events : List Event) (admitted : IsAdmitted events) (held : Held M) (shows : Shows env (run_of mix env events) held) where
    abbrev world : World M
    world = run_of mix env events

    pub has_local : held.number < length world.core.locals
    has_local = has_place M mix env world.core held.number (runs-in M mix env events) shows.enrolled

    pub number_fits : held.number < 4294967296
    number_fits = omega (arith, shows.below, env.agrees.callers_same, env.settled.geometry.callers_within.1)

    pub begin_admitted : (call : Call) → MayBegin env held.number call held.local
        → IsAdmittedEvent (Begin held.number call 0)
    begin_admitted call can = (number_fits, can.admitted)

    -- one more event gives it a call that it may begin
    pub begin_shown : (call : Call) → MayBegin env held.number call held.local
        → view_of (world_step mix world (Begin held.number call 0)) held.number ≡ view_in (held_then env (Some call) held)
    begin_shown call can =
        let c : ℕ = held.number in
        let idle : is_idle (local_of world.core c) ≡ true =
        ap (λ (x : View M). is_idle x.local) shows.shown ∙ can.idle in
        let rests : (local_of world.core c).held ≡ false = (has_inv env mix M events admitted).inv.rests c in
        let same_env : world.core.env ≡ env = (runs-in M mix env events).same_env in
        let begins : beginning_in world.core c call 0 ≡ Some can.machine =
        ap (λ b. cond b (machine_of world.core.env c (local_of world.core c).batch call) None)
        (both_true (lt-ltb c world.core.enrolled shows.enrolled) (both_true idle (ap (λ over. may_hold over call) rests)))
        ∙ ap (λ (e : Env). machine_of e c (local_of world.core c).batch call) same_env
        ∙ ap (λ (x : View M). machine_of env c x.local.batch call) shows.shown ∙ can.machine_is in
        begin_self M mix world c call 0 can.machine begins has_local
        ∙ ap (view_begun call can.machine) shows.shown
        ∙ ap (λ (m : Option (Doing M)). view_with call m) (sym can.machine_is)
      where
        -- what the caller sees that begins with this
        view_with : Call → Option (Doing M) → View M
        view_with call machine =
            record { local = begun_with held.local machine; book = book_begun call held.book }

  -- ---- an event of the one caller that a view has

  module _ (s : S) (r : Holds mix env s) (id : ℕ) (v v' : SeatView M) (h h' : Held M) (e : Event) (ws : List ℕ) where
    abbrev W : World M
    W = run_of mix env r.events

    abbrev W' : World M
    W' = world_step mix W e

    abbrev after : World M
    after = run_of mix env (r.events ++ e ∷ [])

    pub event_holds : get_elem? s.views id ≡ some v → v.held ≡ h ∷ [] → v'.held ≡ h' ∷ [] → v'.env ≡ v.env
        → v'.drawn ≡ v.drawn → h'.number ≡ h.number
        → IsAdmittedEvent e → IsOfCaller e → IsLaidOut ws W'.core.words
        → view_of W' h.number ≡ view_in h'
        → ((k : ℕ) → k ≢ h.number → view_of W' k ≡ view_of W k)
        → Holds mix env record { words = ws; homes = s.homes; views = set s.views id v' }
    event_holds at one one' same_env same_drawn same_number ok callers words_are this others =
        let more : after ≡ W' = run_of-push M mix env r.events e in
        let kept = enrolled M mix env r.events e r.admitted ok callers in
        let mine = r.shows id v at h (in_one h v.held one) in
        let owns : r.owner h.number ≡ id = r.owned id v at h (in_one h v.held one) in
        let env_of : (u : SeatView M) → v' ≡ u → u.env ≡ env = λ u is.
        ap (λ (x : SeatView M). x.env) (sym is) ∙ same_env ∙ mine.same_env in
        record {
          events = r.events ++ e ∷ [];
          admitted = admitted_more r.events e r.admitted ok;
          words = subst (λ (w : World M). IsLaidOut ws w.core.words) (sym more) words_are;
          counted = kept.word ∙ r.counted ∙ sym kept.count;
          shows = λ k u au g i. ⊎_elim
              (λ t. let is : g ≡ h' = only g h' u.held i (ap (λ (x : SeatView M). x.held) (sym t.1) ∙ one') in
              record {
                same_env = env_of u t.1;
                shows = subst (Shows env after) (sym is) record {
                  below = subst (λ (n : ℕ). n < env.geometry.callers) (sym same_number) mine.shows.below;
                  enrolled = omega (arith, same_number, kept.count, mine.shows.enrolled);
                  shown = ap (λ (w : World M). view_of w h'.number) more ∙ ap (view_of W') same_number ∙ this;
                };
              })
              (λ t. let old = r.shows k u t.1 g i in
              let ne : g.number ≢ h.number = λ q. t.0 (sym (r.owned k u t.1 g i) ∙ ap r.owner q ∙ owns) in
              record {
                same_env = old.same_env;
                shows = record {
                  below = old.shows.below;
                  enrolled = omega (arith, kept.count, old.shows.enrolled);
                  shown = ap (λ (w : World M). view_of w g.number) more ∙ others g.number ne ∙ old.shows.shown;
                };
              })
              (at_set s.views id k v' u au);
          owner = r.owner;
          owned = λ k u au g i. ⊎_elim
              (λ t. let is : g ≡ h' = only g h' u.held i (ap (λ (x : SeatView M). x.held) (sym t.1) ∙ one') in
              ap (λ (x : Held M). r.owner x.number) is ∙ ap r.owner same_number ∙ owns ∙ sym t.0)
              (λ t. r.owned k u t.1 g i)
              (at_set s.views id k v' u au);
          drawer = r.drawer;
          drawn = λ k u au n d. ⊎_elim
              (λ t. let p = r.drawn id v at n (sym same_drawn ∙ ap (λ (x : SeatView M). x.drawn) t.1 ∙ d) in
              record {
                same_seat = t.0 ∙ p.same_seat;
                same_env = env_of u t.1;
                count = p.count ∙ sym kept.count;
                few = p.few;
              })
              (λ t. let p = r.drawn k u t.1 n d in record {
                same_seat = p.same_seat;
                same_env = p.same_env;
                count = p.count ∙ sym kept.count;
                few = p.few;
              })
              (at_set s.views id k v' u au);
        }

  module _ (s : S) (r : Holds mix env s) (id : ℕ) (v : SeatView M) (h : Held M) (at : get_elem? s.views id ≡ some v)
      (one : v.held ≡ h ∷ [])
    where
      abbrev Wo : World M
      Wo = run_of mix env r.events

      abbrev c : ℕ
      c = h.number

      abbrev mine : IsHeldIn env Wo v h
      mine = r.shows id v at h (in_one h v.held one)

      -- ---- a call begins

      pub begin_holds : (call : Call) → MayBegin v.env c call h.local
          → Holds mix env record { words = s.words; homes = s.homes; views = set s.views id (begun (Some call) v) }
      begin_holds call can =
          let here : MayBegin env c call h.local =
          subst (λ (e : Env). MayBegin e c call h.local) mine.same_env can in
          let then : Held M = held_then v.env (Some call) h in
          event_holds s r id v (begun (Some call) v) h then (Begin c call 0) s.words at one
          (ap (map (held_then v.env (Some call))) one) refl refl refl
          (begin_admitted r.events r.admitted h mine.shows call here) tt r.words
          (begin_shown r.events r.admitted h mine.shows call here
          ∙ ap (λ (e : Env). view_in (held_then e (Some call) h)) (sym mine.same_env))
          (begin_other M mix Wo c call 0)

      -- ---- an operation

      pub step_holds : (op : Op) → plan_of h.local ≡ Some op
          → Holds mix env record { words = laid_after op s.words; homes = s.homes; views = set s.views id (stepped mix (laid_at op s.words) v) }
      step_holds op plan =
          let old : ℕ = laid_at op s.words in
          let shown = mine.shows.shown in
          let plans : plan_of (local_of Wo.core c) ≡ Some op = ap (λ (x : View M). plan_of x.local) shown ∙ plan in
          let steps : planned_in Wo.core c ≡ Some op =
          ap (λ b. cond b (plan_of (local_of Wo.core c)) None) (lt-ltb c Wo.core.enrolled mine.shows.enrolled)
          ∙ plans in
          let within = (all_in_range M mix env r.events r.admitted).plans c op plans in
          let all = (runs-in M mix env r.events).all_words in
          let below : op_place op < length Wo.core.words = omega (arith, within.within, all) in
          let same : old ≡ old_of Wo.core.words op = r.words.at (op_place op) below in
          let words_are : set Wo.core.words (op_place op) (word_after old op)
          ≡ (world_step mix Wo (Step c)).core.words =
          ap (λ (x : ℕ). set Wo.core.words (op_place op) (word_after x op)) same
          ∙ sym (step_words M mix Wo c op steps) in
          event_holds s r id v (stepped mix old v) h (held_stepped mix old h) (Step c) (laid_after op s.words) at one
          (ap (map (held_stepped mix old)) one) refl refl refl (number_fits r.events r.admitted h mine.shows) tt
          (subst (IsLaidOut (laid_after op s.words)) words_are
          (laid-set s.words Wo.core.words (op_place op) (word_after old op) r.words below))
          (step_self M mix Wo c op steps (has_local r.events r.admitted h mine.shows) ∙ ap (view_stepped mix (old_of Wo.core.words op)) shown
          ∙ ap (λ (x : ℕ). view_stepped mix x (view_in h)) (sym same))
          (step_other M mix Wo c)

  -- an operation, with the call that begins before it, if one does
  pub turn_holds : (s : S) (r : Holds mix env s) (id : ℕ) (v : SeatView M) (h : Held M) (begins : Option Call) (op : Op)
      → get_elem? s.views id ≡ some v → v.held ≡ h ∷ [] → CanGo v.env h.number begins h.local
      → plan_of (held_then v.env begins h).local ≡ Some op
      → Holds mix env record { words = laid_after op s.words; homes = s.homes; views = set s.views id (stepped mix (laid_at op s.words) (begun begins v)) }
  turn_holds s r id v h None op at one can plan =
      let same : v ≡ begun None v =
      λ i. record v { held = (one ∙ sym (ap (map (held_then v.env None)) one)) i } in
      subst (λ (x : SeatView M). Holds mix env record { words = laid_after op s.words; homes = s.homes; views = set s.views id (stepped mix (laid_at op s.words) x) }) same
      (step_holds s r id v h at one op plan)
  turn_holds s r id v h (Some call) op at one can plan =
      let v1 : SeatView M = begun (Some call) v in
      let h1 : Held M = held_then v.env (Some call) h in
      let s1 : S = record { words = s.words; homes = s.homes; views = set s.views id v1 } in
      let both = step_holds s1 (begin_holds s r id v h at one call can) id v1 h1 (set_there s.views id v v1 at)
      (ap (map (held_then v.env (Some call))) one) op plan in
      subst (λ (vs : List (SeatView M)). Holds mix env record { words = laid_after op s.words; homes = s.homes; views = vs })
      (set_twice s.views id v1 (stepped mix (laid_at op s.words) v1)) both

  -- so a seat may make the operation that its caller plans
  pub goes : (begins : Option Call) (slots id : ℕ) (me : Me (Unit {0}) (SeatView M)) (h : Held M) (op : Op) (f : ℕ → ℕ)
      → me.0.held ≡ h ∷ [] → me.0.env ≡ env → CanGo me.0.env h.number begins h.local
      → plan_of (held_then me.0.env begins h).local ≡ Some op
      → ((n : ℕ) → n < 18446744073709551616 → f n ≡ word_after n op)
      → Allows (Holds mix env) slots id me (physical_place op) f (λ old after. (after.1 ≡ me.1)
      × Went mix begins me.0 old after.0)
  goes begins slots id me h op f one same can plan acts s r wide at fits =
      let w : SeatView M = stepped mix (laid_at op s.words) (begun begins me.0) in
      let turned = turn_holds s r id me.0 h begins op at one can plan in
      let after_it : Holds mix env (table_stepped s (physical_place op) (f (laid_at op s.words)) id me.1 w keeps) =
      subst (λ (x : ℕ). Holds mix env record { words = set s.words (physical_place op) x; homes = s.homes; views = set s.views id w }) (sym (acts _ fits)) turned in (
        w,
        keeps,
        tt,
        after_it,
        (refl, record { same = refl; in_run = in_run _ after_it id w (set_there s.views id me.0 w at) same }),
      )
