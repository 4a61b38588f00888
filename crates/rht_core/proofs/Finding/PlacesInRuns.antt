-- In every run there are places that are right. And each node that is no port's first one any more was one,
-- by what the words stood for, right before the event from which on it isn't.
use Rattle.std.proofs.Common.{◌≡◌, ◌⊎◌, ℕ, suc, ◌+◌, ◌/◌, ◌<◌, Bool, List, [], ◌∷◌, ◌++◌, length, Option, Some, None, refl, sym, ◌∙◌, ap, subst, inl, inr, arith}
use Rattle.std.proofs.lemmas.List.{length_push}
use Rattle.rht_words.specs.declared.op.Op.{Op}
use Rattle.rht_words.specs.declared.env.Env.{Env}
use Rattle.rht_ghost.proofs.Pieces.HeldSections.{of_its_own}
use Rattle.rht_words.specs.Operations.{op_place, old_of, applied}
use Rattle.rht_words.specs.Ports.{owner_of}
use Rattle.rht_words.specs.Places.{Node, NodeWord, NodeMap, OwnerWord}
use Rattle.rht_words.proofs.Memory.{Memory, is_write}
use Rattle.rht_model.specs.Multimap.{Multimap}
use Rattle.rht_core.specs.declared.event.Event.{Event}
use Rattle.rht_core.specs.declared.event.Event.TheVariants.{Enroll, Begin, Step}
use Rattle.rht_core.specs.Jobs.{job_of, job_after, held_of, held_next}
use Rattle.rht_core.specs.Runs.{Core, World, opening_core, core_step, with_step, world_step, local_of, planned_in, IsAdmittedEvent}
use Rattle.rht_stands.specs.StandsFor.{stands_for}
use Rattle.rht_core.specs.Alone.{bindings_at}
use Rattle.rht_core.specs.RunHistories.{bindings_behind}
use Rattle.rht_core.proofs.Events.RangesInRuns.{AllIn, opens-all, event-all}
use Rattle.rht_core.proofs.Events.Invariants.{Inv, Knows, StepOf, kept, enrolled}
use Rattle.rht_core.proofs.Events.OwnBatches.{BatchRight}
use Rattle.rht_core.proofs.Events.InvariantRuns.{opening_ghost, opening_inv}
use Rattle.rht_ghost.proofs.Theory.Ghosts.{Ghost, IsUsed, seat_of, seat-used, some-same}
use Rattle.rht_ghost.proofs.Theory.Wholes.{key_of, seated_at}
use Rattle.rht_ghost.proofs.Theory.Frames.{Made, still}
use Rattle.rht_ghost.proofs.Theory.Steps.{Move, Quiet, ReturnsNode, DoesReturnNode, Does, bare, mem, owners_in, ghost_after, ReadyFor}
use Rattle.rht_core.proofs.Meaning.BoundPorts.{stands_for_bound}
use Rattle.rht_core.proofs.Histories.Behind.{behind-all, behind-more}
use Rattle.rht_core.proofs.Finding.Places.{Places, PlacesRight}
use Rattle.rht_core.proofs.Finding.Deaths.{DeathsRight}
use Rattle.rht_core.proofs.Finding.GivenBack.{IsUnmet}
use Rattle.rht_core.proofs.Finding.PlacesThen.{PlacesThen, IsGiven, DiesNow, HadDied, places_then}

module _ (env : Env) (mix : ℕ → ℕ → ℕ → ℕ) (L : Type 0) where
  -- the words stood for it behind so many events that the node's port had the node's owner as its first
  pub record WasFirst (events : List Event) (M : Memory) (n t : ℕ) : Type 0 where
    pub others : List ℕ
    pub is : bindings_behind L mix env events t (key_of M n) ≡ owner_of (M (Node n OwnerWord)) ∷ others

  -- the invariant with places that are right, and that nodes that died were first ones right before that
  pub record Placed (events : List Event) (core : Core L) : Type 0 where
    pub ghost : Ghost
    pub inv : Inv env mix L core ghost
    pub all : AllIn L mix env core
    pub places : Places
    pub right : PlacesRight env mix ghost places (mem env mix core.words) (length events)
    pub deaths : DeathsRight env (mem env mix core.words) ghost places (length events)
    pub said : (n t : ℕ) → n < env.geometry.nodes → IsUsed (ghost.node n) → seat_of (ghost.node n) ≡ None
        → places.dead n ≡ Some t → WasFirst events (mem env mix core.words) n t

  -- ---- one event more

  -- What an event does: the move that it makes, and what holds behind it. A node that it gives back is none of those that were met, and is apart.
  pub record EventMakes (events : List Event) (core core' : Core L) (placed : Placed events core) (met : ℕ → Bool) (Apart : ℕ → Type 0) :
      Type 0 where
    pub caller : ℕ
    pub move : Move
    pub ready : ReadyFor env mix caller (mem env mix core.words) placed.ghost move
    pub made : Made env mix caller (mem env mix core.words) placed.ghost (mem env mix core'.words)
        (ghost_after env mix caller move placed.ghost)
    pub ghost : Ghost
    pub same : ghost ≡ ghost_after env mix caller move placed.ghost
    pub inv : Inv env mix L core' ghost
    pub all : AllIn L mix env core'
    pub given : (n : ℕ) → move ≡ ReturnsNode n → IsGiven env (mem env mix core.words) (mem env mix core'.words) met n
    pub apart : (n : ℕ) → move ≡ ReturnsNode n → Apart n

  module _ (events : List Event) (event : Event) (core core' : Core L)
      (stands : bindings_at L mix env events ≡ stands_for env.geometry core.words)
      (placed : Placed events core) (met : ℕ → Bool) (Apart : ℕ → Type 0) (makes : EventMakes events core core' placed met Apart) where
    abbrev c : ℕ
    c = makes.caller

    abbrev made : Made env mix c (mem env mix core.words) placed.ghost (mem env mix core'.words)
        (ghost_after env mix c makes.move placed.ghost)
    made = makes.made

    abbrev M : Memory
    M = mem env mix core.words

    abbrev M' : Memory
    M' = mem env mix core'.words

    abbrev G : Ghost
    G = placed.ghost

    abbrev G' : Ghost
    G' = ghost_after env mix c makes.move G

    abbrev more : List Event
    more = events ++ event ∷ []

    -- there is one event more
    pub longer : length events + 1 ≡ length more
    longer = sym (length_push events event)

    -- the places behind it
    pub next_places : PlacesThen env mix (length events) M G placed.places M' G' met
    next_places = places_then env mix
        (length events) c M G placed.places M' placed.inv.whole placed.right met makes.move makes.ready made makes.given

    -- what a first node's port stands for
    pub was_now : (n j : ℕ) → seat_of (G.node n) ≡ Some j → WasFirst more M n (length events)
    was_now n j sits =
        let at = seated_at env mix M G placed.inv.whole n j sits in
        record {
          others = owners_in env mix M at.behind;
          is = ap (λ (b : Multimap). b (key_of M n))
              (behind-more L mix env events event (length events) (omega arith)
              ∙ behind-all L mix env events ∙ stands)
              ∙ stands_for_bound env mix core.words G placed.inv.whole (key_of M n)
              ∙ ap (owners_in env mix M) at.bound_to;
        }

    -- a node that has died was a first one right before that
    pub was_first : (n t : ℕ) → n < env.geometry.nodes → DiesNow (length events) G n t ⊎ HadDied G placed.places n t
        → WasFirst more M n t
    was_first n t among (inl dies) = subst (WasFirst more M n) dies.is_now (was_now n dies.bucket dies.seat)
    was_first n t among (inr had) =
        let was = placed.said n t among had.used had.none had.dead in
        let at = placed.deaths n t among had.used had.none had.dead in
        let same = some-same at.at t (sym at.is ∙ had.dead) in
        let early = at.early in
        record {
          others = was.others;
          is = ap (λ (b : Multimap). b (key_of M n))
              (behind-more L mix env events event t (omega (arith, same, early)))
              ∙ was.is;
        }

    -- it was used before
    pub was_used : (n t : ℕ) → DiesNow (length events) G n t ⊎ HadDied G placed.places n t → IsUsed (G.node n)
    was_used n t (inl dies) = seat-used (G.node n) dies.bucket dies.seat
    was_used n t (inr had) = had.used

    -- and its words stay
    pub words_stay : (n t : ℕ) → n < env.geometry.nodes → IsUsed (G.node n) → WasFirst more M n t
        → WasFirst more M' n t
    words_stay n t among used was =
        let rely = made.others (suc c) (λ e. absurd (omega arith)) in
        record {
          others = was.others;
          is = ap (bindings_behind L mix env more t) (rely.keys n among used) ∙ was.is
              ∙ ap (λ w. owner_of w ∷ was.others) (sym (rely.owners n among used));
        }

    -- so the invariant holds behind it
    unfoldable pub next : Placed more core'
    next = record {
      ghost = G';
      inv = record {
        same_env = makes.inv.same_env;
        whole = made.whole;
        each = subst (λ K. (k : ℕ) → Knows env mix k (job_of (local_of core' k).doing) M' K) makes.same makes.inv.each;
        batches = subst (λ K. (k : ℕ) → BatchRight env mix L K k (local_of core' k)) makes.same makes.inv.batches;
        right = makes.inv.right;
        holds = makes.inv.holds;
        rests = makes.inv.rests;
      };
      all = makes.all;
      places = next_places.places;
      right = subst (PlacesRight env mix G' next_places.places M') longer next_places.right_now;
      deaths = subst (DeathsRight env M' G' next_places.places) longer (next_places.deaths_now placed.deaths);
      said = λ n t among used none dead.
          let died = next_places.dead n t used none dead in
          words_stay n t among (was_used n t died) (was_first n t among died);
    }

  -- ---- runs

  -- at the opening there are no places
  unfoldable pub placed_opening : Placed [] (opening_core env)
  placed_opening = record {
    ghost = opening_ghost env;
    inv = opening_inv env mix L;
    all = opens-all L mix env;
    places = record { place = λ j n. None; dead = λ n. None };
    right = record {
      falls = λ j. tt;
      last = λ j entry e. absurd (cc);
      placed = λ i n p is. absurd (cc);
      keys = λ i n m p is. absurd (cc);
      of_port = λ port first behind n j i p bound. absurd (cc);
      leads = λ i n p none is. absurd (cc);
      died_used = λ n t is. absurd (cc);
    };
    deaths = λ n t among used none is. absurd (cc);
    said = λ n t among used. absurd (cc);
  }

  -- and no caller is in its section
  pub opening-closed : (c : ℕ) → placed_opening.ghost.from c ≡ None
  unfolding placed_opening
  opening-closed c = refl

  -- an event leads on from there
  module _ (events : List Event) (w : World L)
      (stands : bindings_at L mix env events ≡ stands_for env.geometry w.core.words)
      (placed : Placed events w.core) (met : ℕ → Bool) (Apart : ℕ → Type 0)
      (unmet : (c : ℕ) (op : Op) (of : StepOf env mix L w.core placed.ghost c op) (n : ℕ) → planned_in w.core c ≡ Some op
      → of.step.move ≡ ReturnsNode n
      → IsUnmet env (mem env mix w.core.words) met n × Apart n) where
    abbrev core : Core L
    core = w.core

    abbrev Makes : Event → Type 0
    Makes event = EventMakes events core (world_step mix w event).core placed met Apart

    -- an operation that gives a node back leaves the words of nodes
    words_left : (c : ℕ) (op : Op) (of : StepOf env mix L w.core placed.ghost c op) (n : ℕ) → of.step.move ≡ ReturnsNode n
        → (m : ℕ) (word : NodeWord) → m < env.geometry.nodes
        → mem env mix (applied w.core.words op) (Node m word) ≡ mem env mix w.core.words (Node m word)
    words_left c op of n is m word l =
        let does : DoesReturnNode env.geometry n op (of_its_own (local_of w.core c).held (held_of of.job)) (bare (of_its_own (local_of w.core c).held (held_next (job_after mix env of.job (old_of w.core.words op))))) =
        subst (λ move. Does env mix move op (old_of w.core.words op) (of_its_own (local_of w.core c).held (held_of of.job))
        (of_its_own (local_of w.core c).held (held_next (job_after mix env of.job (old_of w.core.words op))))) is of.step.does in
        let among = does.among in
        (is_write env.geometry w.core.words (NodeMap (n / 64)) op of.all (omega (arith, among)) (ap op_place does.giving)).others
        (Node m word) l (λ e. cc)

    -- by what a caller plans, and by the event
    step_makes : (c : ℕ) (plan : Option Op) → planned_in w.core c ≡ plan
        → IsAdmittedEvent (Step c)
        → Makes (Step c)
    step_makes c None is may =
        let k = kept env mix L w.core placed.ghost (Step c) placed.all placed.inv in
        let same : (core_step mix w.core (Step c)).0 ≡ w.core = ap (λ o. (with_step mix w.core c o).0) is in
        record {
          caller = 0;
          move = Quiet;
          ready = tt;
          made = subst (λ words. Made env mix 0 (mem env mix w.core.words) placed.ghost
              (mem env mix words) placed.ghost)
              (ap (λ (x : Core L). x.words) (sym same))
              (still env mix 0 (mem env mix w.core.words) placed.ghost placed.inv.whole);
          ghost = k.ghost;
          same = k.ghost_kept.none is;
          inv = k.inv;
          all = event-all L mix env w (Step c) may placed.all;
          given = λ n is. absurd (cc);
          apart = λ n is. absurd (cc);
        }
    step_makes c (Some op) plans may =
        let k = kept env mix L w.core placed.ghost (Step c) placed.all placed.inv in
        let moves = k.ghost_kept.some op plans in
        let of = moves.0 in
        let same : (core_step mix w.core (Step c)).0.words ≡ applied w.core.words op =
        ap (λ o. (with_step mix w.core c o).0.words) plans in
        record {
          caller = c;
          move = of.step.move;
          ready = of.step.ready;
          made = subst (λ words. Made env mix c (mem env mix w.core.words) placed.ghost (mem env mix words)
              (ghost_after env mix c of.step.move placed.ghost)) (sym same) of.step.made;
          ghost = k.ghost;
          same = moves.1;
          inv = k.inv;
          all = event-all L mix env w (Step c) may placed.all;
          given = λ n is. record {
            unmet = (unmet c op of n plans is).0;
            words = subst (λ words. (m : ℕ) (word : NodeWord) → m < env.geometry.nodes
                → mem env mix words (Node m word) ≡ mem env mix w.core.words (Node m word)) (sym same) (words_left c op of n is);
          };
          apart = λ n is. (unmet c op of n plans is).1;
        }

    pub event_makes : (event : Event) → IsAdmittedEvent event → Makes event
    event_makes Enroll may =
        let k = kept env mix L w.core placed.ghost Enroll placed.all placed.inv in
        let e = enrolled env mix L w.core placed.ghost placed.all placed.inv in
        record {
          caller = 0;
          move = Quiet;
          ready = tt;
          made = record { whole = e.0; others = λ c ne. e.1 c; stale = e.2 0 };
          ghost = k.ghost;
          same = k.ghost_kept;
          inv = k.inv;
          all = event-all L mix env w Enroll may placed.all;
          given = λ n is. absurd (cc);
          apart = λ n is. absurd (cc);
        }
    event_makes (Begin c call start) may =
        let k = kept env mix L w.core placed.ghost (Begin c call start) placed.all placed.inv in
        record {
          caller = 0;
          move = Quiet;
          ready = tt;
          made = still env mix 0 (mem env mix w.core.words) placed.ghost placed.inv.whole;
          ghost = k.ghost;
          same = k.ghost_kept;
          inv = k.inv;
          all = event-all L mix env w (Begin c call start) may placed.all;
          given = λ n is. absurd (cc);
          apart = λ n is. absurd (cc);
        }
    event_makes (Step c) may = step_makes c (planned_in w.core c) refl may

    -- the ghost behind it is the invariant's
    step-ghost : (c : ℕ) (plan : Option Op) (is : planned_in w.core c ≡ plan) (may : IsAdmittedEvent (Step c))
        → (step_makes c plan is may).ghost ≡ (kept env mix L w.core placed.ghost (Step c) placed.all placed.inv).ghost
    unfolding step_makes
    step-ghost c None is may = refl
    step-ghost c (Some op) is may = refl

    pub event-ghost : (event : Event) (may : IsAdmittedEvent event)
        → (event_makes event may).ghost ≡ (kept env mix L w.core placed.ghost event placed.all placed.inv).ghost
    unfolding event_makes
    event-ghost Enroll may = refl
    event-ghost (Begin c call start) may = refl
    event-ghost (Step c) may = step-ghost c (planned_in w.core c) refl may
