-- The places behind any operation of a caller, who died by it, and that what look-ups know outlives it.
use Rattle.std.proofs.Common.{◌≡◌, ◌⊎◌, ℕ, ◌+◌, ◌<◌, ◌≤◌, Bool, true, [], Option, Some, None, refl, sym, ◌∙◌, subst, inl, inr, arith}
use Rattle.std.specs.List.{AllByRecursion}
use Rattle.rht_words.specs.declared.env.Env.{Env}
use Rattle.rht_words.specs.Places.{Node, NodeWord}
use Rattle.rht_words.proofs.Memory.{Memory}
use Rattle.rht_model.specs.declared.history.Reply.{Reply}
use Rattle.rht_model.specs.declared.history.Reply.TheVariants.{Missing}
use Rattle.rht_find.specs.FindStanding.{standing_of_find}
use Rattle.rht_find.specs.declared.find.FindAt.{FindAt}
use Rattle.rht_ghost.proofs.Theory.Ghosts.{Free, Ghost, IsUsed, seat_of, with_owner, table_at, some-same}
use Rattle.rht_ghost.proofs.Theory.Wholes.{Whole, AreFrom}
use Rattle.rht_ghost.proofs.Theory.Reliance.{TablesStay}
use Rattle.rht_ghost.proofs.Theory.Frames.{Made}
use Rattle.rht_ghost.proofs.Theory.Steps.{Move, ReturnsNode, ghost_after, ReadyFor}
use Rattle.rht_core.proofs.Finding.Places.{Places, PlacesRight}
use Rattle.rht_core.proofs.Finding.Deaths.{DeathsRight, DeathsMove, deaths_after}
use Rattle.rht_core.proofs.Finding.GivenBack.{IsUnmet, kept_places, same_seat, was_used, met_kept, place_stays, dead_was, right_then, deaths_then}
use Rattle.rht_core.proofs.Finding.Lookups.{LookMeans, look_stays}
use Rattle.rht_core.proofs.Finding.LooksGiven.{node_at, stage_then, look_given}
use Rattle.rht_core.proofs.Finding.Stages.{Stage, StageMeans, tables_at, stage_stays}
use Rattle.rht_core.proofs.Finding.PlacesFrom.{places_from, place_was, place_left, right_left, ports_left, deaths_left, stage_left, look_left}
use Rattle.rht_core.proofs.Finding.PlacesSteps.{places_step}
use Rattle.rht_core.proofs.Returning.GoneBack.{returned, owners_stay}
use Rattle.rht_core.proofs.Finding.PortPlaces.{PortPlacesRight}
use Rattle.rht_core.proofs.Finding.PortPlacesStay.{port_places_then}
use Rattle.rht_core.proofs.Finding.PortPlacesGiven.{port_places_given}

-- a node that is given back: no open section has met it, and no node's word changes
pub record IsGiven (env : Env) (M M' : Memory) (met : ℕ → Bool) (n : ℕ) : Type 0 where
  pub unmet : IsUnmet env M met n
  pub words : (m : ℕ) (word : NodeWord) → m < env.geometry.nodes → M' (Node m word) ≡ M (Node m word)

-- a node was a first one until this event, or until a sooner one
pub record DiesNow (now : ℕ) (G : Ghost) (n t : ℕ) : Type 0 where
  pub bucket : ℕ
  pub seat : seat_of (G.node n) ≡ Some bucket
  pub is_now : now ≡ t

pub record HadDied (G : Ghost) (P : Places) (n t : ℕ) : Type 0 where
  pub used : IsUsed (G.node n)
  pub none : seat_of (G.node n) ≡ None
  pub dead : P.dead n ≡ Some t

-- What look-ups know of whose nodes it is said that they were met: such a one stands at such a node alone, and in tables from this one on.
abbrev pub LooksOutlive : Env → (ℕ → ℕ → ℕ → ℕ) → ℕ → ℕ → Memory → Ghost → Places → Memory → Ghost → Places → (ℕ → Bool) → Type 1
LooksOutlive env mix now low M G P M' G' P' met =
    (port : ℕ) (seen : ℕ → Bool) (since : ℕ) → since ≤ now
    → (Says Says' : Reply → Type 0) → ((reply : Reply) → Says reply → Says' reply) → (G'.bound port ≡ [] → Says' Missing)
    → ((n : ℕ) → seen n ≡ true → met n ≡ true)
    → (state : FindAt) → AllByRecursion (λ n. seen n ≡ true) (standing_of_find state).nodes
    → AreFrom low G (standing_of_find state).tables
    → LookMeans env mix port seen since Says M G P state → LookMeans env mix port seen since Says' M' G' P' state

-- And what they know in a stage outlives it, where their section has met the node at which they stand.
abbrev pub StagesOutlive : Env → (ℕ → ℕ → ℕ → ℕ) → ℕ → ℕ → Memory → Ghost → Places → Memory → Ghost → Places → (ℕ → Bool) → Type 1
StagesOutlive env mix now low M G P M' G' P' met =
    (port : ℕ) (seen : ℕ → Bool) (since : ℕ) → since ≤ now
    → (Said Said' : Type 0) → (Said → Said') → (G'.bound port ≡ [] → Said') → ((n : ℕ) → seen n ≡ true → met n ≡ true)
    → (stage : Stage) → AllByRecursion (λ n. seen n ≡ true) (node_at stage) → AreFrom low G (tables_at stage)
    → StageMeans env mix port seen since Said M G P stage → StageMeans env mix port seen since Said' M' G' P' stage

-- and each place of a node that was met, in a bucket of such a table, is there still
abbrev pub PlacesKept : ℕ → Ghost → Places → Places → (ℕ → Bool) → Type 0
PlacesKept low G P P' met =
    (i n p : ℕ) → met n ≡ true → low ≤ table_at G i → P.place i n ≡ Some p → P'.place i n ≡ Some p

pub record PlacesThen (env : Env) (mix : ℕ → ℕ → ℕ → ℕ) (now : ℕ) (M : Memory) (G : Ghost) (P : Places) (M' : Memory) (G' : Ghost)
    (met : ℕ → Bool) : Type 1 where
  -- which tables stay
  pub stay : TablesStay env mix G G'
  pub places : Places
  pub right_now : PlacesRight env mix G' places M' (now + 1)
  pub deaths_now : DeathsRight env M G P now → DeathsRight env M' G' places (now + 1)
  pub dead : (n t : ℕ) → IsUsed (G'.node n) → seat_of (G'.node n) ≡ None → places.dead n ≡ Some t
      → DiesNow now G n t ⊎ HadDied G P n t
  pub looks : LooksOutlive env mix now stay.low M G P M' G' places met
  pub stages : StagesOutlive env mix now stay.low M G P M' G' places met
  pub of_ports : PortPlacesRight env mix M G P now → PortPlacesRight env mix M' G' places (now + 1)
  pub kept : PlacesKept stay.low G P places met

module _ (env : Env) (mix : ℕ → ℕ → ℕ → ℕ) (now c : ℕ) (M : Memory) (G : Ghost) (P : Places) (M' : Memory)
    (whole : Whole env mix M G) (right : PlacesRight env mix G P M now) (met : ℕ → Bool) where
  abbrev Then : Ghost → Type 1
  Then G' = PlacesThen env mix now M G P M' G' met

  -- which tables stay
  abbrev stays : (G' : Ghost) → Made env mix c M G M' G' → TablesStay env mix G G'
  stays G' made = (made.others (c + 1) (λ e. absurd (omega arith))).tables

  -- who has no seat by now has lost it now, or had none
  dead_by : {G' : Ghost} {left P' : Places} → PlacesRight env mix G left M now → DeathsMove now G left G' P' → (n t : ℕ)
      → seat_of (G'.node n) ≡ None → P'.dead n ≡ Some t → DiesNow now G n t ⊎ HadDied G left n t
  dead_by {left = left} of_left deaths n t seatless is = go (seat_of (G.node n)) refl
    where
      go : (seat : Option ℕ) → seat_of (G.node n) ≡ seat → DiesNow now G n t ⊎ HadDied G left n t
      go None before =
          let dead = sym (deaths.kept n before) ∙ is in
          inr (record { used = of_left.died_used n t dead; none = before; dead = dead })
      go (Some j) sits =
          inl (record { bucket = j; seat = sits; is_now = some-same now t (sym (deaths.died n j sits seatless) ∙ is) })

  had_left : (low n t : ℕ) → DiesNow now G n t ⊎ HadDied G (places_from low G P) n t → DiesNow now G n t ⊎ HadDied G P n t
  had_left low n t (inl dies) = inl dies
  had_left low n t (inr had) = inr (record { used = had.used; none = had.none; dead = had.dead })

  -- one that gives back none: places in buckets of tables that it may give back are forgotten first
  still_then : (move : Move) → ReadyFor env mix c M G move → Made env mix c M G M' (ghost_after env mix c move G)
      → ((n : ℕ) → move ≡ ReturnsNode n → ⊥) → Then (ghost_after env mix c move G)
  still_then move ready made none =
      let G' = ghost_after env mix c move G in
      let stay = stays G' made in
      let low = stay.low in
      let left = places_from low G P in
      let right_then = right_left env mix low now M G P whole stay.current right in
      let step = places_step env mix now c low M G left M' whole right_then stay.current
      (λ i n p is. (place_was env mix low now M G P i n p is).0) move ready
      (record {
        made = made;
        owners = owners_stay env mix c M M' G whole move ready made none;
        pages = stay.grow.pages;
      }) in
      record {
        stay = stay;
        places = step.places;
        right_now = step.right_now;
        deaths_now = λ deaths. deaths_after env mix now M G left M' G' step.places step.frame whole step.deaths right_then
            (deaths_left env mix low now M G P deaths);
        dead = λ n t used seatless is. had_left low n t (dead_by right_then step.deaths n t seatless is);
        looks = λ port seen since began Says Says' said absent seen_met state stood from known.
            look_stays env mix port seen since now M G left M' G' whole made.whole right_then low step stay.grow began Says Says' said absent
            state from (look_left env mix low now M G P whole port seen since Says state from known);
        stages = λ port seen since began Said Said' said absent seen_met stage stood from known.
            stage_stays env mix port seen since now M G left M' G' whole made.whole right_then low step stay.grow began Said Said' said absent
            stage from (stage_left env mix low now M G P whole port seen since Said stage from known);
        of_ports = λ of_ports. port_places_then env mix now M G left M' G' whole made.whole right_then step stay.grow
            (ports_left env mix low now M G P whole stay.current right of_ports);
        kept = λ i n p is from at. step.move.kept i n p (place_left env mix low now M G P i n from ∙ at);
      }

  -- and one that does
  given_then : (n : ℕ) → ReadyFor env mix c M G (ReturnsNode n) → Made env mix c M G M' (with_owner G n Free) → IsGiven env M M' met n
      → Then (with_owner G n Free)
  given_then n mine made given = record {
    stay = stays (with_owner G n Free) made;
    places = kept_places G met P;
    right_now = right_then env mix now c n M M' G P whole right mine given.words met given.unmet;
    deaths_now = deaths_then env mix now c n M M' G P whole right mine given.words met given.unmet;
    dead = λ m t used seatless is. inr (record {
      used = was_used env mix now c n M M' G P whole right mine given.words met given.unmet m used;
      none = sym (same_seat env mix now c n M M' G P whole right mine given.words met given.unmet m) ∙ seatless;
      dead = (dead_was env mix now c n M M' G P whole right mine given.words met given.unmet m t is).1;
    });
    looks = λ port seen since began Says Says' said absent seen_met state stood from known.
        let stay = stays (with_owner G n Free) made in
        look_given env mix now c n M M' G P whole right mine given.words met given.unmet port seen seen_met since
        stay.low stay.grow Says Says' said state stood from known;
    stages = λ port seen since began Said Said' said absent seen_met stage stood from known.
        stage_then env mix now c n M M' G P whole right mine given.words met given.unmet port seen seen_met since Said Said' said stage stood
        known;
    of_ports = port_places_given env mix now c n M M' G P whole right mine given.words met given.unmet;
    kept = λ i m p is from at.
        place_stays env mix now c n M M' G P whole right mine given.words met given.unmet i m
        (met_kept env mix now c n M M' G P whole right mine given.words met given.unmet m is) ∙ at;
  }

  pub places_then : (move : Move) → ReadyFor env mix c M G move → Made env mix c M G M' (ghost_after env mix c move G)
      → ((n : ℕ) → move ≡ ReturnsNode n → IsGiven env M M' met n) → Then (ghost_after env mix c move G)
  places_then move ready made given = elim (returned move) [
    | inl back ↦
        subst (λ m. ReadyFor env mix c M G m → Made env mix c M G M' (ghost_after env mix c m G) → Then (ghost_after env mix c m G))
        (sym back.1) (λ mine made. given_then back.0 mine made (given back.0 back.1)) ready made
    | inr none ↦ still_then move ready made none
  ]
