-- What a look-up knows outlives an operation that gives back a node which no open section has met.
use Rattle.std.proofs.Common.{◌≡◌, ◌⊎◌, ℕ, ◌+◌, ◌<◌, Bool, true, List, [], ◌∷◌, Some, refl, sym, ◌∙◌, inl, inr}
use Rattle.std.specs.List.{AllByRecursion}
use Rattle.rht_words.specs.declared.env.Env.{Env}
use Rattle.rht_words.specs.Places.{Node, NodeWord, KeyWord}
use Rattle.rht_words.proofs.Memory.{Memory}
use Rattle.rht_model.specs.declared.history.Reply.{Reply}
use Rattle.rht_model.specs.declared.history.Reply.TheVariants.{Missing}
use Rattle.rht_find.specs.FindStanding.{standing_of_find}
use Rattle.rht_find.specs.declared.find.FindAt.{FindAt}
use Rattle.rht_find.specs.declared.find.FindAt.TheVariants as at
use Rattle.rht_ghost.proofs.Theory.Ghosts.{Free, Taken, Ghost, seat_of, seat_in, seat, with_owner}
use Rattle.rht_ghost.proofs.Theory.Wholes.{word_index, Whole, IsAt, AreFrom}
use Rattle.rht_ghost.proofs.Theory.Passed.{GrowsFrom}
use Rattle.rht_core.proofs.Finding.Places.{Places, PlacesRight}
use Rattle.rht_core.proofs.Finding.Deaths.{IsLate, late_used}
use Rattle.rht_core.proofs.Finding.Finders.{IsBeyond, IsUnder, HasVisited, IsAhead, IsBelow}
use Rattle.rht_core.proofs.Finding.FinderWays.{IsToward}
use Rattle.rht_core.proofs.Finding.GivenBack.{IsUnmet, kept_places, same_seat, met_kept, sitting_kept, place_was, place_stays, late_then}
use Rattle.rht_core.proofs.Finding.Stages.{Stage, Reaching, Heading, AtKey, AtLink, Ending, Owning, StageMeans}
use Rattle.rht_core.proofs.Finding.ReachSteps.{reaching-stays}
use Rattle.rht_core.proofs.Finding.Lookups.{LookMeans}

-- the node at which a look-up stands in a stage
abbrev pub node_at : Stage → List ℕ
node_at (Reaching slot) = []
node_at (Heading slot j) = []
node_at (AtKey slot j m visited) = m ∷ []
node_at (AtLink slot j m visited) = m ∷ []
node_at (Ending slot) = []
node_at (Owning m) = m ∷ []

module _ (env : Env) (mix : ℕ → ℕ → ℕ → ℕ) (now c n : ℕ) (M M' : Memory) (G : Ghost) (P : Places) (whole : Whole env mix M G)
    (right : PlacesRight env mix G P M now) (mine : G.node n ≡ Taken c)
    (same : (m : ℕ) (word : NodeWord) → m < env.geometry.nodes → M' (Node m word) ≡ M (Node m word))
    (met : ℕ → Bool) (unmet : IsUnmet env M met n) (port : ℕ) (seen : ℕ → Bool) (seen_met : (m : ℕ) → seen m ≡ true → met m ≡ true)
    (since : ℕ) where
  abbrev G' : Ghost
  G' = with_owner G n Free

  abbrev P' : Places
  P' = kept_places G met P

  -- who sits where stays, and so do places of nodes that have a seat, or were met
  seats : (m : ℕ) → seat_of (G'.node m) ≡ seat_of (G.node m)
  seats = same_seat env mix now c n M M' G P whole right mine same met unmet

  sits_at : (i m j : ℕ) → seat_of (G.node m) ≡ Some j → P'.place i m ≡ P.place i m
  sits_at i m j sits =
      place_stays env mix now c n M M' G P whole right mine same met unmet i m
      (sitting_kept env mix now c n M M' G P whole right mine same met unmet m j sits)

  stands_at : (i m : ℕ) → seen m ≡ true → P'.place i m ≡ P.place i m
  stands_at i m is =
      place_stays env mix now c n M M' G P whole right mine same met unmet i m
      (met_kept env mix now c n M M' G P whole right mine same met unmet m (seen_met m is))

  late : (m : ℕ) → seen m ≡ true → IsLate env G P since m → IsLate env G' P' since m
  late m is =
      late_then env mix now c n M M' G P whole right mine same met unmet since m
      (met_kept env mix now c n M M' G P whole right mine same met unmet m (seen_met m is))

  -- tables are what they were
  abbrev at_then : (slot : ℕ) → IsAt G slot → IsAt G' slot
  at_then slot at = record {
    table = at.table;
    attached = at.attached;
    slot_is = at.slot_is;
    on = λ σ from l. let there = at.on σ from l in record { has_slot = there.has_slot; index = there.index };
  }

  -- ---- the port

  same_port : seat G' port ≡ seat G port
  same_port = go (G.bound port)
    where
      go : (nodes : List ℕ) → seat_in G'.node nodes ≡ seat_in G.node nodes
      go [] = refl
      go (first ∷ behind) = seats first

  beyond_then : (τ : ℕ) → IsBeyond port G τ → IsBeyond port G' τ
  beyond_then τ beyond = record { bucket = beyond.bucket; seat_is = same_port ∙ beyond.seat_is; later = beyond.later }

  toward_then : (τ : ℕ) → IsToward port G τ → IsToward port G' τ
  toward_then τ toward = record { bucket = toward.bucket; seat_is = same_port ∙ toward.seat_is; least = toward.least }

  under_then : (j bound : ℕ) → IsUnder port G P j bound → IsUnder port G' P' j bound
  under_then j bound under = record {
    first = under.first;
    behind = under.behind;
    bound_to = under.bound_to;
    seat = seats under.first ∙ under.seat;
    at = under.at;
    is = sits_at j under.first j under.seat ∙ under.is;
    below = under.below;
  }

  visited_then : (j least visited : ℕ) → HasVisited env port seen M P j least visited → HasVisited env port seen M' P' j least visited
  visited_then j least visited visits = record {
    nodes = visits.nodes;
    distinct = visits.distinct;
    count = visits.count;
    among = visits.among;
    others = λ m i e. visits.others m i (sym (same m KeyWord (visits.among m i)) ∙ e);
    above = λ m q i is. visits.above m q i (place_was env mix now c n M M' G P whole right mine same met unmet j m q is).1;
    placed = λ m i none. visits.placed m i (sym (stands_at j m (visits.met m i)) ∙ none);
    met = visits.met;
  }

  ahead_then : (j m visited : ℕ) → seen m ≡ true → IsAhead env port seen M G P j m visited
      → IsAhead env port seen M' G' P' j m visited
  ahead_then j m visited stood ahead = record {
    at = ahead.at;
    is = stands_at j m stood ∙ ahead.is;
    under = under_then j (ahead.at + 1) ahead.under;
    visits = visited_then j (ahead.at + 1) visited ahead.visits;
  }

  below_then : (j m visited : ℕ) → seen m ≡ true → IsBelow env port seen M G P j m visited
      → IsBelow env port seen M' G' P' j m visited
  below_then j m visited stood below = record {
    at = below.at;
    is = stands_at j m stood ∙ below.is;
    under = under_then j below.at below.under;
    visits = visited_then j below.at visited below.visits;
  }

  -- ---- its stages

  module _ (Said Said' : Type 0) (said : Said → Said') where
    or_so : {A B : Type 0} → (A → B) → Said ⊎ A → Said' ⊎ B
    or_so so (inl was) = inl (said was)
    or_so so (inr is) = inr (so is)

    either : {A B C D : Type 0} → (A → B) → (C → D) → A ⊎ C → B ⊎ D
    either so other (inl is) = inl (so is)
    either so other (inr is) = inr (other is)

    pub stage_then : (stage : Stage) → AllByRecursion (λ m. seen m ≡ true) (node_at stage)
        → StageMeans env mix port seen since Said M G P stage → StageMeans env mix port seen since Said' M' G' P' stage
    stage_then (Reaching slot) stood (of, known) = (
      at_then slot of,
      or_so (toward_then _) known,
    )
    stage_then (Heading slot j) stood (at, known) = (
      record { of = at_then slot at.of; here = at.here },
      or_so (either (λ sits. same_port ∙ sits) (beyond_then _)) known,
    )
    stage_then (AtKey slot j m visited) stood (at, was_late, known) = (
      record { of = at_then slot at.of; here = at.here },
      late m stood.0 was_late,
      or_so (either (ahead_then j m visited stood.0) (beyond_then _)) known,
    )
    stage_then (AtLink slot j m visited) stood (at, was_late, known) = (
      record { of = at_then slot at.of; here = at.here },
      late m stood.0 was_late,
      or_so (either (below_then j m visited stood.0) (beyond_then _)) known,
    )
    stage_then (Ending slot) stood (of, known) = (
      at_then slot of,
      or_so (beyond_then _) known,
    )
    stage_then (Owning m) stood (was_late, key) = (
      late m stood.0 was_late,
      same m KeyWord (late_used env mix M G P whole since m was_late).0 ∙ key,
    )

  -- ---- and its states

  module _ (low : ℕ) (grow : GrowsFrom env mix low G G') (Says Says' : Reply → Type 0)
      (said : (reply : Reply) → Says reply → Says' reply) where
    stays : (stage : Stage) → AllByRecursion (λ m. seen m ≡ true) (node_at stage)
        → StageMeans env mix port seen since (Says Missing) M G P stage → StageMeans env mix port seen since (Says' Missing) M' G' P' stage
    stays = stage_then (Says Missing) (Says' Missing) (said Missing)

    pub look_given : (state : FindAt) → AllByRecursion (λ m. seen m ≡ true) (standing_of_find state).nodes
        → AreFrom low G (standing_of_find state).tables
        → LookMeans env mix port seen since Says M G P state → LookMeans env mix port seen since Says' M' G' P' state
    look_given at.Opening stood from known = tt
    look_given at.CurrentTable stood from known = tt
    look_given (at.Locating reach) stood from known =
        let of = known.0.0 in (
          (
            at_then reach.table of,
            or_so (Says Missing) (Says' Missing) (said Missing) (toward_then of.table) known.0.1,
          ),
          reaching-stays env mix low G G' grow port reach of (from reach.table (inl refl) of) known.1,
        )
    look_given (at.Heading head) stood from known = stays (Heading head.table (word_index env mix head.place)) tt known
    look_given (at.Key head node visited) stood from known =
        stays (AtKey head.table (word_index env mix head.place) node visited) stood known
    look_given (at.Link head node visited) stood from known =
        stays (AtLink head.table (word_index env mix head.place) node visited) stood known
    look_given (at.Future table) stood from known = stays (Ending table) tt known
    look_given (at.Owner node) stood from known = stays (Owning node) stood known
    look_given (at.Closing reply) stood from known = said reply known
