-- What a look-up knows by the nodes that its section has met it knows by more of them; and where it stands nowhere, by any.
use Rattle.std.proofs.Common.{◌≡◌, ◌⊎◌, ℕ, ◌+◌, Bool, true, List, [], ◌∷◌, refl, sym, ◌∙◌, ap, inl, inr}
use Rattle.rht_words.specs.declared.env.Env.{Env}
use Rattle.rht_words.specs.Standing.{Standing, stands_nowhere}
use Rattle.rht_words.proofs.Memory.{Memory}
use Rattle.rht_model.specs.declared.history.Reply.{Reply}
use Rattle.rht_model.specs.declared.history.Reply.TheVariants.{Missing}
use Rattle.rht_find.specs.FindStanding.{standing_of_find}
use Rattle.rht_find.specs.declared.find.FindAt.{FindAt}
use Rattle.rht_find.specs.declared.find.FindAt.TheVariants as at
use Rattle.rht_ghost.proofs.Theory.Ghosts.{Ghost}
use Rattle.rht_ghost.proofs.Theory.Wholes.{word_index}
use Rattle.rht_core.proofs.Finding.Places.{Places}
use Rattle.rht_core.proofs.Finding.Finders.{HasVisited, IsAhead, IsBelow}
use Rattle.rht_core.proofs.Finding.Stages.{Stage, Reaching, Heading, AtKey, AtLink, Ending, Owning, StageMeans}
use Rattle.rht_core.proofs.Finding.Lookups.{LookMeans}

module _ (env : Env) (mix : ℕ → ℕ → ℕ → ℕ) (port : ℕ) (seen seen' : ℕ → Bool) (since : ℕ) (M : Memory) (G : Ghost) (P : Places) where
  module _ (keeps : (n : ℕ) → seen n ≡ true → seen' n ≡ true) where
    visited-seen : (j least visited : ℕ) → HasVisited env port seen M P j least visited → HasVisited env port seen' M P j least visited
    visited-seen j least visited visits = record {
      nodes = visits.nodes;
      distinct = visits.distinct;
      count = visits.count;
      among = visits.among;
      others = visits.others;
      above = visits.above;
      placed = visits.placed;
      met = λ n i. keeps n (visits.met n i);
    }

    ahead-seen : (j m visited : ℕ) → IsAhead env port seen M G P j m visited → IsAhead env port seen' M G P j m visited
    ahead-seen j m visited ahead = record {
      at = ahead.at;
      is = ahead.is;
      under = ahead.under;
      visits = visited-seen j (ahead.at + 1) visited ahead.visits;
    }

    below-seen : (j m visited : ℕ) → IsBelow env port seen M G P j m visited → IsBelow env port seen' M G P j m visited
    below-seen j m visited below = record {
      at = below.at;
      is = below.is;
      under = below.under;
      visits = visited-seen j below.at visited below.visits;
    }

    in_middle : {A B C D : Type 0} → (B → D) → A ⊎ B ⊎ C → A ⊎ D ⊎ C
    in_middle so (inl is) = inl is
    in_middle so (inr (inl is)) = inr (inl (so is))
    in_middle so (inr (inr is)) = inr (inr is)

    pub stage-seen : (Said : Type 0) (stage : Stage) → StageMeans env mix port seen since Said M G P stage
        → StageMeans env mix port seen' since Said M G P stage
    stage-seen Said (Reaching slot) known = known
    stage-seen Said (Heading slot j) known = known
    stage-seen Said (AtKey slot j m visited) known = (known.0, known.1, in_middle (ahead-seen j m visited) known.2)
    stage-seen Said (AtLink slot j m visited) known = (known.0, known.1, in_middle (below-seen j m visited) known.2)
    stage-seen Said (Ending slot) known = known
    stage-seen Said (Owning m) known = known

  module _ (Says : Reply → Type 0) where
    -- who stands at a node stands somewhere
    not_nowhere : (node : ℕ) (at : Standing) → at.nodes ≡ node ∷ [] → at ≡ stands_nowhere → ⊥
    not_nowhere node at stands none =
        let both : ◌≡◌ {A = List ℕ} (node ∷ []) [] = sym stands ∙ ap (λ (s : Standing). s.nodes) none in cc

    pub look_seen : (state : FindAt) → (standing_of_find state ≡ stands_nowhere) ⊎ ((n : ℕ) → seen n ≡ true → seen' n ≡ true)
        → LookMeans env mix port seen since Says M G P state → LookMeans env mix port seen' since Says M G P state
    look_seen at.Opening either known = tt
    look_seen at.CurrentTable either known = tt
    look_seen (at.Locating reach) either known = known
    look_seen (at.Heading head) either known = known
    look_seen (at.Key head node visited) (inl none) known = absurd (not_nowhere node _ refl none)
    look_seen (at.Key head node visited) (inr keeps) known =
        stage-seen keeps (Says Missing) (AtKey head.table (word_index env mix head.place) node visited) known
    look_seen (at.Link head node visited) (inl none) known = absurd (not_nowhere node _ refl none)
    look_seen (at.Link head node visited) (inr keeps) known =
        stage-seen keeps (Says Missing) (AtLink head.table (word_index env mix head.place) node visited) known
    look_seen (at.Future table) either known = known
    look_seen (at.Owner node) either known = known
    look_seen (at.Closing reply) either known = known
