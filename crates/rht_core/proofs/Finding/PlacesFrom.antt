-- Tables before another one may be given back, and so the places in their buckets are forgotten before that. What is true of places is so of
-- those that are left: where links lead, and where the nodes of a port stand, is said of one bucket, or of that and one of a later table. No
-- node of a port is in a bucket of a table before the current one. And a look-up that stands in a table which stays knows what it knew.
use Rattle.std.proofs.Common.{◌≡◌, ◌⊎◌, ℕ, ◌≤◌, nat_lt, Bool, true, false, cond, [], ◌∷◌, Option, Some, None, refl, sym, ◌∙◌, ap, inl, inr, arith, ◌+◌}
use Rattle.std.proofs.lemmas.Bool.{ltb-false, le-ltb}
use Rattle.rht_words.specs.declared.env.Env.{Env}
use Rattle.rht_words.proofs.Memory.{Memory}
use Rattle.rht_model.specs.declared.history.Reply.{Reply}
use Rattle.rht_model.specs.declared.history.Reply.TheVariants.{Missing}
use Rattle.rht_find.specs.FindStanding.{standing_of_find}
use Rattle.rht_find.specs.declared.find.FindAt.{FindAt}
use Rattle.rht_find.specs.declared.find.FindAt.TheVariants as at
use Rattle.rht_ghost.proofs.Theory.Ghosts.{Leaving, Ghost, seat_of, table_of_page, table_at}
use Rattle.rht_ghost.proofs.Theory.Wholes.{chain_of, Whole, AreFrom, at-there, seated_at, word_index}
use Rattle.rht_ghost.proofs.Theory.Passed.{home-table}
use Rattle.rht_core.proofs.Finding.Falling.{falling-kept}
use Rattle.rht_core.proofs.Finding.Places.{Places, IsLow, Leads, IsLast, IsOfPort, PlacesRight}
use Rattle.rht_core.proofs.Finding.Deaths.{DeathsRight, IsLate}
use Rattle.rht_core.proofs.Finding.Finders.{IsUnder, HasVisited, IsAhead, IsBelow}
use Rattle.rht_core.proofs.Finding.Stages.{Stage, tables_at, Reaching, Heading, AtKey, AtLink, Ending, Owning, IsHome, StageMeans}
use Rattle.rht_core.proofs.Finding.Lookups.{LookMeans}
use Rattle.rht_core.proofs.Finding.PortPlaces.{HasDied, LeadsLower, EndsOrLeads, PortPlacesRight}

-- the places in buckets of tables that aren't before this one
abbrev pub places_from : ℕ → Ghost → Places → Places
places_from low G P = record {
  place = λ i n. cond (nat_lt (table_at G i) low) None (P.place i n);
  dead = P.dead;
}

module _ (env : Env) (mix : ℕ → ℕ → ℕ → ℕ) (low now : ℕ) (M : Memory) (G : Ghost) (P : Places) where
  abbrev P' : Places
  P' = places_from low G P

  -- ---- which places are left

  left : (before : Bool) (was : Option ℕ) (p : ℕ) → cond before None was ≡ Some p → (before ≡ false) × (was ≡ Some p)
  left true was p is = absurd (cc)
  left false was p is = (refl, is)

  pub place_was : (i n p : ℕ) → P'.place i n ≡ Some p → (low ≤ table_at G i) × (P.place i n ≡ Some p)
  place_was i n p is =
      let both = left (nat_lt (table_at G i) low) (P.place i n) p is in (ltb-false (table_at G i) low both.0, both.1)

  pub place_left : (i n : ℕ) → low ≤ table_at G i → P'.place i n ≡ P.place i n
  place_left i n from = ap (λ before. cond before None (P.place i n)) (le-ltb (table_at G i) low from)

  -- ---- what is true of them

  module _ (whole : Whole env mix M G) (current : low ≤ G.current) (right : PlacesRight env mix G P M now) where
    -- a port's first node is in a bucket of such a table
    pub seat_from : (n j : ℕ) → seat_of (G.node n) ≡ Some j → low ≤ table_at G j
    seat_from n j sits =
        let least = (seated_at env mix M G whole n j sits).at_home.current in omega (arith, current, least)

    sits_at : (j n : ℕ) → seat_of (G.node n) ≡ Some j → P'.place j n ≡ P.place j n
    sits_at j n sits = place_left j n (seat_from n j sits)

    low_left : (i p : ℕ) → IsLow G P i p → IsLow G P' i p
    low_left i p low f q sits is = low f q sits (place_was i f q is).1

    leads_left : (i link p : ℕ) → low ≤ table_at G i → Leads G P i link p → Leads G P' i link p
    leads_left i link p from (inl lowest) = inl (low_left i p lowest)
    leads_left i link p from (inr on) = inr (record {
      next = on.next;
      at = on.at;
      leads = on.leads;
      placed = place_left i on.next from ∙ on.placed;
      below = on.below;
      between = λ f q sits is. on.between f q sits (place_was i f q is).1;
    })

    last_left : (j entry : ℕ) → G.node entry ≡ Leaving j → IsLast G P' j entry
    last_left j entry leaving =
        let last = right.last j entry leaving in
        record {
          at = last.at;
          is = sits_at j entry (ap seat_of leaving) ∙ last.is;
          above = λ f q there is. last.above f q there (place_was j f q is).1;
        }

    of_port_left : (first j i p : ℕ) → seat_of (G.node first) ≡ Some j → IsOfPort G P first j i p → IsOfPort G P' first j i p
    of_port_left first j i p sits (inl here) = inl (here.0, sits_at j first sits ∙ here.1)
    of_port_left first j i p sits (inr elsewhere) =
        inr (record { other = elsewhere.other; low = low_left i p elsewhere.low; table = elsewhere.table })

    pub right_left : PlacesRight env mix G P' M now
    right_left = record {
      falls = λ j. falling-kept (P.place j) (P'.place j) (G.bucket j).nodes
          (λ n p there is. sits_at j n (ap seat_of (whole.owned.member j n there)) ∙ is) (right.falls j);
      last = last_left;
      placed = λ i n p is.
          let at = right.placed i n p (place_was i n p is).1 in
          record { early = at.early; among = at.among; used = at.used; table = at.table; of = at.of };
      keys = λ i n m p is other. right.keys i n m p (place_was i n p is).1 (place_was i m p other).1;
      of_port = λ port first behind n j i p bound there sits is.
          of_port_left first j i p sits (right.of_port port first behind n j i p bound there sits (place_was i n p is).1);
      leads = λ i n p none is.
          let was = place_was i n p is in leads_left i (chain_of M n) p was.0 (right.leads i n p none was.1);
      died_used = λ n t is. right.died_used n t is;
    }

    -- of ports
    lower_left : (i link p : ℕ) → low ≤ table_at G i → LeadsLower env mix P i link p → LeadsLower env mix P' i link p
    lower_left i link p from on = record {
      next = on.next;
      at = on.at;
      leads = on.leads;
      placed = place_left i on.next from ∙ on.placed;
      below = on.below;
    }

    ends_left : (i link p : ℕ) → low ≤ table_at G i → EndsOrLeads env mix G P i link p → EndsOrLeads env mix G P' i link p
    ends_left i link p from (inl out) =
        let later = out.later in
        let table : table_at G out.bucket ≡ out.table = ap table_of_page out.of in
        inl (record {
          bucket = out.bucket;
          within = out.within;
          table = out.table;
          of = out.of;
          later = out.later;
          attached = out.attached;
          to = elim out.to [
            | inl end ↦ inl end
            | inr on ↦ inr (on.0, lower_left out.bucket link on.0 (omega (arith, from, later, table)) on.1)
          ];
        })
    ends_left i link p from (inr (inl end)) = inr (inl end)
    ends_left i link p from (inr (inr on)) = inr (inr (lower_left i link p from on))

    died_left : (n : ℕ) → HasDied G P now n → HasDied G P' now n
    died_left n died = record { at = died.at; is = died.is; early = died.early; none = died.none }

    pub ports_left : PortPlacesRight env mix M G P now → PortPlacesRight env mix M G P' now
    ports_left of_ports = record {
      homes = λ i n p is. of_ports.homes i n p (place_was i n p is).1;
      small = λ i n p is. of_ports.small i n p (place_was i n p is).1;
      died = λ i n p is. elim (of_ports.died i n p (place_was i n p is).1) [
        | inl sits ↦ inl sits
        | inr died ↦ inr (died_left n died)
      ];
      newest = λ i n m p q is other key less.
          let gone = of_ports.newest i n m p q (place_was i n p is).1 (place_was i m q other).1 key less in
          record { apart = gone.apart; at = gone.at; is = gone.is; before = gone.before };
      lower = λ i n p none is.
          let was = place_was i n p is in ends_left i (chain_of M n) p was.0 (of_ports.lower i n p none was.1);
    }

  -- of nodes that died, whose places don't matter
  late_left : (since n : ℕ) → IsLate env G P since n → IsLate env G P' since n
  late_left since n (inl sits) = inl sits
  late_left since n (inr died) =
      inr (record { at = died.at; is = died.is; late = died.late; used = died.used; among = died.among })

  pub deaths_left : DeathsRight env M G P now → DeathsRight env M G P' now
  deaths_left deaths n t among used none is =
      let dead = deaths n t among used none is in
      record {
        at = dead.at;
        is = dead.is;
        early = dead.early;
        later = λ z leads. late_left dead.at z (dead.later z leads);
      }

  -- ---- what a look-up knows

  module _ (whole : Whole env mix M G) (port : ℕ) (seen : ℕ → Bool) (since : ℕ) where
    under_left : (j bound : ℕ) → low ≤ table_at G j → IsUnder port G P j bound → IsUnder port G P' j bound
    under_left j bound from under = record {
      first = under.first;
      behind = under.behind;
      bound_to = under.bound_to;
      seat = under.seat;
      at = under.at;
      is = place_left j under.first from ∙ under.is;
      below = under.below;
    }

    visited_left : (j least visited : ℕ) → low ≤ table_at G j → HasVisited env port seen M P j least visited
        → HasVisited env port seen M P' j least visited
    visited_left j least visited from visits = record {
      nodes = visits.nodes;
      distinct = visits.distinct;
      count = visits.count;
      among = visits.among;
      others = visits.others;
      above = λ n q there is. visits.above n q there (place_was j n q is).1;
      placed = λ n there none. visits.placed n there (sym (place_left j n from) ∙ none);
      met = visits.met;
    }

    ahead_left : (j m visited : ℕ) → low ≤ table_at G j → IsAhead env port seen M G P j m visited
        → IsAhead env port seen M G P' j m visited
    ahead_left j m visited from ahead = record {
      at = ahead.at;
      is = place_left j m from ∙ ahead.is;
      under = under_left j (ahead.at + 1) from ahead.under;
      visits = visited_left j (ahead.at + 1) visited from ahead.visits;
    }

    below_left : (j m visited : ℕ) → low ≤ table_at G j → IsBelow env port seen M G P j m visited
        → IsBelow env port seen M G P' j m visited
    below_left j m visited from below = record {
      at = below.at;
      is = place_left j m from ∙ below.is;
      under = under_left j below.at from below.under;
      visits = visited_left j below.at visited from below.visits;
    }

    -- its bucket is one of its table
    home_from : (slot j : ℕ) (at : IsHome env mix port G slot j) → AreFrom low G (slot ∷ []) → low ≤ table_at G j
    home_from slot j at from =
        let table = home-table env mix M G whole port at.of.table j (at-there at.of) at.here in
        let least = from slot (inl refl) at.of in
        omega (arith, table, least)

    or_other : {A B C D : Type 0} → (B → C) → A ⊎ B ⊎ D → A ⊎ C ⊎ D
    or_other so (inl said) = inl said
    or_other so (inr (inl is)) = inr (inl (so is))
    or_other so (inr (inr other)) = inr (inr other)

    pub stage_left : (Said : Type 0) (stage : Stage) → AreFrom low G (tables_at stage) → StageMeans env mix port seen since Said M G P stage
        → StageMeans env mix port seen since Said M G P' stage
    stage_left Said (Reaching slot) from known = known
    stage_left Said (Heading slot j) from known = known
    stage_left Said (AtKey slot j m visited) from (at, late, known) =
        (at, late_left since m late, or_other (ahead_left j m visited (home_from slot j at from)) known)
    stage_left Said (AtLink slot j m visited) from (at, late, known) =
        (at, late_left since m late, or_other (below_left j m visited (home_from slot j at from)) known)
    stage_left Said (Ending slot) from known = known
    stage_left Said (Owning m) from (late, key) = (late_left since m late, key)

    pub look_left : (Says : Reply → Type 0) (state : FindAt) → AreFrom low G (standing_of_find state).tables
        → LookMeans env mix port seen since Says M G P state → LookMeans env mix port seen since Says M G P' state
    look_left Says at.Opening from known = tt
    look_left Says at.CurrentTable from known = tt
    look_left Says (at.Locating reach) from known = known
    look_left Says (at.Heading head) from known = known
    look_left Says (at.Key head node visited) from known =
        stage_left (Says Missing) (AtKey head.table (word_index env mix head.place) node visited) from known
    look_left Says (at.Link head node visited) from known =
        stage_left (Says Missing) (AtLink head.table (word_index env mix head.place) node visited) from known
    look_left Says (at.Future table) from known = known
    look_left Says (at.Owner node) from known = stage_left (Says Missing) (Owning node) from known
    look_left Says (at.Closing reply) from known = known
