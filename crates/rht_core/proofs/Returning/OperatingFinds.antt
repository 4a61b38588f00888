-- On what a look-up's operations are made.
use Rattle.std.proofs.Common.{ℕ, ◌<◌, Bool, List, refl, inl, inr, subst}
use Rattle.rht_words.specs.declared.env.Env.{Env}
use Rattle.rht_words.specs.Places.{CurrentTable, Section, Slot, FutureWord, Node, KeyWord, ChainLink, OwnerWord}
use Rattle.rht_model.specs.declared.history.Reply.{Reply}
use Rattle.rht_nest.specs.declared.reach.ReachAt.{ReachAt}
use Rattle.rht_find.specs.Find.{plan_at, IsFindAtIn}
use Rattle.rht_find.specs.FindHeld.{held_of_find}
use Rattle.rht_find.specs.FindStanding.{standing_of_find}
use Rattle.rht_find.specs.declared.find.FindAt.{FindAt}
use Rattle.rht_find.specs.declared.find.FindAt.TheVariants as at
use Rattle.rht_core.specs.Reach.{at_table}
use Rattle.rht_ghost.proofs.Pieces.Reaches.{IsReachingHome}
use Rattle.rht_ghost.proofs.Theory.Ghosts.{Ghost}
use Rattle.rht_ghost.proofs.Theory.Steps.{mem}
use Rattle.rht_ghost.proofs.Theory.Wholes.{Whole}
use Rattle.rht_core.proofs.Finding.Lookups.{LookMeans}
use Rattle.rht_core.proofs.Finding.Places.{Places}
use Rattle.rht_core.proofs.Returning.Operating.{Lies, nothing_own, reach_lies, page_lies}
use Rattle.rht_core.proofs.Returning.OperatingWays.{home_page, way_entry}

module _ (env : Env) (mix : ℕ → ℕ → ℕ → ℕ) (port : ℕ) (seen : ℕ → Bool) (since : ℕ) (Says : Reply → Type 0) (words : List ℕ) (G : Ghost) (P : Places)
    (whole : Whole env mix (mem env mix words) G) where
  -- a look-up has nothing of its own
  abbrev Is : ℕ → FindAt → Type 0
  Is c state = Lies env mix words G (held_of_find state) (standing_of_find state) (nothing_own c) (plan_at env c state)

  pub find_lies : (c : ℕ) → c < 16 → (state : FindAt) → IsFindAtIn env state
      → LookMeans env mix port seen since Says (mem env mix words) G P state → Is c state
  find_lies c low at.Opening within known = record { address = Section c; there = low; on = refl; may = refl }
  find_lies c low at.CurrentTable within known = record { address = CurrentTable; there = tt; on = refl; may = refl }
  find_lies c low (at.Locating reach) within known =
      let from = standing_of_find (at.Locating reach) in
      reach_lies env mix words G _ from _ reach within refl (inl refl) (λ place is.
      let way = subst (λ (state : ReachAt). IsReachingHome env mix G port known.0.0.table state) is known.1 in
      way_entry env mix words G whole from _ reach.table place known.0.0 (at_table reach.table (inl refl)) way)
  find_lies c low (at.Heading head) within known =
      let from = standing_of_find (at.Heading head) in
      page_lies env mix words G _ from _ (plan_at env c (at.Heading head)) head.place within.place_in refl refl
      (home_page env mix words G whole from port head.table _ known.0.of (at_table head.table (inl refl)) known.0.here)
  find_lies c low (at.Key head node visited) within known =
      record { address = Node node KeyWord; there = within.node_in; on = refl; may = inr (refl, inl (inl refl)) }
  find_lies c low (at.Link head node visited) within known =
      record { address = Node node ChainLink; there = within.node_in; on = refl; may = inr (refl, inl (inl refl)) }
  find_lies c low (at.Future table) within known =
      record { address = Slot table FutureWord; there = (within, tt); on = refl; may = λ w. inr (refl, inl refl) }
  find_lies c low (at.Owner node) within known =
      record { address = Node node OwnerWord; there = within; on = refl; may = inr (refl, inl (inl refl)) }
  find_lies c low (at.Closing reply) within known = record { address = Section c; there = low; on = refl; may = refl }
