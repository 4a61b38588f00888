-- On what a walk's operations are made, and that it stands next only where it could come to before.
use Rattle.std.proofs.Common.{◌≡◌, ℕ, ◌+◌, ◌<◌, nat_lt, nat_le, List, Option, Some, None, refl, sym, subst, inl, inr}
use Rattle.std.specs.Prelude.{◌==◌}
use Rattle.std.proofs.lemmas.Bool.{cond_both}
use Rattle.rht_words.specs.declared.env.Env.{Env}
use Rattle.rht_words.specs.declared.machine.Next.{Next}
use Rattle.rht_words.specs.declared.machine.Next.TheVariants.{Go, Done}
use Rattle.rht_words.specs.Links.{node_of, slot_of, head_of, marker_of}
use Rattle.rht_words.specs.Operations.{old_of}
use Rattle.rht_words.specs.Places.{CurrentTable, Section, Slot, ShapeWord, FutureWord, SerialWord, Node, KeyWord, ChainLink, OwnerWord}
use Rattle.rht_words.specs.Shapes.{unpacked, size_of}
use Rattle.rht_words.specs.Standing.{Standing}
use Rattle.rht_nest.specs.Place.{PlaceModel, place_plan, place_after}
use Rattle.rht_nest.specs.Tables.{is_nested}
use Rattle.rht_nest.specs.declared.place.Bucket.{Bucket}
use Rattle.rht_nest.specs.declared.place.Bucket.TheVariants as buckets
use Rattle.rht_model.specs.declared.history.Cursor.{Cursor}
use Rattle.rht_walk.specs.Walk.{Pairs, plan_at, fits, begun, visiting, bucket_ended, reached, chain_ended, led_to, unless_behind, chain_of, one_more, goes, IsWalkAtIn}
use Rattle.rht_walk.specs.WalkHeld.{held_of_walk}
use Rattle.rht_walk.specs.WalkStanding.{standing_of_walk}
use Rattle.rht_walk.specs.declared.walk.Visit.{Visit}
use Rattle.rht_walk.specs.declared.walk.Chain.{Chain}
use Rattle.rht_walk.specs.declared.walk.WalkEnd.TheVariants as ends
use Rattle.rht_walk.specs.declared.walk.WalkAt.{WalkAt}
use Rattle.rht_walk.specs.declared.walk.WalkAt.TheVariants as at
use Rattle.rht_core.specs.Reach.{at_table, at_current, at_node, by_chain, ReachesTable, ReachesNode}
use Rattle.rht_ghost.proofs.Theory.Ghosts.{Ghost}
use Rattle.rht_ghost.proofs.Theory.Passed.{place-word}
use Rattle.rht_ghost.proofs.Theory.Steps.{mem}
use Rattle.rht_ghost.proofs.Theory.Wholes.{Whole, word_index, place_at-index, at-there}
use Rattle.rht_core.proofs.Returning.Coming.{Comes, to_nowhere, to_tables, to_nodes, IsBucketThere, first_reached}
use Rattle.rht_core.proofs.Returning.Operating.{Lies, nothing_own, page_lies, entry_lies}
use Rattle.rht_core.proofs.Returning.OperatingWays.{way_entry}
use Rattle.rht_core.proofs.Returning.TiedWalks.{tied_of_walk, number_below}

-- ---- it comes nowhere else

module _ (env : Env) (words : List ℕ) (at_first : Standing) (from : Option Cursor) (limit shown : ℕ) where
  abbrev To : WalkAt → Type 0
  To next = Comes env.geometry words at_first (standing_of_walk next)

  abbrev Table : ℕ → Type 0
  Table = ReachesTable env.geometry words at_first

  abbrev Nodes_there : ℕ → Type 0
  Nodes_there = ReachesNode env.geometry words at_first

  visiting-comes : (visit : Visit) → Table visit.table → To (visiting env.geometry visit)
  visiting-comes visit there =
      cond_both (is_nested visit.shape) _ _ To (λ t. to_tables _ _ _ _ (there, tt)) (λ f. to_tables _ _ _ _ (there, tt))

  begun-comes : (start : Option Cursor) (table serial shape : ℕ) → Table table → To (begun env.geometry start table serial shape)
  begun-comes None table serial shape there = visiting-comes _ there
  begun-comes (Some cursor) table serial shape there =
      cond_both (fits serial shape cursor) _ _ To (λ t. visiting-comes _ there) (λ f. to_nowhere _ _ _)

  bucket_ended-comes : (visit : Visit) → Table visit.table → To (bucket_ended env.geometry limit shown visit)
  bucket_ended-comes visit there =
      cond_both (nat_lt (visit.bucket + 1) (size_of (unpacked visit.shape))) _ _ To
      (λ t. cond_both (nat_le limit shown) _ _ To (λ t. to_nowhere _ _ _)
      (λ f. visiting-comes (record visit { bucket = visit.bucket + 1 }) there))
      (λ f. to_tables _ _ _ _ (there, tt))

  reached-comes : (visit : Visit) (way : PlaceModel) (next : Next Bucket) → Table visit.table
      → To (reached env.geometry limit shown visit way next)
  reached-comes visit way Go there = to_tables _ _ _ _ (there, tt)
  reached-comes visit way (Done (buckets.At place)) there = to_tables _ _ _ _ (there, tt)
  reached-comes visit way (Done (buckets.Absent entry)) there = bucket_ended-comes visit there

  chain_ended-comes : (chain : Chain) (link : ℕ) → Table chain.visit.table → To (chain_ended env.geometry limit shown chain link)
  chain_ended-comes chain link there =
      cond_both (link == marker_of chain.place) _ _ To (λ t. bucket_ended-comes chain.visit there) (λ f. to_tables _ _ _ _ (there, tt))

  led_to-comes : (chain : Chain) (link : ℕ) (node : Option ℕ) → Table chain.visit.table → ((n : ℕ) → node ≡ Some n → Nodes_there n)
      → To (led_to env.geometry limit shown chain link node)
  led_to-comes chain link None there leads = chain_ended-comes chain link there
  led_to-comes chain link (Some node) there leads =
      cond_both (nat_lt chain.visited env.geometry.nodes) _ _ To (λ t. to_nodes _ _ _ _ _ (there, tt) (leads node refl, tt))
      (λ f. chain_ended-comes chain link there)

  unless_behind-comes : (future : Option ℕ) (next : WalkAt) → To next → To (unless_behind future next)
  unless_behind-comes None next comes = comes
  unless_behind-comes (Some table) next comes = to_nowhere _ _ _

module _ (env : Env) (mix : ℕ → ℕ → ℕ → ℕ) (words : List ℕ) (G : Ghost) (whole : Whole env mix (mem env mix words) G) where
  -- the bucket at whose word it stands
  bucket_there : (visit : Visit) (place : ℕ) → IsWalkAtIn env.geometry (at.Heading visit place) → tied_of_walk env mix G (at.Heading visit place)
      → IsBucketThere env mix words G whole (standing_of_walk (at.Heading visit place)) (word_index env mix place)
  bucket_there visit place within tied = record {
    slot = visit.table;
    there = at_table visit.table (inl refl);
    table = tied.walked.of.table;
    is_there = at-there tied.walked.of;
    slot_is = tied.walked.of.slot_is;
    number = visit.bucket;
    below = number_below env mix words G whole visit within.visit_in tied.walked;
    here = tied.here;
  }

  pub walk_comes : (from : Option Cursor) (limit shown c : ℕ) (state : WalkAt) → IsWalkAtIn env.geometry state → tied_of_walk env mix G state
      → Comes env.geometry words (standing_of_walk state)
      (standing_of_walk (goes env.geometry from limit shown state (old_of words (plan_at env.geometry c state))))
  walk_comes from limit shown c at.Opening within tied = to_nowhere _ _ _
  walk_comes from limit shown c at.CurrentTable within tied = to_tables _ _ _ _ (at_current refl, tt)
  walk_comes from limit shown c (at.Serial table) within tied = to_tables _ _ _ _ (at_table table (inl refl), tt)
  walk_comes from limit shown c (at.Shape table serial) within tied =
      begun-comes env words (standing_of_walk (at.Shape table serial)) from limit shown from table serial _ (at_table table (inl refl))
  walk_comes from limit shown c (at.Entry visit way) within tied =
      let next = place_after way (old_of words (place_plan way)) in
      reached-comes env words (standing_of_walk (at.Entry visit way)) from limit shown visit next.0 next.1 (at_table visit.table (inl refl))
  walk_comes from limit shown c (at.Heading visit place) within tied =
      let here = standing_of_walk (at.Heading visit place) in
      let same = place_at-index env mix place within.place_in in
      let word = old_of words (plan_at env.geometry c (at.Heading visit place)) in
      led_to-comes env words here from limit shown (chain_of visit place) (head_of place word) (node_of env.geometry.nodes (head_of place word))
      (at_table visit.table (inl refl))
      (λ n leads. first_reached env mix words G whole here (word_index env mix place) n (bucket_there visit place within tied)
      (subst (λ p. node_of env.geometry.nodes (head_of p (old_of words (plan_at env.geometry c (at.Heading visit p)))) ≡ Some n)
      (sym same) leads))
  walk_comes from limit shown c (at.Key chain node) within tied =
      to_nodes _ _ _ _ _ (at_table chain.visit.table (inl refl), tt) (at_node node (inl refl), tt)
  walk_comes from limit shown c (at.Owner chain node port) within tied =
      to_nodes _ _ _ _ _ (at_table chain.visit.table (inl refl), tt) (at_node node (inl refl), tt)
  walk_comes from limit shown c (at.Link chain node) within tied =
      let word = old_of words (plan_at env.geometry c (at.Link chain node)) in
      led_to-comes env words (standing_of_walk (at.Link chain node)) from limit shown (one_more chain) word (node_of env.geometry.nodes word)
      (at_table chain.visit.table (inl refl)) (λ n leads. by_chain node n (at_node node (inl refl)) leads)
  walk_comes from limit shown c (at.StrangeEnd visit) within tied =
      let here = standing_of_walk (at.StrangeEnd visit) in
      unless_behind-comes env words here from limit shown (slot_of (old_of words (plan_at env.geometry c (at.StrangeEnd visit))))
      (bucket_ended env.geometry limit shown visit)
      (bucket_ended-comes env words here from limit shown visit (at_table visit.table (inl refl)))
  walk_comes from limit shown c (at.TableEnd table) within tied =
      let here = standing_of_walk (at.TableEnd table) in
      unless_behind-comes env words here from limit shown (slot_of (old_of words (plan_at env.geometry c (at.TableEnd table))))
      (at.Closing (ends.Walked None)) (to_nowhere _ _ _)
  walk_comes from limit shown c (at.Closing end) within tied = to_nowhere _ _ _

  -- ---- on what it operates

  -- a walk has nothing of its own
  pub walk_lies : (room : Pairs) (c : ℕ) → c < 16 → (state : WalkAt) → IsWalkAtIn env.geometry state → tied_of_walk env mix G state
      → Lies env mix words G (held_of_walk room state) (standing_of_walk state) (nothing_own c) (plan_at env.geometry c state)
  walk_lies room c low at.Opening within tied = record { address = Section c; there = low; on = refl; may = refl }
  walk_lies room c low at.CurrentTable within tied = record { address = CurrentTable; there = tt; on = refl; may = refl }
  walk_lies room c low (at.Serial table) within tied =
      record { address = Slot table SerialWord; there = (within, tt); on = refl; may = λ w. inr (refl, inl refl) }
  walk_lies room c low (at.Shape table serial) within tied =
      record { address = Slot table ShapeWord; there = (within, tt); on = refl; may = λ w. inr (refl, inl refl) }
  walk_lies room c low (at.Entry visit way) within tied =
      entry_lies env mix words G _ _ _ way within.way_in refl
      (way_entry env mix words G whole (standing_of_walk (at.Entry visit way)) visit.bucket visit.table way tied.walked.of
      (at_table visit.table (inl refl)) tied.to)
  walk_lies room c low (at.Heading visit place) within tied =
      let τ = tied.walked.of.table in
      page_lies env mix words G _ _ _ (plan_at env.geometry c (at.Heading visit place)) place within.place_in refl refl (record {
        table = τ;
        of =
            (place-word env mix (mem env mix words) G whole τ visit.bucket (word_index env mix place)
            (at-there tied.walked.of)
            (number_below env mix words G whole visit within.visit_in tied.walked) tied.here).of;
        there =
            subst (ReachesTable env.geometry words (standing_of_walk (at.Heading visit place)))
            (sym tied.walked.of.slot_is) (at_table visit.table (inl refl));
      })
  walk_lies room c low (at.Key chain node) within tied =
      record { address = Node node KeyWord; there = within.node_in; on = refl; may = inr (refl, inl (inl refl)) }
  walk_lies room c low (at.Owner chain node port) within tied =
      record { address = Node node OwnerWord; there = within.node_in; on = refl; may = inr (refl, inl (inl refl)) }
  walk_lies room c low (at.Link chain node) within tied =
      record { address = Node node ChainLink; there = within.node_in; on = refl; may = inr (refl, inl (inl refl)) }
  walk_lies room c low (at.StrangeEnd visit) within tied =
      record { address = Slot visit.table FutureWord; there = (within.table_in, tt); on = refl; may = λ w. inr (refl, inl refl) }
  walk_lies room c low (at.TableEnd table) within tied =
      record { address = Slot table FutureWord; there = (within, tt); on = refl; may = λ w. inr (refl, inl refl) }
  walk_lies room c low (at.Closing end) within tied = record { address = Section c; there = low; on = refl; may = refl }
