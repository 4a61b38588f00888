-- Where a look-up stands next it could reach before.
use Rattle.std.proofs.Common.{◌≡◌, ℕ, Bool, List, Option, Some, None, nat_lt, refl, sym, subst, inl}
use Rattle.std.specs.Prelude.{◌==◌}
use Rattle.std.proofs.lemmas.Bool.{cond_both}
use Rattle.rht_words.specs.declared.env.Env.{Env}
use Rattle.rht_words.specs.declared.machine.Next.{Next}
use Rattle.rht_words.specs.declared.machine.Next.TheVariants.{Go, Done}
use Rattle.rht_words.specs.Links.{node_of, head_of, marker_of, slot_of}
use Rattle.rht_words.specs.Operations.{old_of}
use Rattle.rht_words.specs.Ports.{word_of}
use Rattle.rht_words.specs.Standing.{Standing}
use Rattle.rht_model.specs.declared.history.Reply.{Reply}
use Rattle.rht_nest.specs.Reach.{ReachModel, reach_after, reach_plan}
use Rattle.rht_nest.specs.declared.place.Bucket.{Bucket}
use Rattle.rht_nest.specs.declared.place.Bucket.TheVariants as buckets
use Rattle.rht_nest.proofs.Reaches.{reach_after-table}
use Rattle.rht_find.specs.Find.{plan_at, goes, reached, chain_ended, led_to, next_table, IsFindAtIn}
use Rattle.rht_find.specs.FindStanding.{standing_of_find}
use Rattle.rht_find.specs.declared.find.Head.{Head}
use Rattle.rht_find.specs.declared.find.FindAt.{FindAt}
use Rattle.rht_find.specs.declared.find.FindAt.TheVariants as at
use Rattle.rht_core.specs.Reach.{at_table, at_current, by_future, at_node, by_chain, ReachesTable, ReachesNode}
use Rattle.rht_ghost.proofs.Theory.Ghosts.{Ghost}
use Rattle.rht_ghost.proofs.Theory.Wholes.{Whole, hash_in, word_index, place_at-index, at-there}
use Rattle.rht_ghost.proofs.Theory.Passed.{hash-below}
use Rattle.rht_ghost.proofs.Theory.Steps.{mem}
use Rattle.rht_core.proofs.Finding.Places.{Places}
use Rattle.rht_core.proofs.Finding.Stages.{IsHome}
use Rattle.rht_core.proofs.Finding.Lookups.{LookMeans}
use Rattle.rht_core.proofs.Returning.Coming.{Comes, to_nowhere, to_tables, to_nodes, IsBucketThere, first_reached}

module _ (env : Env) (mix : ℕ → ℕ → ℕ → ℕ) (port : ℕ) (seen : ℕ → Bool) (since : ℕ) (Says : Reply → Type 0) (words : List ℕ) (G : Ghost) (P : Places)
    (whole : Whole env mix (mem env mix words) G) where
  module _ (from : Standing) where
    abbrev To : FindAt → Type 0
    To next = Comes env.geometry words from (standing_of_find next)

    abbrev Table : ℕ → Type 0
    Table = ReachesTable env.geometry words from

    at_reached : (slot : ℕ) → Table slot → (next : ReachModel × Next Bucket) → next.0.table ≡ slot
        → To (reached env next.0 next.1)
    at_reached slot there (m, Go) same = to_tables _ _ _ _ (subst Table (sym same) there, tt)
    at_reached slot there (m, Done (buckets.At place)) same = to_tables _ _ _ _ (subst Table (sym same) there, tt)
    at_reached slot there (m, Done (buckets.Absent entry)) same = to_tables _ _ _ _ (subst Table (sym same) there, tt)

    -- at a chain's end it stays in the table
    at_end : (head : Head) (link : ℕ) → Table head.table → To (chain_ended head link)
    at_end head link there =
        cond_both (link == marker_of head.place) _ _ To (λ t. to_tables _ _ _ _ (there, tt))
        (λ f. cond_both (nat_lt 0 head.left) _ _ To (λ t. to_tables _ _ _ _ (there, tt)) (λ f. to_tables _ _ _ _ (there, tt)))

    -- and else it goes on to the node to which a link leads
    at_led : (head : Head) (visited link : ℕ) → Table head.table
        → (node : Option ℕ) → ((n : ℕ) → node ≡ Some n → ReachesNode env.geometry words from n)
        → To (led_to env.geometry head visited link node)
    at_led head visited link there None leads = at_end head link there
    at_led head visited link there (Some n) leads =
        cond_both (nat_lt visited env.geometry.nodes) _ _ To
        (λ t. to_nodes _ _ _ _ _ (there, tt) (leads n refl, tt)) (λ f. at_end head link there)

    at_next : (future : Option ℕ) → ((slot : ℕ) → future ≡ Some slot → Table slot) → To (next_table env future)
    at_next None leads = to_nowhere _ _ _
    at_next (Some slot) leads = to_tables _ _ _ _ (leads slot refl, tt)

  abbrev Goes : ℕ → FindAt → Type 0
  Goes c state = To (standing_of_find state) (goes mix env port state (old_of words (plan_at env c state)))

  -- the bucket of a look-up in the table at which it stands
  bucket_there : (head : Head) → (home_is : IsHome env mix port G head.table (word_index env mix head.place))
      → IsBucketThere env mix words G whole (standing_of_find (at.Heading head)) (word_index env mix head.place)
  bucket_there head home_is =
      let τ = home_is.of.table in
      record {
        slot = head.table;
        there = at_table head.table (inl refl);
        table = τ;
        is_there = at-there home_is.of;
        slot_is = home_is.of.slot_is;
        number = hash_in env mix G port τ;
        below = hash-below env mix (mem env mix words) G whole port τ;
        here = home_is.here;
      }

  pub find_comes : (c : ℕ) (state : FindAt) → IsFindAtIn env state
      → LookMeans env mix port seen since Says (mem env mix words) G P state → Goes c state
  find_comes c at.Opening within known = to_nowhere _ _ _
  find_comes c at.CurrentTable within known = to_tables _ _ _ _ (at_current refl, tt)
  find_comes c (at.Locating reach) within known =
      at_reached (standing_of_find (at.Locating reach)) reach.table (at_table reach.table (inl refl))
      (reach_after mix port reach (old_of words (reach_plan reach)))
      (reach_after-table mix port reach (old_of words (reach_plan reach)))
  find_comes c (at.Heading head) within known =
      let from = standing_of_find (at.Heading head) in
      let link = head_of head.place (old_of words (plan_at env c (at.Heading head))) in
      let same = place_at-index env mix head.place within.place_in in
      at_led from head 0 link (at_table head.table (inl refl)) (node_of env.geometry.nodes link)
      (λ n leads. first_reached env mix words G whole from (word_index env mix head.place) n (bucket_there head known.0)
      (subst (λ p. node_of env.geometry.nodes (head_of p (old_of words (plan_at env c (at.Heading (record head { place = p }))))) ≡ Some n)
      (sym same) leads))
  find_comes c (at.Key head node visited) within known =
      let from = standing_of_find (at.Key head node visited) in
      cond_both (old_of words (plan_at env c (at.Key head node visited)) == word_of port) _ _ (To from)
      (λ t. to_nodes _ _ _ _ _ tt (at_node node (inl refl), tt))
      (λ f. to_nodes _ _ _ _ _ (at_table head.table (inl refl), tt) (at_node node (inl refl), tt))
  find_comes c (at.Link head node visited) within known =
      let from = standing_of_find (at.Link head node visited) in
      let link = old_of words (plan_at env c (at.Link head node visited)) in
      at_led from head visited link (at_table head.table (inl refl)) (node_of env.geometry.nodes link)
      (λ n leads. by_chain node n (at_node node (inl refl)) leads)
  find_comes c (at.Future table) within known =
      at_next (standing_of_find (at.Future table)) (slot_of (old_of words (plan_at env c (at.Future table))))
      (λ slot leads. by_future table slot (at_table table (inl refl)) leads)
  find_comes c (at.Owner node) within known = to_nowhere _ _ _
  find_comes c (at.Closing reply) within known = to_nowhere _ _ _
