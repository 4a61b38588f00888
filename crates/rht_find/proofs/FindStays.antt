-- Whatever words it is told, a look-up stays in its table: a case a state.
-- Slots, links and shapes are read totally, so what they name is there or is none.
use Rattle.std.proofs.Common.{ℕ, ◌<◌, nat_lt, Option, Some, None, refl, arith}
use Rattle.std.specs.Prelude.{IfSome}
use Rattle.std.specs.Prelude.{◌==◌}
use Rattle.std.proofs.lemmas.Bool.{cond_both, ltb-true}
use Rattle.rht_words.specs.declared.env.Env.{Env}
use Rattle.rht_words.specs.declared.geometry.Geometry.{Geometry}
use Rattle.rht_words.specs.declared.machine.Next.{Next}
use Rattle.rht_words.specs.declared.machine.Next.TheVariants.{Go, Done}
use Rattle.rht_words.specs.Links.{node_of, slot_of, head_of, marker_of}
use Rattle.rht_words.specs.Planned.{IsWord}
use Rattle.rht_words.specs.Ports.{word_of}
use Rattle.rht_words.proofs.LinksRead.{node_of-in, slot_of-in, IsSlotOrNone}
use Rattle.rht_nest.specs.Reach.{ReachModel, reach_after}
use Rattle.rht_nest.specs.declared.place.Bucket.{Bucket}
use Rattle.rht_nest.specs.declared.place.Bucket.TheVariants as buckets
use Rattle.rht_nest.proofs.Reaches.{ReachStays, reach_stays}
use Rattle.rht_find.specs.Find.{reached, walked_anew, chain_ended, led_to, led_on, compared, next_table, goes, IsHeadIn, IsFindAtIn}
use Rattle.rht_find.specs.declared.find.Head.{Head}
use Rattle.rht_find.specs.declared.find.FindAt.{FindAt}
use Rattle.rht_find.specs.declared.find.FindAt.TheVariants as at

module _ (mix : ℕ → ℕ → ℕ → ℕ) (env : Env) (port : ℕ) where
  abbrev g : Geometry
  g = env.geometry

  abbrev IsIn : FindAt → Type 0
  IsIn = IsFindAtIn env

  reached-in : (reach : ReachModel) (next : Next Bucket) → ReachStays g (reach, next) → IsIn (reached env reach next)
  reached-in reach Go stays = stays.reach_in
  reached-in reach (Done (buckets.At place)) stays =
      record { table_in = stays.reach_in.table_in; place_in = stays.end_in }
  reached-in reach (Done (buckets.Absent entry)) stays = stays.reach_in.table_in

  walked_anew-in : (head : Head) → IsHeadIn g head → IsIn (walked_anew head)
  walked_anew-in head within =
      cond_both (nat_lt 0 head.left) _ _ IsIn
      (λ t. record { table_in = within.table_in; place_in = within.place_in }) (λ f. within.table_in)

  chain_ended-in : (head : Head) (link : ℕ) → IsHeadIn g head → IsIn (chain_ended head link)
  chain_ended-in head link within =
      cond_both (link == marker_of head.place) _ _ IsIn (λ t. within.table_in) (λ f. walked_anew-in head within)

  led_to-in : (head : Head) (visited link : ℕ) (node : Option ℕ) → IsHeadIn g head → IfSome node (λ n. n < g.nodes)
      → IsIn (led_to g head visited link node)
  led_to-in head visited link None within node_in = chain_ended-in head link within
  led_to-in head visited link (Some node) within node_in =
      cond_both (nat_lt visited g.nodes) _ _ IsIn
      (λ t. record { head_in = within; node_in = node_in; few = ltb-true visited g.nodes t })
      (λ f. chain_ended-in head link within)

  led_on-in : (head : Head) (visited link : ℕ) → IsHeadIn g head → IsIn (led_on g head visited link)
  led_on-in head visited link within = led_to-in head visited link (node_of g.nodes link) within (node_of-in g link)

  compared-in : (head : Head) (node visited key : ℕ) → IsHeadIn g head → node < g.nodes → visited < g.nodes
      → IsIn (compared port head node visited key)
  compared-in head node visited key within node_in few =
      cond_both (key == word_of port) _ _ IsIn (λ t. node_in)
      (λ f. record { head_in = within; node_in = node_in; few = omega (arith, few) })

  next_table-in : (future : Option ℕ) → IsSlotOrNone future → IsIn (next_table env future)
  next_table-in None future_in = tt
  next_table-in (Some table) future_in = record { geometry_same = refl; table_in = future_in; at_in = tt }

  pub find_stays : (state : FindAt) (word : ℕ) → IsIn state → IsWord word → IsIn (goes mix env port state word)
  find_stays at.Opening word within told = tt
  find_stays at.CurrentTable word within told =
      record { geometry_same = refl; table_in = omega arith; at_in = tt }
  find_stays (at.Locating reach) word within told =
      reached-in (reach_after mix port reach word).0 (reach_after mix port reach word).1
      (reach_stays mix port g reach word within told)
  find_stays (at.Heading head) word within told = led_on-in head 0 (head_of head.place word) within
  find_stays (at.Key head node visited) word within told =
      compared-in head node visited word within.head_in within.node_in within.few
  find_stays (at.Link head node visited) word within told = led_on-in head visited word within.head_in
  find_stays (at.Future table) word within told = next_table-in (slot_of word) (slot_of-in word)
  find_stays (at.Owner node) word within told = tt
  find_stays (at.Closing reply) word within told = tt
