-- Whatever words it is told, a walk stays in its table: a case a state.
-- Slots, links and entries are read totally, so what they name is there or is none.
use Rattle.std.proofs.Common.{ℕ, ◌+◌, ◌<◌, nat_lt, nat_le, Option, Some, None, arith}
use Rattle.std.specs.Prelude.{IfSome, ◌==◌}
use Rattle.std.proofs.lemmas.Bool.{cond_both, and_parts, ltb-true}
use Rattle.rht_words.specs.declared.geometry.Geometry.{Geometry}
use Rattle.rht_words.specs.declared.machine.Next.{Next}
use Rattle.rht_words.specs.declared.machine.Next.TheVariants.{Go, Done}
use Rattle.rht_words.specs.Links.{node_of, slot_of, head_of, marker_of}
use Rattle.rht_words.specs.Places.{IsBucketPlace}
use Rattle.rht_words.specs.Shapes.{unpacked, size_of}
use Rattle.rht_words.proofs.LinksRead.{node_of-in}
use Rattle.rht_words.proofs.Rounding.{powers-rise}
use Rattle.rht_nest.specs.Place.{PlaceModel, place_after}
use Rattle.rht_nest.specs.Tables.{is_nested}
use Rattle.rht_nest.specs.declared.place.Bucket.{Bucket}
use Rattle.rht_nest.specs.declared.place.Bucket.TheVariants as buckets
use Rattle.rht_nest.proofs.BucketsApart.{flat_place_in}
use Rattle.rht_nest.proofs.Places.{PlaceStays, place_stays, nested_place_in}
use Rattle.rht_model.specs.declared.history.Cursor.{Cursor}
use Rattle.rht_walk.specs.Walk.{fits, begun, visiting, next_bucket, bucket_ended, reached, chain_ended, led_to, led_on, unless_behind, chain_of, one_more, goes, IsVisitIn, IsWalkAtIn}
use Rattle.rht_walk.specs.declared.walk.Visit.{Visit}
use Rattle.rht_walk.specs.declared.walk.Chain.{Chain}
use Rattle.rht_walk.specs.declared.walk.WalkAt.{WalkAt}
use Rattle.rht_walk.specs.declared.walk.WalkAt.TheVariants as at

-- each table has some buckets
pub some_buckets : (shape : ℕ) → 0 < size_of (unpacked shape)
some_buckets shape = powers-rise 0 _ (omega arith)

module _ (g : Geometry) (from : Option Cursor) (limit shown : ℕ) where
  abbrev IsIn : WalkAt → Type 0
  IsIn = IsWalkAtIn g

  pub visiting-in : (visit : Visit) → IsVisitIn visit → IsIn (visiting g visit)
  visiting-in visit within =
      cond_both (is_nested visit.shape) _ _ IsIn
      (λ t. record { visit_in = within; way_in = nested_place_in g visit.shape visit.bucket })
      (λ f. record { visit_in = within; place_in = flat_place_in g visit.shape visit.bucket })

  begun-in : (start : Option Cursor) (table serial shape : ℕ) → table < 8 → IsIn (begun g start table serial shape)
  begun-in None table serial shape table_in =
      visiting-in _ (record { table_in = table_in; bucket_in = some_buckets shape })
  begun-in (Some cursor) table serial shape table_in =
      cond_both (fits serial shape cursor) _ _ IsIn
      (λ t.
      let parts = and_parts (cursor.serial == serial) (nat_lt cursor.bucket (size_of (unpacked shape))) t in
      visiting-in _ (record {
        table_in = table_in;
        bucket_in = ltb-true cursor.bucket (size_of (unpacked shape)) parts.1;
      }))
      (λ f. tt)

  next_bucket-in : (visit : Visit) → IsVisitIn visit → IsIn (next_bucket g limit shown visit)
  next_bucket-in visit within = cond_both (nat_le limit shown) _ _ IsIn (λ t. tt) (λ f. visiting-in visit within)

  pub bucket_ended-in : (visit : Visit) → IsVisitIn visit → IsIn (bucket_ended g limit shown visit)
  bucket_ended-in visit within =
      cond_both (nat_lt (visit.bucket + 1) (size_of (unpacked visit.shape))) _ _ IsIn
      (λ t. next_bucket-in _ (record {
        table_in = within.table_in;
        bucket_in = ltb-true (visit.bucket + 1) (size_of (unpacked visit.shape)) t;
      }))
      (λ f. within.table_in)

  reached-in : (visit : Visit) (way : PlaceModel) (next : Next Bucket) → IsVisitIn visit → PlaceStays g (way, next)
      → IsIn (reached g limit shown visit way next)
  reached-in visit way Go within stays = record { visit_in = within; way_in = stays.place_in }
  reached-in visit way (Done (buckets.At place)) within stays =
      record { visit_in = within; place_in = stays.end_in }
  reached-in visit way (Done (buckets.Absent entry)) within stays = bucket_ended-in visit within

  chain_ended-in : (chain : Chain) (link : ℕ) → IsVisitIn chain.visit → IsIn (chain_ended g limit shown chain link)
  chain_ended-in chain link within =
      cond_both (link == marker_of chain.place) _ _ IsIn (λ t. bucket_ended-in chain.visit within) (λ f. within)

  led_to-in : (chain : Chain) (link : ℕ) (node : Option ℕ) → IsVisitIn chain.visit → IsBucketPlace g chain.place
      → IfSome node (λ n. n < g.nodes)
      → IsIn (led_to g limit shown chain link node)
  led_to-in chain link None within place_in node_in = chain_ended-in chain link within
  led_to-in chain link (Some node) within place_in node_in =
      cond_both (nat_lt chain.visited g.nodes) _ _ IsIn
      (λ t. record {
        visit_in = within;
        place_in = place_in;
        node_in = node_in;
        few = ltb-true chain.visited g.nodes t;
      })
      (λ f. chain_ended-in chain link within)

  led_on-in : (chain : Chain) (link : ℕ) → IsVisitIn chain.visit → IsBucketPlace g chain.place
      → IsIn (led_on g limit shown chain link)
  led_on-in chain link within place_in =
      led_to-in chain link (node_of g.nodes link) within place_in (node_of-in g link)

  unless_behind-in : (future : Option ℕ) (next : WalkAt) → IsIn next → IsIn (unless_behind future next)
  unless_behind-in None next within = within
  unless_behind-in (Some table) next within = tt

  pub walk_stays : (state : WalkAt) (word : ℕ) → IsIn state → IsIn (goes g from limit shown state word)
  walk_stays at.Opening word within = tt
  walk_stays at.CurrentTable word within = omega arith
  walk_stays (at.Serial table) word within = within
  walk_stays (at.Shape table serial) word within = begun-in from table serial word within
  walk_stays (at.Entry visit way) word within =
      reached-in visit (place_after way word).0 (place_after way word).1 within.visit_in
      (place_stays g way word within.way_in)
  walk_stays (at.Heading visit place) word within =
      led_on-in (chain_of visit place) (head_of place word) within.visit_in within.place_in
  walk_stays (at.Key chain node) word within = within
  walk_stays (at.Owner chain node port) word within = within
  walk_stays (at.Link chain node) word within =
      led_on-in (one_more chain) word within.visit_in within.place_in
  walk_stays (at.StrangeEnd visit) word within =
      unless_behind-in (slot_of word) (bucket_ended g limit shown visit) (bucket_ended-in visit within)
  walk_stays (at.TableEnd table) word within = unless_behind-in (slot_of word) _ tt
  walk_stays (at.Closing end) word within = tt
