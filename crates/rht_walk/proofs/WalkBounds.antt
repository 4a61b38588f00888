-- How many operations a walk makes at most. Of each state it is shown how many are left: in the bucket at which it is, as many as nodes
-- may still be visited there; for each bucket behind it as many as a bucket takes; and the two behind the last one.
use Rattle.std.proofs.Common.{◌≡◌, ℕ, suc, ◌+◌, ◌-◌, ◌*◌, ◌/◌, ◌<◌, ◌≤◌, nat_lt, nat_le, cond, Bool, true, false, List, [], ◌∷◌, length, get_or, Option, Some, None, refl, sym, subst, arith}
use Rattle.std.specs.Prelude.{◌==◌, if◌then◌else◌}
use Rattle.std.proofs.lemmas.Bool.{cond_both, and_parts, ltb-true}
use Rattle.rht_words.specs.declared.op.Op.{Op}
use Rattle.rht_words.specs.declared.env.Env.{Env}
use Rattle.rht_words.specs.declared.geometry.Geometry.{Geometry}
use Rattle.rht_words.specs.declared.machine.Next.{Next}
use Rattle.rht_words.specs.declared.machine.Next.TheVariants.{Go, Done}
use Rattle.rht_words.specs.declared.machine.Start.TheVariants as starts
use Rattle.rht_words.specs.Places.{PageWord, place_of}
use Rattle.rht_words.specs.Links.{node_of, slot_of, head_of, marker_of, page_of, table_of}
use Rattle.rht_words.specs.Machines.{Performed, Ran, ran, went_on}
use Rattle.rht_words.specs.Shapes.{unpacked, size_of}
use Rattle.rht_nest.specs.Place.{PlaceModel, nested_place, picked, entry_seen, went_behind}
use Rattle.rht_nest.specs.Tables.{is_nested}
use Rattle.rht_model.specs.declared.history.Cursor.{Cursor}
use Rattle.rht_model.specs.declared.history.Reply.{Reply}
use Rattle.rht_model.specs.Rooms.{emptied}
use Rattle.rht_walk.specs.Walk.{Pairs, WalkModel, reply_of, room_after, fits, begun, visiting, next_bucket, bucket_ended, reached, chain_ended, led_to, led_on, unless_behind, chain_of, one_more, goes, says, walk_plan, walk_after, walk_new, IsWalkAtIn}
use Rattle.rht_walk.specs.WalkLaws.{Shown, with_room, walk_ran, bucket_bound, walk_bound, WalksSoon}
use Rattle.rht_walk.specs.declared.walk.Visit.{Visit}
use Rattle.rht_walk.specs.declared.walk.Chain.{Chain}
use Rattle.rht_walk.specs.declared.walk.WalkEnd.{WalkEnd}
use Rattle.rht_walk.specs.declared.walk.WalkEnd.TheVariants as ends
use Rattle.rht_walk.specs.declared.walk.WalkAt.{WalkAt}
use Rattle.rht_walk.specs.declared.walk.WalkAt.TheVariants as at
use Rattle.rht_walk.proofs.WalkPlanned.{step_of, with_room-first}
use Rattle.rht_walk.proofs.WalkStays.{walk_stays, some_buckets}

abbrev size : Visit → ℕ
size visit = size_of (unpacked visit.shape)

-- on the way to a bucket
abbrev way_left : PlaceModel → ℕ
way_left way = if way.deep then 2 else 1

-- behind the bucket at which it is
abbrev left_behind : Geometry → Visit → ℕ
left_behind g visit = (size visit - (visit.bucket + 1)) * bucket_bound g + 2

-- so many are left in a state from the first bucket on
abbrev left_of : Geometry → WalkAt → ℕ
left_of g at.Opening = 0
left_of g at.CurrentTable = 0
left_of g (at.Serial table) = 0
left_of g (at.Shape table serial) = 0
left_of g (at.Entry visit way) = way_left way + (2 + 3 * g.nodes) + left_behind g visit
left_of g (at.Heading visit place) = 2 + 3 * g.nodes + left_behind g visit
left_of g (at.Key chain node) = 3 * (g.nodes - chain.visited) + 1 + left_behind g chain.visit
left_of g (at.Owner chain node port) = 3 * (g.nodes - (chain.visited + 1)) + 3 + left_behind g chain.visit
left_of g (at.Link chain node) = 3 * (g.nodes - (chain.visited + 1)) + 2 + left_behind g chain.visit
left_of g (at.StrangeEnd visit) = 1 + left_behind g visit
left_of g (at.TableEnd table) = 2
left_of g (at.Closing end) = 1

-- it is at a bucket, or behind all
abbrev IsAtBucket : WalkAt → Type 0
IsAtBucket at.Opening = ⊥
IsAtBucket at.CurrentTable = ⊥
IsAtBucket (at.Serial table) = ⊥
IsAtBucket (at.Shape table serial) = ⊥
IsAtBucket (at.Entry visit way) = Unit {0}
IsAtBucket (at.Heading visit place) = Unit {0}
IsAtBucket (at.Key chain node) = Unit {0}
IsAtBucket (at.Owner chain node port) = Unit {0}
IsAtBucket (at.Link chain node) = Unit {0}
IsAtBucket (at.StrangeEnd visit) = Unit {0}
IsAtBucket (at.TableEnd table) = Unit {0}
IsAtBucket (at.Closing end) = Unit {0}

module _ (g : Geometry) (from : Option Cursor) (limit shown : ℕ) where
  abbrev N : ℕ
  N = g.nodes

  abbrev behind : Visit → ℕ
  behind = left_behind g

  abbrev left_at : WalkAt → ℕ
  left_at = left_of g

  -- and so many or fewer are left
  record IsFew (most : ℕ) (state : WalkAt) : Type 0 where
    at_bucket : IsAtBucket state
    few : left_at state ≤ most

  few_ways : (way : PlaceModel) → way_left way ≤ 2
  few_ways way = cond_both way.deep 2 1 (λ n. n ≤ 2) (λ t. omega arith) (λ f. omega arith)

  some_ways : (way : PlaceModel) → 1 ≤ way_left way
  some_ways way = cond_both way.deep 2 1 (λ n. 1 ≤ n) (λ t. omega arith) (λ f. omega arith)

  -- ---- at a bucket, and behind one

  visiting_few : (visit : Visit) → IsFew (bucket_bound g + behind visit) (visiting g visit)
  visiting_few visit =
      cond_both (is_nested visit.shape) _ _ (IsFew (bucket_bound g + behind visit))
      (λ t. record { at_bucket = tt; few = go (behind visit) (way_left (nested_place g visit.shape visit.bucket)) N (few_ways (nested_place g visit.shape visit.bucket)) })
      (λ f. record { at_bucket = tt; few = less (behind visit) N })
    where
      go : (k w n : ℕ) → w ≤ 2 → w + (2 + 3 * n) + k ≤ 4 + 3 * n + k
      go k w n l = omega (arith, l)

      less : (k n : ℕ) → 2 + 3 * n + k ≤ 4 + 3 * n + k
      less k n = omega arith

  -- one bucket fewer is left
  one_fewer : (buckets bucket : ℕ) → bucket + 1 < buckets
      → bucket_bound g + ((buckets - (bucket + 1 + 1)) * bucket_bound g + 2) ≡ (buckets - (bucket + 1)) * bucket_bound g + 2
  one_fewer buckets bucket low =
      let d = buckets - (bucket + 1 + 1) in
      let e : buckets - (bucket + 1) ≡ suc d = omega (arith, low) in
      rw e (go d (bucket_bound g))
    where
      go : (d b : ℕ) → b + (d * b + 2) ≡ suc d * b + 2
      go d b = omega arith

  next_few : (visit : Visit) (bound : ℕ) → bucket_bound g + behind visit ≤ bound
      → IsFew bound (next_bucket g limit shown visit)
  next_few visit bound least =
      cond_both (nat_le limit shown) _ _ (IsFew bound)
      (λ t. record { at_bucket = tt; few = some (behind visit) least })
      (λ f.
      let few = visiting_few visit in
      record { at_bucket = few.at_bucket; few = less (left_at (visiting g visit)) (bucket_bound g + behind visit) few.few least })
    where
      some : (k : ℕ) → bucket_bound g + k ≤ bound → 1 ≤ bound
      some k l = omega (arith, l)

      less : (a b : ℕ) → a ≤ b → b ≤ bound → a ≤ bound
      less a b l m = omega (arith, l, m)

  ended_few : (visit : Visit) → IsFew (behind visit) (bucket_ended g limit shown visit)
  ended_few visit =
      cond_both (nat_lt (visit.bucket + 1) (size visit)) _ _ (IsFew (behind visit))
      (λ t.
      let low = ltb-true (visit.bucket + 1) (size visit) t in
      next_few (record visit { bucket = visit.bucket + 1 }) (behind visit)
      (at_most (bucket_bound g + ((size visit - (visit.bucket + 1 + 1)) * bucket_bound g + 2)) (behind visit) (one_fewer (size visit) visit.bucket low)))
      (λ f. record { at_bucket = tt; few = two ((size visit - (visit.bucket + 1)) * bucket_bound g) })
    where
      at_most : (a b : ℕ) → a ≡ b → a ≤ b
      at_most a b e = omega (arith, e)

      two : (k : ℕ) → 2 ≤ k + 2
      two k = omega arith

  more : (most greater : ℕ) (state : WalkAt) → IsFew most state → most ≤ greater → IsFew greater state
  more most greater state few l =
      record { at_bucket = few.at_bucket; few = less (left_at state) most greater few.few l }
    where
      less : (a b c : ℕ) → a ≤ b → b ≤ c → a ≤ c
      less a b c l m = omega (arith, l, m)

  -- ---- along a chain

  chain_ended_few : (chain : Chain) (link : ℕ) → IsFew (1 + behind chain.visit) (chain_ended g limit shown chain link)
  chain_ended_few chain link =
      cond_both (link == marker_of chain.place) _ _ (IsFew (1 + behind chain.visit))
      (λ t. more (behind chain.visit) (1 + behind chain.visit) _ (ended_few chain.visit) (one (behind chain.visit)))
      (λ f. record { at_bucket = tt; few = same (1 + behind chain.visit) })
    where
      one : (k : ℕ) → k ≤ 1 + k
      one k = omega arith

      same : (k : ℕ) → k ≤ k
      same k = omega arith

  led_to_few : (chain : Chain) (link : ℕ) (node : Option ℕ)
      → IsFew (3 * (N - chain.visited) + 1 + behind chain.visit) (led_to g limit shown chain link node)
  led_to_few chain link None =
      more (1 + behind chain.visit) _ _ (chain_ended_few chain link) (least (N - chain.visited) (behind chain.visit))
    where
      least : (n k : ℕ) → 1 + k ≤ 3 * n + 1 + k
      least n k = omega arith
  led_to_few chain link (Some node) =
      cond_both (nat_lt chain.visited N) _ _ (IsFew (3 * (N - chain.visited) + 1 + behind chain.visit))
      (λ t. record { at_bucket = tt; few = same (3 * (N - chain.visited) + 1 + behind chain.visit) })
      (λ f. more (1 + behind chain.visit) _ _ (chain_ended_few chain link) (least (N - chain.visited) (behind chain.visit)))
    where
      same : (k : ℕ) → k ≤ k
      same k = omega arith

      least : (n k : ℕ) → 1 + k ≤ 3 * n + 1 + k
      least n k = omega arith

  -- ---- in each state

  -- fewer are left
  record IsFewer (bound : ℕ) (state : WalkAt) : Type 0 where
    at_bucket : IsAtBucket state
    fewer : left_at state < bound

  fewer_by : (most bound : ℕ) (state : WalkAt) → IsFew most state → most < bound → IsFewer bound state
  fewer_by most bound state few l =
      record { at_bucket = few.at_bucket; fewer = less (left_at state) most bound few.few l }
    where
      less : (a b c : ℕ) → a ≤ b → b < c → a < c
      less a b c l m = omega (arith, l, m)

  unless_fewer : (future : Option ℕ) (next : WalkAt) (bound : ℕ) → 1 < bound → IsFewer bound next
      → IsFewer bound (unless_behind future next)
  unless_fewer None next bound some few = few
  unless_fewer (Some table) next bound some few = record { at_bucket = tt; fewer = some }

  -- behind a first entry the last one, and behind that the bucket
  entry_fewer : (visit : Visit) (way : PlaceModel) (page : Option ℕ)
      → let next = entry_seen way page in
      IsFewer (way_left way + (2 + 3 * N) + behind visit) (reached g limit shown visit next.0 next.1)
  entry_fewer visit way None =
      fewer_by (behind visit) _ _ (ended_few visit) (some (way_left way) (2 + 3 * N) (behind visit) (some_ways way))
    where
      some : (w n k : ℕ) → 1 ≤ w → k < w + n + k
      some w n k l = omega (arith, l)
  entry_fewer visit way (Some page) = go way.deep
    where
      next : PlaceModel
      next = record { geometry = way.geometry; entry = picked way page; rest = way.rest / 64; deep = false }

      go : (deep : Bool)
          → let to = went_behind way (cond deep (starts.Running next) (starts.Done (place_of way.geometry (PageWord (picked way page))))) in
          IsFewer (cond deep 2 1 + (2 + 3 * N) + behind visit) (reached g limit shown visit to.0 to.1)
      go true = record { at_bucket = tt; fewer = omega arith }
      go false = record { at_bucket = tt; fewer = omega arith }

  led_on_fewer : (chain : Chain) (link bound : ℕ) → 3 * (N - chain.visited) + 1 + behind chain.visit < bound
      → IsFewer bound (led_on g limit shown chain link)
  led_on_fewer chain link bound l = fewer_by _ bound _ (led_to_few chain link (node_of g.nodes link)) l

  -- each operation from the first bucket on leaves fewer, but the last one
  lessens : (state : WalkAt) (word : ℕ) → IsAtBucket state → IsWalkAtIn g state
      → ((end : WalkEnd) → state ≡ at.Closing end → ⊥)
      → IsFewer (left_at state) (goes g from limit shown state word)
  lessens at.Opening word there within unended = absurd there
  lessens at.CurrentTable word there within unended = absurd there
  lessens (at.Serial table) word there within unended = absurd there
  lessens (at.Shape table serial) word there within unended = absurd there
  lessens (at.Entry visit way) word there within unended = entry_fewer visit way (page_of way.geometry.pages word)
  lessens (at.Heading visit place) word there within unended =
      led_on_fewer (chain_of visit place) (head_of place word) _ (less N (behind visit))
    where
      less : (n k : ℕ) → 3 * (n - 0) + 1 + k < 2 + 3 * n + k
      less n k = omega arith
  lessens (at.Key chain node) word there within unended =
      record { at_bucket = tt; fewer = less N chain.visited (behind chain.visit) within.few }
    where
      less : (n v k : ℕ) → v < n → 3 * (n - (v + 1)) + 3 + k < 3 * (n - v) + 1 + k
      less n v k l = omega (arith, l)
  lessens (at.Owner chain node port) word there within unended =
      record { at_bucket = tt; fewer = less (3 * (N - (chain.visited + 1))) (behind chain.visit) }
    where
      less : (n k : ℕ) → n + 2 + k < n + 3 + k
      less n k = omega arith
  lessens (at.Link chain node) word there within unended =
      led_on_fewer (one_more chain) word _ (less (3 * (N - (chain.visited + 1))) (behind chain.visit))
    where
      less : (n k : ℕ) → n + 1 + k < n + 2 + k
      less n k = omega arith
  lessens (at.StrangeEnd visit) word there within unended =
      unless_fewer (slot_of word) (bucket_ended g limit shown visit) (1 + behind visit) (some ((size visit - (visit.bucket + 1)) * bucket_bound g))
      (fewer_by (behind visit) _ _ (ended_few visit) (one (behind visit)))
    where
      some : (k : ℕ) → 1 < 1 + (k + 2)
      some k = omega arith

      one : (k : ℕ) → k < 1 + k
      one k = omega arith
  lessens (at.TableEnd table) word there within unended =
      unless_fewer (slot_of word) (at.Closing (ends.Walked None)) 2 (omega arith) (record { at_bucket = tt; fewer = omega arith })
  lessens (at.Closing end) word there within unended = absurd (unended end refl)

  some_left : (state : WalkAt) → IsAtBucket state → 1 ≤ left_at state
  some_left at.Opening there = absurd there
  some_left at.CurrentTable there = absurd there
  some_left (at.Serial table) there = absurd there
  some_left (at.Shape table serial) there = absurd there
  some_left (at.Entry visit way) there = omega arith
  some_left (at.Heading visit place) there = omega arith
  some_left (at.Key chain node) there = omega arith
  some_left (at.Owner chain node port) there = omega arith
  some_left (at.Link chain node) there = omega arith
  some_left (at.StrangeEnd visit) there = omega arith
  some_left (at.TableEnd table) there = omega arith
  some_left (at.Closing end) there = omega arith

  -- ---- where it begins

  -- a bucket and those behind it are no more than all
  whole : (visit : Visit) → visit.bucket < size visit
      → IsFew (size visit * bucket_bound g + 2) (visiting g visit)
  whole visit low =
      more (bucket_bound g + behind visit) (size visit * bucket_bound g + 2) _ (visiting_few visit)
      (go (size visit) visit.bucket low)
    where
      times : (d e b : ℕ) → b + (d * b + 2) ≤ (e + suc d) * b + 2
      times d e b = omega arith

      go : (buckets bucket : ℕ) → bucket < buckets
          → bucket_bound g + ((buckets - (bucket + 1)) * bucket_bound g + 2) ≤ buckets * bucket_bound g + 2
      go buckets bucket l =
          let d = buckets - (bucket + 1) in
          let e : buckets ≡ bucket + suc d = omega (arith, l) in
          subst (λ n. bucket_bound g + (d * bucket_bound g + 2) ≤ n * bucket_bound g + 2) (sym e)
          (times d bucket (bucket_bound g))

  begun_few : (start : Option Cursor) (table serial shape : ℕ)
      → IsFew (size_of (unpacked shape) * bucket_bound g + 2) (begun g start table serial shape)
  begun_few None table serial shape = whole (record { table = table; serial = serial; shape = shape; bucket = 0 }) (some_buckets shape)
  begun_few (Some cursor) table serial shape =
      cond_both (fits serial shape cursor) _ _ (IsFew (size_of (unpacked shape) * bucket_bound g + 2))
      (λ t.
      let parts = and_parts (cursor.serial == serial) (nat_lt cursor.bucket (size_of (unpacked shape))) t in
      whole (record { table = table; serial = serial; shape = shape; bucket = cursor.bucket })
      (ltb-true cursor.bucket (size_of (unpacked shape)) parts.1))
      (λ f. record { at_bucket = tt; few = some (size_of (unpacked shape) * bucket_bound g) })
    where
      some : (k : ℕ) → 1 ≤ k + 2
      some k = omega arith

-- ---- a call

-- Where it was told no more words it has made so many operations or fewer; and fewer where it goes on.
record IsShort (most : ℕ) (run : Ran Shown) : Type 0 where
  few : length run.steps ≤ most
  goes_on : run.next ≡ Go → length run.steps < most

-- a state's operation, and those behind it, where the state isn't the last one
longer : (step : Performed) (m : WalkModel) (rest : Ran Shown) (less most : ℕ) → less < most → IsShort less rest
    → IsShort most (went_on step (with_room (m, Go)).1 rest)
longer step m rest less most l short = record {
  few = let few = short.few in omega (arith, few, l);
  goes_on = λ is. let few = short.goes_on is in omega (arith, few, l);
}

ended_now : (step : Performed) (m : WalkModel) (reply : Reply) (rest : Ran Shown)
    → IsShort 1 (went_on step (with_room (m, Done reply)).1 rest)
ended_now step m reply rest = record { few = omega arith; goes_on = λ is. absurd (cc) }

module _ (g : Geometry) where
  abbrev left : WalkAt → ℕ
  left = left_of g

  by_state : (state : WalkAt) (room : Pairs) (m : WalkModel) (step : Performed) (rest : Ran Shown)
      → IsAtBucket state
      → (((end : WalkEnd) → state ≡ at.Closing end → ⊥) → (less : ℕ) × (less < left state) × IsShort less rest)
      → IsShort (left state) (went_on step (with_room (m, says room state)).1 rest)
  by_state at.Opening room m step rest there later = absurd there
  by_state at.CurrentTable room m step rest there later = absurd there
  by_state (at.Serial table) room m step rest there later = absurd there
  by_state (at.Shape table serial) room m step rest there later = absurd there
  by_state (at.Entry visit way) room m step rest there later =
      let l = later (λ end is. absurd (cc)) in longer step m rest l.0 _ l.1 l.2
  by_state (at.Heading visit place) room m step rest there later =
      let l = later (λ end is. absurd (cc)) in longer step m rest l.0 _ l.1 l.2
  by_state (at.Key chain node) room m step rest there later =
      let l = later (λ end is. absurd (cc)) in longer step m rest l.0 _ l.1 l.2
  by_state (at.Owner chain node port) room m step rest there later =
      let l = later (λ end is. absurd (cc)) in longer step m rest l.0 _ l.1 l.2
  by_state (at.Link chain node) room m step rest there later =
      let l = later (λ end is. absurd (cc)) in longer step m rest l.0 _ l.1 l.2
  by_state (at.StrangeEnd visit) room m step rest there later =
      let l = later (λ end is. absurd (cc)) in longer step m rest l.0 _ l.1 l.2
  by_state (at.TableEnd table) room m step rest there later =
      let l = later (λ end is. absurd (cc)) in longer step m rest l.0 _ l.1 l.2
  by_state (at.Closing end) room m step rest there later = ended_now step m (reply_of room end) rest

-- from the first bucket on
short_from : (olds : List ℕ) (m : WalkModel) → IsAtBucket m.at
    → IsWalkAtIn m.env.geometry m.at
    → IsShort (left m.env.geometry m.at) (ran walk_plan step_of m olds)
short_from [] m there within =
    let some = some_left m.env.geometry m.from m.limit (length m.room.items) m.at there in
    record { few = omega arith; goes_on = λ is. omega (arith, some) }
short_from (old ∷ olds) m there within =
    let g = m.env.geometry in
    let shown = length m.room.items in
    let next = (walk_after m old).0 in
    by_state g m.at (room_after m.at m.room old) next (record { op = walk_plan m; old = old })
    (ran walk_plan step_of (step_of m old).0 olds) there
    (λ unended.
    let fewer = lessens g m.from m.limit shown m.at old there within unended in (
      left g next.at,
      fewer.fewer,
      subst (λ n. IsShort (left g next.at) (ran walk_plan step_of n olds))
          (sym (with_room-first next (walk_after m old).1))
          (short_from olds next fewer.at_bucket (walk_stays g m.from m.limit shown m.at old within)),
    ))

-- and from the beginning
short_call : (env : Env) (caller : ℕ) (from : Option Cursor) (limit : ℕ) (room : Pairs) (olds : List ℕ)
    → IsShort (walk_bound env.geometry (size_of (unpacked (get_or olds 3 0)))) (walk_ran env caller from limit room olds)
short_call env caller from limit room [] = record { few = omega arith; goes_on = λ is. omega arith }
short_call env caller from limit room (a ∷ []) = record { few = omega arith; goes_on = λ is. omega arith }
short_call env caller from limit room (a ∷ b ∷ []) = record { few = omega arith; goes_on = λ is. omega arith }
short_call env caller from limit room (a ∷ b ∷ c ∷ []) = record { few = omega arith; goes_on = λ is. omega arith }
short_call env caller from limit room (a ∷ b ∷ c ∷ shape ∷ olds) =
    let g = env.geometry in
    let m : WalkModel = record { env = env; caller = caller; from = from; limit = limit; room = emptied room; at = begun g from (table_of b) c shape } in
    let begins = begun_few g from limit 0 from (table_of b) c shape in
    let short = short_from olds m begins.at_bucket (walk_stays g from limit 0 (at.Shape (table_of b) c) shape (omega arith)) in
    let few = begins.few in
    record {
      few = go (length (ran walk_plan step_of m olds).steps) (left g m.at) (size_of (unpacked shape) * bucket_bound g) short.few few;
      goes_on = λ is. go_on (length (ran walk_plan step_of m olds).steps) (left g m.at) (size_of (unpacked shape) * bucket_bound g) (short.goes_on is) few;
    }
  where
    go : (steps rest all : ℕ) → steps ≤ rest → rest ≤ all + 2 → suc (suc (suc (suc steps))) ≤ 6 + all
    go steps rest all l m = omega (arith, l, m)

    go_on : (steps rest all : ℕ) → steps < rest → rest ≤ all + 2 → suc (suc (suc (suc steps))) < 6 + all
    go_on steps rest all l m = omega (arith, l, m)

-- a machine that goes on has performed as many operations as it was told words
module _ {M R : Type 0} (plan : M → Op) (after : M → ℕ → M × Next R) where
  steps-of_olds : (m : M) (olds : List ℕ) → (ran plan after m olds).next ≡ Go
      → length (ran plan after m olds).steps ≡ length olds
  steps-of_olds m [] goes = refl
  steps-of_olds m (old ∷ olds) goes =
      by_next (record { op = plan m; old = old }) (after m old).1 (ran plan after (after m old).0 olds)
      (λ rest. steps-of_olds (after m old).0 olds rest) goes
    where
      by_next : (step : Performed) (next : Next R) (rest : Ran R) → (rest.next ≡ Go → length rest.steps ≡ length olds)
          → (went_on step next rest).next ≡ Go
          → length (went_on step next rest).steps ≡ length (old ∷ olds)
      by_next step Go rest same goes = let later = same goes in omega (arith, later)
      by_next step (Done answer) rest same goes = absurd (cc)

pub walks_soon : WalksSoon
walks_soon env caller from limit room olds =
    let short = short_call env caller from limit room olds in
    let few = short.few in
    record {
      few = few;
      ends = λ long goes. let as_many = steps-of_olds walk_plan step_of (walk_new env caller from limit room) olds goes in
          let fewer = short.goes_on goes in
          absurd (omega (arith, long, as_many, fewer));
    }
