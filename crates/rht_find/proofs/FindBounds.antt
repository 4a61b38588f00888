-- A look-up leaves a table after a bounded number of operations, whatever it finds there.
--
-- Each operation before the load of the table's future leaves fewer to come (`lessens`). On the way to the bucket the next state is the
-- next one of four. Along a chain one more node is visited, of which there are so many; and where the bucket is walked anew, one walk
-- fewer is left.
use Rattle.std.proofs.Common.{◌≡◌, ℕ, suc, ◌+◌, ◌*◌, ◌-◌, ◌/◌, ◌<◌, ◌≤◌, nat_lt, cond, Bool, true, false, List, [], ◌∷◌, length, Option, Some, None, inl, inr, refl, subst, arith}
use Rattle.std.specs.Prelude.{◌==◌}
use Rattle.std.specs.List.{All}
use Rattle.std.proofs.lemmas.Bool.{cond_both, ltb-true}
use Rattle.std.proofs.lemmas.List.Elements.{All-head, All-tail}
use Rattle.rht_words.specs.declared.env.Env.{Env}
use Rattle.rht_words.specs.declared.geometry.Geometry.{Geometry}
use Rattle.rht_words.specs.declared.machine.Next.{Next}
use Rattle.rht_words.specs.declared.machine.Next.TheVariants.{Go, Done}
use Rattle.rht_words.specs.declared.machine.Start.{Start}
use Rattle.rht_words.specs.declared.machine.Start.TheVariants as starts
use Rattle.rht_words.specs.Links.{node_of, head_of, marker_of, page_of}
use Rattle.rht_words.specs.Places.{CurrentTable, Slot, ShapeWord, SeedWord, FutureWord, Node, KeyWord, ChainLink, OwnerWord, PageWord, place_of}
use Rattle.rht_words.specs.Planned.{IsWord}
use Rattle.rht_words.specs.Ports.{word_of}
use Rattle.rht_policy.specs.Mix.{bucket_of}
use Rattle.rht_nest.specs.Place.{PlaceModel, entry_place, picked, place_new, went_behind, entry_seen}
use Rattle.rht_nest.specs.Reach.{ReachModel, reach_plan_at, reach_after_at, begun, followed}
use Rattle.rht_nest.specs.declared.place.Bucket.{Bucket}
use Rattle.rht_nest.specs.declared.place.Bucket.TheVariants as buckets
use Rattle.rht_nest.specs.declared.reach.ReachAt.{ReachAt}
use Rattle.rht_nest.specs.declared.reach.ReachAt.TheVariants as reaches
use Rattle.rht_find.specs.Find.{reached, walked_anew, chain_ended, led_to, led_on, compared, goes, locating, IsFindAtIn}
use Rattle.rht_find.specs.FindBound.{IsLookOp, LoadsOnly, LeavesTable, StaysInTable, IsInTable, reach_left, walks_left, left_in_table, table_steps, find_bound}
use Rattle.rht_find.specs.declared.find.Head.{Head}
use Rattle.rht_find.specs.declared.find.FindAt.{FindAt}
use Rattle.rht_find.specs.declared.find.FindAt.TheVariants as at
use Rattle.rht_find.proofs.FindStays.{find_stays}

-- ---- it only loads

module _ (env : Env) (caller : ℕ) where
  reach_loads : (g : Geometry) (table : ℕ) (state : ReachAt) → IsLookOp env caller (reach_plan_at g table state)
  reach_loads g table reaches.Shape = inl (place_of g (Slot table ShapeWord), refl)
  reach_loads g table (reaches.Seed shape) = inl (place_of g (Slot table SeedWord), refl)
  reach_loads g table (reaches.Entry place) = inl (entry_place place, refl)

pub loads_only : LoadsOnly
loads_only env caller at.Opening = inr refl
loads_only env caller at.CurrentTable = inl (place_of env.geometry CurrentTable, refl)
loads_only env caller (at.Locating reach) = reach_loads env caller reach.geometry reach.table reach.at
loads_only env caller (at.Heading head) = inl (head.place, refl)
loads_only env caller (at.Key head node visited) = inl (place_of env.geometry (Node node KeyWord), refl)
loads_only env caller (at.Link head node visited) = inl (place_of env.geometry (Node node ChainLink), refl)
loads_only env caller (at.Future table) = inl (place_of env.geometry (Slot table FutureWord), refl)
loads_only env caller (at.Owner node) = inl (place_of env.geometry (Node node OwnerWord), refl)
loads_only env caller (at.Closing reply) = inr refl

-- ---- each operation leaves fewer to come

-- of numbers, whatever `k` walks behind them take
less_by : (a b k : ℕ) → a < b → a + k < b + k
less_by a b k l = omega (arith, l)

some_left : (a k : ℕ) → 0 < a → 0 < a + k
some_left a k l = omega (arith, l)

none_more : (a k : ℕ) → 0 < a → k < a + k
none_more a k l = omega (arith, l)

module _ (mix : ℕ → ℕ → ℕ → ℕ) (env : Env) (port : ℕ) where
  abbrev N : ℕ
  N = env.geometry.nodes

  abbrev left_at : FindAt → ℕ
  left_at = left_in_table env

  -- ---- at the end of a chain

  anew_below : (head : Head) (bound : ℕ) → walks_left env head.left < bound → left_at (walked_anew head) < bound
  anew_below head bound less =
      cond_both (nat_lt 0 head.left) _ _ (λ state. left_at state < bound)
      (λ t.
      let some = ltb-true 0 head.left t in
      let same : head.left ≡ head.left - 1 + 1 = omega (arith, some) in
      subst (λ left. walks_left env left < bound) same less)
      (λ f. below_any (walks_left env head.left) bound less)
    where
      below_any : (k bound : ℕ) → k < bound → 0 < bound
      below_any k bound l = omega (arith, l)

  ended_below : (head : Head) (link bound : ℕ) → walks_left env head.left < bound → left_at (chain_ended head link) < bound
  ended_below head link bound less =
      cond_both (link == marker_of head.place) _ _ (λ state. left_at state < bound)
      (λ t. below_any (walks_left env head.left) bound less) (λ f. anew_below head bound less)
    where
      below_any : (k bound : ℕ) → k < bound → 0 < bound
      below_any k bound l = omega (arith, l)

  -- ---- along a chain

  -- what is left behind the load of a link, with so many visited
  abbrev at_link : Head → ℕ → ℕ
  at_link head visited = 2 * (N - visited) + 1 + walks_left env head.left

  led_below : (head : Head) (visited link : ℕ) (node : Option ℕ)
      → left_at (led_to env.geometry head visited link node) < at_link head visited
  led_below head visited link None =
      ended_below head link (at_link head visited)
      (none_more (2 * (N - visited) + 1) (walks_left env head.left) (omega arith))
  led_below head visited link (Some node) =
      cond_both (nat_lt visited N) _ _ (λ state. left_at state < at_link head visited)
      (λ t. less_by (2 * (N - visited)) (2 * (N - visited) + 1) (walks_left env head.left) (omega arith))
      (λ f. ended_below head link (at_link head visited)
      (none_more (2 * (N - visited) + 1) (walks_left env head.left) (omega arith)))

  compared_below : (head : Head) (node visited key : ℕ) → visited < N
      → left_at (compared port head node visited key) < 2 * (N - visited) + walks_left env head.left
  compared_below head node visited key few =
      cond_both (key == word_of port) _ _
      (λ state. left_at state < 2 * (N - visited) + walks_left env head.left)
      (λ t. some_left (2 * (N - visited)) (walks_left env head.left) (omega (arith, few)))
      (λ f. less_by (2 * (N - (visited + 1)) + 1) (2 * (N - visited)) (walks_left env head.left) (omega (arith, few)))

  -- one walk more
  one_more : (left : ℕ) → 2 * (N - 0) + 1 + walks_left env left ≡ walks_left env (left + 1)
  one_more left = omega arith

  -- ---- on the way to a bucket

  -- what is left once it is there
  abbrev at_head : ℕ
  at_head = walks_left env (env.config.rewalks + 1)

  -- behind an entry, or none
  place_below : (m : ReachModel) (place : PlaceModel) (next : Next Bucket) (bound : ℕ) → 0 < bound
      → (next ≡ Go → reach_left (reaches.Entry place) < bound)
      → left_at (reached env (followed m place next).0 (followed m place next).1) < bound + at_head
  place_below m place Go bound some goes_on = less_by (reach_left (reaches.Entry place)) bound at_head (goes_on refl)
  place_below m place (Done (buckets.At there)) bound some goes_on = none_more bound at_head some
  place_below m place (Done (buckets.Absent entry)) bound some goes_on = some_left bound at_head some

  few_entries : (place : PlaceModel) → reach_left (reaches.Entry place) < 3
  few_entries place = cond_both place.deep 2 1 (λ n. n < 3) (λ t. omega arith) (λ f. omega arith)

  some_entries : (place : PlaceModel) → 0 < reach_left (reaches.Entry place)
  some_entries place = cond_both place.deep 2 1 (λ n. 0 < n) (λ t. omega arith) (λ f. omega arith)

  begun_below : (m : ReachModel) (start : Start PlaceModel Bucket)
      → left_at (reached env (begun m start).0 (begun m start).1) < 3 + at_head
  begun_below m (starts.Running place) = less_by (reach_left (reaches.Entry place)) 3 at_head (few_entries place)
  begun_below m (starts.Done (buckets.At place)) = none_more 3 at_head (omega arith)
  begun_below m (starts.Done (buckets.Absent entry)) = some_left 3 at_head (omega arith)

  -- behind a first entry the last one, and behind that the bucket
  entry_below : (m : ReachModel) (place : PlaceModel) (page : Option ℕ)
      → let next = entry_seen place page in
      left_at (reached env (followed m next.0 next.1).0 (followed m next.0 next.1).1) < reach_left (reaches.Entry place) + at_head
  entry_below m place None =
      some_left (reach_left (reaches.Entry place)) at_head (some_entries place)
  entry_below m place (Some page) = go place.deep
    where
      next : PlaceModel
      next = record { geometry = place.geometry; entry = picked place page; rest = place.rest / 64; deep = false }

      go : (deep : Bool)
          → let to = went_behind place (cond deep (starts.Running next)
          (starts.Done (place_of place.geometry (PageWord (picked place page))))) in
          left_at (reached env (followed m to.0 to.1).0 (followed m to.0 to.1).1) < cond deep 2 1 + at_head
      go true = less_by 1 2 at_head (omega arith)
      go false = none_more 1 at_head (omega arith)

  reach_below : (m : ReachModel) (state : ReachAt) (word : ℕ)
      → left_at (reached env (reach_after_at mix port m state word).0 (reach_after_at mix port m state word).1)
      < reach_left state + at_head
  reach_below m reaches.Shape word = less_by 3 4 at_head (omega arith)
  reach_below m (reaches.Seed shape) word = begun_below m (place_new m.geometry shape (bucket_of mix port shape word))
  reach_below m (reaches.Entry place) word = entry_below m place (page_of place.geometry.pages word)

  -- ---- in each state

  pub lessens : (state : FindAt) (word : ℕ) → IsFindAtIn env state → IsInTable state
      → left_at (goes mix env port state word) < left_at state
  lessens at.Opening word within there = absurd there
  lessens at.CurrentTable word within there = absurd there
  lessens (at.Locating reach) word within there = reach_below reach reach.at word
  lessens (at.Heading head) word within there =
      let link = head_of head.place word in
      subst (λ most. left_at (led_on env.geometry head 0 link) < most) (one_more head.left)
      (led_below head 0 link (node_of N link))
  lessens (at.Key head node visited) word within there = compared_below head node visited word within.few
  lessens (at.Link head node visited) word within there = led_below head visited word (node_of N word)
  lessens (at.Future table) word within there = absurd there
  lessens (at.Owner node) word within there = absurd there
  lessens (at.Closing reply) word within there = absurd there

  -- so as many operations as are left are the most
  few_left : (words : List ℕ) (state : FindAt) → IsFindAtIn env state → All IsWord words
      → StaysInTable mix env port state words → length words ≤ left_at state
  few_left [] state within told stays = omega arith
  few_left (word ∷ words) state within told stays =
      let next = find_stays mix env port state word within (All-head IsWord word words told) in
      let less = lessens state word within stays.0 in
      let few = few_left words (goes mix env port state word) next (All-tail IsWord word words told) stays.1 in
      more (length words) (left_at (goes mix env port state word)) (left_at state) few less
    where
      more : (n a b : ℕ) → n ≤ a → a < b → suc n ≤ b
      more n a b l m = omega (arith, l, m)

pub leaves_table : LeavesTable
leaves_table mix env port table words table_in told stays =
    few_left mix env port words (locating env table) (record { geometry_same = refl; table_in = table_in; at_in = tt }) told stays

-- ---- in all tables

-- the way to the current table, eight tables with their futures, and the closing of the section are within the bound
pub within_bound : (env : Env) (made : ℕ) → made ≤ 2 + 8 * (table_steps env + 1) → made + 1 ≤ find_bound env
within_bound env made most = go (env.config.rewalks) env.geometry.nodes most
  where
    -- of walks and nodes
    go : (rewalks nodes : ℕ) → made ≤ 2 + 8 * (4 + (rewalks + 1) * (1 + 2 * nodes) + 1)
        → made + 1 ≤ 4 + 8 * (4 + (rewalks + 1) * (4 + 2 * nodes))
    go rewalks nodes most = omega (arith, most)
