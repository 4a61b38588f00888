-- Which operations load the key of no node: those that are no loads, and the loads of other places.
use Rattle.std.proofs.Common.{◌≡◌, ◌≢◌, ℕ, Bool, ◌<◌, sym, ap, ◌∙◌, arith, ◌≤◌}
use Rattle.rht_words.specs.declared.op.Op.{Op}
use Rattle.rht_words.specs.declared.op.Op.TheVariants.{Load}
use Rattle.rht_words.specs.declared.geometry.Geometry.{Geometry}
use Rattle.rht_words.specs.Places.{PageMap, Node, KeyWord, ChainLink, IsBucketPlace, nodes_at, place_of, pages_at}
use Rattle.rht_words.proofs.PlacesApart.{parts_in_order}
use Rattle.rht_arena.specs.TakeRun.{take_run_plan_at, IsTakeRunAtIn}
use Rattle.rht_arena.specs.declared.take_run.TakeRunAt.{TakeRunAt}
use Rattle.rht_arena.specs.declared.take_run.TakeRunAt.TheVariants as runs
use Rattle.rht_nest.specs.Make.{make_plan_at, IsMakeAtIn}
use Rattle.rht_nest.specs.declared.make.MakeAt.{MakeAt}
use Rattle.rht_nest.specs.declared.make.MakeAt.TheVariants as makes
use Rattle.rht_nest.specs.Grow.{grow_plan_at, IsGrowAtIn}
use Rattle.rht_nest.specs.declared.grow.GrowAt.{GrowAt}
use Rattle.rht_nest.specs.declared.grow.GrowAt.TheVariants as grows
use Rattle.rht_chain.specs.Lock.{lock_plan_at}
use Rattle.rht_chain.specs.declared.lock.LockAt.{LockAt}
use Rattle.rht_chain.specs.declared.lock.LockAt.TheVariants as locks
use Rattle.rht_core.specs.Traces.{Did}
use Rattle.rht_core.specs.ResizeCauses.{IsNoKeyLoad}

module _ (g : Geometry) where
  -- an operation that is no load
  pub no_key : (did : Did) (op : Op) → did.op ≡ op → ((place : ℕ) → op ≢ Load place) → IsNoKeyLoad g did
  no_key did op is none node loads = none (place_of g (Node node KeyWord)) (sym is ∙ loads.loads)

  -- a load of another place
  no_key-elsewhere : (did : Did) (place : ℕ) → did.op ≡ Load place
      → ((node : ℕ) → node < g.nodes → place ≢ place_of g (Node node KeyWord)) → IsNoKeyLoad g did
  no_key-elsewhere did place is apart node loads =
      apart node loads.node_in (let same = sym is ∙ loads.loads in cc)

  -- a load of a place before the nodes
  pub no_key-before : (did : Did) (place : ℕ) → did.op ≡ Load place → place < nodes_at g → IsNoKeyLoad g did
  no_key-before did place is low = no_key-elsewhere did place is (λ node below same. absurd (omega (arith, low, same)))

  -- or behind them
  pub no_key-behind : (did : Did) (place : ℕ) → did.op ≡ Load place → pages_at g ≤ place → IsNoKeyLoad g did
  no_key-behind did place is high =
      let order = parts_in_order g in
      no_key-elsewhere did place is (λ node below same. absurd (omega (arith, high, same, below, order.pages)))

  -- of a link of a node
  pub no_key-link : (did : Did) (node : ℕ) → did.op ≡ Load (place_of g (Node node ChainLink)) → IsNoKeyLoad g did
  no_key-link did node is =
      no_key-elsewhere did (place_of g (Node node ChainLink)) is (λ other below same. absurd (omega (arith, same)))

  -- and what takes the lock of a bucket
  pub no_key-lock : (did : Did) (place : ℕ) (state : LockAt) → IsBucketPlace g place → did.op ≡ lock_plan_at place state
      → IsNoKeyLoad g did
  no_key-lock did place locks.Word there is = no_key-behind did place is there.0
  no_key-lock did place (locks.Exchange word) there is = no_key did _ is (λ other load. cc)

  -- the making of a table loads words of the map of pages
  pub no_key-run : (pages : ℕ) (state : TakeRunAt) (did : Did) → IsTakeRunAtIn g pages state
      → did.op ≡ take_run_plan_at g pages state → IsNoKeyLoad g did
  no_key-run pages (runs.MapWord first index) did within is =
      let order = parts_in_order g in
      let run = within.run.within in
      let until = within.word.until in
      no_key-before did (place_of g (PageMap index)) is (omega (arith, order.nodes, run, until))
  no_key-run pages (runs.Claim first index) did within is = no_key did _ is (λ place load. cc)
  no_key-run pages (runs.GiveBack first index bits) did within is = no_key did _ is (λ place load. cc)

  pub no_key-make : (h : Geometry) (exponent seed : ℕ) (allowed : Bool) (state : MakeAt) (did : Did) → IsMakeAtIn g exponent allowed state
      → did.op ≡ make_plan_at h exponent seed state → IsNoKeyLoad g did
  no_key-make h exponent seed allowed (makes.Taking slot take) did within is =
      no_key-run take.pages take.at did within.take_in.at_in
      (is ∙ ap (λ (of : Geometry). take_run_plan_at of take.pages take.at) within.take_in.geometry_same)
  no_key-make h exponent seed allowed (makes.TakingTop slot take) did within is =
      no_key-run take.pages take.at did within.taking.take_in.at_in
      (is ∙ ap (λ (of : Geometry). take_run_plan_at of take.pages take.at) within.taking.take_in.geometry_same)
  no_key-make h exponent seed allowed _ did within is = no_key did _ is (λ place load. cc)

  -- nor does the entering of a page load one
  pub no_key-grow : (entry : ℕ) (state : GrowAt) (did : Did) → IsGrowAtIn g state → did.op ≡ grow_plan_at entry state
      → IsNoKeyLoad g did
  no_key-grow entry (grows.Taking take) did within is =
      no_key-run take.pages take.at did within.take_in.at_in
      (is ∙ ap (λ (h : Geometry). take_run_plan_at h take.pages take.at) within.take_in.geometry_same)
  no_key-grow entry (grows.Entering page) did within is = no_key did _ is (λ place load. cc)
  no_key-grow entry (grows.Giving there give) did within is = no_key did _ is (λ place load. cc)
