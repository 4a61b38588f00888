-- The last table that a call walked is the one whose shape it loaded last, and it had come to it before, from the current table on.
-- It stays so while the call loads no other shape; and neither what it does in a bucket nor what it stores
-- loads one. Nor does any
-- of that raise the count of ports.
use Rattle.std.proofs.Common.{◌≡◌, ◌≢◌, ℕ, ◌<◌, ◌≤◌, Option, Some, None, List, [], ◌∷◌, ◌++◌, refl, sym, ap, ◌∙◌, subst, append_assoc, arith}
use Rattle.std.specs.Prelude.{IfSome}
use Rattle.std.specs.List.{AllByRecursion, Any}
use Rattle.std.proofs.lemmas.Bool.{cond_both}
use Rattle.std.proofs.lemmas.List.Quantifiers.{Any-push}
use Rattle.rht_words.specs.declared.op.Op.{Op}
use Rattle.rht_words.specs.declared.op.Op.TheVariants.{Load, Add}
use Rattle.rht_words.specs.declared.geometry.Geometry.{Geometry}
use Rattle.rht_words.specs.Links.{table_of, slot_of}
use Rattle.rht_words.specs.Operations.{op_place}
use Rattle.rht_words.specs.Places.{CurrentTable, PageMap, PortCount, Section, Node, NodeWord, ChainLink, KeyWord, Slot, ShapeWord, SeedWord, FutureWord, PageWord, IsBucketPlace, nodes_at, pages_at, place_of}
use Rattle.rht_words.proofs.EachElement.{Any-append_left, AllByRecursion-push, AllByRecursion-append, AllByRecursion-weaker}
use Rattle.rht_words.proofs.PlacesApart.{parts_in_order}
use Rattle.rht_nest.specs.Locate.{LocateModel, locate_plan_at, locate_after_at, hashed, entry_followed, IsLocateAtIn}
use Rattle.rht_nest.specs.declared.locate.LocateAt.{LocateAt}
use Rattle.rht_nest.specs.declared.locate.LocateAt.TheVariants as locates
use Rattle.rht_nest.specs.declared.locate.Located.{Located}
use Rattle.rht_nest.specs.declared.locate.LocatedBucket.{LocatedBucket}
use Rattle.rht_nest.specs.declared.locate.LocatedBucket.TheVariants as buckets
use Rattle.rht_nest.specs.Tables.{is_nested}
use Rattle.rht_nest.specs.Place.{PlaceModel, entry_place, place_after, IsPlaceIn}
use Rattle.rht_nest.specs.declared.place.Bucket.{Bucket}
use Rattle.rht_nest.specs.declared.place.Bucket.TheVariants.{At, Absent}
use Rattle.rht_policy.specs.Mix.{bucket_of}
use Rattle.rht_words.specs.declared.machine.Next.{Next}
use Rattle.rht_words.specs.declared.machine.Next.TheVariants.{Go, Done}
use Rattle.rht_chain.specs.LockedWalk.{walk_plan_at}
use Rattle.rht_chain.specs.declared.locked_walk.LockedWalkAt.{LockedWalkAt}
use Rattle.rht_chain.specs.declared.locked_walk.LockedWalkAt.TheVariants as walks
use Rattle.rht_chain.specs.Lock.{lock_plan_at}
use Rattle.rht_chain.specs.declared.lock.LockAt.{LockAt}
use Rattle.rht_chain.specs.declared.lock.LockAt.TheVariants as locks
use Rattle.rht_chain.specs.Probe.{probe_plan_at, IsProbeAtIn}
use Rattle.rht_chain.specs.declared.probe.ProbeAt.{ProbeAt}
use Rattle.rht_chain.specs.declared.probe.ProbeAt.TheVariants as probes
use Rattle.rht_chain.specs.Relink.{RelinkModel, relink_plan_at}
use Rattle.rht_chain.specs.declared.relink.RelinkAt.{RelinkAt}
use Rattle.rht_chain.specs.declared.relink.RelinkAt.TheVariants as relinks
use Rattle.rht_arena.specs.TakeRun.{take_run_plan_at}
use Rattle.rht_arena.specs.declared.take_run.TakeRunAt.{TakeRunAt}
use Rattle.rht_arena.specs.declared.take_run.TakeRunAt.TheVariants as runs
use Rattle.rht_nest.specs.Grow.{grow_plan_at}
use Rattle.rht_nest.specs.declared.grow.GrowAt.{GrowAt}
use Rattle.rht_nest.specs.declared.grow.GrowAt.TheVariants as grows
use Rattle.rht_nest.specs.Make.{make_plan_at}
use Rattle.rht_nest.specs.declared.make.MakeAt.{MakeAt}
use Rattle.rht_nest.specs.declared.make.MakeAt.TheVariants as makes
use Rattle.rht_core.specs.Traces.{Did}
use Rattle.rht_core.specs.Seen.{CameTo, as_current, as_future, StaysInSection, IsNoShapeLoad, LastWalked, TurnsNoSection}
use Rattle.rht_core.specs.Causes.{IsRaise}
use Rattle.rht_core.specs.ResizeCauses.{IsNoKeyLoad}
use Rattle.rht_core.proofs.Reasons.QuietSteps.{LieBehind}
use Rattle.rht_core.proofs.Reasons.KeyLoads.{no_key-before, no_key-behind}

module _ (g : Geometry) where
  -- ---- what loads no shape, and raises no count

  -- the operation doesn't raise the count of ports
  abbrev pub IsNoRaise : Did → Type 0
  IsNoRaise did = IsRaise g did → ⊥

  -- an operation that is no addition turns no section
  pub no_turn : (did : Did) (op : Op) → did.op ≡ op → ((place value : ℕ) → op ≢ Add place value) → TurnsNoSection g did
  no_turn did op is none caller few adds = none (place_of g (Section caller)) 1 (sym is ∙ adds)

  pub record IsAside (did : Did) : Type 0 where
    pub no_shape : IsNoShapeLoad g did
    pub stays : StaysInSection g did
    pub no_raise : IsNoRaise did

  -- an operation that is no load
  pub no_load : (did : Did) (op : Op) → did.op ≡ op → ((place : ℕ) → op ≢ Load place) → IsNoShapeLoad g did
  no_load did op is none table below load = none (place_of g (Slot table ShapeWord)) (sym is ∙ load)

  -- and no addition
  pub aside : (did : Did) (op : Op) → did.op ≡ op → ((place : ℕ) → op ≢ Load place)
      → ((place value : ℕ) → op ≢ Add place value)
      → IsAside did
  aside did op is no_load_is no_add =
      record {
        no_shape = no_load did op is no_load_is;
        stays = (
          (λ load. no_load_is (place_of g CurrentTable) (sym is ∙ load)),
          (λ caller few adds. no_add (place_of g (Section caller)) 1 (sym is ∙ adds)),
        );
        no_raise = λ adds. no_add (place_of g PortCount) 1
            (sym is ∙ adds);
      }

  -- a load of another place
  pub other_load : (did : Did) (place : ℕ) → did.op ≡ Load place
      → ((table : ℕ) → table < 8 → place ≢ place_of g (Slot table ShapeWord)) → IsNoShapeLoad g did
  other_load did place is apart table below load = apart table below (let same = sym is ∙ load in cc)

  -- that isn't the first one, where the current table stands
  pub elsewhere : (did : Did) (place : ℕ) → did.op ≡ Load place → place ≢ 0
      → ((table : ℕ) → table < 8 → place ≢ place_of g (Slot table ShapeWord)) → IsAside did
  elsewhere did place is behind_first apart = record {
    no_shape = other_load did place is apart;
    stays = ((λ load. behind_first (let same = sym is ∙ load in cc)), (λ caller few adds. let same = sym is ∙ adds in cc));
    no_raise = λ adds. let same = sym is ∙ adds in cc;
  }

  -- a load of a place behind the slots
  behind_slots : (did : Did) (place : ℕ) → did.op ≡ Load place → 280 ≤ place → IsAside did
  behind_slots did place is high =
      elsewhere did place is (λ first. absurd (omega (arith, high, first))) (λ table below same. absurd (omega arith))

  -- nodes and buckets stand behind the slots
  pub nodes_behind : (h : Geometry) → 280 ≤ nodes_at h
  nodes_behind h = let order = parts_in_order h in omega (arith, order.page_map, order.nodes)

  bucket_behind : (place : ℕ) → IsBucketPlace g place → 280 ≤ place
  bucket_behind place is = let order = parts_in_order g in omega
      (arith, is.0, order.page_map, order.nodes, order.pages)

  -- a load of a word of a node
  pub node_loads : (did : Did) (h : Geometry) (node : ℕ) (word : NodeWord)
      → did.op ≡ Load (place_of h (Node node word)) → IsAside did
  node_loads did h node word is = behind_slots did _ is (omega (arith, nodes_behind h))

  walk_loads : (did : Did) (h : Geometry) (state : LockedWalkAt) → did.op ≡ walk_plan_at h state → IsAside did
  walk_loads did h (walks.Key node) is = node_loads did h node KeyWord is
  walk_loads did h (walks.ChainLink node) is = node_loads did h node ChainLink is

  lock_loads : (did : Did) (place : ℕ) (state : LockAt) → IsBucketPlace g place → did.op ≡ lock_plan_at place state
      → IsAside did
  lock_loads did place locks.Word there is = behind_slots did place is (bucket_behind place there)
  lock_loads did place (locks.Exchange word) there is = aside did _ is (λ other load. cc)
      (λ other value adds. cc)

  -- what locks a bucket and walks it
  pub probe_loads : (did : Did) (state : ProbeAt) → IsProbeAtIn g state → did.op ≡ probe_plan_at state
      → IsAside did
  probe_loads did (probes.Locking lock) there is = lock_loads did lock.place lock.at there.place_in is
  probe_loads did (probes.Walking bucket walk) there is = walk_loads did walk.geometry walk.at is

  -- what changes a link in a bucket
  pub relink_stores : (did : Did) (m : RelinkModel) (state : RelinkAt) → did.op ≡ relink_plan_at m state
      → IsAside did
  relink_stores did m (relinks.ChainLink before) is = aside did _ is (λ place load. cc)
      (λ place value adds. cc)
  relink_stores did m (relinks.Word word) is = aside did _ is (λ place load. cc) (λ place value adds. cc)

  -- the taking of a run of pages loads words of the map of pages
  run_loads : (h : Geometry) (pages : ℕ) (state : TakeRunAt) (did : Did) → did.op ≡ take_run_plan_at h pages state
      → IsNoShapeLoad g did
  run_loads h pages (runs.MapWord first index) did is =
      let order = parts_in_order h in
      other_load did _ is (λ table below same. absurd (omega (arith, same, below, order.page_map)))
  run_loads h pages (runs.Claim first index) did is = no_load did _ is (λ place load. cc)
  run_loads h pages (runs.GiveBack first index bits) did is = no_load did _ is (λ place load. cc)

  -- and so no current table, and it adds nothing
  run_stays : (h : Geometry) (pages : ℕ) (state : TakeRunAt) (did : Did) → did.op ≡ take_run_plan_at h pages state
      → StaysInSection g did
  run_stays h pages (runs.MapWord first index) did is =
      let order = parts_in_order h in (
        (λ load. let same : place_of h (PageMap index) ≡ place_of g CurrentTable = (let both = sym is ∙ load in cc) in
            absurd (omega (arith, same, order.page_map))),
        (λ caller few adds. let same = sym is ∙ adds in cc),
      )
  run_stays h pages (runs.Claim first index) did is =
      ((λ load. let same = sym is ∙ load in cc), (λ caller few adds. let same = sym is ∙ adds in cc))
  run_stays h pages (runs.GiveBack first index bits) did is =
      ((λ load. let same = sym is ∙ load in cc), (λ caller few adds. let same = sym is ∙ adds in cc))

  -- nor does the entering of a page
  pub grow_loads : (entry : ℕ) (state : GrowAt) (did : Did) → did.op ≡ grow_plan_at entry state → IsNoShapeLoad g did
  grow_loads entry (grows.Taking take) did is = run_loads take.geometry take.pages take.at did is
  grow_loads entry (grows.Entering page) did is = no_load did _ is (λ place load. cc)
  grow_loads entry (grows.Giving there give) did is = no_load did _ is (λ place load. cc)

  -- nor does that load the current table or add anything
  pub grow_stays : (entry : ℕ) (state : GrowAt) (did : Did) → did.op ≡ grow_plan_at entry state → StaysInSection g did
  grow_stays entry (grows.Taking take) did is = run_stays take.geometry take.pages take.at did is
  grow_stays entry (grows.Entering page) did is =
      ((λ load. let same = sym is ∙ load in cc), (λ caller few adds. let same = sym is ∙ adds in cc))
  grow_stays entry (grows.Giving there give) did is =
      ((λ load. let same = sym is ∙ load in cc), (λ caller few adds. let same = sym is ∙ adds in cc))

  -- nor does the making of a table load a shape
  pub make_loads : (h : Geometry) (exponent seed : ℕ) (state : MakeAt) (did : Did)
      → did.op ≡ make_plan_at h exponent seed state → IsNoShapeLoad g did
  make_loads h exponent seed (makes.Taking slot take) did is = run_loads take.geometry take.pages take.at did is
  make_loads h exponent seed (makes.TakingTop slot take) did is = run_loads take.geometry take.pages take.at did is
  make_loads h exponent seed _ did is = no_load did _ is (λ place load. cc)

  -- it opens and closes no read section either
  pub make_turns : (h : Geometry) (exponent seed : ℕ) (state : MakeAt) (did : Did)
      → did.op ≡ make_plan_at h exponent seed state → TurnsNoSection g did
  make_turns h exponent seed (makes.Taking slot take) did is = (run_stays take.geometry take.pages take.at did is).1
  make_turns h exponent seed (makes.TakingTop slot take) did is = (run_stays take.geometry take.pages take.at did is).1
  make_turns h exponent seed (makes.NextSerial slot nested page) did is = λ caller few adds.
      let same = ap op_place (sym is ∙ adds) in omega (arith, same)
  make_turns h exponent seed _ did is = no_turn did _ is (λ place value adds. cc)

  -- ---- the way to a table

  -- what came to a table has come to it while the current table isn't loaded again, in the same section
  pub CameTo-append : (table : ℕ) (steps more : List Did) → AllByRecursion (StaysInSection g) more → CameTo g table steps
      → CameTo g table (steps ++ more)
  CameTo-append table steps more none (as_current _ before at behind _ loads split last) =
      as_current table before at (behind ++ more) (steps ++ more) loads
      (ap (λ l. l ++ more) split ∙ append_assoc before (at ∷ behind) more)
      (AllByRecursion-append (StaysInSection g) behind more last none)
  CameTo-append table steps more none (as_future front _ before at behind _ came loads named split last) =
      as_future front table before at (behind ++ more) (steps ++ more) came loads named
      (ap (λ l. l ++ more) split ∙ append_assoc before (at ∷ behind) more)
      (AllByRecursion-append (StaysInSection g) behind more last none)

  -- by the load of the current table
  pub came-current : (steps : List Did) (did : Did) → did.op ≡ Load (place_of g CurrentTable)
      → CameTo g (table_of did.old) (steps ++ did ∷ [])
  came-current steps did is =
      as_current (table_of did.old) steps did [] (steps ++ did ∷ []) (record { there = tt; loads = is }, refl) refl tt

  -- and by that of a future
  pub came-future : (front table : ℕ) (steps : List Did) (did : Did) → front < 8
      → did.op ≡ Load (place_of g (Slot front FutureWord)) → slot_of did.old ≡ Some table → CameTo g front steps
      → CameTo g table (steps ++ did ∷ [])
  came-future front table steps did within is named came =
      as_future front table steps did [] (steps ++ did ∷ []) came (record { there = (within, tt); loads = is }) named refl tt

  -- ---- the last table

  unfoldable pub LastWalked-push : (table shape : ℕ) (steps : List Did) (did : Did) → IsNoShapeLoad g did
      → LastWalked g table shape steps → LastWalked g table shape (steps ++ did ∷ [])
  LastWalked-push table shape steps did none walked = record {
    before = walked.before;
    at = walked.at;
    behind = walked.behind ++ did ∷ [];
    split = ap (λ l. l ++ did ∷ []) walked.split ∙ append_assoc walked.before (walked.at ∷ walked.behind)
        (did ∷ []);
    reached = walked.reached;
    table_in = walked.table_in;
    loaded = walked.loaded;
    found = walked.found;
    last = AllByRecursion-push (IsNoShapeLoad g) walked.behind did walked.last none;
  }

  -- since then no count was raised, the current table wasn't loaded again, and the section stayed open
  pub record Walked (table shape : ℕ) (steps : List Did) : Type 0 where
    pub last : LastWalked g table shape steps
    pub unraised : AllByRecursion IsNoRaise last.behind
    pub in_attempt : AllByRecursion (StaysInSection g) last.behind

  unfoldable pub Walked-push : (table shape : ℕ) (steps : List Did) (did : Did) → IsAside did → Walked table shape steps
      → Walked table shape (steps ++ did ∷ [])
  unfolding LastWalked-push
  Walked-push table shape steps did is walked = record {
    last = LastWalked-push table shape steps did is.no_shape walked.last;
    unraised = AllByRecursion-push IsNoRaise walked.last.behind did walked.unraised is.no_raise;
    in_attempt = AllByRecursion-push (StaysInSection g) walked.last.behind did walked.in_attempt is.stays;
  }

  -- no section was opened or closed since
  pub walked-quiet : (table shape : ℕ) (steps : List Did) (walked : Walked table shape steps)
      → AllByRecursion (TurnsNoSection g) walked.last.behind
  walked-quiet table shape steps walked =
      AllByRecursion-weaker (StaysInSection g) (TurnsNoSection g) (λ other stays. stays.1) walked.last.behind walked.in_attempt

  -- a table that was walked was come to
  pub walked-came : (table shape : ℕ) (steps : List Did) → Walked table shape steps → CameTo g table steps
  walked-came table shape steps walked =
      let last = walked.last in
      subst (CameTo g table) (sym last.split)
      (CameTo-append table last.before (last.at ∷ last.behind)
      (shape_stays last.at table last.loaded, walked.in_attempt) last.reached)
    where
      no_first : (t : ℕ) → place_of g (Slot t ShapeWord) ≡ place_of g CurrentTable → ⊥
      no_first t same = omega (arith, same)

      shape_stays : (did : Did) (t : ℕ) → did.op ≡ Load (place_of g (Slot t ShapeWord)) → StaysInSection g did
      shape_stays did t is = (
        (λ load. let same = sym is ∙ load in absurd (no_first t (ap op_place same))),
        (λ caller few adds. let same = sym is ∙ adds in cc),
      )

  -- it begins with the load of the shape
  Walked-new : (table : ℕ) (steps : List Did) (did : Did) → table < 8
      → did.op ≡ Load (place_of g (Slot table ShapeWord)) → CameTo g table steps → Walked table did.old (steps ++ did ∷ [])
  Walked-new table steps did below is came = record {
    last = record {
      before = steps;
      at = did;
      behind = [];
      split = refl;
      reached = came;
      table_in = below;
      loaded = is;
      found = refl;
      last = tt;
    };
    unraised = tt;
    in_attempt = tt;
  }

  -- and the operations since then saw this
  pub record WalkedSeeing (table shape : ℕ) (Saw : List Did → Type 0) (steps : List Did) : Type 0 where
    pub walked : Walked table shape steps
    pub saw : Saw walked.last.behind

  pub WalkedSeeing-push_in : (table shape : ℕ) (Saw After : List Did → Type 0) (steps : List Did) (did : Did) → IsAside did
      → ((behind : List Did) → LieBehind g steps behind → Saw behind → After (behind ++ did ∷ []))
      → WalkedSeeing table shape Saw steps → WalkedSeeing table shape After (steps ++ did ∷ [])
  unfolding LastWalked-push Walked-push
  WalkedSeeing-push_in table shape Saw After steps did is further seeing =
      let last = seeing.walked.last in
      record {
        walked = Walked-push table shape steps did is seeing.walked;
        saw = further last.behind (record {
          before = last.before ++ last.at ∷ [];
          split = last.split ∙ sym (append_assoc last.before (last.at ∷ []) last.behind);
          quiet = walked-quiet table shape steps seeing.walked;
        }) seeing.saw;
      }

  pub WalkedSeeing-push : (table shape : ℕ) (Saw After : List Did → Type 0) (steps : List Did) (did : Did) → IsAside did
      → ((behind : List Did) → Saw behind → After (behind ++ did ∷ []))
      → WalkedSeeing table shape Saw steps → WalkedSeeing table shape After (steps ++ did ∷ [])
  WalkedSeeing-push table shape Saw After steps did is further seeing =
      WalkedSeeing-push_in table shape Saw After steps did is (λ behind lie saw. further behind saw) seeing

  -- none of them loaded a key
  abbrev pub LoadedNoKey : List Did → Type 0
  LoadedNoKey behind = AllByRecursion (IsNoKeyLoad g) behind

  -- while it looks for the bucket: it came to the table, and once it has the shape it walks it; where entries lead to the bucket it has
  -- come to the table behind as well, if there was one
  abbrev pub CameBehind : Option ℕ → List Did → Type 0
  CameBehind early steps = IfSome early (λ next. CameTo g next steps)

  -- none loaded a key, and where no table was behind, this is known of one that loaded the future
  abbrev pub LoadedEarly : (Did → Type 0) → Option ℕ → List Did → Type 0
  LoadedEarly SeesNone None behind = LoadedNoKey behind × Any SeesNone behind
  LoadedEarly SeesNone (Some next) behind = LoadedNoKey behind

  abbrev pub WalkedAt : (ℕ → ℕ → Did → Type 0) → ℕ → LocateAt → List Did → Type 0
  WalkedAt SeesNone table locates.Shape steps = CameTo g table steps
  WalkedAt SeesNone table (locates.Seed shape) steps = WalkedSeeing table shape LoadedNoKey steps
  WalkedAt SeesNone table (locates.Early shape place) steps = WalkedSeeing table shape LoadedNoKey steps
  WalkedAt SeesNone table (locates.Entry shape early place) steps =
      WalkedSeeing table shape (LoadedEarly (SeesNone table shape) early) steps × CameBehind early steps

  -- where the bucket is missing, it has come to the table behind
  abbrev pub CameBeyond : LocatedBucket → List Did → Type 0
  CameBeyond (buckets.At place) steps = Unit {0}
  CameBeyond (buckets.Missing place early) steps = CameBehind early steps

  abbrev pub WalkedNext : (ℕ → ℕ → Did → Type 0) → ℕ → LocateModel × Next Located → List Did → Type 0
  WalkedNext SeesNone table (m, Go) steps = WalkedAt SeesNone table m.at steps
  WalkedNext SeesNone table (m, Done there) steps =
      WalkedSeeing table there.shape LoadedNoKey steps × CameBeyond there.bucket steps

  -- it looks in one table
  hashed-table : (m : LocateModel) (shape bucket : ℕ) → (hashed m shape bucket).0.table ≡ m.table
  hashed-table m shape bucket =
      cond_both (is_nested shape) _ _ (λ (next : LocateModel × Next Located). next.0.table ≡ m.table) (λ t. refl) (λ f. refl)

  followed-table : (m : LocateModel) (shape : ℕ) (early : Option ℕ) (place : PlaceModel) (next : Next Bucket)
      → (entry_followed m shape early place next).0.table ≡ m.table
  followed-table m shape early place Go = refl
  followed-table m shape early place (Done (At word)) = refl
  followed-table m shape early place (Done (Absent entry)) = refl

  pub same_table : (mix : ℕ → ℕ → ℕ → ℕ) (port : ℕ) (m : LocateModel) (state : LocateAt) (word : ℕ)
      → (locate_after_at mix port m state word).0.table ≡ m.table
  same_table mix port m locates.Shape word = refl
  same_table mix port m (locates.Seed shape) word = hashed-table m shape (bucket_of mix port shape word)
  same_table mix port m (locates.Early shape place) word = refl
  same_table mix port m (locates.Entry shape early place) word =
      followed-table m shape early (place_after place word).0 (place_after place word).1

  -- behind the load of the seed
  hashed-walked : (SeesNone : ℕ → ℕ → Did → Type 0) (m : LocateModel) (shape bucket : ℕ) (all : List Did)
      → WalkedSeeing m.table shape LoadedNoKey all → WalkedNext SeesNone m.table (hashed m shape bucket) all
  hashed-walked SeesNone m shape bucket all walked =
      cond_both (is_nested shape) _ _ (λ next. WalkedNext SeesNone m.table next all) (λ t. walked) (λ f. (walked, tt))

  -- none of them loaded a key
  early-no_key : (SeesNone : Did → Type 0) (early : Option ℕ) (behind : List Did) → LoadedEarly SeesNone early behind
      → LoadedNoKey behind
  early-no_key SeesNone None behind loaded = loaded.0
  early-no_key SeesNone (Some next) behind loaded = loaded

  -- what is known of the future is known further on
  early-push : (SeesNone : Did → Type 0) (early : Option ℕ) (behind : List Did) (did : Did) → IsNoKeyLoad g did
      → LoadedEarly SeesNone early behind → LoadedEarly SeesNone early (behind ++ did ∷ [])
  early-push SeesNone None behind did none loaded =
      (AllByRecursion-push (IsNoKeyLoad g) behind did loaded.0 none, Any-append_left SeesNone behind (did ∷ []) loaded.1)
  early-push SeesNone (Some next) behind did none loaded = AllByRecursion-push (IsNoKeyLoad g) behind did loaded none

  -- and is known by the load of the future
  early-new : (SeesNone : Did → Type 0) (early : Option ℕ) (behind : List Did) (did : Did) → IsNoKeyLoad g did
      → (early ≡ None → SeesNone did) → LoadedNoKey behind → LoadedEarly SeesNone early (behind ++ did ∷ [])
  early-new SeesNone None behind did none sees loaded =
      (AllByRecursion-push (IsNoKeyLoad g) behind did loaded none, Any-push SeesNone behind did (sees refl))
  early-new SeesNone (Some next) behind did none sees loaded = AllByRecursion-push (IsNoKeyLoad g) behind did loaded none

  -- so none loaded a key behind the load of the shape
  seeing-no_key : (SeesNone : Did → Type 0) (table shape : ℕ) (early : Option ℕ) (steps : List Did)
      → WalkedSeeing table shape (LoadedEarly SeesNone early) steps → WalkedSeeing table shape LoadedNoKey steps
  seeing-no_key SeesNone table shape early steps walked =
      record { walked = walked.walked; saw = early-no_key SeesNone early walked.walked.last.behind walked.saw }

  -- behind an entry
  followed-walked : (SeesNone : ℕ → ℕ → Did → Type 0) (m : LocateModel) (shape : ℕ) (early : Option ℕ) (place : PlaceModel)
      (next : Next Bucket) (all : List Did)
      → WalkedSeeing m.table shape (LoadedEarly (SeesNone m.table shape) early) all × CameBehind early all
      → WalkedNext SeesNone m.table (entry_followed m shape early place next) all
  followed-walked SeesNone m shape early place Go all walked = walked
  followed-walked SeesNone m shape early place (Done (At word)) all walked =
      (seeing-no_key (SeesNone m.table shape) m.table shape early all walked.0, tt)
  followed-walked SeesNone m shape early place (Done (Absent entry)) all walked =
      (seeing-no_key (SeesNone m.table shape) m.table shape early all walked.0, walked.1)

  -- the table behind that was found is come to
  came-behind : (table : ℕ) (early : Option ℕ) (steps : List Did) (did : Did) → table < 8
      → did.op ≡ Load (place_of g (Slot table FutureWord)) → slot_of did.old ≡ early → CameTo g table steps
      → CameBehind early (steps ++ did ∷ [])
  came-behind table None steps did within is named came = tt
  came-behind table (Some next) steps did within is named came = came-future table next steps did within is named came

  came-longer : (early : Option ℕ) (steps : List Did) (did : Did) → StaysInSection g did → CameBehind early steps
      → CameBehind early (steps ++ did ∷ [])
  came-longer None steps did none came = tt
  came-longer (Some next) steps did none came = CameTo-append next steps (did ∷ []) (none, tt) came

  -- where the operation loads the future of this table as none, this is known of it
  abbrev pub TellsNone : (ℕ → ℕ → Did → Type 0) → ℕ → LocateAt → Did → Type 0
  TellsNone SeesNone table (locates.Early shape place) did = slot_of did.old ≡ None → SeesNone table shape did
  TellsNone SeesNone table _ did = Unit {0}

  -- a load of a word of the slots is of no key
  seeing-load : (table shape : ℕ) (steps : List Did) (did : Did) (place : ℕ) → did.op ≡ Load place → IsAside did
      → IsNoKeyLoad g did → WalkedSeeing table shape LoadedNoKey steps
      → WalkedSeeing table shape LoadedNoKey (steps ++ did ∷ [])
  seeing-load table shape steps did place is apart no_key walked =
      WalkedSeeing-push table shape LoadedNoKey LoadedNoKey steps did apart
      (λ behind none. AllByRecursion-push (IsNoKeyLoad g) behind did none no_key) walked

  -- an entry is a word of the pages, which stand behind the nodes
  entry-place : (place : PlaceModel) → IsPlaceIn g place → pages_at g ≤ entry_place place
  entry-place place within =
      subst (λ (h : Geometry). pages_at g ≤ place_of h (PageWord place.entry)) (sym within.geometry_same) (omega arith)

  pub locate-walked : (SeesNone : ℕ → ℕ → Did → Type 0) (mix : ℕ → ℕ → ℕ → ℕ) (port : ℕ) (m : LocateModel) (state : LocateAt)
      (steps : List Did) (did : Did) → IsLocateAtIn g state
      → m.table < 8 → did.op ≡ locate_plan_at m.geometry m.table state → TellsNone SeesNone m.table state did
      → WalkedAt SeesNone m.table state steps
      → WalkedNext SeesNone m.table (locate_after_at mix port m state did.old) (steps ++ did ∷ [])
  unfolding Walked-new
  locate-walked SeesNone mix port m locates.Shape steps did here below is sees walked =
      record { walked = Walked-new m.table steps did below is walked; saw = tt }
  locate-walked SeesNone mix port m (locates.Seed shape) steps did here below is sees walked =
      let place = place_of g (Slot m.table SeedWord) in
      hashed-walked SeesNone m shape (bucket_of mix port shape did.old) (steps ++ did ∷ [])
      (seeing-load m.table shape steps did place is
      (elsewhere did place is (λ first. absurd (omega (arith, first))) (λ table in_it same. absurd (omega arith)))
      (no_key-before g did place is (omega (arith, below, nodes_behind g))) walked)
  locate-walked SeesNone mix port m (locates.Early shape way) steps did here below is sees walked =
      let place = place_of g (Slot m.table FutureWord) in
      let Sees = SeesNone m.table shape in
      let early = slot_of did.old in
      let no_key = no_key-before g did place is (omega (arith, below, nodes_behind g)) in (
        WalkedSeeing-push m.table shape LoadedNoKey (LoadedEarly Sees early) steps did
            (elsewhere did place is (λ first. absurd (omega (arith, first))) (λ table in_it same. absurd (omega arith)))
            (λ behind none. early-new Sees early behind did no_key sees none) walked,
        came-behind m.table (slot_of did.old) steps did below is refl
            (walked-came m.table shape steps walked.walked),
      )
  locate-walked SeesNone mix port m (locates.Entry shape early way) steps did here below is sees walked =
      let Seen = LoadedEarly (SeesNone m.table shape) early in
      let high = entry-place way here.nested_in.place_in in
      let order = parts_in_order g in
      let apart = behind_slots did (entry_place way) is (omega (arith, high, order.page_map, order.nodes, order.pages)) in
      followed-walked SeesNone m shape early (place_after way did.old).0 (place_after way did.old).1 (steps ++ did ∷ []) (
        WalkedSeeing-push m.table shape Seen Seen steps did apart
            (λ behind seen. early-push (SeesNone m.table shape) early behind did (no_key-behind g did (entry_place way) is high) seen)
            walked.0,
        came-longer early steps did apart.stays walked.1,
      )
