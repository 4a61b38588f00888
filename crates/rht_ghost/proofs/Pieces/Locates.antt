-- The operations on the way to a port's bucket: the current table, a table's shape and seed, and its future; and in a nested table the
-- future once more, before the entries. Where that leads to no table, what follows if the bucket is missing is known early: the port is bound
-- nowhere then, unless the bucket is there.
use Rattle.std.proofs.Common.{◌≡◌, ℕ, ◌+◌, List, [], Option, Some, None, cond, refl, sym, ◌∙◌, ap, subst, inr, arith, true}
use Rattle.std.specs.Option.{option_map}
use Rattle.rht_words.specs.declared.env.Env.{Env}
use Rattle.rht_words.specs.declared.geometry.Geometry.{Geometry}
use Rattle.rht_words.specs.declared.machine.Next.{Next}
use Rattle.rht_words.specs.declared.machine.Next.TheVariants.{Go, Done}
use Rattle.rht_words.specs.declared.machine.Start.{Start}
use Rattle.rht_words.specs.declared.machine.Start.TheVariants as starts
use Rattle.rht_words.specs.declared.op.Op.TheVariants.{Load}
use Rattle.rht_words.specs.Links.{table_of, slot_of, page_of}
use Rattle.rht_words.specs.Operations.{old_of, applied}
use Rattle.rht_words.specs.Places.{CurrentTable, Slot, ShapeWord, SeedWord, FutureWord, PageWord, place_of}
use Rattle.rht_words.proofs.Memory.{Memory}
use Rattle.rht_policy.specs.Mix.{bucket_of}
use Rattle.rht_model.specs.declared.history.Call.{Call}
use Rattle.rht_model.specs.Multimap.{Multimap}
use Rattle.rht_model.specs.Answers.{Answer}
use Rattle.rht_nest.specs.Tables.{is_nested}
use Rattle.rht_nest.specs.Place.{PlaceModel, flat_place, nested_place, place_plan, entered, went_behind, entry_seen, read_place}
use Rattle.rht_nest.specs.Locate.{LocateModel, locate_plan, locate_after, located_at, entry_followed, IsLocateAtIn, IsLocateIn}
use Rattle.rht_nest.specs.declared.locate.LocateAt.{LocateAt}
use Rattle.rht_nest.specs.declared.locate.LocateAt.TheVariants as locates
use Rattle.rht_nest.specs.declared.locate.Located.{Located}
use Rattle.rht_nest.specs.declared.locate.LocatedBucket.{LocatedBucket}
use Rattle.rht_nest.specs.declared.locate.LocatedBucket.TheVariants as buckets
use Rattle.rht_nest.specs.Early.{early_of_locate}
use Rattle.rht_ghost.proofs.Theory.Ghosts.{Ghost, none-some}
use Rattle.rht_ghost.proofs.Theory.Wholes.{Whole, IsAt, home, place_at, word_index, current-there, current-at, at-there, one_table}
use Rattle.rht_ghost.proofs.Theory.Passed.{passed_first, unbound_at_last, unbound_missing, go_on, go_beyond}
use Rattle.rht_ghost.proofs.Theory.Knowns.{KnownNode, KnownTable, Passes, Shaped, OnWay, AtHome, KnownBucket, knows_plain}
use Rattle.rht_ghost.proofs.Theory.Knowledge.{ReadsFrom, since-current, since-later, plainly, TableMeans, IsPassing, next_at, IsOnWay, IsAtHome, IsMissed, Knowing}
use Rattle.rht_ghost.proofs.Theory.WaysRead.{IsPlaced, words_of_pages, read_by_entry, on_way_read, on_way_next, at_home}
use Rattle.rht_ghost.proofs.Theory.Answering.{IsLegalOn, KnowsEarly, none_early, foresees, stays_early}
use Rattle.rht_ghost.proofs.Pieces.TableLoads.{LeadsBehind, future_leads, shape_word, way_begins, flat_home, way_missing, way_home}
use Rattle.rht_ghost.proofs.Theory.Steps.{Holding, by_test, mem, owners, owners_in, unchanged, SilentStep, loads}

-- what is known on the way to the bucket of a port
abbrev pub known_locate : ℕ → ℕ → LocateAt → KnownTable
known_locate port slot locates.Shape = Passes port slot
known_locate port slot (locates.Seed shape) = Shaped port slot shape
known_locate port slot (locates.Early shape place) = OnWay port slot shape place None
known_locate port slot (locates.Entry shape early place) = OnWay port slot shape place early

-- Of a call that knows this answer early, should the bucket be missing to which it is on its way: the bucket is
-- there.
abbrev pub IsThereFor : Option Answer → KnownTable → Memory → Type 0
IsThereFor None known M = ⊥
IsThereFor (Some answer) (OnWay port slot shape place further) M = IsPlaced M place
IsThereFor (Some answer) _ M = ⊥

module _ (env : Env) (mix : ℕ → ℕ → ℕ → ℕ) (c : ℕ) (h : Holding) (node : Option KnownNode)
    (bucket : KnownBucket) where
  abbrev pub knowing : KnownTable → Memory → Ghost → Type 0
  knowing table M G = Knowing env mix c h (knows_plain node table bucket) M G

  -- What is known once the bucket was looked for: its place; or, where it is missing, no more than before, but that the port was passed in the
  -- table behind, where one was.
  abbrev pub LocatedKnows : ℕ → ℕ → ℕ → LocatedBucket → Memory → Ghost → Type 0
  LocatedKnows port slot shape (buckets.At place) M G = knowing (AtHome port slot (Some shape) place) M G
  LocatedKnows port slot shape (buckets.Missing place None) M G = knowing (OnWay port slot shape place None) M G
  LocatedKnows port slot shape (buckets.Missing place (Some next)) M G = knowing (Passes port next) M G

  abbrev pub LocateKnows : ℕ → LocateModel × Next Located → Memory → Ghost → Type 0
  LocateKnows port (m, Go) M G = knowing (known_locate port m.table m.at) M G
  LocateKnows port (m, Done located) M G = LocatedKnows port m.table located.shape located.bucket M G

  module _ (words : List ℕ) (G : Ghost) (whole : Whole env mix (mem env mix words) G) where
    abbrev M : Memory
    M = mem env mix words

    -- the same with something else known of the table
    with_table : (table more : KnownTable) → knowing table M G → TableMeans env mix c G more → knowing more M G
    with_table table more knows means = plainly env mix knows.only knows.means.node means knows.means.bucket

    -- the slot of the current table has a table, and nothing was passed there
    pub first_passed : ReadsFrom true (G.from c) G.current → (port : ℕ) → IsPassing env mix c G port (table_of (M CurrentTable))
    first_passed reads port =
        let there = current-there env mix whole.tables in
        let right = whole.tables.each G.current there in
        let slot = (G.table G.current).slot in
        let is : table_of (M CurrentTable) ≡ slot = (let word = whole.tables.current_is in omega
        (arith, right.slot_in, word)) in
        rw is (record {
          at = current-at env mix whole.tables slot refl;
          since = since-current (G.from c) G.current reads;
          passed = passed_first env mix M G whole port;
        })

    -- ---- the future of a table

    -- what it is read as leads to
    abbrev Leads : ℕ → Option ℕ → Type 0
    Leads = LeadsBehind env mix M G whole

    behind-table : (slot : ℕ) (at : IsAt G slot) → Leads at.table (slot_of (M (Slot slot FutureWord)))
    behind-table = future_leads env mix M G whole

    -- What the future of a table is read as, in which the port was looked for in vain: no table, and the port is bound nowhere; or the
    -- table behind it, and the port has been passed there too.
    abbrev pub FutureIs : ℕ → Option ℕ → Type 0
    FutureIs port None = G.bound port ≡ []
    FutureIs port (Some next) = IsPassing env mix c G port next

    pub future_is : (port slot place word : ℕ) (shape : Option ℕ)
        → Knowing env mix c h (knows_plain node (AtHome port slot shape place) bucket) M G
        → IsMissed env mix c M G place word port
        → FutureIs port (slot_of (M (Slot slot FutureWord)))
    future_is port slot place word shape knows missed =
        go (slot_of (M (Slot slot FutureWord))) (behind-table slot home_is.passing.at)
      where
        home_is : IsAtHome env mix c G port slot shape place
        home_is = knows.means.table

        τ : ℕ
        τ = home_is.passing.at.table

        go : (future : Option ℕ) → Leads τ future → FutureIs port future
        go None last =
            unbound_at_last env mix M G whole port τ (word_index env mix place) home_is.passing.passed home_is.here missed.none
            missed.lock.still last
        go (Some next) behind = record {
          at = next_at env mix G τ next home_is.passing.at.on behind;
          since = since-later (G.from c) τ (τ + 1) (omega arith) home_is.passing.since;
          passed = go_on env mix M G whole port τ (word_index env mix place) home_is.passing.passed home_is.here
              missed.none missed.lock.still missed.lock.unarmed behind.attached;
        }

    -- where it is read as none, the table is the last one
    pub is_last : (port slot place : ℕ) (shape : Option ℕ)
        → (knows : Knowing env mix c h (knows_plain node (AtHome port slot shape place) bucket) M G)
        → slot_of (M (Slot slot FutureWord)) ≡ None → knows.means.table.passing.at.table + 1 ≡ G.attached
    is_last port slot place shape knows none =
        let at = knows.means.table.passing.at in subst (Leads at.table) none (behind-table slot at)

    -- ---- the entries of a nested table

    -- the entry at which the way stands, as it is loaded
    abbrev led_by : PlaceModel → Option ℕ
    led_by place = page_of place.geometry.pages (old_of words (place_plan place))

    leads : (place : PlaceModel) (entry : Option ℕ) → place.geometry ≡ env.geometry → led_by place ≡ entry
        → page_of env.geometry.pages (M (PageWord place.entry)) ≡ entry
    leads place entry same is =
        sym (ap (λ (g : Geometry). page_of g.pages (old_of words (Load (place_of g (PageWord place.entry))))) same) ∙ is

    missing_knows : (port slot shape : ℕ) (place : PlaceModel) (early : Option ℕ) → place.geometry ≡ env.geometry
        → knowing (OnWay port slot shape place early) M G → led_by place ≡ None
        → LocatedKnows port slot shape (buckets.Missing place early) M G
    missing_knows port slot shape place None same knows is = knows
    missing_knows port slot shape place (Some next) same knows is =
        let on = knows.means.table in
        let passing = on.shaped.passing in
        let τ = passing.at.table in
        with_table (OnWay port slot shape place (Some next)) (Passes port next) knows (record {
          at = next_at env mix G τ next passing.at.on on.behind;
          since = since-later (G.from c) τ (τ + 1) (omega arith) passing.since;
          passed = go_beyond env mix M G whole port τ passing.passed
              (way_missing env mix M G whole port slot passing.at place same on.to (leads place None same is)) on.behind.attached;
        })

    -- where it leads to one, there is the next entry, or the bucket
    entered_knows : (port : ℕ) (m : LocateModel) (shape : ℕ) (early : Option ℕ) (place : PlaceModel) (page : ℕ)
        → place.geometry ≡ env.geometry → knowing (OnWay port m.table shape place early) M G → led_by place ≡ Some page
        → (start : Start PlaceModel ℕ) → entered place page ≡ start
        → let next = went_behind place start in LocateKnows port (entry_followed m shape early next.0 next.1) M G
    entered_knows port m shape early place page same knows is (starts.Running next) e =
        let on = knows.means.table in
        with_table (OnWay port m.table shape place early) (OnWay port m.table shape next early) knows (record {
          shaped = on.shaped;
          to = on_way_next env mix M G whole port on.shaped.passing.at.table
              (at-there on.shaped.passing.at) place on.to next page
              (leads place (Some page) same is) e;
          behind = on.behind;
        })
    entered_knows port m shape early place page same knows is (starts.Done there) e =
        let on = knows.means.table in
        with_table (OnWay port m.table shape place early) (AtHome port m.table (Some shape) there) knows
        (at_home env mix M G whole port m.table shape there on.shaped.passing on.shaped.shape_is
        (way_home env mix M G whole port m.table on.shaped.passing.at place same on.to page there
        (leads place (Some page) same is) e))

    entry_knows : (port : ℕ) (m : LocateModel) (shape : ℕ) (early : Option ℕ) (place : PlaceModel)
        → place.geometry ≡ env.geometry → knowing (OnWay port m.table shape place early) M G
        → (entry : Option ℕ) → led_by place ≡ entry
        → let next = entry_seen place entry in LocateKnows port (entry_followed m shape early next.0 next.1) M G
    entry_knows port m shape early place same knows None is =
        missing_knows port m.table shape place early same knows is
    entry_knows port m shape early place same knows (Some page) is =
        entered_knows port m shape early place page same knows is (entered place page) refl

    -- ---- the operations of the way

    seed_knows : (port slot shape : ℕ) → knowing (Shaped port slot shape) M G
        → let m : LocateModel = record { geometry = env.geometry; table = slot; at = locates.Seed shape } in
        LocateKnows port (locate_after mix port m (M (Slot slot SeedWord))) M G
    seed_knows port slot shape knows =
        let m : LocateModel = record { geometry = env.geometry; table = slot; at = locates.Seed shape } in
        let shaped = knows.means.table in
        let at = shaped.passing.at in
        let number = bucket_of mix port shape (M (Slot slot SeedWord)) in
        by_test (λ t. LocateKnows port (cond {A = LocateModel × Next Located} t
        (record m { at = locates.Early shape (nested_place env.geometry shape number) }, Go)
        (m, Done (located_at shape (flat_place env.geometry shape number)))) M G)
        (is_nested shape)
        (λ nested. with_table (Shaped port slot shape) (OnWay port slot shape (nested_place env.geometry shape number) None)
        knows (record {
          shaped = shaped;
          to = way_begins env mix M G whole port slot at shape shaped.shape_is nested;
          behind = tt;
        }))
        (λ flat. with_table (Shaped port slot shape) (AtHome port slot (Some shape) (flat_place env.geometry shape number))
        knows (at_home env mix M G whole port slot shape (flat_place env.geometry shape number) shaped.passing shaped.shape_is
        (flat_home env mix M G whole port slot at shape shaped.shape_is flat)))

    early_knows : (port slot shape : ℕ) (place : PlaceModel) → (knows : knowing (OnWay port slot shape place None) M G)
        → (future : Option ℕ) → Leads knows.means.table.shaped.passing.at.table future
        → knowing (OnWay port slot shape place future) M G
    early_knows port slot shape place knows None last = knows
    early_knows port slot shape place knows (Some next) behind =
        let on = knows.means.table in
        with_table (OnWay port slot shape place None) (OnWay port slot shape place (Some next)) knows
        (record { shaped = on.shaped; to = on.to; behind = behind })

    -- what is known after an operation
    step_knows : (port slot : ℕ) (at : LocateAt) → IsLocateAtIn env.geometry at → knowing (known_locate port slot at) M G
        → let m : LocateModel = record { geometry = env.geometry; table = slot; at = at } in
        LocateKnows port (locate_after mix port m (old_of words (locate_plan m))) M G
    step_knows port slot locates.Shape within knows =
        with_table (Passes port slot) (Shaped port slot (M (Slot slot ShapeWord))) knows (record {
          passing = knows.means.table;
          shape_is = sym (shape_word env mix M G whole slot knows.means.table.at);
        })
    step_knows port slot (locates.Seed shape) within knows = seed_knows port slot shape knows
    step_knows port slot (locates.Early shape place) within knows =
        early_knows port slot shape place knows (slot_of (M (Slot slot FutureWord)))
        (behind-table slot knows.means.table.shaped.passing.at)
    step_knows port slot (locates.Entry shape early place) within knows =
        let m : LocateModel = record { geometry = env.geometry; table = slot; at = locates.Entry shape early place } in
        entry_knows port m shape early place within.nested_in.place_in.geometry_same knows (led_by place) refl

    -- each state loads a word
    locate_loads : (port slot : ℕ) (at : LocateAt)
        → let m : LocateModel = record { geometry = env.geometry; table = slot; at = at } in
        applied words (locate_plan m) ≡ words
    locate_loads port slot locates.Shape = unchanged words (Load (place_of env.geometry (Slot slot ShapeWord))) refl
    locate_loads port slot (locates.Seed shape) =
        unchanged words (Load (place_of env.geometry (Slot slot SeedWord))) refl
    locate_loads port slot (locates.Early shape place) =
        unchanged words (Load (place_of env.geometry (Slot slot FutureWord))) refl
    locate_loads port slot (locates.Entry shape early place) = unchanged words (place_plan place) refl

    locate_step_at : (port slot : ℕ) (at : LocateAt) → IsLocateAtIn env.geometry at
        → knowing (known_locate port slot at) M G
        → let m : LocateModel = record { geometry = env.geometry; table = slot; at = at } in
        SilentStep env mix c words G (locate_plan m) h h (LocateKnows port
        (locate_after mix port m (old_of words (locate_plan m))))
    locate_step_at port slot locates.Shape within knows =
        loads env mix c words G _ h h _ whole refl refl (step_knows port slot locates.Shape within knows)
    locate_step_at port slot (locates.Seed shape) within knows =
        loads env mix c words G _ h h _ whole refl refl (step_knows port slot (locates.Seed shape) within knows)
    locate_step_at port slot (locates.Early shape place) within knows =
        loads env mix c words G _ h h _ whole refl refl (step_knows port slot (locates.Early shape place) within knows)
    locate_step_at port slot (locates.Entry shape early place) within knows =
        loads env mix c words G _ h h _ whole refl refl
        (step_knows port slot (locates.Entry shape early place) within knows)

    pub locate_step : (port : ℕ) (m : LocateModel) → IsLocateIn env.geometry m
        → knowing (known_locate port m.table m.at) M G
        → SilentStep env mix c words G (locate_plan m) h h
        (LocateKnows port (locate_after mix port m (old_of words (locate_plan m))))
    locate_step port m is knows =
        subst (λ g. let here : LocateModel = record { geometry = g; table = m.table; at = m.at } in
        SilentStep env mix c words G (locate_plan here) h h
        (LocateKnows port (locate_after mix port here (old_of words (locate_plan here)))))
        (sym is.geometry_same) (locate_step_at port m.table m.at is.at_in knows)

    -- ---- what is known early

    -- what a call answers whose port is bound nowhere
    module _ (port : ℕ) (call : Call) (absent : Answer)
        (legal : owners env mix M G port ≡ [] → IsLegalOn env.config.kind c call (owners env mix M G) absent) where
      abbrev now : Multimap
      now = owners env mix M G

      abbrev There : ℕ → LocateAt → Memory → Type 0
      There slot at = IsThereFor (early_of_locate absent at) (known_locate port slot at)

      abbrev KnowsFrom : ℕ → LocateAt → ℕ → LocateAt → List ℕ → Type 0
      KnowsFrom slot at then next after =
          KnowsEarly env.config.kind c call (There slot at M) (There then next (mem env mix after)) now
          (early_of_locate absent at) (early_of_locate absent next)

      -- where the bucket turns out to be missing the answer was known early, if no table was behind
      pub record IsRecalled (slot : ℕ) (at : LocateAt) : Type 0 where
        pub known_early : early_of_locate absent at ≡ Some absent
        pub missing : ¬ There slot at M

      abbrev pub Recalls : ℕ → LocateAt → LocatedBucket → Type 0
      Recalls slot at (buckets.At place) = Unit {0}
      Recalls slot at (buckets.Missing place None) = IsRecalled slot at
      Recalls slot at (buckets.Missing place (Some next)) = Unit {0}

      -- what an operation says early, which leaves these words
      abbrev pub LocateSays : ℕ → LocateAt → List ℕ → LocateModel × Next Located → Type 0
      LocateSays slot at after (m, Go) = KnowsFrom slot at m.table m.at after
      LocateSays slot at after (m, Done located) = Recalls slot at located.bucket

      -- nothing is known early after it
      says_none : (slot : ℕ) (at next : LocateAt) (after : List ℕ) → early_of_locate absent next ≡ None
          → KnowsFrom slot at slot next after
      says_none slot at next after none =
          none_early env.config.kind c call (There slot at M) (There slot next (mem env mix after)) now
          (early_of_locate absent at) (early_of_locate absent next) none

      -- at the load of a future that leads to no table the port is bound nowhere, or its bucket is there
      foresees_now : (slot shape : ℕ) (place : PlaceModel) (on : IsOnWay env mix c G port slot shape place None)
          → (future : Option ℕ) → Leads on.shaped.passing.at.table future
          → KnowsFrom slot (locates.Early shape place) slot (locates.Entry shape future place) words
      foresees_now slot shape place on (Some next) behind =
          says_none slot (locates.Early shape place) (locates.Entry shape (Some next) place) words refl
      foresees_now slot shape place on None last = go (home env mix G port at.table) refl
        where
          at : IsAt G slot
          at = on.shaped.passing.at

          read : read_place (words_of_pages M) place ≡ option_map (place_at env mix) (home env mix G port at.table)
          read = on_way_read env mix M G whole port at.table (at-there at) place on.to

          go : (word : Option ℕ) → home env mix G port at.table ≡ word
              → KnowsFrom slot (locates.Early shape place) slot (locates.Entry shape None place) words
          go None here =
              foresees env.config.kind c call ⊥ (IsPlaced M place) now None absent (legal (ap (owners_in env mix M)
              (unbound_missing env mix M G whole port at.table on.shaped.passing.passed here last)))
          go (Some j) here = λ answer known. inr (inr (λ none.
              none-some none (read ∙ ap (option_map (place_at env mix)) here)))

      -- an entry that leads to another one leads where the bucket is, or isn't
      stays_now : (slot shape : ℕ) (early : Option ℕ) (place next : PlaceModel)
          → (on : IsOnWay env mix c G port slot shape place early) → (further : IsOnWay env mix c G port slot shape next early)
          → further.shaped.passing.at.table ≡ on.shaped.passing.at.table
          → KnowsFrom slot (locates.Entry shape early place) slot (locates.Entry shape early next) words
      stays_now slot shape None place next on further same =
          let here = on.shaped.passing.at in
          let there = further.shaped.passing.at in
          stays_early env.config.kind c call (IsPlaced M place) (IsPlaced M next) now (Some absent)
          (λ placed none. placed (on_way_read env mix M G whole port here.table (at-there here) place on.to
          ∙ ap (λ τ. option_map (place_at env mix) (home env mix G port τ)) (sym same)
          ∙ sym (on_way_read env mix M G whole port there.table (at-there there) next further.to) ∙ none))
      stays_now slot shape (Some early) place next on further same =
          says_none slot (locates.Entry shape (Some early) place) (locates.Entry shape (Some early) next) words
          refl

      missing_says : (slot shape : ℕ) (early : Option ℕ) (place : PlaceModel) → place.geometry ≡ env.geometry
          → led_by place ≡ None → Recalls slot (locates.Entry shape early place) (buckets.Missing place early)
      missing_says slot shape (Some next) place same is = tt
      missing_says slot shape None place same is =
          record {
            known_early = refl;
            missing = λ there. there
                (read_by_entry (words_of_pages M) place env.geometry None same (leads place None same is));
          }

      entered_says : (m : LocateModel) (shape : ℕ) (early : Option ℕ) (place : PlaceModel) (page : ℕ)
          → place.geometry ≡ env.geometry → knowing (OnWay port m.table shape place early) M G
          → led_by place ≡ Some page → (start : Start PlaceModel ℕ) → entered place page ≡ start
          → let next = went_behind place start in
          LocateSays m.table (locates.Entry shape early place) words
          (entry_followed m shape early next.0 next.1)
      entered_says m shape early place page same knows is (starts.Running next) e =
          let further = entered_knows port m shape early place page same knows is (starts.Running next) e in
          stays_now m.table shape early place next knows.means.table further.means.table
          (one_table knows.means.table.shaped.passing.at further.means.table.shaped.passing.at)
      entered_says m shape early place page same knows is (starts.Done there) e = tt

      entry_says : (m : LocateModel) (shape : ℕ) (early : Option ℕ) (place : PlaceModel)
          → place.geometry ≡ env.geometry → knowing (OnWay port m.table shape place early) M G
          → (entry : Option ℕ) → led_by place ≡ entry
          → let next = entry_seen place entry in
          LocateSays m.table (locates.Entry shape early place) words
          (entry_followed m shape early next.0 next.1)
      entry_says m shape early place same knows None is = missing_says m.table shape early place same is
      entry_says m shape early place same knows (Some page) is =
          entered_says m shape early place page same knows is (entered place page) refl

      says_at : (slot : ℕ) (at : LocateAt) → IsLocateAtIn env.geometry at → knowing (known_locate port slot at) M G
          → let m : LocateModel = record { geometry = env.geometry; table = slot; at = at } in
          LocateSays slot at words (locate_after mix port m (old_of words (locate_plan m)))
      says_at slot locates.Shape within knows =
          says_none slot locates.Shape (locates.Seed (M (Slot slot ShapeWord))) words refl
      says_at slot (locates.Seed shape) within knows =
          let m : LocateModel = record { geometry = env.geometry; table = slot; at = locates.Seed shape } in
          let place = nested_place env.geometry shape (bucket_of mix port shape (M (Slot slot SeedWord))) in
          by_test (λ t. LocateSays slot (locates.Seed shape) words (cond {A = LocateModel × Next Located} t
          (record m { at = locates.Early shape place }, Go) (
            m,
            Done (located_at shape (flat_place env.geometry shape
                (bucket_of mix port shape (M (Slot slot SeedWord))))),
          )))
          (is_nested shape)
          (λ nested. says_none slot (locates.Seed shape) (locates.Early shape place) words refl) (λ flat. tt)
      says_at slot (locates.Early shape place) within knows =
          let on = knows.means.table in
          foresees_now slot shape place on (slot_of (M (Slot slot FutureWord)))
          (behind-table slot on.shaped.passing.at)
      says_at slot (locates.Entry shape early place) within knows =
          let m : LocateModel = record { geometry = env.geometry; table = slot; at = locates.Entry shape early place } in
          entry_says m shape early place within.nested_in.place_in.geometry_same knows (led_by place) refl

      pub locate_says : (m : LocateModel) → IsLocateIn env.geometry m → knowing (known_locate port m.table m.at) M G
          → LocateSays m.table m.at (applied words (locate_plan m))
          (locate_after mix port m (old_of words (locate_plan m)))
      locate_says m is knows =
          subst (λ g. let here : LocateModel = record { geometry = g; table = m.table; at = m.at } in
          LocateSays m.table m.at (applied words (locate_plan here))
          (locate_after mix port here (old_of words (locate_plan here))))
          (sym is.geometry_same)
          (let here : LocateModel = record { geometry = env.geometry; table = m.table; at = m.at } in
          subst
          (λ after. LocateSays m.table m.at after
          (locate_after mix port here (old_of words (locate_plan here))))
          (sym (locate_loads port m.table m.at))
          (says_at m.table m.at is.at_in knows))
