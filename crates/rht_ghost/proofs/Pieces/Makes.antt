-- The operations of the making of a table and of its giving back, for a caller that holds such a machine: what it knows in each state of
-- the slot and the pages that it has, and that each operation leads from this to what it knows next.
use Rattle.std.proofs.Common.{◌≡◌, ℕ, ◌+◌, ◌-◌, ◌/◌, ◌^◌, ◌<◌, ◌≤◌, ◌==◌, min, max, List, [], length, Option, Some, None, nat_lt, sym, ◌∙◌, ap, subst, arith, inl, inr, refl}
use Rattle.std.specs.Prelude.{Bool, true, false, cond, nat_le, ◌%◌, ◌⊎◌}
use Rattle.std.specs.List.{range_with_len}
use Rattle.std.proofs.lemmas.Bool.{cond_both, and_parts, eqb-true, eqb-false, leb-true, lt-ltb}
use Rattle.rht_words.specs.declared.env.Env.{Env}
use Rattle.rht_words.specs.declared.op.Op.{Op}
use Rattle.rht_words.specs.declared.machine.Next.{Next}
use Rattle.rht_words.specs.declared.machine.Next.TheVariants.{Go, Done}
use Rattle.rht_words.specs.declared.machine.Start.TheVariants as starts
use Rattle.rht_words.specs.Operations.{old_of}
use Rattle.rht_words.specs.Places.{ShapeWord, SeedWord, FutureWord, SerialWord, words_in}
use Rattle.rht_words.specs.declared.shape.Shape.{Shape}
use Rattle.rht_words.specs.Shapes.{unpacked, size_of}
use Rattle.rht_words.proofs.Memory.{Memory}
use Rattle.rht_words.proofs.Members.{In-range_with_len}
use Rattle.rht_arena.specs.PageRuns.{IsRunIn}
use Rattle.rht_arena.specs.TakeRun.{TakeRunModel, take_run_new, take_run_plan, take_run_after, first_run, run_length, pages_of_take_run}
use Rattle.rht_arena.specs.GiveRun.{GiveRunModel, give_run_plan, give_run_after, pages_of_give_run}
use Rattle.rht_arena.proofs.RunsStay.{take_run_stays}
use Rattle.rht_nest.specs.Tables.{nested_shape, table_pages, table_seed, run_first, run_pages, pages_of_table}
use Rattle.rht_nest.specs.Make.{MakeModel, make_plan, make_plan_at, make_after_at, may_nest, made_pages, made_shape, shape_made, pages_taken, no_run, run_taken, run_started, top_taken, slot_of_make, pages_of_make, IsKind, IsMakeAtIn, IsMakeIn}
use Rattle.rht_nest.specs.declared.make.MakeAt.{MakeAt}
use Rattle.rht_nest.specs.declared.make.MakeAt.TheVariants as at
use Rattle.rht_nest.specs.Unmake.{UnmakeModel, unmake_plan, unmake_plan_at, unmake_after_at, run_given, pages_of_unmake, IsUnmakeAtIn, IsUnmakeIn}
use Rattle.rht_nest.specs.declared.unmake.UnmakeAt.{UnmakeAt}
use Rattle.rht_nest.specs.declared.unmake.UnmakeAt.TheVariants as gives
use Rattle.rht_ghost.proofs.Theory.Ghosts.{Ghost}
use Rattle.rht_ghost.proofs.Theory.Wholes.{Whole}
use Rattle.rht_ghost.proofs.Theory.Knowns.{Known, KnownSlot, KnownMaking, MakesNothing, HasTaken, HasMade}
use Rattle.rht_ghost.proofs.Theory.Knowledge.{IsFlatMade, IsNestedMade, MakingMeans}
use Rattle.rht_ghost.proofs.Theory.Steps.{Holding, mem, SilentStep, silent-map}
use Rattle.rht_ghost.proofs.Pieces.RunPages.{first_run-none}
use Rattle.rht_ghost.proofs.Pieces.Holdings.{bare_slot, with_slot_word, holding, knowing, take_slot_step, lose_slot_step, give_slot_step, fill_slot_step, serial_step}
use Rattle.rht_ghost.proofs.Pieces.PageRuns.{RunMoved, run_step, GiveMoved, give_run_step}

-- ---- what is known

-- the slot with its shape stored, then with its seed, and then with no future
abbrev pub shaped_slot : ℕ → ℕ → Bool → ℕ → KnownSlot
shaped_slot exponent slot nested page = with_slot_word (bare_slot slot) ShapeWord (made_shape exponent nested page)

abbrev pub seeded_slot : ℕ → ℕ → Bool → ℕ → ℕ → KnownSlot
seeded_slot exponent slot nested page seed = with_slot_word (shaped_slot exponent slot nested page) SeedWord seed

abbrev pub closed_slot : ℕ → ℕ → Bool → ℕ → ℕ → KnownSlot
closed_slot exponent slot nested page seed = with_slot_word (seeded_slot exponent slot nested page seed) FutureWord 0

-- what is known at a state of a making
abbrev pub known_of_make : ℕ → ℕ → MakeAt → KnownMaking
known_of_make exponent seed (at.Slot slot) = MakesNothing
known_of_make exponent seed (at.Taking slot take) = HasTaken (bare_slot slot) (pages_of_take_run take)
known_of_make exponent seed (at.TakingTop slot take) = HasTaken (bare_slot slot) (pages_of_take_run take)
known_of_make exponent seed (at.SlotBack slot) = HasTaken (bare_slot slot) []
known_of_make exponent seed (at.NextSerial slot nested page) =
    HasTaken (bare_slot slot) (range_with_len page (pages_taken exponent nested))
known_of_make exponent seed (at.Shape slot nested page serial) =
    HasTaken (bare_slot slot) (range_with_len page (pages_taken exponent nested))
known_of_make exponent seed (at.Seed slot nested page serial) =
    HasTaken (shaped_slot exponent slot nested page) (range_with_len page (pages_taken exponent nested))
known_of_make exponent seed (at.Future slot nested page serial) =
    HasTaken (seeded_slot exponent slot nested page (table_seed seed serial)) (range_with_len page (pages_taken exponent nested))
known_of_make exponent seed (at.Serial slot nested page serial) =
    HasTaken (closed_slot exponent slot nested page (table_seed seed serial)) (range_with_len page (pages_taken exponent nested))

-- and behind an operation of it: once it has ended, a table that can be attached, or nothing
abbrev pub known_made : ℕ → ℕ → MakeAt × Next (Option (ℕ × ℕ)) → KnownMaking
known_made exponent seed (state, Go) = known_of_make exponent seed state
known_made exponent seed (state, Done None) = MakesNothing
known_made exponent seed (state, Done (Some made)) = HasMade made.0 made.1

-- the slot and the pages that the call has then
abbrev pub slot_made : MakeAt × Next (Option (ℕ × ℕ)) → Option ℕ
slot_made (state, Go) = slot_of_make state
slot_made (state, Done None) = None
slot_made (state, Done (Some made)) = Some made.0

module _ (env : Env) (mix : ℕ → ℕ → ℕ → ℕ) (c : ℕ) (h : Holding) (known : Known)
    (words : List ℕ) (G : Ghost) (all : length words ≡ words_in env.geometry)
    (whole : Whole env mix (mem env mix words) G) where
  abbrev M : Memory
  M = mem env mix words

  abbrev pub made_with : ℕ → MakeAt × Next (Option (ℕ × ℕ)) → List ℕ
  made_with exponent (state, Go) = pages_of_make exponent state
  made_with exponent (state, Done None) = []
  made_with exponent (state, Done (Some made)) = pages_of_table env.geometry made.1

  -- what the call holds with these, and what the caller knows
  abbrev pub holds : Option ℕ → List ℕ → Holding
  holds slot pages = holding env mix c h known slot pages

  abbrev pub knows_that : Option ℕ → List ℕ → KnownMaking → Memory → Ghost → Type 0
  knows_that slot pages making = knowing env mix c h known slot pages making

  module _ (exponent seed : ℕ) (allowed : Bool) (least : 2 ≤ exponent) (greatest : exponent ≤ 17)
      (seeds : seed ≡ env.config.seed) where
    abbrev n : ℕ
    n = made_pages exponent

    -- what an operation of the making leads to
    abbrev MakeMoved : Option ℕ → List ℕ → Op → MakeAt × Next (Option (ℕ × ℕ)) → Type 0
    MakeMoved slot pages op r = SilentStep env mix c words G op (holds slot pages)
        (holds (slot_made r) (made_with exponent r))
        (knows_that (slot_made r) (made_with exponent r) (known_made exponent seed r))

    abbrev MakeStep : MakeAt → Type 0
    MakeStep state =
        let op = make_plan_at env.geometry exponent seed state in
        MakeMoved (slot_of_make state) (pages_of_make exponent state) op
        (make_after_at env.geometry exponent allowed state (old_of words op))

    -- ---- the table that is made

    read_back : (nested : Bool) (page : ℕ) → page < 2 ^ 32
        → unpacked (made_shape exponent nested page) ≡ shape_made exponent nested page
    read_back false page l = grind arith
    read_back true page l = grind arith

    pages_made : (nested : Bool) (page : ℕ) → table_pages (shape_made exponent nested page) ≡ pages_taken exponent nested
    pages_made false page = refl
    pages_made true page =
        ap (λ t. cond t 1 (max 1 (size_of (nested_shape exponent page) / 64)))
        (lt-ltb 0 ((exponent - 1) % 6 + 1) (omega arith))

    page-few : (page pages : ℕ) → IsRunIn env.geometry page pages → page < 2 ^ 32
    page-few page pages run =
        let within = env.geometry.within in omega (arith, run.some, run.within, within.pages_within.1)

    first_made : (nested : Bool) (page : ℕ) → unpacked (made_shape exponent nested page) ≡ shape_made exponent nested page
        → (unpacked (made_shape exponent nested page)).page ≡ page
    first_made false page shape = ap (λ (s : Shape). s.page) shape
    first_made true page shape = ap (λ (s : Shape). s.page) shape

    made_run : (nested : Bool) (page : ℕ) → IsRunIn env.geometry page (pages_taken exponent nested)
        → pages_of_table env.geometry (made_shape exponent nested page) ≡ range_with_len page (pages_taken exponent nested)
    made_run nested page run =
        let n = pages_taken exponent nested in
        let shape = read_back nested page (page-few page n run) in
        let first : run_first env.geometry (made_shape exponent nested page) ≡ page =
        ap (λ p. min p (env.geometry.pages - 1)) (first_made nested page shape) ∙ omega (arith, run.some, run.within) in
        let many : run_pages env.geometry (made_shape exponent nested page) ≡ n =
        ap (λ s. min (table_pages s) (env.geometry.pages - run_first env.geometry (made_shape exponent nested page))) shape
        ∙ ap (λ m. min m (env.geometry.pages - run_first env.geometry (made_shape exponent nested page))) (pages_made nested page)
        ∙ ap (λ f. min n (env.geometry.pages - f)) first ∙ omega (arith, run.some, run.within) in
        ap (λ f. range_with_len f (run_pages env.geometry (made_shape exponent nested page))) first
        ∙ ap (range_with_len page) many

    -- it is a flat table with the pages of its buckets, or a nested one with its top page
    kind_made : (nested : Bool) (page : ℕ) → page < 2 ^ 32 → IsKind exponent allowed nested
        → IsFlatMade env mix (made_shape exponent nested page) ⊎ IsNestedMade env mix (made_shape exponent nested page)
    kind_made false page few kind =
        let shape = read_back false page few in
        inl (record {
          flat = ap (λ (s : Shape). s.nest) shape;
          many = subst (λ (s : Shape). table_pages s ≡ max 1 (size_of s / 64)) (sym shape) refl;
        })
    kind_made true page few kind =
        let shape = read_back true page few in
        let large : 7 ≤ exponent = leb-true 7 exponent (and_parts allowed (nat_le 7 exponent) kind).1 in
        inr (record {
          shaped = record {
            least = subst (λ (s : Shape). 7 ≤ s.exponent) (sym shape) large;
            most = subst (λ (s : Shape). s.exponent ≤ 17) (sym shape) greatest;
            nest_is = subst (λ (s : Shape). s.nest ≡ (s.exponent - 1) % 6 + 1) (sym shape) refl;
          };
          one = ap table_pages shape ∙ pages_made true page;
        })

    -- a slot whose words are stored, with a run of pages, is a table that can be attached
    is_made : (slot : ℕ) (nested : Bool) (page serial : ℕ) (M' : Memory) (G' : Ghost) → IsKind exponent allowed nested
        → IsRunIn env.geometry page (pages_taken exponent nested)
        → MakingMeans env mix c M' G' (HasTaken (with_slot_word (closed_slot exponent slot nested page (table_seed seed serial)) SerialWord serial) (range_with_len page (pages_taken exponent nested)))
        → MakingMeans env mix c M' G' (HasMade slot (made_shape exponent nested page))
    is_made slot nested page serial M' G' kind run means =
        let n = pages_taken exponent nested in
        let shape = read_back nested page (page-few page n run) in
        let many : table_pages (unpacked (made_shape exponent nested page)) ≡ n =
        ap table_pages shape ∙ pages_made nested page in
        record {
          has = means.slot.has;
          shape_is = means.slot.shape;
          future_is = means.slot.future;
          seeded = means.slot.seed ∙ ap (λ s. table_seed s serial) seeds
              ∙ ap (table_seed env.config.seed) (sym means.slot.serial);
          kind = kind_made nested page (page-few page n run) kind;
          fits =
              subst (λ m. (unpacked (made_shape exponent nested page)).page + m ≤ env.geometry.pages) (sym many)
              (subst (λ p. p + n ≤ env.geometry.pages) (sym (first_made nested page shape)) run.within);
          run = λ p from below. means.mine p (In-range_with_len page n p
              (subst (λ f. f ≤ p) (first_made nested page shape) from)
              (subst (λ f. p < f + n) (first_made nested page shape)
              (subst (λ m. p < (unpacked (made_shape exponent nested page)).page + m) many below)));
        }

    -- ---- state by state

    -- with a slot taken, the taking of pages begins with none
    -- where there is no run, the taking of a top page begins with none, or the slot is to be given back
    none_found : (before : Option ℕ) (slot : ℕ) (pages : List ℕ) (op : Op) (nests : Bool)
        → SilentStep env mix c words G op (holds before pages) (holds (Some slot) [])
        (knows_that (Some slot) [] (HasTaken (bare_slot slot) []))
        → MakeMoved before pages op (no_run env.geometry nests slot, Go)
    none_found before slot pages op true step =
        subst (λ ps. SilentStep env mix c words G op (holds before pages) (holds (Some slot) ps)
        (knows_that (Some slot) ps (HasTaken (bare_slot slot) ps))) (sym (first_run-none env.geometry 1)) step
    none_found before slot pages op false step = step

    -- with a slot taken, the taking of pages begins with none
    started : (slot : ℕ) (op : Op) (nests : Bool) → SilentStep env mix c words G op (holds None []) (holds (Some slot) [])
        (knows_that (Some slot) [] (HasTaken (bare_slot slot) []))
        → MakeMoved None [] op (run_started env.geometry nests slot (take_run_new env.geometry n), Go)
    started slot op nests step =
        cond_both (nat_le (run_length n) env.geometry.pages) (starts.Running (first_run env.geometry (run_length n)))
        (starts.Done None) (λ start. MakeMoved None [] op (run_started env.geometry nests slot start, Go))
        (λ t. subst (λ ps. SilentStep env mix c words G op (holds None []) (holds (Some slot) ps)
        (knows_that (Some slot) ps (HasTaken (bare_slot slot) ps))) (sym (first_run-none env.geometry (run_length n))) step)
        (λ f. none_found None slot [] op nests step)

    slot_step : (slot : ℕ) → slot < 8 → knows_that None [] MakesNothing M G → MakeStep (at.Slot slot)
    slot_step slot l knows =
        let op = make_plan_at env.geometry exponent seed (at.Slot slot) in
        let word = old_of words op in
        cond_both (word == 0) _ _ (λ r. MakeMoved None [] op r)
        (λ t.
        started slot op (may_nest exponent allowed)
        (take_slot_step env mix c h known words G all whole slot l (eqb-true word 0 t) knows))
        (λ f.
        let step = lose_slot_step env mix c h known words G all whole slot None [] MakesNothing (eqb-false word 0 f) knows in
        cond_both (nat_lt (slot + 1) 8) _ _ (λ r. MakeMoved None [] op r) (λ t. step) (λ f. step))

    -- the run was taken, or is taken still, or there was none
    taken : (slot : ℕ) (pages : List ℕ) (op : Op) (nests : Bool) (r : TakeRunModel × Next (Option ℕ)) → r.0.pages ≡ n
        → RunMoved env mix c h known words G all whole (Some (bare_slot slot)) pages op r
        → MakeMoved (Some slot) pages op (run_taken env.geometry nests slot r.0 r.1, Go)
    taken slot pages op nests (take, Go) many step = step
    taken slot pages op nests (take, Done None) many step = none_found (Some slot) slot pages op nests step
    taken slot pages op nests (take, Done (Some page)) many step =
        subst (λ m. SilentStep env mix c words G op (holds (Some slot) pages) (holds (Some slot) (range_with_len page m))
        (knows_that (Some slot) (range_with_len page m) (HasTaken (bare_slot slot) (range_with_len page m)))) many step

    -- and so for a top page
    top : (slot : ℕ) (pages : List ℕ) (op : Op) (r : TakeRunModel × Next (Option ℕ)) → r.0.pages ≡ 1
        → RunMoved env mix c h known words G all whole (Some (bare_slot slot)) pages op r
        → MakeMoved (Some slot) pages op (top_taken slot r.0 r.1, Go)
    top slot pages op (take, Go) many step = step
    top slot pages op (take, Done None) many step = step
    top slot pages op (take, Done (Some page)) many step =
        subst (λ m. SilentStep env mix c words G op (holds (Some slot) pages) (holds (Some slot) (range_with_len page m))
        (knows_that (Some slot) (range_with_len page m) (HasTaken (bare_slot slot) (range_with_len page m)))) many step

    make_step_at : (state : MakeAt) → IsMakeAtIn env.geometry exponent allowed state
        → knows_that (slot_of_make state) (pages_of_make exponent state) (known_of_make exponent seed state) M G
        → MakeStep state
    make_step_at (at.Slot slot) is knows = slot_step slot is knows
    make_step_at (at.Taking slot take) is knows =
        let op = take_run_plan take in
        let word = old_of words op in
        taken slot (pages_of_take_run take) op (may_nest exponent allowed) (take_run_after take word)
        ((take_run_stays env.geometry take word is.take_in).pages_same ∙ is.pages_same)
        (run_step env mix c h known words G all whole (Some (bare_slot slot)) take is.take_in knows)
    make_step_at (at.TakingTop slot take) is knows =
        let op = take_run_plan take in
        let word = old_of words op in
        let taking = is.taking in
        top slot (pages_of_take_run take) op (take_run_after take word)
        ((take_run_stays env.geometry take word taking.take_in).pages_same ∙ taking.pages_same)
        (run_step env mix c h known words G all whole (Some (bare_slot slot)) take taking.take_in knows)
    make_step_at (at.SlotBack slot) is knows = give_slot_step env mix c h known words G all whole (bare_slot slot) knows
    make_step_at (at.NextSerial slot nested page) is knows =
        serial_step env mix c h known words G all whole (bare_slot slot) (range_with_len page (pages_taken exponent nested)) knows
    make_step_at (at.Shape slot nested page serial) is knows =
        fill_slot_step env mix c h known words G all whole (bare_slot slot) ShapeWord (made_shape exponent nested page)
        (range_with_len page (pages_taken exponent nested)) tt knows
    make_step_at (at.Seed slot nested page serial) is knows =
        fill_slot_step env mix c h known words G all whole (shaped_slot exponent slot nested page) SeedWord
        (table_seed seed serial) (range_with_len page (pages_taken exponent nested)) tt knows
    make_step_at (at.Future slot nested page serial) is knows =
        fill_slot_step env mix c h known words G all whole (seeded_slot exponent slot nested page (table_seed seed serial))
        FutureWord 0 (range_with_len page (pages_taken exponent nested)) tt knows
    make_step_at (at.Serial slot nested page serial) is knows =
        let op = make_plan_at env.geometry exponent seed (at.Serial slot nested page serial) in
        let run = is.taken.run_in in
        let slot_now = closed_slot exponent slot nested page (table_seed seed serial) in
        let step = fill_slot_step env mix c h known words G all whole slot_now SerialWord serial (range_with_len page (pages_taken exponent nested))
        tt knows in
        subst (λ ps. SilentStep env mix c words G op (holds (Some slot) (range_with_len page (pages_taken exponent nested))) (holds (Some slot) ps)
        (knows_that (Some slot) ps (HasMade slot (made_shape exponent nested page)))) (sym (made_run nested page run))
        (silent-map env mix (λ M' G' now k. record {
          only = k.only;
          means = record {
            node = k.means.node;
            table = k.means.table;
            bucket = k.means.bucket;
            making = is_made slot nested page serial M' G' is.taken.kind run k.means.making;
            work = k.means.work;
          };
        }) step)

  -- an operation of the making of a table: what the caller knows at its state leads to what it knows behind it
  pub make_step : (m : MakeModel) → IsMakeIn env.geometry m → m.seed ≡ env.config.seed
      → knows_that (slot_of_make m.at) (pages_of_make m.exponent m.at) (known_of_make m.exponent m.seed m.at) M G
      → let r = make_after_at env.geometry m.exponent m.nested m.at (old_of words (make_plan m)) in
      SilentStep env mix c words G (make_plan m) (holds (slot_of_make m.at) (pages_of_make m.exponent m.at))
      (holds (slot_made r) (made_with m.exponent r))
      (knows_that (slot_made r) (made_with m.exponent r) (known_made m.exponent m.seed r))
  make_step m is seeds knows =
      subst (λ g.
      let op = make_plan_at g m.exponent m.seed m.at in
      let r = make_after_at env.geometry m.exponent m.nested m.at (old_of words op) in
      SilentStep env mix c words G op (holds (slot_of_make m.at) (pages_of_make m.exponent m.at))
      (holds (slot_made r) (made_with m.exponent r))
      (knows_that (slot_made r) (made_with m.exponent r) (known_made m.exponent m.seed r))) (sym is.geometry_same)
      (make_step_at m.exponent m.seed m.nested is.least is.greatest seeds m.at is.at_in knows)

  -- ---- the giving back of a table

  -- what is known, and which slot and pages the call has, behind an operation of it
  abbrev pub known_given : ℕ → UnmakeAt × Next (Unit {0}) → KnownMaking
  known_given slot (state, Go) = HasTaken (bare_slot slot) (pages_of_unmake state)
  known_given slot (state, Done done) = MakesNothing

  abbrev pub slot_given : ℕ → UnmakeAt × Next (Unit {0}) → Option ℕ
  slot_given slot (state, Go) = Some slot
  slot_given slot (state, Done done) = None

  abbrev pub pages_given : UnmakeAt × Next (Unit {0}) → List ℕ
  pages_given (state, Go) = pages_of_unmake state
  pages_given (state, Done done) = []

  abbrev UnmakeMoved : ℕ → List ℕ → Op → UnmakeAt × Next (Unit {0}) → Type 0
  UnmakeMoved slot pages op r = SilentStep env mix c words G op (holds (Some slot) pages)
      (holds (slot_given slot r) (pages_given r))
      (knows_that (slot_given slot r) (pages_given r) (known_given slot r))

  run_gives : (slot : ℕ) (pages : List ℕ) (op : Op) (r : GiveRunModel × Next (Unit {0}))
      → GiveMoved env mix c h known words G all whole (Some (bare_slot slot)) pages op r
      → UnmakeMoved slot pages op (run_given r.0 r.1, Go)
  run_gives slot pages op (give, Go) step = step
  run_gives slot pages op (give, Done done) step = step

  unmake_step_at : (slot : ℕ) (state : UnmakeAt) → IsUnmakeAtIn env.geometry state
      → knows_that (Some slot) (pages_of_unmake state) (HasTaken (bare_slot slot) (pages_of_unmake state)) M G
      → let op = unmake_plan_at env.geometry slot state in
      UnmakeMoved slot (pages_of_unmake state) op (unmake_after_at state (old_of words op))
  unmake_step_at slot (gives.Giving give) is knows =
      let op = give_run_plan give in
      run_gives slot (pages_of_give_run give) op (give_run_after give (old_of words op))
      (give_run_step env mix c h known words G all whole (Some (bare_slot slot)) give is knows)
  unmake_step_at slot gives.SlotBack is knows =
      give_slot_step env mix c h known words G all whole (bare_slot slot) knows

  pub unmake_step : (m : UnmakeModel) → IsUnmakeIn env.geometry m
      → knows_that (Some m.slot) (pages_of_unmake m.at) (HasTaken (bare_slot m.slot) (pages_of_unmake m.at)) M G
      → let r = unmake_after_at m.at (old_of words (unmake_plan m)) in
      SilentStep env mix c words G (unmake_plan m) (holds (Some m.slot) (pages_of_unmake m.at))
      (holds (slot_given m.slot r) (pages_given r))
      (knows_that (slot_given m.slot r) (pages_given r) (known_given m.slot r))
  unmake_step m is knows =
      subst (λ g.
      let op = unmake_plan_at g m.slot m.at in
      let r = unmake_after_at m.at (old_of words op) in
      UnmakeMoved m.slot (pages_of_unmake m.at) op r) (sym is.geometry_same)
      (unmake_step_at m.slot m.at is.at_in knows)
