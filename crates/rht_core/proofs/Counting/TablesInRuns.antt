-- What is true of each table in force, by the invariant and its ghost: its slot says what the ghost does, which knows its size and its seed.
use Rattle.std.proofs.Common.{◌≡◌, ℕ, ◌-◌, cond, max, min, List, sym, ap, ◌∙◌, subst, inl, inr, arith, ◌*◌, ◌/◌, ◌<◌, ◌≤◌, ◌+◌, nat_lt}
use Rattle.std.proofs.lemmas.Bool.{cases_eq, eq-eqb, ne_eqb, lt-ltb}
use Rattle.rht_words.specs.declared.env.Env.{Env}
use Rattle.rht_words.specs.Members.{In}
use Rattle.rht_words.specs.Opening.{opening_word}
use Rattle.rht_words.specs.Places.{Slot, ShapeWord, SeedWord, SerialWord, StateWord}
use Rattle.rht_words.specs.Shapes.{unpacked, size_of, exponent_of}
use Rattle.rht_words.specs.Sizes.{first_size, wished_size}
use Rattle.rht_words.specs.declared.shape.Shape.{Shape}
use Rattle.rht_words.proofs.Rounding.{powers-rise, powers-fall}
use Rattle.rht_core.proofs.Reasons.MadeSizes.{exponent_of-pow}
use Rattle.rht_words.proofs.OpeningLaws.{opens_flat}
use Rattle.rht_words.proofs.StartingSizes.{IsSizeUpTo-starting_size}
use Rattle.rht_nest.specs.Tables.{table_seed, table_pages}
use Rattle.rht_core.specs.Runs.{run_of}
use Rattle.rht_core.specs.Tables.{table_size, IsShapeRight, IsTableRight, AreTablesRight, Tables}
use Rattle.rht_ghost.proofs.Theory.Ghosts.{Ghost, Table, PageOwner, state_word}
use Rattle.rht_ghost.proofs.Theory.Wholes.{Whole, PlacedRight, live-there, current-there}
use Rattle.rht_ghost.proofs.Theory.Steps.{mem}
use Rattle.rht_stands.specs.StandsFor.{in_force}
use Rattle.rht_core.proofs.Meaning.TablesInForce.{in_force_is, in_force_distinct, last_in_force}
use Rattle.rht_core.proofs.Counting.GoodShapes.{AreAll}
use Rattle.rht_core.proofs.Counting.BoundedTables.{IsSizeIn, IsBounded, Fits, works_bounded, binds_bounded}
use Rattle.rht_core.proofs.Counting.NumberedTables.{numbered}
use Rattle.rht_core.proofs.Counting.GoodRuns.{runs-good}

-- the first table has a size that it may have
first-fits : (env : Env) → IsSizeIn env (first_size env.config)
first-fits env =
    let settled = env.settled in
    let up = IsSizeUpTo-starting_size env.config.hint env.config.min env.config.max settled.hint settled.least settled.greatest in
    elim (cases_eq env.config.max 0) [
      | inl none ↦
          let size : first_size env.config ≡ uncut = ap (λ t. cond t uncut (min uncut env.config.max)) (eq-eqb env.config.max 0 none) in
          record {
            least = omega (arith, size);
            most = up.greatest;
            greatest = λ some. absurd (some none);
          }
      | inr some ↦
          let size : first_size env.config ≡ min uncut env.config.max =
          ap (λ t. cond t uncut (min uncut env.config.max)) (ne_eqb env.config.max 0 some) in
          let agree = settled.agree some in
          record {
            least = omega (arith, size, agree);
            most = up.greatest;
            greatest = λ some. omega (arith, size);
          }
    ]
  where
    uncut : ℕ
    uncut = max (wished_size env.config.hint) env.config.min

first-bounded : (env : Env) → IsBounded env (opening_word env (Slot 0 ShapeWord))
first-bounded env =
    let opens = opens_flat env in
    let settled = env.settled in
    let up = IsSizeUpTo-starting_size env.config.hint env.config.min env.config.max settled.hint settled.least settled.greatest in
    let e = up.power.0 in
    let low : 1 < e = powers-fall 1 e (omega (arith, up.power.1, up.least)) in
    let high : e < 18 = powers-fall e 18 (omega (arith, up.power.1, up.greatest)) in
    let exponent : (unpacked (opening_word env (Slot 0 ShapeWord))).exponent ≡ e =
    ap (λ (s : Shape). s.exponent) opens.shape ∙ ap exponent_of up.power.1 ∙ exponent_of-pow e (omega (arith, high)) in
    record {
      size = subst (IsSizeIn env) (sym (ap size_of opens.shape ∙ opens.size)) (first-fits env);
      low = omega (arith, exponent, low);
      high = omega (arith, exponent, high);
    }

-- a flat table stands in a run of its pages, and a nested one has its top page
shape-right : (env : Env) (mix : ℕ → ℕ → ℕ → ℕ) (table : Table) (page : ℕ → PageOwner) (τ : ℕ) → IsBounded env table.shape
    → PlacedRight env mix table page τ → IsShapeRight env (unpacked table.shape)
shape-right env mix table page τ bounded (inl flat) =
    let none = flat.flat in
    let pages : table_pages (unpacked table.shape) ≡ max 1 (size_of (unpacked table.shape) / 64) =
    ap (λ n. cond (nat_lt 0 n) 1 (max 1 (size_of (unpacked table.shape) / 64))) none in
    let fits = flat.fits in
    let some : 4 ≤ size_of (unpacked table.shape) = powers-rise 2 (max 2 (min (unpacked table.shape).exponent 18)) (omega arith) in
    let within : (unpacked table.shape).page + max 1 (size_of (unpacked table.shape) / 64) ≤ env.geometry.pages =
    run-fits (unpacked table.shape).page (size_of (unpacked table.shape)) env.geometry.pages some fits in
    record { low = bounded.low; high = bounded.high; nest = inl none; within = omega (arith, pages, within) }
  where
    run-fits : (page size pages : ℕ) → 4 ≤ size → 64 * page + size ≤ 64 * pages → page + max 1 (size / 64) ≤ pages
    run-fits page size pages some fits = omega (arith, some, fits)
shape-right env mix table page τ bounded (inr nested) =
    let nest = nested.shaped.nest_is in
    let pages : table_pages (unpacked table.shape) ≡ 1 =
    ap (λ t. cond t 1 (max 1 (size_of (unpacked table.shape) / 64))) (lt-ltb 0 (unpacked table.shape).nest (omega (arith, nest))) in
    let top = nested.top_within in
    record {
      low = bounded.low;
      high = bounded.high;
      nest = inr (nested.shaped.least, nest);
      within = omega (arith, pages, top);
    }

module _ (env : Env) (mix : ℕ → ℕ → ℕ → ℕ) (words : List ℕ) (G : Ghost)
    (whole : Whole env mix (mem env mix words) G) (good : AreAll (IsBounded env) G) where
  table-right : (slot : ℕ) → In slot (in_force env.geometry words) → IsTableRight env words slot
  table-right slot i =
      let at = in_force_is env mix words G whole slot i in
      let live = whole.tables.force at.table at.current at.attached in
      let right = whole.tables.each at.table (live-there env mix G at.table live) in
      let M = mem env mix words in
      let size : table_size env words slot ≡ size_of (unpacked (G.table at.table).shape) =
      ap (λ s. size_of (unpacked (M (Slot s ShapeWord)))) at.slot_is ∙ ap (λ s. size_of (unpacked s)) right.shape_is in
      let bounded = good at.table at.attached in
      let bounds = subst (IsSizeIn env) (sym size) bounded.size in
      record {
        shape =
            subst (λ s. IsShapeRight env (unpacked s)) (sym (ap (λ s. M (Slot s ShapeWord)) at.slot_is ∙ right.shape_is))
            (shape-right env mix (G.table at.table) G.page at.table bounded right.placed);
        least = bounds.least;
        most = bounds.most;
        greatest = bounds.greatest;
        state = ap (λ s. M (Slot s StateWord)) at.slot_is ∙ whole.slots.states (G.table at.table).slot right.slot_in
            ∙ ap state_word live;
        seed = ap (λ s. M (Slot s SeedWord)) at.slot_is ∙ right.seed_is ∙ right.seeded
            ∙ ap (table_seed env.config.seed) (sym right.serial_is ∙ ap (λ s. M (Slot s SerialWord)) (sym at.slot_is));
      }

  tables-right : AreTablesRight env words
  tables-right =
      let last = last_in_force env mix words G whole in
      let now = whole.tables.each G.current (current-there env mix whole.tables) in
      record {
        current = let slot_in = now.slot_in in let is = whole.tables.current_is in omega (arith, slot_in, is);
        each = table-right;
        distinct = in_force_distinct env mix words G whole;
        ends = record { front = last.front; last = (G.table (G.attached - 1)).slot; split = last.split; none = last.none };
      }

pub tables : (M : Type 0) (mix : ℕ → ℕ → ℕ → ℕ) → Tables M mix
tables M mix env events admitted =
    let has = runs-good env (IsBounded env) (Fits env) (works_bounded env) (binds_bounded env) mix M (first-bounded env) events admitted in
    (tables-right env mix (run_of {M = M} mix env events).core.words has.ghost has.inv.whole has.good, numbered M mix env events admitted)
