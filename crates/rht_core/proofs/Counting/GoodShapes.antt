-- What is true of the shape of each table, since each new one is made by that of the last one: then it is so of all tables.
--
-- A call that knows the shape of the last table chooses a size by it, and attaches a table that it has made of that size.
use Rattle.std.proofs.Common.{◌≡◌, ℕ, ◌+◌, ◌*◌, ◌<◌, ◌≤◌, Bool, true, false, cond, min, nat_lt, List, refl, sym, subst, arith}
use Rattle.std.specs.Prelude.{Option, Some, None, ◌==◌}
use Rattle.rht_words.specs.declared.env.Env.{Env}
use Rattle.rht_words.specs.declared.geometry.Geometry.{Geometry}
use Rattle.rht_words.specs.declared.machine.Next.{Next}
use Rattle.rht_words.specs.declared.machine.Next.TheVariants.{Go, Done}
use Rattle.rht_words.specs.Places.{Slot, ShapeWord}
use Rattle.rht_words.specs.Shapes.{unpacked, size_of}
use Rattle.rht_policy.specs.Thresholds.{is_above_75}
use Rattle.rht_nest.specs.Make.{MakeModel, IsKind, IsMakeIn, IsMakeAtIn, make_after, make_after_at, may_nest, made_pages, made_shape, slot_seen, run_started}
use Rattle.rht_nest.specs.Tables.{exponent_made}
use Rattle.rht_nest.specs.declared.make.MakeAt.{MakeAt}
use Rattle.rht_nest.specs.declared.make.MakeAt.TheVariants as makes
use Rattle.rht_arena.specs.TakeRun.{take_run_new}
use Rattle.rht_bind.specs.Bind as bind
use Rattle.rht_bind.specs.Bind.{IsBindAtIn}
use Rattle.rht_bind.specs.declared.bind.Claimed.{Claimed}
use Rattle.rht_bind.specs.declared.bind.BindAt.{BindAt}
use Rattle.rht_bind.specs.declared.bind.BindAt.TheVariants as bind_at
use Rattle.rht_move.specs.declared.last_table.LastTableAt.TheVariants as last_tables
use Rattle.rht_move.specs.LastTable.{LastTableModel}
use Rattle.rht_move.specs.Choice.{choice_of}
use Rattle.rht_move.specs.declared.work.choice.Choice.TheVariants as choices
use Rattle.rht_move.specs.declared.work.WorkAt.{WorkAt}
use Rattle.rht_move.specs.declared.work.WorkAt.TheVariants as at
use Rattle.rht_move.specs.Work.{after_at, IsWorkAtIn}
use Rattle.rht_ghost.proofs.Theory.Ghosts.{Ghost, table_at, put-all, made_table}
use Rattle.rht_ghost.proofs.Theory.Departures.{withdrawn_table}
use Rattle.rht_ghost.proofs.Theory.Ways.{entered_table}
use Rattle.rht_ghost.proofs.Theory.Wholes.{Whole, IsAt}
use Rattle.rht_ghost.proofs.Theory.Steps.{Move, Attaches, Enters, Withdraws, ghost_after, mem, by_test}
use Rattle.rht_ghost.proofs.Pieces.TableLoads.{shape_word}
use Rattle.rht_core.proofs.Counting.MakingWorks.{MakeGoes, WorkMakes, work-leads}
use Rattle.rht_core.proofs.Counting.MakingBinds.{BindMakes, bind-leads}

-- so it is of each table that was attached
abbrev pub AreAll : (ℕ → Type 0) → Ghost → Type 0
AreAll Good G = (τ : ℕ) → τ < G.attached → Good (G.table τ).shape

-- by a good shape a resizing makes tables of fitting sizes, by their exponents, and these have good shapes
pub record AreMadeGood (env : Env) (Good Fit : ℕ → Type 0) : Type 0 where
  pub chooses : (count shape size : ℕ) (alone : Bool) → Good shape → choice_of env count shape alone ≡ choices.Attach size
      → Fit (exponent_made size)
  pub makes : (exponent page : ℕ) (nested : Bool) → Fit exponent → 2 ≤ exponent → exponent ≤ 17 → IsKind exponent false nested
      → Good (made_shape exponent nested page)

-- and so does a bind
pub record AreGrownGood (env : Env) (Good Fit : ℕ → Type 0) : Type 0 where
  pub grows : (count shape : ℕ) → Good shape → is_above_75 (min count 65536) (size_of (unpacked shape)) env.config.max ≡ true
      → Fit (exponent_made (2 * size_of (unpacked shape)))
  pub renews : (shape : ℕ) → Good shape → Fit (exponent_made (size_of (unpacked shape)))
  pub makes : (exponent page : ℕ) (nested : Bool) → Fit exponent → 2 ≤ exponent → exponent ≤ 17
      → Good (made_shape exponent nested page)

-- ---- a table that is made

-- where a shape is told, it is that of a table of this size, nested only where that is allowed
abbrev pub IsMadeSo : ℕ → Bool → Next (Option (ℕ × ℕ)) → Type 0
IsMadeSo exponent allowed Go = Unit {0}
IsMadeSo exponent allowed (Done None) = Unit {0}
IsMadeSo exponent allowed (Done (Some (slot, shape))) =
    (nested : Bool) × (page : ℕ) × (shape ≡ made_shape exponent nested page) × IsKind exponent allowed nested

module _ (g : Geometry) (exponent : ℕ) (allowed : Bool) where
  slot-made : (h : Geometry) (nests : Bool) (slot state : ℕ) → IsMadeSo exponent allowed (slot_seen h exponent nests slot state).1
  slot-made h nests slot state =
      by_test (λ t. IsMadeSo exponent allowed (cond {A = MakeAt × Next (Option (ℕ × ℕ))} t (run_started h nests slot (take_run_new h (made_pages exponent)), Go)
      (cond (nat_lt (slot + 1) 8) (makes.Slot (slot + 1), Go) (makes.Slot slot, Done None))).1) (state == 0)
      (λ t. tt)
      (λ f. by_test (λ t. IsMadeSo exponent allowed (cond {A = MakeAt × Next (Option (ℕ × ℕ))} t (makes.Slot (slot + 1), Go) (makes.Slot slot, Done None)).1)
      (nat_lt (slot + 1) 8) (λ t. tt) (λ f. tt))

  pub made-so : (h : Geometry) (state : MakeAt) (old : ℕ) → IsMakeAtIn g exponent allowed state
      → IsMadeSo exponent allowed (make_after_at h exponent allowed state old).1
  made-so h (makes.Slot slot) old within = slot-made h (may_nest exponent allowed) slot old
  made-so h (makes.Serial slot nested page serial) old within = (nested, page, refl, within.taken.kind)
  made-so h _ old within = tt

-- ---- calls

-- what a resizing, or a bind, makes is of a fitting size, and what it chooses by or attaches has a good shape
abbrev pub GoodWork : (ℕ → Type 0) → (ℕ → Type 0) → WorkAt → Type 0
GoodWork Good Fit state = WorkMakes Good (λ make. Fit make.exponent) (λ slot shape. Good shape) state

abbrev pub GoodBind : (ℕ → Type 0) → (ℕ → Type 0) → BindAt → Type 0
GoodBind Good Fit state = BindMakes Good (λ make. Fit make.exponent) (λ slot shape. Good shape) state

-- the table in which a bind is has a good shape
pub record IsSeenGood (Good : ℕ → Type 0) (state : BindAt) : Type 0 where
  pub future : (claimed : Claimed) (length : ℕ) → state ≡ bind_at.Future claimed length → Good claimed.shape
  pub count : (claimed : Claimed) → state ≡ bind_at.Count claimed → Good claimed.shape

module _ (env : Env) (Good Fit : ℕ → Type 0) where
  -- a table that was made has a good shape
  made-goes : (allowed : Bool)
      → ((exponent page : ℕ) (nested : Bool) → Fit exponent → 2 ≤ exponent → exponent ≤ 17 → IsKind exponent allowed nested
      → Good (made_shape exponent nested page))
      → (make : MakeModel) (old : ℕ) → make.nested ≡ allowed → IsMakeIn env.geometry make → Fit make.exponent
      → MakeGoes (λ m. Fit m.exponent) (λ slot shape. Good shape) (make_after make old)
  made-goes allowed makes make old same within fit =
      go (make_after make old).1
      (subst (λ a. IsMadeSo make.exponent a (make_after make old).1) same
      (made-so env.geometry make.exponent make.nested make.geometry make.at old within.at_in))
    where
      go : (next : Next (Option (ℕ × ℕ))) → IsMadeSo make.exponent allowed next
          → MakeGoes (λ m. Fit m.exponent) (λ slot shape. Good shape) ((make_after make old).0, next)
      go Go so = fit
      go (Done None) so = tt
      go (Done (Some (slot, shape))) so =
          subst Good (sym so.2) (makes make.exponent so.1 so.0 fit within.least within.greatest so.3)

  -- it stays so where the shape of the last table that a resizing finds is good
  pub good-work : AreMadeGood env Good Fit → (mix : ℕ → ℕ → ℕ → ℕ) (state : WorkAt) (old : ℕ) → IsWorkAtIn env state
      → GoodWork Good Fit state
      → ((root : ℕ) (seek : LastTableModel) (slot : ℕ) → state ≡ at.LastTable root seek → seek.at ≡ last_tables.Shape slot → Good old)
      → GoodWork Good Fit (after_at mix env state old).0
  good-work keeps mix state old within good last =
      work-leads env Good (λ make. Fit make.exponent) (λ slot shape. Good shape) mix Good (λ make. Fit make.exponent)
      (λ slot shape. Good shape) state old within good (record {
        last = last;
        chooses = λ root known size fits is. keeps.chooses old known.shape size (root == known.table) fits is;
        makes = λ wanted make is in_range fit. made-goes false keeps.makes make old in_range.flat in_range.make_in fit;
      })

  -- or where that of the table is in which a bind is
  pub good-bind : AreGrownGood env Good Fit → (mix : ℕ → ℕ → ℕ → ℕ) (port : ℕ) (once : Bool) (state : BindAt) (old : ℕ)
      → IsBindAtIn env state → GoodBind Good Fit state → IsSeenGood Good state → GoodBind Good Fit (bind.after_at mix env port once state old).0
  good-bind keeps mix port once state old within good seen =
      bind-leads env Good (λ make. Fit make.exponent) (λ slot shape. Good shape) mix Good (λ make. Fit make.exponent)
      (λ slot shape. Good shape) port once state old within good (record {
        future = seen.future;
        count = seen.count;
        stays = λ shape fits. fits;
        grows = λ shape fits above. keeps.grows old shape fits above;
        renews = keeps.renews;
        makes = λ growing size make is in_range fit. made-goes make.nested (any_kind make.nested) make old refl in_range.make_in fit;
      })
    where
      any_kind : (allowed : Bool) (exponent page : ℕ) (nested : Bool) → Fit exponent → 2 ≤ exponent → exponent ≤ 17
          → IsKind exponent allowed nested → Good (made_shape exponent nested page)
      any_kind allowed exponent page nested fit low high kind = keeps.makes exponent page nested fit low high

-- ---- ghosts

module _ (env : Env) (mix : ℕ → ℕ → ℕ → ℕ) (Good : ℕ → Type 0) where
  -- a table that comes is the last one, and has this shape
  pub attached-good : (G : Ghost) (slot shape seed serial : ℕ) → AreAll Good G → Good shape
      → (c : ℕ) → AreAll Good (ghost_after env mix c (Attaches slot shape seed serial) G)
  attached-good G slot shape seed serial good fits c τ l =
      put-all (λ i t. i < G.attached + 1 → Good t.shape) G.table G.attached (made_table slot shape seed serial) (λ last. fits)
      (λ i other low. good i (omega (arith, other, low))) τ l

  -- no other move attaches any
  pub moved-good : (c : ℕ) (move : Move) (G : Ghost) → AreAll Good G
      → ((slot shape seed serial : ℕ) → move ≡ Attaches slot shape seed serial → Good shape) → AreAll Good (ghost_after env mix c move G)
  moved-good c (Attaches slot shape seed serial) G good attaches =
      attached-good G slot shape seed serial good (attaches slot shape seed serial refl) c
  moved-good c (Enters j p) G good attaches =
      put-all (λ i t. i < G.attached → Good t.shape) G.table (table_at G j) (entered_table (G.table (table_at G j)) j p)
      (good (table_at G j)) (λ i other. good i)
  moved-good c (Withdraws j p) G good attaches =
      put-all (λ i t. i < G.attached → Good t.shape) G.table (table_at G j) (withdrawn_table (G.table (table_at G j)) j)
      (good (table_at G j)) (λ i other. good i)
  moved-good c _ G good attaches = good

  -- the shape of a slot that has a table
  pub slot-good : (words : List ℕ) (G : Ghost) → Whole env mix (mem env mix words) G → AreAll Good G → (slot : ℕ)
      → IsAt G slot → Good (mem env mix words (Slot slot ShapeWord))
  slot-good words G whole good slot at =
      subst Good (sym (shape_word env mix (mem env mix words) G whole slot at)) (good at.table at.attached)
