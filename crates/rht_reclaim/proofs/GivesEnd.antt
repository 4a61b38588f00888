-- How many operations the giving back of a retired table makes at most, and that each is on one of the words on which it may work.
--
-- Of each state it is said how many operations are left. There are 195 for each entry of the top page behind this one, and three for
-- each entry of the page below that is still to come. Then there are those of this entry, and the two behind all of them.
use Rattle.std.proofs.Common.{◌≡◌, ℕ, ◌+◌, ◌-◌, ◌*◌, ◌/◌, ◌<◌, List, [], ◌∷◌, inl, inr, refl, sym, ap, subst, arith}
use Rattle.std.specs.Prelude.{Option, Some, None, nat_lt}
use Rattle.std.specs.List.{AllByRecursion}
use Rattle.std.proofs.lemmas.Bool.{cond_both, ltb-true, cases_lt}
use Rattle.rht_words.specs.declared.geometry.Geometry.{Geometry}
use Rattle.rht_words.specs.declared.machine.Next.{Next}
use Rattle.rht_words.specs.Links.{page_of}
use Rattle.rht_words.specs.Machines.{Ran, ran}
use Rattle.rht_words.specs.Places.{PageMap, place_of}
use Rattle.rht_arena.specs.GiveRun.{GiveRunModel, give_run_after}
use Rattle.rht_arena.specs.PageRuns.{IsRunIn, IsRunWord}
use Rattle.rht_nest.specs.Place.{top_page, top_entries, is_deep}
use Rattle.rht_nest.specs.Tables.{is_nested}
use Rattle.rht_reclaim.specs.GiveTable.{GiveTableModel, give_table_plan, give_table_plan_at, give_table_after, give_table_after_at, give_table_new, shape_seen, run_returned, next_top, next_leaf, top_seen, leaf_seen, IsGiveTableAtIn}
use Rattle.rht_reclaim.specs.GiveTableLaws.{ReturnsSoon, ReturnsWithin, IsReturnStep, IsOfReturn, IsOnPageMap}
use Rattle.rht_reclaim.specs.declared.give_table.GiveTableAt.{GiveTableAt}
use Rattle.rht_reclaim.specs.declared.give_table.GiveTableAt.TheVariants as at
use Rattle.rht_nest.proofs.MakesStay.{run_of-in}
use Rattle.rht_nest.proofs.Places.{few_entries}
use Rattle.rht_reclaim.proofs.Descents.{Drops, few_steps, ends_soon, all_steps}
use Rattle.rht_reclaim.proofs.GivesStay.{give_table_stays_at, planned_give_table_at, top_page-in}

-- ---- how many are left

-- of an entry of the top page
abbrev left_of_top : ℕ → ℕ
left_of_top top = (63 - top) * 195

abbrev pub left_at : GiveTableAt → ℕ
left_at at.Shape = 12483
left_at (at.Run give) = (give.first + give.pages - 64 * (give.index + 1) + 63) / 64 + 2
left_at (at.TopEntry shape top) = left_of_top top + 197
left_at (at.LeafEntry shape top page leaf) = left_of_top top + (63 - leaf) * 3 + 7
left_at (at.ClearLeaf shape top page leaf below) = left_of_top top + (63 - leaf) * 3 + 6
left_at (at.GiveLeaf shape top page leaf below) = left_of_top top + (63 - leaf) * 3 + 5
left_at (at.ClearTop shape top page) = left_of_top top + 4
left_at (at.GivePage shape top page) = left_of_top top + 3
left_at (at.GiveTop shape) = 2
left_at at.FreeSlot = 1

abbrev pub left : GiveTableModel → ℕ
left m = left_at m.at

shape_seen-low : (g : Geometry) (shape : ℕ) → left_at (shape_seen g shape) < 12483
shape_seen-low g shape =
    let run = run_of-in g shape in
    let few = g.within.pages_within in
    cond_both (is_nested shape) _ _ (λ state. left_at state < 12483) (λ t. omega arith)
    (λ f. omega (arith, run.within, run.some, few))

next_top-low : (shape top : ℕ) → left_at (next_top shape top) < left_of_top top + 3
next_top-low shape top =
    let few = few_entries shape in
    cond_both (nat_lt (top + 1) (top_entries shape)) _ _ (λ state. left_at state < left_of_top top + 3)
    (λ t. let low = ltb-true (top + 1) (top_entries shape) t in omega (arith, low, few)) (λ f. omega arith)

next_leaf-low : (shape top page leaf : ℕ)
    → left_at (next_leaf shape top page leaf) < left_of_top top + (63 - leaf) * 3 + 5
next_leaf-low shape top page leaf =
    cond_both (nat_lt (leaf + 1) 64) _ _ (λ state. left_at state < left_of_top top + (63 - leaf) * 3 + 5)
    (λ t. let low = ltb-true (leaf + 1) 64 t in omega (arith, low)) (λ f. omega arith)

run_returned-low : (give : GiveRunModel) (word : ℕ)
    → left_at (run_returned (give_run_after give word).0 (give_run_after give word).1) < left_at (at.Run give)
run_returned-low give word =
    cond_both {A = GiveRunModel × Next (Unit {0})} (nat_lt (64 * (give.index + 1)) (give.first + give.pages)) _ _
    (λ next. left_at (run_returned next.0 next.1) < left_at (at.Run give))
    (λ t. let more = ltb-true (64 * (give.index + 1)) (give.first + give.pages) t in omega (arith, more))
    (λ f. omega arith)

top_seen-low : (shape top : ℕ) (led : Option ℕ) → left_at (top_seen shape top led) < left_of_top top + 197
top_seen-low shape top None = let low = next_top-low shape top in omega (arith, low)
top_seen-low shape top (Some page) =
    cond_both (is_deep shape) _ _ (λ state. left_at state < left_of_top top + 197) (λ t. omega arith) (λ f. omega arith)

leaf_seen-low : (shape top page leaf : ℕ) (led : Option ℕ)
    → left_at (leaf_seen shape top page leaf led) < left_of_top top + (63 - leaf) * 3 + 7
leaf_seen-low shape top page leaf None = let low = next_leaf-low shape top page leaf in omega (arith, low)
leaf_seen-low shape top page leaf (Some below) = omega arith

pub drops : (m : GiveTableModel) (word : ℕ)
    → Drops give_table_plan give_table_after left (left m) (give_table_after m word)
drops m word = go m.at
  where
    go : (state : GiveTableAt)
        → Drops give_table_plan give_table_after left (left_at state) (record m { at = (give_table_after_at m.geometry state word).0 }, (give_table_after_at m.geometry state word).1)
    go at.Shape = shape_seen-low m.geometry word
    go (at.Run give) = run_returned-low give word
    go (at.TopEntry shape top) = top_seen-low shape top (page_of m.geometry.pages word)
    go (at.LeafEntry shape top page leaf) = leaf_seen-low shape top page leaf (page_of m.geometry.pages word)
    go (at.ClearLeaf shape top page leaf below) = omega arith
    go (at.GiveLeaf shape top page leaf below) = next_leaf-low shape top page leaf
    go (at.ClearTop shape top page) = omega arith
    go (at.GivePage shape top page) = next_top-low shape top
    go (at.GiveTop shape) = omega arith
    go at.FreeSlot = omega arith

pub returns_soon : ReturnsSoon
returns_soon g slot olds = record {
  few = few_steps give_table_plan give_table_after left drops (give_table_new g slot) olds;
  ends = ends_soon give_table_plan give_table_after left drops (give_table_new g slot) olds;
}

-- ---- where it works

-- a word of the page map that has bits of a run has that of a page of it
on_map : (g : Geometry) (first pages index : ℕ) → IsRunIn g first pages → IsRunWord first pages index
    → IsOnPageMap g (place_of g (PageMap index))
on_map g first pages index run word = elim (cases_lt first (64 * index)) [
  | inl low ↦ record {
    page = 64 * index;
    page_in = omega (arith, run.within, word.until);
    at = ap (λ i. place_of g (PageMap i)) (let e : index ≡ 64 * index / 64 = omega arith in e);
  }
  | inr high ↦ record {
    page = first;
    page_in = omega (arith, run.some, run.within);
    at = ap (λ i. place_of g (PageMap i)) (let e : index ≡ first / 64 = omega (arith, word.from, high) in e);
  }
]

module _ (g : Geometry) (slot : ℕ) (slot_in : slot < 8) where
  pub of_return : (at : GiveTableAt) → IsGiveTableAtIn g at → IsOfReturn g slot (give_table_plan_at g slot at)
  of_return at.Shape here = inr refl
  of_return (at.Run give) here =
      subst (λ (h : Geometry). IsOnPageMap g (place_of h (PageMap give.index))) (sym here.geometry_same)
      (on_map g give.first give.pages give.index here.run here.word)
  of_return (at.TopEntry shape top) here = inl (record {
    page = top_page g shape;
    index = top;
    page_in = top_page-in g shape;
    index_in = here;
    at = refl;
  })
  of_return (at.LeafEntry shape top page leaf) here = inl (record {
    page = page;
    index = leaf;
    page_in = here.above.page_in;
    index_in = here.leaf_in;
    at = refl;
  })
  of_return (at.ClearLeaf shape top page leaf below) here = (
    refl,
    inl (record {
      page = page;
      index = leaf;
      page_in = here.entry.above.page_in;
      index_in = here.entry.leaf_in;
      at = refl;
    }),
  )
  of_return (at.GiveLeaf shape top page leaf below) here = record { page = below; page_in = here.below_in; at = refl }
  of_return (at.ClearTop shape top page) here = (
    refl,
    inl (record {
      page = top_page g shape;
      index = top;
      page_in = top_page-in g shape;
      index_in = here.top_in;
      at = refl;
    }),
  )
  of_return (at.GivePage shape top page) here = record { page = page; page_in = here.page_in; at = refl }
  of_return (at.GiveTop shape) here = record { page = top_page g shape; page_in = top_page-in g shape; at = refl }
  of_return at.FreeSlot here = (refl, inr refl)

  abbrev from : GiveTableAt → List ℕ → Ran (Unit {0})
  from state olds =
      ran give_table_plan give_table_after (record { geometry = g; slot = slot; at = state }) olds

  step_in : (at : GiveTableAt) (old : ℕ) → IsGiveTableAtIn g at
      → IsReturnStep g slot (record { op = give_table_plan_at g slot at; old = old })
  step_in at old here =
      record { of_return = of_return at here; planned = planned_give_table_at g slot at slot_in here }

  all_within : (olds : List ℕ) (at : GiveTableAt) → IsGiveTableAtIn g at
      → AllByRecursion (IsReturnStep g slot) (from at olds).steps
  all_within [] at here = tt
  all_within (old ∷ olds) at here =
      all_steps (IsReturnStep g slot) (record { op = give_table_plan_at g slot at; old = old }) (give_table_after_at g at old).1
      (from (give_table_after_at g at old).0 olds) (step_in at old here)
      (all_within olds (give_table_after_at g at old).0 (give_table_stays_at g at old here))

pub returns_within : ReturnsWithin
returns_within g slot olds slot_in = all_within g slot slot_in olds at.Shape tt
