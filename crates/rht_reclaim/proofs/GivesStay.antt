-- Whatever words it is told, the giving back of a retired table stays among the pages that there are. It works on its slot's shape
-- and state, on entries of pages, and on words of the page map.
use Rattle.std.proofs.Common.{◌≡◌, ℕ, ◌+◌, ◌*◌, ◌<◌, refl, sym, subst, arith}
use Rattle.std.specs.Prelude.{Option, Some, None, nat_lt}
use Rattle.std.proofs.lemmas.Bool.{cond_both, ltb-true}
use Rattle.std.proofs.lemmas.Bool.Decides.{nat_tests}
use Rattle.rht_words.specs.declared.geometry.Geometry.{Geometry}
use Rattle.rht_words.specs.declared.machine.Next.{Next}
use Rattle.rht_words.specs.declared.machine.Next.TheVariants.{Go, Done}
use Rattle.rht_words.specs.Links.{page_of}
use Rattle.rht_words.specs.Places.{PageWord, Slot, ShapeWord, StateWord}
use Rattle.rht_words.specs.Planned.{IsPlannedIn}
use Rattle.rht_words.proofs.PlannedWords.{planned-at, planned_load}
use Rattle.rht_arena.specs.GiveRun.{GiveRunModel, give_run_new, give_run_after, IsGiveRunIn}
use Rattle.rht_arena.proofs.RunsStay.{give_run_stays}
use Rattle.rht_arena.proofs.RunsPlanned.{planned_give_run}
use Rattle.rht_nest.specs.Place.{top_page, top_entries, is_deep}
use Rattle.rht_nest.specs.Tables.{is_nested}
use Rattle.rht_reclaim.specs.GiveTable.{GiveTableModel, give_table_plan, give_table_plan_at, give_table_after, give_table_after_at, give_page, shape_seen, run_returned, next_top, next_leaf, top_seen, leaf_seen, IsTopIn, IsLeafIn, IsGiveTableAtIn, IsGiveTableIn}
use Rattle.rht_reclaim.specs.declared.give_table.GiveTableAt.{GiveTableAt}
use Rattle.rht_reclaim.specs.declared.give_table.GiveTableAt.TheVariants as at
use Rattle.rht_nest.proofs.MakesStay.{run_of-in}
use Rattle.rht_nest.proofs.Places.{few_entries}

module _ (g : Geometry) where
  abbrev StaysIn : GiveTableAt → Type 0
  StaysIn state = IsGiveTableAtIn g state

  -- a page is a run of its own
  pub one_page-in : (page : ℕ) → page < g.pages → IsGiveRunIn g (give_run_new g page 1)
  one_page-in page there = record {
    geometry_same = refl;
    run = record { some = omega arith; within = omega (arith, there) };
    word = record { from = omega arith; until = omega arith };
  }

  -- whatever the shape, the top page is one of the pages
  pub top_page-in : (shape : ℕ) → top_page g shape < g.pages
  top_page-in shape = let some = g.within.pages_within in omega (arith, some)

  shape_seen-in : (shape : ℕ) → StaysIn (shape_seen g shape)
  shape_seen-in shape =
      let run = run_of-in g shape in
      cond_both (is_nested shape) _ _ StaysIn (λ t. omega arith) (λ f. record {
        geometry_same = refl;
        run = run;
        word = record { from = omega arith; until = omega (arith, run.some) };
      })

  run_returned-in : (give : GiveRunModel) (next : Next (Unit {0})) → IsGiveRunIn g give
      → StaysIn (run_returned give next)
  run_returned-in give Go stays = stays
  run_returned-in give (Done answer) stays = tt

  next_top-in : (shape top : ℕ) → StaysIn (next_top shape top)
  next_top-in shape top =
      let few = few_entries shape in
      cond_both (nat_lt (top + 1) (top_entries shape)) _ _ StaysIn
      (λ t. let low = ltb-true (top + 1) (top_entries shape) t in omega (arith, low, few)) (λ f. tt)

  next_leaf-in : (shape top page leaf : ℕ) → IsTopIn g top page → StaysIn (next_leaf shape top page leaf)
  next_leaf-in shape top page leaf above =
      cond_both (nat_lt (leaf + 1) 64) _ _ StaysIn
      (λ t. record { above = above; leaf_in = ltb-true (leaf + 1) 64 t }) (λ f. above)

  pub led-in : (word page : ℕ) → page_of g.pages word ≡ Some page → page < g.pages
  led-in word page is = grind (arith, nat_tests, is)

  top_seen-in : (shape top : ℕ) (led : Option ℕ) → top < 64 → ((page : ℕ) → led ≡ Some page → page < g.pages)
      → StaysIn (top_seen shape top led)
  top_seen-in shape top None top_in there = next_top-in shape top
  top_seen-in shape top (Some page) top_in there =
      let above : IsTopIn g top page = record { top_in = top_in; page_in = there page refl } in
      cond_both (is_deep shape) _ _ StaysIn (λ t. record { above = above; leaf_in = omega arith }) (λ f. above)

  leaf_seen-in : (shape top page leaf : ℕ) (led : Option ℕ) → IsLeafIn g top page leaf
      → ((below : ℕ) → led ≡ Some below → below < g.pages) → StaysIn (leaf_seen shape top page leaf led)
  leaf_seen-in shape top page leaf None here there = next_leaf-in shape top page leaf here.above
  leaf_seen-in shape top page leaf (Some below) here there =
      record { entry = here; below_in = there below refl }

  pub give_table_stays_at : (at : GiveTableAt) (word : ℕ) → StaysIn at
      → StaysIn (give_table_after_at g at word).0
  give_table_stays_at at.Shape word here = shape_seen-in word
  give_table_stays_at (at.Run give) word here =
      run_returned-in (give_run_after give word).0 (give_run_after give word).1 (give_run_stays g give word here)
  give_table_stays_at (at.TopEntry shape top) word here =
      top_seen-in shape top (page_of g.pages word) here (λ page is. led-in word page is)
  give_table_stays_at (at.LeafEntry shape top page leaf) word here =
      leaf_seen-in shape top page leaf (page_of g.pages word) here (λ below is. led-in word below is)
  give_table_stays_at (at.ClearLeaf shape top page leaf below) word here = here
  give_table_stays_at (at.GiveLeaf shape top page leaf below) word here =
      next_leaf-in shape top page leaf here.entry.above
  give_table_stays_at (at.ClearTop shape top page) word here = here
  give_table_stays_at (at.GivePage shape top page) word here = next_top-in shape top
  give_table_stays_at (at.GiveTop shape) word here = tt
  give_table_stays_at at.FreeSlot word here = tt

  pub give_table_stays : (m : GiveTableModel) (word : ℕ) → IsGiveTableIn g m → IsGiveTableIn g (give_table_after m word).0
  give_table_stays m word within =
      subst
      (λ (h : Geometry). IsGiveTableIn g (record m { at = (give_table_after_at h m.at word).0 }))
      (sym within.geometry_same)
      (record {
        geometry_same = within.geometry_same;
        slot_in = within.slot_in;
        at_in = give_table_stays_at m.at word within.at_in;
      })

  -- ---- on which words it works

  -- an entry of a page is a word of the pages
  pub entry-in : (page index : ℕ) → page < g.pages → index < 64 → 64 * page + index < 64 * g.pages
  entry-in page index page_in index_in = omega (arith, page_in, index_in)

  pub planned_give_page : (page : ℕ) → page < g.pages → IsPlannedIn g (give_page g page)
  planned_give_page page there = planned_give_run g (give_run_new g page 1) (one_page-in page there)

  pub planned_give_table_at : (slot : ℕ) (at : GiveTableAt) → slot < 8 → StaysIn at
      → IsPlannedIn g (give_table_plan_at g slot at)
  planned_give_table_at slot at.Shape slot_in here = planned_load g (Slot slot ShapeWord) (slot_in, tt) tt
  planned_give_table_at slot (at.Run give) slot_in here = planned_give_run g give here
  planned_give_table_at slot (at.TopEntry shape top) slot_in here =
      planned_load g (PageWord (64 * top_page g shape + top))
      (entry-in (top_page g shape) top (top_page-in shape) here) tt
  planned_give_table_at slot (at.LeafEntry shape top page leaf) slot_in here =
      planned_load g (PageWord (64 * page + leaf)) (entry-in page leaf here.above.page_in here.leaf_in) tt
  planned_give_table_at slot (at.ClearLeaf shape top page leaf below) slot_in here =
      planned-at g _ (PageWord (64 * page + leaf))
      (entry-in page leaf here.entry.above.page_in here.entry.leaf_in) tt refl (omega arith)
  planned_give_table_at slot (at.GiveLeaf shape top page leaf below) slot_in here =
      planned_give_page below here.below_in
  planned_give_table_at slot (at.ClearTop shape top page) slot_in here =
      planned-at g _ (PageWord (64 * top_page g shape + top))
      (entry-in (top_page g shape) top (top_page-in shape) here.top_in) tt refl (omega arith)
  planned_give_table_at slot (at.GivePage shape top page) slot_in here = planned_give_page page here.page_in
  planned_give_table_at slot (at.GiveTop shape) slot_in here =
      planned_give_page (top_page g shape) (top_page-in shape)
  planned_give_table_at slot at.FreeSlot slot_in here =
      planned-at g _ (Slot slot StateWord) (slot_in, tt) tt refl (omega arith)

  -- what it performs is on words of the table
  pub planned_give_table : (m : GiveTableModel) → IsGiveTableIn g m → IsPlannedIn g (give_table_plan m)
  planned_give_table m within =
      subst (λ (h : Geometry). IsPlannedIn g (give_table_plan_at h m.slot m.at)) (sym within.geometry_same)
      (planned_give_table_at m.slot m.at within.slot_in within.at_in)
