-- A giving back of a retired table that has ended has withdrawn each entry in order, and each page once nothing led to it, and has freed
-- the slot last.
--
-- The induction is over the entries that are left, first of a page of entries and then of the top page. What comes from a state on
-- begins with what there is to do with these entries, and goes on from the state behind them.
use Rattle.std.proofs.Common.{◌≡◌, ℕ, zero, suc, ◌+◌, ◌-◌, ◌*◌, ◌/◌, ◌<◌, ◌≤◌, List, [], ◌∷◌, ◌++◌, map, Bool, true, false, append_assoc, inl, inr, refl, sym, ap, ◌∙◌, subst, arith}
use Rattle.std.specs.Prelude.{Option, Some, None, nat_lt, if◌then◌else◌}
use Rattle.std.specs.List.{range_with_len}
use Rattle.std.proofs.lemmas.Bool.{cond_both, ltb-true, ltb-false}
use Rattle.std.proofs.lemmas.Bool.Decides.{nat_tests}
use Rattle.rht_words.specs.declared.geometry.Geometry.{Geometry}
use Rattle.rht_words.specs.declared.machine.Next.{Next}
use Rattle.rht_words.specs.declared.machine.Next.TheVariants.{Done}
use Rattle.rht_words.specs.Links.{page_of}
use Rattle.rht_words.specs.Machines.{Performed, Ran, ran}
use Rattle.rht_arena.specs.GiveRun.{GiveRunModel}
use Rattle.rht_arena.proofs.RunsGiven.{giving}
use Rattle.rht_nest.specs.Place.{top_page, top_entries, is_deep}
use Rattle.rht_nest.specs.Tables.{is_nested, run_first, run_pages}
use Rattle.rht_reclaim.specs.GiveTable.{GiveTableModel, give_table_plan, give_table_plan_at, give_table_after, run_returned, next_top, next_leaf, top_seen, leaf_seen, shape_seen}
use Rattle.rht_reclaim.specs.GiveTableLaws.{did, IsNothing, EntryDone, AreEntriesDone, AreLeavesDone, give_word, ArePagesGiven, TableReturned, ReturnsTable}
use Rattle.rht_reclaim.specs.declared.give_table.GiveTableAt.{GiveTableAt}
use Rattle.rht_reclaim.specs.declared.give_table.GiveTableAt.TheVariants as at
use Rattle.rht_nest.proofs.MakesStay.{run_of-in}
use Rattle.rht_nest.proofs.Places.{some_entries}

module _ (g : Geometry) (slot : ℕ) where
  -- the giving back, in a state
  abbrev returning : GiveTableAt → GiveTableModel
  returning state = record { geometry = g; slot = slot; at = state }

  -- what comes of it
  abbrev from : GiveTableAt → List ℕ → Ran (Unit {0})
  from state olds = ran give_table_plan give_table_after (returning state) olds

  abbrev IsEnded : GiveTableAt → List ℕ → Type 0
  IsEnded state olds = (from state olds).next ≡ Done tt

  -- the state's operation
  abbrev by : GiveTableAt → ℕ → Performed
  by state old = did (give_table_plan_at g slot state) old

  -- the operations begin with such ones, and go on from this state to the end
  record Comes (Part : List Performed → Type 0) (state : GiveTableAt) (steps : List Performed) : Type 0 where
    part : List Performed
    is_part : Part part
    olds : List ℕ
    done : IsEnded state olds
    are : steps ≡ part ++ (from state olds).steps

  -- there is nothing before that state
  at_once : (Part : List Performed → Type 0) (state : GiveTableAt) (olds : List ℕ) → Part [] → IsEnded state olds
      → Comes Part state (from state olds).steps
  at_once Part state olds nothing done = record { part = []; is_part = nothing; olds = olds; done = done; are = refl }

  -- ---- the entries of a page

  -- an entry that was done with, before those behind it
  module _ (Below : ℕ → List Performed → Type 0) (page index count : ℕ) (behind : GiveTableAt) where
    entry_then : (now rest : List Performed) → EntryDone g Below page index now
        → Comes (AreEntriesDone g Below page (index + 1) count) behind rest
        → Comes (AreEntriesDone g Below page index (suc count)) behind (now ++ rest)
    entry_then now rest done later = record {
      part = now ++ later.part;
      is_part = record { first = now; rest = later.part; is_first = done; is_rest = later.is_part; are = refl };
      olds = later.olds;
      done = later.done;
      are =
          ap (λ steps. now ++ steps) later.are
          ∙ sym (append_assoc now later.part (from behind later.olds).steps);
    }

  module _ (shape top page : ℕ) where
    -- below these entries there is nothing
    abbrev Nothing : ℕ → List Performed → Type 0
    Nothing led nothing = IsNothing nothing

    -- the state with so many entries left from this one on
    abbrev leaf_state : ℕ → ℕ → GiveTableAt
    leaf_state zero leaf = at.ClearTop shape top page
    leaf_state (suc count) leaf = at.LeafEntry shape top page leaf

    next_leaf-state : (count leaf : ℕ) → leaf + suc count ≡ 64
        → next_leaf shape top page leaf ≡ leaf_state count (leaf + 1)
    next_leaf-state zero leaf is =
        let past : nat_lt (leaf + 1) 64 ≡ false = grind (arith, nat_tests, is) in rw past refl
    next_leaf-state (suc count) leaf is =
        let more : nat_lt (leaf + 1) 64 ≡ true = grind (arith, nat_tests, is) in rw more refl

    abbrev LeavesFrom : ℕ → ℕ → List Performed → Type 0
    LeavesFrom count leaf steps =
        Comes (AreEntriesDone g Nothing page leaf count) (at.ClearTop shape top page) steps

    module _ (count leaf : ℕ) (is : leaf + suc count ≡ 64)
        (later : (olds : List ℕ) → IsEnded (leaf_state count (leaf + 1)) olds
        → LeavesFrom count (leaf + 1) (from (leaf_state count (leaf + 1)) olds).steps) where
      -- behind the entry
      leaves_behind : (olds : List ℕ) → IsEnded (next_leaf shape top page leaf) olds
          → LeavesFrom count (leaf + 1) (from (next_leaf shape top page leaf) olds).steps
      leaves_behind olds done =
          let state = next_leaf-state count leaf is in
          subst (λ s. LeavesFrom count (leaf + 1) (from s olds).steps) (sym state)
          (later olds (subst (λ s. IsEnded s olds) state done))

      leaf_loaded : (old : ℕ) (olds : List ℕ) (led : Option ℕ) → page_of g.pages old ≡ led
          → IsEnded (leaf_seen shape top page leaf led) olds
          → LeavesFrom (suc count) leaf (by (at.LeafEntry shape top page leaf) old ∷ (from (leaf_seen shape top page leaf led) olds).steps)
      leaf_loaded old olds None none done =
          entry_then Nothing page leaf count (at.ClearTop shape top page)
          (by (at.LeafEntry shape top page leaf) old ∷ []) (from (next_leaf shape top page leaf) olds).steps
          (inl (record { found = old; none = none; are = refl })) (leaves_behind olds done)
      leaf_loaded old [] (Some below) leads done = absurd (cc)
      leaf_loaded old (cleared ∷ []) (Some below) leads done = absurd (cc)
      leaf_loaded old (cleared ∷ given ∷ olds) (Some below) leads done =
          entry_then Nothing page leaf count (at.ClearTop shape top page)
          (by (at.LeafEntry shape top page leaf) old
          ∷ by (at.ClearLeaf shape top page leaf below) cleared
          ∷ by (at.GiveLeaf shape top page leaf below) given
          ∷ [])
          (from (next_leaf shape top page leaf) olds).steps
          (inr (record {
            found = old;
            led = below;
            leads = leads;
            below = [];
            is_below = refl;
            cleared = cleared;
            given = given;
            are = refl;
          }))
          (leaves_behind olds done)

    -- By induction over the entries that are left.
    leaves : (count leaf : ℕ) (olds : List ℕ) → leaf + count ≡ 64 → IsEnded (leaf_state count leaf) olds
        → LeavesFrom count leaf (from (leaf_state count leaf) olds).steps
    leaves zero leaf olds is done =
        at_once (AreEntriesDone g Nothing page leaf zero) (at.ClearTop shape top page) olds refl done
    leaves (suc count) leaf [] is done = absurd (cc)
    leaves (suc count) leaf (old ∷ olds) is done =
        leaf_loaded count leaf is
        (λ others ended. leaves count (leaf + 1) others (omega (arith, is)) ended)
        old olds (page_of g.pages old) refl done

    -- and so it is below an entry of the top page
    below_top : (deep : Bool) (olds : List ℕ)
        → IsEnded (if deep then at.LeafEntry shape top page 0 else at.ClearTop shape top page) olds
        → Comes (AreLeavesDone g deep page) (at.ClearTop shape top page)
        (from (if deep then at.LeafEntry shape top page 0 else at.ClearTop shape top page) olds).steps
    below_top true olds done = leaves 64 0 olds refl done
    below_top false olds done = at_once (AreLeavesDone g false page) (at.ClearTop shape top page) olds refl done

  -- ---- the entries of the top page

  module _ (shape : ℕ) where
    abbrev deep : Bool
    deep = is_deep shape

    abbrev Leaves : ℕ → List Performed → Type 0
    Leaves page steps = AreLeavesDone g deep page steps

    abbrev top_state : ℕ → ℕ → GiveTableAt
    top_state zero top = at.GiveTop shape
    top_state (suc count) top = at.TopEntry shape top

    next_top-state : (count top : ℕ) → top + suc count ≡ top_entries shape
        → next_top shape top ≡ top_state count (top + 1)
    next_top-state zero top is =
        let past : nat_lt (top + 1) (top_entries shape) ≡ false = grind (arith, nat_tests, is) in rw past refl
    next_top-state (suc count) top is =
        let more : nat_lt (top + 1) (top_entries shape) ≡ true = grind (arith, nat_tests, is) in rw more refl

    abbrev TopsFrom : ℕ → ℕ → List Performed → Type 0
    TopsFrom count top steps =
        Comes (AreEntriesDone g Leaves (top_page g shape) top count) (at.GiveTop shape) steps

    module _ (count top : ℕ) (is : top + suc count ≡ top_entries shape)
        (later : (olds : List ℕ) → IsEnded (top_state count (top + 1)) olds
        → TopsFrom count (top + 1) (from (top_state count (top + 1)) olds).steps) where
      tops_behind : (olds : List ℕ) → IsEnded (next_top shape top) olds
          → TopsFrom count (top + 1) (from (next_top shape top) olds).steps
      tops_behind olds done =
          let state = next_top-state count top is in
          subst (λ s. TopsFrom count (top + 1) (from s olds).steps) (sym state)
          (later olds (subst (λ s. IsEnded s olds) state done))

      -- the page's own entry is cleared and the page given, behind what there was to do below
      page_given : (old page : ℕ) (below : List Performed) (olds : List ℕ) → page_of g.pages old ≡ Some page
          → Leaves page below → IsEnded (at.ClearTop shape top page) olds
          → TopsFrom (suc count) top (by (at.TopEntry shape top) old ∷ (below ++ (from (at.ClearTop shape top page) olds).steps))
      page_given old page below [] leads is_below done = absurd (cc)
      page_given old page below (cleared ∷ []) leads is_below done = absurd (cc)
      page_given old page below (cleared ∷ given ∷ olds) leads is_below done =
          let last : List Performed =
          by (at.ClearTop shape top page) cleared ∷ by (at.GivePage shape top page) given ∷ [] in
          let rest = (from (next_top shape top) olds).steps in
          subst (λ steps. TopsFrom (suc count) top (by (at.TopEntry shape top) old ∷ steps))
          (append_assoc below last rest)
          (entry_then Leaves (top_page g shape) top count (at.GiveTop shape)
          (by (at.TopEntry shape top) old ∷ (below ++ last)) rest
          (inr (record {
            found = old;
            led = page;
            leads = leads;
            below = below;
            is_below = is_below;
            cleared = cleared;
            given = given;
            are = refl;
          }))
          (tops_behind olds done))

      top_loaded : (old : ℕ) (olds : List ℕ) (led : Option ℕ) → page_of g.pages old ≡ led
          → IsEnded (top_seen shape top led) olds
          → TopsFrom (suc count) top (by (at.TopEntry shape top) old ∷ (from (top_seen shape top led) olds).steps)
      top_loaded old olds None none done =
          entry_then Leaves (top_page g shape) top count (at.GiveTop shape) (by (at.TopEntry shape top) old ∷ [])
          (from (next_top shape top) olds).steps
          (inl (record { found = old; none = none; are = refl })) (tops_behind olds done)
      top_loaded old olds (Some page) leads done =
          let below = below_top shape top page deep olds done in
          subst (λ steps. TopsFrom (suc count) top (by (at.TopEntry shape top) old ∷ steps)) (sym below.are)
          (page_given old page below.part below.olds leads below.is_part below.done)

    -- By induction over the entries that are left.
    tops : (count top : ℕ) (olds : List ℕ) → top + count ≡ top_entries shape → IsEnded (top_state count top) olds
        → TopsFrom count top (from (top_state count top) olds).steps
    tops zero top olds is done =
        at_once (AreEntriesDone g Leaves (top_page g shape) top zero) (at.GiveTop shape) olds refl done
    tops (suc count) top [] is done = absurd (cc)
    tops (suc count) top (old ∷ olds) is done =
        top_loaded count top is
        (λ others ended. tops count (top + 1) others (omega (arith, is)) ended)
        old olds (page_of g.pages old) refl done

    -- there is a first entry
    all_tops : (count : ℕ) (olds : List ℕ) → count ≡ top_entries shape → IsEnded (at.TopEntry shape 0) olds
        → TopsFrom (top_entries shape) 0 (from (at.TopEntry shape 0) olds).steps
    all_tops zero olds is done = let some = some_entries shape in absurd (omega (arith, some, is))
    all_tops (suc count) olds is done =
        subst (λ n. TopsFrom n 0 (from (at.TopEntry shape 0) olds).steps) is
        (tops (suc count) 0 olds (omega (arith, is)) done)

    -- and last the top page is given
    nested : (olds : List ℕ) → IsEnded (at.TopEntry shape 0) olds
        → Comes (ArePagesGiven g shape true) at.FreeSlot (from (at.TopEntry shape 0) olds).steps
    nested olds done = let all = all_tops (top_entries shape) olds refl done in go all all.olds refl
      where
        go : (all : TopsFrom (top_entries shape) 0 (from (at.TopEntry shape 0) olds).steps) (left : List ℕ)
            → all.olds ≡ left
            → Comes (ArePagesGiven g shape true) at.FreeSlot (from (at.TopEntry shape 0) olds).steps
        go all [] is =
            let none : IsEnded (at.GiveTop shape) [] = subst (λ l. IsEnded (at.GiveTop shape) l) is all.done in
            absurd (cc)
        go all (given ∷ left) is =
            let last : List Performed = by (at.GiveTop shape) given ∷ [] in
            record {
              part = all.part ++ last;
              is_part = record {
                first = all.part;
                rest = last;
                is_first = all.is_part;
                is_rest = record { given = given; are = refl };
                are = refl;
              };
              olds = left;
              done = subst (λ l. IsEnded (at.GiveTop shape) l) is all.done;
              are =
                  all.are
                  ∙ ap (λ l. all.part ++ (from (at.GiveTop shape) l).steps) is
                  ∙ sym (append_assoc all.part last (from at.FreeSlot left).steps);
            }

  -- ---- a flat table

  module _ (first pages : ℕ) (some : 0 < pages) where
    -- the words of the map from this one on
    abbrev words_from : ℕ → ℕ
    words_from index = (first + pages - 1) / 64 + 1 - index

    abbrev GivenFrom : ℕ → List Performed → Type 0
    GivenFrom index steps =
        map (λ step. step.op) steps ≡ map (give_word g first pages) (range_with_len index (words_from index))

    word_then : (index old count : ℕ) (rest : List Performed) → words_from index ≡ suc count
        → words_from (index + 1) ≡ count → GivenFrom (index + 1) rest
        → GivenFrom index (by (at.Run (giving g first pages index)) old ∷ rest)
    word_then index old count rest here there given =
        ap (λ ops. give_word g first pages index ∷ ops)
        (given ∙ ap (λ n. map (give_word g first pages) (range_with_len (index + 1) n)) there)
        ∙ ap (λ n. map (give_word g first pages) (range_with_len index n)) (sym here)

    -- By induction over the words that the operations find.
    run_from : (olds : List ℕ) (index : ℕ) → 64 * index < first + pages
        → IsEnded (at.Run (giving g first pages index)) olds
        → Comes (GivenFrom index) at.FreeSlot (from (at.Run (giving g first pages index)) olds).steps
    run_from [] index low done = absurd (cc)
    run_from (old ∷ olds) index low done =
        let step = by (at.Run (giving g first pages index)) old in
        cond_both {A = GiveRunModel × Next (Unit {0})} (nat_lt (64 * (index + 1)) (first + pages)) _ _
        (λ next. IsEnded (run_returned next.0 next.1) olds
        → Comes (GivenFrom index) at.FreeSlot (step ∷ (from (run_returned next.0 next.1) olds).steps))
        (λ t later.
        let more : 64 * (index + 1) < first + pages = ltb-true (64 * (index + 1)) (first + pages) t in
        let rest = run_from olds (index + 1) more later in
        record {
          part = step ∷ rest.part;
          is_part =
              word_then index old (words_from (index + 1)) rest.part (omega (arith, more)) refl rest.is_part;
          olds = rest.olds;
          done = rest.done;
          are = ap (λ steps. step ∷ steps) rest.are;
        })
        (λ f last.
        let end : first + pages ≤ 64 * (index + 1) = ltb-false (64 * (index + 1)) (first + pages) f in
        let none : words_from (index + 1) ≡ 0 = omega (arith, end) in
        record {
          part = step ∷ [];
          is_part =
              word_then index old 0 [] (omega (arith, low, end)) none
              (ap (λ n. map (give_word g first pages) (range_with_len (index + 1) n)) (sym none));
          olds = olds;
          done = last;
          are = refl;
        })
        done

  -- ---- all of a table

  pages_by : (shape : ℕ) (nests : Bool) (olds : List ℕ)
      → IsEnded (if nests then at.TopEntry shape 0 else at.Run (giving g (run_first g shape) (run_pages g shape) (run_first g shape / 64))) olds
      → Comes (ArePagesGiven g shape nests) at.FreeSlot
      (from (if nests then at.TopEntry shape 0 else at.Run (giving g (run_first g shape) (run_pages g shape) (run_first g shape / 64))) olds).steps
  pages_by shape true olds done = nested shape olds done
  pages_by shape false olds done =
      let run = run_of-in g shape in
      run_from (run_first g shape) (run_pages g shape) run.some olds (run_first g shape / 64)
      (omega (arith, run.some)) done

  -- the slot is freed last
  slot_freed : (shape : ℕ) (steps : List Performed) (all : Comes (ArePagesGiven g shape (is_nested shape)) at.FreeSlot steps)
      (left : List ℕ) → all.olds ≡ left → TableReturned g slot (by at.Shape shape ∷ steps)
  slot_freed shape steps all [] is =
      let none : IsEnded at.FreeSlot [] = subst (λ l. IsEnded at.FreeSlot l) is all.done in absurd (cc)
  slot_freed shape steps all (state ∷ left) is = record {
    shape = shape;
    pages = all.part;
    state = state;
    given = all.is_part;
    are =
        ap (λ s. by at.Shape shape ∷ s)
        (all.are ∙ ap (λ l. all.part ++ (from at.FreeSlot l).steps) is);
  }

  returned : (olds : List ℕ) → IsEnded at.Shape olds → TableReturned g slot (from at.Shape olds).steps
  returned [] done = absurd (cc)
  returned (shape ∷ olds) done =
      let all = pages_by shape (is_nested shape) olds done in
      slot_freed shape (from (shape_seen g shape) olds).steps all all.olds refl

pub returns_table : ReturnsTable
returns_table g slot olds done = returned g slot olds done
