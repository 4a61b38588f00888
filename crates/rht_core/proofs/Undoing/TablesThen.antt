-- What a resizing that gives a table back knows of it by the words as they were when it loaded the table's shape: the run of a flat one, or the
-- entries of a nested one at which it is, and the pages to which they led then.
use Rattle.std.proofs.Common.{◌≡◌, ◌≢◌, ℕ, ◌+◌, ◌*◌, ◌<◌, Bool, true, false, List, [], ◌∷◌, ◌++◌, Option, Some, None, refl, sym, ap, ◌∙◌, subst, arith}
use Rattle.std.specs.Prelude.{nat_lt, min}
use Rattle.std.proofs.lemmas.Bool.{cond_both, ltb-true}
use Rattle.std.proofs.lemmas.List.{append_assoc}
use Rattle.std.proofs.lemmas.Nat.{pow_pos}
use Rattle.rht_words.specs.declared.geometry.Geometry.{Geometry}
use Rattle.rht_words.specs.declared.machine.Next.{Next}
use Rattle.rht_words.specs.declared.machine.Next.TheVariants.{Go, Done}
use Rattle.rht_words.specs.declared.op.Op.TheVariants.{Load}
use Rattle.rht_words.specs.Links.{page_of}
use Rattle.rht_words.specs.Shapes.{unpacked}
use Rattle.rht_words.specs.Places.{Slot, ShapeWord, StateWord, place_of, word_at}
use Rattle.rht_arena.specs.GiveRun.{GiveRunModel, give_run_new, give_run_after}
use Rattle.rht_nest.specs.Tables.{is_nested, run_first, run_pages}
use Rattle.rht_nest.specs.Place.{top_page, top_entries, is_deep}
use Rattle.rht_reclaim.specs.GiveTable.{shape_seen, run_returned, next_top, next_leaf, top_seen, leaf_seen, give_table_after_at}
use Rattle.rht_reclaim.specs.declared.give_table.GiveTableAt.{GiveTableAt}
use Rattle.rht_reclaim.specs.declared.give_table.GiveTableAt.TheVariants as gives
use Rattle.rht_stands.specs.StandsFor.{page_word}
use Rattle.rht_core.specs.Traces.{Did}
use Rattle.rht_core.proofs.Undoing.WorkStages.{Stage, AtLock, Asks, Loads, Gives, Opens, Behind}

-- ---- by the words then

-- These are the words as they were when this shape was loaded.
module _ (g : Geometry) (W : List ℕ) (shape : ℕ) where
  -- where an entry led then, by its number among the words of all pages
  abbrev pub led : ℕ → Option ℕ
  led index = page_of g.pages (page_word g W index)

  -- the run is the table's, which is flat
  pub record IsItsRun (give : GiveRunModel) : Type 0 where
    pub flat : is_nested shape ≡ false
    pub first : give.first ≡ run_first g shape
    pub pages : give.pages ≡ run_pages g shape

  -- the table is nested, and this is an entry in use of its top page
  pub record IsAtTop (of top : ℕ) : Type 0 where
    pub same : of ≡ shape
    pub nested : is_nested shape ≡ true
    pub used : top < top_entries shape

  -- which led to this page
  pub record IsBelowTop (of top page : ℕ) : Type 0 where
    pub at : IsAtTop of top
    pub leads : led (64 * top_page g shape + top) ≡ Some page

  -- that one has entries, of which this is one
  pub record IsInMiddle (of top page leaf : ℕ) : Type 0 where
    pub at : IsBelowTop of top page
    pub deep : is_deep shape ≡ true
    pub among : leaf < 64

  -- which led to this page
  pub record IsBelowMiddle (of top page leaf below : ℕ) : Type 0 where
    pub at : IsInMiddle of top page leaf
    pub leads : led (64 * page + leaf) ≡ Some below

  -- the table is nested, and has this shape
  pub record IsItsTop (of : ℕ) : Type 0 where
    pub same : of ≡ shape
    pub nested : is_nested shape ≡ true

  -- what is known by the state
  abbrev pub IsThen : GiveTableAt → Type 0
  IsThen gives.Shape = Unit {0}
  IsThen (gives.Run give) = IsItsRun give
  IsThen (gives.TopEntry of top) = IsAtTop of top
  IsThen (gives.LeafEntry of top page leaf) = IsInMiddle of top page leaf
  IsThen (gives.ClearLeaf of top page leaf below) = IsBelowMiddle of top page leaf below
  IsThen (gives.GiveLeaf of top page leaf below) = IsBelowMiddle of top page leaf below
  IsThen (gives.ClearTop of top page) = IsBelowTop of top page
  IsThen (gives.GivePage of top page) = IsBelowTop of top page
  IsThen (gives.GiveTop of) = IsItsTop of
  IsThen gives.FreeSlot = Unit {0}

  -- an entry that leads to a page by this word did so then
  abbrev pub DidSo : ℕ → ℕ → Type 0
  DidSo index old = (page : ℕ) → page_of g.pages old ≡ Some page → led index ≡ Some page

  -- so it is of the entry that is loaded in the state
  abbrev pub EntryDidSo : GiveTableAt → ℕ → Type 0
  EntryDidSo gives.Shape old = Unit {0}
  EntryDidSo (gives.Run give) old = Unit {0}
  EntryDidSo (gives.TopEntry of top) old = DidSo (64 * top_page g of + top) old
  EntryDidSo (gives.LeafEntry of top page leaf) old = DidSo (64 * page + leaf) old
  EntryDidSo (gives.ClearLeaf of top page leaf below) old = Unit {0}
  EntryDidSo (gives.GiveLeaf of top page leaf below) old = Unit {0}
  EntryDidSo (gives.ClearTop of top page) old = Unit {0}
  EntryDidSo (gives.GivePage of top page) old = Unit {0}
  EntryDidSo (gives.GiveTop of) old = Unit {0}
  EntryDidSo gives.FreeSlot old = Unit {0}

  -- ---- what is known next

  next_top-then : (of top : ℕ) → IsAtTop of top → IsThen (next_top of top)
  next_top-then of top at = go (nat_lt (top + 1) (top_entries of)) refl
    where
      go : (t : Bool) → nat_lt (top + 1) (top_entries of) ≡ t → IsThen (next_top of top)
      go true is = rw is (record {
        same = at.same;
        nested = at.nested;
        used = subst (λ s. top + 1 < top_entries s) at.same (ltb-true (top + 1) (top_entries of) is);
      })
      go false is = rw is (record { same = at.same; nested = at.nested })

  next_leaf-then : (of top page leaf : ℕ) → IsInMiddle of top page leaf → IsThen (next_leaf of top page leaf)
  next_leaf-then of top page leaf at = go (nat_lt (leaf + 1) 64) refl
    where
      go : (t : Bool) → nat_lt (leaf + 1) 64 ≡ t → IsThen (next_leaf of top page leaf)
      go true is = rw is (record { at = at.at; deep = at.deep; among = ltb-true (leaf + 1) 64 is })
      go false is = rw is at.at

  run-then : (give after : GiveRunModel) (next : Next (Unit {0})) → IsItsRun after → IsThen (run_returned after next)
  run-then give after Go run = run
  run-then give after (Done done) run = tt

  goes_run : (give : GiveRunModel) (old : ℕ) → IsItsRun give → IsItsRun (give_run_after give old).0
  goes_run give old run =
      cond_both (nat_lt (64 * (give.index + 1)) (give.first + give.pages)) (record give { index = give.index + 1 }, Go) (give, Done tt)
      (λ (r : GiveRunModel × Next (Unit {0})). IsItsRun r.0)
      (λ t. record { flat = run.flat; first = run.first; pages = run.pages }) (λ f. run)

  top_seen-then : (of top : ℕ) (page : Option ℕ) → IsAtTop of top → ((p : ℕ) → page ≡ Some p → led (64 * top_page g of + top) ≡ Some p)
      → IsThen (top_seen of top page)
  top_seen-then of top None at leads = next_top-then of top at
  top_seen-then of top (Some page) at leads = go (is_deep of) refl
    where
      below : IsBelowTop of top page
      below = record { at = at; leads = ap (λ s. led (64 * top_page g s + top)) (sym at.same) ∙ leads page refl }

      go : (t : Bool) → is_deep of ≡ t → IsThen (top_seen of top (Some page))
      go true is = rw is (record { at = below; deep = ap is_deep (sym at.same) ∙ is; among = omega arith })
      go false is = rw is below

  leaf_seen-then : (of top page leaf : ℕ) (below : Option ℕ) → IsInMiddle of top page leaf
      → ((p : ℕ) → below ≡ Some p → led (64 * page + leaf) ≡ Some p) → IsThen (leaf_seen of top page leaf below)
  leaf_seen-then of top page leaf None at leads = next_leaf-then of top page leaf at
  leaf_seen-then of top page leaf (Some below) at leads = record { at = at; leads = leads below refl }

  -- behind the load of the shape
  pub first-then : IsThen (shape_seen g shape)
  first-then =
      cond_both (is_nested shape) (gives.TopEntry shape 0) (gives.Run (give_run_new g (run_first g shape) (run_pages g shape))) IsThen
      (λ t. record { same = refl; nested = t; used = pow_pos (min (unpacked shape).nest 6) })
      (λ f. record { flat = f; first = refl; pages = refl })

  -- and behind each operation that found this word
  pub next-then : (state : GiveTableAt) (old : ℕ) → state ≢ gives.Shape → IsThen state → EntryDidSo state old
      → IsThen (give_table_after_at g state old).0
  next-then gives.Shape old other is did_so = absurd (other refl)
  next-then (gives.Run give) old other is did_so =
      run-then give (give_run_after give old).0 (give_run_after give old).1 (goes_run give old is)
  next-then (gives.TopEntry of top) old other is did_so = top_seen-then of top (page_of g.pages old) is did_so
  next-then (gives.LeafEntry of top page leaf) old other is did_so = leaf_seen-then of top page leaf (page_of g.pages old) is did_so
  next-then (gives.ClearLeaf of top page leaf below) old other is did_so = is
  next-then (gives.GiveLeaf of top page leaf below) old other is did_so = next_leaf-then of top page leaf is.at
  next-then (gives.ClearTop of top page) old other is did_so = is
  next-then (gives.GivePage of top page) old other is did_so = next_top-then of top is.at
  next-then (gives.GiveTop of) old other is did_so = tt
  next-then gives.FreeSlot old other is did_so = tt

-- ---- by the operations of a call

module _ (g : Geometry) (words_at : ℕ → List ℕ) where
  -- one of them loaded the shape of the table in this slot, while that was retired; and so it is known by the words then
  pub record HasLoaded (slot : ℕ) (state : GiveTableAt) (steps : List Did) : Type 0 where
    pub sooner : List Did
    pub load : Did
    pub since : List Did
    pub split : steps ≡ sooner ++ load ∷ since
    pub loads : load.op ≡ Load (place_of g (Slot slot ShapeWord))
    pub retired : word_at g (words_at load.index) (Slot slot StateWord) ≡ 2
    pub so : IsThen g (words_at load.index) load.old state

  -- and of the entry that is loaded next, by the words before this event
  pub record StandsThen (slot : ℕ) (state : GiveTableAt) (steps : List Did) (old : ℕ) : Type 0 where
    pub has : HasLoaded slot state steps
    pub did_so : EntryDidSo g (words_at has.load.index) has.load.old state old

  abbrev pub loaded-now : (slot : ℕ) (steps : List Did) (did : Did) → did.op ≡ Load (place_of g (Slot slot ShapeWord))
      → word_at g (words_at did.index) (Slot slot StateWord) ≡ 2 → HasLoaded slot (shape_seen g did.old) (steps ++ did ∷ [])
  loaded-now slot steps did loads retired = record {
    sooner = steps;
    load = did;
    since = [];
    split = refl;
    loads = loads;
    retired = retired;
    so = first-then g (words_at did.index) did.old;
  }

  abbrev pub loaded-more : (slot : ℕ) (state : GiveTableAt) (steps : List Did) (did : Did) → state ≢ gives.Shape
      → StandsThen slot state steps did.old → HasLoaded slot (give_table_after_at g state did.old).0 (steps ++ did ∷ [])
  loaded-more slot state steps did other stands =
      let has = stands.has in
      record {
        sooner = has.sooner;
        load = has.load;
        since = has.since ++ did ∷ [];
        split = ap (λ all. all ++ did ∷ []) has.split ∙ append_assoc has.sooner (has.load ∷ has.since) (did ∷ []);
        loads = has.loads;
        retired = has.retired;
        so = next-then g (words_at has.load.index) has.load.old state did.old other has.so stands.did_so;
      }

  -- what is known in a stage, before an operation that finds this word
  abbrev pub StandsInStage : Stage → List Did → ℕ → Type 0
  StandsInStage AtLock steps old = Unit {0}
  StandsInStage Asks steps old = Unit {0}
  StandsInStage (Loads slot) steps old = Unit {0}
  StandsInStage (Gives slot state) steps old = StandsThen slot state steps old
  StandsInStage Opens steps old = Unit {0}
  StandsInStage Behind steps old = Unit {0}
