-- Operations that attach a table or enter a page wrongly, whatever the call did before: a look-up that attaches a table behind one in
-- force; whoever attaches one of which a page was never taken; a bind that attaches one of 4 buckets where each shape that it loaded was that
-- of 64; a bind that makes another table the current one; a look-up that enters a page; a resizing that does so, in the table from which it has gone on, or in one in force; a bind that enters one
-- where no way to its port's bucket ends; a look-up that takes a slot; a bind that frees a slot which it never took; a look-up that takes the
-- work lock; a resizing that gives it back and never took it; one that leaves another value there than 0 or 1; and one that retires a table
-- in whose place it made no other one the current one. Further a resizing that frees the slot of a retired table of which it didn't load the
-- state; a look-up that keeps a section word; a resizing that keeps one which it didn't load; and whoever clears an entry of a table in force
-- that leads to a page.
use Rattle.std.proofs.Common.{◌≡◌, ◌≢◌, ◌⊎◌, ℕ, ◌*◌, ◌<◌, Bool, List, [], ◌∷◌, ◌++◌, refl, sym, ap, ◌∙◌, subst, inl, inr, arith, Some}
use Rattle.std.specs.List.{AllByRecursion}
use Rattle.std.proofs.lemmas.Bool.{cond_both}
use Rattle.rht_words.specs.declared.env.Env.{Env}
use Rattle.rht_words.specs.declared.geometry.Geometry.{Geometry}
use Rattle.rht_words.specs.declared.op.Op.{Op}
use Rattle.rht_words.specs.declared.op.Op.TheVariants.{Load, Store, Exchange}
use Rattle.rht_words.specs.Operations.{op_place, word_after}
use Rattle.rht_words.specs.Links.{table_of, future_of, entry_of, page_of}
use Rattle.rht_words.specs.Members.{In}
use Rattle.rht_words.specs.Places.{CurrentTable, WorkLock, Slot, ShapeWord, SeedWord, FutureWord, StateWord, LoadedSection, Section, PageWord, place_of, word_at}
use Rattle.rht_words.specs.Shapes.{unpacked, size_of}
use Rattle.rht_words.proofs.EachElement.{AllByRecursion-cut, AllByRecursion-push}
use Rattle.rht_policy.specs.Thresholds.{is_above_75}
use Rattle.rht_policy.specs.Mix.{bucket_of}
use Rattle.rht_nest.specs.Place.{nested_place, missing_at}
use Rattle.rht_stands.specs.StandsFor.{in_force, page_word, shape_of}
use Rattle.rht_core.specs.TablePages.{IsEntryOfTable}
use Rattle.rht_core.specs.Refused.{IsWaysEnd, HasTaken}
use Rattle.rht_model.specs.declared.history.Call.{Call}
use Rattle.rht_model.specs.declared.history.Call.TheVariants.{Bind, Find, Work}
use Rattle.rht_core.specs.declared.event.Event.{Event}
use Rattle.rht_core.specs.Traces.{Did, performed_of}
use Rattle.rht_nest.specs.MakeLaws.{TakesSlot}
use Rattle.rht_nest.specs.Tables.{pages_of_shape}
use Rattle.rht_arena.specs.RunLaws.{TakesPage}
use Rattle.rht_core.specs.Seen.{CameTo, words_before}
use Rattle.rht_core.specs.ResizeCauses.{wanted_size}
use Rattle.rht_core.specs.Attached.{ChangesTable, ChangesKept, AttachesFull, AttachesRightly, ChangesRightly, ChangesMissing, ChangesWorkLock}
use Rattle.rht_core.specs.WorkCauses.{TakesWorkLock, StoresCurrent}

-- where it loads the shape of a table, that is one of so many buckets
abbrev pub FindsSize : Geometry → ℕ → Did → Type 0
FindsSize g size did =
    (table : ℕ) → table < 8 → did.op ≡ Load (place_of g (Slot table ShapeWord)) → size_of (unpacked did.old) ≡ size

module _ (M : Type 0) (mix : ℕ → ℕ → ℕ → ℕ) (env : Env) (events : List Event) (c index : ℕ) (before : List Did) where
  abbrev g : Geometry
  g = env.geometry

  abbrev words : List ℕ
  words = words_before M mix env events index

  abbrev Rightly : Call → Did → Type 0
  Rightly call did = ChangesRightly M mix env events c call before did

  -- ---- an exchange that attaches the table of this slot behind one in force

  module _ (table slot : ℕ) (table_in : table < 8) (slot_in : slot < 8) (stands : In table (in_force g words)) where
    abbrev attaches : Did
    attaches = record { index = index; op = Exchange (place_of g (Slot table FutureWord)) 0 (future_of slot); old = 0 }

    changes : ChangesTable g table attaches
    changes = record {
      slot_in = table_in;
      word = FutureWord;
      of_table = tt;
      there = refl;
      other = λ same. absurd (omega (arith, same));
    }

    -- the table isn't the call's own
    attached_so : (call : Call) → Rightly call attaches → AttachesRightly M mix env events c call table before attaches
    attached_so call right = elim (right.tables table changes) [
      | inl own ↦ absurd (own.apart stands)
      | inr so ↦ so
    ]

    -- by a look-up
    pub look_up_attaches : (port : ℕ) → Rightly (Find port) attaches → ⊥
    look_up_attaches port right = (attached_so (Find port) right).cause

    -- of which a page was never taken, whoever does so
    untaken : (page : ℕ) → AllByRecursion (λ did. ¬ TakesPage g page (performed_of did)) before → HasTaken g page before → ⊥
    untaken page none taken =
        (AllByRecursion-cut (λ did. ¬ TakesPage g page (performed_of did)) taken.before (taken.at ∷ taken.behind)
        (subst (AllByRecursion (λ did. ¬ TakesPage g page (performed_of did))) taken.split none)).1.0 taken.takes

    pub attaches_untaken : (call : Call) (page : ℕ) → In page (pages_of_shape (word_at g words (Slot slot ShapeWord)))
        → AllByRecursion (λ did. ¬ TakesPage g page (performed_of did)) before → Rightly call attaches → ⊥
    attaches_untaken call page has none right =
        let so = attached_so call right in
        let same : future_of slot ≡ future_of so.slot = let is = so.attaches.exchanges in cc in
        let one : slot ≡ so.slot = omega (arith, same) in
        let shape : word_at g words (Slot slot ShapeWord) ≡ so.shape = ap (λ s. word_at g words (Slot s ShapeWord)) one ∙ so.shape_is in
        untaken page none (so.pages page (subst (λ s. In page (pages_of_shape s)) shape has))

    -- by a bind that saw tables of 64 buckets alone, where the one that it attaches has 4
    module _ (few : size_of (unpacked (word_at g words (Slot slot ShapeWord))) ≡ 4) (seen : AllByRecursion (FindsSize g 64) before) where
      -- what is wanted behind a table of 64 buckets has so many, or twice as many
      wanted : (shape count : ℕ) → size_of (unpacked shape) ≡ 64 → 4 ≢ wanted_size env shape count
      wanted shape count is =
          cond_both (is_above_75 count (size_of (unpacked shape)) env.config.max) (2 * size_of (unpacked shape))
          (size_of (unpacked shape)) (λ size. 4 ≢ size)
          (λ t same. absurd (omega (arith, is, same))) (λ f same. absurd (omega (arith, is, same)))

      other_size : (port made shape : ℕ) → size_of (unpacked shape) ≡ 4
          → AttachesFull M mix env events c port table made shape before attaches → ⊥
      other_size port made shape small full =
          let walked = full.full.walked in
          let all = AllByRecursion-push (FindsSize g 64) before attaches seen (λ t low loads. absurd (cc)) in
          let at = (AllByRecursion-cut (FindsSize g 64) walked.before (walked.at ∷ walked.behind)
          (subst (AllByRecursion (FindsSize g 64)) walked.split all)).1.0 in
          let many : size_of (unpacked full.full.shape) ≡ 64 =
          ap (λ s. size_of (unpacked s)) (sym walked.found) ∙ at table walked.table_in walked.loaded in
          wanted full.full.shape full.count many (sym small ∙ full.sized)

      pub bind_attaches_small : (port owner : ℕ) (once : Bool) → Rightly (Bind port owner once) attaches → ⊥
      bind_attaches_small port owner once right =
          let so = attached_so (Bind port owner once) right in
          let same : future_of slot ≡ future_of so.slot = let is = so.attaches.exchanges in cc in
          let one : slot ≡ so.slot = omega (arith, same) in
          let shape : word_at g words (Slot slot ShapeWord) ≡ so.shape = ap (λ s. word_at g words (Slot s ShapeWord)) one ∙ so.shape_is in
          other_size port so.slot so.shape (ap (λ s. size_of (unpacked s)) (sym shape) ∙ few) so.cause

  -- ---- a store of another table as the current one

  pub bind_moves_on : (port owner old table : ℕ) (once : Bool) → table ≢ old
      → Rightly (Bind port owner once) (record { index = index; op = Store (place_of g CurrentTable) table; old = old }) → ⊥
  bind_moves_on port owner old table once other right =
      let works = (right.current (record { there = refl; other = other })).0 in absurd (cc)

  -- ---- an exchange that enters a page at an entry which leads to none, of a table in force or of one that was left behind

  module _ (entry page : ℕ) (entry_in : entry < 64 * g.pages) (slot : ℕ) (low : slot < 8)
      (way : IsWaysEnd g words slot entry) (stands : In slot (in_force g words) ⊎ CameTo g slot before) where
    abbrev enters : Did
    enters = record { index = index; op = Exchange (place_of g (PageWord entry)) 0 (entry_of page); old = 0 }

    changes_missing : ChangesMissing g words before entry enters
    changes_missing = record {
      entry_in = entry_in;
      table = slot;
      table_in = low;
      stands = stands;
      way = way;
      there = refl;
      other = λ same. absurd (omega (arith, same));
    }

    -- by a look-up
    pub look_up_enters : (port : ℕ) → Rightly (Find port) enters → ⊥
    look_up_enters port right = right.entries entry changes_missing

    -- by a resizing, as one in the table from which it has gone on
    pub resizing_enters : Rightly Work enters → ⊥
    resizing_enters right = right.entries entry changes_missing

    -- by a bind, where the way to its port's bucket ends elsewhere in each table, whichever shape it loaded
    pub bind_enters_elsewhere : (port owner : ℕ) (once : Bool)
        → ((table shape : ℕ) → missing_at (page_word g words)
        (nested_place g shape (bucket_of mix port shape (word_at g words (Slot table SeedWord)))) ≢ Some entry)
        → Rightly (Bind port owner once) enters → ⊥
    bind_enters_elsewhere port owner once elsewhere right =
        let way = right.entries entry changes_missing in
        elsewhere way.table way.shape
        (ap (λ bucket. missing_at (page_word g words) (nested_place g way.shape bucket)) (sym way.bucket_is) ∙ way.ends)

  -- ---- slots

  -- a look-up that takes one
  pub look_up_takes_slot : (port slot : ℕ) → slot < 8
      → Rightly (Find port) (record { index = index; op = Exchange (place_of g (Slot slot StateWord)) 0 1; old = 0 }) → ⊥
  look_up_takes_slot port slot low right =
      elim (right.states slot (record { slot_in = low; there = refl; other = λ same. cc })) [
        | inl taken ↦ taken.0
        | inr (inl given) ↦ let same = given.1 in absurd (cc)
        | inr (inr (inl retired)) ↦ let same = retired.0 in absurd (cc)
        | inr (inr (inr returned)) ↦ let same = returned.0 in absurd (cc)
      ]

  -- a bind that frees a retired one, of which it took none
  pub bind_frees_slot : (port owner slot : ℕ) (once : Bool) → slot < 8
      → AllByRecursion (λ did. ¬ TakesSlot g slot (performed_of did)) before
      → Rightly (Bind port owner once) (record { index = index; op = Store (place_of g (Slot slot StateWord)) 0; old = 2 }) → ⊥
  bind_frees_slot port owner slot once low none right =
      elim (right.states slot (record { slot_in = low; there = refl; other = λ same. cc })) [
        | inl taken ↦ let same = taken.1.taking in absurd (cc)
        | inr (inl given) ↦
            let taken = given.0.taken in
            let parts = AllByRecursion-cut (λ did. ¬ TakesSlot g slot (performed_of did)) taken.before (taken.at ∷ taken.behind)
            (subst (AllByRecursion (λ did. ¬ TakesSlot g slot (performed_of did))) taken.split none) in
            parts.1.0 taken.takes
        | inr (inr (inl retired)) ↦ let same = retired.0 in absurd (cc)
        | inr (inr (inr returned)) ↦ let same = returned.0 in absurd (cc)
      ]

  -- a resizing that retires a table which it never replaced, as a second one that it took and attached nowhere
  pub resizing_retires : (slot : ℕ) → slot < 8
      → AllByRecursion (λ did. (next : ℕ) → StoresCurrent g next did → table_of did.old ≢ slot) before
      → Rightly Work (record { index = index; op = Store (place_of g (Slot slot StateWord)) 2; old = 1 }) → ⊥
  resizing_retires slot low none right =
      elim (right.states slot (record { slot_in = low; there = refl; other = λ same. cc })) [
        | inl taken ↦ let same = taken.1.taking in absurd (cc)
        | inr (inl given) ↦ let same = given.1 in absurd (cc)
        | inr (inr (inr returned)) ↦ let same = returned.1.frees.stores in absurd (cc)
        | inr (inr (inl retired)) ↦
            let gone = retired.1.gone_on in
            (AllByRecursion-cut (λ did. (next : ℕ) → StoresCurrent g next did → table_of did.old ≢ slot) gone.before (gone.at ∷ gone.behind)
            (subst (AllByRecursion (λ did. (next : ℕ) → StoresCurrent g next did → table_of did.old ≢ slot)) gone.split none)).1.0 gone.next
            gone.stores gone.from
      ]

  -- a resizing that frees a retired one of which it loaded no state, and took none
  pub resizing_frees_unseen : (slot : ℕ) → slot < 8 → AllByRecursion (λ did. ¬ TakesSlot g slot (performed_of did)) before
      → AllByRecursion (λ did. did.op ≢ Load (place_of g (Slot slot StateWord))) before
      → Rightly Work (record { index = index; op = Store (place_of g (Slot slot StateWord)) 0; old = 2 }) → ⊥
  resizing_frees_unseen slot low untaken unseen right =
      elim (right.states slot (record { slot_in = low; there = refl; other = λ same. cc })) [
        | inl taken ↦ let same = taken.1.taking in absurd (cc)
        | inr (inl given) ↦
            let taken = given.0.taken in
            (AllByRecursion-cut (λ did. ¬ TakesSlot g slot (performed_of did)) taken.before (taken.at ∷ taken.behind)
            (subst (AllByRecursion (λ did. ¬ TakesSlot g slot (performed_of did))) taken.split untaken)).1.0 taken.takes
        | inr (inr (inl retired)) ↦ let same = retired.1.stores in absurd (cc)
        | inr (inr (inr returned)) ↦
            let of = returned.1 in
            (AllByRecursion-cut (λ did. did.op ≢ Load (place_of g (Slot slot StateWord))) of.sooner (of.state ∷ of.since)
            (subst (AllByRecursion (λ did. did.op ≢ Load (place_of g (Slot slot StateWord)))) of.split unseen)).1.0 of.found.word.loads
      ]

  -- ---- section words that are kept

  module _ (slot caller word old : ℕ) (low : slot < 8) (few : caller < 16) (other : word ≢ old) where
    abbrev keeps : Did
    keeps = record { index = index; op = Store (place_of g (Slot slot (LoadedSection caller))) word; old = old }

    changes_kept : ChangesKept g slot caller keeps
    changes_kept = record { slot_in = low; caller_in = few; there = refl; other = other }

    -- a look-up that keeps one
    pub look_up_keeps : (port : ℕ) → Rightly (Find port) keeps → ⊥
    look_up_keeps port right = let works = (right.kept slot caller changes_kept).0 in absurd (cc)

    -- a resizing that keeps one which it didn't load
    pub resizing_keeps_unloaded : AllByRecursion (λ did. did.op ≢ Load (place_of g (Section caller))) before → Rightly Work keeps → ⊥
    resizing_keeps_unloaded none right =
        let of = (right.kept slot caller changes_kept).1 in
        let behind = (AllByRecursion-cut (λ did. did.op ≢ Load (place_of g (Section caller))) of.sooner (of.at ∷ (of.since ++ of.load ∷ []))
        (subst (AllByRecursion (λ did. did.op ≢ Load (place_of g (Section caller)))) of.split none)).1.1 in
        (AllByRecursion-cut (λ did. did.op ≢ Load (place_of g (Section caller))) of.since (of.load ∷ []) behind).1.0 of.loads.loads

  -- ---- an entry that leads to a page

  -- whoever clears one of a table in force
  pub clears_leading : (call : Call) (entry page slot : ℕ) → entry < 64 * g.pages → slot < 8 → In slot (in_force g words)
      → IsEntryOfTable g words (shape_of g words slot) entry → page_of g.pages (word_at g words (PageWord entry)) ≡ Some page
      → Rightly call (record { index = index; op = Store (place_of g (PageWord entry)) 0; old = entry_of page }) → ⊥
  clears_leading call entry page slot entry_in low stands of leads right = right.leading entry (record {
    index_in = entry_in;
    table = slot;
    table_in = low;
    stands = inl stands;
    entry = of;
    page = page;
    leads = leads;
    there = refl;
    other = λ same. absurd (omega (arith, same));
  })

  -- ---- the work lock

  changes_lock : (op : Op) (old : ℕ) → op_place op ≡ place_of g WorkLock → word_after old op ≢ old
      → ChangesWorkLock g (record { index = index; op = op; old = old })
  changes_lock op old there other = record { there = there; other = other }

  -- a look-up that takes it
  pub look_up_takes_lock : (port : ℕ)
      → Rightly (Find port) (record { index = index; op = Exchange (place_of g WorkLock) 0 1; old = 0 }) → ⊥
  look_up_takes_lock port right =
      let works = (right.work (changes_lock (Exchange (place_of g WorkLock) 0 1) 0 refl (λ same. cc))).0 in absurd (cc)

  -- a resizing that gives it back, of which it took none
  pub resizing_frees_lock : AllByRecursion (λ did. ¬ TakesWorkLock g did) before
      → Rightly Work (record { index = index; op = Store (place_of g WorkLock) 0; old = 1 }) → ⊥
  resizing_frees_lock none right =
      elim (right.work (changes_lock (Store (place_of g WorkLock) 0) 1 refl (λ same. cc))).1 [
        | inl takes ↦ let same = takes.tries in absurd (cc)
        | inr gives ↦
            let had = gives.0 in
            (AllByRecursion-cut (λ did. ¬ TakesWorkLock g did) had.before (had.at ∷ had.behind)
            (subst (AllByRecursion (λ did. ¬ TakesWorkLock g did)) had.split none)).1.0 had.takes
      ]

  -- a resizing that leaves 2 there
  pub resizing_leaves_two : Rightly Work (record { index = index; op = Store (place_of g WorkLock) 2; old = 1 }) → ⊥
  resizing_leaves_two right =
      elim (right.work (changes_lock (Store (place_of g WorkLock) 2) 1 refl (λ same. cc))).1 [
        | inl takes ↦ let same = takes.tries in absurd (cc)
        | inr gives ↦ let same = gives.1 in absurd (cc)
      ]
