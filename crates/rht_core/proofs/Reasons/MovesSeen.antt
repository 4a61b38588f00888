-- What a resizing sees that moves the current table: for each entry the last table, before which it stops
-- where that is nested. When all is moved it makes the future of the current table the current one, and looks
-- for a further one.
use Rattle.std.proofs.Common.{◌≡◌, ◌≢◌, ℕ, ◌<◌, ◌+◌, Bool, true, false, cond, nat_lt, List, [], ◌∷◌, ◌++◌, append_assoc, refl, sym, ap, ◌∙◌, subst, inl, inr, arith}
use Rattle.std.specs.Prelude.{Option, Some, None}
use Rattle.std.specs.List.{AllByRecursion}
use Rattle.std.proofs.lemmas.List.{append-nil}
use Rattle.rht_words.specs.declared.op.Op.{Op}
use Rattle.rht_words.specs.declared.op.Op.TheVariants.{Load, Store, Add}
use Rattle.rht_words.specs.declared.env.Env.{Env}
use Rattle.rht_words.specs.declared.machine.Next.{Next}
use Rattle.rht_words.specs.declared.machine.Next.TheVariants.{Go, Done}
use Rattle.rht_words.specs.Links.{table_of, slot_of}
use Rattle.rht_words.specs.Operations.{op_place, word_after}
use Rattle.rht_words.specs.Places.{Address, CurrentTable, Slot, ShapeWord, FutureWord, IsAddress, place_of, word_at, LoadedSection, Section}
use Rattle.rht_words.specs.Shapes.{unpacked, size_of}
use Rattle.rht_words.proofs.EachElement.{AllByRecursion-push, AllByRecursion-cut}
use Rattle.rht_words.proofs.PlacesApart.{parts_in_order, place_of-apart}
use Rattle.rht_chain.specs.Lock.{lock_new, LockModel, lock_plan_at}
use Rattle.rht_chain.specs.Unlock.{unlock_plan, IsUnlockIn}
use Rattle.rht_chain.specs.declared.unlock.Unlock.{Unlock}
use Rattle.rht_nest.specs.Place.{PlaceModel, flat_place, nested_place}
use Rattle.rht_nest.specs.declared.place.Bucket.{Bucket}
use Rattle.rht_nest.specs.declared.place.Bucket.TheVariants.{At, Absent}
use Rattle.rht_nest.specs.Tables.{is_nested}
use Rattle.rht_move.specs.declared.last_table.Last.{Last}
use Rattle.rht_move.specs.declared.last_table.LastTableAt.TheVariants as seeks
use Rattle.rht_move.specs.declared.last_entry.Entry.{Entry}
use Rattle.rht_move.specs.declared.rehash.Rehash.{Rehash}
use Rattle.rht_move.specs.declared.rehash.Emptying.{Emptying}
use Rattle.rht_move.specs.declared.rehash.Target.{Target}
use Rattle.rht_move.specs.declared.work.WorkAt.{WorkAt}
use Rattle.rht_move.specs.declared.work.WorkAt.TheVariants as at
use Rattle.rht_move.specs.LastTable.{next_or_shape}
use Rattle.rht_move.specs.LastEntry.{LastEntryModel}
use Rattle.rht_chain.specs.declared.lock.LockAt.{LockAt}
use Rattle.rht_chain.specs.declared.lock.LockAt.TheVariants as locks
use Rattle.rht_reclaim.specs.declared.keep_sections.KeepSectionsAt.{KeepSectionsAt}
use Rattle.rht_reclaim.specs.declared.keep_sections.KeepSectionsAt.TheVariants as keeps
use Rattle.rht_reclaim.specs.KeepSections.{IsKeepSectionsAtIn, keep_sections_plan_at}
use Rattle.rht_move.specs.Work.{cut_plan, bucket_of_root, next_bucket, entry_passed, locked, unlocking, entry_or_empty, walked, second_locked, cut_off, unlocked_bucket, retiring}
use Rattle.rht_core.specs.Traces.{Did}
use Rattle.rht_core.specs.Seen.{LoadsWord, TurnsSection, TurnsNoSection, AnyInSection}
use Rattle.rht_core.specs.ResizeCauses.{Loaded}
use Rattle.rht_core.specs.WorkCauses.{ReadsFuture, StoresOther}
use Rattle.rht_ghost.proofs.Theory.Steps.{by_test}
use Rattle.rht_core.proofs.Tracing.LoneCalls.{Spares}
use Rattle.rht_core.specs.Attached.{HasGoneOn}
use Rattle.rht_core.proofs.Reasons.AttachedTables.{IsNoFutureExchange, IsNoAttach, no_attach}
use Rattle.rht_core.proofs.Reasons.ChoicesMade.{Chosen, futures_next, chosen_by, HasChosen-push, SinceSome-push}
use Rattle.rht_core.proofs.Reasons.WorksSeen.{IsPublished, HasMoved, FindsFurther, FindsNoneFurther, SawReplaced, RehashSaw, LooksAnew, AnewSaw, SaysMissing-push, IsTried-push, IsMoving-push, Moves-push, HasStopped, UnlockingSaw, SawAtWork, IsPlain, StaysInside}
use Rattle.rht_core.proofs.Reasons.TablesDue.{reads}
use Rattle.rht_core.proofs.Reasons.QuietSteps.{AnyInSection-append}
use Rattle.rht_core.proofs.Reasons.TablesWalked.{no_turn}

-- the locking of a bucket adds nothing
pub lock-no_add : (at_place : ℕ) (state : LockAt) (place value : ℕ) → lock_plan_at at_place state ≢ Add place value
lock-no_add at_place locks.Word place value adds = cc
lock-no_add at_place (locks.Exchange word) place value adds = cc

-- nor does the cutting off of an entry
pub cut-no_add : (env : Env) (at_place : ℕ) (before : Option ℕ) (place value : ℕ) → cut_plan env.geometry at_place before ≢ Add place value
cut-no_add env at_place None place value adds = cc
cut-no_add env at_place (Some before) place value adds = cc

-- the cutting off of an entry exchanges no future
pub cut-none : (env : Env) (place : ℕ) (before : Option ℕ)
    → IsNoFutureExchange env.geometry (cut_plan env.geometry place before)
cut-none env place None table old new l e = cc
cut-none env place (Some before) table old new l e = cc

module _ (env : Env) (c : ℕ) where
  -- an operation that exchanges no future and adds nothing
  pub plain : (op : Op) (did : Did) → did.op ≡ op → IsNoFutureExchange env.geometry op → ((place value : ℕ) → op ≢ Add place value)
      → IsPlain env c did
  plain op did is none adds = record { attaches = no_attach env.geometry did op is none; turns = no_turn env.geometry did op is adds }

  -- no operation of the move attaches a table, or opens or closes a section
  pub goes : (rehash : Rehash) (op : Op) (steps : List Did) (did : Did) → did.op ≡ op
      → IsNoFutureExchange env.geometry op → ((place value : ℕ) → op ≢ Add place value)
      → RehashSaw env c rehash steps → RehashSaw env c rehash (steps ++ did ∷ [])
  goes rehash op steps did is none adds saw =
      Moves-push env c rehash.root rehash.future rehash.again steps did (plain op did is none adds) saw

  -- for an entry no future is loaded yet
  anew-saw : (rehash : Rehash) (all : List Did) → RehashSaw env c rehash all
      → AnewSaw env c rehash (seeks.Future rehash.root) all
  anew-saw rehash all moves =
      let since = moves.since in
      record {
        choice = moves.choice;
        since = record {
          chose = since.chose;
          gave = since.gave;
          so = (
            since.so,
            record {
              before = since.chose.behind;
              futures = [];
              behind_is = sym (append-nil since.chose.behind);
              are = since.so.root_same;
            },
          );
        };
      }

  -- and then one after another
  anew-more : (root slot : ℕ) (next : Option ℕ) (behind : List Did) (did : Did)
      → ReadsFuture env.geometry slot next did → LooksAnew env c (seeks.Future slot) root behind
      → LooksAnew env c (next_or_shape slot next) root (behind ++ did ∷ [])
  anew-more root slot next behind did reads seek = record {
    before = seek.before;
    futures = seek.futures ++ did ∷ [];
    behind_is = ap (λ s. s ++ did ∷ []) seek.behind_is ∙ append_assoc seek.before seek.futures (did ∷ []);
    are = futures_next env.geometry root slot next seek.futures did seek.are reads;
  }

  pub sought-saw : (rehash : Rehash) (slot : ℕ) (next : Option ℕ) (steps : List Did) (did : Did)
      → ReadsFuture env.geometry slot next did → AnewSaw env c rehash (seeks.Future slot) steps
      → AnewSaw env c rehash (next_or_shape slot next) (steps ++ did ∷ [])
  sought-saw rehash slot next steps did reads saw =
      let quiet = plain _ did reads.0.word.loads (λ table old new l e. cc) (λ place value adds. cc) in
      SinceSome-push env c steps did saw (λ choice of behind anew. (
        IsMoving-push env c rehash.root rehash.future rehash.again choice of behind did quiet anew.0,
        anew-more of.root slot next behind did reads anew.1,
      ))

  -- the word of a bucket isn't that of the current table
  pub unlocking-stores : (unlock : Unlock) (did : Did) → IsUnlockIn env.geometry unlock
      → did.op ≡ unlock_plan unlock
      → StoresOther env.geometry did
  unlocking-stores unlock did there is = record {
    place = unlock.place;
    value = unlock.word;
    stores = is;
    other = λ same.
        let order = parts_in_order env.geometry in
        let low = there.place_in.0 in
        absurd (omega (arith, same, low, order.page_map, order.nodes, order.pages));
  }

  -- ---- another table is the current one

  pub publish-saw : (rehash : Rehash) (steps : List Did) (did : Did) → rehash.future < 8
      → did.op ≡ Store (place_of env.geometry CurrentTable) rehash.future → RehashSaw env c rehash steps
      → HasMoved env c rehash (steps ++ did ∷ [])
  publish-saw rehash steps did l is saw =
      let quiet = no_attach env.geometry did _ is (λ table old new l e. cc) in
      SinceSome-push env c steps did saw (λ choice of behind moving. record {
        published = record {
          table = rehash.future;
          later = [];
          published = record {
            before = behind;
            at = did;
            split = refl;
            stored = record { table_in = l; stores = is };
          };
          inside = moving.inside;
          followed = moving.followed;
          another = moving.apart;
          leave = tt;
        };
        same = refl;
        says = SaysMissing-push env c rehash.again of.last choice behind did quiet moving.says;
        last = refl;
      })

  -- what came behind that stays so
  unfoldable IsPublished-push : (of : Chosen) (behind : List Did) (did : Did)
      → Spares (place_of env.geometry CurrentTable) did → IsPublished env c of behind
      → IsPublished env c of (behind ++ did ∷ [])
  IsPublished-push of behind did spares is =
      let published = is.published in
      record {
        table = is.table;
        later = is.later ++ did ∷ [];
        published = record {
          before = published.before;
          at = published.at;
          split = ap (λ s. s ++ did ∷ []) published.split
              ∙ append_assoc published.before (published.at ∷ is.later) (did ∷ []);
          stored = published.stored;
        };
        inside = is.inside;
        followed = is.followed;
        another = is.another;
        leave =
            AllByRecursion-push (Spares (place_of env.geometry CurrentTable)) is.later did is.leave spares;
      }

  -- it has gone on from that table later too
  pub HasGoneOn-push : (root : ℕ) (steps : List Did) (did : Did) → HasGoneOn env.geometry root steps
      → HasGoneOn env.geometry root (steps ++ did ∷ [])
  HasGoneOn-push root steps did gone = record {
    before = gone.before;
    at = gone.at;
    behind = gone.behind ++ did ∷ [];
    split = ap (λ s. s ++ did ∷ []) gone.split ∙ append_assoc gone.before (gone.at ∷ gone.behind) (did ∷ []);
    next = gone.next;
    stores = gone.stores;
    from = gone.from;
    other = gone.other;
  }

  -- what attaches nothing, loads no future and leaves the current table finds nothing
  left-saw : (again : Bool) (steps : List Did) (did : Did) → IsNoAttach env.geometry did
      → ((table : ℕ) → did.op ≢ Load (place_of env.geometry (Slot table FutureWord)))
      → Spares (place_of env.geometry CurrentTable) did → SawReplaced env c again steps
      → SawReplaced env c again (steps ++ did ∷ [])
  unfolding IsPublished-push
  left-saw again steps did quiet no_load apart replaced =
      SinceSome-push env c steps did replaced (λ choice of behind saw.
      let published = saw.published in
      let table = published.table in
      record {
        published = IsPublished-push of behind did apart published;
        looked =
            AnyInSection-append env.geometry (LoadsWord env.geometry (Slot table FutureWord)) published.later (did ∷ [])
            saw.looked;
        says = elim saw.says [
          | inl further ↦
              inl (further.0, AnyInSection-append env.geometry (FindsFurther env c table) published.later (did ∷ []) further.1)
          | inr says ↦ inr (
            SaysMissing-push env c again of.last choice behind did quiet says.0,
            AllByRecursion-push (FindsNoneFurther env c table) published.later did says.1
                (λ finds. no_load _ finds.1.0.word.loads),
          )
        ];
      })

  -- a load leaves the current table, and is of no future
  loaded-saw : (again : Bool) (place : ℕ) (steps : List Did) (did : Did) → did.op ≡ Load place
      → ((table : ℕ) → place ≢ place_of env.geometry (Slot table FutureWord)) → SawReplaced env c again steps
      → SawReplaced env c again (steps ++ did ∷ [])
  loaded-saw again place steps did is apart replaced =
      left-saw again steps did (no_attach env.geometry did _ is (λ table old new l e. cc))
      (λ table load. apart table (let both = sym is ∙ load in cc)) (inr (ap (word_after did.old) is)) replaced

  -- so does a store of another word
  pub stored-saw : (again : Bool) (address : Address) (value : ℕ) (steps : List Did) (did : Did)
      → IsAddress env.geometry address → address ≢ CurrentTable
      → did.op ≡ Store (place_of env.geometry address) value → SawReplaced env c again steps
      → SawReplaced env c again (steps ++ did ∷ [])
  stored-saw again address value steps did there other is replaced =
      left-saw again steps did (no_attach env.geometry did _ is (λ table old new l e. cc)) (λ place load. let both = sym is ∙ load in cc)
      (inl (λ same. other (place_of-apart env.geometry address CurrentTable there tt (sym (ap op_place is) ∙ same)))) replaced

  -- and what opens or closes the caller's section
  pub turned-saw : (again : Bool) (steps : List Did) (did : Did) → TurnsSection env.geometry c did → SawReplaced env c again steps
      → SawReplaced env c again (steps ++ did ∷ [])
  turned-saw again steps did turns replaced =
      left-saw again steps did (no_attach env.geometry did _ turns (λ table old new l e. cc)) (λ place load. let both = sym turns ∙ load in cc)
      (inl (λ same. let at : 8 + c ≡ 0 = sym (ap op_place turns) ∙ same in omega (arith, at))) replaced

  -- and what keeps section words in the slot of a table that was retired
  pub keeping-saw : (again : Bool) (slot : ℕ) (state : KeepSectionsAt) (steps : List Did) (did : Did) → slot < 8
      → IsKeepSectionsAtIn env.geometry state → did.op ≡ keep_sections_plan_at env.geometry slot state
      → SawReplaced env c again steps → SawReplaced env c again (steps ++ did ∷ [])
  keeping-saw again slot (keeps.Section caller) steps did slot_in within is saw =
      loaded-saw again (place_of env.geometry (Section caller)) steps did is
      (λ table same. let most = env.geometry.within.callers_within in omega (arith, same, within, most)) saw
  keeping-saw again slot (keeps.Word caller word) steps did slot_in within is saw =
      let most = env.geometry.within.callers_within in
      stored-saw again (Slot slot (LoadedSection caller)) word steps did
      (slot_in, (let low = within.caller_in in omega (arith, low, most))) (λ e. cc) is saw

module _ (env : Env) (c : ℕ) (words_at : ℕ → List ℕ) where
  abbrev Sees : WorkAt → List Did → Type 0
  Sees = SawAtWork env c words_at

  pub root-saw : (rehash : Rehash) (number : ℕ) (all : List Did) → RehashSaw env c rehash all
      → Sees (bucket_of_root env.geometry rehash number) all
  root-saw rehash number all saw =
      by_test (λ t. Sees (cond t (at.Entry rehash number (nested_place env.geometry rehash.shape number))
      (at.Locking rehash number (lock_new (flat_place env.geometry rehash.shape number)))) all)
      (is_nested rehash.shape) (λ t. saw) (λ f. saw)

  next-saw : (rehash : Rehash) (number : ℕ) (all : List Did) → RehashSaw env c rehash all
      → Sees (next_bucket env.geometry rehash number) all
  next-saw rehash number all saw =
      by_test
      (λ t. Sees (cond t (bucket_of_root env.geometry rehash (number + 1)) (at.Publishing rehash)) all)
      (nat_lt (number + 1) (size_of (unpacked rehash.shape)))
      (λ t. root-saw rehash (number + 1) all saw) (λ f. saw)

  pub passed-saw : (rehash : Rehash) (number : ℕ) (place : PlaceModel) (next : Next Bucket) (all : List Did)
      → RehashSaw env c rehash all → Sees (entry_passed env.geometry rehash number place next) all
  passed-saw rehash number place Go all saw = saw
  passed-saw rehash number place (Done (At word)) all saw = saw
  passed-saw rehash number place (Done (Absent entry)) all saw = next-saw rehash number all saw

  pub locked-saw : (rehash : Rehash) (number : ℕ) (lock : LockModel) (next : Next ℕ) (all : List Did)
      → RehashSaw env c rehash all
      → Sees (locked env.geometry rehash number lock next) all
  locked-saw rehash number lock Go all saw = saw
  locked-saw rehash number lock (Done word) all saw = anew-saw env c rehash all saw

  pub entry-saw : (emptying : Emptying) (target : Target) (first : Option ℕ) (all : List Did)
      → RehashSaw env c emptying.rehash all
      → Sees (entry_or_empty env.geometry emptying target first) all
  entry-saw emptying target None all saw = saw
  entry-saw emptying target (Some first) all saw = saw

  pub walked-saw : (emptying : Emptying) (target : Target) (walk : LastEntryModel) (next : Next Entry)
      (all : List Did)
      → RehashSaw env c emptying.rehash all → Sees (walked emptying target walk next) all
  walked-saw emptying target walk Go all saw = saw
  walked-saw emptying target walk (Done entry) all saw = saw

  pub second_locked-saw : (emptying : Emptying) (entry : Entry) (table : ℕ) (lock : LockModel) (next : Next ℕ)
      (all : List Did)
      → RehashSaw env c emptying.rehash all → Sees (second_locked emptying entry table lock next) all
  second_locked-saw emptying entry table lock Go all saw = saw
  second_locked-saw emptying entry table lock (Done word) all saw = saw

  pub cut-saw : (emptying : Emptying) (before : Option ℕ) (all : List Did) → RehashSaw env c emptying.rehash all
      → Sees (cut_off env.geometry emptying before) all
  cut-saw emptying None all saw = anew-saw env c emptying.rehash all saw
  cut-saw emptying (Some before) all saw = anew-saw env c emptying.rehash all saw

  -- where the last one is nested the move stops; the current table is the one that it moves
  pub found-saw : (emptying : Emptying) (slot : ℕ) (steps : List Did) (did : Did)
      → Loaded env.geometry (Slot slot ShapeWord) did.old did → emptying.rehash.root ≢ slot
      → table_of (word_at env.geometry (words_at did.index) CurrentTable) ≡ emptying.rehash.root
      → AnewSaw env c emptying.rehash (seeks.Shape slot) steps
      → let last : Last = record { table = slot; shape = did.old } in
      Sees (cond (is_nested did.old) (unlocking emptying true) (at.Seed emptying last)) (steps ++ did ∷ [])
  unfolding HasChosen-push
  found-saw emptying slot steps did loaded apart current saw =
      let rehash = emptying.rehash in
      let choice = saw.choice in
      let since = saw.since in
      let moving = since.so.0 in
      let found = since.so.1 in
      let last : Last = record { table = slot; shape = did.old } in
      let quiet = plain env c _ did loaded.word.loads (λ table old new l e. cc) (λ place value adds. cc) in
      by_test (λ t. Sees (cond t (unlocking emptying true) (at.Seed emptying last)) (steps ++ did ∷ []))
      (is_nested did.old)
      (λ t. record {
        more = refl;
        choice = choice;
        chose = HasChosen-push env c choice steps did since.chose;
        tried =
            IsTried-push env c choice (chosen_by env c choice steps since.chose) since.chose.behind did
            moving.tried;
        last = slot;
        before = found.before;
        futures = found.futures;
        shape = did;
        behind = [];
        split = ap (λ s. s ++ did ∷ []) found.behind_is;
        inside =
            (AllByRecursion-cut (TurnsNoSection env.geometry) found.before found.futures
            (subst (StaysInside env c) found.behind_is moving.inside)).0;
        futures_read = found.are;
        apart = λ same. apart (sym moving.root_same ∙ same);
        shape_read = loaded;
        nested = t;
        current = current ∙ sym moving.root_same;
        ends = tt;
      })
      (λ f. SinceSome-push env c steps did saw (λ choice of behind anew.
      IsMoving-push env c rehash.root rehash.future rehash.again choice of behind did quiet anew.0))

  -- it has stopped later too
  pub HasStopped-push : {Ends After : List Did → Type 0} (again : Bool) (steps : List Did) (did : Did)
      → HasStopped env c words_at Ends again steps
      → ((behind : List Did) → Ends behind → After (behind ++ did ∷ []))
      → HasStopped env c words_at After again (steps ++ did ∷ [])
  unfolding HasChosen-push
  HasStopped-push again steps did saw further = record {
    more = saw.more;
    choice = saw.choice;
    chose = HasChosen-push env c saw.choice steps did saw.chose;
    tried =
        IsTried-push env c saw.choice (chosen_by env c saw.choice steps saw.chose) saw.chose.behind did saw.tried;
    last = saw.last;
    before = saw.before;
    futures = saw.futures;
    shape = saw.shape;
    behind = saw.behind ++ did ∷ [];
    split = ap (λ s. s ++ did ∷ []) saw.split
        ∙ append_assoc (saw.before ++ saw.futures) (saw.shape ∷ saw.behind) (did ∷ []);
    inside = saw.inside;
    futures_read = saw.futures_read;
    apart = saw.apart;
    shape_read = saw.shape_read;
    nested = saw.nested;
    current = saw.current;
    ends = further saw.behind saw.ends;
  }

  pub unlocked-saw : (rehash : Rehash) (number : ℕ) (stop : Bool) (steps : List Did) (did : Did)
      → StoresOther env.geometry did → IsPlain env c did
      → UnlockingSaw env c words_at rehash stop steps
      → Sees (unlocked_bucket env.geometry rehash number stop) (steps ++ did ∷ [])
  unlocked-saw rehash number true steps did stores quiet saw =
      inr (HasStopped-push true steps did saw
      (λ behind ends. AllByRecursion-push (StoresOther env.geometry) behind did ends stores))
  unlocked-saw rehash number false steps did stores quiet saw =
      next-saw rehash number (steps ++ did ∷ [])
      (Moves-push env c rehash.root rehash.future rehash.again steps did quiet saw)

  -- ---- another table is the current one

  pub retiring-saw : (rehash : Rehash) (next : Option ℕ) (steps : List Did) (did : Did) → rehash.future < 8
      → did.op ≡ Load (place_of env.geometry (Slot rehash.future FutureWord)) → slot_of did.old ≡ next → Sees (at.NewFuture rehash) steps
      → Sees (retiring rehash next) (steps ++ did ∷ [])
  unfolding IsPublished-push
  retiring-saw rehash next steps did l is finds saw = go next finds
    where
      quiet : IsNoAttach env.geometry did
      quiet = no_attach env.geometry did _ is (λ table old new l e. cc)

      spares : Spares (place_of env.geometry CurrentTable) did
      spares = inr (ap (word_after did.old) is)

      loaded : (table : ℕ) → table ≡ rehash.future → Loaded env.geometry (Slot table FutureWord) did.old did
      loaded table same =
          subst (λ s. Loaded env.geometry (Slot s FutureWord) did.old did) (sym same)
          (reads env (Slot rehash.future FutureWord) did (l, tt) is)

      gone : HasGoneOn env.geometry rehash.root (steps ++ did ∷ [])
      gone = HasGoneOn-push env c rehash.root steps did saw.1

      -- it is the first one behind the publishing
      first : (Is : Did → Type 0) (later : List Did) → later ≡ [] → Is did → AnyInSection env.geometry Is (later ++ did ∷ [])
      first Is later none is =
          subst (λ l. AnyInSection env.geometry Is (l ++ did ∷ [])) (sym none)
          (record { before = []; at = did; behind = []; split = refl; inside = tt; is = is })

      looked : (table : ℕ) (later : List Did) → later ≡ [] → table ≡ rehash.future
          → AnyInSection env.geometry (LoadsWord env.geometry (Slot table FutureWord)) (later ++ did ∷ [])
      looked table later none same =
          first (LoadsWord env.geometry (Slot table FutureWord)) later none (loaded table same).word

      go : (next : Option ℕ) → slot_of did.old ≡ next
          → Sees (retiring rehash next) (steps ++ did ∷ [])
      go None finds = (
        SinceSome-push env c steps did saw.0 (λ choice of behind moved.
            let table = moved.published.table in
            record {
              published = IsPublished-push env c of behind did spares moved.published;
              looked = looked table moved.published.later moved.last moved.same;
              says = inr (
                SaysMissing-push env c rehash.again of.last choice behind did quiet moved.says,
                subst (λ later. AllByRecursion (FindsNoneFurther env c table) (later ++ did ∷ []))
                    (sym moved.last)
                    ((λ further. let one = further.1.1 in let none = finds in cc), tt),
              );
            }),
        gone,
      )
      go (Some next) finds = (
        SinceSome-push env c steps did saw.0 (λ choice of behind moved.
            let table = moved.published.table in
            record {
              published = IsPublished-push env c of behind did spares moved.published;
              looked = looked table moved.published.later moved.last moved.same;
              says = inl (
                refl,
                first (FindsFurther env c table) moved.published.later moved.last (next, (loaded table moved.same, finds)),
              );
            }),
        gone,
      )
