-- What each operation of a resizing sees: from what was seen in its state, what is seen in the next one, or
-- for the reply.
--
-- Where a table was due there is a future to be found, by what the caller knows; and the last table that is
-- looked for anew is another one than the current one, which is still the one that is moved.
use Rattle.std.proofs.Common.{◌≡◌, ◌≢◌, ℕ, ◌<◌, ◌≤◌, ◌+◌, ◌^◌, true, List, [], ◌∷◌, ◌++◌, map, append_assoc, refl, sym, ap, ◌∙◌, subst, inl, inr, arith, Bool}
use Rattle.std.specs.Prelude.{Some, None, ◌==◌}
use Rattle.std.proofs.lemmas.List.{map-append}
use Rattle.rht_words.specs.declared.op.Op.TheVariants.{Store}
use Rattle.rht_words.specs.declared.env.Env.{Env}
use Rattle.rht_words.specs.declared.geometry.Geometry.{Geometry}
use Rattle.rht_words.specs.Links.{table_of, slot_of, node_of, head_of, unlocked}
use Rattle.rht_words.specs.Machines.{Performed}
use Rattle.rht_words.specs.Operations.{op_place, old_of}
use Rattle.rht_words.specs.Places.{CurrentTable, WorkLock, Slot, ShapeWord, FutureWord, StateWord, place_of, word_at}
use Rattle.rht_words.specs.Shapes.{unpacked, size_of}
use Rattle.rht_words.specs.declared.machine.Next.TheVariants.{Go, Done}
use Rattle.rht_words.specs.declared.machine.Next.{Next}
use Rattle.rht_words.proofs.EachElement.{Any-append_left, AllByRecursion-push}
use Rattle.rht_chain.specs.Lock.{lock_after}
use Rattle.rht_nest.specs.Place.{place_after}
use Rattle.rht_nest.specs.Tables.{is_nested}
use Rattle.rht_nest.specs.Unmake.{unmake_after}
use Rattle.rht_nest.specs.MakeLaws.{SeesSlotTaken}
use Rattle.rht_core.specs.Due.{pages_due}
use Rattle.rht_move.specs.declared.last_table.LastTableAt.{LastTableAt}
use Rattle.rht_move.specs.declared.last_table.LastTableAt.TheVariants as seeks
use Rattle.rht_move.specs.declared.rehash.Rehash.{Rehash}
use Rattle.rht_move.specs.declared.rehash.Emptying.{Emptying}
use Rattle.rht_move.specs.declared.work.choice.Choice.TheVariants.{Attach, Nothing}
use Rattle.rht_move.specs.declared.work.Due.{Due}
use Rattle.rht_move.specs.declared.work.Due.TheVariants as dues
use Rattle.rht_move.specs.declared.work.Outcome.{Outcome}
use Rattle.rht_move.specs.declared.work.Outcome.TheVariants as outcomes
use Rattle.rht_move.specs.declared.work.ending.Ending.{Ending}
use Rattle.rht_move.specs.declared.work.ending.Ending.TheVariants as endings
use Rattle.rht_move.specs.declared.work.WorkAt.{WorkAt}
use Rattle.rht_move.specs.declared.work.WorkAt.TheVariants as at
use Rattle.rht_move.specs.Choice.{choice_of}
use Rattle.rht_move.specs.LastTable.{LastTableModel, last_table_plan_at, last_table_after}
use Rattle.rht_move.specs.LastEntry.{last_entry_after}
use Rattle.rht_move.specs.Work.{after_at, closed, entry_table_seen, with_word, reply_of, kept}
use Rattle.rht_core.specs.Jobs.{works}
use Rattle.rht_core.specs.Traces.{Did, performed_of}
use Rattle.rht_core.specs.Attached.{RetiresSlot}
use Rattle.rht_core.specs.ResizeCauses.{FindsSlotsTaken, AreSlotsTaken, AreRunsTaken}
use Rattle.rht_core.specs.Seen.{TurnsSection}
use Rattle.rht_core.specs.WorkCauses.{StoresOther, SawNoTableDue}
use Rattle.rht_ghost.proofs.Theory.Ghosts.{index_at, state_word}
use Rattle.rht_ghost.proofs.Theory.Wholes.{force-there, current-there, current-at, one_table}
use Rattle.rht_ghost.proofs.Theory.Steps.{mem}
use Rattle.rht_ghost.proofs.Theory.Knowns.{Onward, Rooted}
use Rattle.rht_ghost.proofs.Theory.Knowledge.{WorkMeans}
use Rattle.rht_ghost.proofs.Pieces.WorkLoads.{has_future, future_seen, nested_size}
use Rattle.rht_core.proofs.Tracing.TracedJobs.{hard, Performs}
use Rattle.rht_core.proofs.Meaning.TablesInForce.{current_slot, next_apart}
use Rattle.rht_core.proofs.Reasons.AttachedTables.{lock-none, unmake-none}
use Rattle.rht_core.proofs.Reasons.MakesSeen.{runs_taken-stay}
use Rattle.rht_core.proofs.Reasons.ChoicesMade.{HasChosen-push, Since-push}
use Rattle.rht_core.proofs.Reasons.WorksSeen.{IsBesideTables, SawIdle, AnewSaw, HasDue-push, Stores, StoresAndCloses, SawForWork, SawToClose, SawAtWork, SawNextWork, SawReplaced}
use Rattle.rht_core.proofs.Reasons.TablesDue.{reads, lock-saw, returned-saw, opening-saw, current-saw, FindsSmall, last-saw, begun-saw, made-saw, attached-saw, unmade-saw, future-saw}
use Rattle.rht_core.proofs.Reasons.WordsKept.{KeepsSoFar, keeps-begin, keeps-go}
use Rattle.rht_core.proofs.Reasons.MovesSeen.{cut-none, publish-saw, HasGoneOn-push, stored-saw, turned-saw, goes, root-saw, passed-saw, locked-saw, entry-saw, walked-saw, second_locked-saw, cut-saw, sought-saw, found-saw, HasStopped-push, unlocking-stores, unlocked-saw, retiring-saw, plain, lock-no_add, cut-no_add, keeping-saw}
use Rattle.rht_core.proofs.Reasons.SlotsTaken.{unmake-own}
use Rattle.rht_core.proofs.Reasons.RaisesSeen.{unmake-no_add}
use Rattle.rht_reclaim.specs.KeepSections.{KeepSectionsModel, IsKeepSectionsIn, keep_sections_plan, keep_sections_plan_at, keep_sections_after}

-- ---- what the caller knows

module _ (env : Env) (mix : ℕ → ℕ → ℕ → ℕ) where
  -- what the future of the current table is, of which it knows that it has one
  found_none : (root : ℕ) (due : Due) (did : Did)
      → (does : Performs mix env (works (at.RootFuture root due)) did)
      → slot_of did.old ≡ None
      → WorkMeans env mix does.caller (mem env mix does.words) does.ghost (Rooted root Onward) → ⊥
  found_none root due did does none knows =
      let found : did.old ≡ mem env mix does.words (Slot root FutureWord) =
      does.found ∙ ap (old_of does.words) (hard mix env refl does) in
      has_future env mix does.caller (mem env mix does.words) does.ghost does.whole root knows
      (sym (ap slot_of found) ∙ none)

  -- a nested table has no more
  last_small : (root : ℕ) (h : Geometry) (state : LastTableAt) (did : Did)
      → Performs mix env (works (at.LastTable root (record { geometry = h; at = state }))) did
      → FindsSmall state did
  last_small root h (seeks.Future slot) did does = tt
  last_small root h (seeks.Shape slot) did does =
      let found : did.old ≡ mem env mix does.words (Slot slot ShapeWord) =
      does.found ∙ ap (old_of does.words)
      ((hard mix env refl does) ∙ ap (λ (g : Geometry). last_table_plan_at g (seeks.Shape slot))
      does.within.seek_in.geometry_same) in
      subst (λ shape. is_nested shape ≡ true → size_of (unpacked shape) ≤ 2 ^ 17) (sym found)
      (nested_size env mix does.caller (mem env mix does.words) does.ghost does.whole slot
      does.knows.knowing.means.work.more.aim_is.at)

  -- a table that is retired wasn't retired before
  retires-new : (root : ℕ) (again : Bool) (did : Did) → Performs mix env (works (at.Retiring root again)) did
      → RetiresSlot env.geometry root did
  retires-new root again did does =
      let found : did.old ≡ mem env mix does.words (Slot root StateWord) =
      does.found ∙ ap (old_of does.words) (hard mix env refl does) in
      let one : did.old ≡ 1 =
      found ∙ does.whole.slots.states root does.within ∙ ap state_word does.knows.knowing.means.work.more.live in
      record { stores = hard mix env refl does; other = λ two. absurd (omega (arith, one, two)) }

  -- nor is the next one the current one itself
  other_future : (root : ℕ) (due : Due) (did : Did) → Performs mix env (works (at.RootFuture root due)) did
      → (future : ℕ)
      → slot_of did.old ≡ Some future → root ≢ future
  other_future root due did does future finds same =
      let G = does.ghost in
      let found : did.old ≡ mem env mix does.words (Slot root FutureWord) =
      does.found ∙ ap (old_of does.words) (hard mix env refl does) in
      let follows = (future_seen env mix does.caller (mem env mix does.words) G does.whole root future _
      does.knows.knowing.means.work (sym (ap slot_of found) ∙ finds)).more in
      let tables = does.whole.tables in
      let one = (current-there env mix tables).index in
      let two = (force-there env mix tables (G.current + 1) (omega arith) follows.more).index in
      let both = sym one ∙ ap (index_at G) (follows.root_is ∙ same ∙ sym follows.future_is) ∙ two in
      absurd (omega (arith, both))

  -- where a table was due the current one has a future
  nothing-found : (root : ℕ) (due : Due) (did : Did) → Performs mix env (works (at.RootFuture root due)) did
      → slot_of did.old ≡ None → due ≡ dues.Nothing
  nothing-found root dues.Nothing did does none = refl
  nothing-found root dues.Attached did does none =
      absurd (found_none root dues.Attached did does none does.knows.knowing.means.work)
  nothing-found root dues.Later did does none =
      absurd (found_none root dues.Later did does none does.knows.knowing.means.work)

  -- nor is the last one, which is looked for anew for each entry
  other_last : (emptying : Emptying) (h : Geometry) (slot : ℕ) (did : Did)
      → Performs mix env (works (at.EntryTable emptying (record { geometry = h; at = seeks.Shape slot }))) did
      → emptying.rehash.root ≢ slot
  other_last emptying h slot did does same =
      let G = does.ghost in
      let is = does.knows.knowing.means.work.more in
      let root = current-at env mix does.whole.tables slot (is.next.empties.followed.root_is ∙ same) in
      let both = one_table root is.aim_is.at in
      let later = is.aim_is.later in
      absurd (omega (arith, both, later))

  -- and the current one is still the one that is moved
  still_root : (emptying : Emptying) (seek : LastTableModel) (did : Did)
      → (does : Performs mix env (works (at.EntryTable emptying seek)) did)
      → table_of (word_at env.geometry does.words CurrentTable) ≡ emptying.rehash.root
  still_root emptying seek did does =
      let tables = does.whole.tables in
      let right = tables.each does.ghost.current (current-there env mix tables) in
      let slot = (does.ghost.table does.ghost.current).slot in
      let is : table_of (mem env mix does.words CurrentTable) ≡ slot =
      (let word = tables.current_is in omega (arith, right.slot_in, word)) in
      is ∙ does.knows.knowing.means.work.more.next.empties.followed.root_is

-- ---- all states

module _ (env : Env) (c : ℕ) (words_at : ℕ → List ℕ) where
  abbrev Sees : WorkAt → List Did → Type 0
  Sees = SawAtWork env c words_at

  table-saw : (mix : ℕ → ℕ → ℕ → ℕ) (emptying : Emptying) (h : Geometry) (state : LastTableAt)
      (steps : List Did) (did : Did)
      → let seek : LastTableModel = record { geometry = h; at = state } in
      (does : Performs mix env (works (at.EntryTable emptying seek)) did) → does.words ≡ words_at did.index
      → AnewSaw env c emptying.rehash state steps
      → let next = last_table_after seek did.old in
      Sees (entry_table_seen emptying next.0 next.1) (steps ++ did ∷ [])
  table-saw mix emptying h (seeks.Future slot) steps did does here saw =
      let is = (hard mix env refl does) ∙ ap (λ (g : Geometry). last_table_plan_at g (seeks.Future slot))
      does.within.seek_in.geometry_same in
      sought-saw env c emptying.rehash slot (slot_of did.old) steps did
      (reads env (Slot slot FutureWord) did (does.within.seek_in.at_in, tt) is, refl) saw
  table-saw mix emptying h (seeks.Shape slot) steps did does here saw =
      let is = (hard mix env refl does) ∙ ap (λ (g : Geometry). last_table_plan_at g (seeks.Shape slot))
      does.within.seek_in.geometry_same in
      found-saw env c words_at emptying slot steps did
      (reads env (Slot slot ShapeWord) did (does.within.seek_in.at_in, tt) is)
      (other_last env mix emptying h slot did does)
      (subst (λ words. table_of (word_at env.geometry words CurrentTable) ≡ emptying.rehash.root) here
      (still_root env mix emptying (record { geometry = h; at = seeks.Shape slot }) did does)) saw

  -- an operation on the work lock or on a section finds nothing of slots
  slots_taken-stay : (steps : List Performed) (step : Performed)
      → op_place step.op < 24
      → AreSlotsTaken env.geometry steps → AreSlotsTaken env.geometry (steps ++ step ∷ [])
  slots_taken-stay steps step low slots = record {
    seen = λ slot l. Any-append_left (SeesSlotTaken env.geometry slot) steps (step ∷ []) (slots.seen slot l);
    only =
        AllByRecursion-push (FindsSlotsTaken env.geometry) steps step slots.only
        (λ slot l place. absurd (omega (arith, low, place)));
  }

  no_table-push : (size : ℕ) (steps : List Did) (did : Did)
      → op_place did.op < 24
      → SawNoTableDue env c size steps → SawNoTableDue env c size (steps ++ did ∷ [])
  unfolding HasChosen-push
  no_table-push size steps did low saw =
      let behind = saw.chose.behind in
      let more = map-append performed_of behind (did ∷ []) in
      record {
        chose = HasChosen-push env c (Attach size) steps did saw.chose;
        stays = saw.stays;
        room = elim saw.room [
          | inl slots ↦ inl (subst (AreSlotsTaken env.geometry) (sym more)
              (slots_taken-stay (map performed_of behind) (performed_of did) low slots))
          | inr runs ↦ inr (subst (AreRunsTaken env.geometry (pages_due size) 0 []) (sym more)
              (runs_taken-stay env.geometry (pages_due size) 0 [] (map performed_of behind)
              (performed_of did) runs))
        ];
      }

  idle-push : (steps : List Did) (did : Did) → IsBesideTables env c did
      → SawIdle env c steps → SawIdle env c (steps ++ did ∷ [])
  idle-push steps did beside saw =
      Since-push env c Nothing steps did saw (λ of behind idle. record {
        future = idle.future;
        rest = idle.rest ++ did ∷ [];
        behind_is = ap (λ s. s ++ did ∷ []) idle.behind_is;
        future_read = idle.future_read;
        none = idle.none;
        beside = AllByRecursion-push (IsBesideTables env c) idle.rest did idle.beside beside;
        few = idle.few;
      })

  -- behind what it stored it closes its section
  closes-behind : (did : Did) → TurnsSection env.geometry c did → (behind : List Did) → Stores env c words_at behind
      → StoresAndCloses env c words_at (behind ++ did ∷ [])
  closes-behind did turns behind stored = record {
    front = behind;
    closing = did;
    rest = [];
    split = refl;
    front_stores = stored;
    closes = turns;
    rest_stores = tt;
  }

  -- and behind that it lets go of the work lock
  lets-behind : (did : Did) → did.op ≡ Store (place_of env.geometry WorkLock) 0 → (behind : List Did)
      → StoresAndCloses env c words_at behind → StoresAndCloses env c words_at (behind ++ did ∷ [])
  lets-behind did is behind ends = record {
    front = ends.front;
    closing = ends.closing;
    rest = ends.rest ++ did ∷ [];
    split = ap (λ s. s ++ did ∷ []) ends.split ∙ append_assoc ends.front (ends.closing ∷ ends.rest) (did ∷ []);
    front_stores = ends.front_stores;
    closes = ends.closes;
    rest_stores =
        AllByRecursion-push (StoresOther env.geometry) ends.rest did ends.rest_stores
        (record { place = _; value = _; stores = is; other = λ e. cc });
  }

  -- what is seen for an answer once the section is closed
  closed-saw : (outcome : Outcome) (steps : List Did) (did : Did) → TurnsSection env.geometry c did → c < 16
      → SawToClose env c words_at outcome steps
      → SawForWork env c words_at (reply_of outcome) (steps ++ did ∷ [])
  closed-saw outcomes.Idle steps did turns few saw = idle-push steps did (inr turns) saw
  closed-saw (outcomes.NoTable size) steps did turns few saw =
      let on : op_place did.op ≡ 8 + c = ap op_place turns in
      no_table-push size steps did (omega (arith, on, few)) saw
  closed-saw (outcomes.Moved again) steps did turns few saw = elim saw [
    | inl replaced ↦ inl (turned-saw env c again steps did turns replaced)
    | inr stops ↦ inr (HasStopped-push env c words_at again steps did stops (closes-behind did turns))
  ]

  -- and once the work lock is let go of
  let_go-saw : (outcome : Outcome) (steps : List Did) (did : Did) → did.op ≡ Store (place_of env.geometry WorkLock) 0
      → SawForWork env c words_at (reply_of outcome) steps
      → SawForWork env c words_at (reply_of outcome) (steps ++ did ∷ [])
  let_go-saw outcomes.Idle steps did is saw = idle-push steps did (inl (ap op_place is)) saw
  let_go-saw (outcomes.NoTable size) steps did is saw =
      let on = ap op_place is in
      no_table-push size steps did (omega (arith, on)) saw
  let_go-saw (outcomes.Moved again) steps did is saw = elim saw [
    | inl replaced ↦ inl (stored-saw env c again WorkLock 0 steps did tt (λ e. cc) is replaced)
    | inr stops ↦ inr (HasStopped-push env c words_at again steps did stops (lets-behind did is))
  ]

  -- the section is closed, and behind that it retires a table, or lets go of the work lock
  closing-saw : (ending : Ending) (steps : List Did) (did : Did) → TurnsSection env.geometry c did → c < 16
      → Sees (at.Closing ending) steps
      → Sees (closed ending) (steps ++ did ∷ [])
  closing-saw (endings.Retiring root again) steps did turns few saw =
      (turned-saw env c again steps did turns saw.0, HasGoneOn-push env c root steps did saw.1)
  closing-saw (endings.LettingGo outcome) steps did turns few saw = closed-saw outcome steps did turns few saw

  -- the keeping of section words, and behind that the work lock is let go of
  kept-next : (keep : KeepSectionsModel) (again : Bool) (next : Next (Unit {0})) (all : List Did) → SawReplaced env c again all
      → (next ≡ Go → KeepsSoFar env.geometry keep all) → Sees (kept keep again next) all
  kept-next keep again Go all saw so_far = (saw, so_far refl)
  kept-next keep again (Done tt) all saw so_far = inl saw

  kept-saw : (keep : KeepSectionsModel) (again : Bool) (steps : List Did) (did : Did) → IsKeepSectionsIn env.geometry keep
      → did.op ≡ keep_sections_plan keep → SawReplaced env c again steps × KeepsSoFar env.geometry keep steps
      → Sees (kept (keep_sections_after keep did.old).0 again (keep_sections_after keep did.old).1) (steps ++ did ∷ [])
  kept-saw keep again steps did within is saw =
      kept-next (keep_sections_after keep did.old).0 again (keep_sections_after keep did.old).1 (steps ++ did ∷ [])
      (keeping-saw env c again keep.slot keep.at steps did within.slot_in within.at_in
      (is ∙ ap (λ (h : Geometry). keep_sections_plan_at h keep.slot keep.at) within.geometry_same) saw.0)
      (keeps-go env.geometry keep within steps did is saw.1)

  pub work-saw : (mix : ℕ → ℕ → ℕ → ℕ) (state : WorkAt) (steps : List Did) (did : Did)
      → (does : Performs mix env (works state) did) → does.caller ≡ c → does.words ≡ words_at did.index → Sees state steps
      → SawNextWork env c words_at (steps ++ did ∷ []) (after_at mix env state did.old)
  work-saw mix at.WorkLock steps did does own here saw = lock-saw env c words_at steps did (hard mix env refl does) saw
  work-saw mix (at.Returning returns) steps did does own here saw =
      returned-saw env c words_at returns steps did does.within (hard mix env refl does) saw
  work-saw mix at.Opening steps did does own here saw =
      opening-saw env c words_at steps did (subst (λ k. TurnsSection env.geometry k did) own (hard mix env refl does)) saw
  work-saw mix at.CurrentTable steps did does own here saw = current-saw env c words_at steps did (hard mix env refl does) saw
  work-saw mix (at.LastTable root seek) steps did does own here saw =
      last-saw env c words_at root seek.geometry seek.at steps did does.within.seek_in.at_in
      (last_small env mix root seek.geometry seek.at did does)
      ((hard mix env refl does) ∙ ap (λ (h : Geometry). last_table_plan_at h seek.at)
      does.within.seek_in.geometry_same) saw
  work-saw mix (at.Count root last) steps did does own here saw =
      begun-saw env c words_at root last (choice_of env did.old last.shape (root == last.table)) steps did
      (hard mix env refl does) refl saw
  work-saw mix (at.Making wanted make) steps did does own here saw =
      made-saw env c words_at wanted make steps did does.within (hard mix env refl does) saw
  work-saw mix (at.Attaching root last slot shape) steps did does own here saw =
      attached-saw env c words_at root last slot shape steps did does.within.last_in does.within.made_in.slot_in
      (hard mix env refl does) saw
  work-saw mix (at.Unmaking root unmake) steps did does own here saw =
      unmade-saw env c words_at root (unmake_after unmake did.old).0 (unmake_after unmake did.old).1
      (steps ++ did ∷ [])
      (HasDue-push env c root steps did
      (plain env c _ did (hard mix env refl does) (unmake-none env.geometry unmake.geometry unmake.slot unmake.at)
      (unmake-no_add unmake.geometry unmake.slot unmake.at)) saw.0)
      (unmake-own env.geometry unmake.geometry unmake.slot unmake.at steps did (hard mix env refl does) saw.1)
  work-saw mix (at.RootFuture root due) steps did does own here saw =
      future-saw env c words_at root due (slot_of did.old) steps did (subst (λ k. k < 16) own does.few) does.within (hard mix env refl does) refl
      (nothing-found env mix root due did does)
      (other_future env mix root due did does) saw
  work-saw mix (at.RootShape root future again) steps did does own here saw =
      let rehash : Rehash = record { root = root; future = future; shape = did.old; again = again } in
      root-saw env c words_at rehash 0 (steps ++ did ∷ [])
      (goes env c rehash _ steps did (hard mix env refl does) (λ table old new l e. cc) (λ place value adds. cc) saw)
  work-saw mix (at.Entry rehash number place) steps did does own here saw =
      passed-saw env c words_at rehash number (place_after place did.old).0 (place_after place did.old).1
      (steps ++ did ∷ [])
      (goes env c rehash _ steps did (hard mix env refl does) (λ table old new l e. cc) (λ place value adds. cc) saw)
  work-saw mix (at.Locking rehash number lock) steps did does own here saw =
      locked-saw env c words_at rehash number (lock_after lock did.old).0 (lock_after lock did.old).1
      (steps ++ did ∷ [])
      (goes env c rehash _ steps did (hard mix env refl does)
      (lock-none env.geometry lock.place lock.at does.within.lock_in.place_in) (lock-no_add lock.place lock.at) saw)
  work-saw mix (at.EntryTable emptying seek) steps did does own here saw =
      table-saw mix emptying seek.geometry seek.at steps did does here saw
  work-saw mix (at.Seed emptying last) steps did does own here saw =
      goes env c emptying.rehash _ steps did (hard mix env refl does) (λ table old new l e. cc) (λ place value adds. cc) saw
  work-saw mix (at.BucketWord emptying target) steps did does own here saw =
      entry-saw env c words_at (with_word emptying (unlocked did.old)) target
      (node_of env.geometry.nodes (head_of emptying.bucket.place (unlocked did.old))) (steps ++ did ∷ [])
      (goes env c emptying.rehash _ steps did (hard mix env refl does) (λ table old new l e. cc) (λ place value adds. cc) saw)
  work-saw mix (at.Walking emptying target walk) steps did does own here saw =
      walked-saw env c words_at emptying target (last_entry_after walk did.old).0
      (last_entry_after walk did.old).1 (steps ++ did ∷ [])
      (goes env c emptying.rehash _ steps did (hard mix env refl does) (λ table old new l e. cc) (λ place value adds. cc) saw)
  work-saw mix (at.Key emptying target entry) steps did does own here saw =
      goes env c emptying.rehash _ steps did (hard mix env refl does) (λ table old new l e. cc) (λ place value adds. cc) saw
  work-saw mix (at.LockingSecond emptying entry table lock) steps did does own here saw =
      second_locked-saw env c words_at emptying entry table (lock_after lock did.old).0
      (lock_after lock did.old).1 (steps ++ did ∷ [])
      (goes env c emptying.rehash _ steps did (hard mix env refl does)
      (lock-none env.geometry lock.place lock.at does.within.lock_in.place_in) (lock-no_add lock.place lock.at) saw)
  work-saw mix (at.EntryLink emptying entry second) steps did does own here saw =
      goes env c emptying.rehash _ steps did (hard mix env refl does) (λ table old new l e. cc) (λ place value adds. cc) saw
  work-saw mix (at.Linking emptying entry second) steps did does own here saw =
      goes env c emptying.rehash _ steps did (hard mix env refl does) (λ table old new l e. cc) (λ place value adds. cc) saw
  work-saw mix (at.CuttingOff emptying entry) steps did does own here saw =
      cut-saw env c words_at emptying entry.before (steps ++ did ∷ [])
      (goes env c emptying.rehash _ steps did (hard mix env refl does)
      (cut-none env emptying.bucket.place entry.before) (cut-no_add env emptying.bucket.place entry.before) saw)
  work-saw mix (at.Unlocking rehash number unlock stop) steps did does own here saw =
      unlocked-saw env c words_at rehash number stop steps did
      (unlocking-stores env c unlock did does.within.unlock_in (hard mix env refl does))
      (plain env c _ did (hard mix env refl does) (λ table old new l e. cc) (λ place value adds. cc)) saw
  work-saw mix (at.Publishing rehash) steps did does own here saw = (
    publish-saw env c rehash steps did does.within.tables_in.future_in (hard mix env refl does) saw,
    record {
      before = steps;
      at = did;
      behind = [];
      split = refl;
      next = rehash.future;
      stores = record { table_in = does.within.tables_in.future_in; stores = (hard mix env refl does) };
      from = ap table_of (does.found ∙ ap (old_of does.words) (hard mix env refl does))
          ∙ current_slot env mix does.words does.ghost does.whole ∙ does.knows.knowing.means.work.more.followed.root_is;
      other = next_apart env mix does.words does.ghost does.whole rehash.root rehash.future does.knows.knowing.means.work.more.followed;
    },
  )
  work-saw mix (at.NewFuture rehash) steps did does own here saw =
      retiring-saw env c words_at rehash (slot_of did.old) steps did does.within.tables_in.future_in
      (hard mix env refl does) refl saw
  work-saw mix (at.Retiring root again) steps did does own here saw = (
    stored-saw env c again (Slot root StateWord) 2 steps did (does.within, tt) (λ e. cc) (hard mix env refl does) saw.0,
    keeps-begin env.geometry root steps did (retires-new env mix root again did does),
  )
  work-saw mix (at.KeepingSections keep again) steps did does own here saw =
      kept-saw keep again steps did does.within (hard mix env refl does) saw
  work-saw mix (at.Closing ending) steps did does own here saw =
      closing-saw ending steps did (subst (λ k. TurnsSection env.geometry k did) own (hard mix env refl does)) (subst (λ k. k < 16) own does.few) saw
  work-saw mix (at.LettingGo outcome) steps did does own here saw = let_go-saw outcome steps did (hard mix env refl does) saw
