-- A resizing, operation by operation: each leads from what it knows to what it knows next.
use Rattle.std.proofs.Common.{◌≡◌, ℕ, ◌+◌, ◌<◌, Bool, true, false, List, length, nat_lt, Option, Some, None, refl, sym, subst, inl, arith}
use Rattle.std.proofs.lemmas.Bool.{cond_both, ltb-false}
use Rattle.rht_words.specs.declared.env.Env.{Env}
use Rattle.rht_words.specs.declared.machine.Next.{Next}
use Rattle.rht_words.specs.declared.geometry.Geometry.{Geometry}
use Rattle.rht_words.specs.declared.machine.Next.TheVariants.{Go}
use Rattle.rht_words.specs.Held as held
use Rattle.rht_words.specs.Links.{slot_of}
use Rattle.rht_words.specs.Shapes.{unpacked, size_of}
use Rattle.rht_words.specs.Places.{Section, Slot, FutureWord, words_in}
use Rattle.rht_words.proofs.Memory.{Memory}
use Rattle.rht_model.specs.declared.history.Reply.{Reply}
use Rattle.rht_model.specs.declared.history.Reply.TheVariants as replies
use Rattle.rht_model.specs.Answers.{plain}
use Rattle.rht_reclaim.specs.KeepSections.{KeepSectionsModel, IsKeepSectionsAtIn, IsKeepSectionsIn}
use Rattle.rht_reclaim.specs.declared.keep_sections.KeepSectionsAt.{KeepSectionsAt}
use Rattle.rht_reclaim.specs.declared.keep_sections.KeepSectionsAt.TheVariants as keeps
use Rattle.rht_move.specs.declared.rehash.Rehash.{Rehash}
use Rattle.rht_move.specs.declared.work.Outcome.{Outcome}
use Rattle.rht_move.specs.declared.work.Outcome.TheVariants.{Moved as HasMoved}
use Rattle.rht_move.specs.declared.work.ending.Ending.{Ending}
use Rattle.rht_move.specs.declared.work.ending.Ending.TheVariants as endings
use Rattle.rht_move.specs.declared.work.WorkAt.{WorkAt}
use Rattle.rht_move.specs.declared.work.WorkAt.TheVariants as at
use Rattle.rht_move.specs.Work.{plan_at, letting_go, retiring, keeping, kept, reply_of, IsWorkAtIn}
use Rattle.rht_move.specs.WorkHeld.{holds_work_lock, has_moved, holds_outcome, held_of_work}
use Rattle.rht_ghost.proofs.Theory.Ghosts.{Ghost}
use Rattle.rht_ghost.proofs.Theory.Wholes.{Whole}
use Rattle.rht_ghost.proofs.Theory.Knowns.{MakesNothing, NoAim, KnownPlace, Works, LeavesBehind}
use Rattle.rht_ghost.proofs.Theory.Answering.{keeps as keeps_answer}
use Rattle.rht_ghost.proofs.Theory.Steps.{answered-map, Holding, mem, still_has}
use Rattle.rht_ghost.proofs.Pieces.OwnSections.{OpensNone, open_step, close_step}
use Rattle.rht_ghost.proofs.Pieces.WorkSteps.{knows_work, unlock_work_step}
use Rattle.rht_ghost.proofs.Pieces.WorkStores.{give_work_step, stop_step, publish_step, retire_step}
use Rattle.rht_ghost.proofs.Pieces.KeepSteps.{keep_load_step, keep_store_step, settle_step}
use Rattle.rht_move.proofs.WorkReturns.{return_step}
use Rattle.rht_move.proofs.WorkKnowledge.{known_rehash}
use Rattle.rht_move.proofs.WorkLeads.{moving_at, says, leads, load_moving}
use Rattle.rht_move.proofs.WorkTables.{take_lock, root_loaded, seeking_last, count_loaded, make_due, attach_due, unmake_due}
use Rattle.rht_move.proofs.WorkBuckets.{root_future, next_leads, root_shape, entry_loaded, locking}
use Rattle.rht_move.proofs.WorkEntries.{seeking_entry, seed_loaded, bucket_word, walking, key_loaded, locking_second, link_entry, link_bucket, cutting}
use Rattle.rht_move.proofs.WorkKnowledge as works

module _ (env : Env) (mix : ℕ → ℕ → ℕ → ℕ) (c : ℕ) (low : c < env.geometry.callers) (words : List ℕ) (G : Ghost)
    (all : length words ≡ words_in env.geometry) (whole : Whole env mix (mem env mix words) G) where
  abbrev M : Memory
  M = mem env mix words

  abbrev WorkKnows : WorkAt → Memory → Ghost → Type 0
  WorkKnows = works.WorkKnows env mix c

  abbrev WorkMoved : WorkAt → WorkAt × Next Reply → Type 0
  WorkMoved = works.WorkMoved env mix c words G

  abbrev WorkStep : WorkAt → Type 0
  WorkStep = works.WorkStep env mix c words G

  -- ---- its section

  open_section : G.from c ≡ None → WorkKnows at.Opening M G → WorkStep at.Opening
  open_section none known =
      leads at.CurrentTable (inl refl) refl refl refl
      (open_step env mix c holds_work_lock (knows_work MakesNothing Works) refl words G all whole low none known)

  close_section : (ending : Ending) → WorkKnows (at.Closing ending) M G → WorkStep (at.Closing ending)
  close_section (endings.Retiring root again) known =
      let answer = Some (plain (replies.Moved again)) in
      leads (at.Retiring root again) (inl (keeps_answer answer)) refl refl refl
      (close_step env mix c (holds_outcome (HasMoved again)) (knows_work MakesNothing (LeavesBehind root)) refl words G all
      whole low refl refl known)
  close_section (endings.LettingGo outcome) known =
      let answer = Some (plain (reply_of outcome)) in
      leads (at.LettingGo outcome) (inl (keeps_answer answer)) refl refl refl
      (close_step env mix c (holds_outcome outcome) (knows_work MakesNothing Works) refl words G all whole low refl refl known)

  -- ---- the next bucket, or the table is empty

  unlock : (rehash : Rehash) (number place word : ℕ) (stop : Bool)
      → number < size_of (unpacked rehash.shape)
      → let state = at.Unlocking rehash number (record { place = place; word = word }) stop in
      WorkKnows state M G → WorkStep state
  unlock rehash number place word true below known =
      let state = at.Unlocking rehash number (record { place = place; word = word }) true in
      let next = letting_go (HasMoved true) in
      let at_place : KnownPlace = record { number = number; place = place; word = word } in
      leads next (inl (keeps_answer (Some (plain (replies.Moved true))))) refl refl refl
      (stop_step env mix c (held_of_work next) words G all whole (known_rehash rehash) at_place NoAim known)
  unlock rehash number place word false below known =
      let state = at.Unlocking rehash number (record { place = place; word = word }) false in
      let at_place : KnownPlace = record { number = number; place = place; word = word } in
      next_leads env mix c words G all whole rehash number (plan_at env c state) (moving_at (Some place))
      (inl refl) refl below
      (unlock_work_step env mix c (moving_at None) words G all whole refl
      (known_rehash rehash) at_place known)

  publish : (rehash : Rehash) → WorkKnows (at.Publishing rehash) M G → WorkStep (at.Publishing rehash)
  publish rehash known =
      let next = at.NewFuture rehash in
      leads next (inl refl) refl refl refl
      (publish_step env mix c (moving_at None) words G all whole refl (known_rehash rehash)
      (size_of (unpacked rehash.shape)) refl known)

  retire_next : (rehash : Rehash) (next : Option ℕ) → WorkKnows (at.NewFuture rehash) M G
      → WorkMoved (at.NewFuture rehash) (retiring rehash next, Go)
  retire_next rehash None known =
      load_moving all whole None (LeavesBehind rehash.root) (LeavesBehind rehash.root)
      (at.Closing (endings.Retiring rehash.root rehash.again)) refl known (λ k. k)
      (says (replies.Moved rehash.again) tt refl refl) refl refl
  retire_next rehash (Some next) known =
      load_moving all whole None (LeavesBehind rehash.root) (LeavesBehind rehash.root)
      (at.Closing (endings.Retiring rehash.root true)) refl known (λ k. k)
      (says (replies.Moved true) tt refl refl) refl refl

  retire : (root : ℕ) (again : Bool) → WorkKnows (at.Retiring root again) M G
      → WorkStep (at.Retiring root again)
  retire root again known =
      let state = at.Retiring root again in
      let next = keeping env.geometry root again in
      leads next (inl (keeps_answer (Some (plain (replies.Moved again))))) refl refl refl
      (retire_step env mix c (held_of_work state) words G all whole refl root known)

  -- a section word is loaded, or kept in the slot, and behind the last one the table is retired
  keep_at : (slot : ℕ) (state : KeepSectionsAt) (again : Bool) → IsKeepSectionsAtIn env.geometry state
      → let here = at.KeepingSections (record { geometry = env.geometry; slot = slot; at = state }) again in
      WorkKnows here M G → WorkStep here
  keep_at slot (keeps.Section caller) again is known =
      let answer = Some (plain (replies.Moved again)) in
      let word = M (Section caller) in
      leads (at.KeepingSections (record { geometry = env.geometry; slot = slot; at = keeps.Word caller word }) again)
      (inl (keeps_answer answer)) refl refl refl
      (keep_load_step env mix c (holds_outcome (HasMoved again)) words G all whole slot caller known)
  keep_at slot (keeps.Word caller word) again is known =
      let answer = Some (plain (replies.Moved again)) in
      let h = holds_outcome (HasMoved again) in
      let keep : KeepSectionsModel = record { geometry = env.geometry; slot = slot; at = keeps.Word caller word } in
      let here = at.KeepingSections keep again in
      cond_both {A = KeepSectionsAt × Next (Unit {0})} (nat_lt (caller + 1) env.geometry.callers) _ _
      (λ r. WorkMoved here (kept (record keep { at = r.0 }) again r.1, Go))
      (λ t. leads (at.KeepingSections (record keep { at = keeps.Section (caller + 1) }) again) (inl (keeps_answer answer)) refl refl
      refl (keep_store_step env mix c h words G all whole slot caller word is.caller_in refl known))
      (λ f.
      let below = is.caller_in in
      let last : caller + 1 ≡ env.geometry.callers =
      (let above = ltb-false (caller + 1) env.geometry.callers f in omega (arith, above, below)) in
      leads (at.LettingGo (HasMoved again)) (inl (keeps_answer answer)) refl refl refl
      (settle_step env mix c h words G all whole slot caller word is.caller_in refl known last))

  keep : (m : KeepSectionsModel) (again : Bool) → IsKeepSectionsIn env.geometry m
      → WorkKnows (at.KeepingSections m again) M G → WorkStep (at.KeepingSections m again)
  keep m again is known =
      subst (λ (g : Geometry). WorkStep (at.KeepingSections (record { geometry = g; slot = m.slot; at = m.at }) again))
      (sym is.geometry_same) (keep_at m.slot m.at again is.at_in known)

  let_go : (outcome : Outcome) → WorkKnows (at.LettingGo outcome) M G → WorkStep (at.LettingGo outcome)
  let_go outcome known =
      let answer = plain (reply_of outcome) in
      let after : Holding = held.ended_with answer in
      answered-map env mix (Some answer) (inl (keeps_answer (Some answer))) (still_has refl)
      (λ M' G' w k. k)
      (give_work_step env mix c after words G all whole refl (has_moved outcome) known)

  -- ---- all states

  -- each operation of a resizing leads from what it knows to what it knows next
  pub work_step : (state : WorkAt) → IsWorkAtIn env state → OpensNone env c G (plan_at env c state) (held_of_work state)
      → WorkKnows state M G → WorkStep state
  work_step at.WorkLock is outside known = take_lock env mix c words G all whole known
  work_step (at.Returning returns) is outside known = return_step env mix c words G all whole returns is known
  work_step at.Opening is outside known = open_section (outside refl refl) known
  work_step at.CurrentTable is outside known = root_loaded env mix c words G all whole known
  work_step (at.LastTable root seek) is outside known =
      seeking_last env mix c words G all whole root seek is known
  work_step (at.Count root last) is outside known =
      count_loaded env mix c words G all whole root last known
  work_step (at.Making wanted make) is outside known = make_due env mix c words G all whole wanted make is known
  work_step (at.Attaching root last slot shape) is outside known =
      attach_due env mix c words G all whole root last slot shape is.last_in known
  work_step (at.Unmaking root unmake) is outside known =
      unmake_due env mix c words G all whole root unmake is known
  work_step (at.RootFuture root due) is outside known =
      root_future env mix c words G all whole root due (slot_of (M (Slot root FutureWord))) refl known
  work_step (at.RootShape root future again) is outside known =
      root_shape env mix c words G all whole root future again known
  work_step (at.Entry rehash number place) is outside known =
      entry_loaded env mix c words G all whole rehash number place is known
  work_step (at.Locking rehash number lock) is outside known =
      locking env mix c words G all whole rehash number lock is known
  work_step (at.EntryTable emptying seek) is outside known =
      seeking_entry env mix c words G all whole emptying seek is known
  work_step (at.Seed emptying last) is outside known =
      seed_loaded env mix c words G all whole emptying last known
  work_step (at.BucketWord emptying target) is outside known =
      bucket_word env mix c words G all whole emptying target known
  work_step (at.Walking emptying target walk) is outside known =
      walking env mix c words G all whole emptying target walk is.walk_in.geometry_same known
  work_step (at.Key emptying target entry) is outside known =
      key_loaded env mix c words G all whole emptying target entry known
  work_step (at.LockingSecond emptying entry table lock) is outside known =
      locking_second env mix c words G all whole emptying entry table lock is known
  work_step (at.EntryLink emptying entry second) is outside known =
      link_entry env mix c words G all whole emptying entry second known
  work_step (at.Linking emptying entry second) is outside known =
      link_bucket env mix c words G all whole emptying entry second known
  work_step (at.CuttingOff emptying entry) is outside known =
      cutting env mix c words G all whole emptying entry.node entry.before known
  work_step (at.Unlocking rehash number unlocks stop) is outside known =
      unlock rehash number unlocks.place unlocks.word stop is.bucket_in.number_in known
  work_step (at.Publishing rehash) is outside known = publish rehash known
  work_step (at.NewFuture rehash) is outside known =
      retire_next rehash (slot_of (M (Slot rehash.future FutureWord))) known
  work_step (at.Closing ending) is outside known = close_section ending known
  work_step (at.Retiring root again) is outside known = retire root again known
  work_step (at.KeepingSections m again) is outside known = keep m again is known
  work_step (at.LettingGo outcome) is outside known = let_go outcome known
