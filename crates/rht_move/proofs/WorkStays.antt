-- Whatever words it is told, a worker stays in its table: a case a state.
-- Slots, links and shapes are read totally, so what they name is there or is none.
use Rattle.std.proofs.Common.{ℕ, ◌+◌, ◌<◌, refl, subst, arith}
use Rattle.std.specs.Prelude.{Bool, true, false, Option, Some, None, ◌==◌, ◌||◌, nat_lt}
use Rattle.std.proofs.lemmas.Bool.{cond_both, ltb-true}
use Rattle.rht_words.specs.declared.env.Env.{Env}
use Rattle.rht_words.specs.declared.geometry.Geometry.{Geometry}
use Rattle.rht_words.specs.declared.machine.Next.{Next}
use Rattle.rht_words.specs.declared.machine.Next.TheVariants.{Go, Done}
use Rattle.rht_words.specs.Links.{slot_of, node_of, head_of, unlocked}
use Rattle.rht_words.specs.Places.{IsBucketPlace}
use Rattle.rht_words.specs.Planned.{IsWord}
use Rattle.rht_words.specs.Ports.{port_of}
use Rattle.rht_words.specs.Shapes.{size_of, unpacked}
use Rattle.rht_words.proofs.ShapeSizes.{IsSizeUpTo-size_of}
use Rattle.rht_words.proofs.LinksRead.{slot_of-in, node_of-in, IsSlotOrNone}
use Rattle.rht_policy.specs.Mix.{bucket_of}
use Rattle.rht_nest.specs.Tables.{is_nested}
use Rattle.rht_nest.specs.Place.{PlaceModel, flat_place, place_after}
use Rattle.rht_nest.specs.declared.place.Bucket.{Bucket}
use Rattle.rht_nest.specs.declared.place.Bucket.TheVariants.{At, Absent}
use Rattle.rht_nest.proofs.BucketsApart.{flat_place_in}
use Rattle.rht_nest.proofs.Places.{PlaceStays, place_stays, nested_place_in}
use Rattle.rht_nest.specs.Make.{MakeModel, make_new, make_after, IsMakeIn, IsMakeEndIn}
use Rattle.rht_nest.specs.Unmake.{UnmakeModel, unmake_after, IsUnmakeIn}
use Rattle.rht_nest.proofs.MakesStay.{make_stays, unmake_begins, unmake_stays}
use Rattle.rht_chain.specs.Lock.{LockModel, lock_new, lock_after, IsLockIn}
use Rattle.rht_chain.specs.LockedWalk.{IsNodeOrNone}
use Rattle.rht_chain.proofs.PiecesStay.{LockStays, lock_stays}
use Rattle.rht_reclaim.specs.KeepSections.{KeepSectionsModel, keep_sections_after, IsKeepSectionsIn}
use Rattle.rht_reclaim.specs.ReturnTables.{ReturnTablesModel, return_tables_after, IsReturnTablesIn}
use Rattle.rht_reclaim.proofs.KeepsSections.{keep_sections_stays}
use Rattle.rht_reclaim.proofs.ReturnsStay.{return_tables_stays}
use Rattle.rht_model.specs.declared.history.Reply.{Reply}
use Rattle.rht_move.specs.LastTable.{LastTableModel, last_table_after}
use Rattle.rht_move.specs.LastEntry.{LastEntryModel, last_entry_after, IsEntryIn}
use Rattle.rht_move.specs.Choice.{choice_of}
use Rattle.rht_move.specs.Work.{after_at, lock_seen, returned, kept, last_seen, begun, not_made, made, attached, unmade, future_or_idle, bucket_of_root, next_bucket, entry_passed, entry_table, locked, unlocking, entry_table_seen, with_word, entry_or_empty, walked, keyed, second_locked, cut_off, unlocked_bucket, retiring, closed, IsCountingIn, IsMakingIn, IsAttachingIn, IsRehashIn, IsBucketIn, IsEmptyingIn, IsTargetIn, IsEndingIn, IsWorkAtIn}
use Rattle.rht_move.specs.declared.last_table.Last.{Last}
use Rattle.rht_move.specs.declared.last_entry.Entry.{Entry}
use Rattle.rht_move.specs.declared.rehash.Rehash.{Rehash}
use Rattle.rht_move.specs.declared.rehash.Emptying.{Emptying}
use Rattle.rht_move.specs.declared.rehash.Target.{Target}
use Rattle.rht_move.specs.declared.work.choice.Choice.{Choice}
use Rattle.rht_move.specs.declared.work.choice.Choice.TheVariants.{Attach, Later, Nothing}
use Rattle.rht_move.specs.declared.work.Due.{Due}
use Rattle.rht_move.specs.declared.work.Wanted.{Wanted}
use Rattle.rht_move.specs.declared.work.ending.Ending.{Ending}
use Rattle.rht_move.specs.declared.work.ending.Ending.TheVariants as endings
use Rattle.rht_move.specs.declared.work.WorkAt.{WorkAt}
use Rattle.rht_move.specs.declared.work.WorkAt.TheVariants as at
use Rattle.rht_move.proofs.LastTables.{LastTableStays, last_table_stays}
use Rattle.rht_move.proofs.LastEntries.{LastEntryStays, last_entry_stays}

-- a lock begins in its bucket
lock_begins : (g : Geometry) (place : ℕ) → IsBucketPlace g place → IsLockIn g (lock_new place)
lock_begins g place place_in = record { place_in = place_in; even = tt; word_in = tt }

-- the making of a table begins at the first slot, with one of the sizes
make_begins : (g : Geometry) (size seed : ℕ) (nested : Bool) → IsMakeIn g (make_new g size seed nested)
make_begins g size seed nested = record {
  geometry_same = refl;
  least = omega arith;
  greatest = omega arith;
  at_in = omega arith;
}

module _ (mix : ℕ → ℕ → ℕ → ℕ) (env : Env) where
  abbrev g : Geometry
  g = env.geometry

  -- ---- the work lock, and a table that is due

  lock_seen-in : (lock : ℕ) → IsWorkAtIn env (lock_seen g lock).0
  lock_seen-in lock =
      cond_both {A = WorkAt × Next Reply} (lock == 0) _ _ (λ next. IsWorkAtIn env next.0)
      (λ t. record { geometry_same = refl; at_in = omega arith }) (λ f. tt)

  returned-in : (returns : ReturnTablesModel) (next : Next (Unit {0})) → IsReturnTablesIn g returns
      → IsWorkAtIn env (returned returns next)
  returned-in returns Go within = within
  returned-in returns (Done done) within = tt

  kept-in : (keep : KeepSectionsModel) (again : Bool) (next : Next (Unit {0})) → IsKeepSectionsIn g keep
      → IsWorkAtIn env (kept keep again next)
  kept-in keep again Go within = within
  kept-in keep again (Done done) within = tt

  last_seen-in : (root : ℕ) (seek : LastTableModel) (next : Next Last) → root < 8
      → LastTableStays g (seek, next) → IsWorkAtIn env (last_seen root seek next)
  last_seen-in root seek Go root_in stays = record { root_in = root_in; seek_in = stays.seek_in }
  last_seen-in root seek (Done last) root_in stays = record { root_in = root_in; last_in = stays.end_in }

  begun-in : (root : ℕ) (last : Last) (choice : Choice) → IsCountingIn root last
      → IsWorkAtIn env (begun env root last choice)
  begun-in root last (Attach size) within = record {
    wanted_in = within;
    size_same = refl;
    seed_same = refl;
    flat = refl;
    make_in = make_begins g size env.config.seed false;
  }
  begun-in root last Later within = within.root_in
  begun-in root last Nothing within = within.root_in

  not_made-in : (wanted : Wanted) → IsCountingIn wanted.root wanted.last → IsWorkAtIn env (not_made wanted)
  not_made-in wanted within =
      cond_both ((wanted.root == wanted.last.table) || is_nested wanted.last.shape) _ _ (IsWorkAtIn env) (λ t. tt)
      (λ f. within.root_in)

  made-in : (wanted : Wanted) (make : MakeModel) (next : Next (Option (ℕ × ℕ))) → IsMakingIn env wanted make
      → IsMakeEndIn g make.exponent false next → IsWorkAtIn env (made wanted make next)
  made-in wanted make Go within made_in = within
  made-in wanted make (Done None) within made_in = not_made-in wanted within.wanted_in
  made-in wanted make (Done (Some table)) within made_in = record {
    root_in = within.wanted_in.root_in;
    last_in = within.wanted_in.last_in.table_in;
    exponent = make.exponent;
    least = within.make_in.least;
    greatest = within.make_in.greatest;
    made_in = made_in;
  }

  attached-in : (root last slot shape future : ℕ) → IsAttachingIn g root last slot shape
      → IsWorkAtIn env (attached g root slot shape future)
  attached-in root last slot shape future within =
      cond_both (future == 0) _ _ (IsWorkAtIn env) (λ t. within.root_in)
      (λ f. record { root_in = within.root_in; unmake_in = unmake_begins g slot shape within.made_in.slot_in })

  unmade-in : (root : ℕ) (unmake : UnmakeModel) (next : Next (Unit {0})) → root < 8 → IsUnmakeIn g unmake
      → IsWorkAtIn env (unmade root unmake next)
  unmade-in root unmake Go root_in unmake_in = record { root_in = root_in; unmake_in = unmake_in }
  unmade-in root unmake (Done done) root_in unmake_in = root_in

  idle-in : (root : ℕ) (due : Due) (future : Option ℕ) → root < 8 → IsSlotOrNone future
      → IsWorkAtIn env (future_or_idle root due future)
  idle-in root due None root_in future_in = tt
  idle-in root due (Some future) root_in future_in = record { root_in = root_in; future_in = future_in }

  -- ---- the move of the current table

  bucket-in : (rehash : Rehash) (number : ℕ) → IsBucketIn rehash number
      → IsWorkAtIn env (bucket_of_root g rehash number)
  bucket-in rehash number within =
      cond_both (is_nested rehash.shape) _ _ (IsWorkAtIn env)
      (λ t. record { bucket_in = within; place_in = nested_place_in g rehash.shape number })
      (λ f.
      record {
        bucket_in = within;
        lock_in = lock_begins g (flat_place g rehash.shape number) (flat_place_in g rehash.shape number);
      })

  next-in : (rehash : Rehash) (number : ℕ) → IsBucketIn rehash number
      → IsWorkAtIn env (next_bucket g rehash number)
  next-in rehash number within =
      let size = size_of (unpacked rehash.shape) in
      cond_both (nat_lt (number + 1) size) (bucket_of_root g rehash (number + 1)) (at.Publishing rehash)
      (IsWorkAtIn env)
      (λ t.
      bucket-in rehash (number + 1)
      (record { rehash_in = within.rehash_in; number_in = ltb-true (number + 1) size t }))
      (λ f. within.rehash_in)

  passed-in : (rehash : Rehash) (number : ℕ) (place : PlaceModel) (next : Next Bucket) → IsBucketIn rehash number
      → PlaceStays g (place, next) → IsWorkAtIn env (entry_passed g rehash number place next)
  passed-in rehash number place Go within stays = record { bucket_in = within; place_in = stays.place_in }
  passed-in rehash number place (Done (At word)) within stays =
      record { bucket_in = within; lock_in = lock_begins g word stays.end_in }
  passed-in rehash number place (Done (Absent entry)) within stays = next-in rehash number within

  entry_table-in : (emptying : Emptying) → IsEmptyingIn g emptying → IsWorkAtIn env (entry_table g emptying)
  entry_table-in emptying within = record {
    emptying_in = within;
    seek_in = record { geometry_same = refl; at_in = within.bucket_in.rehash_in.tables_in.root_in };
  }

  locked-in : (rehash : Rehash) (number : ℕ) (lock : LockModel) (next : Next ℕ) → IsBucketIn rehash number
      → LockStays g (lock, next) → IsWorkAtIn env (locked g rehash number lock next)
  locked-in rehash number lock Go within stays = record { bucket_in = within; lock_in = stays.lock_in }
  locked-in rehash number lock (Done word) within stays =
      entry_table-in
      (record { rehash = rehash; number = number; bucket = record { place = lock.place; word = word } })
      (record {
        bucket_in = within;
        locked_in = record { place_in = stays.lock_in.place_in; word_in = stays.found_in };
      })

  unlocking-in : (emptying : Emptying) (stop : Bool) → IsEmptyingIn g emptying
      → IsWorkAtIn env (unlocking emptying stop)
  unlocking-in emptying stop within = record {
    bucket_in = within.bucket_in;
    unlock_in = record { place_in = within.locked_in.place_in; word_in = within.locked_in.word_in };
  }

  entry_table_seen-in : (emptying : Emptying) (seek : LastTableModel) (next : Next Last) → IsEmptyingIn g emptying
      → LastTableStays g (seek, next) → IsWorkAtIn env (entry_table_seen emptying seek next)
  entry_table_seen-in emptying seek Go within stays = record { emptying_in = within; seek_in = stays.seek_in }
  entry_table_seen-in emptying seek (Done last) within stays =
      cond_both (is_nested last.shape) (unlocking emptying true) (at.Seed emptying last) (IsWorkAtIn env)
      (λ t. unlocking-in emptying true within)
      (λ f. record { emptying_in = within; last_in = stays.end_in })

  with_word-in : (emptying : Emptying) (word : ℕ) → IsEmptyingIn g emptying → IsWord word
      → IsEmptyingIn g (with_word emptying word)
  with_word-in emptying word within word_in = record {
    bucket_in = within.bucket_in;
    locked_in = record { place_in = within.locked_in.place_in; word_in = word_in };
  }

  entry-in : (emptying : Emptying) (target : Target) (first : Option ℕ) → IsEmptyingIn g emptying
      → IsTargetIn target → IsNodeOrNone g first → IsWorkAtIn env (entry_or_empty g emptying target first)
  entry-in emptying target None within target_in first_in = unlocking-in emptying false within
  entry-in emptying target (Some first) within target_in first_in = record {
    emptying_in = within;
    target_in = target_in;
    walk_in = record { geometry_same = refl; node_in = first_in; before_in = tt };
  }

  walked-in : (emptying : Emptying) (target : Target) (walk : LastEntryModel) (next : Next Entry)
      → IsEmptyingIn g emptying → IsTargetIn target → LastEntryStays g (walk, next)
      → IsWorkAtIn env (walked emptying target walk next)
  walked-in emptying target walk Go within target_in stays =
      record { emptying_in = within; target_in = target_in; walk_in = stays.walk_in }
  walked-in emptying target walk (Done entry) within target_in stays =
      record { emptying_in = within; target_in = target_in; entry_in = stays.end_in }

  keyed-in : (emptying : Emptying) (target : Target) (entry : Entry) (key : ℕ) → IsEmptyingIn g emptying
      → IsTargetIn target → IsEntryIn g entry → IsWorkAtIn env (keyed mix g emptying target entry key)
  keyed-in emptying target entry key within target_in entry_in =
      let bucket = bucket_of mix (port_of key) target.shape target.seed in
      record {
        emptying_in = within;
        entry_in = entry_in;
        table_in = target_in.table_in;
        lock_in = lock_begins g (flat_place g target.shape bucket) (flat_place_in g target.shape bucket);
      }

  second_locked-in : (emptying : Emptying) (entry : Entry) (table : ℕ) (lock : LockModel) (next : Next ℕ)
      → IsEmptyingIn g emptying → IsEntryIn g entry → table < 8 → LockStays g (lock, next)
      → IsWorkAtIn env (second_locked emptying entry table lock next)
  second_locked-in emptying entry table lock Go within entry_in table_in stays =
      record { emptying_in = within; entry_in = entry_in; table_in = table_in; lock_in = stays.lock_in }
  second_locked-in emptying entry table lock (Done word) within entry_in table_in stays = record {
    emptying_in = within;
    entry_in = entry_in;
    second_in = record {
      table_in = table_in;
      bucket_in = record { place_in = stays.lock_in.place_in; word_in = stays.found_in };
    };
  }

  cut_off-in : (emptying : Emptying) (before : Option ℕ) → IsEmptyingIn g emptying
      → IsWorkAtIn env (cut_off g emptying before)
  cut_off-in emptying None within =
      entry_table-in (with_word emptying 0) (with_word-in emptying 0 within (omega arith))
  cut_off-in emptying (Some before) within = entry_table-in emptying within

  unlocked-in : (rehash : Rehash) (number : ℕ) (stop : Bool) → IsBucketIn rehash number
      → IsWorkAtIn env (unlocked_bucket g rehash number stop)
  unlocked-in rehash number stop within =
      cond_both stop _ (next_bucket g rehash number) (IsWorkAtIn env) (λ t. tt) (λ f. next-in rehash number within)

  retiring-in : (rehash : Rehash) (future : Option ℕ) → IsRehashIn rehash → IsWorkAtIn env (retiring rehash future)
  retiring-in rehash None within = within.tables_in.root_in
  retiring-in rehash (Some next) within = within.tables_in.root_in

  closed-in : (ending : Ending) → IsEndingIn ending → IsWorkAtIn env (closed ending)
  closed-in (endings.Retiring root again) within = within
  closed-in (endings.LettingGo outcome) within = tt

  -- a table has a first bucket
  first-in : (rehash : Rehash) → IsRehashIn rehash → IsBucketIn rehash 0
  first-in rehash within =
      let least = (IsSizeUpTo-size_of (unpacked rehash.shape)).least in
      record { rehash_in = within; number_in = omega (arith, least) }

  -- ---- all states

  pub work_stays : (state : WorkAt) (word : ℕ) → IsWorkAtIn env state → IsWord word
      → IsWorkAtIn env (after_at mix env state word).0
  work_stays at.WorkLock word within told = lock_seen-in word
  work_stays (at.Returning returns) word within told =
      returned-in (return_tables_after returns word).0 (return_tables_after returns word).1
      (return_tables_stays g returns word within)
  work_stays at.Opening word within told = tt
  work_stays at.CurrentTable word within told = record {
    root_in = omega arith;
    seek_in = record { geometry_same = refl; at_in = omega arith };
  }
  work_stays (at.LastTable root seek) word within told =
      last_seen-in root (last_table_after seek word).0 (last_table_after seek word).1 within.root_in
      (last_table_stays g seek word within.seek_in told)
  work_stays (at.Count root last) word within told =
      begun-in root last (choice_of env word last.shape (root == last.table)) within
  work_stays (at.Making wanted make) word within told =
      let stays = make_stays g make word within.make_in told in
      made-in wanted (make_after make word).0 (make_after make word).1
      (record {
        wanted_in = within.wanted_in;
        size_same = within.size_same;
        seed_same = within.seed_same;
        flat = within.flat;
        make_in = stays.make_in;
      })
      (subst (λ allowed. IsMakeEndIn g make.exponent allowed (make_after make word).1) within.flat stays.made_in)
  work_stays (at.Attaching root last slot shape) word within told = attached-in root last slot shape word within
  work_stays (at.Unmaking root unmake) word within told =
      unmade-in root (unmake_after unmake word).0 (unmake_after unmake word).1 within.root_in
      (unmake_stays g unmake word within.unmake_in)
  work_stays (at.RootFuture root due) word within told =
      idle-in root due (slot_of word) within (slot_of-in word)
  work_stays (at.RootShape root future again) word within told =
      let rehash : Rehash = record { root = root; future = future; shape = word; again = again } in
      bucket-in rehash 0 (first-in rehash (record { tables_in = within; shape_in = told }))
  work_stays (at.Entry rehash number place) word within told =
      passed-in rehash number (place_after place word).0 (place_after place word).1 within.bucket_in
      (place_stays g place word within.place_in)
  work_stays (at.Locking rehash number lock) word within told =
      locked-in rehash number (lock_after lock word).0 (lock_after lock word).1 within.bucket_in
      (lock_stays g lock word within.lock_in told)
  work_stays (at.EntryTable emptying seek) word within told =
      entry_table_seen-in emptying (last_table_after seek word).0 (last_table_after seek word).1 within.emptying_in
      (last_table_stays g seek word within.seek_in told)
  work_stays (at.Seed emptying last) word within told = record {
    emptying_in = within.emptying_in;
    target_in = record {
      table_in = within.last_in.table_in;
      shape_in = within.last_in.shape_in;
      seed_in = told;
    };
  }
  work_stays (at.BucketWord emptying target) word within told =
      entry-in (with_word emptying (unlocked word)) target
      (node_of g.nodes (head_of emptying.bucket.place (unlocked word)))
      (with_word-in emptying (unlocked word) within.emptying_in (omega (arith, told))) within.target_in
      (node_of-in g (head_of emptying.bucket.place (unlocked word)))
  work_stays (at.Walking emptying target walk) word within told =
      walked-in emptying target (last_entry_after walk word).0 (last_entry_after walk word).1 within.emptying_in
      within.target_in (last_entry_stays g walk word within.walk_in)
  work_stays (at.Key emptying target entry) word within told =
      keyed-in emptying target entry word within.emptying_in within.target_in within.entry_in
  work_stays (at.LockingSecond emptying entry table lock) word within told =
      second_locked-in emptying entry table (lock_after lock word).0 (lock_after lock word).1 within.emptying_in
      within.entry_in within.table_in (lock_stays g lock word within.lock_in told)
  work_stays (at.EntryLink emptying entry second) word within told = within
  work_stays (at.Linking emptying entry second) word within told =
      record { emptying_in = within.emptying_in; entry_in = within.entry_in }
  work_stays (at.CuttingOff emptying entry) word within told = cut_off-in emptying entry.before within.emptying_in
  work_stays (at.Unlocking rehash number unlock stop) word within told =
      unlocked-in rehash number stop within.bucket_in
  work_stays (at.Publishing rehash) word within told = within
  work_stays (at.NewFuture rehash) word within told = retiring-in rehash (slot_of word) within
  work_stays (at.Closing ending) word within told = closed-in ending within
  work_stays (at.Retiring root again) word within told =
      let some = g.within.callers_within in
      record { geometry_same = refl; slot_in = within; at_in = omega (arith, some) }
  work_stays (at.KeepingSections keep again) word within told =
      kept-in (keep_sections_after keep word).0 again (keep_sections_after keep word).1
      (keep_sections_stays g keep word within told)
  work_stays (at.LettingGo outcome) word within told = tt
