-- Of a resizing alone what it makes is of interest: the last table by which it chooses, the making of a table, and the table that it has made.
-- What is true of these before an operation leads to what is true behind it.
use Rattle.std.proofs.Common.{◌≡◌, ℕ, ◌+◌, Bool, true, false, cond, nat_lt, refl}
use Rattle.std.specs.Prelude.{Option, Some, None, ◌==◌, ◌||◌}
use Rattle.rht_words.specs.declared.env.Env.{Env}
use Rattle.rht_words.specs.declared.machine.Next.{Next}
use Rattle.rht_words.specs.declared.machine.Next.TheVariants.{Go, Done}
use Rattle.rht_words.specs.Links.{slot_of, node_of, head_of, unlocked}
use Rattle.rht_words.specs.Shapes.{unpacked, size_of}
use Rattle.rht_model.specs.declared.history.Reply.{Reply}
use Rattle.rht_model.specs.declared.history.Reply.TheVariants.{Elsewhere}
use Rattle.rht_nest.specs.Make.{MakeModel, make_new, make_after}
use Rattle.rht_nest.specs.Tables.{is_nested}
use Rattle.rht_nest.specs.Unmake.{UnmakeModel, unmake_new, unmake_after}
use Rattle.rht_nest.specs.Place.{PlaceModel, flat_place, nested_place, place_after}
use Rattle.rht_nest.specs.declared.place.Bucket.{Bucket}
use Rattle.rht_nest.specs.declared.place.Bucket.TheVariants.{At, Absent}
use Rattle.rht_chain.specs.Lock.{lock_new, LockModel, lock_after}
use Rattle.rht_move.specs.declared.last_entry.Entry.{Entry}
use Rattle.rht_move.specs.declared.last_table.Last.{Last as LastOne}
use Rattle.rht_move.specs.declared.last_table.LastTableAt.{LastTableAt}
use Rattle.rht_move.specs.declared.last_table.LastTableAt.TheVariants as last_tables
use Rattle.rht_move.specs.LastTable.{LastTableModel, last_table_after, last_table_after_at}
use Rattle.rht_reclaim.specs.KeepSections.{KeepSectionsModel, keep_sections_after}
use Rattle.rht_reclaim.specs.ReturnTables.{ReturnTablesModel, return_tables_after}
use Rattle.rht_move.specs.Choice.{choice_of}
use Rattle.rht_move.specs.declared.work.choice.Choice.{Choice}
use Rattle.rht_move.specs.declared.work.choice.Choice.TheVariants as choices
use Rattle.rht_move.specs.declared.work.Wanted.{Wanted}
use Rattle.rht_move.specs.declared.work.Outcome.TheVariants as outcomes
use Rattle.rht_move.specs.declared.work.Due.{Due}
use Rattle.rht_move.specs.declared.work.Due.TheVariants as dues
use Rattle.rht_move.specs.declared.rehash.Rehash.{Rehash}
use Rattle.rht_move.specs.declared.rehash.Emptying.{Emptying}
use Rattle.rht_move.specs.declared.rehash.Target.{Target}
use Rattle.rht_move.specs.LastEntry.{LastEntryModel, last_entry_after}
use Rattle.rht_move.specs.declared.work.ending.Ending.{Ending}
use Rattle.rht_move.specs.declared.work.ending.Ending.TheVariants as endings
use Rattle.rht_move.specs.declared.work.WorkAt.{WorkAt}
use Rattle.rht_move.specs.declared.work.WorkAt.TheVariants as at
use Rattle.rht_move.specs.Work.{after_at, letting_go, closed, returning, returned, kept, last_seen, begun, not_made, made, unmade, future_or_idle, bucket_of_root, next_bucket, entry_passed, locked, unlocking, entry_table_seen, with_word, entry_or_empty, walked, second_locked, cut_off, unlocked_bucket, retiring, IsMakingIn, IsWorkAtIn}
use Rattle.rht_ghost.proofs.Theory.Steps.{by_test}

-- a making goes on so, or it has made a table of which this is true: its slot and its shape
abbrev pub MakeGoes : (MakeModel → Type 0) → (ℕ → ℕ → Type 0) → MakeModel × Next (Option (ℕ × ℕ)) → Type 0
MakeGoes Makes Has (make, Go) = Makes make
MakeGoes Makes Has (make, Done None) = Unit {0}
MakeGoes Makes Has (make, Done (Some (slot, shape))) = Has slot shape

-- this is true of the shape by which it chooses, of what it makes, and of the slot and the shape of what it attaches
abbrev pub WorkMakes : (ℕ → Type 0) → (MakeModel → Type 0) → (ℕ → ℕ → Type 0) → WorkAt → Type 0
WorkMakes Last Makes Has (at.Count root last) = Last last.shape
WorkMakes Last Makes Has (at.Making wanted make) = Makes make
WorkMakes Last Makes Has (at.Attaching root last slot shape) = Has slot shape
WorkMakes Last Makes Has _ = Unit {0}

module _ (env : Env) (Last : ℕ → Type 0) (Makes : MakeModel → Type 0) (Has : ℕ → ℕ → Type 0) where
  abbrev Now : WorkAt → Type 0
  Now state = WorkMakes Last Makes Has state

  goes-last : (root : ℕ) (seek : LastTableModel) (state : LastTableAt) (word : ℕ)
      → ((slot : ℕ) → state ≡ last_tables.Shape slot → Last word)
      → let next = last_table_after_at seek state word in Now (last_seen root next.0 next.1)
  goes-last root seek (last_tables.Future slot) word seen = tt
  goes-last root seek (last_tables.Shape slot) word seen = seen slot refl

  goes-begun : (root : ℕ) (last : LastOne) (choice : Choice)
      → ((size : ℕ) → choice ≡ choices.Attach size → Makes (make_new env.geometry size env.config.seed false))
      → Now (begun env root last choice)
  goes-begun root last (choices.Attach size) chooses = chooses size refl
  goes-begun root last choices.Later chooses = tt
  goes-begun root last choices.Nothing chooses = tt

  goes-not_made : (wanted : Wanted) → Now (not_made wanted)
  goes-not_made wanted =
      by_test (λ t. Now (cond t (letting_go (outcomes.NoTable wanted.size)) (at.RootFuture wanted.root dues.Later)))
      ((wanted.root == wanted.last.table) || is_nested wanted.last.shape) (λ t. tt) (λ f. tt)

  goes-made-next : (wanted : Wanted) (next : MakeModel × Next (Option (ℕ × ℕ))) → MakeGoes Makes Has next
      → Now (made wanted next.0 next.1)
  goes-made-next wanted (make, Go) goes = goes
  goes-made-next wanted (make, Done None) goes = goes-not_made wanted
  goes-made-next wanted (make, Done (Some (slot, shape))) goes = goes

  -- in its other states there is nothing to say
  goes-unmade : (root : ℕ) (unmake : UnmakeModel) (next : Next (Unit {0})) → Now (unmade root unmake next)
  goes-unmade root unmake Go = tt
  goes-unmade root unmake (Done done) = tt

  goes-future : (root : ℕ) (due : Due) (future : Option ℕ) → Now (future_or_idle root due future)
  goes-future root due None = tt
  goes-future root due (Some future) = tt

  goes-bucket : (rehash : Rehash) (number : ℕ) → Now (bucket_of_root env.geometry rehash number)
  goes-bucket rehash number =
      by_test (λ t. Now (cond t (at.Entry rehash number (nested_place env.geometry rehash.shape number))
      (at.Locking rehash number (lock_new (flat_place env.geometry rehash.shape number)))))
      (is_nested rehash.shape) (λ t. tt) (λ f. tt)

  goes-next : (rehash : Rehash) (number : ℕ) → Now (next_bucket env.geometry rehash number)
  goes-next rehash number =
      by_test (λ t. Now (cond t (bucket_of_root env.geometry rehash (number + 1)) (at.Publishing rehash)))
      (nat_lt (number + 1) (size_of (unpacked rehash.shape))) (λ t. goes-bucket rehash (number + 1)) (λ f. tt)

  goes-passed : (rehash : Rehash) (number : ℕ) (place : PlaceModel) (next : Next Bucket)
      → Now (entry_passed env.geometry rehash number place next)
  goes-passed rehash number place Go = tt
  goes-passed rehash number place (Done (At word)) = tt
  goes-passed rehash number place (Done (Absent entry)) = goes-next rehash number

  goes-locked : (rehash : Rehash) (number : ℕ) (lock : LockModel) (next : Next ℕ)
      → Now (locked env.geometry rehash number lock next)
  goes-locked rehash number lock Go = tt
  goes-locked rehash number lock (Done word) = tt

  goes-entry_table : (emptying : Emptying) (seek : LastTableModel) (next : Next LastOne) → Now (entry_table_seen emptying seek next)
  goes-entry_table emptying seek Go = tt
  goes-entry_table emptying seek (Done last) =
      by_test (λ t. Now (cond t (unlocking emptying true) (at.Seed emptying last))) (is_nested last.shape) (λ t. tt) (λ f. tt)

  goes-first : (emptying : Emptying) (target : Target) (first : Option ℕ) → Now (entry_or_empty env.geometry emptying target first)
  goes-first emptying target None = tt
  goes-first emptying target (Some first) = tt

  goes-walked : (emptying : Emptying) (target : Target) (walk : LastEntryModel) (next : Next Entry)
      → Now (walked emptying target walk next)
  goes-walked emptying target walk Go = tt
  goes-walked emptying target walk (Done entry) = tt

  goes-second_locked : (emptying : Emptying) (entry : Entry) (table : ℕ) (lock : LockModel) (next : Next ℕ)
      → Now (second_locked emptying entry table lock next)
  goes-second_locked emptying entry table lock Go = tt
  goes-second_locked emptying entry table lock (Done word) = tt

  goes-cut : (emptying : Emptying) (before : Option ℕ) → Now (cut_off env.geometry emptying before)
  goes-cut emptying None = tt
  goes-cut emptying (Some before) = tt

  goes-unlocked : (rehash : Rehash) (number : ℕ) (stop : Bool) → Now (unlocked_bucket env.geometry rehash number stop)
  goes-unlocked rehash number true = tt
  goes-unlocked rehash number false = goes-next rehash number

  goes-retiring : (rehash : Rehash) (next : Option ℕ) → Now (retiring rehash next)
  goes-retiring rehash None = tt
  goes-retiring rehash (Some next) = tt

  goes-closed : (ending : Ending) → Now (closed ending)
  goes-closed (endings.Retiring root again) = tt
  goes-closed (endings.LettingGo outcome) = tt

  goes-returned : (returns : ReturnTablesModel) (next : Next (Unit {0})) → Now (returned returns next)
  goes-returned returns Go = tt
  goes-returned returns (Done done) = tt

  goes-kept : (keep : KeepSectionsModel) (again : Bool) (next : Next (Unit {0})) → Now (kept keep again next)
  goes-kept keep again Go = tt
  goes-kept keep again (Done done) = tt

  -- what leads there: the shape of the last table that it finds, a size that it chooses by the one that it knows, and an operation of the making
  pub record WorkLeads (LastWas : ℕ → Type 0) (MakesWas : MakeModel → Type 0) (state : WorkAt) (old : ℕ) : Type 0 where
    pub last : (root : ℕ) (seek : LastTableModel) (slot : ℕ) → state ≡ at.LastTable root seek → seek.at ≡ last_tables.Shape slot
        → Last old
    pub chooses : (root : ℕ) (last : LastOne) (size : ℕ) → LastWas last.shape
        → choice_of env old last.shape (root == last.table) ≡ choices.Attach size
        → Makes (make_new env.geometry size env.config.seed false)
    pub makes : (wanted : Wanted) (make : MakeModel) → state ≡ at.Making wanted make → IsMakingIn env wanted make → MakesWas make
        → MakeGoes Makes Has (make_after make old)

  pub work-leads : (mix : ℕ → ℕ → ℕ → ℕ) (LastWas : ℕ → Type 0) (MakesWas : MakeModel → Type 0) (HasWas : ℕ → ℕ → Type 0) (state : WorkAt)
      (old : ℕ) → IsWorkAtIn env state → WorkMakes LastWas MakesWas HasWas state → WorkLeads LastWas MakesWas state old
      → Now (after_at mix env state old).0
  work-leads mix LastWas MakesWas HasWas (at.LastTable root seek) old within now leads =
      goes-last root seek seek.at old (λ slot is. leads.last root seek slot refl is)
  work-leads mix LastWas MakesWas HasWas (at.Count root last) old within now leads =
      goes-begun root last (choice_of env old last.shape (root == last.table))
      (λ size is. leads.chooses root last size now is)
  work-leads mix LastWas MakesWas HasWas (at.Making wanted make) old within now leads =
      goes-made-next wanted (make_after make old) (leads.makes wanted make refl within now)
  work-leads mix LastWas MakesWas HasWas at.WorkLock old within now leads =
      by_test (λ t. Now (cond {A = WorkAt × Next Reply} t (returning env.geometry, Go) (at.WorkLock, Done Elsewhere)).0) (old == 0)
      (λ t. tt) (λ f. tt)
  work-leads mix LastWas MakesWas HasWas (at.Attaching root last slot shape) old within now leads =
      by_test (λ t. Now (cond t (at.RootFuture root dues.Attached) (at.Unmaking root (unmake_new env.geometry slot shape))))
      (old == 0) (λ t. tt) (λ f. tt)
  work-leads mix LastWas MakesWas HasWas (at.Unmaking root unmake) old within now leads =
      goes-unmade root (unmake_after unmake old).0 (unmake_after unmake old).1
  work-leads mix LastWas MakesWas HasWas (at.RootFuture root due) old within now leads = goes-future root due (slot_of old)
  work-leads mix LastWas MakesWas HasWas (at.RootShape root future again) old within now leads = goes-bucket _ 0
  work-leads mix LastWas MakesWas HasWas (at.Entry rehash number place) old within now leads =
      goes-passed rehash number (place_after place old).0 (place_after place old).1
  work-leads mix LastWas MakesWas HasWas (at.Locking rehash number lock) old within now leads =
      goes-locked rehash number (lock_after lock old).0 (lock_after lock old).1
  work-leads mix LastWas MakesWas HasWas (at.EntryTable emptying seek) old within now leads =
      goes-entry_table emptying (last_table_after seek old).0 (last_table_after seek old).1
  work-leads mix LastWas MakesWas HasWas (at.BucketWord emptying target) old within now leads =
      goes-first (with_word emptying (unlocked old)) target (node_of env.geometry.nodes (head_of emptying.bucket.place (unlocked old)))
  work-leads mix LastWas MakesWas HasWas (at.Walking emptying target walk) old within now leads =
      goes-walked emptying target (last_entry_after walk old).0 (last_entry_after walk old).1
  work-leads mix LastWas MakesWas HasWas (at.LockingSecond emptying entry table lock) old within now leads =
      goes-second_locked emptying entry table (lock_after lock old).0 (lock_after lock old).1
  work-leads mix LastWas MakesWas HasWas (at.CuttingOff emptying entry) old within now leads = goes-cut emptying entry.before
  work-leads mix LastWas MakesWas HasWas (at.Unlocking rehash number unlock stop) old within now leads = goes-unlocked rehash number stop
  work-leads mix LastWas MakesWas HasWas (at.NewFuture rehash) old within now leads = goes-retiring rehash (slot_of old)
  work-leads mix LastWas MakesWas HasWas (at.Closing ending) old within now leads = goes-closed ending
  work-leads mix LastWas MakesWas HasWas (at.Returning returns) old within now leads =
      goes-returned (return_tables_after returns old).0 (return_tables_after returns old).1
  work-leads mix LastWas MakesWas HasWas (at.KeepingSections keep again) old within now leads =
      goes-kept (keep_sections_after keep old).0 again (keep_sections_after keep old).1
  work-leads mix LastWas MakesWas HasWas _ old within now leads = tt
