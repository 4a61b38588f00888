-- A resizing that is alone doesn't stop before a nested table, so that one which answers that it moved has made another table the
-- current one.
--
-- In each state it knows which table is the last one, or that this one is flat. Its operations find the words of tables as the one
-- before has left them, so that the last table stays the last one until it attaches one behind it, which is flat. Where it attaches
-- none it goes on only before a flat one: none is due or one has to wait, and so the last one is flat, or one is due that can't be
-- made, and it gives up before a nested one. A table that was made is always attached, since nobody else attaches one.
use Rattle.std.proofs.Common.{◌≡◌, ℕ, ◌+◌, ◌*◌, Bool, true, false, cond, nat_lt, List, [], ◌∷◌, ◌++◌, refl, sym, ap, ◌∙◌, subst}
use Rattle.std.specs.Prelude.{Option, Some, None, ◌==◌, ◌||◌, min}
use Rattle.std.proofs.lemmas.Bool.{eqb-false}
use Rattle.rht_words.specs.declared.env.Env.{Env}
use Rattle.rht_words.specs.declared.op.Op.{Op}
use Rattle.rht_words.specs.declared.geometry.Geometry.{Geometry}
use Rattle.rht_words.specs.declared.machine.Next.{Next}
use Rattle.rht_words.specs.declared.machine.Next.TheVariants.{Go, Done}
use Rattle.rht_words.specs.Links.{slot_of, node_of, head_of, unlocked}
use Rattle.rht_words.specs.Machines.{GoesOrEnds}
use Rattle.rht_words.specs.Operations.{old_of, applied}
use Rattle.rht_words.specs.Places.{WorkLock, Slot, FutureWord}
use Rattle.rht_words.specs.Shapes.{unpacked, size_of}
use Rattle.rht_policy.specs.Sizes.{shrunk_size}
use Rattle.rht_policy.specs.Thresholds.{is_above_75}
use Rattle.rht_chain.specs.Lock.{LockModel, lock_new, lock_after}
use Rattle.rht_nest.specs.Place.{PlaceModel, flat_place, nested_place, place_after}
use Rattle.rht_nest.specs.declared.place.Bucket.{Bucket}
use Rattle.rht_nest.specs.declared.place.Bucket.TheVariants.{At, Absent}
use Rattle.rht_nest.specs.Make.{MakeModel, make_after}
use Rattle.rht_nest.specs.Tables.{is_nested}
use Rattle.rht_nest.specs.Unmake.{unmake_new}
use Rattle.rht_model.specs.declared.history.Reply.{Reply}
use Rattle.rht_model.specs.declared.history.Reply.TheVariants as replies
use Rattle.rht_move.specs.declared.last_table.Last.{Last}
use Rattle.rht_move.specs.declared.last_table.LastTableAt.{LastTableAt}
use Rattle.rht_move.specs.declared.last_table.LastTableAt.TheVariants as seeks
use Rattle.rht_move.specs.declared.last_entry.Entry.{Entry}
use Rattle.rht_move.specs.declared.rehash.Rehash.{Rehash}
use Rattle.rht_move.specs.declared.rehash.Emptying.{Emptying}
use Rattle.rht_move.specs.declared.rehash.Target.{Target}
use Rattle.rht_move.specs.declared.work.choice.Choice.{Choice}
use Rattle.rht_move.specs.declared.work.choice.Choice.TheVariants.{Attach, Later, Nothing}
use Rattle.rht_move.specs.declared.work.Wanted.{Wanted}
use Rattle.rht_move.specs.declared.work.Due.{Due}
use Rattle.rht_move.specs.declared.work.Due.TheVariants as dues
use Rattle.rht_move.specs.declared.work.Outcome.{Outcome}
use Rattle.rht_move.specs.declared.work.Outcome.TheVariants as outcomes
use Rattle.rht_move.specs.declared.work.ending.Ending.TheVariants as endings
use Rattle.rht_move.specs.declared.work.WorkAt.{WorkAt}
use Rattle.rht_move.specs.declared.work.WorkAt.TheVariants as at
use Rattle.rht_move.specs.Choice.{chosen, choice_of, is_sparse}
use Rattle.rht_move.specs.LastTable.{LastTableModel, last_table_plan_at, last_table_after, next_or_shape}
use Rattle.rht_move.specs.LastEntry.{LastEntryModel, last_entry_after}
use Rattle.rht_move.specs.Work.{plan_at, after_at, lock_seen, returning, returned, kept, letting_go, last_seen, begun, made, not_made, attached, future_or_idle, bucket_of_root, next_bucket, entry_passed, locked, unlocking, entry_table_seen, with_word, entry_or_empty, walked, second_locked, cut_off, unlocked_bucket, retiring, reply_of}
use Rattle.rht_core.specs.Jobs.{works}
use Rattle.rht_core.specs.Traces.{Did}
use Rattle.rht_core.specs.Seen.{TurnsSection}
use Rattle.rht_ghost.proofs.Theory.Steps.{mem, by_test}
use Rattle.rht_ghost.proofs.Theory.Wholes.{IsAt}
use Rattle.rht_core.proofs.Tracing.TracedJobs.{hard, Performs}
use Rattle.rht_core.proofs.Reasons.AttachedTables.{IsNoFutureExchange, lock-none, make-none}
use Rattle.rht_core.proofs.Reasons.MadeSizes.{made_flat}
use Rattle.rht_core.proofs.Reasons.LastTables.{AreSame, one_shape, IsLastIn, none_last, last_shape, last_in, last_stays, finds_none, attached_last}
use Rattle.rht_core.proofs.Reasons.WorksSeen.{SawReplaced, SawAtWork}
use Rattle.rht_core.proofs.Reasons.MovesSeen.{stored-saw, turned-saw, keeping-saw, cut-none}
use Rattle.rht_reclaim.specs.ReturnTables.{ReturnTablesModel, return_tables_after}
use Rattle.rht_reclaim.specs.KeepSections.{KeepSectionsModel, keep_sections_plan_at, keep_sections_after}

-- a choice that attaches no table is one where the last table is flat
chosen-flat : (size smaller : ℕ) (full sparse alone nested : Bool) (choice : Choice)
    → chosen size smaller full sparse alone nested ≡ choice → ((due : ℕ) → choice ≡ Attach due → ⊥) → nested ≡ false
chosen-flat size smaller true sparse alone nested choice is none = absurd (none (2 * size) (sym is))
chosen-flat size smaller false true true nested choice is none = absurd (none smaller (sym is))
chosen-flat size smaller false true false true choice is none = absurd (none size (sym is))
chosen-flat size smaller false true false false choice is none = refl
chosen-flat size smaller false false alone true choice is none = absurd (none size (sym is))
chosen-flat size smaller false false alone false choice is none = refl

or-none : (a b : Bool) → (a || b) ≡ false → b ≡ false
or-none true b is = absurd (cc)
or-none false b is = is

module _ (env : Env) (c : ℕ) (words_at : ℕ → List ℕ) (mix : ℕ → ℕ → ℕ → ℕ) where
  -- ---- what it knows in a state

  -- the last table is flat
  pub record LastFlat (words : List ℕ) : Type 0 where
    pub slot : ℕ
    pub shape : ℕ
    pub last : IsLastIn env mix words slot shape
    pub flat : is_nested shape ≡ false

  -- where it has looked for the last table it has found it
  abbrev CalmSeek : LastTableAt → List ℕ → Type 0
  CalmSeek (seeks.Future slot) words = Unit {0}
  CalmSeek (seeks.Shape slot) words = (shape : ℕ) × IsLastIn env mix words slot shape

  -- it doesn't stop before it has moved
  abbrev CalmStop : Bool → List ℕ → Type 0
  CalmStop true words = ⊥
  CalmStop false words = LastFlat words

  -- where it answers that it moved it has made another table the current one
  abbrev CalmEnd : Outcome → List Did → Type 0
  CalmEnd outcome steps = (again : Bool) → outcome ≡ outcomes.Moved again → SawReplaced env c again steps

  abbrev pub CalmReply : Reply → List Did → Type 0
  CalmReply reply steps = (again : Bool) → reply ≡ replies.Moved again → SawReplaced env c again steps

  abbrev pub CalmAt : WorkAt → List Did → List ℕ → Type 0
  CalmAt at.WorkLock steps words = Unit {0}
  CalmAt (at.Returning returns) steps words = Unit {0}
  CalmAt at.Opening steps words = Unit {0}
  CalmAt at.CurrentTable steps words = Unit {0}
  CalmAt (at.LastTable root seek) steps words = CalmSeek seek.at words
  CalmAt (at.Count root last) steps words = IsLastIn env mix words last.table last.shape
  CalmAt (at.Making wanted make) steps words = IsLastIn env mix words wanted.last.table wanted.last.shape
  CalmAt (at.Attaching root last slot shape) steps words = (old : ℕ) × IsLastIn env mix words last old
  CalmAt (at.Unmaking root unmake) steps words = ⊥
  CalmAt (at.RootFuture root due) steps words = LastFlat words
  CalmAt (at.RootShape root future again) steps words = LastFlat words
  CalmAt (at.Entry rehash number place) steps words = LastFlat words
  CalmAt (at.Locking rehash number lock) steps words = LastFlat words
  CalmAt (at.EntryTable emptying seek) steps words = LastFlat words × CalmSeek seek.at words
  CalmAt (at.Seed emptying last) steps words = LastFlat words
  CalmAt (at.BucketWord emptying target) steps words = LastFlat words
  CalmAt (at.Walking emptying target walk) steps words = LastFlat words
  CalmAt (at.Key emptying target entry) steps words = LastFlat words
  CalmAt (at.LockingSecond emptying entry table lock) steps words = LastFlat words
  CalmAt (at.EntryLink emptying entry second) steps words = LastFlat words
  CalmAt (at.Linking emptying entry second) steps words = LastFlat words
  CalmAt (at.CuttingOff emptying entry) steps words = LastFlat words
  CalmAt (at.Unlocking rehash number unlock stop) steps words = CalmStop stop words
  CalmAt (at.Publishing rehash) steps words = Unit {0}
  CalmAt (at.NewFuture rehash) steps words = Unit {0}
  CalmAt (at.Closing (endings.Retiring root again)) steps words = Unit {0}
  CalmAt (at.Closing (endings.LettingGo outcome)) steps words = CalmEnd outcome steps
  CalmAt (at.Retiring root again) steps words = Unit {0}
  CalmAt (at.KeepingSections keep again) steps words = Unit {0}
  CalmAt (at.LettingGo outcome) steps words = CalmEnd outcome steps

  abbrev pub CalmNext : List Did → List ℕ → WorkAt × Next Reply → Type 0
  CalmNext all now next = GoesOrEnds (λ state. CalmAt state all now) (λ reply. CalmReply reply all) next

  -- ---- between two states in the same words

  module _ (all : List Did) (now : List ℕ) where
    calm-lock : (lock : ℕ) → CalmNext all now (lock_seen env.geometry lock)
    calm-lock lock =
        by_test (λ t. CalmNext all now (cond t (returning env.geometry, Go) (at.WorkLock, Done replies.Elsewhere))) (lock == 0)
        (λ t. tt) (λ f again is. absurd (cc))

    calm-returned : (returns : ReturnTablesModel) (next : Next (Unit {0})) → CalmAt (returned returns next) all now
    calm-returned returns Go = tt
    calm-returned returns (Done tt) = tt

    calm-begun : (root : ℕ) (last : Last) (count : ℕ) (choice : Choice)
        → choice_of env count last.shape (root == last.table) ≡ choice
        → IsLastIn env mix now last.table last.shape → CalmAt (begun env root last choice) all now
    calm-begun root last count choice is calm = go choice is
      where
        -- where none is attached the last table is flat
        flat : (choice : Choice) → choice_of env count last.shape (root == last.table) ≡ choice
            → ((due : ℕ) → choice ≡ Attach due → ⊥) → LastFlat now
        flat choice is none =
            let ports = min count 65536 in
            let size = size_of (unpacked last.shape) in
            record {
              slot = last.table;
              shape = last.shape;
              last = calm;
              flat = chosen-flat size (shrunk_size ports env.config.min) (is_above_75 ports size env.config.max)
                  (is_sparse env ports size) (root == last.table) (is_nested last.shape) choice is none;
            }

        go : (choice : Choice) → choice_of env count last.shape (root == last.table) ≡ choice
            → CalmAt (begun env root last choice) all now
        go (Attach size) is = calm
        go Later is = flat Later is (λ due e. cc)
        go Nothing is = flat Nothing is (λ due e. cc)

    -- one that can't be made it gives up before a nested table
    calm-refused : (wanted : Wanted) → IsLastIn env mix now wanted.last.table wanted.last.shape
        → CalmAt (not_made wanted) all now
    calm-refused wanted calm =
        let one = wanted.root == wanted.last.table in
        let nested = is_nested wanted.last.shape in
        by_test (λ t. CalmAt (cond t (letting_go (outcomes.NoTable wanted.size)) (at.RootFuture wanted.root dues.Later)) all now)
        (one || nested)
        (λ t again is. absurd (cc))
        (λ f. record {
          slot = wanted.last.table;
          shape = wanted.last.shape;
          last = calm;
          flat = or-none one nested f;
        })

    calm-made : (wanted : Wanted) (make : MakeModel) (next : Next (Option (ℕ × ℕ)))
        → IsLastIn env mix now wanted.last.table wanted.last.shape → CalmAt (made wanted make next) all now
    calm-made wanted make Go calm = calm
    calm-made wanted make (Done None) calm = calm-refused wanted calm
    calm-made wanted make (Done (Some table)) calm = (wanted.last.shape, calm)

    calm-future : (root : ℕ) (due : Due) (next : Option ℕ) → LastFlat now → CalmAt (future_or_idle root due next) all now
    calm-future root due None calm = λ again is. absurd (cc)
    calm-future root due (Some future) calm = calm

    calm-root : (rehash : Rehash) (number : ℕ) → LastFlat now → CalmAt (bucket_of_root env.geometry rehash number) all now
    calm-root rehash number calm =
        by_test (λ t. CalmAt (cond t (at.Entry rehash number (nested_place env.geometry rehash.shape number))
        (at.Locking rehash number (lock_new (flat_place env.geometry rehash.shape number)))) all now)
        (is_nested rehash.shape) (λ t. calm) (λ f. calm)

    calm-next : (rehash : Rehash) (number : ℕ) → LastFlat now → CalmAt (next_bucket env.geometry rehash number) all now
    calm-next rehash number calm =
        by_test (λ t. CalmAt (cond t (bucket_of_root env.geometry rehash (number + 1)) (at.Publishing rehash)) all now)
        (nat_lt (number + 1) (size_of (unpacked rehash.shape))) (λ t. calm-root rehash (number + 1) calm) (λ f. tt)

    calm-passed : (rehash : Rehash) (number : ℕ) (place : PlaceModel) (next : Next Bucket) → LastFlat now
        → CalmAt (entry_passed env.geometry rehash number place next) all now
    calm-passed rehash number place Go calm = calm
    calm-passed rehash number place (Done (At word)) calm = calm
    calm-passed rehash number place (Done (Absent entry)) calm = calm-next rehash number calm

    calm-locked : (rehash : Rehash) (number : ℕ) (lock : LockModel) (next : Next ℕ) → LastFlat now
        → CalmAt (locked env.geometry rehash number lock next) all now
    calm-locked rehash number lock Go calm = calm
    calm-locked rehash number lock (Done word) calm = (calm, tt)

    calm-entry : (emptying : Emptying) (target : Target) (first : Option ℕ) → LastFlat now
        → CalmAt (entry_or_empty env.geometry emptying target first) all now
    calm-entry emptying target None calm = calm
    calm-entry emptying target (Some first) calm = calm

    calm-walked : (emptying : Emptying) (target : Target) (walk : LastEntryModel) (next : Next Entry) → LastFlat now
        → CalmAt (walked emptying target walk next) all now
    calm-walked emptying target walk Go calm = calm
    calm-walked emptying target walk (Done entry) calm = calm

    calm-second : (emptying : Emptying) (entry : Entry) (table : ℕ) (lock : LockModel) (next : Next ℕ) → LastFlat now
        → CalmAt (second_locked emptying entry table lock next) all now
    calm-second emptying entry table lock Go calm = calm
    calm-second emptying entry table lock (Done word) calm = calm

    calm-cut : (emptying : Emptying) (before : Option ℕ) → LastFlat now → CalmAt (cut_off env.geometry emptying before) all now
    calm-cut emptying None calm = (calm, tt)
    calm-cut emptying (Some before) calm = (calm, tt)

    -- it stops before a nested table alone
    calm-sought : (emptying : Emptying) (last : Last) → is_nested last.shape ≡ false → LastFlat now
        → CalmAt (cond (is_nested last.shape) (unlocking emptying true) (at.Seed emptying last)) all now
    calm-sought emptying last flat calm =
        by_test (λ t. CalmAt (cond t (unlocking emptying true) (at.Seed emptying last)) all now) (is_nested last.shape)
        (λ t. absurd (let both = sym t ∙ flat in cc)) (λ f. calm)

    calm-unlocked : (rehash : Rehash) (number : ℕ) (stop : Bool) → CalmStop stop now
        → CalmAt (unlocked_bucket env.geometry rehash number stop) all now
    calm-unlocked rehash number true calm = absurd calm
    calm-unlocked rehash number false calm = calm-next rehash number calm

    calm-retiring : (rehash : Rehash) (next : Option ℕ) → CalmAt (retiring rehash next) all now
    calm-retiring rehash None = tt
    calm-retiring rehash (Some next) = tt

    -- once the section words are kept it has moved
    calm-kept : (keep : KeepSectionsModel) (again : Bool) (next : Next (Unit {0})) → SawReplaced env c again all
        → CalmAt (kept keep again next) all now
    calm-kept keep again Go saw = tt
    calm-kept keep again (Done tt) saw = λ answered is.
        let same : again ≡ answered = cc in
        subst (λ a. SawReplaced env c a all) same saw

  -- ---- an operation

  module _ (state : WorkAt) (did : Did) (does : Performs mix env (works state) did) (now : List ℕ)
      (still : AreSame env (applied does.words did.op) now) where
    -- one that exchanges no future leaves the last table
    leaves : (slot shape : ℕ) → IsNoFutureExchange env.geometry (plan_at env does.caller state) → IsLastIn env mix does.words slot shape
        → IsLastIn env mix now slot shape
    leaves slot shape none last =
        last_stays env mix (works state) did does now still slot shape
        (subst (IsNoFutureExchange env.geometry) (sym (hard mix env refl does)) none) last

    leaves-flat : IsNoFutureExchange env.geometry (plan_at env does.caller state) → LastFlat does.words → LastFlat now
    leaves-flat none calm = record {
      slot = calm.slot;
      shape = calm.shape;
      last = leaves calm.slot calm.shape none calm.last;
      flat = calm.flat;
    }

  -- what a load of a table's words finds
  found-word : (state : WorkAt) (did : Did) (does : Performs mix env (works state) did) (op : Op) → plan_at env does.caller state ≡ op
      → did.old ≡ old_of does.words op
  found-word state did does op is = does.found ∙ ap (old_of does.words) (hard mix env refl does ∙ is)

  -- a table that is there and has no future is the last one
  ends-here : (job : WorkAt) (did : Did) (does : Performs mix env (works job) did) (slot : ℕ)
      → IsAt does.ghost slot → slot_of (mem env mix does.words (Slot slot FutureWord)) ≡ None
      → (shape : ℕ) × IsLastIn env mix does.words slot shape
  ends-here job did does slot at none =
      let G = does.ghost in
      let τ = at.table in
      let last = none_last env mix (mem env mix does.words) G does.whole τ at.on at.attached
      (ap (λ s. slot_of (mem env mix does.words (Slot s FutureWord))) at.slot_is ∙ none) in (
        (G.table τ).shape,
        last_in env mix does.words G does.whole slot (G.table τ).shape
            (record { table = τ; last = last; slot_is = at.slot_is; shape_is = refl }),
      )

  -- the search for the last table
  calm-seek : (state : WorkAt) (did : Did) (does : Performs mix env (works state) did) (now : List ℕ)
      → AreSame env (applied does.words did.op) now → (slot : ℕ) (next : Option ℕ)
      → plan_at env does.caller state ≡ last_table_plan_at env.geometry (seeks.Future slot) → IsAt does.ghost slot
      → slot_of did.old ≡ next → CalmSeek (next_or_shape slot next) now
  calm-seek state did does now still slot None plan has finds =
      let found = found-word state did does (last_table_plan_at env.geometry (seeks.Future slot)) plan in
      let here = ends-here state did does slot has (ap slot_of (sym found) ∙ finds) in (
        here.0,
        leaves state did does now still slot here.0
            (subst (IsNoFutureExchange env.geometry) (sym plan) (λ table old new l e. cc)) here.1,
      )
  calm-seek state did does now still slot (Some next) plan has finds = tt

  -- what it loads of the last table's shape is that
  shape-found : (state : WorkAt) (did : Did) (does : Performs mix env (works state) did) (slot shape : ℕ)
      → plan_at env does.caller state ≡ last_table_plan_at env.geometry (seeks.Shape slot) → IsLastIn env mix does.words slot shape
      → did.old ≡ shape
  shape-found state did does slot shape plan last =
      found-word state did does (last_table_plan_at env.geometry (seeks.Shape slot)) plan
      ∙ last_shape env mix (mem env mix does.words) does.ghost does.whole slot shape (last does.ghost does.whole)

  calm-last : (root : ℕ) (h : Geometry) (state : LastTableAt) (did : Did)
      → let seek : LastTableModel = record { geometry = h; at = state } in
      (does : Performs mix env (works (at.LastTable root seek)) did) (all : List Did) (now : List ℕ)
      → AreSame env (applied does.words did.op) now → CalmSeek state does.words
      → let next = last_table_after seek did.old in CalmAt (last_seen root next.0 next.1) all now
  calm-last root h (seeks.Future slot) did does all now still calm =
      calm-seek (at.LastTable root (record { geometry = h; at = seeks.Future slot })) did does now still slot (slot_of did.old)
      (ap (λ (g : Geometry). last_table_plan_at g (seeks.Future slot)) does.within.seek_in.geometry_same)
      does.knows.knowing.means.work.more.aim_is.at refl
  calm-last root h (seeks.Shape slot) did does all now still calm =
      let state = at.LastTable root (record { geometry = h; at = seeks.Shape slot }) in
      let plan = ap (λ (g : Geometry). last_table_plan_at g (seeks.Shape slot)) does.within.seek_in.geometry_same in
      subst (IsLastIn env mix now slot) (sym (shape-found state did does slot calm.0 plan calm.1))
      (leaves state did does now still slot calm.0 (subst (IsNoFutureExchange env.geometry) (sym plan) (λ table old new l e. cc)) calm.1)

  calm-table : (emptying : Emptying) (h : Geometry) (state : LastTableAt) (did : Did)
      → let seek : LastTableModel = record { geometry = h; at = state } in
      (does : Performs mix env (works (at.EntryTable emptying seek)) did) (all : List Did) (now : List ℕ)
      → AreSame env (applied does.words did.op) now → LastFlat does.words → CalmSeek state does.words
      → let next = last_table_after seek did.old in CalmAt (entry_table_seen emptying next.0 next.1) all now
  calm-table emptying h (seeks.Future slot) did does all now still flat calm =
      let state = at.EntryTable emptying (record { geometry = h; at = seeks.Future slot }) in
      let plan = ap (λ (g : Geometry). last_table_plan_at g (seeks.Future slot)) does.within.seek_in.geometry_same in (
        leaves-flat state did does now still (subst (IsNoFutureExchange env.geometry) (sym plan) (λ table old new l e. cc)) flat,
        calm-seek state did does now still slot (slot_of did.old) plan does.knows.knowing.means.work.more.aim_is.at refl,
      )
  calm-table emptying h (seeks.Shape slot) did does all now still flat calm =
      let state = at.EntryTable emptying (record { geometry = h; at = seeks.Shape slot }) in
      let plan = ap (λ (g : Geometry). last_table_plan_at g (seeks.Shape slot)) does.within.seek_in.geometry_same in
      let found = shape-found state did does slot calm.0 plan calm.1 in
      let one = one_shape does.ghost slot flat.slot calm.0 flat.shape (calm.1 does.ghost does.whole)
      (flat.last does.ghost does.whole) in
      calm-sought all now emptying (record { table = slot; shape = did.old }) (ap is_nested (found ∙ one) ∙ flat.flat)
      (leaves-flat state did does now still (subst (IsNoFutureExchange env.geometry) (sym plan) (λ table old new l e. cc)) flat)

  -- the table that it has made is attached, and is flat
  calm-attached : (root last slot shape : ℕ) (did : Did) (does : Performs mix env (works (at.Attaching root last slot shape)) did)
      (all : List Did) (now : List ℕ) → AreSame env (applied does.words did.op) now → (old : ℕ)
      → IsLastIn env mix does.words last old → CalmAt (attached env.geometry root slot shape did.old) all now
  calm-attached root last slot shape did does all now still old was =
      by_test
      (λ t. CalmAt (cond t (at.RootFuture root dues.Attached) (at.Unmaking root (unmake_new env.geometry slot shape))) all now)
      (did.old == 0)
      (λ t.
      let made = does.within.made_in in
      record {
        slot = slot;
        shape = shape;
        last = attached_last env mix root last slot shape did does now still old was;
        flat = ap is_nested made.shape_is ∙ made_flat does.within.exponent made.page made.nested does.within.greatest made.kind;
      })
      (λ f. eqb-false did.old 0 f (finds_none env mix root last slot shape did does now still old was))

  -- an operation of a resizing that is alone, behind which it knows what its next state says
  pub calm-work : (state : WorkAt) (steps : List Did) (did : Did) (does : Performs mix env (works state) did) → does.caller ≡ c → (now : List ℕ)
      → AreSame env (applied does.words did.op) now → SawAtWork env c words_at state steps → CalmAt state steps does.words
      → CalmNext (steps ++ did ∷ []) now (after_at mix env state did.old)
  calm-work at.WorkLock steps did does own now still saw calm = calm-lock (steps ++ did ∷ []) now did.old
  calm-work (at.Returning returns) steps did does own now still saw calm =
      calm-returned (steps ++ did ∷ []) now (return_tables_after returns did.old).0 (return_tables_after returns did.old).1
  calm-work at.Opening steps did does own now still saw calm = tt
  calm-work at.CurrentTable steps did does own now still saw calm = tt
  calm-work (at.LastTable root seek) steps did does own now still saw calm =
      calm-last root seek.geometry seek.at did does (steps ++ did ∷ []) now still calm
  calm-work (at.Count root last) steps did does own now still saw calm =
      calm-begun (steps ++ did ∷ []) now root last did.old (choice_of env did.old last.shape (root == last.table)) refl
      (leaves (at.Count root last) did does now still last.table last.shape (λ table old new l e. cc) calm)
  calm-work (at.Making wanted make) steps did does own now still saw calm =
      calm-made (steps ++ did ∷ []) now wanted (make_after make did.old).0 (make_after make did.old).1
      (leaves (at.Making wanted make) did does now still wanted.last.table wanted.last.shape
      (make-none env.geometry make.geometry make.exponent make.seed make.at) calm)
  calm-work (at.Attaching root last slot shape) steps did does own now still saw calm =
      calm-attached root last slot shape did does (steps ++ did ∷ []) now still calm.0 calm.1
  calm-work (at.Unmaking root unmake) steps did does own now still saw calm = absurd calm
  calm-work (at.RootFuture root due) steps did does own now still saw calm =
      calm-future (steps ++ did ∷ []) now root due (slot_of did.old)
      (leaves-flat (at.RootFuture root due) did does now still (λ table old new l e. cc) calm)
  calm-work (at.RootShape root future again) steps did does own now still saw calm =
      calm-root (steps ++ did ∷ []) now (record { root = root; future = future; shape = did.old; again = again }) 0
      (leaves-flat (at.RootShape root future again) did does now still (λ table old new l e. cc) calm)
  calm-work (at.Entry rehash number place) steps did does own now still saw calm =
      calm-passed (steps ++ did ∷ []) now rehash number (place_after place did.old).0 (place_after place did.old).1
      (leaves-flat (at.Entry rehash number place) did does now still (λ table old new l e. cc) calm)
  calm-work (at.Locking rehash number lock) steps did does own now still saw calm =
      calm-locked (steps ++ did ∷ []) now rehash number (lock_after lock did.old).0 (lock_after lock did.old).1
      (leaves-flat (at.Locking rehash number lock) did does now still
      (lock-none env.geometry lock.place lock.at does.within.lock_in.place_in) calm)
  calm-work (at.EntryTable emptying seek) steps did does own now still saw calm =
      calm-table emptying seek.geometry seek.at did does (steps ++ did ∷ []) now still calm.0 calm.1
  calm-work (at.Seed emptying last) steps did does own now still saw calm =
      leaves-flat (at.Seed emptying last) did does now still (λ table old new l e. cc) calm
  calm-work (at.BucketWord emptying target) steps did does own now still saw calm =
      calm-entry (steps ++ did ∷ []) now (with_word emptying (unlocked did.old)) target
      (node_of env.geometry.nodes (head_of emptying.bucket.place (unlocked did.old)))
      (leaves-flat (at.BucketWord emptying target) did does now still (λ table old new l e. cc) calm)
  calm-work (at.Walking emptying target walk) steps did does own now still saw calm =
      calm-walked (steps ++ did ∷ []) now emptying target (last_entry_after walk did.old).0 (last_entry_after walk did.old).1
      (leaves-flat (at.Walking emptying target walk) did does now still (λ table old new l e. cc) calm)
  calm-work (at.Key emptying target entry) steps did does own now still saw calm =
      leaves-flat (at.Key emptying target entry) did does now still (λ table old new l e. cc) calm
  calm-work (at.LockingSecond emptying entry table lock) steps did does own now still saw calm =
      calm-second (steps ++ did ∷ []) now emptying entry table (lock_after lock did.old).0 (lock_after lock did.old).1
      (leaves-flat (at.LockingSecond emptying entry table lock) did does now still
      (lock-none env.geometry lock.place lock.at does.within.lock_in.place_in) calm)
  calm-work (at.EntryLink emptying entry second) steps did does own now still saw calm =
      leaves-flat (at.EntryLink emptying entry second) did does now still (λ table old new l e. cc) calm
  calm-work (at.Linking emptying entry second) steps did does own now still saw calm =
      leaves-flat (at.Linking emptying entry second) did does now still (λ table old new l e. cc) calm
  calm-work (at.CuttingOff emptying entry) steps did does own now still saw calm =
      calm-cut (steps ++ did ∷ []) now emptying entry.before
      (leaves-flat (at.CuttingOff emptying entry) did does now still (cut-none env emptying.bucket.place entry.before) calm)
  calm-work (at.Unlocking rehash number unlock true) steps did does own now still saw calm = absurd calm
  calm-work (at.Unlocking rehash number unlock false) steps did does own now still saw calm =
      calm-next (steps ++ did ∷ []) now rehash number
      (leaves-flat (at.Unlocking rehash number unlock false) did does now still (λ table old new l e. cc) calm)
  calm-work (at.Publishing rehash) steps did does own now still saw calm = tt
  calm-work (at.NewFuture rehash) steps did does own now still saw calm =
      calm-retiring (steps ++ did ∷ []) now rehash (slot_of did.old)
  calm-work (at.Closing (endings.Retiring root again)) steps did does own now still saw calm = tt
  calm-work (at.Closing (endings.LettingGo outcome)) steps did does own now still saw calm = λ again is.
      turned-saw env c again steps did (subst (λ k. TurnsSection env.geometry k did) own (hard mix env refl does)) (calm again is)
  calm-work (at.Retiring root again) steps did does own now still saw calm = tt
  calm-work (at.KeepingSections keep again) steps did does own now still saw calm =
      calm-kept (steps ++ did ∷ []) now (keep_sections_after keep did.old).0 again (keep_sections_after keep did.old).1
      (keeping-saw env c again keep.slot keep.at steps did does.within.slot_in does.within.at_in
      ((hard mix env refl does) ∙ ap (λ (h : Geometry). keep_sections_plan_at h keep.slot keep.at) does.within.geometry_same) saw.0)
  calm-work (at.LettingGo outcome) steps did does own now still saw calm = λ again is.
      let moved : outcome ≡ outcomes.Moved again = moved-outcome outcome again is in
      stored-saw env c again WorkLock 0 steps did tt (λ e. cc) (hard mix env refl does) (calm again moved)
    where
      moved-outcome : (outcome : Outcome) (again : Bool) → reply_of outcome ≡ replies.Moved again → outcome ≡ outcomes.Moved again
      moved-outcome outcomes.Idle again is = absurd (cc)
      moved-outcome (outcomes.NoTable size) again is = absurd (cc)
      moved-outcome (outcomes.Moved other) again is = let same : other ≡ again = cc in ap outcomes.Moved same
