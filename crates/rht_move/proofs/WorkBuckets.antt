-- How a resizing comes to the next bucket of the current table, and locks it.
use Rattle.std.proofs.Common.{◌≡◌, ℕ, ◌+◌, ◌<◌, Bool, List, length, nat_lt, Option, Some, None, refl, sym, ap, subst, inl, arith}
use Rattle.std.proofs.lemmas.Bool.{cond_both, ltb-true, ltb-false}
use Rattle.rht_words.specs.declared.env.Env.{Env}
use Rattle.rht_words.specs.declared.op.Op.{Op}
use Rattle.rht_words.specs.declared.op.Op.TheVariants.{Load}
use Rattle.rht_words.specs.declared.geometry.Geometry.{Geometry}
use Rattle.rht_words.specs.declared.machine.Next.{Next}
use Rattle.rht_words.specs.declared.machine.Next.TheVariants.{Go, Done}
use Rattle.rht_words.specs.declared.machine.Start.{Start}
use Rattle.rht_words.specs.declared.machine.Start.TheVariants as starts
use Rattle.rht_words.specs.Links.{slot_of, page_of}
use Rattle.rht_words.specs.Shapes.{unpacked, size_of}
use Rattle.rht_words.specs.Operations.{old_of}
use Rattle.rht_words.specs.Places.{Slot, ShapeWord, FutureWord, PageWord, place_of, words_in}
use Rattle.rht_words.proofs.Memory.{Memory}
use Rattle.rht_words.proofs.ShapeSizes.{IsSizeUpTo-size_of}
use Rattle.rht_chain.specs.Lock.{LockModel, lock_new, lock_plan, lock_after}
use Rattle.rht_nest.specs.Place.{PlaceModel, flat_place, nested_place, place_plan, entered, went_behind, entry_seen}
use Rattle.rht_model.specs.declared.history.Call.TheVariants as calls
use Rattle.rht_model.specs.declared.history.Reply.{Reply}
use Rattle.rht_model.specs.declared.history.Reply.TheVariants as replies
use Rattle.rht_model.specs.Multimap.{Multimap}
use Rattle.rht_move.specs.declared.rehash.Rehash.{Rehash}
use Rattle.rht_move.specs.declared.rehash.Emptying.{Emptying}
use Rattle.rht_move.specs.declared.work.Due.{Due}
use Rattle.rht_move.specs.declared.work.Outcome.TheVariants.{Idle}
use Rattle.rht_move.specs.declared.work.WorkAt.{WorkAt}
use Rattle.rht_move.specs.declared.work.WorkAt.TheVariants as at
use Rattle.rht_nest.specs.Tables.{is_nested}
use Rattle.rht_move.specs.LastTable.{last_table_new}
use Rattle.rht_move.specs.Work.{plan_at, letting_go, future_or_idle, is_later, entry_passed, locked, next_bucket, bucket_of_root, IsWorkAtIn}
use Rattle.rht_move.specs.WorkHeld.{holds_work, held_of_work}
use Rattle.rht_ghost.proofs.Theory.Ghosts.{Ghost}
use Rattle.rht_ghost.proofs.Theory.Wholes.{Whole}
use Rattle.rht_ghost.proofs.Theory.Knowns.{MakesNothing, NoAim, From, KnownWork, Works, Rooted, Follows, Empties, Nears, Faces}
use Rattle.rht_ghost.proofs.Theory.Answering.{Tells}
use Rattle.rht_ghost.proofs.Theory.Steps.{Holding, mem, owners, SilentStep, Step}
use Rattle.rht_ghost.proofs.Pieces.WorkLoads.{future_seen, shape_seen, faces_seen, nears_seen, led_by, passed_by, nears_on, faces_behind, from_current}
use Rattle.rht_ghost.proofs.Pieces.WorkSteps.{locked_by, LockWorks, work_loads, lock_work_step}
use Rattle.rht_ghost.proofs.Pieces.WorkStores.{begin_moving_step}
use Rattle.rht_move.proofs.WorkKnowledge.{known_rehash, known_place, in_bucket, due_aim}
use Rattle.rht_move.proofs.WorkLeads.{moving_at, says, leads, learning, load_early, load_moving}
use Rattle.rht_move.proofs.WorkKnowledge as works
use Rattle.rht_move.proofs.WorkLeads as leading

module _ (env : Env) (mix : ℕ → ℕ → ℕ → ℕ) (c : ℕ) (words : List ℕ) (G : Ghost)
    (all : length words ≡ words_in env.geometry) (whole : Whole env mix (mem env mix words) G) where
  abbrev M : Memory
  M = mem env mix words

  -- the owners of each port now
  abbrev now : Multimap
  now = owners env mix M G

  abbrev WorkKnows : WorkAt → Memory → Ghost → Type 0
  WorkKnows = works.WorkKnows env mix c

  abbrev WorkNext : WorkAt × Next Reply → Memory → Ghost → Type 0
  WorkNext = works.WorkNext env mix c

  abbrev WorkMoved : WorkAt → WorkAt × Next Reply → Type 0
  WorkMoved = works.WorkMoved env mix c words G

  abbrev WorkStep : WorkAt → Type 0
  WorkStep = works.WorkStep env mix c words G

  abbrev knowing : Holding → KnownWork → Memory → Ghost → Type 0
  knowing = leading.knowing env mix c

  -- ---- the table behind, to which the current one moves

  pub root_future : (root : ℕ) (due : Due) (next : Option ℕ) → slot_of (M (Slot root FutureWord)) ≡ next
      → WorkKnows (at.RootFuture root due) M G
      → WorkMoved (at.RootFuture root due) (future_or_idle root due next, Go)
  root_future root due None is known =
      let op = plan_at env c (at.RootFuture root due) in
      leads (letting_go Idle) (says replies.Idle tt refl refl) refl refl refl
      (work_loads env mix c holds_work words G all whole None MakesNothing op
      (Rooted root (due_aim due)) Works refl known
      (λ k. record { works = k.works; more = tt }))
  root_future root due (Some next) is known =
      load_early all whole (Rooted root (due_aim due)) (Follows root next)
      (at.RootShape root next (is_later due)) refl known
      (λ k. future_seen env mix c M G whole root next (due_aim due) k is) refl refl

  -- ---- the next bucket

  -- the next bucket of the current table is faced, or neared at the first entry on the way to it
  bucket_leads : (rehash : Rehash) (number : ℕ) (op : Op) (h : Holding)
      → Tells env.config.kind c calls.Work h.node now h.answer None → None ≡ h.node
      → number < size_of (unpacked rehash.shape)
      → SilentStep env mix c words G op h (moving_at None)
      (knowing (moving_at None) (Empties (known_rehash rehash) number))
      → let next = bucket_of_root env.geometry rehash number in
      Step env mix c calls.Work words G op h (held_of_work next) (WorkNext (next, Go))
  bucket_leads rehash number op h tells same l step =
      let root = known_rehash rehash in
      cond_both (is_nested rehash.shape) _ _
      (λ next. Step env mix c calls.Work words G op h (held_of_work next) (WorkNext (next, Go)))
      (λ t.
      let next = at.Entry rehash number (nested_place env.geometry rehash.shape number) in
      leads next tells same refl refl
      (learning (Empties root number) (Nears root number (nested_place env.geometry rehash.shape number))
      (λ M' G' w k. nears_seen env mix c M' G' w root number t l k) step))
      (λ f.
      let place = flat_place env.geometry rehash.shape number in
      let next = at.Locking rehash number (lock_new place) in
      leads next tells same refl refl
      (learning (Empties root number) (Faces root number place)
      (λ M' G' w k. faces_seen env mix c M' G' w root number f l k) step))

  -- and behind the last one the table is empty
  pub next_leads : (rehash : Rehash) (number : ℕ) (op : Op) (h : Holding)
      → Tells env.config.kind c calls.Work h.node now h.answer None → None ≡ h.node
      → number < size_of (unpacked rehash.shape)
      → SilentStep env mix c words G op h (moving_at None)
      (knowing (moving_at None) (Empties (known_rehash rehash) (number + 1)))
      → let next = next_bucket env.geometry rehash number in
      Step env mix c calls.Work words G op h (held_of_work next) (WorkNext (next, Go))
  next_leads rehash number op h tells same below step =
      let size = size_of (unpacked rehash.shape) in
      let root = known_rehash rehash in
      cond_both (nat_lt (number + 1) size) _ _
      (λ next. Step env mix c calls.Work words G op h (held_of_work next) (WorkNext (next, Go)))
      (λ t. bucket_leads rehash (number + 1) op h tells same (ltb-true (number + 1) size t) step)
      (λ f.
      let next = at.Publishing rehash in
      let last : number + 1 ≡ size =
      (let above = ltb-false (number + 1) size f in omega (arith, above, below)) in
      leads next tells same refl refl
      (subst (λ n. SilentStep env mix c words G op h (moving_at None)
      (knowing (moving_at None) (Empties root n))) last step))

  pub root_shape : (root future : ℕ) (again : Bool) → WorkKnows (at.RootShape root future again) M G
      → WorkStep (at.RootShape root future again)
  root_shape root future again known =
      let state = at.RootShape root future again in
      let shape = M (Slot root ShapeWord) in
      let rehash : Rehash = record { root = root; future = future; shape = shape; again = again } in
      let least = (IsSizeUpTo-size_of (unpacked shape)).least in
      bucket_leads rehash 0 (plan_at env c state) holds_work (inl refl) refl (omega (arith, least))
      (begin_moving_step env mix c holds_work words G all whole (plan_at env c state)
      (Follows root future)
      (Empties (known_rehash rehash) 0) refl known.means.work.works.0 known
      (shape_seen env mix c M G whole root future))

  -- an entry on the way to the next bucket leads to the next one, or to the bucket; or that is missing, and
  -- so is empty
  entry_behind : (rehash : Rehash) (number : ℕ) (place : PlaceModel) (page : ℕ)
      → place.geometry ≡ env.geometry
      → WorkKnows (at.Entry rehash number place) M G → led_by env mix c M G whole place ≡ Some page
      → (start : Start PlaceModel ℕ) → entered place page ≡ start
      → let next = went_behind place start in
      WorkMoved (at.Entry rehash number place) (entry_passed env.geometry rehash number next.0 next.1, Go)
  entry_behind rehash number place page same known led (starts.Running next) e =
      let root = known_rehash rehash in
      load_moving all whole None (Nears root number place) (Nears root number next)
      (at.Entry rehash number next)
      refl known (nears_on env mix c M G whole root number place next page led e) (inl refl) refl refl
  entry_behind rehash number place page same known led (starts.Done there) e =
      let root = known_rehash rehash in
      load_moving all whole None (Nears root number place) (Faces root number there)
      (at.Locking rehash number (lock_new there)) refl known
      (faces_behind env mix c M G whole root number place page there same led e) (inl refl) refl refl

  entry_leads : (rehash : Rehash) (number : ℕ) (place : PlaceModel) → place.geometry ≡ env.geometry
      → number < size_of (unpacked rehash.shape) → WorkKnows (at.Entry rehash number place) M G
      → (entry : Option ℕ) → led_by env mix c M G whole place ≡ entry
      → let next = entry_seen place entry in
      WorkMoved (at.Entry rehash number place) (entry_passed env.geometry rehash number next.0 next.1, Go)
  entry_leads rehash number place same below known None led =
      let root = known_rehash rehash in
      next_leads rehash number (place_plan place) (moving_at None) (inl refl) refl below
      (work_loads env mix c (moving_at None) words G all whole None MakesNothing (place_plan place)
      (Nears root number place) (Empties root (number + 1)) refl known
      (passed_by env mix c M G whole root number place same led))
  entry_leads rehash number place same below known (Some page) led =
      entry_behind rehash number place page same known led (entered place page) refl

  pub entry_loaded : (rehash : Rehash) (number : ℕ) (place : PlaceModel)
      → IsWorkAtIn env (at.Entry rehash number place)
      → WorkKnows (at.Entry rehash number place) M G → WorkStep (at.Entry rehash number place)
  entry_loaded rehash number place is known =
      let same = is.place_in.geometry_same in
      let word = old_of words (place_plan place) in
      let led : page_of place.geometry.pages word ≡ led_by env mix c M G whole place =
      ap (λ (g : Geometry). page_of g.pages (old_of words (Load (place_of g (PageWord place.entry)))))
      same in
      subst (λ entry. let next = entry_seen place entry in
      WorkMoved (at.Entry rehash number place) (entry_passed env.geometry rehash number next.0 next.1, Go))
      (sym led)
      (entry_leads rehash number place same is.bucket_in.number_in known
      (led_by env mix c M G whole place) refl)

  -- a bucket is locked
  locked_leads : (rehash : Rehash) (number : ℕ) (lock : LockModel) (r : LockModel × Next ℕ)
      → SilentStep env mix c words G (lock_plan lock) (moving_at None) (moving_at (locked_by r))
      (LockWorks env mix c (moving_at None) (known_rehash rehash) number r)
      → WorkMoved (at.Locking rehash number lock) (locked env.geometry rehash number r.0 r.1, Go)
  locked_leads rehash number lock (after, Go) step =
      leads (at.Locking rehash number after) (inl refl) refl refl refl step
  locked_leads rehash number lock (after, Done word) step =
      let emptying : Emptying =
      record { rehash = rehash; number = number; bucket = record { place = after.place; word = word } } in
      let next = at.EntryTable emptying (last_table_new env.geometry rehash.root) in
      leads next (inl refl) refl refl refl
      (learning (in_bucket emptying NoAim) (in_bucket emptying (From rehash.root))
      (λ M' G' w k. from_current env mix c M' G' w (known_rehash rehash) (known_place emptying) NoAim k)
      step)

  pub locking : (rehash : Rehash) (number : ℕ) (lock : LockModel)
      → let here = at.Locking rehash number lock in
      IsWorkAtIn env here → WorkKnows here M G → WorkStep here
  locking rehash number lock is known =
      locked_leads rehash number lock (lock_after lock (old_of words (lock_plan lock)))
      (lock_work_step env mix c (moving_at None) words G all whole refl
      (known_rehash rehash) number lock is.lock_in.even known)
