-- How a resizing moves the last entry of a bucket that it has locked: it looks for the bucket to which the
-- entry goes, locks that too, links the entry there, and cuts it off.
use Rattle.std.proofs.Common.{◌≡◌, ℕ, true, false, List, length, slice_index, cond, Option, Some, None, refl, sym, ◌∙◌, ap, subst, inl}
use Rattle.std.proofs.lemmas.Bool.{cond_both}
use Rattle.rht_words.specs.declared.env.Env.{Env}
use Rattle.rht_words.specs.declared.op.Op.{Op}
use Rattle.rht_words.specs.declared.op.Op.TheVariants.{Load}
use Rattle.rht_words.specs.declared.geometry.Geometry.{Geometry}
use Rattle.rht_words.specs.declared.machine.Next.{Next}
use Rattle.rht_words.specs.declared.machine.Next.TheVariants.{Go, Done}
use Rattle.rht_words.specs.Links.{slot_of, node_of, head_of, unlocked}
use Rattle.rht_words.specs.Operations.{old_of, word_after}
use Rattle.rht_words.specs.Places.{Slot, ShapeWord, SeedWord, FutureWord, Node, ChainLink, place_of, words_in}
use Rattle.rht_words.proofs.Memory.{Memory}
use Rattle.rht_chain.specs.Lock.{LockModel, lock_new, lock_plan, lock_after}
use Rattle.rht_model.specs.declared.history.Call.TheVariants as calls
use Rattle.rht_model.specs.declared.history.Reply.{Reply}
use Rattle.rht_model.specs.declared.history.Reply.TheVariants as replies
use Rattle.rht_move.specs.declared.last_table.Last.{Last}
use Rattle.rht_move.specs.declared.last_table.LastTableAt.{LastTableAt}
use Rattle.rht_move.specs.declared.last_table.LastTableAt.TheVariants as seeks
use Rattle.rht_move.specs.declared.last_entry.Entry.{Entry}
use Rattle.rht_move.specs.declared.rehash.Emptying.{Emptying}
use Rattle.rht_move.specs.declared.rehash.Target.{Target}
use Rattle.rht_move.specs.declared.rehash.Second.{Second}
use Rattle.rht_move.specs.declared.work.WorkAt.{WorkAt}
use Rattle.rht_move.specs.declared.work.WorkAt.TheVariants as at
use Rattle.rht_nest.specs.Tables.{is_nested}
use Rattle.rht_move.specs.LastTable.{last_table_new, next_or_shape}
use Rattle.rht_move.specs.LastEntry.{LastEntryModel, followed}
use Rattle.rht_move.specs.Work.{plan_at, unlocking, entry_or_empty, with_word, walked, second_locked, IsWorkAtIn}
use Rattle.rht_move.specs.WorkHeld.{holds_moving, held_of_work}
use Rattle.rht_ghost.proofs.Theory.Ghosts.{Ghost}
use Rattle.rht_ghost.proofs.Theory.Wholes.{place_at-index, Whole}
use Rattle.rht_ghost.proofs.Theory.Knowns.{MakesNothing, KnownAim, NoAim, From, Beyond, KnownPlace, KnownEntry, KnownWork, InBucket, Bare, AtEntry, AtTail, Aims}
use Rattle.rht_ghost.proofs.Theory.Knowledge.{WorkMeans}
use Rattle.rht_ghost.proofs.Theory.Steps.{Holding, mem, SilentStep, Step}
use Rattle.rht_ghost.proofs.Pieces.WorkLoads.{aim_sought, first_known, next_known, from_current, aim_seen, aim_shape, aim_seed, word_seen, first_seen, next_seen, key_seen}
use Rattle.rht_ghost.proofs.Pieces.WorkSteps.{knows_work}
use Rattle.rht_ghost.proofs.Pieces.WorkStores.{second_by, SecondWorks, lock_second_step, leave_step, arrive_step, cut_step}
use Rattle.rht_move.specs.LastTable.{LastTableModel}
use Rattle.rht_move.proofs.WorkKnowledge.{known_rehash, known_place, known_entry, entry_aim, target_aim, in_bucket}
use Rattle.rht_move.proofs.WorkLeads.{moving_at, says, leads, learning, load_moving}
use Rattle.rht_move.proofs.WorkKnowledge as works
use Rattle.rht_move.proofs.WorkLeads as leading

entry_aim-next : (slot : ℕ) (next : Option ℕ) → entry_aim (next_or_shape slot next) ≡ aim_sought slot next
entry_aim-next slot None = refl
entry_aim-next slot (Some next) = refl

module _ (env : Env) (mix : ℕ → ℕ → ℕ → ℕ) (c : ℕ) (words : List ℕ) (G : Ghost)
    (all : length words ≡ words_in env.geometry) (whole : Whole env mix (mem env mix words) G) where
  abbrev M : Memory
  M = mem env mix words

  abbrev WorkKnows : WorkAt → Memory → Ghost → Type 0
  WorkKnows = works.WorkKnows env mix c

  abbrev WorkNext : WorkAt × Next Reply → Memory → Ghost → Type 0
  WorkNext = works.WorkNext env mix c

  abbrev WorkMoved : WorkAt → WorkAt × Next Reply → Type 0
  WorkMoved = works.WorkMoved env mix c words G

  abbrev WorkStep : WorkAt → Type 0
  WorkStep = works.WorkStep env mix c words G

  abbrev knowing : Holding → KnownWork → Memory → Ghost → Type 0
  knowing = leading.knowing env mix c

  -- ---- the table and the bucket to which the last entry goes

  -- the table to which the next entry goes is found, unless it is one to which nothing is moved
  table_found : (emptying : Emptying) (op : Op) (last : Last) (known : KnownAim)
      → word_after (old_of words op) op ≡ old_of words op
      → knowing (moving_at (Some emptying.bucket.place)) (in_bucket emptying known) M G
      → (is_nested last.shape ≡ false → WorkMeans env mix c M G (in_bucket emptying known)
      → WorkMeans env mix c M G (in_bucket emptying (Beyond last.table (Some last.shape) None)))
      → let next = cond (is_nested last.shape) (unlocking emptying true) (at.Seed emptying last) in
      Step env mix c calls.Work words G op (moving_at (Some emptying.bucket.place)) (held_of_work next)
      (WorkNext (next, Go))
  table_found emptying op last known same knows learns =
      let h = moving_at (Some emptying.bucket.place) in
      cond_both (is_nested last.shape) (unlocking emptying true) (at.Seed emptying last)
      (λ next. Step env mix c calls.Work words G op h (held_of_work next) (WorkNext (next, Go)))
      (λ t. load_moving all whole (Some emptying.bucket.place) (in_bucket emptying known)
      (in_bucket emptying NoAim) (unlocking emptying true) same knows
      (λ k. record { works = k.works; more = record { next = k.more.next; out = k.more.out; aim_is = tt } })
      (says (replies.Moved true) tt refl refl) refl refl)
      (λ f. load_moving all whole (Some emptying.bucket.place) (in_bucket emptying known)
      (in_bucket emptying (Beyond last.table (Some last.shape) None)) (at.Seed emptying last) same knows
      (learns f) (inl refl) refl refl)

  seek_entry : (emptying : Emptying) (state : LastTableAt)
      → let here = at.EntryTable emptying (record { geometry = env.geometry; at = state }) in
      WorkKnows here M G → WorkStep here
  seek_entry emptying (seeks.Future slot) known =
      let next = slot_of (M (Slot slot FutureWord)) in
      load_moving all whole (Some emptying.bucket.place) (in_bucket emptying (From slot))
      (in_bucket emptying (aim_sought slot next))
      (at.EntryTable emptying (record { geometry = env.geometry; at = next_or_shape slot next })) refl
      known
      (aim_seen env mix c M G whole (known_rehash emptying.rehash) (known_place emptying) slot)
      (inl refl) refl
      (ap (λ aim. knows_work MakesNothing (in_bucket emptying aim)) (entry_aim-next slot next))
  seek_entry emptying (seeks.Shape slot) known =
      table_found emptying (Load (place_of env.geometry (Slot slot ShapeWord)))
      (record { table = slot; shape = M (Slot slot ShapeWord) }) (Beyond slot None None) refl known
      (aim_shape env mix c M G whole (known_rehash emptying.rehash) (known_place emptying) slot)

  pub seeking_entry : (emptying : Emptying) (seek : LastTableModel)
      → let here = at.EntryTable emptying seek in
      IsWorkAtIn env here → WorkKnows here M G → WorkStep here
  seeking_entry emptying seek is known =
      subst (λ (g : Geometry). WorkStep (at.EntryTable emptying (record { geometry = g; at = seek.at })))
      (sym is.seek_in.geometry_same) (seek_entry emptying seek.at known)

  pub seed_loaded : (emptying : Emptying) (last : Last)
      → let here = at.Seed emptying last in
      WorkKnows here M G → WorkStep here
  seed_loaded emptying last known =
      let target : Target =
      record { table = last.table; shape = last.shape; seed = M (Slot last.table SeedWord) } in
      load_moving all whole (Some emptying.bucket.place)
      (in_bucket emptying (Beyond last.table (Some last.shape) None))
      (in_bucket emptying (target_aim target)) (at.BucketWord emptying target) refl known
      (aim_seed env mix c M G whole (known_rehash emptying.rehash) (known_place emptying) last.table
      (Some last.shape)) (inl refl) refl refl

  -- the first entry of the bucket, or none
  first_leads : (emptying : Emptying) (target : Target) (op : Op) (first : Option ℕ)
      → word_after (old_of words op) op ≡ old_of words op
      → knowing (moving_at (Some emptying.bucket.place)) (in_bucket emptying (target_aim target)) M G
      → WorkMeans env mix c M G
      (first_known (known_rehash emptying.rehash) (known_place emptying) (target_aim target) first)
      → let next = entry_or_empty env.geometry emptying target first in
      Step env mix c calls.Work words G op (moving_at (Some emptying.bucket.place)) (held_of_work next)
      (WorkNext (next, Go))
  first_leads emptying target op None same knows means =
      load_moving all whole (Some emptying.bucket.place) (in_bucket emptying (target_aim target))
      (Bare (known_rehash emptying.rehash) (known_place emptying)) (unlocking emptying false) same knows
      (λ k. means) (inl refl) refl refl
  first_leads emptying target op (Some node) same knows means =
      load_moving all whole (Some emptying.bucket.place) (in_bucket emptying (target_aim target))
      (first_known (known_rehash emptying.rehash) (known_place emptying) (target_aim target) (Some node))
      (entry_or_empty env.geometry emptying target (Some node)) same knows (λ k. means) (inl refl) refl refl

  pub bucket_word : (emptying : Emptying) (target : Target) → WorkKnows (at.BucketWord emptying target) M G
      → WorkStep (at.BucketWord emptying target)
  bucket_word emptying target known =
      let state = at.BucketWord emptying target in
      let op = plan_at env c state in
      let root = known_rehash emptying.rehash in
      let place = known_place emptying in
      let lock = known.means.work.more.next.lock in
      let there = place_at-index env mix place.place lock.bucket in
      let word : unlocked (old_of words op) ≡ emptying.bucket.word =
      ap (λ p. unlocked (slice_index words p)) (sym there)
      ∙ word_seen env mix c M G whole place.place place.word lock in
      subst (λ w. WorkMoved state (
        entry_or_empty env.geometry (with_word emptying w) target
            (node_of env.geometry.nodes (head_of emptying.bucket.place w)),
        Go,
      )) (sym word)
      (first_leads emptying target op
      (node_of env.geometry.nodes (head_of emptying.bucket.place emptying.bucket.word))
      refl known (first_seen env mix c M G whole root place (target_aim target) known.means.work))

  walk_leads : (emptying : Emptying) (target : Target) (walk : LastEntryModel) (op : Op) (next : Option ℕ)
      → word_after (old_of words op) op ≡ old_of words op
      → let entry : KnownEntry = record { node = walk.node; before = walk.before } in
      let root = known_rehash emptying.rehash in
      let place = known_place emptying in
      knowing (moving_at (Some emptying.bucket.place)) (AtEntry root place entry (target_aim target)) M G
      → WorkMeans env mix c M G (next_known root place entry (target_aim target) next)
      → let state = walked emptying target (followed walk next).0 (followed walk next).1 in
      Step env mix c calls.Work words G op (moving_at (Some emptying.bucket.place)) (held_of_work state)
      (WorkNext (state, Go))
  walk_leads emptying target walk op None same knows means =
      let entry : KnownEntry = record { node = walk.node; before = walk.before } in
      let root = known_rehash emptying.rehash in
      let place = known_place emptying in
      load_moving all whole (Some emptying.bucket.place) (AtEntry root place entry (target_aim target))
      (AtTail root place entry (target_aim target))
      (walked emptying target (followed walk None).0 (followed walk None).1)
      same knows (λ k. means) (inl refl) refl refl
  walk_leads emptying target walk op (Some node) same knows means =
      let entry : KnownEntry = record { node = walk.node; before = walk.before } in
      let root = known_rehash emptying.rehash in
      let place = known_place emptying in
      load_moving all whole (Some emptying.bucket.place) (AtEntry root place entry (target_aim target))
      (next_known root place entry (target_aim target) (Some node))
      (walked emptying target (followed walk (Some node)).0 (followed walk (Some node)).1)
      same knows (λ k. means) (inl refl) refl refl

  pub walking : (emptying : Emptying) (target : Target) (walk : LastEntryModel)
      → walk.geometry ≡ env.geometry
      → WorkKnows (at.Walking emptying target walk) M G → WorkStep (at.Walking emptying target walk)
  walking emptying target walk same known =
      go same
    where
      entry : KnownEntry
      entry = record { node = walk.node; before = walk.before }

      here : Geometry → WorkAt
      here g = at.Walking emptying target (record { geometry = g; node = walk.node; before = walk.before })

      go : walk.geometry ≡ env.geometry → WorkStep (at.Walking emptying target walk)
      go same =
          subst (λ (g : Geometry). WorkStep (here g)) (sym same)
          (walk_leads emptying target
          (record { geometry = env.geometry; node = walk.node; before = walk.before })
          (Load (place_of env.geometry (Node walk.node ChainLink)))
          (node_of env.geometry.nodes (M (Node walk.node ChainLink))) refl known
          (next_seen env mix c M G whole (known_rehash emptying.rehash) (known_place emptying) entry
          (target_aim target) known.means.work))

  -- the bucket to which the last entry goes
  pub key_loaded : (emptying : Emptying) (target : Target) (entry : Entry)
      → WorkKnows (at.Key emptying target entry) M G
      → WorkStep (at.Key emptying target entry)
  key_loaded emptying target entry known =
      let state = at.Key emptying target entry in
      let root = known_rehash emptying.rehash in
      let place = known_place emptying in
      let aim = key_seen env mix c M G whole root place
      (known_entry entry) target.table target.shape target.seed
      known.means.work in
      let next = at.LockingSecond emptying entry target.table (lock_new aim.place) in
      subst (λ p. WorkMoved state (at.LockingSecond emptying entry target.table (lock_new p), Go))
      (sym aim.there)
      (load_moving all whole (Some emptying.bucket.place)
      (AtTail root place (known_entry entry) (target_aim target))
      (Aims root place (known_entry entry) aim.place) next
      refl known (λ k. aim.knows) (inl refl) refl refl)

  second_leads : (emptying : Emptying) (entry : Entry) (table : ℕ) (lock : LockModel)
      (r : LockModel × Next ℕ)
      → let place = Some emptying.bucket.place in
      SilentStep env mix c words G (lock_plan lock) (moving_at place) (holds_moving place (second_by r))
      (SecondWorks env mix c (moving_at None) (known_rehash emptying.rehash) (known_place emptying)
      (known_entry entry) r)
      → WorkMoved (at.LockingSecond emptying entry table lock)
      (second_locked emptying entry table r.0 r.1, Go)
  second_leads emptying entry table lock (after, Go) step =
      let next = at.LockingSecond emptying entry table after in
      leads next (inl refl) refl refl refl step
  second_leads emptying entry table lock (after, Done word) step =
      let next = second_locked emptying entry table after (Done word) in
      leads next (inl refl) refl refl refl step

  pub locking_second : (emptying : Emptying) (entry : Entry) (table : ℕ) (lock : LockModel)
      → let here = at.LockingSecond emptying entry table lock in
      IsWorkAtIn env here → WorkKnows here M G → WorkStep here
  locking_second emptying entry table lock is known =
      second_leads emptying entry table lock (lock_after lock (old_of words (lock_plan lock)))
      (lock_second_step env mix c (moving_at None) words G all whole refl refl (known_rehash emptying.rehash)
      (known_place emptying) (known_entry entry) lock is.lock_in.even known)

  -- ---- the entry is moved

  pub link_entry : (emptying : Emptying) (entry : Entry) (second : Second)
      → WorkKnows (at.EntryLink emptying entry second) M G
      → WorkStep (at.EntryLink emptying entry second)
  link_entry emptying entry second known =
      let next = at.Linking emptying entry second in
      leads next (inl refl) refl refl refl
      (leave_step env mix c (moving_at None) words G all whole refl (known_rehash emptying.rehash)
      (known_place emptying)
      (known_entry entry) second.bucket.place second.bucket.word known)

  pub link_bucket : (emptying : Emptying) (entry : Entry) (second : Second)
      → WorkKnows (at.Linking emptying entry second) M G
      → WorkStep (at.Linking emptying entry second)
  link_bucket emptying entry second known =
      let next = at.CuttingOff emptying entry in
      leads next (inl refl) refl refl refl
      (arrive_step env mix c (moving_at None) words G all whole refl (known_rehash emptying.rehash)
      (known_place emptying)
      (known_entry entry) second.bucket.place second.bucket.word known)

  -- behind the cutting off the next last entry is looked for in what is left of the bucket
  cut_leads : (emptying left : Emptying) (op : Op) (word : ℕ) → left ≡ with_word emptying word
      → let place = record (known_place emptying) { word = word } in
      SilentStep env mix c words G op (moving_at (Some emptying.bucket.place))
      (moving_at (Some emptying.bucket.place))
      (knowing (moving_at (Some emptying.bucket.place))
      (InBucket (known_rehash emptying.rehash) place NoAim))
      → let next = at.EntryTable left (last_table_new env.geometry left.rehash.root) in
      Step env mix c calls.Work words G op (moving_at (Some emptying.bucket.place)) (held_of_work next)
      (WorkNext (next, Go))
  cut_leads emptying left op word is step =
      let h = moving_at (Some emptying.bucket.place) in
      let root = known_rehash emptying.rehash in
      let place : KnownPlace = record (known_place emptying) { word = word } in
      let next = at.EntryTable (with_word emptying word)
      (last_table_new env.geometry emptying.rehash.root) in
      subst (λ (e : Emptying). let next = at.EntryTable e (last_table_new env.geometry e.rehash.root) in
      Step env mix c calls.Work words G op h (held_of_work next) (WorkNext (next, Go))) (sym is)
      (leads next (inl refl) refl refl refl
      (learning (InBucket root place NoAim) (InBucket root place (From root.root))
      (λ M' G' w k. from_current env mix c M' G' w root place NoAim k) step))

  pub cutting : (emptying : Emptying) (node : ℕ) (before : Option ℕ)
      → let state = at.CuttingOff emptying (record { node = node; before = before }) in
      WorkKnows state M G → WorkStep state
  cutting emptying node None known =
      cut_leads emptying (with_word emptying 0)
      (plan_at env c (at.CuttingOff emptying (record { node = node; before = None }))) 0 refl
      (cut_step env mix c (moving_at None) words G all whole refl (known_rehash emptying.rehash)
      (known_place emptying)
      (record { node = node; before = None }) known)
  cutting emptying node (Some before) known =
      cut_leads emptying emptying
      (plan_at env c (at.CuttingOff emptying (record { node = node; before = Some before })))
      emptying.bucket.word refl
      (cut_step env mix c (moving_at None) words G all whole refl (known_rehash emptying.rehash)
      (known_place emptying)
      (record { node = node; before = Some before }) known)
