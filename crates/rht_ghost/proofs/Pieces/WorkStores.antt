-- The operations by which the work changes what others see, as steps: the work lock is taken and given back, the bucket to which an entry
-- goes is locked, the entry is silent there, the work stops at a bucket, and the current table is left behind, and is then being
-- retired.
use Rattle.std.proofs.Common.{◌≡◌, ◌≢◌, ◌⊎◌, ℕ, ◌+◌, ◌*◌, ◌%◌, ◌<◌, ◌==◌, List, [], length, slice_index, Option, Some, None, Bool, true, false, cond, refl, sym, ◌∙◌, ap, subst, inl, inr, arith}
use Rattle.std.proofs.lemmas.Bool.{eqb-true, eq-eqb, ne_eqb}
use Rattle.rht_words.specs.declared.env.Env.{Env}
use Rattle.rht_words.specs.declared.op.Op.{Op}
use Rattle.rht_words.specs.declared.op.Op.TheVariants.{Load, Store, Exchange}
use Rattle.rht_words.specs.declared.machine.Next.{Next}
use Rattle.rht_words.specs.declared.machine.Next.TheVariants.{Go, Done}
use Rattle.rht_words.specs.Links.{link_of, head_of}
use Rattle.rht_words.specs.Shapes.{unpacked, size_of}
use Rattle.rht_words.specs.Members.{In}
use Rattle.rht_words.specs.Operations.{old_of, word_after, applied}
use Rattle.rht_words.specs.Places.{CurrentTable, WorkLock, Slot, StateWord, Node, ChainLink, PageWord, place_of, words_in}
use Rattle.rht_words.proofs.Memory.{Memory, IsWrite, is_write}
use Rattle.rht_words.proofs.Members.{in-middle}
use Rattle.rht_chain.specs.Lock.{LockModel, lock_plan, lock_after, IsEven}
use Rattle.rht_chain.specs.declared.lock.LockAt.{LockAt}
use Rattle.rht_chain.specs.declared.lock.LockAt.TheVariants as locks
use Rattle.rht_ghost.proofs.Theory.Ghosts.{Retiring, has_table, none-some, put-all, IsSince, Ghost, index_at, lock_bit, held_by, with_holder}
use Rattle.rht_ghost.proofs.Theory.Wholes.{place_at, word_index, place_at-index, index-within, Whole, slot-there}
use Rattle.rht_ghost.proofs.Theory.Knowns.{MakesNothing, KnownAim, NoAim, KnownRehash, KnownPlace, KnownEntry, KnownWork, NoWork, Works, Empties, LeavesBehind, HasKept, InBucket, Aims, Brings, TakesOut, HasBrought}
use Rattle.rht_ghost.proofs.Theory.Knowledge.{Only, ReadsFrom, since-current, WorkMeans, Knowing}
use Rattle.rht_ghost.proofs.Theory.Frames.{still}
use Rattle.rht_ghost.proofs.Theory.Departures.{cut_plain}
use Rattle.rht_ghost.proofs.Theory.Steps.{bare, DropsLock, TakesWork, GivesWork, BeginsMoving, TakesSecond, Leaves, Arrives, CutsOff, Publishes, Retires, cut_place, by_test, unchanged, Holding, mem, SilentStep, silent, loads}
use Rattle.rht_ghost.proofs.Moves.Relinking.{last_in, relink_address}
use Rattle.rht_ghost.proofs.Moves.WorkLocks.{take_work}
use Rattle.rht_ghost.proofs.Moves.CutOffs.{cut_value}
use Rattle.rht_ghost.proofs.Moves.Working.{can_leave, can_arrive, can_cut, can_publish, can_retire, take_work_lock, give_work_lock, aimed-since, lock_second_work, stop_work, leave_work, arrive_work, cut_work, publish_work, retire_work}
use Rattle.rht_ghost.proofs.Moves.WorkHoldings.{left_only, arrived_only, cut_only, published_only, restood_only, worker_only}
use Rattle.rht_ghost.proofs.Pieces.WorkSteps.{knows_work}
use Rattle.rht_ghost.proofs.Theory.Passed.{held-no_entry}

-- the second lock that is held after an operation that takes the lock of a bucket
abbrev pub second_by : LockModel × Next ℕ → Option ℕ
second_by (lock, Go) = None
second_by (lock, Done word) = Some lock.place

module _ (env : Env) (mix : ℕ → ℕ → ℕ → ℕ) where
  -- the exchange that takes the work lock
  abbrev pub work_exchange : Op
  work_exchange = Exchange (place_of env.geometry WorkLock) 0 1

  -- the store by which the bucket at this place is cut off before its last entry
  abbrev pub cut_store : ℕ → Option ℕ → Op
  cut_store place before = Store (cut_place env.geometry place before) (cut_value env mix place before)

module _ (env : Env) (mix : ℕ → ℕ → ℕ → ℕ) (c : ℕ) (h : Holding) where
  -- what the call holds with these locks, and what the caller knows of its work
  abbrev pub holding : Option ℕ → Option ℕ → Holding
  holding lock second = record h { lock = lock; second = second }

  abbrev pub working : Option ℕ → Option ℕ → KnownWork → Memory → Ghost → Type 0
  working lock second known M G = Knowing env mix c (holding lock second) (knows_work MakesNothing known) M G

  -- what it holds with the work lock or without, while it moves entries or doesn't
  abbrev pub at_work : Bool → Bool → Holding
  at_work worker moving = record h { worker = worker; moving = moving; lock = None; second = None }

  abbrev pub knowing : Bool → Bool → KnownWork → Memory → Ghost → Type 0
  knowing worker moving known M G = Knowing env mix c (at_work worker moving) (knows_work MakesNothing known) M G

  -- what is known once the second lock is taken, and before
  abbrev pub SecondWorks : KnownRehash → KnownPlace → KnownEntry → LockModel × Next ℕ → Memory → Ghost → Type 0
  SecondWorks root at entry (lock, Go) M G = working (Some at.place) None (Aims root at entry lock.place) M G
  SecondWorks root at entry (lock, Done word) M G =
      working (Some at.place) (Some lock.place) (Brings root at entry lock.place word) M G

  module _ (words : List ℕ) (G : Ghost) (all : length words ≡ words_in env.geometry)
      (whole : Whole env mix (mem env mix words) G) where
    abbrev M : Memory
    M = mem env mix words

    abbrev after : Op → Memory
    after op = mem env mix (applied words op)

    -- it has this and nothing more, and knows that of the work
    knows_so : (h' : Holding) (known : KnownWork) (M' : Memory) (G' : Ghost) → Only env mix c G' h'
        → WorkMeans env mix c M' G' known → Knowing env mix c h' (knows_work MakesNothing known) M' G'
    knows_so h' known M' G' only means = record {
      only = only;
      means = record { node = tt; table = tt; bucket = tt; making = tt; work = means };
    }

    -- ---- the work lock

    pub take_work_step : old_of words (work_exchange env mix) ≡ 0 → knowing false false NoWork M G
        → SilentStep env mix c words G (work_exchange env mix) (at_work false false) (at_work true false) (knowing true false Works)
    take_work_step found knows =
        let op = work_exchange env mix in
        let value : word_after (old_of words op) op ≡ 1 = ap (λ w. cond (w == 0) 1 w) found in
        let write : IsWrite env.geometry M (after op) WorkLock 1 =
        subst (λ v. IsWrite env.geometry M (after op) WorkLock v) value
        (is_write env.geometry words WorkLock op all tt refl) in
        let worked = take_work_lock env mix c M G whole (after op) found write in
        silent env mix c words G op (at_work false false) (at_work true false) (knowing true false Works) TakesWork whole
        (take_work env mix c M (after op) G whole found write).1 tt worked.made
        (record { taking = refl; free = found; idle = refl; holds = refl })
        (knows_so (at_work true false) Works (after op) _ (worker_only env mix c G h.node None None h.raised h.slot h.pages
        false h.section knows.only (Some c) true (λ e. refl)) worked.means)

    -- where another caller has it nothing changes
    pub lose_work_step : old_of words (work_exchange env mix) ≢ 0 → knowing false false NoWork M G
        → SilentStep env mix c words G (work_exchange env mix) (at_work false false) (at_work false false)
        (knowing false false NoWork)
    lose_work_step found knows =
        let op = work_exchange env mix in
        loads env mix c words G op (at_work false false) (at_work false false) (knowing false false NoWork) whole
        (ap (λ t. cond t 1 (old_of words op)) (ne_eqb (old_of words op) 0 found)) refl knows

    -- it has no slot when it gives the work back
    pub give_work_step : h.slot ≡ None → (moving : Bool) → knowing true moving Works M G
        → let op = Store (place_of env.geometry WorkLock) 0 in
        SilentStep env mix c words G op (at_work true moving) (at_work false false) (knowing false false NoWork)
    give_work_step no_slot moving knows =
        let op = Store (place_of env.geometry WorkLock) 0 in
        let works = knows.means.work.works in
        let worked = give_work_lock env mix c M G whole works (after op) knows.only.locks
        (λ s mine. none-some no_slot (knows.only.slots s mine)) (is_write env.geometry words WorkLock op all tt refl) in
        silent env mix c words G op (at_work true moving) (at_work false false) (knowing false false NoWork) GivesWork
        whole works.0 tt worked.made (record { giving = refl; has = refl; holds = refl })
        (knows_so (at_work false false) NoWork (after op) _ (worker_only env mix c G h.node None None h.raised h.slot
        h.pages true h.section knows.only None false (λ e. absurd (cc))) worked.means)

    -- a load from which on entries are silent, and after which this is known
    pub begin_moving_step : (op : Op) (known more : KnownWork) → word_after (old_of words op) op ≡ old_of words op
        → G.worker ≡ Some c → knowing true false known M G
        → (WorkMeans env mix c M G known → WorkMeans env mix c M G more)
        → SilentStep env mix c words G op (at_work true false) (at_work true true) (knowing true true more)
    begin_moving_step op known more same works knows learns =
        silent env mix c words G op (at_work true false) (at_work true true) (knowing true true more) BeginsMoving whole
        works tt (rw (unchanged words op same) (still env mix c M G whole))
        (record { leaves = same; has = refl; still = refl; holds = refl })
        (rw (unchanged words op same) (knows_so (at_work true true) more M G knows.only (learns knows.means.work)))

    -- ---- locks

    -- what is held with another holder of a bucket
    relocked : (j : ℕ) (lock second lock' second' holder : Option ℕ) → Only env mix c G (holding lock second)
        → (holder ≡ Some c → (lock' ≡ Some (place_at env mix j)) ⊎ (second' ≡ Some (place_at env mix j)))
        → ((i : ℕ) → (i ≡ j → ⊥) → (lock ≡ Some (place_at env mix i)) ⊎ (second ≡ Some (place_at env mix i))
        → (lock' ≡ Some (place_at env mix i)) ⊎ (second' ≡ Some (place_at env mix i)))
        → Only env mix c (with_holder G j holder) (holding lock' second')
    relocked j lock second lock' second' holder only here elsewhere = record {
      nodes = only.nodes;
      locks = put-all (λ i b. b.holder ≡ Some c → (lock' ≡ Some (place_at env mix i))
          ⊎ (second' ≡ Some (place_at env mix i))) G.bucket j (held_by (G.bucket j) holder) here
          (λ i ne holds. elsewhere i ne (only.locks i holds));
      raising = only.raising;
      slots = only.slots;
      pages_in = only.pages_in;
      works = only.works;
      reads = only.reads;
    }

    -- the lock of a bucket at which the work stops is dropped
    pub stop_step : (root : KnownRehash) (at : KnownPlace) (aim : KnownAim)
        → working (Some at.place) None (InBucket root at aim) M G
        → SilentStep env mix c words G (Store at.place at.word) (holding (Some at.place) None) (holding None None)
        (working None None Works)
    stop_step root at aim knows =
        let op = Store at.place at.word in
        let is = knows.means.work.more in
        let lock = is.next.lock in
        let j = word_index env mix at.place in
        let there : place_at env mix j ≡ at.place = place_at-index env mix at.place lock.bucket in
        let within = index-within env mix at.place lock.bucket in
        let right = (whole.buckets j within (held-no_entry env mix M G whole j c lock.holder)).locked in
        let old : old_of words op ≡ at.word + 1 = ap (λ p. slice_index words p) (sym there) ∙ right.word_is
        ∙ ap (λ p. p + lock_bit (G.bucket j).holder) lock.plain ∙ ap (λ x. at.word + lock_bit x) lock.holder in
        let worked = stop_work env mix c M G whole knows.means.work.works root at aim (after op) is knows.only.locks
        (is_write env.geometry words (PageWord j) op all within (sym there)) in
        silent env mix c words G op (holding (Some at.place) None) (holding None None) (working None None Works)
        (DropsLock j) whole tt tt worked.made
        (record {
          on = sym there;
          even = rw lock.plain at right.even;
          unlocks = old;
          has = ap Some (sym there);
          holds = refl;
        })
        (knows_so (holding None None) Works (after op) _
        (relocked j (Some at.place) None None None None knows.only (λ e. absurd (cc))
        (λ i ne one. elim one [
          | inl first ↦ absurd (ne (let q : at.place ≡ place_at env mix i = cc in let r = there in
              omega (arith, q, r)))
          | inr none ↦ absurd (cc)
        ])) worked.means)

    module _ (moves : h.moving ≡ true) where
      -- the bucket to which the last entry goes is locked
      abbrev pub SecondMoved : KnownRehash → KnownPlace → KnownEntry → Op → LockModel × Next ℕ → Type 0
      SecondMoved root at entry op r =
          SilentStep env mix c words G op (holding (Some at.place) None) (holding (Some at.place) (second_by r))
          (SecondWorks root at entry r)

      second_taken : h.section ≡ true → (root : KnownRehash) (at : KnownPlace) (entry : KnownEntry) (place found : ℕ)
          → found % 2 ≡ 0
          → old_of words (Exchange place found (found + 1)) ≡ found
          → working (Some at.place) None (Aims root at entry place) M G
          → SecondMoved root at entry (Exchange place found (found + 1))
          (record { place = place; at = locks.Exchange found }, Done found)
      second_taken inside root at entry place found even same knows =
          let op = Exchange place found (found + 1) in
          let r : LockModel × Next ℕ = (record { place = place; at = locks.Exchange found }, Done found) in
          let aim = knows.means.work.more.aim in
          let i = word_index env mix place in
          let there : place_at env mix i ≡ place = place_at-index env mix place aim.bucket in
          let exchanged : word_after found op ≡ found + 1 = rw (eq-eqb found found refl) refl in
          let here : M (PageWord i) ≡ found = ap (λ p. slice_index words p) there ∙ same in
          let write : IsWrite env.geometry M (after op) (PageWord i) (found + 1) =
          subst (λ v. IsWrite env.geometry M (after op) (PageWord i) v) (ap (λ w. word_after w op) here ∙ exchanged)
          (is_write env.geometry words (PageWord i) op all (index-within env mix place aim.bucket) (sym there)) in
          let works = knows.means.work.works in
          let since : IsSince (G.from c) G.current =
          since-current (G.from c) G.current (subst (λ s. ReadsFrom s (G.from c) G.current) inside knows.only.reads) in
          let worked = lock_second_work env mix c M G whole works since root at entry place found (after op)
          knows.means.work.more here even write in
          silent env mix c words G op (holding (Some at.place) None) (holding (Some at.place) (Some place))
          (SecondWorks root at entry r) (TakesSecond i) whole
          (works.0, aimed-since env mix c M G whole since entry.node place aim) tt worked.made
          (record {
            on = sym there;
            even = rw same even;
            locks = ap (λ w. word_after w op) same ∙ exchanged ∙ ap (λ w. w + 1) (sym same);
            moves = moves;
            first = at.place;
            has = refl;
            none = refl;
            holds = ap (λ p. bare (holding (Some at.place) (Some p))) (sym there);
          })
          (knows_so (holding (Some at.place) (Some place)) (Brings root at entry place found) (after op) _
          (relocked i (Some at.place) None (Some at.place) (Some place) (Some c) knows.only
          (λ e. inr (ap Some (sym there)))
          (λ k ne one. elim one [ inl first ↦ inl first | inr none ↦ absurd (cc) ])) worked.means)

      second_at : h.section ≡ true → (root : KnownRehash) (at : KnownPlace) (entry : KnownEntry) (place : ℕ) (state : LockAt)
          → IsEven state
          → working (Some at.place) None (Aims root at entry place) M G
          → let lock : LockModel = record { place = place; at = state } in
          SecondMoved root at entry (lock_plan lock) (lock_after lock (old_of words (lock_plan lock)))
      second_at inside root at entry place locks.Word even knows =
          let op = Load place in
          let word = old_of words op in
          let held = holding (Some at.place) None in
          by_test (λ t. SecondMoved root at entry op (cond t (record { place = place; at = locks.Word }, Go)
          (record { place = place; at = locks.Exchange word }, Go))) (word % 2 == 1)
          (λ t. loads env mix c words G op held held
          (SecondWorks root at entry (record { place = place; at = locks.Word }, Go)) whole refl refl knows)
          (λ t. loads env mix c words G op held held
          (SecondWorks root at entry (record { place = place; at = locks.Exchange word }, Go)) whole refl refl knows)
      second_at inside root at entry place (locks.Exchange found) even knows =
          let op = Exchange place found (found + 1) in
          let word = old_of words op in
          let held = holding (Some at.place) None in
          by_test (λ t. (word == found) ≡ t → SecondMoved root at entry op
          (cond t (record { place = place; at = locks.Exchange found }, Done found)
          (record { place = place; at = locks.Word }, Go))) (word == found)
          (λ t e. second_taken inside root at entry place found even (eqb-true word found t) knows)
          (λ t e. loads env mix c words G op held held
          (SecondWorks root at entry (record { place = place; at = locks.Word }, Go)) whole (rw t refl) refl knows) refl

      pub lock_second_step : h.section ≡ true → (root : KnownRehash) (at : KnownPlace) (entry : KnownEntry) (lock : LockModel)
          → IsEven lock.at → working (Some at.place) None (Aims root at entry lock.place) M G
          → SecondMoved root at entry (lock_plan lock) (lock_after lock (old_of words (lock_plan lock)))
      lock_second_step inside root at entry lock even knows = second_at inside root at entry lock.place lock.at even knows

      -- ---- the entry

      -- its link leads to the first entry of the other bucket
      pub leave_step : (root : KnownRehash) (at : KnownPlace) (entry : KnownEntry) (place word : ℕ)
          → working (Some at.place) (Some place) (Brings root at entry place word) M G
          → SilentStep env mix c words G (Store (place_of env.geometry (Node entry.node ChainLink)) (head_of place word))
          (holding (Some at.place) (Some place)) (holding (Some at.place) (Some place))
          (working (Some at.place) (Some place) (TakesOut root at entry place word))
      leave_step root at entry place word knows =
          let op = Store (place_of env.geometry (Node entry.node ChainLink)) (head_of place word) in
          let held = holding (Some at.place) (Some place) in
          let works = knows.means.work.works in
          let is = knows.means.work.more in
          let j = word_index env mix at.place in
          let can = can_leave env mix c M G whole works root at entry place word is in
          let nodes = is.tail.stands.among.front in
          let there : In entry.node (G.bucket j).nodes = subst (In entry.node) (sym can.split)
          (in-middle entry.node nodes []) in
          let among = (whole.owned.first_at entry.node j (whole.owned.member j entry.node there)).among in
          let worked = leave_work env mix c M G whole works root at entry place word (after op) is
          (is_write env.geometry words (Node entry.node ChainLink) op all among refl) in
          silent env mix c words G op held held (working (Some at.place) (Some place) (TakesOut root at entry place word))
          (Leaves j (word_index env mix place) entry.node nodes) whole can tt worked.made
          (record { on = refl; moves = moves; holds = refl })
          (knows_so held (TakesOut root at entry place word) (after op) _
          (left_only env mix c G h.node (Some at.place) (Some place) h.raised h.slot h.pages h.worker h.section knows.only j nodes
          entry.node) worked.means)

      -- it is the first one there, and that bucket is unlocked
      pub arrive_step : (root : KnownRehash) (at : KnownPlace) (entry : KnownEntry) (place word : ℕ)
          → working (Some at.place) (Some place) (TakesOut root at entry place word) M G
          → SilentStep env mix c words G (Store place (link_of entry.node)) (holding (Some at.place) (Some place))
          (holding (Some at.place) None) (working (Some at.place) None (HasBrought root at entry))
      arrive_step root at entry place word knows =
          let op = Store place (link_of entry.node) in
          let works = knows.means.work.works in
          let is = knows.means.work.more in
          let lock = is.target.lock in
          let j = word_index env mix at.place in
          let i = word_index env mix place in
          let there : place_at env mix i ≡ place = place_at-index env mix place lock.bucket in
          let can = can_arrive env mix c M G whole works root at entry place word is knows.only.locks in
          let worked = arrive_work env mix c M G whole works root at entry place word (after op) is knows.only.locks
          (is_write env.geometry words (PageWord i) op all (index-within env mix place lock.bucket) (sym there)) in
          silent env mix c words G op (holding (Some at.place) (Some place)) (holding (Some at.place) None)
          (working (Some at.place) None (HasBrought root at entry)) (Arrives j i entry.node) whole can tt worked.made
          (record { on = sym there; moves = moves; has = ap Some (sym there); holds = refl })
          (knows_so (holding (Some at.place) None) (HasBrought root at entry) (after op) _
          (arrived_only env mix c G h.node (Some at.place) (Some place) h.raised h.slot h.pages h.worker h.section knows.only i
          entry.node place refl there) worked.means)

      cut_written : (j place : ℕ) (before : Option ℕ) → place_at env mix j ≡ place → j < 64 * env.geometry.pages
          → ((p : ℕ) → before ≡ Some p → p < env.geometry.nodes)
          → IsWrite env.geometry M (after (cut_store env mix place before)) (relink_address j before)
          (cut_value env mix place before)
      cut_written j place None there within among =
          is_write env.geometry words (PageWord j) (cut_store env mix place None) all within (sym there)
      cut_written j place (Some p) there within among =
          is_write env.geometry words (Node p ChainLink) (cut_store env mix place (Some p)) all (among p refl) refl

      pub cut_step : (root : KnownRehash) (at : KnownPlace) (entry : KnownEntry)
          → working (Some at.place) None (HasBrought root at entry) M G
          → SilentStep env mix c words G (cut_store env mix at.place entry.before) (holding (Some at.place) None)
          (holding (Some at.place) None)
          (working (Some at.place) None (InBucket root (record at { word = cut_plain at.word entry.before }) NoAim))
      cut_step root at entry knows =
          let before = entry.before in
          let op = cut_store env mix at.place before in
          let held = holding (Some at.place) None in
          let more = InBucket root (record at { word = cut_plain at.word before }) NoAim in
          let works = knows.means.work.works in
          let is = knows.means.work.more in
          let bucket = is.out.next.lock.bucket in
          let j = word_index env mix at.place in
          let there : place_at env mix j ≡ at.place = place_at-index env mix at.place bucket in
          let among : (p : ℕ) → before ≡ Some p → p < env.geometry.nodes = λ p e.
          (whole.owned.first_at p j (whole.owned.member j p (last_in (G.bucket j).nodes p (sym is.out.last ∙ e)))).among in
          let worked = cut_work env mix c M G whole works root at entry (after op) is
          (cut_written j at.place before there (index-within env mix at.place bucket) among) in
          silent env mix c words G op held held (working (Some at.place) None more) (CutsOff j entry.node before) whole
          (can_cut env mix c M G whole works root at entry is) tt worked.made
          (record {
            on = ap (λ p. cut_place env.geometry p before) (sym there);
            moves = moves;
            lock = ap Some (sym there);
            holds = refl;
          })
          (knows_so held more (after op) _
          (cut_only env mix c G h.node (Some at.place) None h.raised h.slot h.pages h.worker h.section knows.only j before)
          worked.means)

      -- ---- tables

      -- the next table is the current one, once every bucket is emptied
      pub publish_step : (root : KnownRehash) (count : ℕ) → count ≡ size_of (unpacked root.shape)
          → working None None (Empties root count) M G
          → SilentStep env mix c words G (Store (place_of env.geometry CurrentTable) root.future) (holding None None)
          (holding None None) (working None None (LeavesBehind root.root))
      publish_step root count size knows =
          let op = Store (place_of env.geometry CurrentTable) root.future in
          let works = knows.means.work.works in
          let is = knows.means.work.more in
          let worked = publish_work env mix c M G whole works root count (after op) is size
          (is_write env.geometry words CurrentTable op all tt refl) in
          silent env mix c words G op (holding None None) (holding None None) (working None None (LeavesBehind root.root))
          Publishes whole (can_publish env mix c M G whole works root count is size) tt worked.made
          (record { on = refl; moves = moves; holds = refl })
          (knows_so (holding None None) (LeavesBehind root.root) (after op) _
          (published_only env mix c G h.node None None h.raised h.slot h.pages h.worker h.section knows.only) worked.means)

      -- and the one that was left behind is being retired
      pub retire_step : (slot : ℕ) → working None None (LeavesBehind slot) M G
          → SilentStep env mix c words G (Store (place_of env.geometry (Slot slot StateWord)) 2) (holding None None)
          (holding None None) (working None None (HasKept slot 0))
      retire_step slot knows =
          let op = Store (place_of env.geometry (Slot slot StateWord)) 2 in
          let works = knows.means.work.works in
          let is = knows.means.work.more in
          let has = ap has_table is.live in
          let of = whole.tables.slots slot has in
          let within : slot < 8 =
          subst (λ s. s < 8) of.slot (whole.tables.each (index_at G slot) (slot-there env mix whole.tables slot has)).slot_in in
          let worked = retire_work env mix c M G whole slot works (after op) within is
          (is_write env.geometry words (Slot slot StateWord) op all (within, tt) refl) in
          silent env mix c words G op (holding None None) (holding None None) (working None None (HasKept slot 0)) (Retires slot)
          whole
          (can_retire env mix c M G whole slot works is) tt worked.made
          (record { within = within; retiring = refl; moves = moves; holds = refl })
          (knows_so (holding None None) (HasKept slot 0) (after op) _
          (restood_only env mix c G h.node None None h.raised h.slot h.pages h.worker h.section knows.only slot
          (Retiring (index_at G slot)) refl) worked.means)
