-- The operations of the caller that does the work, as steps: its loads, and the lock of the next bucket, which is taken and dropped.
use Rattle.std.proofs.Common.{◌≡◌, ◌⊎◌, ℕ, ◌+◌, ◌%◌, ◌==◌, List, length, slice_index, Option, Some, None, true, cond, refl, sym, ◌∙◌, ap, subst, inl, inr, arith}
use Rattle.std.proofs.lemmas.Bool.{eqb-true, eq-eqb}
use Rattle.rht_words.specs.declared.env.Env.{Env}
use Rattle.rht_words.specs.declared.op.Op.{Op}
use Rattle.rht_words.specs.declared.op.Op.TheVariants.{Load, Store, Exchange}
use Rattle.rht_words.specs.declared.machine.Next.{Next}
use Rattle.rht_words.specs.declared.machine.Next.TheVariants.{Go, Done}
use Rattle.rht_words.specs.Operations.{old_of, word_after, applied}
use Rattle.rht_words.specs.Places.{PageWord, words_in}
use Rattle.rht_words.proofs.Memory.{Memory, IsWrite, is_write}
use Rattle.rht_chain.specs.Lock.{LockModel, lock_plan, lock_after, IsEven}
use Rattle.rht_chain.specs.declared.lock.LockAt.{LockAt}
use Rattle.rht_chain.specs.declared.lock.LockAt.TheVariants as locks
use Rattle.rht_ghost.proofs.Theory.Ghosts.{put-all, IsSince, Ghost, lock_bit, held_by, with_holder}
use Rattle.rht_ghost.proofs.Theory.Wholes.{place_at, word_index, place_at-index, index-within, Whole}
use Rattle.rht_ghost.proofs.Theory.Knowns.{KnownMaking, MakesNothing, NoAim, KnownRehash, KnownPlace, KnownWork, Empties, Faces, InBucket, Bare, Known, Nowhere, Unlocked}
use Rattle.rht_ghost.proofs.Theory.Knowledge.{HasOnly, ReadsFrom, since-current, WorkMeans, Knowing}
use Rattle.rht_ghost.proofs.Theory.Steps.{bare, TakesLock, DropsLock, by_test, Holding, mem, SilentStep, silent, loads}
use Rattle.rht_ghost.proofs.Moves.Working.{faced-since, lock_work, unlock_work}
use Rattle.rht_ghost.proofs.Theory.Passed.{held-no_entry}

-- what a caller knows that does the work
abbrev pub knows_work : KnownMaking → KnownWork → Known
knows_work making work = record { node = None; table = Nowhere; bucket = Unlocked; making = making; work = work }

-- the lock that is held after an operation that takes the lock of a bucket
abbrev pub locked_by : LockModel × Next ℕ → Option ℕ
locked_by (lock, Go) = None
locked_by (lock, Done word) = Some lock.place

module _ (env : Env) (mix : ℕ → ℕ → ℕ → ℕ) (c : ℕ) (h : Holding) where
  -- what the call holds with this lock, and what the caller knows of its work
  abbrev pub holding : Option ℕ → Holding
  holding lock = record h { lock = lock }

  abbrev pub working : Option ℕ → KnownMaking → KnownWork → Memory → Ghost → Type 0
  working lock making known M G = Knowing env mix c (holding lock) (knows_work making known) M G

  -- what is known once the lock is taken, and before
  abbrev pub LockWorks : KnownRehash → ℕ → LockModel × Next ℕ → Memory → Ghost → Type 0
  LockWorks root number (lock, Go) M G = working None MakesNothing (Faces root number lock.place) M G
  LockWorks root number (lock, Done word) M G =
      working (Some lock.place) MakesNothing
      (InBucket root (record { number = number; place = lock.place; word = word }) NoAim) M G

  module _ (words : List ℕ) (G : Ghost) (all : length words ≡ words_in env.geometry)
      (whole : Whole env mix (mem env mix words) G) where
    abbrev M : Memory
    M = mem env mix words

    -- a load after which this is known of the work
    pub work_loads : (lock : Option ℕ) (making : KnownMaking) (op : Op) (known more : KnownWork)
        → word_after (old_of words op) op ≡ old_of words op → working lock making known M G
        → (WorkMeans env mix c M G known → WorkMeans env mix c M G more)
        → SilentStep env mix c words G op (holding lock) (holding lock) (working lock making more)
    work_loads lock making op known more same knows learns =
        loads env mix c words G op (holding lock) (holding lock) (working lock making more) whole same refl (record {
          only = knows.only;
          means = record {
            node = tt;
            table = tt;
            bucket = tt;
            making = knows.means.making;
            work = learns knows.means.work;
          };
        })

    -- ---- the next bucket is locked

    abbrev pub LockMoved : KnownRehash → ℕ → Op → LockModel × Next ℕ → Type 0
    LockMoved root number op r =
        SilentStep env mix c words G op (holding None) (holding (locked_by r)) (LockWorks root number r)

    -- what is held with another holder of the bucket
    held_only : (j : ℕ) (lock after holder : Option ℕ) → HasOnly env mix c G h.node lock h.second h.raised h.slot
        h.pages h.worker h.section
        → (holder ≡ Some c → (after ≡ Some (place_at env mix j)) ⊎ (h.second ≡ Some (place_at env mix j)))
        → ((i : ℕ) → (i ≡ j → ⊥) → lock ≡ Some (place_at env mix i) → after ≡ Some (place_at env mix i))
        → HasOnly env mix c (with_holder G j holder) h.node after h.second h.raised h.slot h.pages h.worker h.section
    held_only j lock after holder only here elsewhere = record {
      nodes = only.nodes;
      locks = put-all (λ i b. b.holder ≡ Some c → (after ≡ Some (place_at env mix i))
          ⊎ (h.second ≡ Some (place_at env mix i))) G.bucket j (held_by (G.bucket j) holder) here
          (λ i ne holds. elim (only.locks i holds) [
            | inl first ↦ inl (elsewhere i ne first)
            | inr second ↦ inr second
          ]);
      raising = only.raising;
      slots = only.slots;
      pages_in = only.pages_in;
      works = only.works;
      reads = only.reads;
    }

    exchanged_word : (found : ℕ) (place : ℕ) → word_after found (Exchange place found (found + 1)) ≡ found + 1
    exchanged_word found place = rw (eq-eqb found found refl) refl

    -- in its section the caller comes to the current table
    pub inside-since : h.section ≡ true → (lock : Option ℕ) (making : KnownMaking) (known : KnownWork)
        → working lock making known M G → IsSince (G.from c) G.current
    inside-since inside lock making known knows =
        since-current (G.from c) G.current (subst (λ s. ReadsFrom s (G.from c) G.current) inside knows.only.reads)

    lock_taken : h.section ≡ true → (root : KnownRehash) (number place found : ℕ) → found % 2 ≡ 0
        → old_of words (Exchange place found (found + 1)) ≡ found
        → working None MakesNothing (Faces root number place) M G
        → LockMoved root number (Exchange place found (found + 1))
        (record { place = place; at = locks.Exchange found }, Done found)
    lock_taken inside root number place found even same knows =
        let op = Exchange place found (found + 1) in
        let is = knows.means.work.more in
        let j = word_index env mix place in
        let at : place_at env mix j ≡ place = place_at-index env mix place is.bucket in
        let within = index-within env mix place is.bucket in
        let here : M (PageWord j) ≡ found = ap (λ p. slice_index words p) at ∙ same in
        let M' = mem env mix (applied words op) in
        let write : IsWrite env.geometry M M' (PageWord j) (found + 1) =
        subst (λ v. IsWrite env.geometry M M' (PageWord j) v)
        (ap (λ w. word_after w op) here ∙ exchanged_word found place)
        (is_write env.geometry words (PageWord j) op all within (sym at)) in
        let since = inside-since inside None MakesNothing (Faces root number place) knows in
        let worked = lock_work env mix c M G whole knows.means.work.works since root number place found M' is here even
        write in
        silent env mix c words G op (holding None) (holding (Some place))
        (LockWorks root number (record { place = place; at = locks.Exchange found }, Done found)) (TakesLock j) whole
        (faced-since env mix c M G whole since root number place is) tt worked.made
        (record {
          on = sym at;
          even = rw same even;
          locks = ap (λ w. word_after w op) same ∙ exchanged_word found place ∙ ap (λ w. w + 1) (sym same);
          none = refl;
          holds = ap (λ p. bare (holding (Some p))) (sym at);
        })
        (record {
          only = held_only j None (Some place) (Some c) knows.only (λ e. inl (ap Some (sym at)))
              (λ i ne none. absurd (cc));
          means = record { node = tt; table = tt; bucket = tt; making = tt; work = worked.means };
        })

    lock_work_at : h.section ≡ true → (root : KnownRehash) (number place : ℕ) (at : LockAt) → IsEven at
        → working None MakesNothing (Faces root number place) M G
        → let lock : LockModel = record { place = place; at = at } in
        LockMoved root number (lock_plan lock) (lock_after lock (old_of words (lock_plan lock)))
    lock_work_at inside root number place locks.Word even knows =
        let word = old_of words (Load place) in
        by_test (λ t. LockMoved root number (Load place) (cond t (record { place = place; at = locks.Word }, Go)
        (record { place = place; at = locks.Exchange word }, Go))) (word % 2 == 1)
        (λ t. loads env mix c words G (Load place) (holding None) (holding None)
        (LockWorks root number (record { place = place; at = locks.Word }, Go)) whole refl refl knows)
        (λ t. loads env mix c words G (Load place) (holding None) (holding None)
        (LockWorks root number (record { place = place; at = locks.Exchange word }, Go)) whole refl refl knows)
    lock_work_at inside root number place (locks.Exchange found) even knows =
        let op = Exchange place found (found + 1) in
        let word = old_of words op in
        by_test (λ t. (word == found) ≡ t → LockMoved root number op
        (cond t (record { place = place; at = locks.Exchange found }, Done found)
        (record { place = place; at = locks.Word }, Go))) (word == found)
        (λ t e. lock_taken inside root number place found even (eqb-true word found t) knows)
        (λ t e. loads env mix c words G op (holding None) (holding None)
        (LockWorks root number (record { place = place; at = locks.Word }, Go)) whole (rw t refl) refl knows) refl

    pub lock_work_step : h.section ≡ true → (root : KnownRehash) (number : ℕ) (lock : LockModel) → IsEven lock.at
        → working None MakesNothing (Faces root number lock.place) M G
        → LockMoved root number (lock_plan lock) (lock_after lock (old_of words (lock_plan lock)))
    lock_work_step inside root number lock even knows = lock_work_at inside root number lock.place lock.at even knows

    -- ---- and unlocked, without an entry

    pub unlock_work_step : h.second ≡ None → (root : KnownRehash) (at : KnownPlace)
        → working (Some at.place) MakesNothing (Bare root at) M G
        → SilentStep env mix c words G (Store at.place at.word) (holding (Some at.place)) (holding None)
        (working None MakesNothing (Empties root (at.number + 1)))
    unlock_work_step alone root at knows =
        let op = Store at.place at.word in
        let is = knows.means.work.more in
        let lock = is.bucket.next.lock in
        let j = word_index env mix at.place in
        let there : place_at env mix j ≡ at.place = place_at-index env mix at.place lock.bucket in
        let within = index-within env mix at.place lock.bucket in
        let M' = mem env mix (applied words op) in
        let write : IsWrite env.geometry M M' (PageWord j) at.word =
        is_write env.geometry words (PageWord j) op all within (sym there) in
        let right = (whole.buckets j within (held-no_entry env mix M G whole j c lock.holder)).locked in
        let old : old_of words op ≡ at.word + 1 = ap (λ p. slice_index words p) (sym there) ∙ right.word_is
        ∙ ap (λ p. p + lock_bit (G.bucket j).holder) lock.plain ∙ ap (λ x. at.word + lock_bit x) lock.holder in
        let locks : (i : ℕ) → (G.bucket i).holder ≡ Some c
        → (Some at.place ≡ Some (place_at env mix i)) ⊎ (◌≡◌ {A = Option ℕ} None (Some (place_at env mix i))) =
        λ i holds. subst (λ s. (Some at.place ≡ Some (place_at env mix i)) ⊎ (s ≡ Some (place_at env mix i))) alone
        (knows.only.locks i holds) in
        let worked = unlock_work env mix c M G whole knows.means.work.works root at M' is locks write in
        silent env mix c words G op (holding (Some at.place)) (holding None)
        (working None MakesNothing (Empties root (at.number + 1))) (DropsLock j) whole tt tt worked.made
        (record {
          on = sym there;
          even = rw lock.plain at right.even;
          unlocks = old;
          has = ap Some (sym there);
          holds = refl;
        })
        (record {
          only = held_only j (Some at.place) None None knows.only (λ e. absurd (cc))
              (λ i ne first. absurd (ne (let q : at.place ≡ place_at env mix i = cc in let r = there in
              omega (arith, q, r))));
          means = record { node = tt; table = tt; bucket = tt; making = tt; work = worked.means };
        })
