-- A bucket that the caller has locked: what it knows beside it stays where the bucket's holder changes, and the lock is dropped.
use Rattle.std.proofs.Common.{◌≡◌, ◌⊎◌, ℕ, ◌+◌, List, length, slice_index, Option, Some, None, false, refl, sym, ap, ◌∙◌, inl, inr, arith}
use Rattle.rht_words.specs.declared.env.Env.{Env}
use Rattle.rht_words.specs.declared.op.Op.{Op}
use Rattle.rht_words.specs.declared.op.Op.TheVariants.{Store}
use Rattle.rht_words.specs.Operations.{old_of, applied}
use Rattle.rht_words.specs.Places.{Node, PageWord, words_in}
use Rattle.rht_words.proofs.Memory.{Memory, IsWrite, is_write}
use Rattle.rht_ghost.proofs.Theory.Ghosts.{put, put-all, Ghost, lock_bit, held_by, with_holder}
use Rattle.rht_ghost.proofs.Theory.Wholes.{place_at, word_index, place_at-index, index-within, MovesNone, moves_none, Whole}
use Rattle.rht_ghost.proofs.Theory.Knowns.{KnownNode, KnownTable, KnownBucket, Unlocked, Unlocks, Locks, TakenOut, LocksTakenOut, knows_plain}
use Rattle.rht_ghost.proofs.Theory.Knowledge.{plainly, HasLock, has_lock, BucketMeans, Knowing}
use Rattle.rht_ghost.proofs.Theory.KnowledgeStays.{TableMeans-stay, NodeMeans-stay}
use Rattle.rht_ghost.proofs.Theory.Frames.{tables_stay}
use Rattle.rht_ghost.proofs.Theory.WholeFrames.{chains_passes}
use Rattle.rht_ghost.proofs.Theory.Steps.{DropsLock, Holding, mem, SilentStep, silent}
use Rattle.rht_ghost.proofs.Moves.Quiet.{IsUnworked, unworked_by, held_chains, drop_lock}
use Rattle.rht_ghost.proofs.Theory.Passed.{held-no_entry}

module _ (env : Env) (mix : ℕ → ℕ → ℕ → ℕ) (c : ℕ) (h : Holding) (node : Option KnownNode)
    (table : KnownTable) where
  -- what the call holds with this lock, and what the caller knows with this known of the bucket
  abbrev pub holding : Option ℕ → Holding
  holding lock = record h { lock = lock }

  abbrev pub knowing : Option ℕ → KnownBucket → Memory → Ghost → Type 0
  knowing lock bucket M G = Knowing env mix c (holding lock)
      (knows_plain node table bucket) M G

  module _ (words : List ℕ) (G : Ghost) (all : length words ≡ words_in env.geometry)
      (whole : Whole env mix (mem env mix words) G) where
    abbrev M : Memory
    M = mem env mix words

    -- what is known of nodes and tables stays where a bucket has another holder, which no caller has that has an entry on its way
    pub with-holder : (lock : Option ℕ) (place : ℕ) (bucket : KnownBucket) (holder : Option ℕ) (op : Op)
        (v : ℕ)
        → knowing lock bucket M G
        → IsWrite env.geometry M (mem env mix (applied words op)) (PageWord (word_index env mix place)) v
        → IsUnworked env mix G (word_index env mix place)
        → (after : Option ℕ) (more : KnownBucket)
        → ((i : ℕ)
        → (put G.bucket (word_index env mix place)
        (held_by (G.bucket (word_index env mix place)) holder) i).holder ≡ Some c
        → (after ≡ Some (place_at env mix i)) ⊎ (h.second ≡ Some (place_at env mix i)))
        → BucketMeans env mix c (mem env mix (applied words op))
        (with_holder G (word_index env mix place) holder) more
        → knowing after more (mem env mix (applied words op))
        (with_holder G (word_index env mix place) holder)
    with-holder lock place bucket holder op v knows write unworked after more only means =
        let j = word_index env mix place in
        let M' = mem env mix (applied words op) in
        let G' = with_holder G j holder in
        let same = held_chains env mix G j holder unworked in
        plainly env mix (record {
          nodes = knows.only.nodes;
          locks = only;
          raising = knows.only.raising;
          slots = knows.only.slots;
          pages_in = knows.only.pages_in;
          works = knows.only.works;
          reads = knows.only.reads;
        }) (NodeMeans-stay env mix c M M' G G' (λ n has. has.mine)
        (λ n has w. write.others (Node n w) has.among (λ e. cc)) node knows.means.node) (TableMeans-stay env mix c M M' G G' refl
        (tables_stay env mix M G G' whole same.tables (chains_passes env mix M G G' whole same))
        table knows.means.table) means

    -- the holder stores the bucket's word without the lock, and this is known of the bucket then
    unlock_to : h.worker ≡ false → (place word : ℕ) (bucket after : KnownBucket) → HasLock env mix c G place word → knowing (Some place) bucket M G
        → ((M' : Memory) → BucketMeans env mix c M' (with_holder G (word_index env mix place) None) after)
        → SilentStep env mix c words G (Store place word) (holding (Some place)) (holding None) (knowing None after)
    unlock_to idle place word bucket after lock knows means =
        let op = Store place word in
        let j = word_index env mix place in
        let is : place_at env mix j ≡ place = place_at-index env mix place lock.bucket in
        let M' = mem env mix (applied words op) in
        let within = index-within env mix place lock.bucket in
        let write : IsWrite env.geometry M M' (PageWord j) word = is_write env.geometry words
        (PageWord j) op all within (sym is) in
        let right = (whole.buckets j within (held-no_entry env mix M G whole j c lock.holder)).locked in
        let b = held_by (G.bucket j) None in
        let none : MovesNone env mix G c =
        moves_none env mix M G whole c (λ works. let yes_ = knows.only.works works in cc) in
        let old : old_of words op ≡ word + 1 = ap (λ p. slice_index words p) (sym is) ∙ right.word_is ∙ ap (λ p. p + lock_bit (G.bucket j).holder) lock.plain ∙ ap (λ x. word + lock_bit x) lock.holder in
        silent env mix c words G op (holding (Some place)) (holding None) (knowing None after) (DropsLock j) whole tt tt
        (drop_lock env mix c j word M M' G whole within none lock.holder lock.plain write)
        (record {
          on = sym is;
          even = rw lock.plain at right.even;
          unlocks = old;
          has = ap Some (sym is);
          holds = refl;
        })
        (with-holder (Some place) place bucket None op word knows write (unworked_by env mix G c j none lock.holder)
        None after
        (put-all (λ i bucket. bucket.holder ≡ Some c → (◌≡◌ {A = Option ℕ} None (Some (place_at env mix i))) ⊎ (h.second ≡ Some (place_at env mix i))) G.bucket j b
        (λ holds. absurd (cc))
        (λ i ne holds. elim (knows.only.locks i holds) [
          | inl first ↦ absurd (ne (let q : place ≡ place_at env mix i = cc in let r = is in omega
              (arith, q, r)))
          | inr second ↦ inr second
        ]))
        (means M'))

    pub unlock_step : h.worker ≡ false → (place word : ℕ) → knowing (Some place) (Locks place word) M G
        → SilentStep env mix c words G (Store place word) (holding (Some place)) (holding None) (knowing None Unlocked)
    unlock_step idle place word knows =
        unlock_to idle place word (Locks place word) Unlocked
        (has_lock env mix c G place word knows.means.bucket) knows (λ M'. tt)

    -- whether or not the caller is armed there
    pub unlock_any : h.worker ≡ false → (place word : ℕ) → knowing (Some place) (Unlocks place word) M G
        → SilentStep env mix c words G (Store place word) (holding (Some place)) (holding None) (knowing None Unlocked)
    unlock_any idle place word knows =
        unlock_to idle place word (Unlocks place word) Unlocked knows.means.bucket knows (λ M'. tt)

    -- a node that the caller has taken out of a list stays so
    pub unlock_taken : h.worker ≡ false → (place word n : ℕ) → knowing (Some place) (LocksTakenOut place word n) M G
        → SilentStep env mix c words G (Store place word) (holding (Some place)) (holding None) (knowing None (TakenOut n))
    unlock_taken idle place word n knows =
        let is = knows.means.bucket in
        unlock_to idle place word (LocksTakenOut place word n) (TakenOut n) (has_lock env mix c G place word is.lock)
        knows (λ M'. record { among = is.took.among; taken = is.took.taken })
