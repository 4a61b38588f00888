-- The operations in a bucket: its lock is taken, its chain walked to the first node with a key, and the lock dropped.
use Rattle.std.proofs.Common.{◌≡◌, ◌≢◌, ◌⊎◌, ℕ, ◌+◌, ◌<◌, ◌%◌, ◌==◌, List, [], ◌∷◌, ◌++◌, length, slice_index, Option, Some, None, true, cond, refl, sym, ap, ◌∙◌, subst, inl, inr, arith}
use Rattle.std.proofs.Math.Seq.{append_snoc}
use Rattle.std.proofs.lemmas.Bool.{eqb-true, eqb-false, eq-eqb}
use Rattle.std.proofs.lemmas.List.{length-append, length_push}
use Rattle.rht_words.specs.declared.env.Env.{Env}
use Rattle.rht_words.specs.declared.op.Op.{Op}
use Rattle.rht_words.specs.declared.op.Op.TheVariants.{Load, Exchange}
use Rattle.rht_words.specs.declared.machine.Next.{Next}
use Rattle.rht_words.specs.declared.machine.Next.TheVariants.{Go, Done}
use Rattle.rht_words.specs.declared.machine.Start.{Start}
use Rattle.rht_words.specs.declared.machine.Start.TheVariants as starts
use Rattle.rht_words.specs.Links.{link_of, node_of, head_of, marker_of}
use Rattle.rht_words.specs.Chains.{IsSegment}
use Rattle.rht_words.specs.Operations.{old_of, word_after, applied}
use Rattle.rht_words.specs.Places.{PageWord, words_in, word_at}
use Rattle.rht_words.proofs.LinksRead.{links_tell_apart}
use Rattle.rht_words.proofs.Memory.{Memory, IsWrite, is_write}
use Rattle.rht_words.specs.Members.{In}
use Rattle.rht_words.proofs.Members.{in-middle, In-AllByRecursion, length-count_below, count_below-most}
use Rattle.rht_words.proofs.ChainLemmas.{IsSegment-cut}
use Rattle.rht_chain.specs.Lock.{LockModel, lock_plan, lock_after, IsEven}
use Rattle.rht_chain.specs.declared.lock.LockAt.{LockAt}
use Rattle.rht_chain.specs.declared.lock.LockAt.TheVariants as locks
use Rattle.rht_chain.specs.LockedWalk.{LockedWalkModel, locked_walk_new, locked_walk_plan, locked_walk_after, walk_from, followed, counted, one_more, found_at}
use Rattle.rht_chain.specs.declared.locked.Locked.{Locked}
use Rattle.rht_chain.specs.declared.locked_walk.Seen.{Seen}
use Rattle.rht_chain.specs.declared.locked_walk.LockedWalkAt.{LockedWalkAt}
use Rattle.rht_chain.specs.declared.locked_walk.LockedWalkAt.TheVariants as walks
use Rattle.rht_chain.specs.Probe.{ProbeModel, probe_plan, probe_after, lock_of_probe, lock_taken, walk_or_seen, walk_taken, IsProbeIn, IsProbeAtIn}
use Rattle.rht_chain.specs.declared.probe.ProbeAt.{ProbeAt}
use Rattle.rht_chain.specs.declared.probe.ProbeAt.TheVariants as probes
use Rattle.rht_chain.specs.declared.probe.Probed.{Probed}
use Rattle.rht_ghost.proofs.Theory.Ghosts.{put-same, put-all, IsSince, Ghost, table_at, held_by}
use Rattle.rht_ghost.proofs.Theory.Wholes.{chain_of, key_of, place_at, word_index, place_at-index, index-within, stop, Whole, at-there}
use Rattle.rht_ghost.proofs.Theory.Passed.{NoKey, home-bucket, home-table, held-no_entry}
use Rattle.rht_ghost.proofs.Theory.Knowns.{KnownNode, AtHome, KnownBucket, Unlocked, Locks, Stands, Differs, Missed, Found, knows_plain, StandsAt}
use Rattle.rht_ghost.proofs.Theory.Knowledge.{plainly, HoldsLock, IsStanding, IsReaching, BucketMeans, Knowing}
use Rattle.rht_ghost.proofs.Theory.Steps.{bare, TakesLock, by_test, Holding, mem, SilentStep, silent, silent-map, loads}
use Rattle.rht_ghost.proofs.Moves.Quiet.{take_lock, unworked_free, free-still}
use Rattle.rht_ghost.proofs.Moves.Relinking.{last_of-more}
use Rattle.rht_ghost.proofs.Pieces.Locks.{with-holder}

-- what is known at a state of the walk, in the bucket at this place whose word was this before it was locked, with so many keys
-- loaded
abbrev pub known_walk : ℕ → ℕ → ℕ → Option ℕ → ℕ → LockedWalkAt → KnownBucket
known_walk place word key before count (walks.Key node) = Stands place word key node before count
known_walk place word key before count (walks.ChainLink node) = Differs place word key node before count

-- and where it has ended
abbrev pub known_found : ℕ → ℕ → ℕ → Option ℕ → Option ℕ → KnownBucket
known_found place word key before None = Missed place word key
known_found place word key before (Some node) = Found place word key node before

abbrev pub known_seen : ℕ → ℕ → ℕ → Seen → KnownBucket
known_seen place word key seen = known_found place word key seen.before seen.found

-- the place of the bucket in which a probe works, and what is known there
abbrev pub place_of_probe : ProbeAt → ℕ
place_of_probe (probes.Locking lock) = lock.place
place_of_probe (probes.Walking bucket walk) = bucket.place

abbrev pub known_probe : ℕ → ProbeAt → KnownBucket
known_probe key (probes.Locking lock) = Unlocked
known_probe key (probes.Walking bucket walk) =
    known_walk bucket.place bucket.word key walk.before walk.length walk.at

-- its walk is for this key
abbrev pub IsProbeFor : ℕ → ProbeAt → Type 0
IsProbeFor key (probes.Locking lock) = Unit {0}
IsProbeFor key (probes.Walking bucket walk) = walk.key ≡ key

-- the lock that is held after an operation of the lock, and of the probe
abbrev pub locked_by : LockModel × Next ℕ → Option ℕ
locked_by (lock, Go) = None
locked_by (lock, Done word) = Some lock.place

abbrev pub probed_by : ProbeAt × Next Probed → Option ℕ
probed_by (at, Go) = lock_of_probe at
probed_by (at, Done probed) = Some probed.bucket.place

-- ---- how many nodes a walk has passed

module _ (env : Env) (mix : ℕ → ℕ → ℕ → ℕ) (c port : ℕ) (M : Memory) (G : Ghost) (whole : Whole env mix M G)
    (place word n : ℕ) (before : Option ℕ) where
  -- before a node of a chain stand fewer nodes than there are
  front_few : (standing : IsStanding env mix c M G place word port n before)
      → length standing.stands.front < env.geometry.nodes
  front_few standing =
      let nodes = env.geometry.nodes in
      let here = (G.bucket (word_index env mix place)).nodes in
      let at = standing.stands in
      let lock = standing.lock in
      let chained = (whole.buckets (word_index env mix place) (index-within env mix place lock.bucket)
      (held-no_entry env mix M G whole (word_index env mix place) c lock.holder)).chained in
      let among = In-AllByRecursion (λ m. m < nodes) here
      (λ m i. (whole.owned.first_at m (word_index env mix place) (whole.owned.member (word_index env mix place) m i)).among) in
      let few = length-count_below (λ m. true) nodes here chained.distinct among (λ m i. refl) in
      let most = count_below-most (λ m. true) nodes in
      let many = ap length at.split ∙ length-append at.front (n ∷ at.rear) in
      omega (arith, few, most, many)

  -- so a walk can count them, and one more
  pub one_more-counted : (count : ℕ) → (is : IsReaching env mix c M G place word port n before count)
      → one_more count ≡ length is.standing.stands.front + 1
  one_more-counted count is =
      let few = front_few is.standing in
      let most = env.geometry.within.nodes_within.1 in
      let counted = is.counted in
      omega (arith, few, most, counted)

module _ (env : Env) (mix : ℕ → ℕ → ℕ → ℕ) (c : ℕ) (h : Holding) (node : Option KnownNode)
    (port slot : ℕ) (shape : Option ℕ) where
  -- what the call holds with this lock, and what the caller knows with this known of the bucket of the port at this place
  abbrev pub holding : Option ℕ → Holding
  holding lock = record h { lock = lock }

  abbrev pub knowing : Option ℕ → ℕ → KnownBucket → Memory → Ghost → Type 0
  knowing lock place bucket M G =
      Knowing env mix c (holding lock) (knows_plain node (AtHome port slot shape place) bucket) M G

  -- what is known where more is said of the bucket
  known_more : (lock : Option ℕ) (place : ℕ) (bucket more : KnownBucket) (M : Memory) (G : Ghost)
      → knowing lock place bucket M G
      → BucketMeans env mix c M G more → knowing lock place more M G
  known_more lock place bucket more M G knows means =
      plainly env mix knows.only knows.means.node knows.means.table means

  -- ---- the walk

  abbrev pub WalkKnows : ℕ → ℕ → LockedWalkModel × Next Seen → Memory → Ghost → Type 0
  WalkKnows place word (walk, Go) M G = knowing (Some place) place
      (known_walk place word port walk.before walk.length walk.at) M G × (walk.key ≡ port)
  WalkKnows place word (walk, Done seen) M G = knowing (Some place) place
      (known_seen place word port seen) M G

  abbrev pub StartKnows : ℕ → ℕ → Start LockedWalkModel Seen → Memory → Ghost → Type 0
  StartKnows place word (starts.Running walk) M G = WalkKnows place word (walk, Go) M G
  StartKnows place word (starts.Done seen) M G = knowing (Some place) place
      (known_seen place word port seen) M G

  module _ (M : Memory) (G : Ghost) (whole : Whole env mix M G) (place word : ℕ) where
    abbrev j : ℕ
    j = word_index env mix place

    -- the marker of a bucket names no node, and the link to a node in a chain names it
    marker_ends : (link : ℕ) → link ≡ marker_of place → node_of env.geometry.nodes link ≡ None
    marker_ends link is = rw is (links_tell_apart.marker_names_no_node env.geometry.nodes place)

    link_names : (link n : ℕ) → link ≡ link_of n → In n (G.bucket j).nodes
        → node_of env.geometry.nodes link ≡ Some n
    link_names link n is i =
        rw is (links_tell_apart.link_names env.geometry.nodes n
        (whole.owned.first_at n j (whole.owned.member j n i)).among)

    -- the chain of a bucket that the caller has locked begins behind the word that it found
    chain_here : HoldsLock env mix c G place word
        → IsSegment (chain_of M) (head_of place word) (G.bucket j).nodes (marker_of place)
    chain_here lock =
        let at : place_at env mix j ≡ place = place_at-index env mix place lock.bucket in
        let b = G.bucket j in
        let segment : IsSegment (chain_of M) (head_of (place_at env mix j) b.plain) b.nodes (marker_of (place_at env mix j))
        = subst (λ out. IsSegment (chain_of M) (head_of (place_at env mix j) b.plain) b.nodes
        (stop env mix (place_at env mix j) out)) lock.still
        (whole.buckets j (index-within env mix place lock.bucket)
        (held-no_entry env mix M G whole j c lock.holder)).chained.segment in
        subst (λ w. IsSegment (chain_of M) (head_of place w) (G.bucket j).nodes (marker_of place)) lock.plain
        (subst (λ p. IsSegment (chain_of M) (head_of p (G.bucket j).plain) (G.bucket j).nodes
        (marker_of p)) at segment)

    -- the walk of a bucket that has just been locked
    pub walk_start : knowing (Some place) place (Locks place word) M G
        → StartKnows place word (locked_walk_new env.geometry place word port) M G
    walk_start knows = go (G.bucket j).nodes refl (chain_here lock)
      where
        lock : HoldsLock env mix c G place word
        lock = knows.means.bucket

        first : ℕ
        first = head_of place word

        go : (nodes : List ℕ) → (G.bucket j).nodes ≡ nodes
            → IsSegment (chain_of M) first (G.bucket j).nodes (marker_of place)
            → StartKnows place word (walk_from env.geometry port first (node_of env.geometry.nodes first)) M G
        go [] e s =
            let stop : first ≡ marker_of place = subst
            (λ l. IsSegment (chain_of M) first l (marker_of place)) e s in
            rw (marker_ends first stop)
            (known_more (Some place) place (Locks place word) (Missed place word port) M G knows
            (record { lock = lock; none = rw e tt }))
        go (m ∷ nodes) e s =
            let split = subst (λ l. IsSegment (chain_of M) first l (marker_of place)) e s in
            rw (link_names first m split.0 (rw e (inl refl))) (
              known_more (Some place) place (Locks place word) (Stands place word port m None 0) M G knows
                  (record {
                    standing = record {
                      lock = lock;
                      stands = record { front = []; rear = nodes; split = e; passed = tt; last = refl };
                    };
                    counted = refl;
                  }),
              refl,
            )

    NoKey-more : (nodes : List ℕ) (n : ℕ) → NoKey M port nodes → key_of M n ≢ port
        → NoKey M port (nodes ++ n ∷ [])
    NoKey-more [] n none differs = (differs, tt)
    NoKey-more (other ∷ nodes) n none differs = (none.0, NoKey-more nodes n none.1 differs)

    -- behind a node with another key the walk stands at the next one, or has missed the port
    walk_on : (n : ℕ) (walk : LockedWalkModel) → walk.geometry ≡ env.geometry → walk.key ≡ port
        → knowing (Some place) place (Differs place word port n walk.before walk.length) M G
        → WalkKnows place word (followed walk n (chain_of M n)
        (node_of walk.geometry.nodes (chain_of M n))) M G
    walk_on n walk geometry key knows = go stands.rear stands.split (rw stands.split at chain_here lock)
      where
        lock : HoldsLock env mix c G place word
        lock = knows.means.bucket.standing.lock

        stands : StandsAt M (G.bucket j).nodes port n walk.before
        stands = knows.means.bucket.standing.stands

        differs : key_of M n ≢ port
        differs = knows.means.bucket.differs

        front : List ℕ
        front = stands.front

        go : (rear : List ℕ) → (G.bucket j).nodes ≡ front ++ n ∷ rear
            → IsSegment (chain_of M) (head_of place word) (front ++ n ∷ stands.rear) (marker_of place)
            → WalkKnows place word (followed walk n (chain_of M n)
            (node_of walk.geometry.nodes (chain_of M n))) M G
        go [] e s0 =
            let s = rw e at chain_here lock in
            let cut = IsSegment-cut (chain_of M) front n [] (head_of place word) (marker_of place) s in
            let ends : node_of walk.geometry.nodes (chain_of M n) ≡ None =
            rw geometry (marker_ends (chain_of M n) cut.1) in
            rw ends (known_more (Some place) place (Differs place word port n walk.before walk.length)
            (Missed place word port) M G knows
            (record { lock = lock; none = rw e (NoKey-more front n stands.passed differs) }))
        go (next ∷ rear) e s0 =
            let s = rw e at chain_here lock in
            let cut = IsSegment-cut (chain_of M) front n (next ∷ rear) (head_of place word)
            (marker_of place) s in
            let more : (G.bucket j).nodes ≡ (front ++ n ∷ []) ++ next ∷ rear = e
            ∙ sym (append_snoc front n (next ∷ rear)) in
            let names : node_of walk.geometry.nodes (chain_of M n) ≡ Some next
            = rw geometry (link_names (chain_of M n) next cut.1.0
            (rw more (in-middle next (front ++ n ∷ []) rear))) in
            rw names (
              known_more (Some place) place (Differs place word port n walk.before walk.length)
                  (Stands place word port next (Some n) walk.length) M G knows (record {
                    standing = record {
                      lock = lock;
                      stands = record {
                        front = front ++ n ∷ [];
                        rear = rear;
                        split = more;
                        passed = NoKey-more front n stands.passed differs;
                        last = last_of-more front n;
                      };
                    };
                    counted = knows.means.bucket.counted ∙ sym (length_push front n);
                  }),
              key,
            )

  module _ (words : List ℕ) (G : Ghost) (all : length words ≡ words_in env.geometry)
      (whole : Whole env mix (mem env mix words) G) where
    abbrev M : Memory
    M = mem env mix words

    -- ---- an operation of the walk

    abbrev pub WalkMoved : ℕ → ℕ → Op → LockedWalkModel × Next Seen → Type 0
    WalkMoved place word op r =
        SilentStep env mix c words G op (holding (Some place)) (holding (Some place)) (WalkKnows place word r)

    -- state by state
    walk_step_at : (place word : ℕ) (before : Option ℕ) (count : ℕ) (at : LockedWalkAt)
        → knowing (Some place) place (known_walk place word port before count at) M G
        → let walk : LockedWalkModel = record {
          geometry = env.geometry;
          key = port;
          before = before;
          length = count;
          at = at;
        } in
        WalkMoved place word (locked_walk_plan walk) (locked_walk_after walk
        (old_of words (locked_walk_plan walk)))
    walk_step_at place word before count (walks.Key n) knows =
        let walk : LockedWalkModel =
        record { geometry = env.geometry; key = port; before = before; length = count; at = walks.Key n } in
        let op = locked_walk_plan walk in
        let key = old_of words op in
        let standing = knows.means.bucket.standing in
        let more = one_more-counted env mix c port M G whole place word n before count knows.means.bucket in
        by_test (λ t. (key == port) ≡ t → WalkMoved place word op
        (cond t (counted walk, Done (found_at (counted walk) n))
        (record (counted walk) { at = walks.ChainLink n }, Go))) (key == port)
        (λ t e. loads env mix c words G op (holding (Some place)) (holding (Some place))
        (WalkKnows place word (counted walk, Done (found_at (counted walk) n))) whole refl refl
        (known_more (Some place) place (Stands place word port n before count) (Found place word port n before)
        M G knows
        (record { standing = standing; key_is = eqb-true key port t })))
        (λ t e. loads env mix c words G op (holding (Some place)) (holding (Some place))
        (WalkKnows place word (record (counted walk) { at = walks.ChainLink n }, Go)) whole refl refl (
          known_more (Some place) place (Stands place word port n before count)
              (Differs place word port n before (one_more count)) M G knows
              (record { standing = standing; differs = eqb-false key port t; counted = more }),
          refl,
        )) refl
    walk_step_at place word before count (walks.ChainLink n) knows =
        let walk : LockedWalkModel =
        record {
          geometry = env.geometry;
          key = port;
          before = before;
          length = count;
          at =
              walks.ChainLink n;
        } in
        let op = locked_walk_plan walk in
        loads env mix c words G op (holding (Some place)) (holding (Some place))
        (WalkKnows place word (locked_walk_after walk (old_of words op))) whole refl refl
        (walk_on M G whole place word n walk refl refl knows)

    pub walk_step : (place word : ℕ) (walk : LockedWalkModel) → walk.geometry ≡ env.geometry → walk.key ≡ port
        → knowing (Some place) place (known_walk place word port walk.before walk.length walk.at) M G
        → WalkMoved place word (locked_walk_plan walk)
        (locked_walk_after walk (old_of words (locked_walk_plan walk)))
    walk_step place word walk geometry key knows =
        subst (λ k. let here : LockedWalkModel = record {
          geometry = walk.geometry;
          key = k;
          before =
              walk.before;
          length = walk.length;
          at = walk.at;
        } in
        WalkMoved place word (locked_walk_plan here) (locked_walk_after here
        (old_of words (locked_walk_plan here)))) (sym key)
        (subst (λ g. let here : LockedWalkModel = record {
          geometry = g;
          key = port;
          before =
              walk.before;
          length = walk.length;
          at = walk.at;
        } in
        WalkMoved place word (locked_walk_plan here) (locked_walk_after here
        (old_of words (locked_walk_plan here)))) (sym geometry)
        (walk_step_at place word walk.before walk.length walk.at knows))

    -- ---- the lock

    abbrev pub LockKnows : LockModel × Next ℕ → Memory → Ghost → Type 0
    LockKnows (lock, Go) M' G' = knowing None lock.place Unlocked M' G'
    LockKnows (lock, Done word) M' G' = knowing (Some lock.place) lock.place (Locks lock.place word) M' G'

    abbrev pub LockMoved : Op → LockModel × Next ℕ → Type 0
    LockMoved op r = SilentStep env mix c words G op (holding None) (holding (locked_by r)) (LockKnows r)

    -- the exchange that finds the word that it looks for takes the lock
    lock_taken_step : (place found : ℕ) → found % 2 ≡ 0
        → old_of words (Exchange place found (found + 1)) ≡ found
        → knowing None place Unlocked M G
        → LockMoved (Exchange place found (found + 1))
        (record { place = place; at = locks.Exchange found }, Done found)
    lock_taken_step place found even same knows =
        let op = Exchange place found (found + 1) in
        let at = knows.means.table in
        let j = word_index env mix place in
        let is : place_at env mix j ≡ place = place_at-index env mix place at.bucket in
        let here : M (PageWord j) ≡ found = ap (λ p. slice_index words p) is ∙ same in
        let M' = mem env mix (applied words op) in
        let write : IsWrite env.geometry M M' (PageWord j) (found + 1)
        = subst (λ v. IsWrite env.geometry M M' (PageWord j) v) (exchanged here)
        (is_write env.geometry words (PageWord j) op all (index-within env mix place at.bucket) (sym is)) in
        let since : IsSince (G.from c) (table_at G j) =
        subst (IsSince (G.from c))
        (sym (home-table env mix M G whole port at.passing.at.table j (at-there at.passing.at) at.here)) at.passing.since in
        let taken = take_lock env mix c j found M M' G whole (index-within env mix place at.bucket)
        (home-bucket env mix M G whole port at.passing.at.table j (at-there at.passing.at) at.here) since here
        even write in
        let b = held_by (G.bucket j) (Some c) in
        silent env mix c words G op (holding None) (holding (Some place))
        (LockKnows (record { place = place; at = locks.Exchange found }, Done found)) (TakesLock j)
        whole since tt taken.0
        (record {
          on = sym is;
          even = rw same even;
          locks = ap (λ w. word_after w op) same ∙ exchanged_word ∙ ap (λ w. w + 1) (sym same);
          none = refl;
          holds = ap (λ p. bare (holding (Some p))) (sym is);
        })
        (with-holder env mix c h node (AtHome port slot shape place) words G all whole None place
        Unlocked (Some c) op (found + 1) knows write (unworked_free env mix G j taken.2) (Some place)
        (Locks place found)
        (put-all (λ i bucket. bucket.holder ≡ Some c → (Some place ≡ Some (place_at env mix i))
        ⊎ (h.second ≡ Some (place_at env mix i))) G.bucket j b
        (λ holds. inl (ap Some (sym is)))
        (λ i ne holds. elim (knows.only.locks i holds) [ inl none ↦ absurd (cc) | inr second ↦ inr second ]))
        (record {
          bucket = at.bucket;
          holder = ap (λ x. x.holder) (put-same G.bucket j b);
          plain = ap
              (λ x. x.plain) (put-same G.bucket j b) ∙ taken.1;
          unarmed = ap (λ x. x.armed) (put-same G.bucket j b);
          still = ap (λ x. x.out) (put-same G.bucket j b) ∙ free-still env mix M G j whole taken.2;
        }))
      where
        exchanged_word : word_after found (Exchange place found (found + 1)) ≡ found + 1
        exchanged_word = rw (eq-eqb found found refl) refl

        exchanged : M (PageWord (word_index env mix place)) ≡ found
            → word_after (word_at env.geometry words (PageWord (word_index env mix place)))
            (Exchange place found (found + 1)) ≡ found + 1
        exchanged is = ap (λ w. word_after w (Exchange place found (found + 1))) is ∙ exchanged_word

    lock_step_at : (place : ℕ) (at : LockAt) → IsEven at → knowing None place Unlocked M G
        → let lock : LockModel = record { place = place; at = at } in
        LockMoved (lock_plan lock) (lock_after lock (old_of words (lock_plan lock)))
    lock_step_at place locks.Word even knows =
        let word = old_of words (Load place) in
        by_test (λ t. LockMoved (Load place) (cond t (record { place = place; at = locks.Word }, Go)
        (record { place = place; at = locks.Exchange word }, Go))) (word % 2 == 1)
        (λ t. loads env mix c words G (Load place) (holding None) (holding None)
        (LockKnows (record { place = place; at = locks.Word }, Go)) whole refl refl knows)
        (λ t. loads env mix c words G (Load place) (holding None) (holding None)
        (LockKnows (record { place = place; at = locks.Exchange word }, Go)) whole refl refl knows)
    lock_step_at place (locks.Exchange found) even knows =
        let op = Exchange place found (found + 1) in
        let word = old_of words op in
        by_test (λ t. (word == found) ≡ t → LockMoved op
        (cond t (record { place = place; at = locks.Exchange found }, Done found)
        (record { place = place; at = locks.Word }, Go))) (word == found)
        (λ t e. lock_taken_step place found even (eqb-true word found t) knows)
        (λ t e. loads env mix c words G op (holding None) (holding None)
        (LockKnows (record { place = place; at = locks.Word }, Go)) whole (rw t refl) refl knows) refl

    pub lock_step : (lock : LockModel) → IsEven lock.at → knowing None lock.place Unlocked M G
        → LockMoved (lock_plan lock) (lock_after lock (old_of words (lock_plan lock)))
    lock_step lock even knows = lock_step_at lock.place lock.at even knows

    -- ---- the probe, state by state

    -- what is known once the probe goes on, and once it has ended
    abbrev pub ProbeKnows : ProbeAt × Next Probed → Memory → Ghost → Type 0
    ProbeKnows (at, Go) M' G' = knowing (lock_of_probe at) (place_of_probe at) (known_probe port at) M'
        G' × IsProbeFor port at
    ProbeKnows (at, Done probed) M' G' =
        knowing (Some probed.bucket.place) probed.bucket.place
        (known_seen probed.bucket.place probed.bucket.word port probed.seen) M' G'

    abbrev pub ProbeMoved : Op → Option ℕ → ProbeAt × Next Probed → Type 0
    ProbeMoved op lock r = SilentStep env mix c words G op (holding lock) (holding (probed_by r)) (ProbeKnows r)

    -- the walk begins once the lock was taken
    started : (op : Op) (lock : LockModel) (word : ℕ) (start : Start LockedWalkModel Seen)
        → SilentStep env mix c words G op (holding None) (holding (Some lock.place))
        (StartKnows lock.place word start)
        → ProbeMoved op None (walk_or_seen lock (record { place = lock.place; word = word }) start)
    started op lock word (starts.Running walk) step = step
    started op lock word (starts.Done seen) step = step

    lock_next : (op : Op) (r : LockModel × Next ℕ) → LockMoved op r
        → ProbeMoved op None (lock_taken env.geometry port r.0 r.1)
    lock_next op (lock, Go) step =
        silent-map env mix (λ M' G' w k. (k, tt)) step
    lock_next op (lock, Done word) step =
        started op lock word (locked_walk_new env.geometry lock.place word port)
        (silent-map env mix (λ M' G' w k. walk_start M' G' w lock.place word k) step)

    walk_next : (op : Op) (bucket : Locked) (r : LockedWalkModel × Next Seen)
        → WalkMoved bucket.place bucket.word op r
        → ProbeMoved op (Some bucket.place) (walk_taken bucket r.0 r.1)
    walk_next op bucket (walk, Go) step = step
    walk_next op bucket (walk, Done seen) step = step

    -- what an operation of the probe leads to, from what the call holds at its state
    abbrev pub ProbeStep : ProbeModel → Type 0
    ProbeStep m =
        let r = probe_after m (old_of words (probe_plan m)) in
        ProbeMoved (probe_plan m) (lock_of_probe m.at) (r.0.at, r.1)

    probe_step_at : (at : ProbeAt) → IsProbeAtIn env.geometry at → IsProbeFor port at
        → knowing (lock_of_probe at) (place_of_probe at) (known_probe port at) M G
        → ProbeStep (record { geometry = env.geometry; key = port; at = at })
    probe_step_at (probes.Locking lock) is for_port knows =
        lock_next (lock_plan lock) (lock_after lock (old_of words (lock_plan lock)))
        (lock_step lock is.even knows)
    probe_step_at (probes.Walking bucket walk) is for_port knows =
        walk_next (locked_walk_plan walk) bucket (locked_walk_after walk
        (old_of words (locked_walk_plan walk)))
        (walk_step bucket.place bucket.word walk is.walk_in.geometry_same for_port knows)

    pub probe_step : (m : ProbeModel) → IsProbeIn env.geometry m → m.key ≡ port → IsProbeFor port m.at
        → knowing (lock_of_probe m.at) (place_of_probe m.at) (known_probe port m.at) M G → ProbeStep m
    probe_step m is key for_port knows =
        subst (λ k. ProbeStep (record { geometry = m.geometry; key = k; at = m.at })) (sym key)
        (subst (λ g. ProbeStep (record { geometry = g; key = port; at = m.at })) (sym is.geometry_same)
        (probe_step_at m.at is.at_in for_port knows))
