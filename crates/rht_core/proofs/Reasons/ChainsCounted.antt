-- What a bind has counted in a bucket that it has locked, operation by operation.
--
-- From the load of the table's shape on a bind loads no key but those of the nodes at which its walk stands. At the event of such
-- a load the bucket is locked, so the nodes met from its word are the bucket's; the walk has as many of them behind it as it has
-- counted, by what the bind knows; and each of them is what a port is bound to. So the operation counted its node, unless it found its own
-- port there: then the walk ends, and nothing is kept. Any other operation leaves what was counted.
--
-- A walk in vain ends at a link that leads to no node, or at the exchange that took the lock of an empty bucket. Then it has counted all nodes
-- that the bucket has.
--
-- At the event of such a load the port's bucket has its number by the seed in the slot's word, and its word is at its place. That stays so,
-- and no other bucket of the table ever has the word. So the loads of keys all found one bucket there.
use Rattle.std.proofs.Common.{◌≡◌, ◌≢◌, ◌⊎◌, ℕ, zero, suc, slice_index, ◌+◌, ◌<◌, ◌≤◌, ◌%◌, ◌==◌, List, [], ◌∷◌, ◌++◌, length, cond, refl, sym, ap, ◌∙◌, subst, inl, inr, arith, append_assoc}
use Rattle.std.specs.Prelude.{Option, Some, None}
use Rattle.std.specs.List.{AllByRecursion, Any}
use Rattle.std.proofs.lemmas.Bool.{eqb-false, eqb-true}
use Rattle.std.proofs.lemmas.List.Quantifiers.{Any-push}
use Rattle.std.proofs.lemmas.List.{length-append, length_push}
use Rattle.rht_words.specs.declared.env.Env.{Env}
use Rattle.rht_words.specs.declared.op.Op.TheVariants.{Load}
use Rattle.rht_words.specs.declared.geometry.Geometry.{Geometry}
use Rattle.rht_words.specs.declared.machine.Next.{Next}
use Rattle.rht_words.specs.declared.machine.Next.TheVariants.{Go, Done}
use Rattle.rht_words.specs.Links.{node_of, head_of}
use Rattle.rht_words.specs.Places.{Slot, SeedWord, Node, KeyWord, ChainLink, place_of, word_at}
use Rattle.rht_words.specs.Operations.{old_of}
use Rattle.rht_words.specs.Chains.{IsSegment}
use Rattle.rht_words.specs.Members.{In}
use Rattle.rht_words.proofs.Members.{In-append_right}
use Rattle.rht_words.proofs.ChainLemmas.{IsSegment-cut}
use Rattle.rht_words.proofs.LinksRead.{links_tell_apart}
use Rattle.rht_words.specs.Shapes.{unpacked, size_of}
use Rattle.rht_words.proofs.Memory.{Memory}
use Rattle.rht_words.proofs.EachElement.{Any-append_left, AllByRecursion-push, AllByRecursion-weaker}
use Rattle.rht_policy.specs.Mix.{bucket_of}
use Rattle.rht_chain.specs.Lock.{LockModel, lock_plan_at, lock_after_at}
use Rattle.rht_chain.specs.declared.lock.LockAt.{LockAt}
use Rattle.rht_chain.specs.declared.lock.LockAt.TheVariants as locks
use Rattle.rht_chain.specs.LockedWalk.{LockedWalkModel, walk_plan_at, walk_after_at, walk_from, followed, counted, found_at, one_more, IsWalkAtIn}
use Rattle.rht_chain.specs.declared.locked.Locked.{Locked}
use Rattle.rht_chain.specs.declared.locked_walk.Seen.{Seen}
use Rattle.rht_chain.specs.declared.locked_walk.LockedWalkAt.{LockedWalkAt}
use Rattle.rht_chain.specs.declared.locked_walk.LockedWalkAt.TheVariants as walks
use Rattle.rht_chain.specs.Probe.{probe_plan_at, probe_after_at, walk_or_seen, lock_taken, walk_taken, IsProbeAtIn}
use Rattle.rht_chain.specs.declared.probe.ProbeAt.{ProbeAt}
use Rattle.rht_chain.specs.declared.probe.ProbeAt.TheVariants as probes
use Rattle.rht_chain.specs.declared.probe.Probed.{Probed}
use Rattle.rht_core.specs.Traces.{Did}
use Rattle.rht_stands.specs.StandsFor.{chain_from, bucket_in, bucket_nodes, stands_for, AreBound}
use Rattle.rht_core.specs.ResizeCauses.{IsNoKeyLoad, CountsNode, AreCounted, FindsBucketAt, SawChain, SawLongChain, SawShortChain, IsWhole}
use Rattle.rht_ghost.proofs.Theory.Ghosts.{Ghost, none-some}
use Rattle.rht_ghost.proofs.Theory.Wholes.{chain_of, word_index, hash_in, place_at, place_at-index, index-within, stop, ChainedRight, Whole, at-there}
use Rattle.rht_ghost.proofs.Theory.Knowns.{StandsAt}
use Rattle.rht_ghost.proofs.Theory.Passed.{hash-below, held-no_entry}
use Rattle.rht_ghost.proofs.Theory.Knowledge.{IsAtHome, IsReaching, IsDiffering, BucketMeans}
use Rattle.rht_ghost.proofs.Theory.Steps.{mem, by_test}
use Rattle.rht_ghost.proofs.Pieces.Probes.{place_of_probe, known_walk, known_probe, IsProbeFor, one_more-counted}
use Rattle.rht_core.proofs.Events.BucketsThere.{StaysAt, BucketsStay}
use Rattle.rht_core.proofs.Events.UnturnedSections.{unturned-now}
use Rattle.rht_core.proofs.Reasons.QuietSteps.{UnturnedBehind}
use Rattle.rht_core.proofs.Meaning.BoundPorts.{still_met}
use Rattle.rht_core.proofs.Counting.CountedPorts.{members-AreBound}
use Rattle.rht_core.proofs.Reasons.KeyLoads.{no_key-link, no_key-lock}
use Rattle.rht_core.proofs.Reasons.PortBuckets.{hash_in-words}

module _ (g : Geometry) (words_at : ℕ → List ℕ) (port : ℕ) where
  -- ---- further operations

  -- where no key was loaded no node was counted
  none-counted : (place number : ℕ) (steps : List Did) → AllByRecursion (IsNoKeyLoad g) steps
      → AreCounted g words_at port place number steps []
  none-counted place number [] none = refl
  none-counted place number (did ∷ steps) none = (none.0, none-counted place number steps none.1)

  -- an operation that loads no key leaves what was counted
  pub counted-still : (place number : ℕ) (steps : List Did) (nodes : List ℕ) (did : Did) → IsNoKeyLoad g did
      → AreCounted g words_at port place number steps nodes
      → AreCounted g words_at port place number (steps ++ did ∷ []) nodes
  counted-still place number [] [] did none counts = (none, refl)
  counted-still place number [] (node ∷ nodes) did none counts = absurd (cc)
  counted-still place number (step ∷ steps) [] did none counts =
      (counts.0, counted-still place number steps [] did none counts.1)
  counted-still place number (step ∷ steps) (node ∷ nodes) did none (inl counts) =
      inl (counts.0, counted-still place (number + 1) steps nodes did none counts.1)
  counted-still place number (step ∷ steps) (node ∷ nodes) did none (inr counts) =
      inr (counts.0, counted-still place number steps (node ∷ nodes) did none counts.1)

  -- and one that counts a node comes last
  counted-more : (place number : ℕ) (steps : List Did) (nodes : List ℕ) (many node : ℕ) (did : Did)
      → many ≡ number + length nodes → CountsNode g words_at port place many node did
      → AreCounted g words_at port place number steps nodes
      → AreCounted g words_at port place number (steps ++ did ∷ []) (nodes ++ node ∷ [])
  counted-more place number [] [] many node did is one counts =
      inl (subst (λ n. CountsNode g words_at port place n node did) (omega (arith, is)) one, refl)
  counted-more place number [] (other ∷ nodes) many node did is one counts = absurd (cc)
  counted-more place number (step ∷ steps) [] many node did is one counts =
      inr (counts.0, counted-more place number steps [] many node did is one counts.1)
  counted-more place number (step ∷ steps) (other ∷ nodes) many node did is one (inl counts) =
      inl (counts.0, counted-more place (number + 1) steps nodes many node did (omega (arith, is)) one counts.1)
  counted-more place number (step ∷ steps) (other ∷ nodes) many node did is one (inr counts) =
      inr (counts.0, counted-more place number steps (other ∷ nodes) many node did is one counts.1)

-- in the table of this shape in this slot
module _ (g : Geometry) (words_at : ℕ → List ℕ) (mix : ℕ → ℕ → ℕ → ℕ) (port table shape : ℕ) where
  -- a bucket with this number, whose word is at this place
  abbrev Finds : ℕ → ℕ → Did → Type 0
  Finds = FindsBucketAt g words_at mix port table shape

  unfoldable pub SawChain-push : (Many : ℕ → Type 0) (steps : List Did) (did : Did) → IsNoKeyLoad g did
      → SawChain g words_at mix port table shape Many steps → SawChain g words_at mix port table shape Many (steps ++ did ∷ [])
  SawChain-push Many steps did none saw = record {
    bucket = saw.bucket;
    within = saw.within;
    place = saw.place;
    bucket_is = AllByRecursion-push (Finds saw.bucket saw.place) steps did saw.bucket_is (λ node loads. absurd (none node loads));
    nodes = saw.nodes;
    counted = counted-still g words_at port saw.place 0 steps saw.nodes did none saw.counted;
    many = saw.many;
  }

  pub SawShortChain-push : (steps : List Did) (did : Did) → IsNoKeyLoad g did → SawShortChain g words_at mix port table shape steps
      → SawShortChain g words_at mix port table shape (steps ++ did ∷ [])
  unfolding SawChain-push
  SawShortChain-push steps did none saw = record {
    chain = SawChain-push (λ many. many < 16) steps did none saw.chain;
    whole = Any-append_left (IsWhole g words_at mix port table shape saw.chain.place (length saw.chain.nodes)) steps (did ∷ []) saw.whole;
  }

-- and by this caller
module _ (g : Geometry) (words_at : ℕ → List ℕ) (mix : ℕ → ℕ → ℕ → ℕ) (port table shape c : ℕ) where
  -- a bucket with this number, whose word is at this place
  abbrev FindsIn : ℕ → ℕ → Did → Type 0
  FindsIn = FindsBucketAt g words_at mix port table shape

  -- ---- where the bucket is found

  -- before this event the port's bucket has this number, and from there on its word is at this place, while the caller's section stays open
  pub record HasPlace (place from : ℕ) : Type 0 where
    pub number : ℕ
    pub number_is : number ≡ bucket_of mix port shape (word_at g (words_at from) (Slot table SeedWord))
    pub within : number < size_of (unpacked shape)
    pub stays : StaysAt g words_at c shape number place from

  -- where it is now
  place_now : (place from : ℕ) (has : HasPlace place from) → bucket_in g (words_at from) shape has.number ≡ Some place
  place_now place from has = has.stays.there from (unturned-now g words_at c from)

  -- it was so at one of these operations, and each load of a key found that bucket there
  pub record FoundAt (place : ℕ) (steps : List Did) : Type 0 where
    pub sooner : List Did
    pub at : Did
    pub later : List Did
    pub split : steps ≡ sooner ++ at ∷ later
    pub has : HasPlace place at.index
    pub each : AllByRecursion (FindsIn has.number place) steps

  -- so it is of these operations, unless none of them loaded a key
  abbrev pub FoundSoFar : ℕ → List Did → Type 0
  FoundSoFar place steps = AllByRecursion (IsNoKeyLoad g) steps ⊎ FoundAt place steps

  finds-nothing : (number place : ℕ) (steps : List Did) → AllByRecursion (IsNoKeyLoad g) steps
      → AllByRecursion (FindsIn number place) steps
  finds-nothing number place steps none =
      AllByRecursion-weaker (IsNoKeyLoad g) (FindsIn number place) (λ did no_key node loads. absurd (no_key node loads)) steps none

  found-still : (place : ℕ) (steps : List Did) (did : Did) → IsNoKeyLoad g did → FoundSoFar place steps
      → FoundSoFar place (steps ++ did ∷ [])
  found-still place steps did no_key (inl none) = inl (AllByRecursion-push (IsNoKeyLoad g) steps did none no_key)
  found-still place steps did no_key (inr found) = inr (record {
    sooner = found.sooner;
    at = found.at;
    later = found.later ++ did ∷ [];
    split = ap (λ l. l ++ did ∷ []) found.split ∙ append_assoc found.sooner (found.at ∷ found.later) (did ∷ []);
    has = found.has;
    each = AllByRecursion-push (FindsIn found.has.number place) steps did found.each (λ node loads. absurd (no_key node loads));
  })

  -- one that is at this place at its event found the one that those before it found
  found-more : (place : ℕ) (steps : List Did) (did : Did) → UnturnedBehind g words_at c steps did.index → HasPlace place did.index
      → FoundSoFar place steps → FoundSoFar place (steps ++ did ∷ [])
  found-more place steps did calm has (inl none) = inr (record {
    sooner = steps;
    at = did;
    later = [];
    split = refl;
    has = has;
    each = AllByRecursion-push (FindsIn has.number place) steps did (finds-nothing has.number place steps none)
        (λ node loads. record { bucket_is = has.number_is; place_is = place_now place did.index has });
  })
  found-more place steps did calm has (inr found) =
      let number = found.has.number in
      let same : number ≡ has.number = has.stays.only did.index number (unturned-now g words_at c did.index) found.has.within
      (found.has.stays.there did.index (calm found.sooner found.at found.later found.split)) in
      inr (record {
        sooner = found.sooner;
        at = found.at;
        later = found.later ++ did ∷ [];
        split = ap (λ l. l ++ did ∷ []) found.split ∙ append_assoc found.sooner (found.at ∷ found.later) (did ∷ []);
        has = found.has;
        each = AllByRecursion-push (FindsIn number place) steps did found.each (λ node loads. record {
          bucket_is = same ∙ has.number_is;
          place_is = ap (bucket_in g (words_at did.index) shape) same ∙ place_now place did.index has;
        });
      })

  -- ---- a bind in a bucket

  -- so many nodes were counted in the bucket at this place, none of them with the port
  pub record HasCounted (place count : ℕ) (steps : List Did) : Type 0 where
    pub nodes : List ℕ
    pub counted : AreCounted g words_at port place 0 steps nodes
    pub many : count ≡ length nodes
    pub found : FoundSoFar place steps

  -- before a key is loaded none was
  pub HasCounted-none : (place : ℕ) (steps : List Did) → AllByRecursion (IsNoKeyLoad g) steps → HasCounted place 0 steps
  HasCounted-none place steps none =
      record { nodes = []; counted = none-counted g words_at port place 0 steps none; many = refl; found = inl none }

  pub HasCounted-push : (place count : ℕ) (steps : List Did) (did : Did) → IsNoKeyLoad g did → HasCounted place count steps
      → HasCounted place count (steps ++ did ∷ [])
  HasCounted-push place count steps did none has = record {
    nodes = has.nodes;
    counted = counted-still g words_at port place 0 steps has.nodes did none has.counted;
    many = has.many;
    found = found-still place steps did none has.found;
  }

  -- a walk that has ended has counted all nodes that the bucket had then
  pub record HasWalked (place count : ℕ) (steps : List Did) : Type 0 where
    pub counted : HasCounted place count steps
    pub whole : Any (IsWhole g words_at mix port table shape place count) steps

  pub HasWalked-push : (place count : ℕ) (steps : List Did) (did : Did) → IsNoKeyLoad g did → HasWalked place count steps
      → HasWalked place count (steps ++ did ∷ [])
  HasWalked-push place count steps did none has = record {
    counted = HasCounted-push place count steps did none has.counted;
    whole = Any-append_left (IsWhole g words_at mix port table shape place count) steps (did ∷ []) has.whole;
  }

  -- where it found the port nothing is kept
  abbrev pub CountedUnless : Option ℕ → ℕ → ℕ → List Did → Type 0
  CountedUnless None place count steps = HasWalked place count steps
  CountedUnless (Some node) place count steps = Unit {0}

  -- while it takes the lock and walks the bucket
  abbrev pub WalkCounted : ProbeAt → List Did → Type 0
  WalkCounted (probes.Locking lock) steps = HasCounted lock.place 0 steps
  WalkCounted (probes.Walking bucket walk) steps = HasCounted bucket.place walk.length steps

  -- after an operation of the walk, and of all of that
  abbrev CountedWalk : ℕ → LockedWalkModel × Next Seen → List Did → Type 0
  CountedWalk place (walk, Go) steps = HasCounted place walk.length steps
  CountedWalk place (walk, Done seen) steps = CountedUnless seen.found place seen.length steps

  abbrev pub CountedNext : ProbeAt × Next Probed → List Did → Type 0
  CountedNext (at, Go) steps = WalkCounted at steps
  CountedNext (at, Done probed) steps = CountedUnless probed.seen.found probed.bucket.place probed.seen.length steps

  -- the walk begins with no node counted, and ends at once where the bucket is empty
  began-counted : (h : Geometry) (key first : ℕ) (lock : LockModel) (bucket : Locked) (next : Option ℕ) (steps : List Did)
      → (next ≡ None → Any (IsWhole g words_at mix port table shape bucket.place 0) steps)
      → HasCounted bucket.place 0 steps → CountedNext (walk_or_seen lock bucket (walk_from h key first next)) steps
  began-counted h key first lock bucket None steps ends has = record { counted = has; whole = ends refl }
  began-counted h key first lock bucket (Some node) steps ends has = has

  -- the exchange that takes the lock finds the bucket empty, where its word leads to no node
  abbrev EndsEmpty : Geometry → LockModel → LockAt → ℕ → List Did → Type 0
  EndsEmpty h lock state word steps =
      (found : ℕ) → state ≡ locks.Exchange found → word ≡ found → node_of h.nodes (head_of lock.place found) ≡ None
      → Any (IsWhole g words_at mix port table shape lock.place 0) steps

  -- once the lock is taken
  lock-counted : (h : Geometry) (key : ℕ) (lock : LockModel) (state : LockAt) (word : ℕ) (steps : List Did)
      → EndsEmpty h lock state word steps
      → HasCounted lock.place 0 steps → let r = lock_after_at lock state word in CountedNext (lock_taken h key r.0 r.1) steps
  lock-counted h key lock locks.Word word steps ends has =
      by_test (λ t. let r = cond {A = LockModel × Next ℕ} t (lock, Go) (record lock { at = locks.Exchange word }, Go) in
      CountedNext (lock_taken h key r.0 r.1) steps) (word % 2 == 1) (λ t. has) (λ f. has)
  lock-counted h key lock (locks.Exchange found) word steps ends has =
      let first = head_of lock.place found in
      by_test (λ t. let r = cond {A = LockModel × Next ℕ} t (lock, Done found) (record lock { at = locks.Word }, Go) in
      CountedNext (lock_taken h key r.0 r.1) steps) (word == found)
      (λ t. began-counted h key first lock (record { place = lock.place; word = found }) (node_of h.nodes first) steps
      (ends found refl (eqb-true word found t)) has)
      (λ f. has)

  -- behind the link of a node as many nodes are counted as before, and these are all where it leads to none
  followed-counted : (place : ℕ) (walk : LockedWalkModel) (node link : ℕ) (next : Option ℕ) (steps : List Did)
      → (next ≡ None → Any (IsWhole g words_at mix port table shape place walk.length) steps)
      → HasCounted place walk.length steps → CountedWalk place (followed walk node link next) steps
  followed-counted place walk node link None steps ends has = record { counted = has; whole = ends refl }
  followed-counted place walk node link (Some next) steps ends has = has

  walk_taken-counted : (bucket : Locked) (r : LockedWalkModel × Next Seen) (steps : List Did) → CountedWalk bucket.place r steps
      → CountedNext (walk_taken bucket r.0 r.1) steps
  walk_taken-counted bucket (walk, Go) steps has = has
  walk_taken-counted bucket (walk, Done seen) steps has = has

-- ---- at the event of an operation, in these words

module _ (env : Env) (mix : ℕ → ℕ → ℕ → ℕ) (words_at : ℕ → List ℕ) (c port : ℕ) (words : List ℕ) (G : Ghost)
    (whole : Whole env mix (mem env mix words) G) where
  abbrev g : Geometry
  g = env.geometry

  abbrev M : Memory
  M = mem env mix words

  -- the load of a node's key counts it, where that isn't the port
  key-counts : (place word node : ℕ) (before : Option ℕ) (count : ℕ) (did : Did) → node < g.nodes
      → IsReaching env mix c M G place word port node before count → did.op ≡ Load (place_of g (Node node KeyWord))
      → words ≡ words_at did.index → did.old ≢ port → CountsNode g words_at port place count node did
  key-counts place word node before count did within is loads now other =
      let j = word_index env mix place in
      let lock = is.standing.lock in
      let at = is.standing.stands in
      let below = index-within env mix place lock.bucket in
      let plain = held-no_entry env mix M G whole j c lock.holder in
      let met = subst (λ p. bucket_nodes g words (Some p) ≡ (G.bucket j).nodes) (place_at-index env mix place lock.bucket)
      (still_met env mix words G whole j below plain lock.still) in
      let many = ap length at.split ∙ length-append at.front (node ∷ at.rear) in
      let counted = is.counted in
      let bound = members-AreBound env mix words G whole j (count + 1) below plain (omega (arith, many, counted)) in
      record {
        loads = record { node_in = within; loads = loads };
        other = other;
        front = at.front;
        rear = at.rear;
        stands = subst (λ w. bucket_nodes g w (Some place) ≡ at.front ++ node ∷ at.rear) now (met ∙ at.split);
        as_many = sym counted;
        bound = subst (λ w. AreBound (stands_for g w) (count + 1)) now bound;
      }

  -- the bucket of the port in a table is at its place from the event on
  home-place : (table shape place from : ℕ) → IsAtHome env mix c G port table (Some shape) place → words ≡ words_at from
      → BucketsStay env mix words_at c G from → HasPlace g words_at mix port table shape c place from
  home-place table shape place from is now stay =
      let τ = is.passing.at.table in
      let number = hash_in env mix G port τ in
      let below = hash-below env mix M G whole port τ in
      let number_is = hash_in-words env mix words G whole port table (G.table τ).shape is.passing.at refl in
      subst (λ s. HasPlace g words_at mix port table s c place from) is.shape_is (record {
        number = number;
        number_is = subst (λ ws. number ≡ bucket_of mix port (G.table τ).shape (word_at g ws (Slot table SeedWord))) now number_is;
        within = below;
        stays = subst (λ p. StaysAt g words_at c (G.table τ).shape number p from) (place_at-index env mix place is.bucket)
            (stay τ number (word_index env mix place) (at-there is.passing.at) is.passing.since below is.here).0;
      })

  -- ---- the end of a walk

  -- a bucket from whose word no node is met
  none_met : (fuel : ℕ) → chain_from g words fuel None ≡ []
  none_met zero = refl
  none_met (suc fuel) = refl

  empty-whole : (table shape place found : ℕ) (did : Did) → HasPlace g words_at mix port table shape c place did.index
      → slice_index words place ≡ found → words ≡ words_at did.index → node_of g.nodes (head_of place found) ≡ None
      → IsWhole g words_at mix port table shape place 0 did
  empty-whole table shape place found did there word now none = record {
    bucket = there.number;
    has = record { bucket_is = there.number_is; place_is = place_now g words_at mix port table shape c place did.index there };
    many = subst (λ w. length (bucket_nodes g w (Some place)) ≡ 0) now
        (ap length (ap (λ w. chain_from g words g.nodes (node_of g.nodes (head_of place w))) word
        ∙ ap (chain_from g words g.nodes) none ∙ none_met g.nodes));
  }

  -- behind a node whose link leads to none there is no other in its bucket
  last-node : (place word node : ℕ) (before : Option ℕ) (count : ℕ) → IsDiffering env mix c M G place word port node before count
      → node_of g.nodes (M (Node node ChainLink)) ≡ None → length (G.bucket (word_index env mix place)).nodes ≡ count
  last-node place word node before count is none = go at.rear at.split
    where
      j : ℕ
      j = word_index env mix place

      at : StandsAt M (G.bucket j).nodes port node before
      at = is.standing.stands

      chained : ChainedRight env mix M j (G.bucket j)
      chained =
          (whole.buckets j (index-within env mix place is.standing.lock.bucket)
          (held-no_entry env mix M G whole j c is.standing.lock.holder)).chained

      go : (rear : List ℕ) → (G.bucket j).nodes ≡ at.front ++ node ∷ rear → length (G.bucket j).nodes ≡ count
      go [] e =
          let many = ap length e ∙ length-append at.front (node ∷ []) in
          let counted = is.counted in omega (arith, many, counted)
      go (next ∷ rear) e =
          let end = stop env mix (place_at env mix j) (G.bucket j).out in
          let first = head_of (place_at env mix j) (G.bucket j).plain in
          let cut = IsSegment-cut (chain_of M) at.front node (next ∷ rear) first end
          (subst (λ nodes. IsSegment (chain_of M) first nodes end) e chained.segment) in
          let there : In next (G.bucket j).nodes =
          subst (In next) (sym e) (In-append_right next at.front (node ∷ next ∷ rear) (inr (inl refl))) in
          let among = (whole.owned.first_at next j (whole.owned.member j next there)).among in
          absurd (none-some none (ap (node_of g.nodes) cut.1.0 ∙ links_tell_apart.link_names g.nodes next among))

  ended-whole : (table shape place word node : ℕ) (before : Option ℕ) (count : ℕ) (did : Did)
      → HasPlace g words_at mix port table shape c place did.index → IsDiffering env mix c M G place word port node before count
      → M (Node node ChainLink) ≡ did.old → words ≡ words_at did.index → node_of g.nodes did.old ≡ None
      → IsWhole g words_at mix port table shape place count did
  ended-whole table shape place word node before count did there is link now none =
      let j = word_index env mix place in
      let lock = is.standing.lock in
      let below = index-within env mix place lock.bucket in
      let met = subst (λ p. bucket_nodes g words (Some p) ≡ (G.bucket j).nodes) (place_at-index env mix place lock.bucket)
      (still_met env mix words G whole j below (held-no_entry env mix M G whole j c lock.holder) lock.still) in
      record {
        bucket = there.number;
        has = record { bucket_is = there.number_is; place_is = place_now g words_at mix port table shape c place did.index there };
        many = subst (λ w. length (bucket_nodes g w (Some place)) ≡ count) now
            (ap length met ∙ last-node place word node before count is (ap (node_of g.nodes) link ∙ none));
      }

  -- ---- an operation of the walk

  walk-counted : (table shape place word : ℕ) (walk : LockedWalkModel) (state : LockedWalkAt) (steps : List Did) (did : Did)
      → IsWalkAtIn g walk.before state → walk.key ≡ port → UnturnedBehind g words_at c steps did.index → HasPlace g words_at mix port table shape c place did.index
      → BucketMeans env mix c M G (known_walk place word port walk.before walk.length state)
      → did.op ≡ walk_plan_at g state → walk.geometry ≡ g → did.old ≡ old_of words did.op → words ≡ words_at did.index
      → HasCounted g words_at mix port table shape c place walk.length steps
      → CountedWalk g words_at mix port table shape c place (walk_after_at walk state did.old) (steps ++ did ∷ [])
  walk-counted table shape place word walk (walks.Key node) steps did within key calm there knows is same old now has =
      let further = one_more-counted env mix c port M G whole place word node walk.before walk.length knows in
      let counted_so = knows.counted in
      let many = has.many in
      let longer = length_push has.nodes node in
      let more : did.old ≢ port → HasCounted g words_at mix port table shape c place (one_more walk.length) (steps ++ did ∷ []) =
      λ differs. record {
        nodes = has.nodes ++ node ∷ [];
        counted = counted-more g words_at port place 0 steps has.nodes walk.length node did (omega (arith, many))
            (key-counts place word node walk.before walk.length did within.0 knows is now differs) has.counted;
        many = omega (arith, further, counted_so, many, longer);
        found = found-more g words_at mix port table shape c place steps did calm there has.found;
      } in
      let found : LockedWalkModel × Next Seen = (counted walk, Done (found_at (counted walk) node)) in
      let other : LockedWalkModel × Next Seen = (record (counted walk) { at = walks.ChainLink node }, Go) in
      by_test (λ t. CountedWalk g words_at mix port table shape c place (cond t found other) (steps ++ did ∷ []))
      (did.old == walk.key) (λ t. tt) (λ f. more (subst (λ k. did.old ≢ k) key (eqb-false did.old walk.key f)))
  walk-counted table shape place word walk (walks.ChainLink node) steps did within key calm there knows is same old now has =
      followed-counted g words_at mix port table shape c place walk node did.old (node_of walk.geometry.nodes did.old)
      (steps ++ did ∷ [])
      (λ none. Any-push (IsWhole g words_at mix port table shape place walk.length) steps did
      (ended-whole table shape place word node walk.before walk.length did there knows (sym (old ∙ ap (old_of words) is)) now
      (subst (λ (of : Geometry). node_of of.nodes did.old ≡ None) same none)))
      (HasCounted-push g words_at mix port table shape c place walk.length steps did (no_key-link g did node is) has)

  pub probe-counted : (table shape : ℕ) (h : Geometry) (key : ℕ) (state : ProbeAt) (steps : List Did) (did : Did)
      → IsProbeAtIn g state → IsProbeFor port state → IsAtHome env mix c G port table (Some shape) (place_of_probe state)
      → BucketMeans env mix c M G (known_probe port state) → did.op ≡ probe_plan_at state
      → h ≡ g → did.old ≡ old_of words did.op → words ≡ words_at did.index → BucketsStay env mix words_at c G did.index
      → UnturnedBehind g words_at c steps did.index → WalkCounted g words_at mix port table shape c state steps
      → CountedNext g words_at mix port table shape c (probe_after_at h key state did.old) (steps ++ did ∷ [])
  probe-counted table shape h key (probes.Locking lock) steps did within for home knows is same old now stay calm has =
      lock-counted g words_at mix port table shape c h key lock lock.at did.old (steps ++ did ∷ [])
      (λ found at exchanged none. Any-push (IsWhole g words_at mix port table shape lock.place 0) steps did
      (empty-whole table shape lock.place found did (home-place table shape lock.place did.index home now stay)
      (sym (old ∙ ap (old_of words) (is ∙ ap (lock_plan_at lock.place) at)) ∙ exchanged) now
      (subst (λ (of : Geometry). node_of of.nodes (head_of lock.place found) ≡ None) same none)))
      (HasCounted-push g words_at mix port table shape c lock.place 0 steps did
      (no_key-lock g did lock.place lock.at within.place_in is) has)
  probe-counted table shape h key (probes.Walking bucket walk) steps did within for home knows is same old now stay calm has =
      let planned = is ∙ ap (λ (of : Geometry). walk_plan_at of walk.at) within.walk_in.geometry_same in
      walk_taken-counted g words_at mix port table shape c bucket (walk_after_at walk walk.at did.old) (steps ++ did ∷ [])
      (walk-counted table shape bucket.place bucket.word walk walk.at steps did within.walk_in.at_in for calm
      (home-place table shape bucket.place did.index home now stay) knows planned within.walk_in.geometry_same old now has)

  -- the bucket in which they were counted is one of the table's, whether a key was loaded or none
  pub record FoundIn (table shape place : ℕ) (steps : List Did) : Type 0 where
    pub bucket : ℕ
    pub within : bucket < size_of (unpacked shape)
    pub each : AllByRecursion (FindsBucketAt g words_at mix port table shape bucket place) steps

  found-in : (table shape by place : ℕ) (steps : List Did) → IsAtHome env mix c G port table (Some shape) place
      → FoundSoFar g words_at mix port table shape by place steps → FoundIn table shape place steps
  found-in table shape by place steps is (inl none) =
      let τ = is.passing.at.table in
      let number = hash_in env mix G port τ in
      record {
        bucket = number;
        within = subst (λ s. number < size_of (unpacked s)) is.shape_is (hash-below env mix M G whole port τ);
        each = finds-nothing g words_at mix port table shape by number place steps none;
      }
  found-in table shape by place steps is (inr found) =
      record { bucket = found.has.number; within = found.has.within; each = found.each }

  -- the nodes that were counted in a port's bucket are its chain, of which this is so
  abbrev chain-counted : (Many : ℕ → Type 0) (table shape by place count : ℕ) (steps : List Did)
      → IsAtHome env mix c G port table (Some shape) place → Many count → HasCounted g words_at mix port table shape by place count steps
      → SawChain g words_at mix port table shape Many steps
  chain-counted Many table shape by place count steps is so has =
      let found = found-in table shape by place steps is has.found in
      record {
        bucket = found.bucket;
        within = found.within;
        place = place;
        bucket_is = found.each;
        nodes = has.nodes;
        counted = has.counted;
        many = subst Many has.many so;
      }

  -- 16 or more are a long one
  pub long-counted : (table shape by place count : ℕ) (steps : List Did) → IsAtHome env mix c G port table (Some shape) place
      → 16 ≤ count → HasWalked g words_at mix port table shape by place count steps
      → SawLongChain g words_at mix port table shape steps
  long-counted table shape by place count steps is enough has =
      chain-counted (λ many. 16 ≤ many) table shape by place count steps is enough has.counted

  -- and fewer a short one
  pub short-counted : (table shape by place count : ℕ) (steps : List Did) → IsAtHome env mix c G port table (Some shape) place
      → count < 16 → HasWalked g words_at mix port table shape by place count steps
      → SawShortChain g words_at mix port table shape steps
  short-counted table shape by place count steps is few has = record {
    chain = chain-counted (λ many. many < 16) table shape by place count steps is few has.counted;
    whole = subst (λ n. Any (IsWhole g words_at mix port table shape place n) steps) has.counted.many has.whole;
  }
