-- On the way to a port's bucket, and in that bucket, a caller stands next only where it could come to before.
use Rattle.std.proofs.Common.{◌≡◌, ℕ, ◌%◌, List, [], ◌∷◌, Option, Some, None, slice_index, refl, sym, subst}
use Rattle.std.specs.Prelude.{◌==◌}
use Rattle.std.proofs.lemmas.Bool.{cond_both, eqb-true}
use Rattle.rht_words.specs.declared.env.Env.{Env}
use Rattle.rht_words.specs.declared.geometry.Geometry.{Geometry}
use Rattle.rht_words.specs.declared.machine.Next.{Next}
use Rattle.rht_words.specs.declared.machine.Next.TheVariants.{Go, Done}
use Rattle.rht_words.specs.Links.{node_of, head_of}
use Rattle.rht_words.specs.Operations.{old_of}
use Rattle.rht_words.specs.Places.{IsBucketPlace}
use Rattle.rht_words.specs.Standing.{Standing, if_one}
use Rattle.rht_nest.specs.Locate.{LocateModel, locate_plan, locate_after, locate_after_at, hashed, entry_followed}
use Rattle.rht_nest.specs.LocateTables.{tables_of_locate, tables_behind}
use Rattle.rht_nest.specs.Tables.{is_nested}
use Rattle.rht_nest.specs.declared.locate.LocateAt.{LocateAt}
use Rattle.rht_nest.specs.declared.locate.LocateAt.TheVariants as locates
use Rattle.rht_nest.specs.declared.locate.Located.{Located}
use Rattle.rht_nest.specs.declared.locate.LocatedBucket.{LocatedBucket}
use Rattle.rht_nest.specs.declared.locate.LocatedBucket.TheVariants as buckets
use Rattle.rht_nest.specs.declared.place.Bucket.{Bucket}
use Rattle.rht_nest.specs.declared.place.Bucket.TheVariants.{At, Absent}
use Rattle.rht_nest.specs.Place.{PlaceModel}
use Rattle.rht_chain.specs.ChainNodes.{nodes_of_walk, nodes_of_probe}
use Rattle.rht_chain.specs.Lock.{LockModel, lock_plan}
use Rattle.rht_chain.specs.LockedWalk.{LockedWalkModel, locked_walk_plan, locked_walk_after, walk_from, compared, counted, followed}
use Rattle.rht_chain.specs.Probe.{ProbeModel, probe_plan, probe_after, probe_after_at, lock_taken, walk_or_seen, walk_taken, IsProbeIn, IsProbeAtIn}
use Rattle.rht_chain.specs.declared.lock.LockAt.{LockAt}
use Rattle.rht_chain.specs.declared.lock.LockAt.TheVariants as locks
use Rattle.rht_chain.specs.declared.locked.Locked.{Locked}
use Rattle.rht_chain.specs.declared.locked_walk.LockedWalkAt.{LockedWalkAt}
use Rattle.rht_chain.specs.declared.locked_walk.LockedWalkAt.TheVariants as walks
use Rattle.rht_chain.specs.declared.locked_walk.Seen.{Seen}
use Rattle.rht_chain.specs.declared.probe.Probed.{Probed}
use Rattle.rht_chain.specs.declared.probe.ProbeAt.{ProbeAt}
use Rattle.rht_chain.specs.declared.probe.ProbeAt.TheVariants as probes
use Rattle.rht_core.specs.Reach.{ReachesTable, ReachesNode, by_chain}
use Rattle.rht_ghost.proofs.Theory.Ghosts.{Ghost}
use Rattle.rht_ghost.proofs.Theory.Knowledge.{IsAtHome}
use Rattle.rht_ghost.proofs.Theory.Passed.{hash-below}
use Rattle.rht_ghost.proofs.Theory.Steps.{mem}
use Rattle.rht_ghost.proofs.Theory.Wholes.{Whole, hash_in, word_index, place_at-index, at-there}
use Rattle.rht_ghost.proofs.Pieces.Probes.{place_of_probe}
use Rattle.rht_core.proofs.Returning.Coming.{Tables, Nodes, to_next, IsBucketThere, first_reached}

-- ---- to the bucket

-- the table behind, where the bucket is missing, and it is known
abbrev pub tables_missing : LocatedBucket → List ℕ
tables_missing (buckets.At place) = []
tables_missing (buckets.Missing place early) = if_one early

abbrev pub tables_located : LocateModel × Next Located → List ℕ
tables_located (m, Go) = tables_of_locate m
tables_located (m, Done there) = m.table ∷ tables_missing there.bucket

module _ (g : Geometry) (words : List ℕ) (at : Standing) (mix : ℕ → ℕ → ℕ → ℕ) (port : ℕ) where
  abbrev Reached : LocateModel × Next Located → Type 0
  Reached next = Tables g words at (tables_located next)

  at_hash : (m : LocateModel) (shape bucket : ℕ) → ReachesTable g words at m.table → Reached (hashed m shape bucket)
  at_hash m shape bucket there = cond_both (is_nested shape) _ _ Reached (λ t. (there, tt)) (λ f. (there, tt))

  at_entry : (m : LocateModel) (shape : ℕ) (early : Option ℕ) (place : PlaceModel) (next : Next Bucket)
      → Tables g words at (m.table ∷ if_one early) → Reached (entry_followed m shape early place next)
  at_entry m shape early place Go there = there
  at_entry m shape early place (Done (At word)) there = (there.0, tt)
  at_entry m shape early place (Done (Absent entry)) there = there

  pub locate_comes : (m : LocateModel) → Tables g words at (tables_of_locate m)
      → Reached (locate_after mix port m (old_of words (locate_plan m)))
  locate_comes m there = go m.at there
    where
      go : (state : LocateAt) → Tables g words at (m.table ∷ tables_behind state)
          → Reached (locate_after_at mix port m state (old_of words (locate_plan (record m { at = state }))))
      go locates.Shape there = there
      go (locates.Seed shape) there = at_hash m shape _ there.0
      go (locates.Early shape place) there = (there.0, to_next g words at m.table there.0)
      go (locates.Entry shape early place) there = at_entry m shape early _ _ there

-- ---- in the bucket

-- of a port's bucket it is known where it is
module _ (env : Env) (mix : ℕ → ℕ → ℕ → ℕ) (words : List ℕ) (G : Ghost) (whole : Whole env mix (mem env mix words) G) (at : Standing) where
  pub home_there : {c : ℕ} (port slot : ℕ) (shape : Option ℕ) (place : ℕ) → ReachesTable env.geometry words at slot
      → IsAtHome env mix c G port slot shape place → IsBucketThere env mix words G whole at (word_index env mix place)
  home_there port slot shape place there is = record {
    slot = slot;
    there = there;
    table = is.passing.at.table;
    is_there = at-there is.passing.at;
    slot_is = is.passing.at.slot_is;
    number = hash_in env mix G port is.passing.at.table;
    below = hash-below env mix (mem env mix words) G whole port is.passing.at.table;
    here = is.here;
  }

  -- so the first node there could be come to
  pub first_there : (place node : ℕ) → IsBucketPlace env.geometry place
      → IsBucketThere env mix words G whole at (word_index env mix place)
      → node_of env.geometry.nodes (head_of place (slice_index words place)) ≡ Some node → ReachesNode env.geometry words at node
  first_there place node is there leads =
      first_reached env mix words G whole at (word_index env mix place) node there
      (subst (λ p. node_of env.geometry.nodes (head_of p (slice_index words p)) ≡ Some node) (sym (place_at-index env mix place is)) leads)

  -- ---- a probe

  abbrev nodes_seen : Seen → List ℕ
  nodes_seen seen = if_one seen.found

  pub record SeesReached (seen : Seen) : Type 0 where
    pub found : Nodes env.geometry words at (if_one seen.found)
    pub before : Nodes env.geometry words at (if_one seen.before)

  abbrev pub ProbeReached : ProbeAt × Next Probed → Type 0
  ProbeReached (state, Go) = Nodes env.geometry words at (nodes_of_probe state)
  ProbeReached (state, Done end) = SeesReached end.seen

  abbrev WalkReached : LockedWalkModel × Next Seen → Type 0
  WalkReached (m, Go) = Nodes env.geometry words at (nodes_of_walk m.before m.at)
  WalkReached (m, Done seen) = SeesReached seen

  walk_begins : (lock : LockModel) (bucket : Locked) (key first : ℕ) (node : Option ℕ)
      → ((n : ℕ) → node ≡ Some n → ReachesNode env.geometry words at n)
      → ProbeReached (walk_or_seen lock bucket (walk_from env.geometry key first node))
  walk_begins lock bucket key first None leads = record { found = tt; before = tt }
  walk_begins lock bucket key first (Some n) leads = (leads n refl, tt)

  walk_goes : (bucket : Locked) (next : LockedWalkModel × Next Seen) → WalkReached next → ProbeReached (walk_taken bucket next.0 next.1)
  walk_goes bucket (m, Go) reached = reached
  walk_goes bucket (m, Done seen) reached = reached

  walk_compared : (m : LockedWalkModel) (node key : ℕ) → Nodes env.geometry words at (node ∷ if_one m.before)
      → WalkReached (compared m node key)
  walk_compared m node key reached =
      cond_both (key == m.key) _ _ WalkReached (λ t. record { found = (reached.0, tt); before = reached.1 }) (λ f. reached)

  walk_followed : (m : LockedWalkModel) (node link : ℕ) (next : Option ℕ) → ReachesNode env.geometry words at node
      → ((n : ℕ) → next ≡ Some n → ReachesNode env.geometry words at n) → WalkReached (followed m node link next)
  walk_followed m node link None here leads = record { found = tt; before = (here, tt) }
  walk_followed m node link (Some n) here leads = (leads n refl, (here, tt))

  abbrev walk_at : LockedWalkModel → LockedWalkAt → LockedWalkModel
  walk_at m state = record m { geometry = env.geometry; at = state }

  walk_comes : (m : LockedWalkModel) → m.geometry ≡ env.geometry → Nodes env.geometry words at (nodes_of_walk m.before m.at)
      → WalkReached (locked_walk_after m (old_of words (locked_walk_plan m)))
  walk_comes m same reached =
      subst (λ g. let n = record m { geometry = g } in WalkReached (locked_walk_after n (old_of words (locked_walk_plan n)))) (sym same)
      (go m.at reached)
    where
      go : (state : LockedWalkAt) → Nodes env.geometry words at (nodes_of_walk m.before state)
          → WalkReached (locked_walk_after (walk_at m state) (old_of words (locked_walk_plan (walk_at m state))))
      go (walks.Key node) reached = walk_compared (counted (walk_at m (walks.Key node))) node _ reached
      go (walks.ChainLink node) reached =
          walk_followed (walk_at m (walks.ChainLink node)) node _ _ reached.0 (λ n leads. by_chain node n reached.0 leads)

  abbrev lock_at : LockModel → LockAt → LockModel
  lock_at lock state = record lock { at = state }

  -- with the lock taken the walk stands at the bucket's first node
  lock_comes : (key : ℕ) (lock : LockModel) → IsBucketPlace env.geometry lock.place
      → IsBucketThere env mix words G whole at (word_index env mix lock.place)
      → ProbeReached (probe_after_at env.geometry key (probes.Locking lock) (old_of words (lock_plan lock)))
  lock_comes key lock is there = go lock.at
    where
      go : (state : LockAt)
          → ProbeReached (probe_after_at env.geometry key (probes.Locking (lock_at lock state)) (old_of words (lock_plan (lock_at lock state))))
      go locks.Word =
          cond_both (slice_index words lock.place % 2 == 1) _ _ (λ (next : LockModel × Next ℕ). ProbeReached (lock_taken env.geometry key next.0 next.1)) (λ t. tt) (λ f. tt)
      go (locks.Exchange word) =
          cond_both (slice_index words lock.place == word) _ _ (λ (next : LockModel × Next ℕ). ProbeReached (lock_taken env.geometry key next.0 next.1))
          (λ t. walk_begins (lock_at lock (locks.Exchange word)) _ key _ _
          (λ n leads. first_there lock.place n is there
          (subst (λ w. node_of env.geometry.nodes (head_of lock.place w) ≡ Some n) (sym (eqb-true (slice_index words lock.place) word t)) leads)))
          (λ f. tt)

  pub probe_comes : (m : ProbeModel) → IsProbeIn env.geometry m → Nodes env.geometry words at (nodes_of_probe m.at)
      → IsBucketThere env mix words G whole at (word_index env mix (place_of_probe m.at))
      → let r = probe_after m (old_of words (probe_plan m)) in ProbeReached (r.0.at, r.1)
  probe_comes m within reached there =
      subst (λ g. ProbeReached (probe_after_at g m.key m.at (old_of words (probe_plan m)))) (sym within.geometry_same)
      (go m.at within.at_in reached there)
    where
      go : (state : ProbeAt) → IsProbeAtIn env.geometry state → Nodes env.geometry words at (nodes_of_probe state)
          → IsBucketThere env mix words G whole at (word_index env mix (place_of_probe state))
          → ProbeReached (probe_after_at env.geometry m.key state (old_of words (probe_plan (record m { at = state }))))
      go (probes.Locking lock) is reached there = lock_comes m.key lock is.place_in there
      go (probes.Walking bucket walk) is reached there =
          walk_goes bucket (locked_walk_after walk (old_of words (locked_walk_plan walk)))
          (walk_comes walk is.walk_in.geometry_same reached)
