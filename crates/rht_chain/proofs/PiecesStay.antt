-- Whatever words they are told, the pieces stay in their table: a lock at its bucket, and a walk at the table's nodes.
-- A link is read totally, so what it names is there or is none. What is kept of the words that are told are words.
use Rattle.std.proofs.Common.{◌≡◌, ℕ, ◌%◌, ◌<◌, refl, sym, subst, ◌∙◌, arith}
use Rattle.std.specs.Prelude.{Option, Some, None, ◌==◌}
use Rattle.std.proofs.lemmas.Bool.{cond_both, eqb-false}
use Rattle.rht_words.specs.declared.geometry.Geometry.{Geometry}
use Rattle.rht_words.specs.declared.machine.Next.{Next}
use Rattle.rht_words.specs.declared.machine.Next.TheVariants.{Go, Done}
use Rattle.rht_words.specs.Links.{node_of, head_of}
use Rattle.rht_words.specs.Places.{IsBucketPlace}
use Rattle.rht_words.specs.Planned.{IsWord}
use Rattle.rht_words.proofs.LinksRead.{node_of-in}
use Rattle.rht_words.proofs.PlannedWords.{plain_of-fits}
use Rattle.rht_chain.specs.Lock.{LockModel, lock_after, lock_after_at, IsLockWord, IsLockIn}
use Rattle.rht_chain.specs.declared.lock.LockAt.{LockAt}
use Rattle.rht_chain.specs.declared.lock.LockAt.TheVariants as lock_at
use Rattle.rht_chain.specs.Locked.{IsLockedIn}
use Rattle.rht_chain.specs.declared.locked.Locked.{Locked}
use Rattle.rht_chain.specs.LockedWalk.{LockedWalkModel, locked_walk_after, walk_after_at, walk_from, followed, IsNodeOrNone, IsWalkAtIn, IsWalkIn, IsNextIn}
use Rattle.rht_chain.specs.declared.locked_walk.LockedWalkAt.{LockedWalkAt}
use Rattle.rht_chain.specs.declared.locked_walk.LockedWalkAt.TheVariants as walk_at
use Rattle.rht_chain.specs.declared.locked_walk.Seen.{Seen}
use Rattle.rht_chain.specs.Relink.{RelinkModel, relink_new, relink_after, relink_after_at, IsRelinkIn}
use Rattle.rht_chain.specs.declared.relink.RelinkAt.{RelinkAt}
use Rattle.rht_chain.specs.declared.relink.RelinkAt.TheVariants as relink_at
use Rattle.rht_chain.specs.Probe.{ProbeModel, probe_after, probe_after_at, lock_taken, walk_taken, walk_or_seen, IsProbeAtIn, IsProbeIn, IsProbeEndIn}
use Rattle.rht_chain.specs.declared.probe.Probed.{Probed}
use Rattle.rht_chain.specs.declared.probe.ProbeAt.{ProbeAt}
use Rattle.rht_chain.specs.declared.probe.ProbeAt.TheVariants as probe_at

-- ---- the lock

-- what a lock has found at its end is a word
abbrev pub IsFoundWord : Next ℕ → Type 0
IsFoundWord Go = Unit {0}
IsFoundWord (Done word) = IsWord word

-- the lock stays at its bucket, and what it has found are words
pub record LockStays (g : Geometry) (next : LockModel × Next ℕ) : Type 0 where
  pub lock_in : IsLockIn g next.0
  pub found_in : IsFoundWord next.1

module _ (g : Geometry) where
  lock_after_at-in : (lock : LockModel) (at : LockAt) (word : ℕ) → IsLockIn g lock → IsLockWord at
      → IsWord word
      → LockStays g (lock_after_at lock at word)
  lock_after_at-in lock lock_at.Word word within here told =
      cond_both (word % 2 == 1) _ _ (LockStays g)
      (λ t. record { lock_in = within; found_in = tt })
      (λ f.
      let odd = eqb-false (word % 2) 1 f in
      record {
        lock_in = record {
          place_in = within.place_in;
          even = omega (arith, odd);
          word_in = told;
        };
        found_in = tt;
      })
  lock_after_at-in lock (lock_at.Exchange found) word within here told =
      cond_both (word == found) _ _ (LockStays g)
      (λ t. record { lock_in = within; found_in = here })
      (λ f. record {
        lock_in = record { place_in = within.place_in; even = tt; word_in = tt };
        found_in =
            tt;
      })

  pub lock_stays : (lock : LockModel) (word : ℕ) → IsLockIn g lock → IsWord word
      → LockStays g (lock_after lock word)
  lock_stays lock word within told = lock_after_at-in lock lock.at word within within.word_in told

-- ---- the walk

-- the walk stays at the nodes of its table, and so does what it has seen
record WalkKeeps (walk : LockedWalkModel) (next : LockedWalkModel × Next Seen) : Type 0 where
  pub geometry_same : next.0.geometry ≡ walk.geometry
  pub range : IsWalkAtIn next.0.geometry next.0.before next.0.at
  pub seen : IsNextIn walk.geometry next.1

-- where it stands is a node, and so is the one before it
range_at : (g : Geometry) (before : Option ℕ) (at : LockedWalkAt) → IsWalkAtIn g before at
    → IsNodeOrNone g before
range_at g before (walk_at.Key node) range = range.1
range_at g before (walk_at.ChainLink node) range = range.1

followed-in : (walk : LockedWalkModel) (node link : ℕ) (next : Option ℕ) → node < walk.geometry.nodes
    → IsNodeOrNone walk.geometry next → IsWalkAtIn walk.geometry (Some node) walk.at
    → WalkKeeps walk (followed walk node link next)
followed-in walk node link None node_in next_in range = record {
  geometry_same = refl;
  range = range;
  seen = record { found_in = tt; before_in = node_in };
}
followed-in walk node link (Some next) node_in next_in range = record {
  geometry_same = refl;
  range = (next_in, node_in);
  seen = tt;
}

-- another node before it leaves the walk in range
range-before : (g : Geometry) (before : Option ℕ) (node : ℕ) (at : LockedWalkAt) → node < g.nodes
    → IsWalkAtIn g before at → IsWalkAtIn g (Some node) at
range-before g before node (walk_at.Key at) node_in range = (range.0, node_in)
range-before g before node (walk_at.ChainLink at) node_in range = (range.0, node_in)

walk_after_at-in : (walk : LockedWalkModel) (at : LockedWalkAt) (word : ℕ)
    → IsWalkAtIn walk.geometry walk.before at
    → IsWalkAtIn walk.geometry walk.before walk.at → WalkKeeps walk (walk_after_at walk at word)
walk_after_at-in walk (walk_at.Key node) word here range =
    cond_both (word == walk.key) _ _ (WalkKeeps walk)
    (λ t. record {
      geometry_same = refl;
      range = range;
      seen =
          record { found_in = here.0; before_in = here.1 };
    })
    (λ f. record { geometry_same = refl; range = here; seen = tt })
walk_after_at-in walk (walk_at.ChainLink node) word here range =
    followed-in walk node word (node_of walk.geometry.nodes word) here.0 (node_of-in walk.geometry word)
    (range-before walk.geometry walk.before node walk.at here.0 range)

-- the walk stays in this table
pub record WalkStays (g : Geometry) (next : LockedWalkModel × Next Seen) : Type 0 where
  pub walk_in : IsWalkIn g next.0
  pub seen_in : IsNextIn g next.1

pub walk_stays : (g : Geometry) (walk : LockedWalkModel) (word : ℕ) → IsWalkIn g walk
    → WalkStays g (locked_walk_after walk word)
walk_stays g walk word within =
    let here : IsWalkAtIn walk.geometry walk.before walk.at =
    subst (λ h. IsWalkAtIn h walk.before walk.at) (sym within.geometry_same) within.at_in in
    let keeps = walk_after_at-in walk walk.at word here here in
    let same : (locked_walk_after walk word).0.geometry ≡ g = keeps.geometry_same ∙ within.geometry_same in
    record {
      walk_in = record {
        geometry_same = same;
        at_in = subst (λ h. IsWalkAtIn h (locked_walk_after walk word).0.before
            (locked_walk_after walk word).0.at) same keeps.range;
      };
      seen_in = subst (λ h. IsNextIn h (locked_walk_after walk word).1) within.geometry_same keeps.seen;
    }

-- ---- the relinking

-- the relinking stays in its bucket
pub relink_stays : (g : Geometry) (m : RelinkModel) → IsRelinkIn g m → IsRelinkIn g (relink_after m).0
relink_stays g m within = relinks m.at
  where
    relinks : (at : RelinkAt) → IsRelinkIn g (relink_after_at m at).0
    relinks (relink_at.ChainLink before) = record {
      geometry_same = within.geometry_same;
      place_in = within.place_in;
      word_in = within.word_in;
      link_in = within.link_in;
      at_in = tt;
      store_in = within.word_in;
    }
    relinks (relink_at.Word word) = within

-- it begins in its bucket
pub relink_begins : (g : Geometry) (place word : ℕ) (before : Option ℕ) (link : ℕ) → IsBucketPlace g place
    → IsWord word → IsNodeOrNone g before → IsWord link → IsRelinkIn g (relink_new g place word before link)
relink_begins g place word None link place_in word_in before_in link_in = record {
  geometry_same = refl;
  place_in = place_in;
  word_in = word_in;
  link_in = link_in;
  at_in = tt;
  store_in = plain_of-fits place link link_in;
}
relink_begins g place word (Some before) link place_in word_in before_in link_in = record {
  geometry_same = refl;
  place_in = place_in;
  word_in = word_in;
  link_in = link_in;
  at_in = before_in;
  store_in = tt;
}

-- ---- the probe

-- the probe stays in its bucket, and what it has seen is the table's
pub record ProbeStays (g : Geometry) (next : ProbeAt × Next Probed) : Type 0 where
  pub at_in : IsProbeAtIn g next.0
  pub end_in : IsProbeEndIn g next.1

module _ (g : Geometry) (key : ℕ) where
  walk_or_seen-in : (lock : LockModel) (bucket : Locked) (head : ℕ) (first : Option ℕ) → IsLockIn g lock
      → IsLockedIn g bucket → IsNodeOrNone g first
      → ProbeStays g (walk_or_seen lock bucket (walk_from g key head first))
  walk_or_seen-in lock bucket head None lock_in bucket_in first_in = record {
    at_in = lock_in;
    end_in = record { bucket_in = bucket_in; seen_in = record { found_in = tt; before_in = tt } };
  }
  walk_or_seen-in lock bucket head (Some node) lock_in bucket_in first_in = record {
    at_in = record {
      bucket_in = bucket_in;
      walk_in =
          record { geometry_same = refl; at_in = (first_in, tt) };
    };
    end_in = tt;
  }

  lock_taken-in : (lock : LockModel) (next : Next ℕ) → LockStays g (lock, next)
      → ProbeStays g (lock_taken g key lock next)
  lock_taken-in lock Go stays = record { at_in = stays.lock_in; end_in = tt }
  lock_taken-in lock (Done word) stays =
      let head = head_of lock.place word in
      walk_or_seen-in lock (record { place = lock.place; word = word }) head (node_of g.nodes head)
      stays.lock_in
      record { place_in = stays.lock_in.place_in; word_in = stays.found_in } (node_of-in g head)

  walk_taken-in : (bucket : Locked) (walk : LockedWalkModel) (next : Next Seen) → IsLockedIn g bucket
      → WalkStays g (walk, next)
      → ProbeStays g (walk_taken bucket walk next)
  walk_taken-in bucket walk Go bucket_in stays =
      record { at_in = record { bucket_in = bucket_in; walk_in = stays.walk_in }; end_in = tt }
  walk_taken-in bucket walk (Done seen) bucket_in stays = record {
    at_in = record { bucket_in = bucket_in; walk_in = stays.walk_in };
    end_in = record { bucket_in = bucket_in; seen_in = stays.seen_in };
  }

  pub probe_stays_at : (at : ProbeAt) (word : ℕ) → IsProbeAtIn g at → IsWord word
      → ProbeStays g (probe_after_at g key at word)
  probe_stays_at (probe_at.Locking lock) word here told =
      lock_taken-in (lock_after lock word).0 (lock_after lock word).1 (lock_stays g lock word here told)
  probe_stays_at (probe_at.Walking bucket walk) word here told =
      walk_taken-in bucket (locked_walk_after walk word).0 (locked_walk_after walk word).1 here.bucket_in
      (walk_stays g walk word here.walk_in)

-- and so does the machine
pub record ProbeIsIn (g : Geometry) (next : ProbeModel × Next Probed) : Type 0 where
  pub probe_in : IsProbeIn g next.0
  pub end_in : IsProbeEndIn g next.1

pub probe_stays : (g : Geometry) (m : ProbeModel) (word : ℕ) → IsProbeIn g m → IsWord word
    → ProbeIsIn g (probe_after m word)
probe_stays g m word within told =
    let stays = probe_stays_at g m.key m.at word within.at_in told in
    let same = sym within.geometry_same in
    record {
      probe_in = record {
        geometry_same = within.geometry_same;
        at_in = subst (λ h. IsProbeAtIn g (probe_after_at h m.key m.at word).0) same stays.at_in;
      };
      end_in = subst (λ h. IsProbeEndIn g (probe_after_at h m.key m.at word).1) same stays.end_in;
    }
