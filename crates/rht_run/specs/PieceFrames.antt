-- The states of the machines that hold a piece: what the caller does while the piece runs, and once it has answered.
use Rattle.std.specs.Prelude.{◌≡◌, ℕ, Bool, refl, Option, Some, None, Result}
use Rattle.rht_words.specs.declared.env.Env.{Env}
use Rattle.rht_words.specs.declared.machine.Next.{Next}
use Rattle.rht_words.specs.declared.machine.Next.TheVariants.{Go, Done}
use Rattle.rht_nest.specs.Locate.{LocateModel}
use Rattle.rht_nest.specs.declared.locate.Located.{Located}
use Rattle.rht_words.specs.declared.machine.Start.{Start}
use Rattle.rht_words.specs.declared.machine.Start.TheVariants as starts
use Rattle.rht_chain.specs.Lock.{LockModel, lock_new}
use Rattle.rht_chain.specs.LockedWalk.{LockedWalkModel, locked_walk_new}
use Rattle.rht_chain.specs.Probe.{ProbeModel, lock_taken, walk_or_seen}
use Rattle.rht_chain.specs.declared.locked.Locked.{Locked}
use Rattle.rht_chain.specs.declared.locked_walk.Seen.{Seen}
use Rattle.rht_chain.specs.declared.probe.Probed.{Probed}
use Rattle.rht_arena.specs.NewNode.{NewNodeModel}
use Rattle.rht_bind.specs.declared.bind.growth.Full.{Full}
use Rattle.rht_bind.specs.Growing.{unlocking_full}
use Rattle.rht_bind.specs.Bind.{first_attempt, filled, at_bucket, located as bind_located_at, found_or_future, moved, probed as bind_probed_at}
use Rattle.rht_bind.specs.declared.bind.Attempt.{Attempt}
use Rattle.rht_bind.specs.declared.bind.Claimed.{Claimed}
use Rattle.rht_bind.specs.declared.bind.BindAt.{BindAt}
use Rattle.rht_bind.specs.declared.bind.BindAt.TheVariants as binds
use Rattle.rht_find.specs.declared.find.FindAt.{FindAt}
use Rattle.rht_model.specs.declared.history.Reply.{Reply}
use Rattle.rht_model.specs.declared.history.Reply.TheVariants.{NoNode}
use Rattle.rht_callers.specs.declared.local.Doing.{Doing}
use Rattle.rht_callers.specs.declared.local.Doing.TheVariants.{Binding, Finding}
use Rattle.rht_run.specs.declared.pieces.PortLocate.{PortLocate}
use Rattle.rht_run.specs.declared.pieces.PortLocated.{PortLocated}
use Rattle.rht_run.specs.Rides.{piece_next, come_to, replied}
use Rattle.rht_run.specs.Pieces.{locate_told, locked_of, probe_told, probe_locks, probe_locked}

-- it holds a bucket into which its node doesn't go, for this reason, and unlocks it next
abbrev pub full_at : ℕ → ℕ → ℕ → ℕ → ℕ → Full → BindAt
full_at node table shape place word why =
    let claimed : Claimed = record { attempt = first_attempt node; table = table; shape = shape; bucket = record { place = place; word = word } } in
    unlocking_full claimed why

module _ {M : Type 0} where
  -- the lock of a bucket is a piece of its probe: where it was taken the walk begins
  pub probe_locking : (holding : ProbeModel → Doing M) (behind : Probed → Doing M × Option (Reply × Option ℕ)) (probe : ProbeModel)
      (next : LockModel × Next ℕ)
      → piece_next holding behind (probe_told probe (lock_taken probe.geometry probe.key next.0 next.1))
      ≡ piece_next (λ lock. holding (probe_locks probe lock))
      (λ bucket. piece_next holding behind (probe_locked probe bucket)) (locked_of next)
  probe_locking holding behind probe (lock, Go) = refl
  probe_locking holding behind probe (lock, Done word) = began (locked_walk_new probe.geometry lock.place word probe.key)
    where
      bucket : Locked
      bucket = record { place = lock.place; word = word }

      -- the probe that has ended forgets the lock, and the one that walks has none
      began : (start : Start LockedWalkModel Seen)
          → piece_next holding behind (probe_told probe (walk_or_seen lock bucket start))
          ≡ piece_next holding behind (probe_told probe (walk_or_seen (lock_new lock.place) bucket start))
      began (starts.Running walk) = refl
      began (starts.Done seen) = refl

  -- it looks a port up, and stands here
  abbrev pub find_at : Env → ℕ → ℕ → FindAt → Doing M
  find_at env caller port at = Finding (record { env = env; caller = caller; port = port; at = at })

  -- it binds a port, and stands here
  abbrev pub bind_at : Env → ℕ → ℕ → ℕ → Bool → BindAt → Doing M
  bind_at env caller port owner once at =
      Binding (record { env = env; caller = caller; port = port; owner = owner; once = once; at = at })

  -- straight code has brought it to this reply, or left it in this state
  abbrev pub bind_came : Env → ℕ → ℕ → ℕ → Bool → Result Reply BindAt → Doing M × Option (Reply × Option ℕ)
  bind_came env caller port owner once came = come_to (λ at. bind_at env caller port owner once at) replied came

  -- and has taken this node, or found none
  abbrev pub bind_filled : Env → ℕ → ℕ → ℕ → Bool → Option ℕ → Doing M × Option (Reply × Option ℕ)
  bind_filled env caller port owner once None = replied NoNode
  bind_filled env caller port owner once (Some node) =
      (bind_at env caller port owner once (binds.Opening (first_attempt node)), None)

  pub bind_filling : (env : Env) (caller port owner : ℕ) (once : Bool) (next : NewNodeModel × Next (Option ℕ))
      → piece_next Binding replied (moved (record { env = env; caller = caller; port = port; owner = owner; once = once; at = binds.Filling next.0 }) (filled next.0 next.1))
      ≡ piece_next (λ p. bind_at env caller port owner once (binds.Filling p)) (λ node. bind_filled env caller port owner once node) next
  bind_filling env caller port owner once (new, Go) = refl
  bind_filling env caller port owner once (new, Done None) = refl
  bind_filling env caller port owner once (new, Done (Some node)) = refl

  -- and has found that the port's bucket in this table is here
  abbrev pub bind_located : Env → ℕ → ℕ → ℕ → Bool → Attempt → ℕ → Located → Doing M × Option (Reply × Option ℕ)
  bind_located env caller port owner once attempt table found =
      (bind_at env caller port owner once (at_bucket env port attempt table found.shape found.bucket), None)

  pub bind_locating : (env : Env) (caller port owner : ℕ) (once : Bool) (attempt : Attempt) (next : LocateModel × Next Located)
      → ◌≡◌ {A = Doing M × Option (Reply × Option ℕ)} (bind_at env caller port owner once (bind_located_at env port attempt next.0 next.1), None)
      (piece_next (λ (p : PortLocate). bind_at env caller p.port owner once (binds.Locating attempt p.locate))
      (λ (there : PortLocated). bind_located env caller there.port owner once attempt there.table there.found)
      (locate_told port next))
  bind_locating env caller port owner once attempt (locate, Go) = refl
  bind_locating env caller port owner once attempt (locate, Done found) = refl

  -- and has seen this in the port's bucket
  abbrev pub bind_probed : Env → ℕ → ℕ → ℕ → Bool → Attempt → ℕ → ℕ → Probed → Doing M × Option (Reply × Option ℕ)
  bind_probed env caller port owner once attempt table shape end =
      let claimed : Claimed = record { attempt = attempt; table = table; shape = shape; bucket = end.bucket } in
      (bind_at env caller port owner once (found_or_future env.config.kind claimed end.seen.found end.seen.before end.seen.length), None)

  pub bind_probing : (env : Env) (caller port owner : ℕ) (once : Bool) (attempt : Attempt) (table shape : ℕ)
      (next : ProbeModel × Next Probed)
      → ◌≡◌ {A = Doing M × Option (Reply × Option ℕ)} (bind_at env caller port owner once (bind_probed_at env.config.kind attempt table shape next.0 next.1), None)
      (piece_next (λ p. bind_at env caller port owner once (binds.Probing attempt table shape p)) (λ end. bind_probed env caller port owner once attempt table shape end) next)
  bind_probing env caller port owner once attempt table shape (probe, Go) = refl
  bind_probing env caller port owner once attempt table shape (probe, Done end) = refl
