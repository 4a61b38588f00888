-- The way to a port as a piece.
use Rattle.std.specs.Prelude.{◌≡◌, ℕ, refl, Bool, Option, None, Some, Result}
use Rattle.rht_words.specs.declared.env.Env.{Env}
use Rattle.rht_words.specs.declared.geometry.Geometry.{Geometry}
use Rattle.rht_words.specs.declared.machine.Next.{Next}
use Rattle.rht_words.specs.declared.machine.Next.TheVariants.{Go, Done}
use Rattle.rht_words.specs.Ports.{word_of}
use Rattle.rht_nest.specs.Locate.{LocateModel}
use Rattle.rht_nest.specs.declared.locate.Located.{Located}
use Rattle.rht_nest.specs.declared.locate.LocatedBucket.{LocatedBucket}
use Rattle.rht_nest.specs.declared.locate.LocatedBucket.TheVariants as buckets
use Rattle.rht_chain.specs.Probe.{ProbeModel, probe_new}
use Rattle.rht_chain.specs.declared.probe.Probed.{Probed}
use Rattle.rht_arena.specs.NewNode.{NewNodeModel}
use Rattle.rht_release.specs.Seek.{SeekModel, seek_after, locating, bucket_or_early, located, port_at, found_or_future, probed}
use Rattle.rht_release.specs.ListSearch.{search_new}
use Rattle.rht_release.specs.Release.{closing, sought as release_sought_at}
use Rattle.rht_release.specs.declared.release.ReleaseAt.{ReleaseAt}
use Rattle.rht_release.specs.declared.release.ReleaseAt.TheVariants as releases
use Rattle.rht_release.specs.Rebind.{filled, absent, moved as rebind_moved, sought as rebind_sought_at}
use Rattle.rht_release.specs.declared.rebind.RebindAt.{RebindAt}
use Rattle.rht_release.specs.declared.rebind.RebindAt.TheVariants as rebinds
use Rattle.rht_release.specs.declared.found_port.FoundPort.{FoundPort}
use Rattle.rht_release.specs.declared.seek.SeekAt.{SeekAt}
use Rattle.rht_release.specs.declared.seek.SeekAt.TheVariants as seeks
use Rattle.rht_model.specs.declared.history.Reply.{Reply}
use Rattle.rht_model.specs.declared.history.Reply.TheVariants.{Absent, NoNode}
use Rattle.rht_callers.specs.declared.local.Doing.{Doing}
use Rattle.rht_callers.specs.declared.local.Doing.TheVariants.{Releasing, Rebinding}
use Rattle.rht_run.specs.declared.pieces.PortLocate.{PortLocate}
use Rattle.rht_run.specs.declared.pieces.PortLocated.{PortLocated}
use Rattle.rht_run.specs.declared.seeks.PortSeek.{PortSeek}
use Rattle.rht_run.specs.Rides.{piece_next, come_to, released, ended, replied}
use Rattle.rht_run.specs.declared.seeking.Sought.{Sought}
use Rattle.rht_run.specs.declared.seeking.Sought.TheVariants as sought
use Rattle.rht_run.specs.Pieces.{locate_told, nested_locate}

-- the way to this port stands here
abbrev pub port_seek : Geometry → ℕ → SeekAt → PortSeek
port_seek g port at = record { port = port; seek = record { geometry = g; at = at } }

-- it has loaded the shape and the seed of a nested table, and goes over the entries next
abbrev pub nested_seek : Geometry → ℕ → ℕ → ℕ → SeekModel
nested_seek g table shape bucket = record { geometry = g; at = seeks.Locating (nested_locate g table shape bucket) }

-- the way has come to this
abbrev pub sought_then : {M : Type 0} → (PortSeek → Doing M) → (ℕ × Option FoundPort → Doing M × Option (Reply × Option ℕ)) → Geometry → ℕ
    → Sought → Doing M × Option (Reply × Option ℕ)
sought_then holding behind g port (sought.Found found) = behind (port, Some found)
sought_then holding behind g port sought.Nowhere = behind (port, None)
sought_then holding behind g port (sought.Nested table shape bucket) =
    (holding (record { port = port; seek = nested_seek g table shape bucket }), None)
sought_then holding behind g port (sought.Left at) = (holding (port_seek g port at), None)

-- and says this, of the port
abbrev pub sought_of : ℕ → Next (Option FoundPort) → Next (ℕ × Option FoundPort)
sought_of port Go = Go
sought_of port (Done found) = Done (port, found)

abbrev pub seek_told : Geometry → ℕ → SeekAt × Next (Option FoundPort) → PortSeek × Next (ℕ × Option FoundPort)
seek_told g port next = (port_seek g port next.0, sought_of port next.1)

abbrev pub port_seek_after : (ℕ → ℕ → ℕ → ℕ) → PortSeek → ℕ → PortSeek × Next (ℕ × Option FoundPort)
port_seek_after mix p word =
    let next = seek_after mix p.port p.seek word in (record { port = p.port; seek = next.0 }, sought_of p.port next.1)

module _ {M : Type 0} (holding : PortSeek → Doing M) (behind : ℕ × Option FoundPort → Doing M × Option (Reply × Option ℕ))
    (g : Geometry)
  where
    -- The port's bucket in this table was found to be here. Behind a missing one the way goes on in the table that was behind, and
    -- where none was it has ended.
    abbrev pub seek_located : ℕ → ℕ → ℕ → LocatedBucket → Doing M × Option (Reply × Option ℕ)
    seek_located port table shape (buckets.At place) =
        (holding (port_seek g port (seeks.Probing table shape (probe_new g place (word_of port)))), None)
    seek_located port table shape (buckets.Missing place None) = behind (port, None)
    seek_located port table shape (buckets.Missing place (Some next)) = (holding (port_seek g port (locating g next)), None)

    pub seek_locating : (port : ℕ) (next : LocateModel × Next Located)
        → piece_next holding behind (seek_told g port (located g port next.0 next.1))
        ≡ piece_next (λ (p : PortLocate). holding (port_seek g p.port (seeks.Locating p.locate)))
        (λ (there : PortLocated). seek_located there.port there.table there.found.shape there.found.bucket)
        (locate_told port next)
    seek_locating port (locate, Go) = refl
    seek_locating port (locate, Done found) = found_so found.bucket
      where
        found_so : (bucket : LocatedBucket)
            → piece_next holding behind (seek_told g port (bucket_or_early g port locate found.shape bucket))
            ≡ seek_located port locate.table found.shape bucket
        found_so (buckets.At place) = refl
        found_so (buckets.Missing place None) = refl
        found_so (buckets.Missing place (Some next)) = refl

module _ {M : Type 0} (holding : PortSeek → Doing M) (behind : ℕ × Option FoundPort → Doing M × Option (Reply × Option ℕ))
    (g : Geometry)
    (port table shape : ℕ)
  where
    -- where this node was seen to have the port the way has ended, and else the table's future comes next
    abbrev pub seek_seen : Probed → Option ℕ → Doing M × Option (Reply × Option ℕ)
    seek_seen end None = (holding (port_seek g port (seeks.Future table end.bucket)), None)
    seek_seen end (Some node) = behind (port, Some (port_at table shape end node))

    abbrev pub seek_probed : Probed → Doing M × Option (Reply × Option ℕ)
    seek_probed end = seek_seen end end.seen.found

    seen_so : (probe : ProbeModel) (end : Probed) (found : Option ℕ)
        → piece_next holding behind (seek_told g port (found_or_future table shape probe end found)) ≡ seek_seen end found
    seen_so probe end None = refl
    seen_so probe end (Some node) = refl

    pub seek_probing : (next : ProbeModel × Next Probed)
        → piece_next holding behind (seek_told g port (probed table shape next.0 next.1))
        ≡ piece_next (λ p. holding (port_seek g port (seeks.Probing table shape p))) seek_probed next
    seek_probing (probe, Go) = refl
    seek_probing (probe, Done end) = seen_so probe end end.seen.found

module _ {M : Type 0} where
  -- ---- the release

  -- it takes a binding out, and stands here
  abbrev pub release_at : Env → ℕ → ℕ → ℕ → ReleaseAt → Doing M
  release_at env caller port owner at =
      Releasing (record { env = env; caller = caller; port = port; owner = owner; at = at })

  -- and has found the port, or found that no table binds it
  abbrev pub release_sought : Env → ℕ → ℕ → ℕ → Option FoundPort → Doing M × Option (Reply × Option ℕ)
  release_sought env caller port owner None = (release_at env caller port owner (closing Absent None), None)
  release_sought env caller port owner (Some found) =
      (release_at env caller port owner (releases.Searching found (search_new found.node)), None)

  pub release_seeking : (env : Env) (caller port owner : ℕ) (next : SeekModel × Next (Option FoundPort))
      → ◌≡◌ {A = Doing M × Option (Reply × Option ℕ)} (release_at env caller port owner (release_sought_at next.0 next.1), None)
      (piece_next (λ (p : PortSeek). release_at env caller p.port owner (releases.Seeking p.seek))
      (λ found. release_sought env caller found.0 owner found.1)
      (record { port = port; seek = next.0 }, sought_of port next.1))
  release_seeking env caller port owner (seek, Go) = refl
  release_seeking env caller port owner (seek, Done None) = refl
  release_seeking env caller port owner (seek, Done (Some found)) = refl

  -- straight code has brought it to its end, with this node taken out or none, or left it in this state
  abbrev pub release_came : Env → ℕ → ℕ → ℕ → Result (Option Bool × Option ℕ) ReleaseAt → Doing M × Option (Reply × Option ℕ)
  release_came env caller port owner came =
      come_to (λ at. release_at env caller port owner at) (λ (end : Option Bool × Option ℕ). ended (released end.0, end.1)) came

  -- ---- the rebind

  -- it puts another owner in one's place, and stands here
  abbrev pub rebind_at : Env → ℕ → ℕ → ℕ → ℕ → RebindAt → Doing M
  rebind_at env caller port owner new at =
      Rebinding (record { env = env; caller = caller; port = port; owner = owner; new_owner = new; at = at })

  -- and has taken this node, or found none
  abbrev pub rebind_filled : Env → ℕ → ℕ → ℕ → ℕ → Option ℕ → Doing M × Option (Reply × Option ℕ)
  rebind_filled env caller port owner new None = replied NoNode
  rebind_filled env caller port owner new (Some node) =
      (rebind_at env caller port owner new (rebinds.Opening node), None)

  pub rebind_filling : (env : Env) (caller port owner new : ℕ) (next : NewNodeModel × Next (Option ℕ))
      → piece_next Rebinding ended
      (rebind_moved (record { env = env; caller = caller; port = port; owner = owner; new_owner = new; at = rebinds.Filling next.0 }) (filled next.0 next.1))
      ≡ piece_next (λ p. rebind_at env caller port owner new (rebinds.Filling p))
      (λ node. rebind_filled env caller port owner new node) next
  rebind_filling env caller port owner new (node, Go) = refl
  rebind_filling env caller port owner new (node, Done None) = refl
  rebind_filling env caller port owner new (node, Done (Some found)) = refl

  -- and has found the port with this node, or found that no table binds it
  abbrev pub rebind_sought : Env → ℕ → ℕ → ℕ → ℕ → ℕ → Option FoundPort → Doing M × Option (Reply × Option ℕ)
  rebind_sought env caller port owner new node None =
      (rebind_at env caller port owner new (absent node), None)
  rebind_sought env caller port owner new node (Some found) =
      (rebind_at env caller port owner new (rebinds.Searching node found (search_new found.node)), None)

  pub rebind_seeking : (env : Env) (caller port owner new node : ℕ) (next : SeekModel × Next (Option FoundPort))
      → ◌≡◌ {A = Doing M × Option (Reply × Option ℕ)} (rebind_at env caller port owner new (rebind_sought_at node next.0 next.1), None)
      (piece_next (λ (p : PortSeek). rebind_at env caller p.port owner new (rebinds.Seeking node p.seek))
      (λ found. rebind_sought env caller found.0 owner new node found.1)
      (record { port = port; seek = next.0 }, sought_of port next.1))
  rebind_seeking env caller port owner new node (seek, Go) = refl
  rebind_seeking env caller port owner new node (seek, Done None) = refl
  rebind_seeking env caller port owner new node (seek, Done (Some found)) = refl
