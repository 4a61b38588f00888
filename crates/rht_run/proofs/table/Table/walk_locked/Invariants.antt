use Rattle.std.specs.Prelude.{◌≡◌, ◌<◌}
use Rattle.rht_chain.specs.declared.locked_walk.LockedWalkAt.TheVariants.{Key}
use Rattle.rht_chain.specs.declared.probe.ProbeAt.TheVariants.{Walking}
use Rattle.rht_run.specs.Rides.{IsRiding}
use Rattle.rht_run.proofs.table.Table.walk_locked.Given as goal

-- the walk stands before the key of this node
abbrev pub invariant-loop : goal.invariant-loop
invariant-loop g l =
    (l.walk.geometry ≡ l.starts.geometry) × (l.node < l.starts.geometry.nodes)
    × IsRiding g.M.Mix.mix_of l.self g.K.Ride.riding
    (g.F.Frame.holding l.frame (record l.probe { at = Walking l.bucket (record l.walk { at = Key l.node }) })) l.seat
