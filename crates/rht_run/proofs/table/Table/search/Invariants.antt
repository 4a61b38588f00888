use Rattle.rht_release.specs.declared.list_search.ListSearch.TheVariants.{Owner}
use Rattle.rht_run.specs.Rides.{IsRiding}
use Rattle.rht_run.specs.Searches.{owner_search}
use Rattle.rht_run.proofs.table.Table.search.Given as goal

-- the owner of this node comes next
abbrev pub invariant-loop : goal.invariant-loop
invariant-loop g l =
    IsRiding g.M.Mix.mix_of l.self g.K.Ride.riding
    (g.F.Frame.holding l.frame (owner_search l.self.env l.owner (Owner l.node l.before))) l.seat
