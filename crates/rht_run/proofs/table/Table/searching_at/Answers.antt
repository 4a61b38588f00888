use Rattle.rht_run.specs.Searches.{owner_search}
use Rattle.rht_run.proofs.table.Table.searching_at.Goals as goal

pub invariant_of-piece : goal.invariant_of-piece
invariant_of-piece g c =
    g.met.F.Frame.within c.args.self.now.env g.K.Ride.riding.number c.args.frame.now
    (owner_search c.args.self.now.env c.args.owner c.args.search) c.requires.riding.in_range
