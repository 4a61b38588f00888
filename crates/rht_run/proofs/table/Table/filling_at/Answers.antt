use Rattle.std.proofs.Common.{sym, subst}
use Rattle.rht_words.specs.declared.geometry.Geometry.{Geometry}
use Rattle.rht_arena.specs.NewNode.{IsNewNodeAtIn}
use Rattle.rht_run.proofs.table.Table.filling_at.Goals as goal

pub with-requires : goal.with-requires
with-requires g c =
    let is = g.met.F.Frame.within c.args.self.now.env g.K.Ride.riding.number c.args.frame.now
    (record c.args.new.now { at = c.args.at }) c.requires.riding.in_range in
    subst (λ (geometry : Geometry). IsNewNodeAtIn geometry c.args.at) (sym is.geometry_same) is.at_in
