use Rattle.std.proofs.Common.{sym, refl}
use Rattle.rht_walk.proofs.walk.Walk.take.Goals as goal

pub returns : goal.returns
returns c =
    rw (sym c.self.view_is) (rw c.said-said.ensures (rw c.keep_pair.ensures (rw c.after-at.ensures (rw c.len-shown.ensures refl))))
