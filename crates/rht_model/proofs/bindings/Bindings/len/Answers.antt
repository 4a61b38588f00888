use Rattle.std.proofs.Common.{sym}
use Rattle.rht_model.proofs.FlatPairs.{length-pairs_of}
use Rattle.rht_model.proofs.bindings.Bindings.len.Goals as goal

pub returns : goal.returns
returns c =
    let heads = c.self.inside.heads in
    rw (c.len.ensures, heads.ok.0, ← c.self.view_is) (sym
    (length-pairs_of heads.items c.self.inside.owners.items))
