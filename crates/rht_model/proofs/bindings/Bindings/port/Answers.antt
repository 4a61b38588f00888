use Rattle.std.proofs.Common.{arith, ap, ◌∙◌, sym, Some}
use Rattle.rht_model.proofs.FlatPairs.{within-pairs_of, slice_get-ports_of}
use Rattle.rht_model.proofs.bindings.Bindings.port.Goals as goal

pub index-requires : goal.index-requires
index-requires c =
    let heads = c.self.inside.heads in
    let owners = c.self.inside.owners in
    let within = within-pairs_of heads.items owners.items _ c.args.i (ap (λ l. l.pairs) c.self.view_is)
    c.requires in
    omega (arith, heads.ok.0)

pub returns : goal.returns
returns c =
    let heads = c.self.inside.heads in
    let owners = c.self.inside.owners in
    let within = within-pairs_of heads.items owners.items _ c.args.i (ap (λ l. l.pairs) c.self.view_is)
    c.requires in
    rw (← c.self.view_is)
    (slice_get-ports_of heads.items owners.items c.args.i c.index.result.now within
    ∙ ap (λ head. Some head.port) (sym c.index.ensures))
