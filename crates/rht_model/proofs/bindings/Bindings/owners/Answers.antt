use Rattle.std.proofs.Common.{◌≡◌, length, ap, ◌∙◌, add-one}
use Rattle.rht_model.proofs.FlatPairs.{within-pairs_of, slice_get-owners_of}
use Rattle.rht_model.proofs.bindings.Bindings.owners.Goals as goal

pub range_at-range-requires-clause-within : goal.range_at-range-requires-clause-within
range_at-range-requires-clause-within c =
    let heads = c.self.inside.heads in
    let owners = c.self.inside.owners in
    rw c.deref.ensures.value
    (within-pairs_of heads.items owners.items _ c.args.i (ap (λ l. l.pairs) c.self.view_is) c.requires)

pub returns : goal.returns
returns c =
    let heads = c.self.inside.heads in
    let owners = c.self.inside.owners in
    let within = within-pairs_of heads.items owners.items _ c.args.i (ap (λ l. l.pairs) c.self.view_is)
    c.requires in
    let end : c.len.result ≡ length owners.items = c.len.ensures ∙ owners.ok.0 in
    let range = c.range_at-range.ensures in
    rw (
      ← c.self.view_is,
      range.start,
      range.end,
      c.deref.ensures.value,
      c.deref-2.ensures.value,
      end,
      add-one,
    )
    (slice_get-owners_of heads.items owners.items c.args.i within)
