use Rattle.std.proofs.Common.{length, arith, ◌∙◌, ◌≡◌, sym}
use Rattle.std.proofs.lemmas.List.{length_push}
use Rattle.rht_model.proofs.FlatPairs.{IsInOrder-begun, added-pairs_of}
use Rattle.rht_model.proofs.bindings.Bindings.add.Goals as goal

pub invariant_of-self : goal.invariant_of-self
invariant_of-self c =
    let owners = c.self.inside.owners in
    let start : c.len.result ≡ length owners.items = c.len.ensures ∙ owners.ok.0 in
    let heads = c.self.inside.heads.items in
    let in_order_after = IsInOrder-begun heads c.args.port (length owners.items) c.self.invariant.in_order in
    record {
      in_order = rw (c.begin.ensures.heads, start, c.push_within.ensures.items, length_push) in_order_after;
      heads_fit = omega (arith, c.self.invariant.heads_fit);
      owners_fit = omega (arith, c.self.invariant.owners_fit);
    }

pub returns-clause-pairs : goal.returns-clause-pairs
returns-clause-pairs c =
    let owners = c.self.inside.owners in
    let start : c.len.result ≡ length owners.items = c.len.ensures ∙ owners.ok.0 in
    let heads = c.self.inside.heads.items in
    let added_is = added-pairs_of heads owners.items c.args.port c.args.owner c.self.invariant.in_order in
    rw (c.begin.ensures.heads, start, c.push_within.ensures.items, ← c.self.view_is) (sym added_is)
