use Rattle.std.proofs.Common.{◌++◌, sym, ap, subst, arith}
use Rattle.rht_words.specs.Members.{NotIn}
use Rattle.rht_grace.proofs.BatchNodes.{fresh_room, IsBatch-with_fresh}
use Rattle.rht_grace.proofs.batch.Batch.put.Goals as goal

pub push-requires : goal.push-requires
push-requires c =
    let nodes = ap (λ batch. batch.geometry.nodes) c.self.view_is in
    let apart =
    subst (λ batch. NotIn c.args.node (batch.fresh ++ batch.waiting)) (sym c.self.view_is) c.requires.apart in
    let room = fresh_room _ c.self.invariant.sound c.args.node (omega (arith, nodes, c.requires.within)) apart in
    omega (arith, room, c.self.invariant.fresh_room)

pub invariant_of-self : goal.invariant_of-self
invariant_of-self c =
    let nodes = ap (λ batch. batch.geometry.nodes) c.self.view_is in
    let apart =
    subst (λ batch. NotIn c.args.node (batch.fresh ++ batch.waiting)) (sym c.self.view_is) c.requires.apart in
    record {
      fresh_room = omega (arith, c.push.ensures.limit, c.self.invariant.fresh_room);
      waiting_room = c.self.invariant.waiting_room;
      sound = rw c.push.ensures.items
          (IsBatch-with_fresh _ c.self.invariant.sound c.args.node (omega (arith, nodes, c.requires.within)) apart);
    }
