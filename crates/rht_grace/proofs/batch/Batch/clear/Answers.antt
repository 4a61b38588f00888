use Rattle.rht_grace.proofs.BatchNodes.{IsBatch-cleared}
use Rattle.rht_grace.proofs.batch.Batch.clear.Goals as goal

pub invariant_of-self : goal.invariant_of-self
invariant_of-self c = rw c.clear.ensures (record {
  fresh_room = c.self.invariant.fresh_room;
  waiting_room = c.self.invariant.waiting_room;
  sound = IsBatch-cleared _ c.self.invariant.sound;
})
