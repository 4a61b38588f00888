-- A batch has no more nodes than its table, since they differ and are the table's.
use Rattle.std.proofs.Common.{ℕ, ◌+◌, ◌^◌, ◌<◌, ◌≤◌, true, ◌++◌, length, length-append, refl, arith}
use Rattle.rht_words.proofs.Members.{length-count_below, count_below-most}
use Rattle.rht_grace.specs.Batch.{BatchModel, IsBatch}

module _ (batch : BatchModel) (sound : IsBatch batch) where
  few : length (batch.fresh ++ batch.waiting) ≤ batch.geometry.nodes
  few =
      let all = batch.fresh ++ batch.waiting in
      let few = length-count_below (λ n. true) batch.geometry.nodes all sound.distinct sound.among (λ n i. refl) in
      let most = count_below-most (λ n. true) batch.geometry.nodes in
      omega (arith, few, most)

  -- so their number is one of 32 bits
  pub fits : length batch.fresh + length batch.waiting < 2 ^ 32
  fits =
      let within = batch.geometry.within.nodes_within in
      omega (arith, few, within.0, within.1, length-append batch.fresh batch.waiting)
