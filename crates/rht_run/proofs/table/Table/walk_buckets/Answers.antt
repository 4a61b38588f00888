use Rattle.std.proofs.Common.{ap, arith}
use Rattle.rht_words.specs.declared.env.Env.{Env}
use Rattle.rht_run.specs.Walking.{WalksTo, walk_now}
use Rattle.rht_run.proofs.WalkRides.{comes_to, walk_within}
use Rattle.rht_run.proofs.table.Table.walk_buckets.Goals.{in-Key, in-Heading, in-Entry, in-StrangeEnd, in-TableEnd}
use Rattle.rht_run.proofs.table.Table.walk_buckets.Goals as goal

pub loop-rounds-preserved : goal.loop-rounds-preserved
loop-rounds-preserved g c =
    let mix = g.M.Mix.mix_of in
    let t = c.args.self.now in
    let r = g.K.Ride.riding in
    let walker = c.args.walker in
    let came : WalksTo mix t r walker c.match-at.room c.match-at.at c.loop-rounds.seat c.match-at.seat = elim c.match-at.branch [
      | in-Key w ↦ comes_to mix t r walker _ _ _ _ _ _ _ w.seat-is w.room-is w.at-is w.walk_node-at.ensures
      | in-Heading w ↦ comes_to mix t r walker _ _ _ _ _ _ _ w.seat-is w.room-is w.at-is w.walk_heading-at.ensures
      | in-Entry w ↦ comes_to mix t r walker _ _ _ _ _ _ _ w.seat-is w.room-is w.at-is w.walk_entry-at.ensures
      | in-StrangeEnd w ↦ comes_to mix t r walker _ _ _ _ _ _ _ w.seat-is w.room-is w.at-is w.walk_strange_end-at.ensures
      | in-TableEnd w ↦ comes_to mix t r walker _ _ _ _ _ _ _ w.seat-is w.room-is w.at-is w.walk_table_end-at.ensures
    ] in
    let made = c.loop-rounds.invariant.made in
    let more = came.more in
    record { riding = came.riding; round = came.round; made = omega (arith, made, more) }

pub unreachable-requires-2 : goal.unreachable-requires-2
unreachable-requires-2 g c =
    let is = c.loop-rounds.invariant in
    let made = is.made in
    let nodes = ap (λ (env : Env). env.geometry.nodes) c.requires.env in
    let few = walk_within g.M.Mix.mix_of c.args.self.now g.K.Ride.riding c.args.walker.from c.args.walker.limit
    (walk_now c.args.walker c.loop-rounds.room c.loop-rounds.at) c.loop-rounds.seat c.requires.call is.riding in
    omega (arith, few, made, nodes, c.most_operations-most.ensures, c.loop-rounds-test.false)
