use Rattle.rht_arena.specs.NewNode.{node_taken}
use Rattle.rht_run.specs.Rides.{Stepped, piece_next}
use Rattle.rht_run.specs.Pieces.{new_node_told}
use Rattle.rht_run.proofs.table.Table.take_node.Given as goal

-- the taking stands here, and has said this
abbrev pub invariant-loop : goal.invariant-loop
invariant-loop g l =
    Stepped g.M.Mix.mix_of l.self g.K.Ride.riding
    (piece_next (λ p. g.F.Frame.holding l.frame p) (λ a. g.F.Frame.behind l.frame a)
    (new_node_told l.new (node_taken l.take l.answer)))
    l.seat
