use Rattle.rht_arena.specs.NewNode.{new_node_after_at}
use Rattle.rht_arena.specs.declared.new_node.NewNodeAt.TheVariants.{Taking}
use Rattle.rht_run.specs.Rides.{Stepped, piece_next}
use Rattle.rht_run.specs.Pieces.{new_node_told}
use Rattle.rht_run.proofs.table.Table.pass_over.Given as goal

-- the taking has found this word
abbrev pub invariant-loop : goal.invariant-loop
invariant-loop g l =
    Stepped g.M.Mix.mix_of l.self g.K.Ride.riding
    (piece_next (λ p. g.F.Frame.holding l.frame p) (λ a. g.F.Frame.behind l.frame a)
    (new_node_told l.new (new_node_after_at (Taking l.take) l.word)))
    l.seat
