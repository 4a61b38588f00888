use Rattle.std.proofs.Common.{ℕ, List, [], subst, sym}
use Rattle.atomic_table.specs.Table.{opening}
use Rattle.rht_run.specs.Rule.{Holds, first_view}
use Rattle.rht_run.proofs.SeatMoves.{opens}
use Rattle.rht_run.proofs.table.Table.with_first_seat.Goals as goal

pub of_words-requires : goal.of_words-requires
of_words-requires g c =
    subst (λ (laid : List ℕ). Holds {M = g.row.M.Denot} g.M.Mix.mix_of c.args.env (opening {S = Unit {0}} laid [] (first_view c.args.env)))
    (sym c.as_slice.ensures.value) (opens g.row.M.Denot g.M.Mix.mix_of c.args.env c.in_ok-laid.laid.items c.in_ok-laid.ensures.laid)
