use Rattle.std.proofs.Common.{◌≡◌, ◌⊎◌, []}
use Rattle.rht_run.specs.declared.pass.Pass.{Pass}
use Rattle.rht_run.specs.declared.seats.Held.{Held}
use Rattle.rht_run.specs.Rule.{In, held_at}
use Rattle.rht_run.specs.Passes.{IsPassOf, Among, seen_by}
use Rattle.rht_run.proofs.table.Table.absorb_all.Given as goal

-- each pass is still there, or the seat has what it had
abbrev pub invariant-loop-pass : goal.invariant-loop-pass
invariant-loop-pass g l = record {
  table : l.seat.table_id ≡ l.fn.seat.table_id;
  slots : l.seat.me.1 ≡ [];
  env : l.seat.me.0.env ≡ l.self.env;
  all : (p : Pass g.row.M.Denot) → Among p l.passes.items → IsPassOf g.M.Mix.mix_of l.self p;
  old : (h : Held g.row.M.Denot) → In h l.fn.seat.me.0.held → In h l.seat.me.0.held;
  taken : (p : Pass g.row.M.Denot) → Among p l.fn.passes.items
      → Among p l.passes.items ⊎ In (held_at p.number (seen_by p)) l.seat.me.0.held;
}

abbrev pub decreases-loop-pass : goal.decreases-loop-pass
decreases-loop-pass g l = goal.left-loop-pass g l
