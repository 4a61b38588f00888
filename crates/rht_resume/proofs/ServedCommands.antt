-- How a pass gets on by the calls that commands stand for: what they have added to its finished calls is served behind the others.
use Rattle.std.proofs.Common.{ℕ, Bool, []}
use Rattle.rht_run.specs.declared.pass.Pass.{Pass}
use Rattle.rht_run.specs.declared.table.Table.{Table}
use Rattle.rht_workers.specs.WorkerCalls.{HasServedEach}
use Rattle.rht_resume.specs.declared.resume.Piece.{Piece}
use Rattle.rht_resume.specs.Pieces.{Walking, begun, walks_of, ended_each}
use Rattle.rht_resume.specs.ServedPieces.{HasResumed, outcome_with}
use Rattle.rht_resume.proofs.PieceLemmas.{Serves-walks}

module _ {M : Type 0} (mix : ℕ → ℕ → ℕ → ℕ) (t : Table M) (auto : Bool) where
  -- the walks of a `next`
  pub HasServedEach-next : (limit : ℕ) (old new : Walking) (piece : Piece) (before now : Pass M)
      → (has : HasResumed mix t limit old new piece before now)
      → HasServedEach mix t auto (walks_of limit (begun old.spot) has.endings) has.endings before now
  HasServedEach-next limit old new piece before now has = record {
    pass = has.pass;
    same = has.same;
    idle = has.idle;
    more = ended_each (walks_of limit (begun old.spot) has.endings) has.endings;
    finished = has.finished;
    serves = Serves-walks auto limit (outcome_with piece new) (begun old.spot) [] has.endings has.outcome;
  }
