use Rattle.std.specs.Prelude.{Some}
use Rattle.rht_run.proofs.table.Table.begin.Given as goal

-- the call that begins with the operation
abbrev pub ghosts-perform : goal.ghosts-perform
ghosts-perform g a = record { begins = Some g.K.Ride.riding.call }
