use Rattle.rht_model.specs.declared.history.Call.TheVariants.{Walk}
use Rattle.rht_run.specs.Walking.{walk_riding}
use Rattle.rht_run.proofs.table.Table.walked.Given as goal

-- what stays as it is while the walk goes on
abbrev pub ghosts-drive_walk : goal.ghosts-drive_walk
ghosts-drive_walk g a = record { riding = walk_riding a.walker.number (Walk a.walker.from a.walker.limit) a.seat.now }
