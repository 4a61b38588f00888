use Rattle.rht_model.specs.declared.history.Call.TheVariants.{Work}
use Rattle.rht_run.specs.Rides.{riding_of}
use Rattle.rht_run.proofs.table.Table.work.Given as goal

-- what stays as it is while the call is driven
abbrev pub ghosts-drive_work : goal.ghosts-drive_work
ghosts-drive_work g a = record { riding = riding_of a.caller Work a.seat.now }
