use Rattle.rht_model.specs.declared.history.Call.TheVariants.{Find}
use Rattle.rht_run.specs.Rides.{riding_of}
use Rattle.rht_run.proofs.table.Table.find.Given as goal

-- what stays as it is while the call is driven
abbrev pub ghosts-drive_find : goal.ghosts-drive_find
ghosts-drive_find g a = record { riding = riding_of a.number (Find a.port) a.seat.now }
