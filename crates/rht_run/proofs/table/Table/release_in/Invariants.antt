use Rattle.rht_model.specs.declared.history.Call.TheVariants.{Release}
use Rattle.rht_run.specs.Rides.{riding_of}
use Rattle.rht_run.proofs.table.Table.release_in.Given as goal

-- what stays as it is while the call is driven
abbrev pub ghosts-drive_release : goal.ghosts-drive_release
ghosts-drive_release g a = record { riding = riding_of a.number (Release a.port a.owner) a.seat.now }
