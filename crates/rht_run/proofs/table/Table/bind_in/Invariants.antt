use Rattle.rht_model.specs.declared.history.Call.TheVariants.{Bind}
use Rattle.rht_run.specs.Rides.{riding_of}
use Rattle.rht_run.proofs.table.Table.bind_in.Given as goal

-- what stays as it is while the call is driven
abbrev pub ghosts-drive_bind : goal.ghosts-drive_bind
ghosts-drive_bind g a = record { riding = riding_of a.number (Bind a.port a.owner a.once) a.seat.now }
