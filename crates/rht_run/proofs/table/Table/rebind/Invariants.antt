use Rattle.rht_model.specs.declared.history.Call.TheVariants.{Rebind}
use Rattle.rht_run.specs.Rides.{riding_of}
use Rattle.rht_run.proofs.table.Table.rebind.Given as goal

-- what stays as it is while the call is driven
abbrev pub ghosts-drive_rebind : goal.ghosts-drive_rebind
ghosts-drive_rebind g a = record { riding = riding_of a.number (Rebind a.port a.owner a.new) a.seat.now }
