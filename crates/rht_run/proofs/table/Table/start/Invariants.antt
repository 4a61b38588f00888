use Rattle.rht_run.proofs.table.Table.start.Given as goal

-- the call that begins with the step
abbrev pub ghosts-go : goal.ghosts-go
ghosts-go g a = record { begins = a.begins }
