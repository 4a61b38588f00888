use Rattle.rht_run.proofs.table.Table.bind_left.Goals as goal

pub new-locate-requires : goal.new-locate-requires
new-locate-requires g c = c.requires.in_range.at_in.locate_in.table_in
