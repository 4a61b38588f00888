use Rattle.rht_c.proofs.pieces.rht_go_on.Goals as goal

pub returns-clause-gone_on : goal.returns-clause-gone_on
returns-clause-gone_on c = record { answer = c.go_on.result; told = c.told.ensures; made = c.go_on.ensures.answer }
