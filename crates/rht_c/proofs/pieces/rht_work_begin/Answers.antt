use Rattle.rht_c.proofs.pieces.rht_work_begin.Goals as goal

pub returns-clause-begun : goal.returns-clause-begun
returns-clause-begun c = record { answer = c.begin.result; told = c.told.ensures; made = c.begin.ensures.answer }
