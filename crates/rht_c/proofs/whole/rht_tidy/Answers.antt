use Rattle.rht_c.proofs.whole.rht_tidy.Goals as goal

pub returns-clause-made : goal.returns-clause-made
returns-clause-made c = record { answer = c.tidy.result; told = c.told_whole.ensures; made = c.tidy.ensures.answer }
