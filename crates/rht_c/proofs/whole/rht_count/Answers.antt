use Rattle.rht_c.proofs.whole.rht_count.Goals as goal

pub returns-clause-made : goal.returns-clause-made
returns-clause-made c = record { answer = c.count.result; told = c.told_whole.ensures; made = c.count.ensures.answer }
