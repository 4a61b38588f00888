use Rattle.rht_session.proofs.ToldApart.{told_apart, told_whole_apart}
use Rattle.rht_session.proofs.laws.told_apart.Goals as goal

pub returns-clause-calls : goal.returns-clause-calls
returns-clause-calls c = told_apart

pub returns-clause-whole : goal.returns-clause-whole
returns-clause-whole c = told_whole_apart
