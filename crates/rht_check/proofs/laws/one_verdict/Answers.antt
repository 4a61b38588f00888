use Rattle.rht_check.proofs.OneVerdict.{same_verdict}
use Rattle.rht_check.proofs.laws.one_verdict.Goals as goal

pub returns : goal.returns
returns c = same_verdict
