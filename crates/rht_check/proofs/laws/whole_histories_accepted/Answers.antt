use Rattle.rht_check.proofs.WholeHistories.{whole_accepted, accepted_whole}
use Rattle.rht_check.proofs.laws.whole_histories_accepted.Goals as goal

pub returns : goal.returns
returns c = λ kind commands claims bindings no_first. (
  whole_accepted commands no_first kind claims bindings.pairs,
  λ whole. accepted_whole commands no_first kind claims bindings.pairs whole.0 whole.1 whole.2,
)
