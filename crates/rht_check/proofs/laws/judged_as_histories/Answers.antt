use Rattle.std.proofs.Common.{subst}
use Rattle.rht_model.specs.Histories.{IsLegal}
use Rattle.rht_check.proofs.OneVerdict.{same_entries}
use Rattle.rht_check.proofs.laws.judged_as_histories.Goals as goal

pub returns : goal.returns
returns c = λ kind commands claims entries bindings given all listed. (
  λ accepted. subst (IsLegal kind) (same_entries commands _ claims accepted.entries entries accepted.right.given given) accepted.right.legal,
  λ legal. record { entries = entries; right = record { given = given; legal = legal }; all = all; listed = listed },
)
