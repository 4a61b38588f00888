use Rattle.rht_model.proofs.UnchangedBindings.{left_by-unchanged}
use Rattle.rht_model.proofs.laws.changed_by_three_replies.Goals as goal

pub returns : goal.returns
returns c = left_by-unchanged
