use Rattle.rht_reclaim.proofs.GivesCounted.{gives_each_once}
use Rattle.rht_reclaim.proofs.laws.gives_each_once.Goals as goal

pub returns : goal.returns
returns c = gives_each_once
