use Rattle.rht_deal.proofs.DoneLaws.{by_workers}
use Rattle.rht_deal.proofs.laws.by_workers.Goals as goal

pub returns : goal.returns
returns c = by_workers
