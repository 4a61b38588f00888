use Rattle.rht_deal.proofs.DoneLaws.{each_once}
use Rattle.rht_deal.proofs.laws.each_once.Goals as goal

pub returns : goal.returns
returns c = each_once
