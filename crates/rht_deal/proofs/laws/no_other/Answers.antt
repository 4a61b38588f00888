use Rattle.rht_deal.proofs.DoneLaws.{no_other}
use Rattle.rht_deal.proofs.laws.no_other.Goals as goal

pub returns : goal.returns
returns c = no_other
