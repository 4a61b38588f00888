use Rattle.rht_model.proofs.OneListing.{Lists-listing_of}
use Rattle.rht_model.proofs.laws.listed.Goals as goal

pub returns : goal.returns
returns c = Lists-listing_of
