use Rattle.rht_nest.proofs.BucketsApart.{buckets_never_meet}
use Rattle.rht_nest.proofs.laws.buckets_never_meet.Goals as goal

pub returns : goal.returns
returns c = buckets_never_meet
