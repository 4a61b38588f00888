use Rattle.rht_nest.proofs.BucketsApart.{buckets_stand_in_a_row}
use Rattle.rht_nest.proofs.laws.buckets_stand_in_a_row.Goals as goal

pub returns : goal.returns
returns c = buckets_stand_in_a_row
