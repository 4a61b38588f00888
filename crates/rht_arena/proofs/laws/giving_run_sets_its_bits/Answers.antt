use Rattle.rht_arena.proofs.RunsGiven.{giving_run_sets_its_bits}
use Rattle.rht_arena.proofs.laws.giving_run_sets_its_bits.Goals as goal

pub returns : goal.returns
returns c = giving_run_sets_its_bits
