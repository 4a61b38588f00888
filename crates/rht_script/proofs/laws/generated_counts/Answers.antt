use Rattle.rht_script.proofs.GeneratedCommands.{generated_counts}
use Rattle.rht_script.proofs.laws.generated_counts.Goals as goal

pub returns : goal.returns
returns c = generated_counts
