use Rattle.rht_script.proofs.GeneratedCommands.{generated_sayable}
use Rattle.rht_script.proofs.laws.generated_sayable.Goals as goal

pub returns : goal.returns
returns c = generated_sayable
