use Rattle.rht_script.proofs.FirstFaults.{faults_are_first}
use Rattle.rht_script.proofs.laws.faults_are_first.Goals as goal

pub returns : goal.returns
returns c = faults_are_first
