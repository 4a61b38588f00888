use Rattle.rht_script.proofs.PlainScripts.{reads_back}
use Rattle.rht_script.proofs.laws.reads_back.Goals as goal

pub returns : goal.returns
returns c = reads_back
