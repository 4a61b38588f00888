use Rattle.rht_script.proofs.SayableScripts.{says_sayable}
use Rattle.rht_script.proofs.laws.says_sayable.Goals as goal

pub returns : goal.returns
returns c = says_sayable
