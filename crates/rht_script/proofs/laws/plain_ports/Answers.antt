use Rattle.rht_script.proofs.SayableScripts.{plain_ports}
use Rattle.rht_script.proofs.laws.plain_ports.Goals as goal

pub returns : goal.returns
returns c = plain_ports
