use Rattle.rht_words.proofs.PortWords.{ports_come_back}
use Rattle.rht_words.proofs.laws.ports_come_back.Goals as goal

pub returns : goal.returns
returns c = ports_come_back
