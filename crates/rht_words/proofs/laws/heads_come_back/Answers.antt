use Rattle.rht_words.proofs.LinksRead.{heads_come_back}
use Rattle.rht_words.proofs.laws.heads_come_back.Goals as goal

pub returns : goal.returns
returns c = heads_come_back
