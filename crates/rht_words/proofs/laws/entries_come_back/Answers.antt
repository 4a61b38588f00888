use Rattle.rht_words.proofs.LinksRead.{entries_come_back}
use Rattle.rht_words.proofs.laws.entries_come_back.Goals as goal

pub returns : goal.returns
returns c = entries_come_back
