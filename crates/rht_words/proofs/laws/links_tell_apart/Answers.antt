use Rattle.rht_words.proofs.LinksRead.{links_tell_apart}
use Rattle.rht_words.proofs.laws.links_tell_apart.Goals as goal

pub returns : goal.returns
returns c = links_tell_apart
