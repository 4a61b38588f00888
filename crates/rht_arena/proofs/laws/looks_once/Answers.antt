use Rattle.rht_arena.proofs.WordsLooked.{looks_once}
use Rattle.rht_arena.proofs.laws.looks_once.Goals as goal

pub returns : goal.returns
returns c = looks_once
