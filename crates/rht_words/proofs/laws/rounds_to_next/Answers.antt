use Rattle.rht_words.proofs.Rounding.{rounded_up-least, rounded_down-greatest}
use Rattle.rht_words.proofs.laws.rounds_to_next.Goals as goal

pub returns : goal.returns
returns c = record { up = rounded_up-least; down = rounded_down-greatest }
