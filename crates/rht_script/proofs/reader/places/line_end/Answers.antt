use Rattle.std.proofs.Common.{sym, ◌∙◌}
use Rattle.std.proofs.lemmas.List.{take_rest}
use Rattle.rht_script.proofs.PlaceLemmas.{line_end-feed, line_end-last}
use Rattle.rht_script.proofs.reader.places.line_end.Goals as goal

pub returns-in-Some : goal.returns-in-Some
returns-in-Some c =
    line_end-feed c.args.bytes.now c.args.at c.requires c.in-Some.len
    (rw take_rest at (sym c.line_feed_at.ensures ∙ c.in-Some.is))

pub returns-in-None : goal.returns-in-None
returns-in-None c =
    line_end-last c.args.bytes.now c.args.at c.requires
    (rw take_rest at (sym c.line_feed_at.ensures ∙ c.in-None.is))
