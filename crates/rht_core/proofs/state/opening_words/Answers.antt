use Rattle.std.proofs.Common.{◌∙◌}
use Rattle.rht_core.proofs.Events.OpenedStates.{opening_words-more}
use Rattle.rht_core.proofs.state.opening_words.Goals as goal

pub loop-place-preserved : goal.loop-place-preserved
loop-place-preserved c =
    let more = opening_words-more c.args.env c.loop-place.place c.opening_word.result
    c.loop-place.words.items in
    c.in_ok-push.ensures.items ∙ more c.loop-place.invariant c.opening_word.ensures
