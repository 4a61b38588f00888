use Rattle.std.proofs.Common.{sym, ◌∙◌}
use Rattle.rht_words.proofs.EachElement.{last_or-None}
use Rattle.rht_chain.proofs.chains.last_of.Goals as goal

pub returns : goal.returns
returns c = c.copied.ensures ∙ (c.last.ensures.value ∙ sym (last_or-None c.args.nodes.now))
