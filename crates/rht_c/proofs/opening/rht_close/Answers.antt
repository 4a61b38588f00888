use Rattle.rht_c.proofs.opening.rht_close.Goals as goal

pub returns-clause-closed : goal.returns-clause-closed
returns-clause-closed c = record {
  answer = c.close.result;
  told = c.told_closing.ensures;
  closed = c.close.ensures.closed;
  refused = c.close.ensures.refused;
}
