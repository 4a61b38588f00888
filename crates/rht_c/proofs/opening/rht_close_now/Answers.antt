use Rattle.rht_c.proofs.opening.rht_close_now.Goals as goal

pub returns-clause-closed : goal.returns-clause-closed
returns-clause-closed c = record {
  answer = c.close_now.result;
  told = c.told_closing_now.ensures;
  closed = c.close_now.ensures.closed;
  refused = c.close_now.ensures.refused;
}
