use Rattle.rht_session_tests.proofs.OneHandle.{one_alone}
use Rattle.rht_session_tests.proofs.closings.ends.Goals as goal

pub close_all-requires-clause-one : goal.close_all-requires-clause-one
close_all-requires-clause-one c = one_alone c.args.handle
