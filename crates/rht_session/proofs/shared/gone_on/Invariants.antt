use Rattle.std.proofs.Common.{◌≤◌}
use Rattle.rht_session.proofs.GoingOn.{IsOnItsWay}
use Rattle.rht_session.proofs.shared.gone_on.Given as goal

-- the pass has made an operation of its call for each round, and is in it
abbrev pub invariant-loop-made : goal.invariant-loop-made
invariant-loop-made g l = (l.made ≤ l.fn.most) × IsOnItsWay g.M.Mix.mix_of l.table l.fn.pass l.made l.pass
