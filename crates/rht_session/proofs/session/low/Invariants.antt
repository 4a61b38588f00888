use Rattle.std.proofs.Common.{◌≡◌, map}
use Rattle.rht_session.specs.declared.session.Session.TheVariants as sessions
use Rattle.rht_session.proofs.session.low.Given as goal

-- so far each caller has its session
abbrev pub invariant-loop-shared : goal.invariant-loop-shared
invariant-loop-shared l = l.sessions.items ≡ map sessions.Low l.yielded
