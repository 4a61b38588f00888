use Rattle.std.proofs.Common.{◌≡◌, replicate}
use Rattle.rht_callers.specs.Locals.{fresh}
use Rattle.rht_core.proofs.state.fresh_locals.Given as goal

-- so many have been made
abbrev pub invariant-loop : goal.invariant-loop
invariant-loop g l = l.locals.items ≡ replicate l.counter (fresh l.env)
