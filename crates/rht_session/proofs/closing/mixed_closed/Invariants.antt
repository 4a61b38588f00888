use Rattle.std.proofs.Common.{◌≡◌, ◌≤◌, length, map, vec_len, vec_capacity}
use Rattle.rht_policy.specs.Mix.{final_mix}
use Rattle.rht_session.specs.declared.session.Session.TheVariants as kinds
use Rattle.rht_session.proofs.ClosedSessions.{IsGathered}
use Rattle.rht_session.proofs.closing.mixed_closed.Given as goal

-- the passes so far are gathered
abbrev pub invariant-loop-session : goal.invariant-loop-session
invariant-loop-session l = record {
  gathered : IsGathered final_mix kinds.Mix (map (λ b. b.value) l.fn.sessions.items) l.fn.space (length l.yielded) l.passes.items l.table;
  capacity : length l.fn.sessions.items ≤ vec_capacity l.passes;
  many : vec_len l.passes ≡ length l.yielded;
}
