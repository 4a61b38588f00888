use Rattle.std.proofs.Common.{◌≡◌, ◌≤◌, length, map, vec_len, vec_capacity}
use Rattle.rht_session.proofs.TakenHandles.{AreTaken}
use Rattle.rht_session.proofs.closing.taken_out.Given as goal

-- the sessions of the handles before this place are taken
abbrev pub invariant-loop-place : goal.invariant-loop-place
invariant-loop-place l = record {
  are : AreTaken l.fn.handles l.handles l.place (map (λ b. b.value) l.sessions.items);
  many : vec_len l.sessions ≡ l.place;
  capacity : length l.fn.handles ≤ vec_capacity l.sessions;
  within : l.place ≤ length l.fn.handles;
}
