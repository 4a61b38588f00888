use Rattle.std.proofs.Common.{◌≡◌, ◌≤◌, length, map, take, drop, vec_len}
use Rattle.rht_session.specs.Closings.{HaveAll}
use Rattle.rht_session.proofs.closing.put_back.Given as goal

-- the sessions that are left are the first ones, and each of the others is in its handle
abbrev pub invariant-loop-session : goal.invariant-loop-session
invariant-loop-session l = record {
  put : HaveAll (drop (vec_len l.left) l.handles) (map (λ b. b.value) (drop (vec_len l.left) l.fn.sessions.items));
  left : l.left.items ≡ take (vec_len l.left) l.fn.sessions.items;
  count : length l.handles ≡ length l.fn.sessions.items;
  few : vec_len l.left ≤ length l.fn.sessions.items;
}

-- how many are left
abbrev pub decreases-loop-session : goal.decreases-loop-session
decreases-loop-session l = vec_len l.left
