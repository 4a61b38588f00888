use Rattle.std.proofs.Common.{◌≡◌, [], ◌∷◌, length, map, vec_len}
use Rattle.rht_session.specs.declared.session.Session.{Session}
use Rattle.rht_session.specs.Handles.{sessions_of}
use Rattle.rht_session.proofs.opening.opened.Given as goal

-- so far each session has a handle
abbrev pub invariant-loop-session : goal.invariant-loop-session
invariant-loop-session l = record {
  all : map sessions_of l.handles.items ≡ map (λ (session : Session). session ∷ []) l.yielded;
  count : vec_len l.handles ≡ length l.yielded;
}
