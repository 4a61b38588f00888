use Rattle.std.proofs.Common.{◌≡◌, ◌+◌, ◌-◌, ◌<◌, ◌≤◌, Some, [], drop, sym, ◌∙◌, subst, arith, inl, inr, length}
use Rattle.std.proofs.lemmas.List.{get_or_default}
use Rattle.std.specs.List.{slice_index, position}
use Rattle.rht_check.specs.CommandsLeft.{Left, left_of, IsNextAt}
use Rattle.rht_check.proofs.NextCommands.{commands_from, left_of-outside, next_at}
use Rattle.rht_check.proofs.WorkersCommands.{is_own, commands_of-none}
use Rattle.rht_check.proofs.commands_left.CommandsLeft.next_place.Goals as goal
use Rattle.rht_check.proofs.commands_left.CommandsLeft.next_place.Goals.{then-worker-eq0-via-then-worker-eq0, then-worker-eq0-via-else-worker-eq0+then-worker-len}

pub returns-then-worker-eq0 : goal.returns-then-worker-eq0
returns-then-worker-eq0 c =
    let places = c.self.inside.places in
    let left : Left = record { commands = c.self.inside.commands.now; places = places.items } in
    subst (λ l. left_of l c.args.worker ≡ []) c.self.view_is
    (elim c.then-worker-eq0.branch [
      | then-worker-eq0-via-then-worker-eq0 w ↦
          left_of-outside left c.args.worker c.self.invariant.workers (inl w.if-worker-eq0.true)
      | then-worker-eq0-via-else-worker-eq0+then-worker-len w ↦
          left_of-outside left c.args.worker c.self.invariant.workers
          (inr (omega (arith, w.if-worker-len.true, w.len.ensures, places.ok.0)))
    ])

pub returns-in-Some : goal.returns-in-Some
returns-in-Some c =
    let places = c.self.inside.places in
    let left : Left = record { commands = c.self.inside.commands.now; places = places.items } in
    let worker = c.args.worker in
    let within : worker ≤ length places.items = omega (arith, c.if-worker-len.false, c.len.ensures, places.ok.0) in
    let some : 0 < worker = omega (arith, c.if-worker-eq0.false) in
    let from : c.index-from.result.now ≡ slice_index places.items (worker - 1) =
    c.index-from.ensures ∙ get_or_default places.items (worker - 1) c.index-from.result.now 0 (omega arith) in
    let is : position (is_own worker) (drop (slice_index places.items (worker - 1)) left.commands) ≡ Some c.in-Some.steps =
    rw (← from, ← commands_from c.index-from.result.now left.commands) (sym c.place_of.ensures ∙ c.in-Some.is) in
    subst (λ l. IsNextAt l worker (c.index-from.result.now + c.in-Some.steps)) c.self.view_is
    (rw from (next_at left worker c.in-Some.steps some within is))

pub returns-in-None : goal.returns-in-None
returns-in-None c =
    let places = c.self.inside.places in
    let left : Left = record { commands = c.self.inside.commands.now; places = places.items } in
    let worker = c.args.worker in
    let within : worker ≤ length places.items = omega (arith, c.if-worker-len.false, c.len.ensures, places.ok.0) in
    let from : c.index-from.result.now ≡ slice_index places.items (worker - 1) =
    c.index-from.ensures ∙ get_or_default places.items (worker - 1) c.index-from.result.now 0 (omega (arith, c.if-worker-eq0.false)) in
    subst (λ l. left_of l worker ≡ []) c.self.view_is
    (commands_of-none worker (drop (slice_index places.items (worker - 1)) left.commands)
    (rw (← from, ← commands_from c.index-from.result.now left.commands) (sym c.place_of.ensures ∙ c.in-None.is)))
