use Rattle.std.proofs.Common.{◌≡◌, ◌++◌, length, drop, refl, subst}
use Rattle.rht_session.specs.Lists.{shown}
use Rattle.rht_session.proofs.HandleCalls.{changes}
use Rattle.rht_session.proofs.handle.Handle.owners.Goals as goal

pub returns-clause-answer : goal.returns-clause-answer
returns-clause-answer c =
    let session = c.session.result.now in
    let room = c.args.into.now in
    let after = c.write_owners.new.into in
    let count = c.write_owners.result in
    let made = c.write_owners.ensures in
    changes c.need_free.new.self c.need_free.ensures.same c.in_ok-need_free.ensures.free session session c.session.ensures.value refl (
      refl,
      subst (λ l. count ≡ length (shown l c.args.skip (length room))) c.owners.ensures made.count,
      subst (λ l. after ≡ shown l c.args.skip (length room) ++ drop count room) c.owners.ensures made.written,
    )
