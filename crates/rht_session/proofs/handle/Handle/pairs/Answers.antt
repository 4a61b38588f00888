use Rattle.std.proofs.Common.{◌≡◌, ◌++◌, length, map, drop, refl, ap, subst}
use Rattle.rht_session.specs.Plain.{c_pair}
use Rattle.rht_session.specs.Lists.{shown}
use Rattle.rht_session.specs.Sessions.{pairs_of}
use Rattle.rht_session.proofs.HandleCalls.{changes}
use Rattle.rht_session.proofs.handle.Handle.pairs.Goals as goal

pub returns-clause-answer : goal.returns-clause-answer
returns-clause-answer c =
    let session = c.session.result.now in
    let room = c.args.into.now in
    let after = c.write_pairs.new.into in
    let count = c.write_pairs.result in
    let same : map c_pair c.pairs.result.now ≡ map c_pair (pairs_of session) = ap (map c_pair) c.pairs.ensures in
    let made = c.write_pairs.ensures in
    changes c.need_free.new.self c.need_free.ensures.same c.in_ok-need_free.ensures.free session session c.session.ensures.value refl (
      refl,
      subst (λ l. count ≡ length (shown l c.args.skip (length room))) same made.count,
      subst (λ l. after ≡ shown l c.args.skip (length room) ++ drop count room) same made.written,
    )
