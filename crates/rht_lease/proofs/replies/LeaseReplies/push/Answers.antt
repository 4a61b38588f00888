use Rattle.std.proofs.Common.{◌≡◌, length, rules}
use Rattle.rht_lease.proofs.KeptLists.{answers-longer, answers-new, AreKept-new}
use Rattle.rht_lease.proofs.replies.LeaseReplies.push.Goals as goal

pub returns-in_err-push-2-clause-err : goal.returns-in_err-push-2-clause-err
returns-in_err-push-2-clause-err c =
    let inside = c.self.inside in
    rw (
      c.in_err-push-2.ensures.items,
      c.in_ok-push.ensures.ok,
      answers-longer inside.plain _ inside.kept.items c.self.invariant,
      ← c.self.view_is,
    )
    search rules

pub invariant_of-self-2 : goal.invariant_of-self-2
invariant_of-self-2 c =
    let inside = c.self.inside in
    let place : c.in-Ok.place ≡ length inside.plain = search rules in
    rw (c.in_ok-push-2.ensures.items, c.in_ok-push.ensures.ok, place)
    (AreKept-new inside.plain _ inside.kept.items c.self.invariant)

pub returns-clause-ok : goal.returns-clause-ok
returns-clause-ok c =
    let inside = c.self.inside in
    let place : c.in-Ok.place ≡ length inside.plain = search rules in
    rw (
      c.in_ok-push-2.ensures.items,
      c.in_ok-push.ensures.ok,
      place,
      answers-new inside.plain _ inside.kept.items c.self.invariant,
      ← c.self.view_is,
    )
    search rules
