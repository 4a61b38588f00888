use Rattle.std.proofs.Common.{◌≡◌, length, rules}
use Rattle.rht_resume.proofs.KeptLists.{answers-plain_longer, answers-plain, AreKept-plain}
use Rattle.rht_resume.proofs.replies.ResumeReplies.push.Goals as goal

pub returns-in_err-push-2-clause-err : goal.returns-in_err-push-2-clause-err
returns-in_err-push-2-clause-err c =
    let inside = c.self.inside in
    rw (
      c.in_err-push-2.ensures.items,
      c.in_ok-push.ensures.ok,
      answers-plain_longer inside.plain inside.pieces.items inside.kept.items c.self.invariant _,
      ← c.self.view_is,
    )
    search rules

pub invariant_of-self-2 : goal.invariant_of-self-2
invariant_of-self-2 c =
    let inside = c.self.inside in
    let place : c.in-Ok.place ≡ length inside.plain = search rules in
    rw (c.in_ok-push-2.ensures.items, c.in_ok-push.ensures.ok, place)
    (AreKept-plain inside.plain inside.pieces.items inside.kept.items c.self.invariant _)

pub returns-clause-ok : goal.returns-clause-ok
returns-clause-ok c =
    let inside = c.self.inside in
    let place : c.in-Ok.place ≡ length inside.plain = search rules in
    rw (
      c.in_ok-push-2.ensures.items,
      c.in_ok-push.ensures.ok,
      place,
      answers-plain inside.plain inside.pieces.items inside.kept.items c.self.invariant _,
      ← c.self.view_is,
    )
    search rules
