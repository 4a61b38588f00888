use Rattle.rht_words.proofs.EachElement.{AllByRecursion-push}
use Rattle.rht_lease.specs.KeptAnswers.{IsKept}
use Rattle.rht_lease.proofs.replies.LeaseReplies.push_bare.Goals as goal

pub invariant_of-self-in-Ok : goal.invariant_of-self-in-Ok
invariant_of-self-in-Ok c =
    let inside = c.self.inside in
    rw c.in_ok-push-in-Ok.ensures.items
    (AllByRecursion-push (IsKept inside.plain) inside.kept.items c.in-Ok.kept c.self.invariant (c.in-Ok.ensures.kept inside.plain))
