use Rattle.rht_words.proofs.EachElement.{AllByRecursion-push}
use Rattle.rht_model.specs.KeptReplies.{IsKept}
use Rattle.rht_model.proofs.replies.Replies.push.Goals as goal

pub invariant_of-self-then-is_empty-2 : goal.invariant_of-self-then-is_empty-2
invariant_of-self-then-is_empty-2 c =
    let inside = c.self.inside in
    let apart = inside.apart.items in
    let is_kept = c.in-Some.ensures.kept apart in
    rw (c.in_ok-push-in-Some.ensures.items)
    (AllByRecursion-push (IsKept apart) inside.kept.items c.in-Some.kept c.self.invariant is_kept)
