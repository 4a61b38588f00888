use Rattle.std.proofs.Common.{◌≡◌, ℕ, ◌+◌, ◌-◌, ◌<◌, min, List, [], ◌++◌, length, take, drop, sym, ap, ◌∙◌, arith}
use Rattle.std.proofs.lemmas.List.{drop-drop}
use Rattle.std.proofs.lemmas.Grind.{common_steps}
use Rattle.rht_io.specs.Memory.{filled}
use Rattle.rht_io.proofs.MemoryLemmas.{gives-front, gives-all}
use Rattle.rht_io.proofs.sure.SureSourceSource.take.Goals as goal

-- the slice from the first byte that was not given is what is left
left_of : (given : ℕ) (items passed left : List ℕ) → drop given items ≡ left → passed ≡ items
    → take (length passed - given) (drop given passed) ≡ left
left_of given items passed left view same = grind (arith, common_steps)

-- the front of what is left was put at the front of the room
gave : (given n : ℕ) (items passed left room new : List ℕ) → drop given items ≡ left → passed ≡ items
    → n ≡ min (length (take (length passed - given) (drop given passed))) (length room)
    → new ≡ filled (take (length passed - given) (drop given passed)) room n
    → (left ≡ take n new ++ drop (given + n) items) × (n ≡ 0 → 0 < length new → drop (given + n) items ≡ [])
gave given n items passed left room new view same count put =
    let is_left = left_of given items passed left view same in
    let counted : n ≡ min (length left) (length room) = rw is_left at count in
    let filled_so : new ≡ filled left room n = rw is_left at put in
    let rest : drop (given + n) items ≡ drop n left = sym (drop-drop n given items) ∙ ap (drop n) view in (
      gives-front n left _ room new (omega arith) filled_so rest,
      gives-all n left _ room new counted
          filled_so rest,
    )

pub returns-clause-bytes : goal.returns-clause-bytes
returns-clause-bytes c =
    gave c.self.inside.given c.copy_front-n.result _ _ _ c.args.room.now _ c.self.view_is
    c.deref.ensures.value
    c.copy_front-n.ensures.count c.copy_front-n.ensures.room
