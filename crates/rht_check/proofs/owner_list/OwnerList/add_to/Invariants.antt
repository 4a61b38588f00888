use Rattle.std.proofs.Common.{◌≡◌, ◌+◌, take}
use Rattle.std.specs.List.{fold}
use Rattle.rht_model.specs.Listing.{added}
use Rattle.rht_check.proofs.owner_list.OwnerList.add_to.Given as goal

-- the owners so far are added, and there was room for them
abbrev pub invariant-loop-i : goal.invariant-loop-i
invariant-loop-i l =
    (l.bindings.pairs ≡ fold (λ pairs owner. added pairs l.port owner) l.initial.bindings.pairs (take l.i l.self))
    × (l.bindings.room + l.i ≡ l.initial.bindings.room)
