use Rattle.std.proofs.Common.{◌≡◌, ◌≢◌, ℕ, List, [], length, ◌∙◌, sym, ap, subst, arith}
use Rattle.std.specs.List.{remove}
use Rattle.rht_check.proofs.OwnerLists.{found_at, absent, released_at, unreleased, owners_released-some, on_some}
use Rattle.rht_check.proofs.owner_list.OwnerList.take_out.Goals as goal

pub returns-in-Some-clause-found : goal.returns-in-Some-clause-found
returns-in-Some-clause-found c =
    (found_at c.args.owner c.args.self.now c.in-Some.place (sym c.place.ensures ∙ c.in-Some.is)).found

pub returns-in-None-clause-found : goal.returns-in-None-clause-found
returns-in-None-clause-found c = absent c.args.owner c.args.self.now (sym c.place.ensures ∙ c.in-None.is)

pub returns-in-None-clause-owners : goal.returns-in-None-clause-owners
returns-in-None-clause-owners c = unreleased c.args.owner c.args.self.now (sym c.place.ensures ∙ c.in-None.is)

pub returns-in-Some-clause-owners : goal.returns-in-Some-clause-owners
returns-in-Some-clause-owners c =
    let is = sym c.place.ensures ∙ c.in-Some.is in
    let at = found_at c.args.owner c.args.self.now c.in-Some.place is in
    let e = c.remove.ensures in
    let owners = c.self.inside.owners in
    on_some c.remove.result (c.remove.new.self.items ≡ remove owners.items c.in-Some.place)
    (e.variant.1 (omega (arith, at.within, owners.ok.0, ap (λ (l : List ℕ). length l) c.self.view_is))) e.items
    ∙ ap (λ l. remove l c.in-Some.place) c.self.view_is
    ∙ released_at c.args.owner c.args.self.now c.in-Some.place is

pub returns-in-Some-clause-bound : goal.returns-in-Some-clause-bound
returns-in-Some-clause-bound c = λ some others.
    subst (λ l. l ≢ []) (sym (returns-in-Some-clause-owners c))
    (owners_released-some c.args.owner c.args.self.now some others)
