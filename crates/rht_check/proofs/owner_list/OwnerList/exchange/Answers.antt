use Rattle.std.proofs.Common.{◌≢◌, [], ◌∙◌, sym, subst}
use Rattle.rht_check.proofs.OwnerLists.{found_at, absent, rebound_at, unrebound, owners_rebound-some}
use Rattle.rht_check.proofs.owner_list.OwnerList.exchange.Goals as goal

pub returns-in-Some-clause-found : goal.returns-in-Some-clause-found
returns-in-Some-clause-found c =
    (found_at c.args.owner c.args.self.now c.in-Some.place (sym c.place.ensures ∙ c.in-Some.is)).found

pub returns-in-None-clause-found : goal.returns-in-None-clause-found
returns-in-None-clause-found c = absent c.args.owner c.args.self.now (sym c.place.ensures ∙ c.in-None.is)

pub returns-in-None-clause-owners : goal.returns-in-None-clause-owners
returns-in-None-clause-owners c =
    unrebound c.args.owner c.args.new c.args.self.now (sym c.place.ensures ∙ c.in-None.is)

pub returns-in-Some-clause-owners : goal.returns-in-Some-clause-owners
returns-in-Some-clause-owners c =
    rw c.self.view_is
    (rebound_at c.args.owner c.args.new c.args.self.now c.in-Some.place (sym c.place.ensures ∙ c.in-Some.is))

pub returns-in-Some-clause-bound : goal.returns-in-Some-clause-bound
returns-in-Some-clause-bound c = λ some.
    subst (λ l. l ≢ []) (sym (returns-in-Some-clause-owners c))
    (owners_rebound-some c.args.owner c.args.new c.args.self.now some)
