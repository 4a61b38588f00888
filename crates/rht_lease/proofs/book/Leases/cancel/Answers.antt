use Rattle.std.proofs.Common.{◌≡◌, true, false, Some, None, refl, sym, ◌∙◌, ap}
use Rattle.std.specs.List.{position}
use Rattle.rht_lease.specs.Books.{LeaseBook, with_leases, is_lease_of, has_lease, cancelled}
use Rattle.rht_lease.proofs.FirstLeases.{cancelled-first, has_lease-first, cancelled-none, has_lease-none}
use Rattle.rht_lease.proofs.book.Leases.cancel.Goals as goal

pub returns-in-Some-clause-none : goal.returns-in-Some-clause-none
returns-in-Some-clause-none g c =
    let leases = c.self.inside.leases.items in
    let found : position (is_lease_of c.args.port c.args.owner) leases ≡ Some c.in-Some.place = cc in
    let has : has_lease c.args.port c.args.owner c.args.self.now.leases ≡ true =
    sym (ap (λ (b : LeaseBook). has_lease c.args.port c.args.owner b.leases) c.self.view_is)
    ∙ has_lease-first c.args.port c.args.owner leases c.in-Some.place found in
    ((λ none. absurd (cc)), (λ missing. absurd (cc)))

pub returns-in-Some-clause-book : goal.returns-in-Some-clause-book
returns-in-Some-clause-book g c =
    let leases = c.self.inside.leases.items in
    let found : position (is_lease_of c.args.port c.args.owner) leases ≡ Some c.in-Some.place = cc in
    ap (λ l. record { leases = l; capacity = c.self.inside.capacity })
    (c.remove.ensures.items ∙ cancelled-first c.args.port c.args.owner leases c.in-Some.place found)
    ∙ ap (λ (b : LeaseBook). with_leases b (cancelled c.args.port c.args.owner b.leases)) c.self.view_is

pub returns-in-None-clause-none : goal.returns-in-None-clause-none
returns-in-None-clause-none g c =
    let leases = c.self.inside.leases.items in
    let none : position (is_lease_of c.args.port c.args.owner) leases ≡ None = cc in
    let has : has_lease c.args.port c.args.owner c.args.self.now.leases ≡ false =
    sym (ap (λ (b : LeaseBook). has_lease c.args.port c.args.owner b.leases) c.self.view_is)
    ∙ has_lease-none c.args.port c.args.owner leases none in
    ((λ is. has), (λ missing. refl))

pub returns-in-None-clause-book : goal.returns-in-None-clause-book
returns-in-None-clause-book g c =
    let leases = c.self.inside.leases.items in
    let none : position (is_lease_of c.args.port c.args.owner) leases ≡ None = cc in
    sym c.self.view_is
    ∙ sym (ap (λ l. record { leases = l; capacity = c.self.inside.capacity }) (cancelled-none c.args.port c.args.owner leases none))
    ∙ ap (λ (b : LeaseBook). with_leases b (cancelled c.args.port c.args.owner b.leases)) c.self.view_is
