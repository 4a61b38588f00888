use Rattle.std.proofs.Common.{◌≡◌, Some, None, sym, ◌∙◌, ap}
use Rattle.std.specs.List.{position}
use Rattle.rht_lease.specs.Books.{LeaseBook, with_leases, is_lease_of, has_lease, renewed}
use Rattle.rht_lease.proofs.FirstLeases.{renewed-first, has_lease-first, renewed-none, has_lease-none}
use Rattle.rht_lease.proofs.book.Leases.renew.Goals as goal

pub returns-in-Some-clause-found : goal.returns-in-Some-clause-found
returns-in-Some-clause-found c =
    let leases = c.self.inside.leases.items in
    let found : position (is_lease_of c.args.port c.args.owner) leases ≡ Some c.in-Some.place = cc in
    sym (has_lease-first c.args.port c.args.owner leases c.in-Some.place found)
    ∙ ap (λ (b : LeaseBook). has_lease c.args.port c.args.owner b.leases) c.self.view_is

pub returns-in-Some-clause-book : goal.returns-in-Some-clause-book
returns-in-Some-clause-book c =
    let leases = c.self.inside.leases.items in
    let found : position (is_lease_of c.args.port c.args.owner) leases ≡ Some c.in-Some.place = cc in
    ap (λ l. record { leases = l; capacity = c.self.inside.capacity })
    (renewed-first c.args.port c.args.owner leases c.in-Some.place found c.args.last)
    ∙ ap (λ (b : LeaseBook). with_leases b (renewed c.args.port c.args.owner c.args.last b.leases)) c.self.view_is

pub returns-in-None-clause-found : goal.returns-in-None-clause-found
returns-in-None-clause-found c =
    let leases = c.self.inside.leases.items in
    let none : position (is_lease_of c.args.port c.args.owner) leases ≡ None = cc in
    sym (has_lease-none c.args.port c.args.owner leases none)
    ∙ ap (λ (b : LeaseBook). has_lease c.args.port c.args.owner b.leases) c.self.view_is

pub returns-in-None-clause-book : goal.returns-in-None-clause-book
returns-in-None-clause-book c =
    let leases = c.self.inside.leases.items in
    let none : position (is_lease_of c.args.port c.args.owner) leases ≡ None = cc in
    sym c.self.view_is
    ∙ sym (ap (λ l. record { leases = l; capacity = c.self.inside.capacity }) (renewed-none c.args.port c.args.owner leases none c.args.last))
    ∙ ap (λ (b : LeaseBook). with_leases b (renewed c.args.port c.args.owner c.args.last b.leases)) c.self.view_is
