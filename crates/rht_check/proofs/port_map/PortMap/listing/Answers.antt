use Rattle.std.proofs.Common.{◌≡◌, ◌++◌, sym, ◌∙◌, ap, append-nil, arith}
use Rattle.std.proofs.lemmas.Map.Iter.{rest_more, rest_all}
use Rattle.std.specs.Map.Iter.{deref_pair}
use Rattle.rht_check.specs.Updates.{count_of_owners}
use Rattle.rht_check.proofs.ListedPorts.{count_of_owners-cons, bound_entries, Lists-entries, listed_more}
use Rattle.rht_check.proofs.port_map.PortMap.listing.Goals as goal

pub loop-port-preserved : goal.loop-port-preserved
loop-port-preserved c =
    let gives = c.into_iter-port-iterator.ensures.into_iter_gives in
    let entries = c.self.inside.owners.entries in
    let so_far = c.loop-port.invariant in
    let rest = c.next.new.self in
    let parts = rest_more deref_pair c.loop-port.port-iterator rest c.next.result _ c.in-Some.is c.next.ensures.steps in
    record {
      listed = listed_more entries c.loop-port.bindings.pairs c.add_to.new.bindings.pairs c.in-Some.port.now c.in-Some.list.now rest
          gives.5 (bound_entries entries gives.6 c.self.invariant)
          (ap (λ l. c.loop-port.bindings.pairs ++ l) (sym parts) ∙ so_far.listed ∙ sym c.self.view_is) c.add_to.ensures.pairs
          ∙ c.self.view_is;
      room = omega (arith, c.add_to.ensures.room, so_far.room, ap count_of_owners parts, count_of_owners-cons c.in-Some.port.now c.in-Some.list.now rest);
    }

pub returns : goal.returns
returns c =
    let gives = c.into_iter-port-iterator.ensures.into_iter_gives in
    let entries = c.self.inside.owners.entries in
    let pairs = c.loop-port.bindings.pairs in
    let none = rest_all deref_pair c.loop-port.port-iterator c.next.new.self c.next.result c.in-None.is c.next.ensures.steps in
    let all : pairs ≡ c.args.self.now =
    sym (append-nil pairs) ∙ ap (λ l. pairs ++ l) (sym none) ∙ c.loop-port.invariant.listed in
    rw (all, ← c.self.view_is) (Lists-entries entries gives.6 c.self.invariant gives.5)
