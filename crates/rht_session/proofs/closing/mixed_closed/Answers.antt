use Rattle.std.proofs.Common.{◌≡◌, ◌+◌, ◌<◌, List, length, map, get_or, sym, ap, ◌∙◌, subst, arith}
use Rattle.std.specs.Prelude.{Some}
use Rattle.std.proofs.lemmas.List.{length-map, get_or-map, length_push}
use Rattle.std.proofs.lemmas.Iterator.Adapters.{YieldsList-from_vec}
use Rattle.std.proofs.lemmas.Iterator.Consumers.{YieldsList-turn, YieldsList-end}
use Rattle.rht_policy.specs.declared.mix.Lookup3.{Lookup3}
use Rattle.rht_policy.specs.Mix.{final_mix}
use Rattle.rht_run.specs.declared.pass.Pass.{Pass}
use Rattle.rht_session.specs.declared.shared.Shared.{Shared}
use Rattle.rht_session.specs.declared.session.Session.TheVariants as kinds
use Rattle.rht_session.proofs.ClosedSessions.{IsGathered, mixed_of, gathers, kind_among, all_passes, closed_over}
use Rattle.rht_session.proofs.closing.mixed_closed.Goals as goal

same_kind : (a b : Shared Lookup3) → kinds.Mix a ≡ kinds.Mix b → a ≡ b
same_kind a b e = cc

other_kind : (a : Shared _) (b : Shared _) → kinds.Mix a ≡ kinds.Low b → ⊥
other_kind a b e = absurd cc

pub push_reserved-requires : goal.push_reserved-requires
push_reserved-requires c =
    let before = c.loop-session.invariant in
    let turn = YieldsList-turn (YieldsList-from_vec c.args.sessions.items (cc) (cc)) c.loop-session.yielded c.loop-session.session-iterator
    c.loop-session.yielded_by c.next.result c.next.new.self c.in-Some.session c.in-Some.is c.next.ensures.steps in
    let many = before.many in
    let capacity = before.capacity in
    omega (arith, many, capacity, turn.0)

pub loop-session-init : goal.loop-session-init
loop-session-init c =
    let all = map (λ b. b.value) c.args.sessions.items in
    let rooms = c.requires.rooms in
    let none = c.args.passes.ok.0 in
    let capacity = rooms.1 in
    record {
      gathered = record {
        t = _;
        are = mixed_of all rooms.2 rooms.3 rooms.4 c.requires.one c.requires.fit;
        space_for = rooms.5;
        gathered = rooms.0;
        own = tt;
      };
      capacity = omega (arith, capacity, length-map c.args.sessions.items (λ b. b.value));
      many = omega (arith, none, ap length rooms.0);
    }

pub loop-session-preserved-in-Mix : goal.loop-session-preserved-in-Mix
loop-session-preserved-in-Mix c =
    let all = map (λ b. b.value) c.args.sessions.items in
    let session = c.in-Some.session in
    let made = length c.loop-session.yielded in
    let before = c.loop-session.invariant in
    let passes = c.loop-session.passes.items in
    let shared = c.in-Mix.field-0 in
    let turn = YieldsList-turn (YieldsList-from_vec c.args.sessions.items (cc) (cc)) c.loop-session.yielded c.loop-session.session-iterator
    c.loop-session.yielded_by c.next.result c.next.new.self session c.in-Some.is c.next.ensures.steps in
    let at : session.value ≡ get_or all made session.value =
    ap (λ b. b.value) turn.1 ∙ sym (get_or-map (λ b. b.value) c.args.sessions.items made session session.value turn.0) in
    let below : made < length all = omega (arith, turn.0, length-map c.args.sessions.items (λ b. b.value)) in
    let one = gathers final_mix kinds.Mix all c.args.space same_kind made passes c.loop-session.table before.gathered below session.value at
    shared (sym c.into_inner.ensures ∙ c.in-Mix.is) in
    let longer = length_push c.loop-session.yielded session in
    let pushed = c.push_reserved.ensures in
    let many = before.many in
    let capacity = before.capacity in
    record {
      gathered =
          subst (λ n. IsGathered final_mix kinds.Mix all c.args.space n c.push_reserved.new.self.items (Some shared.table)) (sym longer)
          (subst (λ (l : List (Pass Lookup3)). IsGathered final_mix kinds.Mix all c.args.space (made + 1) l (Some shared.table)) (sym pushed.items) one);
      capacity = omega (arith, capacity, pushed.capacity);
      many = omega (arith, many, pushed.len, longer);
    }

pub loop-session-preserved : goal.loop-session-preserved
loop-session-preserved c =
    let all = map (λ b. b.value) c.args.sessions.items in
    let session = c.in-Some.session in
    let made = length c.loop-session.yielded in
    let are = c.loop-session.invariant.gathered.are in
    let turn = YieldsList-turn (YieldsList-from_vec c.args.sessions.items (cc) (cc)) c.loop-session.yielded c.loop-session.session-iterator
    c.loop-session.yielded_by c.next.result c.next.new.self session c.in-Some.is c.next.ensures.steps in
    let at : session.value ≡ get_or all made session.value =
    ap (λ b. b.value) turn.1 ∙ sym (get_or-map (λ b. b.value) c.args.sessions.items made session session.value turn.0) in
    let below : made < length all = omega (arith, turn.0, length-map c.args.sessions.items (λ b. b.value)) in
    let its = kind_among final_mix kinds.Mix all are.shared are.all_are made below session.value at in
    absurd (other_kind its.0 c.in-Low.other (sym its.1 ∙ sym c.into_inner.ensures ∙ c.in-Low.is))

pub ended-requires-clause-passes : goal.ended-requires-clause-passes
ended-requires-clause-passes c =
    let all = map (λ b. b.value) c.args.sessions.items in
    let made = length c.loop-session.yielded in
    let passes = c.loop-session.passes.items in
    let own = c.in_ok-table.field-0 in
    let end = YieldsList-end (YieldsList-from_vec c.args.sessions.items (cc) (cc)) c.loop-session.yielded c.loop-session.session-iterator
    c.loop-session.yielded_by c.next.result c.next.new.self c.in-None.is c.next.ensures.steps in
    let whole : made ≡ length all = end.1 ∙ sym (length-map c.args.sessions.items (λ b. b.value)) in
    let is = subst (IsGathered final_mix kinds.Mix all c.args.space made passes) c.in_ok-table.was c.loop-session.invariant.gathered in
    all_passes final_mix kinds.Mix all c.args.space made passes own is whole

pub returns : goal.returns
returns c =
    let all = map (λ b. b.value) c.args.sessions.items in
    let made = length c.loop-session.yielded in
    let passes = c.loop-session.passes.items in
    let own = c.in_ok-table.field-0 in
    let end = YieldsList-end (YieldsList-from_vec c.args.sessions.items (cc) (cc)) c.loop-session.yielded c.loop-session.session-iterator
    c.loop-session.yielded_by c.next.result c.next.new.self c.in-None.is c.next.ensures.steps in
    let whole : made ≡ length all = end.1 ∙ sym (length-map c.args.sessions.items (λ b. b.value)) in
    let is = subst (IsGathered final_mix kinds.Mix all c.args.space made passes) c.in_ok-table.was c.loop-session.invariant.gathered in
    closed_over final_mix kinds.Mix all c.args.space made passes own is whole c.ended.result c.ended.ensures
