use Rattle.std.proofs.Common.{◌≡◌, ◌+◌, ◌<◌, List, [], ◌∷◌, ◌++◌, true, false, length, map, set, vec_len, vec_capacity, sym, ap, ◌∙◌, subst, arith}
use Rattle.std.proofs.lemmas.List.{map_push, take_all}
use Rattle.rht_session.specs.declared.session.Session.{Session}
use Rattle.rht_session.specs.declared.handle.Handle.{Handle}
use Rattle.rht_session.specs.Held.{is_some}
use Rattle.rht_session.specs.Handles.{sessions_of}
use Rattle.rht_session.specs.Closings.{HaveAll}
use Rattle.rht_session.proofs.TakenHandles.{AreTaken, one_taken, is_open}
use Rattle.rht_session.proofs.closing.taken_out.Goals as goal
use Rattle.rht_session.proofs.closing.taken_out.Goals.{in-Some, in_default}

pub loop-place-preserved : goal.loop-place-preserved
loop-place-preserved c =
    let old = c.args.handles.now in
    let now = c.loop-place.handles in
    let place = c.loop-place.place in
    let before = c.loop-place.invariant in
    let below = c.loop-place-test.true in
    let handle = c.index-handles-place.result in
    let here = c.index-handles-place.is in
    let taken = map (λ b. b.value) c.loop-place.sessions.items in
    let inside : place < length old = omega (arith, below, before.are.count) in
    elim c.match-take.branch [
      | in-Some w ↦
          let session = w.in-Some.session in
          let items : map (λ b. b.value) c.match-take.sessions.items ≡ taken ++ session.value ∷ [] =
          ap (λ v. map (λ b. b.value) v.items) w.sessions-is ∙ ap (map (λ b. b.value)) w.push_reserved.ensures.items
          ∙ map_push (λ b. b.value) c.loop-place.sessions.items session in
          let longer = ap (λ v. vec_len v) w.sessions-is ∙ w.push_reserved.ensures.len in
          let roomy = ap (λ v. vec_capacity v) w.sessions-is ∙ w.push_reserved.ensures.capacity in
          let many = before.many in
          let capacity = before.capacity in
          record {
            are = subst (λ (l : List Session). AreTaken old (set now place c.take.new.self) (place + 1) l) (sym items)
                (one_taken old now place taken before.are inside handle here c.take.new.self session.value c.take.ensures.blank
                (ap sessions_of here ∙ w.in-Some.ensures.some));
            many = longer ∙ ap (λ n. n + 1) many;
            capacity = omega (arith, capacity, roomy);
            within = omega (arith, inside);
          }
      | in_default w ↦
          let none : sessions_of handle ≡ [] = ap sessions_of here ∙ w.in_default.ensures.none in
          let one : is_some (sessions_of handle) ≡ true = is_open old now place taken before.are inside handle here c.requires.open in
          let no : false ≡ true = sym (ap (λ (l : List Session). is_some l) none) ∙ one in
          absurd cc
    ]

pub returns-clause-taken : goal.returns-clause-taken
returns-clause-taken c =
    let end = c.loop-place.invariant in
    let past = c.loop-place-test.false in
    subst (λ (l : List Handle). HaveAll l (map (λ b. b.value) c.loop-place.sessions.items))
    (take_all c.loop-place.place c.args.handles.now past) end.are.taken_is
