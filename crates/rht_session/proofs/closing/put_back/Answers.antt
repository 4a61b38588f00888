use Rattle.std.proofs.Common.{◌≡◌, ℕ, ◌+◌, ◌<◌, List, [], ◌∷◌, ◌++◌, length, map, take, drop, get_or, set, length-set, vec_len, sym, ap, ◌∙◌, subst, arith}
use Rattle.std.proofs.lemmas.List.{take_more, length-map, length_push, same_from_push, get_or-map, drop-map}
use Rattle.rht_session.specs.declared.session.Session.{Session}
use Rattle.rht_session.specs.Closings.{HaveAll}
use Rattle.rht_session.proofs.TakenHandles.{put_one}
use Rattle.rht_session.proofs.closing.put_back.Goals as goal

pub loop-session-preserved : goal.loop-session-preserved
loop-session-preserved c =
    let all = c.args.sessions.items in
    let values = map (λ b. b.value) all in
    let handles = c.loop-session.handles in
    let before = c.loop-session.invariant in
    let session = c.in-Some.session in
    let rest = c.pop.new.self.items in
    let place = vec_len c.pop.new.self in
    let longer = ap length c.in-Some.ensures.items ∙ length_push rest session in
    let new_ok = c.pop.new.self.ok.0 in
    let old_ok = c.loop-session.left.ok.0 in
    let few = before.few in
    let one_less : vec_len c.loop-session.left ≡ place + 1 = omega (arith, longer, new_ok, old_ok) in
    let within : place < length all = omega (arith, one_less, few) in
    let below : place < length handles = omega (arith, within, before.count) in
    let split : rest ++ session ∷ [] ≡ take place all ++ get_or all place session ∷ [] =
    sym c.in-Some.ensures.items ∙ before.left ∙ ap (λ (n : ℕ). take n all) one_less ∙ take_more all place session within in
    let parts = same_from_push rest (take place all) session (get_or all place session) split in
    let put : HaveAll (drop (place + 1) handles) (drop (place + 1) values) =
    subst (λ (l : List Session). HaveAll (drop (place + 1) handles) l) (sym (drop-map (λ b. b.value) (place + 1) all))
    (subst (λ (n : ℕ). HaveAll (drop n handles) (map (λ b. b.value) (drop n all))) one_less before.put) in
    let many : length values ≡ length all = length-map all (λ b. b.value) in
    let within_values : place < length values = omega (arith, within, many) in
    let is : get_or values place session.value ≡ session.value =
    get_or-map (λ b. b.value) all place session session.value within ∙ ap (λ b. b.value) (sym parts.1) in
    let here = put_one handles values place c.of.result session.value session.value put below within_values is c.of.ensures in
    let at : place ≡ c.len.result = sym c.len.ensures in
    record {
      put = subst (λ (l : List Session). HaveAll (drop place (set handles c.len.result c.of.result)) l) (drop-map (λ b. b.value) place all)
          (subst (λ (n : ℕ). HaveAll (drop place (set handles n c.of.result)) (drop place values)) at here);
      left = parts.0;
      count = length-set handles c.len.result c.of.result ∙ before.count;
      few = omega (arith, within);
    }
