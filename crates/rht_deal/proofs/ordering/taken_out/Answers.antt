use Rattle.std.proofs.Common.{◌≡◌, ◌+◌, ◌<◌, List, [], deque_len, length, get_or, map, Option, None, sym, ◌∙◌, ap, subst, arith}
use Rattle.std.specs.Prelude.{MatchOption}
use Rattle.std.specs.declared.alloc.Global.{Global}
use Rattle.std.specs.declared.collections.VecDeque.{VecDeque}
use Rattle.std.proofs.lemmas.List.{length-map, get_or-map}
use Rattle.rht_script.specs.declared.done.Done.{Done}
use Rattle.rht_deal.specs.Ordering.{kept_items, BeginsWith, TakesOut}
use Rattle.rht_deal.proofs.TakenOut.{map-set, TakesOut-at, none-more}
use Rattle.rht_deal.proofs.ordering.taken_out.Goals as goal

pub returns-then-is_next : goal.returns-then-is_next
returns-then-is_next c =
    let kept = c.loop-i.kept in
    let i = c.loop-i.i in
    let items : VecDeque Done Global → List Done = λ own. own.items in
    let own = c.index_mut.result.now in
    let new = c.pop_front.new.self in
    let within : i < length kept.items = omega (arith, c.loop-i-test.true, c.len-i-end.ensures, kept.ok.0) in
    let many = length-map kept.items items in
    let at : get_or (kept_items kept) i [] ≡ own.items = get_or-map items kept.items i own [] within ∙ ap items (sym c.index_mut.ensures.value) in
    let seen : get_or (kept_items kept) i [] ≡ c.index.result.now.items =
    get_or-map items kept.items i c.index.result.now [] within ∙ ap items (sym c.index.ensures) in
    let begins : BeginsWith own.items c.args.number =
    subst (λ l. BeginsWith l c.args.number) (sym seen ∙ at) (c.is_next.ensures.0 c.if-is_next.true) in
    let none : c.pop_front.result ≡ None → length own.items ≡ 0 =
    λ is. (let both = subst (λ (o : Option Done). MatchOption o ((deque_len own ≡ 0) × (deque_len new ≡ 0))
    (λ taken. deque_len new + 1 ≡ deque_len own)) is c.pop_front.ensures.cases in
    let empty = both.0 in omega (arith, empty, own.ok.0)) in
    subst (λ after. TakesOut (kept_items c.args.kept.now) after c.args.number c.pop_front.result) (sym (map-set items kept.items i new))
    (TakesOut-at (kept_items c.args.kept.now) (kept_items kept) i c.args.number own.items new.items c.pop_front.result
    (ap (map items) (sym c.loop-i.invariant.same)) (omega (arith, within, many)) at begins c.pop_front.ensures.items none)

pub loop-i-preserved : goal.loop-i-preserved
loop-i-preserved c =
    let kept = c.loop-i.kept in
    let i = c.loop-i.i in
    let items : VecDeque Done Global → List Done = λ own. own.items in
    let within : i < length kept.items = omega (arith, c.loop-i-test.true, c.len-i-end.ensures, kept.ok.0) in
    let seen : get_or (kept_items kept) i [] ≡ c.index.result.now.items =
    get_or-map items kept.items i c.index.result.now [] within ∙ ap items (sym c.index.ensures) in
    let here : ¬ BeginsWith (get_or (kept_items kept) i []) c.args.number =
    λ begins. (let is = c.is_next.ensures.1 (subst (λ l. BeginsWith l c.args.number) seen begins) in let no = c.if-is_next.false in cc) in
    record {
      same = c.loop-i.invariant.same;
      none = none-more (kept_items kept) c.args.number i c.loop-i.invariant.none here;
    }
