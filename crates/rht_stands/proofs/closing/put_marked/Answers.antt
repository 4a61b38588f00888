use Rattle.std.proofs.Common.{◌≡◌, ℕ, ◌+◌, ◌-◌, ◌<◌, ◌≤◌, Vec, Global, vec_len, vec_capacity, subst, Bool, true, false, cond, List, [], ◌∷◌, ◌++◌, map, append_assoc, sym, ◌∙◌, ap, slice_index, arith}
use Rattle.std.specs.List.{filter, range_with_len}
use Rattle.rht_words.specs.Ports.{port_of}
use Rattle.rht_stands.specs.Closing.{with_port, is_marked, marked_below}
use Rattle.rht_stands.proofs.MarkedNodes.{range-more}
use Rattle.rht_stands.proofs.closing.put_marked.Goals.{then-met-node, else-met-node}
use Rattle.rht_stands.proofs.closing.put_marked.Goals as goal

-- what was put down, with what is left, is the same after a node that is put down and after one that isn't
module _ {A : Type 0} (f : ℕ → A) (p : ℕ → Bool) (count node : ℕ) (before all : List A) (within : node < count)
    (so_far : before ++ map f (filter p (range_with_len node (count - node))) ≡ all) where
  abbrev rest : List ℕ
  rest = filter p (range_with_len (node + 1) (count - (node + 1)))

  parts : (t : Bool) → p node ≡ t → before ++ map f (cond t (node ∷ rest) rest) ≡ all
  parts t is =
      sym (ap (λ ns. before ++ map f (filter p ns)) (range-more count node within) ∙ ap (λ u. before ++ map f (cond u (node ∷ rest) rest)) is) ∙ so_far

  put : p node ≡ true → (before ++ f node ∷ []) ++ map f rest ≡ all
  put is = append_assoc before (f node ∷ []) (map f rest) ∙ parts true is

  passed : p node ≡ false → before ++ map f rest ≡ all
  passed is = parts false is

pub loop-node-preserved : goal.loop-node-preserved
loop-node-preserved c =
    let g = c.args.geometry in
    let words = c.args.words.now in
    let met = c.args.met.now in
    let f = with_port g words in
    let p = is_marked met in
    let node = c.loop-node.node in
    let before = c.loop-node.invariant in
    let firsts = c.loop-node.firsts.items in
    let all = map f (marked_below met g.nodes) in
    let left = filter p (range_with_len (node + 1) (g.nodes - (node + 1))) in
    elim c.if-met-node.branch [
      | then-met-node w ↦
          let port = w.port_of.ensures ∙ ap (λ place. port_of (slice_index words place)) w.key.ensures.place in
          let items = ap (λ (v : Vec (ℕ × ℕ) Global). v.items) w.firsts-is ∙ w.push_within.ensures.items
          ∙ ap (λ n. firsts ++ (n, node) ∷ []) port in
          let len = ap (λ (v : Vec (ℕ × ℕ) Global). vec_len v) w.firsts-is ∙ w.push_within.ensures.len in
          let capacity = w.push_within.ensures.capacity in
          record {
            all = ap (λ l. l ++ map f left) items ∙ put f p g.nodes node firsts all c.loop-node-test.true before.all w.if-met-node.true;
            count = before.count;
            few = omega (arith, len, before.few);
            room = subst (λ (v : Vec (ℕ × ℕ) Global). g.nodes ≤ vec_capacity v) (sym w.firsts-is) (omega (arith, before.room, capacity));
          }
      | else-met-node w ↦
          record {
            all = ap (λ (v : Vec (ℕ × ℕ) Global). v.items ++ map f left) w.firsts-is
                ∙ passed f p g.nodes node firsts all c.loop-node-test.true before.all w.if-met-node.false;
            count = before.count;
            few = subst (λ (v : Vec (ℕ × ℕ) Global). vec_len v ≤ node + 1) (sym w.firsts-is) (let few = before.few in omega (arith, few));
            room = subst (λ (v : Vec (ℕ × ℕ) Global). g.nodes ≤ vec_capacity v) (sym w.firsts-is) before.room;
          }
    ]
