use Rattle.std.proofs.Common.{◌≡◌, ℕ, List, [], ◌∷◌, ◌++◌, length, sym, ap, ◌∙◌, subst, arith}
use Rattle.std.specs.Arc.{arc_value}
use Rattle.std.proofs.lemmas.List.{length_push}
use Rattle.rht_run.specs.declared.pass.Pass.{Pass}
use Rattle.rht_run.specs.Passes.{AreNew}
use Rattle.rht_session.specs.declared.shared.Shared.{Shared}
use Rattle.rht_session.specs.Sessions.{AreNewFrom}
use Rattle.rht_session.proofs.NewCallers.{before_last, last_of_all}
use Rattle.rht_session.proofs.shared.Shared.open.Goals as goal

-- the last of the passes that are left goes to the caller before those so far
pub loop-pass-preserved : goal.loop-pass-preserved
loop-pass-preserved g c =
    let mix = g.M.Mix.mix_of in
    let t = arc_value c.in-Ok.first in
    let before = c.loop-pass.invariant in
    let pass = c.in-Some.pass in
    let rest : List (Pass g.row.M.Denot) = c.pop.new.self.items in
    let all : List (Shared g.row.M.Denot) = c.loop-pass.all.items in
    let left : AreNew mix t 0 (rest ++ pass ∷ []) = subst (AreNew mix t 0) c.in-Some.ensures.items before.rest in
    let many = ap length c.in-Some.ensures.items ∙ length_push rest pass in
    let longer = ap length c.in_ok-insert.ensures.items in
    let counted = before.count in
    let new_all = c.insert.new.self.ok.0 in
    let old_all = c.loop-pass.all.ok.0 in
    let new_left = c.pop.new.self.ok.0 in
    let old_left = c.loop-pass.passes.ok.0 in
    record {
      rest = before_last mix t pass 0 rest left;
      new = subst (AreNewFrom mix t (length rest)) (sym c.in_ok-insert.ensures.items) (
        c.in_ok-table-2.ensures,
        last_of_all mix t pass rest left,
        subst (λ (n : ℕ). AreNewFrom mix t n all) many before.new,
      );
      count = omega (arith, many, longer, counted, new_all, old_all, new_left, old_left);
      config_same = before.config_same;
      ways_plain = before.ways_plain;
    }

pub returns : goal.returns
returns g c =
    let mix = g.M.Mix.mix_of in
    let t = arc_value c.in-Ok.first in
    let end = c.loop-pass.invariant in
    let counted = end.count in
    let all = c.loop-pass.all.ok.0 in
    let left = c.loop-pass.passes.ok.0 in
    let none : length c.loop-pass.passes.items ≡ 0 = sym left ∙ c.in_default-pop.ensures.cases.0 in
    record {
      table = t;
      config_same = end.config_same;
      ways_plain = end.ways_plain;
      new = subst (λ (n : ℕ). AreNewFrom mix t n c.loop-pass.all.items) none end.new;
      count = omega (arith, counted, all, left, none);
    }
