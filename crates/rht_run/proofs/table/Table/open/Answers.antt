use Rattle.std.proofs.Common.{◌≡◌, ℕ, ◌+◌, ◌-◌, List, arith, subst, sym, rules}
use Rattle.rht_run.specs.declared.pass.Pass.{Pass}
use Rattle.rht_run.specs.Passes.{IsOpening, AreNew}
use Rattle.rht_run.proofs.table.Table.open.Goals as goal

pub hand-pass-requires-clause-opening : goal.hand-pass-requires-clause-opening
hand-pass-requires-clause-opening g c =
    let e : c.loop-number.number - 1 + 1 ≡ c.loop-number.number = omega arith in
    let drawn : ℕ = c.new-env.result.geometry.callers in (
      drawn,
      subst (λ (n : ℕ). IsOpening g.M.Mix.mix_of c.in_ok-table.table n drawn c.loop-number.seat) (sym e)
          c.loop-number.invariant.opening,
    )

pub loop-number-preserved : goal.loop-number-preserved
loop-number-preserved g c =
    let e : c.loop-number.number - 1 + 1 ≡ c.loop-number.number = omega arith in
    let before = c.loop-number.invariant in
    let drawn : ℕ = c.new-env.result.geometry.callers in
    record {
      opening = c.hand-pass.ensures.rest drawn
          (subst (λ (n : ℕ). IsOpening g.M.Mix.mix_of c.in_ok-table.table n drawn c.loop-number.seat) (sym e) before.opening);
      row = subst
          (λ (ps : List (Pass g.row.M.Denot)). AreNew g.M.Mix.mix_of c.in_ok-table.table (c.loop-number.number - 1) ps)
          (sym c.in_ok-insert.ensures.items) (
            c.hand-pass.ensures.pass,
            subst (λ (n : ℕ). AreNew g.M.Mix.mix_of c.in_ok-table.table n c.loop-number.passes.items) (sym e) before.row,
          );
      count = search rules;
      some = omega arith;
      env = before.env;
    }
