use Rattle.std.proofs.Common.{◌≡◌, ℕ, ◌+◌, ◌<◌, List, length, get_or, sym, ◌∙◌, ap, subst, arith}
use Rattle.std.specs.Prelude.{IfOk, slice_index_or, vec_len}
use Rattle.std.specs.List.{enumerate_from}
use Rattle.std.proofs.lemmas.List.FromFn.{get_or-enumerate_from, length-enumerate_from}
use Rattle.std.proofs.lemmas.Result.{IfOk-weaker}
use Rattle.rht_run.specs.declared.pass.Pass.{Pass}
use Rattle.rht_run.specs.Passes.{IsNew}
use Rattle.rht_run.proofs.ServedWorkers.{AreNew-place}
use Rattle.rht_workers.specs.Jobs.{HaveWorked}
use Rattle.rht_workers.proofs.running.all_work.Goals as goal

-- a part has the number of its place, and the pass there
part-at : {P : Type 0} (passes : List P) (parts : List (ℕ × P)) (i : ℕ) (part : ℕ × P) → parts ≡ enumerate_from 0 passes → i < length parts
    → part ≡ get_or parts i part → part ≡ (i, get_or passes i part.1)
part-at {P} passes parts i part all below is =
    let within : i < length passes = omega (arith, below, ap length all, length-enumerate_from 0 passes) in
    let zero : 0 + i ≡ i = omega arith in
    is ∙ ap (λ (l : List (ℕ × P)). get_or l i part) all ∙ get_or-enumerate_from 0 passes i part within
    ∙ ap (λ (n : ℕ). (n, get_or passes i part.1)) zero

pub map_vec-requires-after_bounds : goal.map_vec-requires-after_bounds
map_vec-requires-after_bounds g c κs within i part below is =
    let mix = g.M.Mix.mix_of in
    let table = c.args.table.now in
    let passes = c.requires.parts.0 in
    let all = c.requires.parts.1 in
    let few : i < length passes = omega (arith, below, ap length all, length-enumerate_from 0 passes) in (
      c.requires.can,
      subst (λ (p : ℕ × Pass g.row.M.Denot). IsNew mix table p.0 p.1) (sym (part-at passes c.args.parts.items i part all below is))
          (AreNew-place mix table passes i part.1 c.requires.parts.2 few),
    )

pub returns-clause-worked : goal.returns-clause-worked
returns-clause-worked g c =
    let has = g.J.Job.has_worked c.args.job.now g.row.M.Denot g.M.Mix.mix_of c.args.table.now in
    IfOk-weaker c.map_vec.result _ (λ left. HaveWorked has (vec_len c.args.parts) left.items)
    (λ left gives i default below.
    let few : i < length c.args.parts.items = omega (arith, below, c.args.parts.ok.0) in
    let given = (gives i default few).1 in
    let at = part-at c.requires.parts.0 c.args.parts.items i given.job c.requires.parts.1 few (sym (given.job_is given.job)) in
    subst (λ (n : ℕ). IfOk (slice_index_or left.items i default) (λ worked. has n worked.0 worked.1))
    (ap (λ (p : ℕ × Pass g.row.M.Denot). p.0) at) given.call.met)
    c.map_vec.ensures.each
