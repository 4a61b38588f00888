use Rattle.std.proofs.Common.{◌≡◌, length, vec_len, ap, subst, arith}
use Rattle.std.proofs.lemmas.List.FromFn.{length-enumerate_from}
use Rattle.rht_workers.specs.Jobs.{HaveWorked}
use Rattle.rht_workers.proofs.PlacesLeft.{each-worked}
use Rattle.rht_workers.proofs.running.run_all.Goals as goal

pub returns : goal.returns
returns g c =
    let table = c.in_ok-table.table in
    let opened = c.in_ok-table.passes in
    let parts = c.in_ok-parts.parts in
    let passes = c.in_ok-passes.passes in
    let own = c.in_ok-passes.own in
    let callers = c.args.config.callers in
    let many : vec_len parts ≡ callers =
    omega (arith, parts.ok.0, opened.ok.0, ap length c.in_ok-parts.ensures, length-enumerate_from 0 opened.items, c.in_ok-table.ensures.count) in
    let length_passes : length passes.items ≡ callers =
    omega (arith, many, passes.ok.0, c.in_ok-passes.ensures.passes, c.in_ok-left.ensures.len) in
    let length_own : length own.items ≡ callers =
    omega (arith, many, own.ok.0, c.in_ok-passes.ensures.own, c.in_ok-left.ensures.len) in
    let has = g.J.Job.has_worked c.args.job.now g.row.M.Denot g.M.Mix.mix_of table in
    record {
      config_same = c.in_ok-table.ensures.config;
      ways_plain = c.in_ok-table.ensures.ways;
      many = length_passes;
      workers = length_own;
      each =
          each-worked has c.in_ok-left.left.items passes.items own.items callers
          (subst (λ count. HaveWorked has count c.in_ok-left.left.items) many c.in_ok-left.ensures.worked)
          c.in_ok-passes.ensures.all length_passes length_own;
    }
