use Rattle.std.proofs.Common.{[], get_or, subst}
use Rattle.rht_registry.specs.Outcomes.{HasServedWorker}
use Rattle.rht_registry.proofs.registry.run_workers.Goals as goal

pub returns : goal.returns
returns g c =
    let script = c.args.script.now in
    let left = c.in_ok-left.left in
    let all = c.in_ok-left.ensures in
    record {
      config_same = all.config_same;
      ways_plain = all.ways_plain;
      many = all.many;
      workers = all.workers;
      each = λ i default below.
          subst (λ mix. HasServedWorker mix left.table script.auto script.commands.items i (get_or left.passes.items i default)
          (get_or left.own.items i [])) c.requires.mix (all.each i default [] below);
    }
