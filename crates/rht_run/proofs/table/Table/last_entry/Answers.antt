use Rattle.std.proofs.Common.{sym, subst}
use Rattle.std.specs.Prelude.{◌<◌}
use Rattle.rht_words.specs.declared.env.Env.{Env}
use Rattle.rht_run.proofs.table.Table.last_entry.Goals as goal

pub new-walk-requires : goal.new-walk-requires
new-walk-requires g c =
    let is = c.requires.in_range in
    subst (λ (env : Env). c.args.first < env.geometry.nodes) (sym is.same_env) is.at_in.walk_in.node_in
