use Rattle.std.proofs.Common.{rules}
use Rattle.rht_model.proofs.FlatPairs.{last_port-is}
use Rattle.rht_model.proofs.bindings.last_port.Goals as goal

pub returns : goal.returns
returns c = rw (last_port-is c.args.heads.now) (search rules)
