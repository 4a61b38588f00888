use Rattle.std.proofs.Common.{◌+◌}
use Rattle.rht_run.proofs.table.Table.call.Goals as goal

pub loop-preserved : goal.loop-preserved
loop-preserved g c =
    let calling = c.loop.invariant.2 in
    (tt, tt, (calling.0 + 1, c.in_default-step.ensures.turned _ calling.0 _ calling.1))

pub returns-in-Some-step : goal.returns-in-Some-step
returns-in-Some-step g c =
    let calling = c.loop.invariant.2 in c.in-Some-step.ensures.turned _ calling.0 _ calling.1
