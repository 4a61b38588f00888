use Rattle.std.proofs.Common.{◌+◌}
use Rattle.rht_run.proofs.Performed.{own_batch}
use Rattle.rht_run.proofs.ServedCommands.{MayBegin-made}
use Rattle.rht_run_tests.proofs.threads.stepped.Goals as goal

pub start-requires-clause-may : goal.start-requires-clause-may
start-requires-clause-may g c =
    let mix = g.M.Mix.mix_of in
    let table = c.args.table.now in
    let pass = c.args.pass.now in
    MayBegin-made table.env pass.number c.args.call pass.local c.requires.idle c.in_range.ensures
    (own_batch mix table pass c.requires.pass c.requires.idle)

pub loop-preserved : goal.loop-preserved
loop-preserved g c =
    let calling = c.loop.invariant.2 in
    (tt, tt, (calling.0 + 1, c.in_default-step.ensures.turned _ calling.0 _ calling.1))

pub returns-in-Some-step-clause-idle : goal.returns-in-Some-step-clause-idle
returns-in-Some-step-clause-idle g c =
    let calling = c.loop.invariant.2 in (c.in-Some-step.ensures.turned _ calling.0 _ calling.1).idle
