use Rattle.std.proofs.Common.{rules}
use Rattle.rht_core.specs.Runs.{Core, IsAdmittedEvent}
use Rattle.rht_core.proofs.Events.ReachedStates.{IsSound-reached, MayPut-reached, IsReached-more}
use Rattle.rht_core.proofs.state.State.step.Goals as goal

pub perform-requires-clause-sound : goal.perform-requires-clause-sound
perform-requires-clause-sound g c = IsSound-reached g.row.M.Denot g.M.Mix.mix_of _ c.self.invariant

pub perform-requires-clause-put : goal.perform-requires-clause-put
perform-requires-clause-put g c = MayPut-reached g.row.M.Denot g.M.Mix.mix_of _ c.self.invariant

pub invariant_of-self : goal.invariant_of-self
invariant_of-self g c =
    let admitted : IsAdmittedEvent c.args.event = search rules in
    let new = c.perform.new in
    let after : Core g.row.M.Denot = record {
      env = c.self.inside.env;
      words = new.words.items;
      enrolled = new.enrolled;
      locals = new.locals.items;
    } in
    IsReached-more g.row.M.Denot g.M.Mix.mix_of _ after c.args.event c.perform.result admitted
    c.perform.ensures
    c.self.invariant
