use Rattle.std.proofs.Common.{sym, subst}
use Rattle.rht_io.specs.declared.source.Failed.{Failed}
use Rattle.rht_io.specs.Told.{Puts}
use Rattle.rht_io.proofs.ToldLemmas.{Puts-after}
use Rattle.rht_registry.specs.Replays.{did_text, ended_text, event_text}
use Rattle.rht_io.proofs.ToldLemmas.{Puts-failed}
use Rattle.rht_registry.proofs.replaying.write_event.Goals as goal

pub returns-in_err-write_did : goal.returns-in_err-write_did
returns-in_err-write_did g c =
    let stepped = c.in-Some.stepped in
    subst (λ event. Puts {E = Failed} g.O.Sink.held g.O.Sink.faults c.args.out.now c.write_did.new.out c.from_residual.result
    (event_text c.args.shown c.args.worker c.args.local.now event)) (sym c.in-Some.is)
    (Puts-failed g.O.Sink.held g.O.Sink.faults c.args.out.now c.write_did.new.out c.in_err-write_did.field-0.0 c.from_residual.result
    (did_text c.args.shown c.args.worker stepped.did) (ended_text c.args.worker c.args.local.now stepped.reply)
    c.in_err-write_did.ensures c.from_residual.ensures.0)

pub returns : goal.returns
returns g c =
    let stepped = c.in-Some.stepped in
    subst (λ event. Puts {E = Failed} g.O.Sink.held g.O.Sink.faults c.args.out.now c.write_ended.new.out c.write_ended.result
    (event_text c.args.shown c.args.worker c.args.local.now event)) (sym c.in-Some.is)
    (Puts-after g.O.Sink.held g.O.Sink.faults c.args.out.now c.write_did.new.out c.write_ended.new.out c.write_ended.result
    (did_text c.args.shown c.args.worker stepped.did) (ended_text c.args.worker c.args.local.now stepped.reply)
    c.in_ok-write_did.ensures c.write_ended.ensures)
