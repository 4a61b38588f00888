use Rattle.std.proofs.Common.{ℕ, Bool, ◌++◌, Ok, Err, sym, ◌∙◌, ap, subst, arith}
use Rattle.std.proofs.lemmas.Result.{err_from_is_err_and}
use Rattle.rht_io.specs.declared.source.Failed.{Failed}
use Rattle.rht_io.specs.Told.{Puts}
use Rattle.rht_io.proofs.ToldLemmas.{Puts-after}
use Rattle.std.specs.List.{flat_map}
use Rattle.rht_core.specs.Locals.{is_idle}
use Rattle.rht_core.specs.Runs.{local_of}
use Rattle.rht_core.specs.Closing.{current_size}
use Rattle.rht_script.specs.OperationText.{size_line}
use Rattle.rht_registry.specs.Replays.{callers_of, open_text, end_text}
use Rattle.rht_registry.proofs.LastBindings.{closed_text-bound_in}
use Rattle.rht_io.proofs.ToldLemmas.{Puts-longer}
use Rattle.rht_registry.proofs.PlayedParts.{list_all-each, Writes-of_put, Writes-failed, Writes-nothing}
use Rattle.rht_registry.proofs.ReplayEnds.{end_text-idle, end_text-busy}
use Rattle.rht_registry.proofs.replaying.write_end.Goals as goal

pub closed-requires : goal.closed-requires
closed-requires g c caller below =
    let state = c.args.state.now in
    let test : ℕ → Bool = λ k. is_idle (local_of state k) in
    list_all-each test 0 state.env.geometry.callers caller (sym c.are_idle.ensures ∙ c.if-are_idle.true) (omega arith) (omega (arith, below))

pub returns-in_err-closed : goal.returns-in_err-closed
returns-in_err-closed g c =
    let p = err_from_is_err_and c.from_residual.result c.from_residual.ensures.1 in
    Writes-nothing g.O.Sink.held g.O.Sink.faults c.args.out.now c.from_residual.result (end_text c.args.state.now)
    c.from_residual.ensures.0 (λ is. let e = p.1 in let m = p.2 in cc)

pub returns-in_err-write_closed : goal.returns-in_err-write_closed
returns-in_err-write_closed g c =
    let state = c.args.state.now in
    let idle = sym c.are_idle.ensures ∙ c.if-are_idle.true in
    let text = closed_text-bound_in state.env.geometry state.words c.in_ok-closed.closed c.in_ok-closed.ensures
    ∙ sym (end_text-idle state idle) in
    let put = c.in_err-write_closed.ensures in
    Writes-failed g.O.Sink.held g.O.Sink.faults c.args.out.now c.write_closed.new.out c.in_err-write_closed.field-0.0
    c.from_residual-in_err-write_closed.result (end_text state)
    (subst (Puts g.O.Sink.held g.O.Sink.faults c.args.out.now c.write_closed.new.out (Err c.in_err-write_closed.field-0.0)) text put)
    c.from_residual-in_err-write_closed.ensures.0

pub returns-then-are_idle : goal.returns-then-are_idle
returns-then-are_idle g c =
    let state = c.args.state.now in
    let idle = sym c.are_idle.ensures ∙ c.if-are_idle.true in
    let text = closed_text-bound_in state.env.geometry state.words c.in_ok-closed.closed c.in_ok-closed.ensures
    ∙ sym (end_text-idle state idle) in
    let put = c.in_ok-write_closed.ensures in
    Writes-of_put g.O.Sink.held g.O.Sink.faults c.args.out.now c.write_closed.new.out (end_text state)
    (subst (Puts {E = Failed} g.O.Sink.held g.O.Sink.faults c.args.out.now c.write_closed.new.out (Ok tt)) text put)

pub returns-in_err-write_calls : goal.returns-in_err-write_calls
returns-in_err-write_calls g c =
    let state = c.args.state.now in
    let busy = sym c.are_idle.ensures ∙ c.if-are_idle.false in
    let lines = flat_map (open_text state) (callers_of state) in
    let size = size_line (current_size state.env.geometry state.words) in
    rw (end_text-busy state busy)
    (Writes-failed g.O.Sink.held g.O.Sink.faults c.args.out.now c.write_calls.new.out c.in_err-write_calls.field-0.0
    c.from_residual-in_err-write_calls.result (lines ++ size)
    (Puts-longer g.O.Sink.held g.O.Sink.faults c.args.out.now c.write_calls.new.out c.in_err-write_calls.field-0.0 lines size
    c.in_err-write_calls.ensures) c.from_residual-in_err-write_calls.ensures.0)

pub returns-in_err-write_size : goal.returns-in_err-write_size
returns-in_err-write_size g c =
    let state = c.args.state.now in
    let busy = sym c.are_idle.ensures ∙ c.if-are_idle.false in
    let lines = flat_map (open_text state) (callers_of state) in
    let size = size_line (current_size state.env.geometry state.words) in
    let e = c.in_err-write_size.field-0.0 in
    let put = c.in_err-write_size.ensures in
    rw (end_text-busy state busy)
    (Writes-failed g.O.Sink.held g.O.Sink.faults c.args.out.now c.write_size.new.out e c.from_residual-in_err-write_size.result
    (lines ++ size)
    (Puts-after g.O.Sink.held g.O.Sink.faults c.args.out.now c.write_calls.new.out c.write_size.new.out (Err e) lines size
    c.in_ok-write_calls.ensures
    (subst (Puts g.O.Sink.held g.O.Sink.faults c.write_calls.new.out c.write_size.new.out (Err e)) (ap size_line c.size.ensures) put))
    c.from_residual-in_err-write_size.ensures.0)

pub returns : goal.returns
returns g c =
    let state = c.args.state.now in
    let busy = sym c.are_idle.ensures ∙ c.if-are_idle.false in
    let lines = flat_map (open_text state) (callers_of state) in
    let size = size_line (current_size state.env.geometry state.words) in
    let put = c.in_ok-write_size.ensures in
    rw (end_text-busy state busy)
    (Writes-of_put g.O.Sink.held g.O.Sink.faults c.args.out.now c.write_size.new.out (lines ++ size)
    (Puts-after {E = Failed} g.O.Sink.held g.O.Sink.faults c.args.out.now c.write_calls.new.out c.write_size.new.out (Ok tt) lines size
    c.in_ok-write_calls.ensures
    (subst (Puts {E = Failed} g.O.Sink.held g.O.Sink.faults c.write_calls.new.out c.write_size.new.out (Ok tt))
    (ap size_line c.size.ensures) put)))
