use Rattle.std.proofs.Common.{◌≡◌, ℕ, ◌+◌, ◌-◌, Bool, List, [], if◌then◌else◌, sym, ◌∙◌, ap, arith}
use Rattle.std.specs.List.{flat_map, range_with_len}
use Rattle.rht_core.specs.Locals.{is_idle}
use Rattle.rht_callers.specs.declared.local.Local.{Local}
use Rattle.rht_script.specs.OperationText.{open_line}
use Rattle.rht_registry.specs.Replays.{and_then, callers_of, open_text}
use Rattle.rht_registry.proofs.PlayedParts.{range-next, to_play-all, to_play-as, to_play-next, to_play-failed, to_play-none}
use Rattle.rht_registry.proofs.replaying.write_calls.Goals as goal

pub loop-caller-init : goal.loop-caller-init
loop-caller-init g c =
    let state = c.args.state.now in
    let whole : Unit {0} × List ℕ = (tt, flat_map (open_text state) (callers_of state)) in
    let all : state.env.geometry.callers ≡ c.args.callers - 0 = omega (arith, c.requires) in
    to_play-as g.O.Sink.held g.O.Sink.faults c.args.out.now whole c.args.out.now whole _
    (to_play-all g.O.Sink.held g.O.Sink.faults c.args.out.now whole)
    (ap (λ n. let a : Unit {0} × List ℕ = (tt, flat_map (open_text state) (range_with_len 0 n)) in a) all)

pub returns-in_err-write_call : goal.returns-in_err-write_call
returns-in_err-write_call g c =
    let state = c.args.state.now in
    let caller = c.loop-caller.caller in
    let whole : Unit {0} × List ℕ = (tt, flat_map (open_text state) (callers_of state)) in
    let idle = c.is_idle.ensures ∙ ap (λ (l : Local g.row.M.Denot). is_idle l) c.local.ensures.local in
    let text : Bool → List ℕ = λ t. if t then [] else open_line (caller + 1) in
    let first : Unit {0} × List ℕ = (tt, text c.is_idle.result) in
    let next : Unit {0} → Unit {0} × List ℕ =
    λ _. (tt, flat_map (open_text state) (range_with_len (caller + 1) (c.args.callers - (caller + 1)))) in
    let to_play = to_play-as g.O.Sink.held g.O.Sink.faults c.args.out.now whole c.loop-caller.out _ (and_then first next)
    c.loop-caller.invariant
    (ap (λ l. let a : Unit {0} × List ℕ = (tt, flat_map (open_text state) l) in a) (range-next caller c.args.callers c.loop-caller-test.true)
    ∙ ap (λ t. let a : Unit {0} × List ℕ = (tt, text t) in and_then a next) (sym idle)) in
    to_play-failed g.O.Sink.held g.O.Sink.faults c.args.out.now whole c.loop-caller.out c.write_call.new.out
    c.in_err-write_call.field-0.0 c.from_residual.result first next to_play c.in_err-write_call.ensures c.from_residual.ensures.0

pub loop-caller-preserved : goal.loop-caller-preserved
loop-caller-preserved g c =
    let state = c.args.state.now in
    let caller = c.loop-caller.caller in
    let whole : Unit {0} × List ℕ = (tt, flat_map (open_text state) (callers_of state)) in
    let idle = c.is_idle.ensures ∙ ap (λ (l : Local g.row.M.Denot). is_idle l) c.local.ensures.local in
    let text : Bool → List ℕ = λ t. if t then [] else open_line (caller + 1) in
    let first : Unit {0} × List ℕ = (tt, text c.is_idle.result) in
    let next : Unit {0} → Unit {0} × List ℕ =
    λ _. (tt, flat_map (open_text state) (range_with_len (caller + 1) (c.args.callers - (caller + 1)))) in
    let to_play = to_play-as g.O.Sink.held g.O.Sink.faults c.args.out.now whole c.loop-caller.out _ (and_then first next)
    c.loop-caller.invariant
    (ap (λ l. let a : Unit {0} × List ℕ = (tt, flat_map (open_text state) l) in a) (range-next caller c.args.callers c.loop-caller-test.true)
    ∙ ap (λ t. let a : Unit {0} × List ℕ = (tt, text t) in and_then a next) (sym idle)) in
    to_play-next g.O.Sink.held g.O.Sink.faults c.args.out.now whole c.loop-caller.out c.write_call.new.out first next to_play
    c.in_ok-write_call.ensures

pub returns : goal.returns
returns g c =
    let state = c.args.state.now in
    let whole : Unit {0} × List ℕ = (tt, flat_map (open_text state) (callers_of state)) in
    let none : c.args.callers - c.loop-caller.caller ≡ 0 = omega (arith, c.loop-caller-test.false) in
    let done =
    to_play-none g.O.Sink.held g.O.Sink.faults c.args.out.now whole c.loop-caller.out tt _ c.loop-caller.invariant
    (ap (λ n. let a : Unit {0} × List ℕ = (tt, flat_map (open_text state) (range_with_len c.loop-caller.caller n)) in a) none) in
    done.0
