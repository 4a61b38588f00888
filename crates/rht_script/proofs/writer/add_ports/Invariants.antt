use Rattle.std.proofs.Common.{◌≡◌, take, Ok}
use Rattle.std.specs.List.{flat_map}
use Rattle.rht_io.specs.declared.source.Failed.{Failed}
use Rattle.rht_script.specs.Text.{port_line}
use Rattle.rht_script.specs.Writing.{Adds}
use Rattle.rht_script.proofs.writer.add_ports.Given as goal

-- the lines of the ports so far were added
abbrev pub invariant-loop-i : goal.invariant-loop-i
invariant-loop-i g l = record {
  text : Adds {E = Failed} g.O.Sink.held g.O.Sink.faults l.initial.text.out.now l.text.out.now (Ok tt)
      l.initial.text.waiting l.text.waiting
      (flat_map port_line (take l.i l.bindings.pairs));
  same_sink : l.text.out.ghost_name ≡ l.initial.text.out.ghost_name;
}
