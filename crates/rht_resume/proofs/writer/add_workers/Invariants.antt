use Rattle.std.proofs.Common.{◌≡◌, take, Ok}
use Rattle.std.specs.List.{flat_map, enumerate_from}
use Rattle.rht_io.specs.declared.source.Failed.{Failed}
use Rattle.rht_script.specs.Writing.{Adds}
use Rattle.rht_resume.specs.Text.{worker_text}
use Rattle.rht_resume.proofs.writer.add_workers.Given as goal

-- the lines of the workers so far were added
abbrev pub invariant-loop-i : goal.invariant-loop-i
invariant-loop-i g l = record {
  text : Adds {E = Failed} g.O.Sink.held g.O.Sink.faults l.initial.text.out.now l.text.out.now (Ok tt)
      l.initial.text.waiting l.text.waiting (flat_map worker_text (take l.i (enumerate_from 1 l.workers)));
  same_sink : l.text.out.ghost_name ≡ l.initial.text.out.ghost_name;
}
