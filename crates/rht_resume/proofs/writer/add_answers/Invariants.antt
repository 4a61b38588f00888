use Rattle.std.proofs.Common.{◌≡◌, take, Ok}
use Rattle.std.specs.List.{flat_map}
use Rattle.rht_io.specs.declared.source.Failed.{Failed}
use Rattle.rht_script.specs.Writing.{Adds}
use Rattle.rht_resume.specs.Text.{answer_line}
use Rattle.rht_resume.proofs.writer.add_answers.Given as goal

-- the lines of the answers so far were added
abbrev pub invariant-loop-i : goal.invariant-loop-i
invariant-loop-i g l = record {
  text : Adds {E = Failed} g.O.Sink.held g.O.Sink.faults l.initial.text.out.now l.text.out.now (Ok tt)
      l.initial.text.waiting l.text.waiting (flat_map (answer_line l.worker) (take l.i l.answers));
  same_sink : l.text.out.ghost_name ≡ l.initial.text.out.ghost_name;
}
