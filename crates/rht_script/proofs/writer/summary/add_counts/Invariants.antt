use Rattle.std.proofs.Common.{◌≡◌, take, Ok}
use Rattle.std.specs.List.{flat_map}
use Rattle.rht_io.specs.declared.source.Failed.{Failed}
use Rattle.rht_script.specs.SummaryText.{sort_text}
use Rattle.rht_script.specs.Writing.{Adds}
use Rattle.rht_script.proofs.writer.summary.add_counts.Given as goal

-- the counts of the sorts so far were added
abbrev pub invariant-loop-sort : goal.invariant-loop-sort
invariant-loop-sort g l = record {
  text : Adds {E = Failed} g.O.Sink.held g.O.Sink.faults l.initial.text.out.now l.text.out.now (Ok tt)
      l.initial.text.waiting l.text.waiting
      (flat_map (sort_text l.workers) (take l.sort-index l.sorts));
  same_sink : l.text.out.ghost_name ≡ l.initial.text.out.ghost_name;
}
