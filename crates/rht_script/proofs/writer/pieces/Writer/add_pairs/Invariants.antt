use Rattle.std.proofs.Common.{◌≡◌, take, Ok}
use Rattle.std.specs.List.{flat_map}
use Rattle.rht_io.specs.declared.source.Failed.{Failed}
use Rattle.rht_script.specs.Text.{pair_text}
use Rattle.rht_script.specs.Writing.{Adds}
use Rattle.rht_script.proofs.writer.pieces.Writer.add_pairs.Given as goal

-- the pairs so far were added
abbrev pub invariant-loop-pair : goal.invariant-loop-pair
invariant-loop-pair g l = record {
  text : Adds {E = Failed} g.O.Sink.held g.O.Sink.faults l.initial.self.out.now l.self.out.now (Ok tt)
      l.initial.self.waiting l.self.waiting
      (flat_map pair_text (take l.pair-index l.pairs));
  same_sink : l.self.out.ghost_name ≡ l.initial.self.out.ghost_name;
}
