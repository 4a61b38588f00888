use Rattle.std.proofs.Common.{◌≡◌, take, Ok}
use Rattle.rht_io.specs.declared.source.Failed.{Failed}
use Rattle.rht_script.specs.Text.{owners_text}
use Rattle.rht_script.specs.Writing.{Adds}
use Rattle.rht_script.proofs.writer.pieces.Writer.add_owners.Given as goal

-- the owners so far were added
abbrev pub invariant-loop-owner : goal.invariant-loop-owner
invariant-loop-owner g l = record {
  text : Adds {E = Failed} g.O.Sink.held g.O.Sink.faults l.initial.self.out.now l.self.out.now (Ok tt)
      l.initial.self.waiting l.self.waiting
      (owners_text (take l.owner-index l.owners));
  same_sink : l.self.out.ghost_name ≡ l.initial.self.out.ghost_name;
}
