use Rattle.std.proofs.Common.{sym, subst}
use Rattle.rht_io.specs.Told.{Puts}
use Rattle.rht_forms.specs.declared.ending.Failure.{Failure}
use Rattle.rht_forms.specs.Endings.{failure_line}
use Rattle.rht_forms.proofs.ending.Failure.write.Goals as goal

pub returns-in-Read : goal.returns-in-Read
returns-in-Read g c =
    subst (λ (f : Failure). Puts g.E.Sink.held g.E.Sink.faults c.args.err.now c.put_all.new.out
    c.put_all.result (failure_line f))
    (sym c.in-Read.is) c.put_all.ensures

pub returns-in-Memory : goal.returns-in-Memory
returns-in-Memory g c =
    subst (λ (f : Failure). Puts g.E.Sink.held g.E.Sink.faults c.args.err.now c.put_all-in-Memory.new.out
    c.put_all-in-Memory.result (failure_line f))
    (sym c.in-Memory.is) c.put_all-in-Memory.ensures
