use Rattle.std.proofs.Common.{sym, subst}
use Rattle.rht_io.specs.Told.{Puts}
use Rattle.rht_forms.specs.declared.ending.Ending.{Ending}
use Rattle.rht_forms.specs.Endings.{ending_line}
use Rattle.rht_forms.proofs.ending.Ending.write.Goals as goal

pub returns-in-Usage : goal.returns-in-Usage
returns-in-Usage g c =
    subst (λ (e : Ending). Puts g.E.Sink.held g.E.Sink.faults c.args.err.now c.put_all.new.out
    c.put_all.result (ending_line e))
    (sym c.in-Usage.is) c.put_all.ensures
