use Rattle.std.proofs.Common.{◌++◌, Ok, Err, decimal, refl, sym, subst, append_assoc}
use Rattle.rht_io.specs.Told.{Puts}
use Rattle.rht_io.proofs.ToldLemmas.{Puts-after, Puts-longer, Puts-passed_on}
use Rattle.rht_check.proofs.PutTexts.{Puts-stopped}
use Rattle.rht_check.proofs.writer.write_named.Goals as goal

pub returns-in_err-put_all : goal.returns-in_err-put_all
returns-in_err-put_all g c =
    let text = (c.args.name.now ++ decimal c.args.number) ++ c.args.found.now in
    let e = c.in_err-put_all.field-0.0 in
    let longer = Puts-longer g.O.Sink.held g.O.Sink.faults c.args.out.now c.put_all.new.out e c.args.name.now
    (decimal c.args.number ++ c.args.found.now) c.in_err-put_all.ensures in
    Puts-passed_on g.O.Sink.held g.O.Sink.faults c.args.out.now c.put_all.new.out (Err e) c.from_residual.result text refl
    c.from_residual.ensures.0
    (subst (Puts g.O.Sink.held g.O.Sink.faults c.args.out.now c.put_all.new.out (Err e))
    (sym (append_assoc c.args.name.now (decimal c.args.number) c.args.found.now)) longer)

pub returns-in_err-write_number : goal.returns-in_err-write_number
returns-in_err-write_number g c =
    Puts-stopped g.O.Sink.held g.O.Sink.faults c.args.out.now c.put_all.new.out c.write_number.new.out c.in_err-write_number.field-0.0
    c.from_residual-in_err-write_number.result c.args.name.now (decimal c.args.number) c.args.found.now
    ((c.args.name.now ++ decimal c.args.number) ++ c.args.found.now)
    c.in_ok-put_all.ensures c.in_err-write_number.ensures c.from_residual-in_err-write_number.ensures.0 refl

pub returns : goal.returns
returns g c =
    Puts-after g.O.Sink.held g.O.Sink.faults c.args.out.now c.write_number.new.out c.put_all-2.new.out c.put_all-2.result
    (c.args.name.now ++ decimal c.args.number) c.args.found.now
    (Puts-after g.O.Sink.held g.O.Sink.faults c.args.out.now c.put_all.new.out c.write_number.new.out (Ok tt)
    c.args.name.now (decimal c.args.number) c.in_ok-put_all.ensures c.in_ok-write_number.ensures)
    c.put_all-2.ensures
