use Rattle.std.proofs.Common.{◌++◌, Ok, Err, codes, length, refl, subst}
use Rattle.std.specs.List.{flat_map}
use Rattle.rht_io.specs.Told.{Puts}
use Rattle.rht_io.proofs.ToldLemmas.{Puts-after, Puts-longer, Puts-passed_on}
use Rattle.rht_script.specs.Text.{port_line}
use Rattle.rht_check.specs.Text.{keys_line, accepted_text}
use Rattle.rht_check.proofs.PutTexts.{Puts-stopped}
use Rattle.rht_check.proofs.writer.write_accepted.Goals as goal

pub returns-in_err-put_all : goal.returns-in_err-put_all
returns-in_err-put_all g c =
    let pairs = c.args.bindings.now.pairs in
    let behind = flat_map port_line pairs ++ keys_line (length pairs) in
    let e = c.in_err-put_all.field-0.0 in
    Puts-passed_on g.O.Sink.held g.O.Sink.faults c.args.out.now c.put_all.new.out (Err e) c.from_residual.result
    (codes "legal\n" ++ behind) refl c.from_residual.ensures.0
    (Puts-longer g.O.Sink.held g.O.Sink.faults c.args.out.now c.put_all.new.out e (codes "legal\n") behind c.in_err-put_all.ensures)

pub returns-in_err-write_ports : goal.returns-in_err-write_ports
returns-in_err-write_ports g c =
    let pairs = c.args.bindings.now.pairs in
    Puts-stopped g.O.Sink.held g.O.Sink.faults c.args.out.now c.put_all.new.out c.write_ports.new.out c.in_err-write_ports.field-0.0
    c.from_residual-in_err-write_ports.result (codes "legal\n") (flat_map port_line pairs) (keys_line (length pairs)) (accepted_text pairs)
    c.in_ok-put_all.ensures c.in_err-write_ports.ensures c.from_residual-in_err-write_ports.ensures.0 refl

pub returns : goal.returns
returns g c =
    let pairs = c.args.bindings.now.pairs in
    Puts-after g.O.Sink.held g.O.Sink.faults c.args.out.now c.write_ports.new.out c.write_named.new.out c.write_named.result
    (codes "legal\n" ++ flat_map port_line pairs) (keys_line (length pairs))
    (Puts-after g.O.Sink.held g.O.Sink.faults c.args.out.now c.put_all.new.out c.write_ports.new.out (Ok tt)
    (codes "legal\n") (flat_map port_line pairs) c.in_ok-put_all.ensures c.in_ok-write_ports.ensures)
    (subst (λ n. Puts g.O.Sink.held g.O.Sink.faults c.write_ports.new.out c.write_named.new.out c.write_named.result (keys_line n))
    c.len.ensures c.write_named.ensures)
