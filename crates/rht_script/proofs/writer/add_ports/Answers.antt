use Rattle.std.proofs.Common.{◌∙◌}
use Rattle.rht_script.specs.Text.{port_line}
use Rattle.rht_script.proofs.AddedLists.{Adds-item, Adds-item_failed}
use Rattle.rht_script.proofs.PlacesOfBindings.{pair_at}
use Rattle.rht_script.proofs.writer.add_ports.Goals as goal

pub returns-in_err-add_port_line-clause-text : goal.returns-in_err-add_port_line-clause-text
returns-in_err-add_port_line-clause-text g c =
    Adds-item_failed port_line c.args.bindings.now.pairs c.loop-i.i _
    (pair_at c.args.bindings.now.pairs c.loop-i.i _ _ c.port.ensures c.owners.ensures)
    c.loop-i.invariant.text c.in_err-add_port_line.ensures.text c.from_residual.ensures.0

pub loop-i-preserved : goal.loop-i-preserved
loop-i-preserved g c =
    record {
      text = Adds-item port_line c.args.bindings.now.pairs c.loop-i.i _
          (pair_at c.args.bindings.now.pairs c.loop-i.i _ _ c.port.ensures c.owners.ensures)
          c.loop-i.invariant.text c.in_ok-add_port_line.ensures.text;
      same_sink = c.in_ok-add_port_line.ensures.same_sink ∙ c.loop-i.invariant.same_sink;
    }
