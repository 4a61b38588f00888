use Rattle.std.proofs.Common.{sym, subst}
use Rattle.rht_forms.specs.declared.form.Form.{Form}
use Rattle.rht_forms.specs.Endings.{Serves}
use Rattle.rht_forms.proofs.ServedScripts.{Serves-unread}
use Rattle.rht_forms.proofs.program.serve.Goals as goal

pub returns-in-Gen-clause-served : goal.returns-in-Gen-clause-served
returns-in-Gen-clause-served g c =
    subst (λ (f : Form). Serves g.S.Source.left g.S.Source.faults g.O.Sink.held g.O.Sink.faults f c.args.source.now
    c.args.source.now c.args.out.now c.serve_gen.new.out c.serve_gen.result) (sym c.in-Gen.is)
    (Serves-unread g.S.Source.left g.S.Source.faults g.O.Sink.held g.O.Sink.faults _ c.args.source.now c.args.source.now
    c.args.out.now c.serve_gen.new.out c.serve_gen.result c.serve_gen.ensures)
