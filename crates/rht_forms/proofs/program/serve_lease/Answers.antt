use Rattle.std.proofs.lemmas.Result.{err_from_is_err_and}
use Rattle.rht_lease.specs.Reading.{lease_reading_of}
use Rattle.rht_lease.specs.Text.{lease_text}
use Rattle.rht_forms.specs.declared.form.Form.TheVariants.{Lease}
use Rattle.rht_forms.proofs.ToldInput.{IsFaultOf-leases}
use Rattle.rht_forms.proofs.LeaseTexts.{Prints-leased}
use Rattle.rht_forms.proofs.ServedScripts.{FailsBy-unread, Serves-put}
use Rattle.rht_forms.proofs.program.serve_lease.Goals as goal

pub returns-in_err-script : goal.returns-in_err-script
returns-in_err-script g c =
    let p = err_from_is_err_and c.from_residual.result c.from_residual.ensures.1 in
    rw (p.1, p.2)
    (FailsBy-unread g.S.Source.left g.S.Source.faults g.O.Sink.held g.O.Sink.faults Lease c.args.source.now
    c.read_leasing.new.source lease_reading_of (IsFaultOf-leases (g.S.Source.left c.args.source.now) (g.S.Source.left c.read_leasing.new.source))
    tt c.args.out.now c.in_err-script.field-0.0 c.in_err-script.ensures.unread)

pub returns : goal.returns
returns g c =
    let left = g.S.Source.left in
    let script = c.in_ok-script.script in
    let outcome = c.in_ok-outcome.outcome in
    rw c.served_by.ensures
    (Serves-put left g.S.Source.faults g.O.Sink.held g.O.Sink.faults Lease c.args.source.now
    c.read_leasing.new.source c.args.out.now c.write_leases.new.out (lease_text outcome.replies.items outcome.closed) c.write_leases.result
    (Prints-leased (left c.args.source.now) (left c.read_leasing.new.source) script outcome.replies.items outcome.closed
    c.in_ok-script.ensures.sound c.in_ok-script.ensures.read c.in_ok-outcome.ensures) c.write_leases.ensures)
