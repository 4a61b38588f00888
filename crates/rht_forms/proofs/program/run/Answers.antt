use Rattle.std.proofs.Common.{◌≡◌, inl, inr, List, Some, map, string_bytes, sym, ap, subst, ◌∙◌}
use Rattle.std.specs.declared.string.String.{String}
use Rattle.std.specs.declared.alloc.Global.{Global}
use Rattle.rht_io.specs.Told.{PutsLine}
use Rattle.rht_forms.specs.declared.form.Form.{Form}
use Rattle.rht_forms.specs.declared.form.Form.TheVariants.{Run, Gen, Deal, Lease, Resume}
use Rattle.rht_forms.specs.Forms.{form_of, HasInput, IsFaultOf}
use Rattle.rht_forms.specs.Endings.{Serves, status_of, ending_of, ending_line}
use Rattle.rht_forms.proofs.Completeness.{served_whole, served_unread, refused_fault}
use Rattle.rht_forms.proofs.Headlines.{Headline-served, IsFaultOf-served}
use Rattle.rht_forms.proofs.PrintedTexts.{DealHeadline-served, LeaseHeadline-served, ResumeHeadline-served}
use Rattle.rht_forms.proofs.program.run.Goals as goal

-- words are of one form
one_form : (words items : List (String Global)) (form first : Form) → items ≡ words
    → Some first ≡ form_of (map string_bytes items) → form_of (map string_bytes words) ≡ Some form
    → form ≡ first
one_form words items form first same found named =
    let both = sym named ∙ sym (ap (λ ws. form_of (map string_bytes ws)) same) ∙ sym found in cc

pub returns-in-Some-clause-headline : goal.returns-in-Some-clause-headline
returns-in-Some-clause-headline g c zero named =
    let same = one_form c.args.words.now.items c.deref.result.now Run c.in-Some.form
    c.deref.ensures.value (sym c.in-Some.is ∙ c.of.ensures) named in
    Headline-served g.S.Source.left g.S.Source.faults g.O.Sink.held g.O.Sink.faults c.in-Some.form
    c.args.source.now c.serve.new.source c.args.out.now c.serve.new.out c.serve.result c.serve.ensures.served
    same (sym (ap status_of c.ending_of.ensures) ∙ sym c.end.ensures.status ∙ zero)

pub returns-in-Some-clause-dealt : goal.returns-in-Some-clause-dealt
returns-in-Some-clause-dealt g c zero named =
    let same = one_form c.args.words.now.items c.deref.result.now Deal c.in-Some.form
    c.deref.ensures.value (sym c.in-Some.is ∙ c.of.ensures) named in
    DealHeadline-served g.S.Source.left g.S.Source.faults g.O.Sink.held g.O.Sink.faults c.in-Some.form
    c.args.source.now c.serve.new.source c.args.out.now c.serve.new.out c.serve.result c.serve.ensures.served
    (sym (ap status_of c.ending_of.ensures) ∙ sym c.end.ensures.status ∙ zero) same

pub returns-in-Some-clause-leased : goal.returns-in-Some-clause-leased
returns-in-Some-clause-leased g c zero named =
    let same = one_form c.args.words.now.items c.deref.result.now Lease c.in-Some.form
    c.deref.ensures.value (sym c.in-Some.is ∙ c.of.ensures) named in
    LeaseHeadline-served g.S.Source.left g.S.Source.faults g.O.Sink.held g.O.Sink.faults c.in-Some.form
    c.args.source.now c.serve.new.source c.args.out.now c.serve.new.out c.serve.result c.serve.ensures.served
    (sym (ap status_of c.ending_of.ensures) ∙ sym c.end.ensures.status ∙ zero) same

pub returns-in-Some-clause-resumed : goal.returns-in-Some-clause-resumed
returns-in-Some-clause-resumed g c zero named =
    let same = one_form c.args.words.now.items c.deref.result.now Resume c.in-Some.form
    c.deref.ensures.value (sym c.in-Some.is ∙ c.of.ensures) named in
    ResumeHeadline-served g.S.Source.left g.S.Source.faults g.O.Sink.held g.O.Sink.faults c.in-Some.form
    c.args.source.now c.serve.new.source c.args.out.now c.serve.new.out c.serve.result c.serve.ensures.served
    (sym (ap status_of c.ending_of.ensures) ∙ sym c.end.ensures.status ∙ zero) same

pub returns-in-Some-clause-no_script : goal.returns-in-Some-clause-no_script
returns-in-Some-clause-no_script g c two =
    let form = c.in-Some.form in
    let is : c.end.result ≡ status_of (ending_of c.serve.result) = c.end.ensures.status
    ∙ ap status_of c.ending_of.ensures in
    let fault = IsFaultOf-served g.S.Source.left g.S.Source.faults g.O.Sink.held g.O.Sink.faults form
    c.args.source.now c.serve.new.source c.args.out.now c.serve.new.out c.serve.result c.serve.ensures.served (sym is ∙ two) in (
      fault.0,
      record {
        form = form;
        named = sym (ap (λ ws. form_of (map string_bytes ws)) c.deref.ensures.value) ∙ sym (sym c.in-Some.is ∙ c.of.ensures);
        holds = fault.2;
      },
      subst (PutsLine (g.E.Sink.held c.args.err.now) (g.E.Sink.held c.end.new.err)
          (g.E.Sink.faults c.args.err.now) (g.E.Sink.faults c.end.new.err))
          (ap ending_line c.ending_of.ensures ∙ ap (λ served. ending_line (ending_of served)) fault.1) c.end.ensures.line,
      fault.3,
    )

pub returns-in-Some-clause-served : goal.returns-in-Some-clause-served
returns-in-Some-clause-served g c form bytes rest named told input reads writes =
    let same = one_form c.args.words.now.items c.deref.result.now form c.in-Some.form
    c.deref.ensures.value (sym c.in-Some.is ∙ c.of.ensures) named in
    let is : c.end.result ≡ status_of (ending_of c.serve.result) = c.end.ensures.status
    ∙ ap status_of c.ending_of.ensures in
    elim (served_whole g.S.Source.left g.S.Source.faults g.O.Sink.held g.O.Sink.faults c.in-Some.form
    c.args.source.now c.serve.new.source c.args.out.now c.serve.new.out
    bytes rest told c.serve.result c.serve.ensures.served
    (subst (λ (f : Form). HasInput f (Some bytes) rest) same input) reads writes) [
      | inl whole ↦ inl (is ∙ whole)
      | inr memory ↦ inr (is ∙ memory)
    ]

pub returns-in-Some-clause-generated : goal.returns-in-Some-clause-generated
returns-in-Some-clause-generated g c number named writes =
    let same = one_form c.args.words.now.items c.deref.result.now (Gen number) c.in-Some.form
    c.deref.ensures.value (sym c.in-Some.is ∙ c.of.ensures) named in
    let is : c.end.result ≡ status_of (ending_of c.serve.result) = c.end.ensures.status
    ∙ ap status_of c.ending_of.ensures in
    elim (served_unread g.S.Source.left g.S.Source.faults g.O.Sink.held g.O.Sink.faults number
    c.args.source.now c.serve.new.source c.args.out.now c.serve.new.out c.serve.result
    (subst (λ (f : Form). Serves g.S.Source.left g.S.Source.faults g.O.Sink.held g.O.Sink.faults f
    c.args.source.now c.serve.new.source c.args.out.now c.serve.new.out c.serve.result) (sym same) c.serve.ensures.served) writes) [
      | inl whole ↦ inl (is ∙ whole)
      | inr memory ↦ inr (is ∙ memory)
    ]

pub returns-in-Some-clause-refused : goal.returns-in-Some-clause-refused
returns-in-Some-clause-refused g c form bytes rest fault named told refused reads =
    let same = one_form c.args.words.now.items c.deref.result.now form c.in-Some.form
    c.deref.ensures.value (sym c.in-Some.is ∙ c.of.ensures) named in
    let is : c.end.result ≡ status_of (ending_of c.serve.result) = c.end.ensures.status
    ∙ ap status_of c.ending_of.ensures in
    elim (refused_fault g.S.Source.left g.S.Source.faults g.O.Sink.held g.O.Sink.faults c.in-Some.form
    c.args.source.now c.serve.new.source c.args.out.now c.serve.new.out
    bytes rest told c.serve.result c.serve.ensures.served fault
    (subst (λ (f : Form). IsFaultOf f (Some bytes) rest fault) same refused) reads) [
      | inl two ↦ inl (
        is ∙ two.0,
        subst (PutsLine (g.E.Sink.held c.args.err.now) (g.E.Sink.held c.end.new.err)
            (g.E.Sink.faults c.args.err.now) (g.E.Sink.faults c.end.new.err))
            (ap ending_line c.ending_of.ensures ∙ two.1) c.end.ensures.line,
      )
      | inr memory ↦ inr (is ∙ memory)
    ]

pub returns-in-Some-clause-nothing_read : goal.returns-in-Some-clause-nothing_read
returns-in-Some-clause-nothing_read g c number named =
    c.serve.ensures.unread number (sym (one_form c.args.words.now.items c.deref.result.now (Gen number) c.in-Some.form
    c.deref.ensures.value (sym c.in-Some.is ∙ c.of.ensures) named))
