use Rattle.std.proofs.Common.{◌≡◌, ℕ, List, [], Ok, Err, sym, ◌∙◌, ap, subst}
use Rattle.std.specs.Prelude.{IfOk, IfErr}
use Rattle.std.proofs.lemmas.Result.{err_from_is_err_and}
use Rattle.rht_script.specs.declared.script.ScriptFault.{ScriptFault}
use Rattle.rht_script.specs.Grammar.{at_line}
use Rattle.rht_script.specs.Reading.{IsReasonFor}
use Rattle.rht_check.specs.ClaimLines.{plain_of}
use Rattle.rht_check.proofs.LinesRead.{at_line-ok, at_line-err, reply_of-none, reply_of-list, reply_of-plain}
use Rattle.rht_check.proofs.reader.reply.Goals as goal

pub returns-in_default-clause-reason : goal.returns-in_default-clause-reason
returns-in_default-clause-reason c =
    rw (c.in_default.ensures.0, reply_of-none c.args.worker) (ap (λ (f : ScriptFault). Err f) (sym c.at.ensures))

pub returns-then-eq-clause-told : goal.returns-then-eq-clause-told
returns-then-eq-clause-told c =
    let list = reply_of-list c.args.worker c.args.words c.in-Some.name.now c.next.new.self c.in-Some.ensures (sym c.eq.ensures ∙ c.if-eq.true) in
    subst (λ r. IfOk c.list.result (λ told. at_line c.args.number r ≡ Ok told)) (sym list) c.list.ensures.told

pub returns-then-eq-clause-reason : goal.returns-then-eq-clause-reason
returns-then-eq-clause-reason c =
    let list = reply_of-list c.args.worker c.args.words c.in-Some.name.now c.next.new.self c.in-Some.ensures (sym c.eq.ensures ∙ c.if-eq.true) in
    subst (λ r. IfErr c.list.result (IsReasonFor (at_line c.args.number r))) (sym list) c.list.ensures.reason

pub returns-in_err-reply-clause-reason : goal.returns-in_err-reply-clause-reason
returns-in_err-reply-clause-reason c =
    let p = err_from_is_err_and c.from_residual.result c.from_residual.ensures.1 in
    let name = c.in-Some.name.now in
    let rest = c.next.new.self in
    let plain = reply_of-plain c.args.worker c.args.words name rest c.in-Some.ensures (sym c.eq.ensures ∙ c.if-eq.false) in
    rw (p.1, p.2)
    (ap (at_line c.args.number) plain
    ∙ at_line-err c.args.number (plain_of name rest) (λ reply. Ok (c.args.worker, reply, [])) c.in_err-reply.field-0.0
    (ap (at_line c.args.number) (sym c.plain.ensures) ∙ sym c.in_err-reply.ensures))

pub returns-clause-told : goal.returns-clause-told
returns-clause-told c =
    let name = c.in-Some.name.now in
    let rest = c.next.new.self in
    let plain = reply_of-plain c.args.worker c.args.words name rest c.in-Some.ensures (sym c.eq.ensures ∙ c.if-eq.false) in
    ap (at_line c.args.number) plain
    ∙ at_line-ok c.args.number (plain_of name rest) (λ reply. Ok (c.args.worker, reply, [])) c.in_ok-reply.reply
    (ap (at_line c.args.number) (sym c.plain.ensures) ∙ sym c.in_ok-reply.ensures)
    ∙ ap (λ (os : List ℕ). Ok (c.args.worker, c.in_ok-reply.reply, os)) (sym c.new.ensures)
