use Rattle.std.proofs.Common.{◌≡◌, Ok, Err, sym, ◌∙◌, ap, subst}
use Rattle.std.specs.Prelude.{IfOk, IfErr}
use Rattle.std.proofs.lemmas.Result.{err_from_is_err_and}
use Rattle.rht_script.specs.declared.script.ScriptFault.{ScriptFault}
use Rattle.rht_script.specs.Grammar.{at_line}
use Rattle.rht_script.specs.Reading.{IsReasonFor}
use Rattle.rht_check.specs.ClaimLines.{worker_of, reply_of}
use Rattle.rht_check.proofs.LinesRead.{at_line-ok, at_line-err, told_of-none, told_of-first}
use Rattle.rht_check.proofs.reader.told.Goals as goal

pub returns-in_default-clause-reason : goal.returns-in_default-clause-reason
returns-in_default-clause-reason c =
    rw (c.in_default.ensures.0, told_of-none c.args.table.now) (ap (λ (f : ScriptFault). Err f) (sym c.at.ensures))

pub returns-in_err-worker-clause-reason : goal.returns-in_err-worker-clause-reason
returns-in_err-worker-clause-reason c =
    let p = err_from_is_err_and c.from_residual.result c.from_residual.ensures.1 in
    let table = c.args.table.now in
    let word = c.in-Some.word.now in
    let rest = c.next.new.self in
    rw (p.1, p.2)
    (ap (at_line c.args.number) (told_of-first table c.args.words word rest c.in-Some.ensures)
    ∙ at_line-err c.args.number (worker_of table word) (λ worker. reply_of worker rest) c.in_err-worker.field-0.0
    (sym (c.in_err-worker.ensures ∙ ap (at_line c.args.number) c.worker.ensures)))

pub returns-clause-told : goal.returns-clause-told
returns-clause-told c =
    let table = c.args.table.now in
    let word = c.in-Some.word.now in
    let rest = c.next.new.self in
    let whole = ap (at_line c.args.number) (told_of-first table c.args.words word rest c.in-Some.ensures)
    ∙ at_line-ok c.args.number (worker_of table word) (λ worker. reply_of worker rest) c.in_ok-worker.worker
    (sym (c.in_ok-worker.ensures ∙ ap (at_line c.args.number) c.worker.ensures)) in
    subst (λ r. IfOk c.reply.result (λ told. r ≡ Ok told)) (sym whole) c.reply.ensures.told

pub returns-clause-reason : goal.returns-clause-reason
returns-clause-reason c =
    let table = c.args.table.now in
    let word = c.in-Some.word.now in
    let rest = c.next.new.self in
    let whole = ap (at_line c.args.number) (told_of-first table c.args.words word rest c.in-Some.ensures)
    ∙ at_line-ok c.args.number (worker_of table word) (λ worker. reply_of worker rest) c.in_ok-worker.worker
    (sym (c.in_ok-worker.ensures ∙ ap (at_line c.args.number) c.worker.ensures)) in
    subst (λ r. IfErr c.reply.result (IsReasonFor r)) (sym whole) c.reply.ensures.reason
