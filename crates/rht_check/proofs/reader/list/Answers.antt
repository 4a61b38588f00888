use Rattle.std.proofs.Common.{ℕ, List, length, Ok, sym, ◌∙◌, ap}
use Rattle.std.proofs.lemmas.Result.{err_from_is_err_and}
use Rattle.rht_model.specs.declared.history.Reply.TheVariants.{Listed}
use Rattle.rht_script.specs.Grammar.{at_line}
use Rattle.rht_check.specs.ClaimLines.{owners_of}
use Rattle.rht_check.proofs.LinesRead.{at_line-ok, IsReasonFor-first, list_of-owners}
use Rattle.rht_check.proofs.reader.list.Goals as goal

pub returns-in_err-owners-clause-reason : goal.returns-in_err-owners-clause-reason
returns-in_err-owners-clause-reason c =
    let p = err_from_is_err_and c.from_residual.result c.from_residual.ensures.1 in
    rw (p.1, p.2, list_of-owners c.args.worker c.args.words)
    (IsReasonFor-first c.args.number (owners_of c.args.words) (λ owners. Ok (c.args.worker, Listed (length owners), owners))
    c.in_err-owners.field-0.0 c.in_err-owners.ensures.reason)

pub returns-in-Ok-clause-told : goal.returns-in-Ok-clause-told
returns-in-Ok-clause-told c =
    let owners : List ℕ = c.in_ok-owners.owners in
    let count = c.in-Ok.ensures in
    ap (at_line c.args.number) (list_of-owners c.args.worker c.args.words)
    ∙ at_line-ok c.args.number (owners_of c.args.words) (λ os. Ok (c.args.worker, Listed (length os), os)) owners c.in_ok-owners.ensures.owners
    ∙ ap (λ n. Ok (c.args.worker, Listed n, owners)) (ap (λ (l : List ℕ). length l) (sym c.as_slice.ensures) ∙ sym count.1)
