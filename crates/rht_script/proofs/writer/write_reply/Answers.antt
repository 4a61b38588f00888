use Rattle.std.proofs.Common.{rules, ap}
use Rattle.rht_script.specs.Text.{reply_line}
use Rattle.rht_script.proofs.AddedPieces.{Adds-same, Puts-of_put, Puts-of_failed_adds, Puts-between}
use Rattle.rht_script.proofs.writer.write_reply.Goals as goal

pub returns-in_err-add_reply : goal.returns-in_err-add_reply
returns-in_err-add_reply g c =
    let line = Adds-same c.in_err-add_reply.ensures.text
    (ap (λ worker. reply_line worker c.args.reply c.args.owners.now c.args.pairs.now c.args.kicks)
    c.into.ensures) in
    Puts-between c.new-text.ensures.unchanged (search rules)
    (Puts-of_failed_adds line c.new-text.ensures.none c.from_residual.ensures.0)

pub returns : goal.returns
returns g c =
    let line = Adds-same c.in_ok-add_reply.ensures.text
    (ap (λ worker. reply_line worker c.args.reply c.args.owners.now c.args.pairs.now c.args.kicks)
    c.into.ensures) in
    Puts-between c.new-text.ensures.unchanged (search rules)
    (Puts-of_put line c.put.ensures.text c.new-text.ensures.none c.put.ensures.none)
