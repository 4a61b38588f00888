use Rattle.std.proofs.Common.{rules, ap, codes}
use Rattle.std.specs.List.{flat_map}
use Rattle.rht_script.specs.Text.{named}
use Rattle.rht_script.specs.SummaryText.{sort_text, all_sorts, bound_sums}
use Rattle.rht_script.proofs.AddedPieces.{Adds-then, Adds-same, Adds-longer, Puts-of_put, Puts-of_failed_adds, Puts-between}
use Rattle.rht_script.proofs.writer.summary.write_summary.Goals as goal

pub returns-in_err-add_named : goal.returns-in_err-add_named
returns-in_err-add_named g c =
    let number = Adds-same c.in_err-add_named.ensures.text (ap (named (codes "gen")) c.into.ensures) in
    Puts-between c.new-text.ensures.unchanged (search rules)
    (Puts-of_failed_adds (Adds-longer (bound_sums c.args.closed.now.bindings.pairs)
    (Adds-longer (flat_map (sort_text c.args.workers.now) all_sorts) (Adds-longer (codes ":") number)))
    c.new-text.ensures.none c.from_residual.ensures.0)

pub returns-in_err-add : goal.returns-in_err-add
returns-in_err-add g c =
    let number = Adds-same c.in_ok-add_named.ensures.text (ap (named (codes "gen")) c.into.ensures) in
    Puts-between c.new-text.ensures.unchanged (search rules)
    (Puts-of_failed_adds (Adds-longer (bound_sums c.args.closed.now.bindings.pairs)
    (Adds-longer (flat_map (sort_text c.args.workers.now) all_sorts) (Adds-then number c.in_err-add.ensures.text)))
    c.new-text.ensures.none c.from_residual-in_err-add.ensures.0)

pub returns-in_err-add_counts : goal.returns-in_err-add_counts
returns-in_err-add_counts g c =
    let number = Adds-same c.in_ok-add_named.ensures.text (ap (named (codes "gen")) c.into.ensures) in
    Puts-between c.new-text.ensures.unchanged (search rules)
    (Puts-of_failed_adds (Adds-longer (bound_sums c.args.closed.now.bindings.pairs)
    (Adds-then (Adds-then number c.in_ok-add.ensures.text) c.in_err-add_counts.ensures.text))
    c.new-text.ensures.none c.from_residual-in_err-add_counts.ensures.0)

pub returns-in_err-add_bound_sums : goal.returns-in_err-add_bound_sums
returns-in_err-add_bound_sums g c =
    let number = Adds-same c.in_ok-add_named.ensures.text (ap (named (codes "gen")) c.into.ensures) in
    Puts-between c.new-text.ensures.unchanged (search rules)
    (Puts-of_failed_adds (Adds-then (Adds-then (Adds-then number c.in_ok-add.ensures.text)
    c.in_ok-add_counts.ensures.text) c.in_err-add_bound_sums.ensures.text)
    c.new-text.ensures.none c.from_residual-in_err-add_bound_sums.ensures.0)

pub returns : goal.returns
returns g c =
    let number = Adds-same c.in_ok-add_named.ensures.text (ap (named (codes "gen")) c.into.ensures) in
    Puts-between c.new-text.ensures.unchanged (search rules)
    (Puts-of_put (Adds-then (Adds-then (Adds-then number c.in_ok-add.ensures.text)
    c.in_ok-add_counts.ensures.text) c.in_ok-add_bound_sums.ensures.text)
    c.put.ensures.text c.new-text.ensures.none c.put.ensures.none)
