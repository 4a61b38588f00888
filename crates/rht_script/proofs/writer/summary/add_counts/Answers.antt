use Rattle.std.proofs.Common.{◌≡◌, ◌<◌, ◌∙◌, length, get_or, ap, arith}
use Rattle.std.proofs.lemmas.Option.{slice_get-get_or}
use Rattle.rht_script.specs.declared.writer.summary.Sort.{Sort}
use Rattle.rht_script.specs.declared.writer.summary.Sort.TheVariants.{Any}
use Rattle.rht_script.specs.Text.{named}
use Rattle.rht_script.specs.SummaryText.{sort_name, sort_text}
use Rattle.rht_script.proofs.AddedPieces.{Adds-same}
use Rattle.rht_script.proofs.AddedLists.{Adds-item, Adds-item_failed}
use Rattle.rht_script.proofs.writer.summary.add_counts.Goals as goal

pub returns-in_err-add_named-clause-text : goal.returns-in_err-add_named-clause-text
returns-in_err-add_named-clause-text g c =
    let within : c.loop-sort.sort-index < length c.args.sorts.now = omega arith in
    let sort : Sort = get_or c.args.sorts.now c.loop-sort.sort-index Any in
    let text : named c.name.result.now c.how_many.result ≡ sort_text c.args.workers.now sort =
    ap (λ name. named name c.how_many.result) c.name.ensures.text ∙ ap (named (sort_name sort)) c.how_many.ensures in
    Adds-item_failed (sort_text c.args.workers.now) c.args.sorts.now c.loop-sort.sort-index sort
    (slice_get-get_or c.args.sorts.now c.loop-sort.sort-index Any within)
    c.loop-sort.invariant.text (Adds-same c.in_err-add_named.ensures.text text) c.from_residual.ensures.0

pub loop-sort-preserved : goal.loop-sort-preserved
loop-sort-preserved g c =
    let within : c.loop-sort.sort-index < length c.args.sorts.now = omega arith in
    let sort : Sort = get_or c.args.sorts.now c.loop-sort.sort-index Any in
    let text : named c.name.result.now c.how_many.result ≡ sort_text c.args.workers.now sort =
    ap (λ name. named name c.how_many.result) c.name.ensures.text ∙ ap (named (sort_name sort)) c.how_many.ensures in
    record {
      text = Adds-item (sort_text c.args.workers.now) c.args.sorts.now c.loop-sort.sort-index sort
          (slice_get-get_or c.args.sorts.now c.loop-sort.sort-index Any within)
          c.loop-sort.invariant.text (Adds-same c.in_ok-add_named.ensures.text text);
      same_sink = c.in_ok-add_named.ensures.same_sink ∙ c.loop-sort.invariant.same_sink;
    }
