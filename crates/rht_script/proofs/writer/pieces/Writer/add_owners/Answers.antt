use Rattle.std.proofs.Common.{◌∙◌, ◌<◌, length, ap, arith}
use Rattle.std.proofs.lemmas.Option.{slice_get-get_or}
use Rattle.rht_script.specs.Text.{spaced}
use Rattle.rht_script.proofs.AddedPieces.{Adds-same}
use Rattle.rht_script.proofs.AddedLists.{Adds-item, Adds-item_failed}
use Rattle.rht_script.proofs.writer.pieces.Writer.add_owners.Goals as goal

pub returns-in_err-add_spaced-clause-text : goal.returns-in_err-add_spaced-clause-text
returns-in_err-add_spaced-clause-text g c =
    let within : c.loop-owner.owner-index < length c.args.owners.now = omega arith in
    let next = Adds-same c.in_err-add_spaced.ensures.text (ap spaced c.into.ensures) in
    Adds-item_failed spaced c.args.owners.now c.loop-owner.owner-index _ (slice_get-get_or _ _ 0 within)
    c.loop-owner.invariant.text next c.from_residual.ensures.0

pub loop-owner-preserved : goal.loop-owner-preserved
loop-owner-preserved g c =
    let within : c.loop-owner.owner-index < length c.args.owners.now = omega arith in
    let next = Adds-same c.in_ok-add_spaced.ensures.text (ap spaced c.into.ensures) in
    record {
      text = Adds-item spaced c.args.owners.now c.loop-owner.owner-index _ (slice_get-get_or _ _ 0 within)
          c.loop-owner.invariant.text next;
      same_sink = c.in_ok-add_spaced.ensures.same_sink ∙ c.loop-owner.invariant.same_sink;
    }
