use Rattle.std.proofs.Common.{◌∙◌, ◌<◌, length, refl, arith}
use Rattle.std.proofs.lemmas.Option.{slice_get_read}
use Rattle.rht_script.specs.Text.{pair_text}
use Rattle.rht_script.proofs.AddedLists.{Adds-item, Adds-item_failed}
use Rattle.rht_script.proofs.writer.pieces.Writer.add_pairs.Goals as goal

pub returns-in_err-add_pair-clause-text : goal.returns-in_err-add_pair-clause-text
returns-in_err-add_pair-clause-text g c =
    let within : c.loop-pair.pair-index < length c.args.pairs.now = omega arith in
    Adds-item_failed pair_text c.args.pairs.now c.loop-pair.pair-index c.pair-item.result
    (slice_get_read c.args.pairs.now _ c.loop-pair.pair-index c.pair-item.result refl within c.pair-item.is)
    c.loop-pair.invariant.text c.in_err-add_pair.ensures.text c.from_residual.ensures.0

pub loop-pair-preserved : goal.loop-pair-preserved
loop-pair-preserved g c =
    let within : c.loop-pair.pair-index < length c.args.pairs.now = omega arith in
    record {
      text = Adds-item pair_text c.args.pairs.now c.loop-pair.pair-index c.pair-item.result
          (slice_get_read c.args.pairs.now _ c.loop-pair.pair-index c.pair-item.result refl within c.pair-item.is)
          c.loop-pair.invariant.text c.in_ok-add_pair.ensures.text;
      same_sink = c.in_ok-add_pair.ensures.same_sink ∙ c.loop-pair.invariant.same_sink;
    }
