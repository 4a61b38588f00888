use Rattle.std.proofs.Common.{◌<◌, ◌≤◌, ◌∙◌, length, refl, ap, arith, take_all}
use Rattle.std.specs.List.{flat_map}
use Rattle.std.proofs.lemmas.Option.{slice_get_read}
use Rattle.rht_script.specs.Text.{done_line}
use Rattle.rht_script.proofs.AddedPieces.{Adds-same}
use Rattle.rht_script.proofs.AddedLists.{Adds-item, Adds-item_failed}
use Rattle.rht_script.proofs.writer.add_dones.Goals as goal

pub returns-in_err-add_done-clause-text : goal.returns-in_err-add_done-clause-text
returns-in_err-add_done-clause-text g c =
    let dones = c.args.dones.now in
    let i = c.loop-i.i in
    let within : i < length dones = omega arith in
    let here = slice_get_read dones (length dones) i c.index-dones-i.result refl within c.index-dones-i.is in
    Adds-item_failed done_line dones i c.index-dones-i.result here c.loop-i.invariant.text c.in_err-add_done.ensures.text
    c.from_residual.ensures.0

pub loop-i-preserved : goal.loop-i-preserved
loop-i-preserved g c =
    let dones = c.args.dones.now in
    let i = c.loop-i.i in
    let within : i < length dones = omega arith in
    let here = slice_get_read dones (length dones) i c.index-dones-i.result refl within c.index-dones-i.is in
    record {
      text = Adds-item done_line dones i c.index-dones-i.result here c.loop-i.invariant.text c.in_ok-add_done.ensures.text;
      same_sink = c.in_ok-add_done.ensures.same_sink ∙ c.loop-i.invariant.same_sink;
    }

pub returns-clause-text : goal.returns-clause-text
returns-clause-text g c =
    let all : length c.args.dones.now ≤ c.loop-i.i = omega arith in
    Adds-same c.loop-i.invariant.text (ap (flat_map done_line) (take_all c.loop-i.i c.args.dones.now all))
