use Rattle.std.proofs.Common.{◌∙◌, sym, ap, arith}
use Rattle.std.specs.Prelude.{Option, Some}
use Rattle.rht_words.specs.declared.geometry.Geometry.{Geometry}
use Rattle.rht_words.specs.Ports.{word_of}
use Rattle.rht_arena.specs.NewNode.{new_node_new}
use Rattle.rht_release.specs.declared.rebind.RebindAt.TheVariants.{Filling}
use Rattle.rht_model.specs.declared.history.Call.{Call}
use Rattle.rht_callers.specs.declared.local.Doing.{Doing}
use Rattle.rht_core.specs.Locals.{machine_of}
use Rattle.rht_run.specs.Seeks.{rebind_at}
use Rattle.rht_run.proofs.Rides.{before_few}
use Rattle.rht_run.proofs.table.Table.drive_rebind.Goals as goal

pub begin_with_node-begun-requires-clause-begins : goal.begin_with_node-begun-requires-clause-begins
begin_with_node-begun-requires-clause-begins g c =
    let env = c.args.self.now.env in
    let filling : Geometry → Option (Doing g.row.M.Denot) = λ geometry.
    Some (rebind_at env c.args.number c.args.port c.args.owner c.args.new (Filling (new_node_new geometry (word_of c.args.port) c.args.new))) in
    ap (λ n. machine_of env n g.K.Ride.riding.batch g.K.Ride.riding.call) c.requires.number
    ∙ ap (λ (call : Call). machine_of env c.args.number g.K.Ride.riding.batch call) c.requires.call
    ∙ ap filling (sym c.starts-starts.ensures)

pub section-section-requires : goal.section-section-requires
section-section-requires g c =
    omega (arith, c.requires.number, before_few g.M.Mix.mix_of c.args.self.now g.K.Ride.riding c.args.seat.now c.requires.before)
