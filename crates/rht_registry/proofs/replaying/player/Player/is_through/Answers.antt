use Rattle.std.proofs.Common.{◌+◌, false, sym, ◌∙◌, ap}
use Rattle.std.proofs.lemmas.List.{length-set}
use Rattle.std.specs.Prelude.{length}
use Rattle.rht_model.specs.declared.history.Call.TheVariants.{Bind}
use Rattle.rht_core.specs.Locals.{is_idle}
use Rattle.rht_core.specs.Runs.{Core}
use Rattle.rht_callers.specs.declared.local.Local.{Local}
use Rattle.rht_registry.specs.Replays.{has_none}
use Rattle.rht_registry.specs.Players.{playing_of}
use Rattle.rht_registry.proofs.PlayedEvents.{CanPlay-stays, is_through-idle, past-has_none}
use Rattle.rht_registry.proofs.replaying.player.Player.is_through.Goals as goal

pub returns-clause-through : goal.returns-clause-through
returns-clause-through g c =
    let commands = c.args.commands.now in
    let idle = ap (λ (l : Local g.row.M.Denot). is_idle l) (sym c.local.ensures.local) ∙ sym c.is_idle.ensures ∙ c.if-not-is_idle.false in
    past-has_none commands (c.args.caller + 1) c.look.result (0, Bind 0 0 false) c.look.ensures.here
    ∙ sym (ap has_none c.look.ensures.left)
    ∙ sym (is_through-idle (playing_of commands c.args.self.now) c.args.caller idle)

pub returns-clause-can : goal.returns-clause-can
returns-clause-can g c =
    CanPlay-stays c.args.self.now c.look.new.self c.requires.can
    (ap length c.look.ensures.next ∙ length-set c.args.self.now.next.items c.args.caller c.look.result)
    (ap (λ (k : Core g.row.M.Denot). k.env) c.look.ensures.state)
