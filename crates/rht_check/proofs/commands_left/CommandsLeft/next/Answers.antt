use Rattle.std.proofs.Common.{ℕ, ◌+◌, ◌-◌, sym, subst, get_or, set}
use Rattle.rht_model.specs.declared.history.Call.{Call}
use Rattle.rht_check.specs.CommandsLeft.{Left, TakesCommand, IsNextAt}
use Rattle.rht_check.proofs.NextCommands.{taken_at}
use Rattle.rht_check.proofs.commands_left.CommandsLeft.next.Goals as goal

pub returns : goal.returns
returns c =
    let inside = c.self.inside in
    let left : Left = record { commands = inside.commands.now; places = inside.places.items } in
    let worker = c.args.worker in
    let place = c.in_ok-place.place in
    let default : ℕ × Call = c.index-self-place.result in
    let after : Left = record left { places = set inside.places.items (worker - 1) (place + 1) } in
    let next : IsNextAt left worker place = subst (λ l. IsNextAt l worker place) (sym c.self.view_is) c.in_ok-place.ensures in
    subst (λ (l : Left). TakesCommand l after worker (get_or inside.commands.now place default).1) c.self.view_is
    (taken_at left worker place default c.self.invariant.workers next)
