use Rattle.std.proofs.Common.{◌≡◌, ℕ, ◌+◌, ◌<◌, length, drop, ◌∙◌, ap, arith}
use Rattle.std.specs.Prelude.{slice_set}
use Rattle.std.specs.Vec.{with_item}
use Rattle.std.proofs.lemmas.List.{length-set}
use Rattle.rht_model.specs.declared.history.Call.{Call}
use Rattle.rht_core.specs.Runs.{Core}
use Rattle.rht_core.specs.Serving.{calls_of}
use Rattle.rht_registry.specs.declared.replaying.player.Player.{Player}
use Rattle.rht_registry.proofs.NextCommands.{calls_of-own, calls_of-past}
use Rattle.rht_registry.proofs.PlayedEvents.{CanPlay-stays, playing_of-moved, playing_of-taken, head_is}
use Rattle.rht_registry.proofs.replaying.player.Player.take.Goals as goal

pub returns-then-place-commands-clause-taken : goal.returns-then-place-commands-clause-taken
returns-then-place-commands-clause-taken g c =
    let commands = c.args.commands.now in
    let before = c.args.self.now in
    let caller = c.args.caller in
    let below : caller < length before.next.items = omega (arith, c.requires.can.places, c.requires.caller) in (
      c.look-place.ensures.left ∙ calls_of-past (caller + 1) c.look-place.result commands c.if-place-commands.true,
      playing_of-moved commands before c.look-place.new.self caller c.look-place.result below c.look-place.ensures.next
          c.look-place.ensures.left c.look-place.ensures.state c.look-place.ensures.made c.look-place.ensures.over,
    )

pub returns-then-place-commands-clause-can : goal.returns-then-place-commands-clause-can
returns-then-place-commands-clause-can g c =
    CanPlay-stays c.args.self.now c.look-place.new.self c.requires.can
    (ap length c.look-place.ensures.next ∙ length-set c.args.self.now.next.items c.args.caller c.look-place.result)
    (ap (λ (k : Core g.row.M.Denot). k.env) c.look-place.ensures.state)

pub returns-clause-taken : goal.returns-clause-taken
returns-clause-taken g c =
    let commands = c.args.commands.now in
    let before = c.args.self.now in
    let caller = c.args.caller in
    let place = c.look-place.result in
    let looked = c.look-place.new.self in
    let none : ℕ × Call = c.index-commands-place.result in
    let below : caller < length before.next.items = omega (arith, c.requires.can.places, c.requires.caller) in
    let within : place < length commands = c.if-place-commands.false in
    let own = head_is (λ (command : ℕ × Call). command.0 ≡ caller + 1) commands place none within c.look-place.ensures.here in
    let after : Player g.row.M.Denot = record {
      state = looked.state;
      next = with_item looked.next caller (place + 1);
      made = looked.made;
      over = looked.over;
    } in (
      calls_of (caller + 1) (drop (place + 1) commands),
      c.look-place.ensures.left ∙ calls_of-own (caller + 1) place commands none within own,
      playing_of-taken commands before after caller place (place + 1) below
          (ap (λ next. slice_set next caller (place + 1)) c.look-place.ensures.next) c.look-place.ensures.left
          c.look-place.ensures.state c.look-place.ensures.made c.look-place.ensures.over,
    )

pub returns-clause-can : goal.returns-clause-can
returns-clause-can g c =
    let looked = c.look-place.new.self in
    let place = c.look-place.result in
    let after : Player g.row.M.Denot = record {
      state = looked.state;
      next = with_item looked.next c.args.caller (place + 1);
      made = looked.made;
      over = looked.over;
    } in
    CanPlay-stays c.args.self.now after c.requires.can
    (length-set looked.next.items c.args.caller (place + 1) ∙ ap length c.look-place.ensures.next
    ∙ length-set c.args.self.now.next.items c.args.caller place)
    (ap (λ (k : Core g.row.M.Denot). k.env) c.look-place.ensures.state)
