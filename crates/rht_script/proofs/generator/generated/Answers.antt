use Rattle.std.proofs.Common.{◌≡◌, ◌+◌, ◌%◌, [], refl, sym, subst, arith}
use Rattle.std.specs.List.{flat_map, range_with_len}
use Rattle.rht_script.specs.Generated.{worker_commands, generated_commands}
use Rattle.rht_script.specs.Plain.{IsSayable}
use Rattle.rht_script.proofs.GeneratedCommands.{added_more, generated_sayable}
use Rattle.rht_script.proofs.SayableScripts.{IsSoundScript-sayable}
use Rattle.rht_script.proofs.generator.generated.Goals as goal

pub loop-i-preserved : goal.loop-i-preserved
loop-i-preserved c =
    added_more (worker_commands (c.args.number % 1000)) 1 c.loop-i.i (c.loop-i.i + 1) []
    c.loop-i.commands.items c.add_worker.new.commands.items (omega arith) c.loop-i.invariant
    c.in_ok-add_worker.ensures

pub returns-clause-script : goal.returns-clause-script
unfolding generated_commands
returns-clause-script c =
    let all : c.loop-i.i ≡ 8 = omega arith in
    let commands : c.loop-i.commands.items ≡ flat_map (worker_commands (c.args.number % 1000)) (range_with_len 1 8) =
    subst (λ n. c.loop-i.commands.items ≡ flat_map (worker_commands (c.args.number % 1000)) (range_with_len 1 n))
    all c.loop-i.invariant in
    rw (c.config.ensures, commands, c.new.ensures.items) refl

pub returns-clause-sound : goal.returns-clause-sound
returns-clause-sound c =
    IsSoundScript-sayable _ (subst IsSayable (sym (returns-clause-script c))
    (generated_sayable c.args.number (omega (arith, c.ranges.number.fits))))
