use Rattle.std.proofs.Common.{◌≡◌, ℕ, ◌++◌, ◌%◌, ◌==◌, subst, arith}
use Rattle.std.specs.List.{flat_map, range_with_len}
use Rattle.rht_script.specs.Generated.{round_commands, round_port, worker_commands}
use Rattle.rht_script.proofs.GeneratedCommands.{added_more}
use Rattle.rht_script.proofs.generator.add_worker.Goals as goal

pub loop-round-preserved : goal.loop-round-preserved
loop-round-preserved c =
    let worker = c.args.worker in
    let round = c.loop-round.round in
    added_more (λ r. round_commands worker (round_port c.args.offset worker r) (r % 2 == 0)) 0 round round
    c.args.commands.now.items c.loop-round.commands.items c.add_round.new.commands.items (omega arith)
    c.loop-round.invariant c.in_ok-add_round.ensures

pub returns : goal.returns
unfolding worker_commands
returns c =
    let worker = c.args.worker in
    let rounds = λ (r : ℕ). round_commands worker (round_port c.args.offset worker r) (r % 2 == 0) in
    let all : c.loop-round.round ≡ 500 = omega arith in
    subst (λ n. c.loop-round.commands.items ≡ c.args.commands.now.items ++ flat_map rounds (range_with_len 0 n))
    all c.loop-round.invariant
