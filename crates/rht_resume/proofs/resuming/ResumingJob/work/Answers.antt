use Rattle.std.proofs.Common.{◌≡◌, ℕ, true, ◌+◌, ◌<◌, length, take, get_or, sym, ◌∙◌, ap, subst, arith}
use Rattle.rht_words.specs.declared.config.Config.{Config}
use Rattle.rht_run.proofs.ServedWorkers.{new-below}
use Rattle.rht_resume.specs.declared.resume.ResumeCall.{ResumeCall}
use Rattle.rht_resume.specs.Answers.{commands_of}
use Rattle.rht_resume.specs.Scripts.{is_sound_ask}
use Rattle.rht_resume.proofs.SoundScripts.{sound-at}
use Rattle.rht_resume.proofs.WorkedCommands.{IsWorking-none, IsWorking-own, IsWorking-other, IsWorking-same}
use Rattle.rht_resume.proofs.resuming.ResumingJob.work.Goals.{then-command-name+in_ok-serve, else-command-name}
use Rattle.rht_resume.proofs.resuming.ResumingJob.work.Goals as goal

pub overflow_add-name : goal.overflow_add-name
overflow_add-name g c =
    let few = new-below g.M.Mix.mix_of c.args.table.now c.args.number c.args.pass c.requires.new in
    omega (arith, few)

pub loop-command-init : goal.loop-command-init
loop-command-init g c =
    let worker = c.in_ok-worker.worker in
    let script = c.args.self.now.script.now in
    record {
      working =
          IsWorking-none g.M.Mix.mix_of c.args.table.now script.auto c.args.number c.args.pass worker script.config.nodes c.requires.new
          c.in_ok-worker.ensures.pass c.in_ok-worker.ensures.resumed c.in_ok-worker.ensures.replies
          (sym (ap (λ (config : Config). config.nodes) c.requires.can.config_same));
      items = c.deref-command-items.ensures.value;
      few = omega arith;
    }

pub serve-requires-clause-pass : goal.serve-requires-clause-pass
serve-requires-clause-pass g c = c.loop-command.invariant.working.done.served.pass_of

pub serve-requires-clause-idle : goal.serve-requires-clause-idle
serve-requires-clause-idle g c = c.loop-command.invariant.working.done.served.idle

pub serve-requires-clause-nodes : goal.serve-requires-clause-nodes
serve-requires-clause-nodes g c = c.loop-command.invariant.working.nodes

pub serve-requires-clause-sound : goal.serve-requires-clause-sound
serve-requires-clause-sound g c =
    let script = c.args.self.now.script.now in
    let items = c.deref-command-items.result.now in
    let i = c.loop-command.command-index in
    let here = c.command-item.result in
    let all = c.loop-command.invariant.items in
    let within : i < length script.commands.items = omega (arith, ap length all) in
    let at : here ≡ get_or script.commands.items i here = c.command-item.is ∙ ap (λ l. get_or l i here) all in
    subst (λ (config : Config). is_sound_ask config here.1 ≡ true) (sym c.requires.can.config_same)
    (subst (λ (command : ℕ × ResumeCall). is_sound_ask script.config command.1 ≡ true) (sym at)
    (sound-at script.config script.commands.items i here c.requires.can.sound.commands within))

pub loop-command-preserved : goal.loop-command-preserved
loop-command-preserved g c =
    let mix = g.M.Mix.mix_of in
    let table = c.args.table.now in
    let auto = c.args.self.now.script.now.auto in
    let number = c.args.number in
    let items = c.deref-command-items.result.now in
    let i = c.loop-command.command-index in
    let before = c.loop-command.invariant in
    let few = before.few in
    let within : i < length items = omega arith in
    let here = c.command-item.result in
    let worker = c.if-command-name.worker in
    let asked = commands_of (number + 1) (take (i + 1) items) in
    elim c.if-command-name.branch [
      | then-command-name+in_ok-serve w ↦
          let own : here.0 ≡ number + 1 = omega (arith, w.if-command-name.true) in
          let index_is = w.index-is in
          record {
            working =
                IsWorking-same mix table auto number asked w.serve.new.self worker w.worker-is
                (IsWorking-own mix table auto number items i here c.command-item.is within c.loop-command.worker w.serve.new.self own
                before.working w.in_ok-serve.ensures);
            items = before.items;
            few = omega (arith, few, index_is);
          }
      | else-command-name w ↦
          let other = w.if-command-name.false in
          let index_is = w.index-is in
          record {
            working =
                IsWorking-same mix table auto number asked c.loop-command.worker worker w.worker-is
                (IsWorking-other mix table auto number items i here c.command-item.is within c.loop-command.worker
                (λ same. absurd (omega (arith, same, other))) before.working);
            items = before.items;
            few = omega (arith, few, index_is);
          }
    ]
